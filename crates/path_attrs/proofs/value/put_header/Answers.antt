use Rattle.std.proofs.Common.{◌≡◌, false, leb, rules}
use Rattle.std.proofs.lemmas.Bool.{lt-leb}
use Rattle.path_attrs.proofs.value.put_header.Goals as goal

pub returns-else-len-le255-clause-appends : goal.returns-else-len-le255-clause-appends
returns-else-len-le255-clause-appends g c =
    let long : leb c.args.len 255 ≡ false = lt-leb _ _ c.if-len-le255.false in
    rw long (search rules)
