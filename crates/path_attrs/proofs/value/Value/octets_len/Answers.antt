use Rattle.std.proofs.Common.{◌≡◌, ◌+◌, true, false, leb, length, refl, ◌∙◌, arith}
use Rattle.std.proofs.lemmas.Bool.{le-leb, lt-leb}
use Rattle.rcp_model.specs.Attributes.{attribute_octets}
use Rattle.path_attrs.specs.Shown.{shown}
use Rattle.path_attrs.proofs.Faultless.{attribute_long}
use Rattle.path_attrs.proofs.value.Value.octets_len.Goals as goal

pub returns-then-len-le255 : goal.returns-then-len-le255
returns-then-len-le255 c =
    let test : leb (length (shown c.args.self.now).value) 255 ≡ true = le-leb _ _ (omega (arith, c.value_len-len.ensures, c.if-len-le255.true)) in
    let long : length (attribute_octets (shown c.args.self.now)) ≡ 3 + length (shown c.args.self.now).value = attribute_long (shown c.args.self.now) ∙ rw test refl in
    omega (arith, long, c.value_len-len.ensures)

pub returns-else-len-le255 : goal.returns-else-len-le255
returns-else-len-le255 c =
    let test : leb (length (shown c.args.self.now).value) 255 ≡ false = lt-leb _ _ (omega (arith, c.value_len-len.ensures, c.if-len-le255.false)) in
    let long : length (attribute_octets (shown c.args.self.now)) ≡ 4 + length (shown c.args.self.now).value = attribute_long (shown c.args.self.now) ∙ rw test refl in
    omega (arith, long, c.value_len-len.ensures)
