use Rattle.std.proofs.Common.{◌≡◌, ◌∷◌, [], arith, rules}
use Rattle.roster.proofs.WordLemmas.{six_octets}
use Rattle.roster.proofs.lines.setting.Goals as goal

pub returns-in-shards : goal.returns-in-shards
returns-in-shards c =
    let is : c.args.word.now ≡ 115 ∷ 104 ∷ 97 ∷ 114 ∷ 100 ∷ 115 ∷ [] =
    six_octets c.args.word.now 115 104 97 114 100 115 (omega arith) (omega arith) (omega arith) (omega arith) (omega arith) (omega arith) (omega arith) in
    rw is (search rules)
