-- The text of answers: a line for each.
use Rattle.std.specs.Prelude.{ℕ, ◌+◌, ◌/◌, ◌%◌, Bool, true, false, List, [], ◌∷◌, ◌++◌, Option, Some, None, nat_lt, option_map, codes, if◌then◌else◌}
use Rattle.std.specs.Fmt.{decimal}
use Rattle.std.specs.List.{flat_map}
use Rattle.rcp_base.specs.Text.{address_text, prefix_text}
use Rattle.replica_law.specs.declared.difference.Difference.{Difference}
use Rattle.replica_law.specs.declared.difference.Difference.TheVariants.{As, Member as MemberOf, Identity, LinkCost, RouteOf}
use Rattle.replica_law.specs.declared.difference.PartitionAnswer.{PartitionAnswer}

-- the octets of a space and of the end of a line
abbrev pub space : ℕ
space = 32

abbrev pub line_end : ℕ
line_end = 10

-- a digit of base 16, in lower case
abbrev pub hex_digit : ℕ → ℕ
hex_digit n = if nat_lt n 10 then 48 + n else 87 + n

abbrev pub hex_of : ℕ → List ℕ
hex_of octet = hex_digit (octet / 16) ∷ hex_digit (octet % 16) ∷ []

abbrev pub hex_text : List ℕ → List ℕ
hex_text octets = flat_map hex_of octets

abbrev pub yes_or_no : Bool → List ℕ
yes_or_no true = codes "yes"
yes_or_no false = codes "no"

-- a text, or `none`
abbrev pub or_none : Option (List ℕ) → List ℕ
or_none None = codes "none"
or_none (Some text) = text

-- words, each after a space
abbrev pub words : List (List ℕ) → List ℕ
words texts = flat_map (λ text. space ∷ text) texts

-- what comes after `differs`: the kind, its place and the two values
abbrev pub difference_words : Difference → List (List ℕ)
difference_words (As a b) = codes "as" ∷ decimal a ∷ decimal b ∷ []
difference_words (MemberOf u a b) = codes "member" ∷ address_text u ∷ yes_or_no a ∷ yes_or_no b ∷ []
difference_words (Identity u a b) = codes "identity" ∷ address_text u ∷ or_none (option_map address_text a) ∷ or_none (option_map address_text b) ∷ []
difference_words (LinkCost u v a b) = codes "link" ∷ address_text u ∷ address_text v ∷ or_none (option_map decimal a) ∷ or_none (option_map decimal b) ∷ []
difference_words (RouteOf u p a b) = codes "route" ∷ address_text u ∷ prefix_text p ∷ or_none (option_map hex_text a) ∷ or_none (option_map hex_text b) ∷ []

abbrev pub outcome_words : Option Difference → List (List ℕ)
outcome_words None = codes "same" ∷ []
outcome_words (Some d) = codes "differs" ∷ difference_words d

-- `partition`, the least router, and `same` or the difference
abbrev pub answer_line : PartitionAnswer → List ℕ
answer_line answer = codes "partition" ++ words (address_text answer.least ∷ outcome_words answer.difference) ++ line_end ∷ []

abbrev pub answers_text : List PartitionAnswer → List ℕ
answers_text answers = flat_map answer_line answers
