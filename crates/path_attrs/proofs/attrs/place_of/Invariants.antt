use Rattle.std.proofs.Common.{◌≡◌, ◌++◌, take, drop}
use Rattle.rcp_model.specs.Attributes.{Attribute, insert_by_type}
use Rattle.path_attrs.specs.Shown.{all_shown}
use Rattle.path_attrs.proofs.attrs.place_of.Given as goal

abbrev pub invariant-loop-place : goal.invariant-loop-place
invariant-loop-place l = (a : Attribute) → a.kind ≡ l.kind
    → insert_by_type a (all_shown l.values) ≡ take l.place (all_shown l.values) ++ insert_by_type a (drop l.place (all_shown l.values))
