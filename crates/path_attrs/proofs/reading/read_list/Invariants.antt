use Rattle.std.proofs.Common.{◌≡◌, ◌-◌, ◌≤◌, List, length}
use Rattle.rcp_model.specs.Attributes.{Attribute}
use Rattle.path_attrs.specs.Shown.{all_shown}
use Rattle.path_attrs.specs.Readings.{sent_on}
use Rattle.path_attrs.proofs.Judging.{IsReading}
use Rattle.path_attrs.proofs.reading.read_list.Given as goal

abbrev pub invariant-loop-place : goal.invariant-loop-place
invariant-loop-place l = (done : List Attribute) × IsReading l.body l.place l.seen done × (all_shown l.values.items ≡ sent_on done) × (length l.seen ≡ 256) × (l.place ≤ length l.body)

abbrev pub decreases-loop-place : goal.decreases-loop-place
decreases-loop-place l = length l.body - l.place
