-- A prefix is in the set or in the rest exactly where it is in the section.
use Rattle.std.proofs.Common.{◌≡◌, ◌-◌, ◌≤◌, ◌||◌, length, drop, None}
use Rattle.std.specs.BTreeSet as tree_set
use Rattle.rcp_base.specs.IpPrefix.{IpPrefix, prefix_cmp}
use Rattle.rcp_base.specs.Maps.{is_among}
use Rattle.rcp_model.specs.Updates.{prefixes_in, prefixes_fault}
use Rattle.session_core.proofs.events.prefixes_of.Given as goal

abbrev pub invariant-loop-prefix : goal.invariant-loop-prefix
invariant-loop-prefix l = record {
  within : l.place ≤ length l.section;
  faultless : prefixes_fault (drop l.place l.section) ≡ None;
  among : (q : IpPrefix) → (tree_set.contains prefix_cmp l.prefixes q || is_among (prefixes_in (drop l.place l.section)) q) ≡ is_among (prefixes_in l.section) q;
}

abbrev pub decreases-loop-prefix : goal.decreases-loop-prefix
decreases-loop-prefix l = length l.section - l.place
