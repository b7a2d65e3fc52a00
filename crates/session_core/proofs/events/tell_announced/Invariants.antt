-- What was added and then the rest is what was there in the beginning and then all.
use Rattle.std.proofs.Common.{◌≡◌, ◌-◌, ◌≤◌, ◌++◌, length, drop, map, None}
use Rattle.rcp_model.specs.Sessions.{Announce}
use Rattle.rcp_model.specs.Updates.{prefixes_in, prefixes_fault}
use Rattle.session_core.specs.Shown.{event_of}
use Rattle.session_core.proofs.events.tell_announced.Given as goal

abbrev pub invariant-loop-prefix : goal.invariant-loop-prefix
invariant-loop-prefix l = record {
  within : l.place ≤ length l.section;
  faultless : prefixes_fault (drop l.place l.section) ≡ None;
  told : map event_of l.events.items ++ map (λ p. Announce p l.route) (prefixes_in (drop l.place l.section))
      ≡ map event_of l.initial.events.items ++ map (λ p. Announce p l.route) (prefixes_in l.section);
}

abbrev pub decreases-loop-prefix : goal.decreases-loop-prefix
decreases-loop-prefix l = length l.section - l.place
