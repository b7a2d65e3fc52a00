-- What is done, and the course of what is left, is what was done in the beginning and the course of all.
use Rattle.std.proofs.Common.{◌≡◌, ◌+◌, ◌-◌, ◌≤◌, length, drop}
use Rattle.session_core.specs.Counts.{handled_in}
use Rattle.session_core.specs.Shown.{phase_of}
use Rattle.session_core.proofs.RunLemmas.{going}
use Rattle.session_core.proofs.reading.read_on.Given as goal

abbrev pub invariant-loop-reading : goal.invariant-loop-reading
invariant-loop-reading l = record {
  within : l.taken ≤ length l.octets;
  same : going l.roster l.now l.actions (drop l.taken l.octets) l.state ≡ going l.roster l.now l.initial.actions l.octets l.initial.state;
  counted : l.handled + handled_in l.roster l.now (drop l.taken l.octets) (phase_of l.state) ≡ handled_in l.roster l.now l.octets (phase_of l.initial.state);
  few : l.handled ≤ l.taken;
}

abbrev pub decreases-loop-reading : goal.decreases-loop-reading
decreases-loop-reading l = length l.octets - l.taken
