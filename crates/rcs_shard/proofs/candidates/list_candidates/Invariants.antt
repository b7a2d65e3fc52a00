use Rattle.std.proofs.Common.{◌≡◌, ◌≤◌, length, take}
use Rattle.rcs_shard.proofs.ContenderLemmas.{Listed, Rises}
use Rattle.rcs_shard.proofs.candidates.list_candidates.Given as goal

abbrev pub invariant-loop-announcer : goal.invariant-loop-announcer
invariant-loop-announcer l = record {
  few : l.count ≤ l.announcer-index;
  room : l.count ≤ length l.list;
  list_is : length l.list ≡ length l.view.members;
  from_is : length l.from ≡ length l.view.members;
  rises : Rises l.announcer-items l.announcer-index (take l.count l.list);
  listed : Listed l.ribs l.view l.fn.p l.slot (take l.announcer-index l.announcer-items) (take l.count l.list) l.from;
}
