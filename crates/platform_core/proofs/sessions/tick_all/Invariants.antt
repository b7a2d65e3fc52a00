-- The sessions so far had the time, and their turns are taken.
use Rattle.std.proofs.Common.{◌≡◌, length, vec_len}
use Rattle.rcp_base.specs.Roster.{RosterOf}
use Rattle.platform_core.specs.Open.{sessions_in, AreOpen}
use Rattle.platform_core.proofs.TickLemmas.{Ticking}
use Rattle.platform_core.proofs.sessions.tick_all.Given as goal

abbrev pub invariant-loop-place : goal.invariant-loop-place
invariant-loop-place l = record {
  count : vec_len l.connections ≡ l.place-end;
  opened : AreOpen l.connections.items l.held.items;
  members : length l.held.items ≡ length l.initial.held.items;
  ticking : (roster : RosterOf) → length l.initial.held.items ≡ length roster.members → Ticking roster l.time l.place (sessions_in l.initial.connections.items) l.connections.items l.turns.items;
}
