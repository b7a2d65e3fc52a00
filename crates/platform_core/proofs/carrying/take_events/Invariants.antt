-- The shards learned of what was said so far.
use Rattle.std.proofs.Common.{◌≡◌, map}
use Rattle.session_core.specs.Shown.{event_of}
use Rattle.platform_laws.specs.Parts.{shards_after_all}
use Rattle.platform_laws.specs.Turns.{shard_event}
use Rattle.platform_core.specs.Following.{Keeps}
use Rattle.platform_core.proofs.carrying.take_events.Given as goal

abbrev pub invariant-loop-event : goal.invariant-loop-event
invariant-loop-event l = record {
  shards : l.shards.shards ≡ shards_after_all l.initial.shards.roster (map (λ event. shard_event l.slot (event_of event)) l.yielded) l.initial.shards.shards;
  kept : Keeps l.initial.shards l.shards;
}
