-- The turns so far were carried out.
use Rattle.std.proofs.Common.{◌≡◌, ◌++◌}
use Rattle.std.specs.List.{flat_map}
use Rattle.platform_laws.specs.Parts.{shards_after_all}
use Rattle.platform_core.specs.Following.{Keeps}
use Rattle.platform_core.specs.Turns.{events_in, output_in}
use Rattle.platform_core.proofs.carrying.carry_out_all.Given as goal

abbrev pub invariant-loop-turn : goal.invariant-loop-turn
invariant-loop-turn l = record {
  shards : l.shards.shards ≡ shards_after_all l.initial.shards.roster (flat_map events_in l.yielded) l.initial.shards.shards;
  output : l.out ≡ l.initial.out ++ flat_map output_in l.yielded;
  kept : Keeps l.initial.shards l.shards;
}
