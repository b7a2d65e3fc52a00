use Rattle.std.proofs.Common.{◌∙◌, ap, eqb, map}
use Rattle.rcp_base.specs.declared.names.Edge.{Edge}
use Rattle.std.specs.List.{dedup}
use Rattle.std.proofs.lemmas.List.Filters.{dedup_is}
use Rattle.std.proofs.lemmas.Map.Keys.{IsStrictlyIncreasing-dedup}
use Rattle.replica_law.proofs.RankLemmas.{starts_sorted, starts_exact}
use Rattle.replica_law.proofs.partitions.beginnings.Goals as goal

pub returns-clause-rising : goal.returns-clause-rising
returns-clause-rising c =
    rw (dedup_is eqb c.in_ok-names.names.items c.dedup.new.self.items c.dedup.ensures.filtered, c.in_ok-names.ensures, c.edges.ensures.edges)
    (IsStrictlyIncreasing-dedup _ (starts_sorted c.args.graph.now c.edges.ensures.kept.rising))

pub returns-clause-exact : goal.returns-clause-exact
returns-clause-exact c =
    starts_exact c.args.graph.now c.dedup.new.self.items
    (dedup_is eqb c.in_ok-names.names.items c.dedup.new.self.items c.dedup.ensures.filtered ∙ ap (dedup eqb) (c.in_ok-names.ensures ∙ ap (map (λ (edge : Edge). edge.from)) c.edges.ensures.edges))
