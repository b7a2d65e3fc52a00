use Rattle.std.proofs.Common.{sym, arith}
use Rattle.replica_law.proofs.RankLemmas.{rank_found, least_found, least_none}
use Rattle.replica_law.proofs.partitions.Partitions.least.Goals as goal

pub index-requires : goal.index-requires
index-requires c =
    let within = rank_found c.self.inside.graph c.self.inside.names.items c.self.inside.ranks c.args.router c.in-Some.rank c.self.invariant.2 (sym c.in-Some.ensures) in
    omega (arith, within, c.self.inside.names.ok.0)

pub returns-in-Some-clause-least : goal.returns-in-Some-clause-least
returns-in-Some-clause-least c =
    rw (← c.self.view_is)
    (least_found c.self.inside.graph c.self.inside.names.items c.self.inside.ranks c.args.router c.in-Some.rank c.index.result.now c.self.invariant.2 (sym c.in-Some.ensures) c.index.ensures)

pub returns-in-Some-clause-two_way : goal.returns-in-Some-clause-two_way
returns-in-Some-clause-two_way c = rw (← c.self.view_is) c.self.invariant.0

pub returns-in-None-clause-least : goal.returns-in-None-clause-least
returns-in-None-clause-least c =
    rw (← c.self.view_is) (least_none c.self.inside.graph c.self.inside.names.items c.self.inside.ranks c.args.router c.self.invariant.2 c.self.invariant.1 (sym c.in-None.ensures))

pub returns-in-None-clause-two_way : goal.returns-in-None-clause-two_way
returns-in-None-clause-two_way c = rw (← c.self.view_is) c.self.invariant.0
