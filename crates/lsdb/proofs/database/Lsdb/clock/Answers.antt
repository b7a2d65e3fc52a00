use Rattle.std.proofs.Common.{◌≡◌, filter, nat_lt, sym, subst, rules, arith}
use Rattle.std.proofs.lemmas.Bool.{ltb-true, lt-ltb}
use Rattle.std.proofs.lemmas.Map.Made.{filter_same_pairs}
use Rattle.rcp_model.specs.LinkState.{header_at}
use Rattle.lsdb.specs.Databases.{Database, Holds}
use Rattle.lsdb.proofs.Installing.{holds-aged, went-aged, kept-aged}
use Rattle.lsdb.proofs.database.Lsdb.clock.Goals as goal

left : (c : goal.After-len) → c.retain.new.self.entries ≡ filter (λ entry. nat_lt (header_at c.args.now entry.1).age 3600) c.self.inside.routers.entries
left c = filter_same_pairs _ (λ entry. nat_lt (header_at c.args.now entry.1).age 3600) _ (λ k v b w f' t. search rules) _ _ c.retain.ensures.filtered

pub invariant_of-self : goal.invariant_of-self
invariant_of-self c = kept-aged c.args.now c.self.inside.routers.entries c.retain.new.self.entries c.self.invariant (left c) c.retain.ensures.ordered c.retain.ensures.bound

pub returns-clause-after : goal.returns-clause-after
returns-clause-after c state holds =
    holds-aged c.args.now c.self.inside.routers.entries c.retain.new.self.entries c.self.invariant (left c) state (subst (λ (d : Database). Holds d.state state) (sym c.self.view_is) holds)

pub returns-clause-went : goal.returns-clause-went
returns-clause-went c state holds =
    let went = went-aged c.args.now c.self.inside.routers.entries c.retain.new.self.entries c.self.invariant (left c) state (subst (λ (d : Database). Holds d.state state) (sym c.self.view_is) holds) in (
      λ test. went.0 (omega (arith, c.len.ensures.len, c.len-before.ensures.len, ltb-true c.len.result c.len-before.result test)),
      λ other. let less = went.1 other in lt-ltb c.len.result c.len-before.result (omega (arith, c.len.ensures.len, c.len-before.ensures.len, less)),
    )
