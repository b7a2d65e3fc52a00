use Rattle.std.proofs.Common.{◌≡◌, ℕ, ◌&&◌, Option, slice_get, sym, subst, rules}
use Rattle.std.specs.Option.{option_map}
use Rattle.rcp_base.specs.IpPrefix.{IpPrefix}
use Rattle.out_table.specs.Tables.{IsLeast, is_after}
use Rattle.out_table.specs.Places.{is_listed, prefix_in, IsPassed}
use Rattle.out_table.proofs.LeastLemmas.{passed_least, first_of_all}
use Rattle.out_table.proofs.dirty.Dirty.next.Goals as goal
use Rattle.out_table.proofs.dirty.Dirty.next.Goals.{in-None, in-Some}

pub returns-clause-least : goal.returns-clause-least
returns-clause-least c =
    subst (λ (o : Option ℕ). IsLeast (λ q. is_after c.args.after q && is_listed q c.args.prefixes.now c.args.self.now.places) (option_map (prefix_in c.args.prefixes.now) o)) (sym c.nth.ensures)
    (elim c.match-after.branch [
      | in-None w ↦
          let zero : c.match-after.count ≡ 0 = search rules in
          subst (λ (n : ℕ). IsLeast (λ q. is_after c.args.after q && is_listed q c.args.prefixes.now c.args.self.now.places) (option_map (prefix_in c.args.prefixes.now) (slice_get c.args.self.now.places n))) (sym zero)
          (subst (λ (a : Option IpPrefix). IsLeast (λ q. is_after a q && is_listed q c.args.prefixes.now c.args.self.now.places) (option_map (prefix_in c.args.prefixes.now) (slice_get c.args.self.now.places 0))) (sym w.in-None.is)
          (first_of_all c.args.prefixes.now c.args.self.now.places c.requires.rising))
      | in-Some w ↦
          let passed : IsPassed w.in-Some.p c.args.prefixes.now c.args.self.now.places c.match-after.count = search rules in
          subst (λ (a : Option IpPrefix). IsLeast (λ q. is_after a q && is_listed q c.args.prefixes.now c.args.self.now.places) (option_map (prefix_in c.args.prefixes.now) (slice_get c.args.self.now.places c.match-after.count))) (sym w.in-Some.is)
          (passed_least w.in-Some.p c.args.prefixes.now c.args.self.now.places c.match-after.count c.requires.rising passed)
    ])
