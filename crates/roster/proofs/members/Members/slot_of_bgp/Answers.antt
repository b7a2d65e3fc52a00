use Rattle.std.proofs.Common.{ℕ, eqb, List, position, ap, ◌∙◌, refl}
use Rattle.rcp_base.specs.declared.names.Member.{Member}
use Rattle.roster.proofs.EntryLemmas.{identifier-place}
use Rattle.roster.proofs.members.Members.slot_of_bgp.Goals as goal

pub returns-in-Some : goal.returns-in-Some
returns-in-Some c = record {
  place =
      c.in-Some.ensures.index ∙ ap (λ (ids : List ℕ). position (eqb c.args.id) ids) c.self.invariant.0
      ∙ identifier-place _ (λ a b. refl) c.args.id c.self.inside.identifiers.entries
      ∙ ap (λ (members : List Member). position (λ m. eqb m.bgp_id c.args.id) members) c.self.view_is;
}

pub returns-in-None : goal.returns-in-None
returns-in-None c = record {
  place =
      c.in-None.ensures.index ∙ ap (λ (ids : List ℕ). position (eqb c.args.id) ids) c.self.invariant.0
      ∙ identifier-place _ (λ a b. refl) c.args.id c.self.inside.identifiers.entries
      ∙ ap (λ (members : List Member). position (λ m. eqb m.bgp_id c.args.id) members) c.self.view_is;
}
