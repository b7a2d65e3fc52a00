use Rattle.std.proofs.Common.{eqb, List, position, ap, ◌∙◌, refl}
use Rattle.rcp_base.specs.declared.names.Member.{Member}
use Rattle.roster.proofs.EntryLemmas.{router-place}
use Rattle.roster.proofs.members.Members.slot_of.Goals as goal

pub returns-in-Some : goal.returns-in-Some
returns-in-Some c = record {
  place =
      c.in-Some.ensures.index ∙ router-place _ (λ a b. refl) c.args.router c.self.inside.identifiers.entries
      ∙ ap (λ (members : List Member). position (λ m. eqb m.router c.args.router) members) c.self.view_is;
}

pub returns-in-None : goal.returns-in-None
returns-in-None c = record {
  place =
      c.in-None.ensures.index ∙ router-place _ (λ a b. refl) c.args.router c.self.inside.identifiers.entries
      ∙ ap (λ (members : List Member). position (λ m. eqb m.router c.args.router) members) c.self.view_is;
}
