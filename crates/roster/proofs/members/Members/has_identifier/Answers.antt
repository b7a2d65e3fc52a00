use Rattle.std.proofs.Common.{ℕ, eqb, List, ap, ◌∙◌, refl}
use Rattle.std.specs.List.{list_any}
use Rattle.rcp_base.specs.declared.names.Member.{Member}
use Rattle.rcp_base.specs.Roster.{has_identifier}
use Rattle.roster.proofs.EntryLemmas.{identifier-found}
use Rattle.roster.proofs.members.Members.has_identifier.Goals as goal

pub returns : goal.returns
returns c =
    c.contains.ensures ∙ ap (λ (ids : List ℕ). list_any (eqb c.args.id) ids) c.self.invariant.0
    ∙ identifier-found _ (λ a b. refl) c.args.id c.self.inside.identifiers.entries
    ∙ ap (λ (members : List Member). has_identifier members c.args.id) c.self.view_is
