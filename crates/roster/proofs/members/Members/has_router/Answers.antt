use Rattle.std.proofs.Common.{ap, ◌∙◌, refl}
use Rattle.rcp_base.specs.Roster.{has_router}
use Rattle.roster.proofs.EntryLemmas.{router-found}
use Rattle.roster.proofs.members.Members.has_router.Goals as goal

pub returns : goal.returns
returns c =
    c.contains_key.ensures ∙ router-found _ (λ a b. refl) c.args.router c.self.inside.identifiers.entries
    ∙ ap (λ members. has_router members c.args.router) c.self.view_is
