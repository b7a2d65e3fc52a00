use Rattle.std.proofs.Common.{ℕ, sym, ap, ◌∙◌}
use Rattle.rcp_model.specs.Attributes.{number_width}
use Rattle.rcp_model.specs.Routes.{route_of}
use Rattle.session_core.specs.Shown.{doing_of}
use Rattle.session_core.proofs.UpdateLemmas.{told-besides, told-both, told-first}
use Rattle.session_core.proofs.events.tell_changes.Goals as goal

pub returns-in_ok-tell_announced : goal.returns-in_ok-tell_announced
returns-in_ok-tell_announced c =
    let says = c.requires.says in
    told-besides (doing_of c.args.actions.now) _ _
    (told-both c.args.body.now _ _ _ says.sections c.args.roster.now.as_number _ (c.in_ok-route.ensures ∙ ap (λ (n : ℕ). route_of number_width n c.args.update.now.attrs) c.as_number.ensures.value ∙ says.same_route c.args.roster.now.as_number) _ _ _
    c.in_ok-tell_withdrawn.ensures c.in_ok-tell_announced.ensures)

pub returns-else-not-is_empty : goal.returns-else-not-is_empty
returns-else-not-is_empty c =
    let says = c.requires.says in
    told-besides (doing_of c.args.actions.now) _ _
    (told-first c.args.body.now _ _ _ says.sections c.args.roster.now.as_number (sym c.is_empty.ensures ∙ c.if-not-is_empty.false) _ _ c.in_ok-tell_withdrawn.ensures)
