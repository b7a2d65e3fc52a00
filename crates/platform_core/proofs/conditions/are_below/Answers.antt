use Rattle.std.proofs.Common.{◌≡◌, ◌<◌, true, sym, ap, subst, ◌∙◌}
use Rattle.std.specs.List.{AllByRecursion, list_all}
use Rattle.platform_core.specs.Open.{OpenOf, sessions_in}
use Rattle.platform_core.proofs.ConditionLemmas.{is_below, below_all, all_below}
use Rattle.platform_core.proofs.conditions.are_below.Goals as goal

pub returns-clause-below : goal.returns-clause-below
returns-clause-below c = λ e.
    let cs = c.connections.inside.connections.items in
    let test : list_all (is_below c.args.number) cs ≡ true = ap (list_all (is_below c.args.number)) (sym c.deref.ensures.value) ∙ sym c.all_below.ensures ∙ e in
    subst (λ (o : OpenOf). AllByRecursion (λ entry. entry.0 < c.args.number) o.sessions) c.connections.view_is (below_all c.args.number cs test)

pub returns-clause-exact : goal.returns-clause-exact
returns-clause-exact c = λ below.
    let cs = c.connections.inside.connections.items in
    let here : AllByRecursion (λ entry. entry.0 < c.args.number) (sessions_in cs) =
    subst (λ (o : OpenOf). AllByRecursion (λ entry. entry.0 < c.args.number) o.sessions) (sym c.connections.view_is) below in
    c.all_below.ensures ∙ ap (list_all (is_below c.args.number)) c.deref.ensures.value ∙ all_below c.args.number cs here
