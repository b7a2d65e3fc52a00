use Rattle.std.proofs.Common.{◌++◌, ◌∙◌, Contains, ap, subst, sym}
use Rattle.std.proofs.lemmas.List.Elements.{Contains-append_right}
use Rattle.cost_rows.specs.Search.{ends_of}
use Rattle.cost_rows.proofs.EndLemmas.{names_are}
use Rattle.cost_rows.proofs.names.names_of.Goals as goal

pub returns-clause-names : goal.returns-clause-names
returns-clause-names c =
    let all = c.in_ok-extend_from_slice.ensures.items ∙ ap (λ xs. xs ++ c.args.more.now) (c.in_ok-names.ensures ∙ ap ends_of c.edges.ensures.edges) in
    names_are c.args.graph.now c.args.more.now c.sort.new.names.items c.edges.ensures.kept c.requires c.sort.ensures.rising
    (λ n member. c.sort.ensures.kept n (subst (λ xs. Contains xs n) (sym all) member))
    (λ n member. subst (λ xs. Contains xs n) all (c.sort.ensures.no_other n member))

pub returns-clause-more : goal.returns-clause-more
returns-clause-more c = λ router member.
    c.sort.ensures.kept router (subst (λ xs. Contains xs router) (sym c.in_ok-extend_from_slice.ensures.items) (Contains-append_right c.in_ok-names.names.items c.args.more.now router member))
