use Rattle.std.proofs.Common.{[], ℕ, false, sym, ap, subst, ◌∙◌}
use Rattle.rcs_shards.specs.Servers.{ServerOf}
use Rattle.platform_core.specs.Open.{OpenOf}
use Rattle.platform_core.specs.Following.{seen_of}
use Rattle.platform_core.specs.Joins.{IsJoined}
use Rattle.platform_core.proofs.NewLemmas.{joined_first, seen_first}
use Rattle.platform_core.proofs.platform.Platform.new.Goals as goal

pub invariant_of-result : goal.invariant_of-result
invariant_of-result c =
    let opened_is = c.in_ok-connections.ensures ∙ ap (λ (n : ℕ). let o : OpenOf = record { sessions = []; members = n; spent = false } in o) c.len.ensures.len in
    subst (λ (s : ServerOf). IsJoined false s c.in_ok-connections.connections 0 c.in_ok-links.links) (sym c.in_ok-new.ensures)
    (joined_first c.args.roster c.in_ok-view.view.value.edges c.in_ok-links.links c.in_ok-connections.connections c.in_ok-links.ensures c.in_ok-view.ensures.edges c.len.ensures.form.two_way
    c.in_ok-view.ensures.edges_are c.view.ensures.held opened_is)

pub returns : goal.returns
returns c =
    let opened_is = c.in_ok-connections.ensures ∙ ap (λ (n : ℕ). let o : OpenOf = record { sessions = []; members = n; spent = false } in o) c.len.ensures.len in
    let seen = ap (λ (s : ServerOf). seen_of s c.in_ok-connections.connections.sessions 0 c.in_ok-links.links 0) c.in_ok-new.ensures
    ∙ seen_first c.args.roster c.in_ok-view.view.value.edges c.in_ok-links.links c.in_ok-connections.connections c.in_ok-links.ensures c.in_ok-view.ensures.edges opened_is in
    λ i. record { seen = seen i; spent = false }
