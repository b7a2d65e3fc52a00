-- What a walk answers.
use Rattle.std.proofs.Common.{◌≡◌, ◌≢◌, ℕ, ◌+◌, ◌<◌, ◌≤◌, true, List, length, Contains, AllPairs, Option, Some, IsSome, is_some, sym, ap, subst, ◌∙◌, arith}
use Rattle.std.proofs.lemmas.Option.{same_Some, none-some}
use Rattle.std.proofs.lemmas.List.Kept.{AllPairs-cons}
use Rattle.rcp_base.specs.declared.names.Edge.{Edge}
use Rattle.rcp_model.specs.Costs.{IsTwoWay, cost, is_reached}
use Rattle.rcp_model.specs.Decision.{Contender, choice}
use Rattle.rcp_model.specs.RouteServer.{Domain, Announced, router_at, slot_cost, candidates, choice_of, unless_own, offer}
use Rattle.rcp_model.proofs.FilterLemmas.{member_of_tied, choice_is_tied}
use Rattle.rcp_model.proofs.CandidateLemmas.{candidate_is, choice_of_none}
use Rattle.rcp_model.proofs.GraphLemmas.{All-from_members, apart_within}
use Rattle.cost_rows.proofs.ReachLemmas.{router_within}
use Rattle.hop_walk.specs.Hops.{HopLaw, IsPath, arrived, onward, IsFree, IsLeastFree, ArePositive, HasPartition}
use Rattle.hop_walk.specs.Ways.{IsFreeTo, IsLeastFreeTo}
use Rattle.hop_walk.proofs.WayLemmas.{parts_of, path-way, reach-same, reach-turned}
use Rattle.hop_walk.proofs.LawLemmas.{law, slot_cost-is, slot_cost-seat}
use Rattle.hop_walk.proofs.StepLemmas.{next_smaller}

-- ---- the hop law

offer-chosen : (domain : Domain) (announced : Announced) (edges : List Edge) (slot egress : ℕ) → choice_of domain announced edges slot ≡ Some egress
    → offer domain announced edges slot ≡ unless_own slot announced (Some egress)
unfolding offer
offer-chosen domain announced edges slot egress chosen = ap (unless_own slot announced) chosen

pub hop_law : HopLaw
hop_law domain edges connected announced given pending p assigned router slot egress has positive end w other seat way at =
    let chosen = law domain (announced p) edges assigned.two_way slot other router w has.connected.seat at.seat assigned.members.routers assigned.members.identifiers positive egress end has.chooses seat
    (parts_of edges router w end way) in
    record {
      chooses = chosen;
      has = assigned.settled other p at.session has.settled ∙ offer-chosen domain (announced p) edges other egress chosen;
    }

-- ---- the egress

pub chosen_is : (domain : Domain) (announced : Announced) (edges : List Edge) (slot : ℕ) (list : List Contender) (found : Option ℕ) → list ≡ candidates domain announced edges slot
    → found ≡ choice slot (slot_cost edges domain.members slot) list → choice_of domain announced edges slot ≡ found
unfolding choice_of
chosen_is domain announced edges slot list found list_is found_is = sym (found_is ∙ ap (choice slot (slot_cost edges domain.members slot)) list_is)

egress_some : (domain : Domain) (announced : Announced) (edges : List Edge) (slot egress : ℕ) → choice_of domain announced edges slot ≡ Some egress → IsSome (slot_cost edges domain.members slot egress)
unfolding choice_of
egress_some domain announced edges slot egress chosen =
    let list = candidates domain announced edges slot in
    let best = choice_is_tied slot (slot_cost edges domain.members slot) list (λ empty. none-some _ (sym (sym chosen ∙ (choice_of_none domain announced edges slot).1 empty))) in
    let is_best : best.0.slot ≡ egress = same_Some _ _ (sym best.2 ∙ chosen) in
    subst (λ e. IsSome (slot_cost edges domain.members slot e)) is_best ((candidate_is domain announced edges slot best.0).0 (member_of_tied list best.0 best.1).0).reached

pub egress_within : (domain : Domain) (announced : Announced) (edges : List Edge) (slot egress : ℕ) → choice_of domain announced edges slot ≡ Some egress → egress < length domain.members
egress_within domain announced edges slot egress chosen =
    let seat = slot_cost-seat edges domain.members slot egress (egress_some domain announced edges slot egress chosen) in
    router_within domain.members egress seat.0 seat.1

pub egress_reached : (domain : Domain) (announced : Announced) (edges : List Edge) (slot egress u v : ℕ) → choice_of domain announced edges slot ≡ Some egress → router_at domain.members slot ≡ Some u
    → router_at domain.members egress ≡ Some v → IsSome (cost edges u v)
egress_reached domain announced edges slot egress u v chosen at_slot at_egress =
    rw (slot_cost-is edges domain.members slot egress u v at_slot at_egress) at (egress_some domain announced edges slot egress chosen)

-- ---- edges of cost 0 in the partition are those from which the egress is reached

reach-to : (edges : List Edge) → IsTwoWay edges → (u v : ℕ) → is_reached edges u v ≡ true → (x : ℕ) → is_reached edges u x ≡ is_reached edges x v
reach-to edges both u v reached x = reach-same edges both u v reached x ∙ reach-turned edges both v x

free-to : (edges : List Edge) → IsTwoWay edges → (u v : ℕ) → is_reached edges u v ≡ true → (edge : Edge) → IsFree edges u edge → IsFreeTo edges v edge
free-to edges both u v reached edge is = record { there = is.there; begins = sym (reach-to edges both u v reached edge.from) ∙ is.begins; free = is.free }

pub positive_from : (edges : List Edge) → IsTwoWay edges → (u v : ℕ) → is_reached edges u v ≡ true → ((edge : Edge) → IsFreeTo edges v edge → ⊥) → ArePositive edges u
positive_from edges both u v reached none edge is = none edge (free-to edges both u v reached edge is)

pub least_from : (edges : List Edge) → IsTwoWay edges → (u v : ℕ) → is_reached edges u v ≡ true → (e : Edge) → IsLeastFreeTo edges v e
    → IsLeastFree edges u (record { from = e.from; to = e.to; cost = 0 })
least_from edges both u v reached e least =
    let same : e ≡ record { from = e.from; to = e.to; cost = 0 } = ap (λ n. record { from = e.from; to = e.to; cost = n }) least.among.free in
    subst (IsLeastFree edges u) same (record {
      among = record { there = least.among.there; begins = reach-to edges both u v reached e.from ∙ least.among.begins; free = least.among.free };
      least = λ other is. least.least other (free-to edges both u v reached other is);
    })

-- ---- a path has each router once

path-apart : (edges : List Edge) (v : ℕ) {u : ℕ} {path : List ℕ} → ((edge : Edge) → IsFreeTo edges v edge → ⊥) → IsPath edges v u path → AllPairs (λ a b. a ≢ b) path
path-apart edges v positive arrived = λ i j d less within. absurd (omega arith)
path-apart edges v positive (onward u next routers least path) =
    AllPairs-cons (λ a b. a ≢ b) u routers (All-from_members (λ w. u ≢ w) routers other) (path-apart edges v positive path) where
      other : (w : ℕ) → Contains routers w → u ≢ w
      other w member same =
          let parts = parts_of edges next w v (path-way edges v path w member) in
          let smaller = next_smaller edges u next v positive least.next in
          let less : parts.m + parts.n < parts.n = rw (parts.whole, ap (λ x. cost edges x v) same ∙ parts.second) at smaller in
          absurd (omega (arith, less))

pub path-few : (edges : List Edge) (u v : ℕ) (path : List ℕ) → ((edge : Edge) → IsFreeTo edges v edge → ⊥) → IsPath edges v u path → (routers : List ℕ) → HasPartition edges u routers → length path ≤ length routers
path-few edges u v path positive is routers has =
    apart_within path routers (path-apart edges v positive is) (λ w member. has w (ap is_some (parts_of edges u w v (path-way edges v is w member)).first))
