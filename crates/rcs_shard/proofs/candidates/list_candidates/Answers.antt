use Rattle.std.proofs.Common.{◌≡◌, ℕ, ◌+◌, ◌<◌, ◌≤◌, ◌++◌, ◌∷◌, [], ◌&&◌, Some, is_some, length, take, refl, sym, ap, subst, ◌∙◌, arith}
use Rattle.std.specs.Prelude.{Contains}
use Rattle.std.proofs.Math.ListN.{set, length-set}
use Rattle.std.proofs.lemmas.List.{take_more, take_more_set, take_all}
use Rattle.std.proofs.lemmas.List.Elements.{Contains-get_or}
use Rattle.rcp_model.specs.Decision.{Contender, contender}
use Rattle.rcp_model.proofs.GraphLemmas.{All-from_members}
use Rattle.rcp_model.specs.Routes.{is_usable}
use Rattle.rcp_model.specs.RouteServer.{slot_cost}
use Rattle.cost_rows.specs.Views.{identifier_at}
use Rattle.adj_ribs.specs.Bases.{IsAnnouncer}
use Rattle.rcs_shard.proofs.ContenderLemmas.{Rises, rises_none, rises_skip, rises_more, rises_apart, place_low, listed_none, listed_skip, listed_more, listed_all, listed_to}
use Rattle.rcs_shard.proofs.candidates.list_candidates.Goals as goal
use Rattle.rcs_shard.proofs.candidates.list_candidates.Goals.{then-is_candidate, else-is_candidate, After-route, Joined-is_candidate}

-- the announcer of the loop is one of the prefix
announces : (c : After-route) → IsAnnouncer c.args.ribs.now c.args.p c.announcer-item.result
announces c =
    (c.announcers-announcer-items.ensures.each c.announcer-item.result.0 c.announcer-item.result.1).0
    (subst (Contains c.announcers-announcer-items.result.now) (sym c.announcer-item.is)
    (Contains-get_or c.announcers-announcer-items.result.now c.loop-announcer.announcer-index c.announcer-item.result c.loop-announcer-test.true))

pub route-route-requires : goal.route-route-requires
route-route-requires c = ((c.args.p, c.announcer-item.result.0), announces c ∙ ap Some (sym c.route.ensures))

pub identifier_of-requires : goal.identifier_of-requires
identifier_of-requires c =
    let known = announces (goal.at.identifier_of-requires c).After-route in
    let there = c.route-route.ensures (c.args.p, c.announcer-item.result.0) (known ∙ ap Some (sym c.route.ensures)) in
    let low = c.requires.seated c.announcer-item.result.0 c.args.p (ap is_some there) in
    omega (arith, c.slot-egress.ensures, low)

-- its slot is a member's
seat : (c : After-route) → c.announcer-item.result.0 < length c.args.view.now.members
seat c =
    c.requires.seated c.announcer-item.result.0 c.args.p
    (sym (c.announcers-announcer-items.ensures.numbered.held (c.args.p, c.announcer-item.result.0)) ∙ ap is_some (announces c))

-- there is room in the list
room : (c : After-route) → c.loop-announcer.count < length c.loop-announcer.list
room c =
    let low = seat c in
    let place : c.loop-announcer.announcer-index ≤ c.announcer-item.result.0 =
    subst (λ (x : ℕ × ℕ). c.loop-announcer.announcer-index ≤ x.0) (sym c.announcer-item.is)
    (place_low c.announcers-announcer-items.result.now c.announcers-announcer-items.ensures.rising c.announcer-item.result c.loop-announcer.announcer-index c.loop-announcer-test.true) in
    omega (arith, low, place, c.loop-announcer.invariant.few, c.loop-announcer.invariant.list_is)

pub bounds-list-count : goal.bounds-list-count
bounds-list-count c = room (goal.at.bounds-list-count c).After-route

pub bounds-from-egress-inside : goal.bounds-from-egress-inside
bounds-from-egress-inside c =
    let low = seat (goal.at.bounds-from-egress-inside c).After-route in
    let is : c.egress.inside.0 ≡ c.slot-egress.result = c.egress.view_is in
    omega (arith, low, c.slot-egress.ensures, c.loop-announcer.invariant.from_is)

pub loop-announcer-init : goal.loop-announcer-init
loop-announcer-init c = record {
  few = omega arith;
  room = omega arith;
  list_is = c.requires.room;
  from_is = c.requires.places;
  rises = rises_none c.announcers-announcer-items.result.now c.args.list.now;
  listed = listed_none c.args.ribs.now c.args.view.now c.args.p c.args.slot c.args.list.now c.args.from.now;
}

pub loop-announcer-preserved : goal.loop-announcer-preserved
loop-announcer-preserved c =
    let at = (goal.at.loop-announcer-preserved c).After-route in
    let item = c.announcer-item.result in
    let known = announces at in
    let bases = c.args.ribs.now in
    let view = c.args.view.now in
    let announced = c.route-route.ensures (c.args.p, item.0) (known ∙ ap Some (sym c.route.ensures)) in
    let test = c.is_candidate.ensures ∙ ap (λ s. is_usable c.route-route.result.now && is_some (slot_cost view.edges view.members c.args.slot s)) c.slot-egress.ensures in
    let passed = take_more c.announcers-announcer-items.result.now c.loop-announcer.announcer-index item c.loop-announcer-test.true
    ∙ ap (λ (x : ℕ × ℕ). take c.loop-announcer.announcer-index c.announcers-announcer-items.result.now ++ x ∷ []) (sym c.announcer-item.is) in
    let less = room at in
    elim c.if-is_candidate.branch [
      | then-is_candidate w ↦
          let egress_is : w.egress.inside.0 ≡ item.0 = w.egress.view_is ∙ c.slot-egress.ensures in
          let is_x = w.of.ensures ∙ (λ i. contender c.slot-egress.result (w.identifier_of.ensures i) c.route-route.result.now)
          ∙ ap (λ s. contender s (identifier_at view.members s) c.route-route.result.now) c.slot-egress.ensures in
          let seen = (λ i. take (w.count-is i) (w.list-is i)) ∙ take_more_set c.loop-announcer.list c.loop-announcer.count w.of.result less in
          record {
            few = omega (arith, w.count-is, c.loop-announcer.invariant.few);
            room = omega (arith, w.count-is, less, ap length w.list-is, length-set c.loop-announcer.list c.loop-announcer.count w.of.result);
            list_is = c.if-is_candidate.auto.list ∙ c.loop-announcer.invariant.list_is;
            from_is = c.if-is_candidate.auto.from ∙ c.loop-announcer.invariant.from_is;
            rises = subst (Rises c.announcers-announcer-items.result.now (c.loop-announcer.announcer-index + 1)) (sym seen)
                (rises_more c.announcers-announcer-items.result.now c.announcers-announcer-items.ensures.rising c.loop-announcer.announcer-index item c.loop-announcer-test.true c.announcer-item.is
                (take c.loop-announcer.count c.loop-announcer.list) w.of.result (ap (λ (a : Contender). a.slot) is_x) c.loop-announcer.invariant.rises);
            listed = listed_to bases view c.args.p c.args.slot
                (take c.loop-announcer.announcer-index c.announcers-announcer-items.result.now ++ item ∷ []) (take (c.loop-announcer.announcer-index + 1) c.announcers-announcer-items.result.now)
                (take c.loop-announcer.count c.loop-announcer.list ++ w.of.result ∷ []) (take c.if-is_candidate.count c.if-is_candidate.list)
                (set c.loop-announcer.from item.0 (Some item)) c.if-is_candidate.from
                passed
                seen
                (w.from-is ∙ ap (λ s. set c.loop-announcer.from s (Some item)) egress_is)
                (listed_more bases view c.args.p c.args.slot (take c.loop-announcer.announcer-index c.announcers-announcer-items.result.now) (take c.loop-announcer.count c.loop-announcer.list)
                c.loop-announcer.from c.loop-announcer.invariant.listed item.0 item.1 c.route-route.result.now announced w.of.result
                (sym test ∙ w.if-is_candidate.true) known (seat at) c.loop-announcer.invariant.from_is is_x);
          }
      | else-is_candidate w ↦ record {
        few = omega (arith, w.count-is, c.loop-announcer.invariant.few);
        room = omega (arith, w.count-is, c.loop-announcer.invariant.room, ap length w.list-is);
        list_is = c.if-is_candidate.auto.list ∙ c.loop-announcer.invariant.list_is;
        from_is = c.if-is_candidate.auto.from ∙ c.loop-announcer.invariant.from_is;
        rises = subst (Rises c.announcers-announcer-items.result.now (c.loop-announcer.announcer-index + 1)) (λ i. take (sym w.count-is i) (sym w.list-is i))
            (rises_skip c.announcers-announcer-items.result.now c.loop-announcer.announcer-index (take c.loop-announcer.count c.loop-announcer.list) c.loop-announcer.invariant.rises);
        listed = listed_to bases view c.args.p c.args.slot
            (take c.loop-announcer.announcer-index c.announcers-announcer-items.result.now ++ item ∷ []) (take (c.loop-announcer.announcer-index + 1) c.announcers-announcer-items.result.now)
            (take c.loop-announcer.count c.loop-announcer.list) (take c.if-is_candidate.count c.if-is_candidate.list)
            c.loop-announcer.from c.if-is_candidate.from
            passed (λ i. take (w.count-is i) (w.list-is i)) w.from-is
            (listed_skip bases view c.args.p c.args.slot (take c.loop-announcer.announcer-index c.announcers-announcer-items.result.now) (take c.loop-announcer.count c.loop-announcer.list)
            c.loop-announcer.from c.loop-announcer.invariant.listed item.0 item.1 c.route-route.result.now announced (sym test ∙ w.if-is_candidate.false));
      }
    ]

pub returns-clause-listed : goal.returns-clause-listed
returns-clause-listed c =
    let all = take_all c.loop-announcer.announcer-index c.announcers-announcer-items.result.now c.loop-announcer-test.false in
    listed_all c.args.ribs.now c.args.view.now c.args.p c.args.slot c.announcers-announcer-items.result.now (take c.loop-announcer.count c.loop-announcer.list) c.loop-announcer.from
    c.announcers-announcer-items.ensures.each c.announcers-announcer-items.ensures.numbered
    (listed_to c.args.ribs.now c.args.view.now c.args.p c.args.slot (take c.loop-announcer.announcer-index c.announcers-announcer-items.result.now) c.announcers-announcer-items.result.now
    (take c.loop-announcer.count c.loop-announcer.list) (take c.loop-announcer.count c.loop-announcer.list) c.loop-announcer.from c.loop-announcer.from
    (sym all) refl refl c.loop-announcer.invariant.listed)

pub returns-clause-distinct : goal.returns-clause-distinct
returns-clause-distinct c =
    rises_apart c.announcers-announcer-items.result.now c.loop-announcer.announcer-index (take c.loop-announcer.count c.loop-announcer.list) c.loop-announcer.invariant.rises

pub returns-clause-members : goal.returns-clause-members
returns-clause-members c =
    All-from_members (λ (a : Contender). a.slot < length c.args.view.now.members) (take c.loop-announcer.count c.loop-announcer.list)
    (λ a inside. (c.loop-announcer.invariant.listed.sound a inside).within)
