use Rattle.std.proofs.Common.{◌≡◌, ℕ, ◌<◌, Bool, true, false, not, Option, None, Some, IfSome, List, ◌∷◌, [], length, get_or, refl, sym, ap, subst, ◌∙◌, arith}
use Rattle.std.specs.List.{AllByRecursion}
use Rattle.std.proofs.lemmas.List.{get_or_read}
use Rattle.rcp_base.specs.Octets.{AreOctets}
use Rattle.rcp_model.specs.Sessions.{Answer, begun_established, seat_of, stepped, seat_taken}
use Rattle.rcp_model.specs.Telling.{IsTold}
use Rattle.feed_meaning.specs.SessionTurns.{Turn as Defined, turn, ready_turn, slot_named, is_free}
use Rattle.session_core.specs.Shown.{doing_of}
use Rattle.platform_core.specs.declared.sessions.Connection.{Connection}
use Rattle.platform_core.specs.declared.turns.Turn.{Turn}
use Rattle.platform_core.specs.Open.{OpenOf, sessions_in, connection_in, IsWhole}
use Rattle.platform_core.specs.Turns.{DoAs, Take, at_time}
use Rattle.platform_core.proofs.SeatLemmas.{seat_at}
use Rattle.platform_core.proofs.TurnLemmas.{established-still, established-seat, no-octets-established, told-established, opened_one, does_one, moved_by}
use Rattle.platform_core.proofs.OpenLemmas.{if_ok, take_is, take_refused, taken_turn, free_turn, opened_more, free_allowed}
use Rattle.platform_core.proofs.connections.Connections.open_established.Goals as goal

pub returns-then-index : goal.returns-then-index
returns-then-index c =
    let slot : ℕ = c.in-Some.slot in
    let opened = c.self.invariant (ap (λ (o : OpenOf). o.spent) c.self.view_is ∙ c.requires.fresh) in
    let held = c.self.inside.held.items in
    let at : c.from.result ≡ slot = c.from.ensures ∙ c.slot.view_is in
    let less : slot < length c.args.roster.now.members = c.in-Some.ensures.within in
    let len : length held ≡ length c.args.roster.now.members = ap (λ (o : OpenOf). o.members) c.self.view_is ∙ c.requires.members in
    let inside : c.from.result < length held = omega (arith, at, less, len) in
    let read : get_or held slot false ≡ true = sym (get_or_read held c.from.result c.index.result.now inside c.index.ensures false ∙ ap (λ (n : ℕ). get_or held n false) at) ∙ c.if-index.true in
    let taken : is_free c.args.self.now.sessions slot ≡ false =
    ap (λ (o : OpenOf). is_free o.sessions slot) (sym c.self.view_is) ∙ by_not (is_free (sessions_in c.self.inside.connections.items) slot) (sym (opened.seated.known slot) ∙ read) in
    if_ok _ _ c.just.result (λ turns is time.
    take_refused c.args.roster.now (ready_turn (at_time c.args.roster.now time c.args.self.now.sessions) c.args.number (slot_named c.args.roster.now c.args.body.now)) c.args.self.now c.args.number turns.items
    (taken_turn c.args.roster.now time c.args.self.now c.args.number slot (slot_named c.args.roster.now c.args.body.now) c.in-Some.ensures.slot taken) c.requires.new
    (subst (λ (l : List Turn). DoAs c.args.roster.now (turn c.args.number None (stepped 0 [] seat_taken) ∷ []) l) (sym is)
    (does_one c.args.roster.now (turn c.args.number None (stepped 0 [] seat_taken)) c.in_ok-refused.field-0 c.in_ok-refused.ensures.number c.in_ok-refused.ensures.seat c.in_ok-refused.ensures.does
    (record {
      told = subst (λ d. AllByRecursion (IsTold c.args.roster.now.as_number) d.events) (sym c.in_ok-refused.ensures.does) tt;
      within = subst (λ o. IfSome o (λ s. s < length c.args.roster.now.members)) (sym c.in_ok-refused.ensures.seat) tt;
    })))) c.just.ensures where
      by_not : (b : Bool) → not b ≡ true → b ≡ false
      by_not true e = absurd cc
      by_not false e = refl

free_slot : (c : goal.After-just-2) → is_free (sessions_in c.self.inside.connections.items) c.in-Some.slot ≡ true
free_slot c =
    let slot : ℕ = c.in-Some.slot in
    let opened = c.self.invariant (ap (λ (o : OpenOf). o.spent) c.self.view_is ∙ c.requires.fresh) in
    let held = c.self.inside.held.items in
    let at : c.from.result ≡ slot = c.from.ensures ∙ c.slot.view_is in
    let less : slot < length c.args.roster.now.members = c.in-Some.ensures.within in
    let len : length held ≡ length c.args.roster.now.members = ap (λ (o : OpenOf). o.members) c.self.view_is ∙ c.requires.members in
    let inside : c.from.result < length held = omega (arith, at, less, len) in
    let read : get_or held slot false ≡ false = sym (get_or_read held c.from.result c.index.result.now inside c.index.ensures false ∙ ap (λ (n : ℕ). get_or held n false) at) ∙ c.if-index.false in
    by_not (is_free (sessions_in c.self.inside.connections.items) slot) (sym (opened.seated.known slot) ∙ read) where
      by_not : (b : Bool) → not b ≡ false → b ≡ true
      by_not true e = refl
      by_not false e = absurd cc

pub invariant_of-self-2 : goal.invariant_of-self-2
invariant_of-self-2 c = λ _.
    let slot : ℕ = c.in-Some.slot in
    let did : begun_established slot ≡ record { after = c.in_ok-session.session.state; does = doing_of c.in_ok-session.actions } = c.in_ok-session.ensures.does in
    let opened = c.self.invariant (ap (λ (o : OpenOf). o.spent) c.self.view_is ∙ c.requires.fresh) in
    let held = c.self.inside.held.items in
    let new : Connection = record { number = c.args.number; session = c.in_ok-session.session } in
    let whole : IsWhole new = record { unspent = c.in_ok-session.ensures.unspent; kept = subst (λ (a : Answer). AreOctets a.after.kept) did (no-octets-established slot) } in
    let is : seat_at (connection_in new) ≡ Some slot = ap (λ (a : Answer). seat_of a.after.phase) (sym did) ∙ established-seat slot in
    let above = subst (λ (o : OpenOf). AllByRecursion (λ entry. entry.0 < c.args.number) o.sessions) (sym c.self.view_is) c.requires.new in
    let len : length held ≡ length c.args.roster.now.members = ap (λ (o : OpenOf). o.members) c.self.view_is ∙ c.requires.members in
    let less : slot < length held = subst (λ (n : ℕ). slot < n) (sym len) c.in-Some.ensures.within in
    opened_more c.self.inside.connections.items c.push.new.self.items new held c.move_seat.new.held.items opened above c.in_ok-push.ensures.items whole c.move_seat.ensures.members
    (moved_by None (seat_at (connection_in new)) None (Some slot) held c.move_seat.new.held.items refl (sym is) c.move_seat.ensures.seats)
    (free_allowed (sessions_in c.self.inside.connections.items) (seat_at (connection_in new)) slot is (free_slot c))
    (subst (λ (o : Option ℕ). IfSome o (λ s. s < length held)) (sym is) less)

pub returns : goal.returns
returns c =
    let slot : ℕ = c.in-Some.slot in
    let did : begun_established slot ≡ record { after = c.in_ok-session.session.state; does = doing_of c.in_ok-session.actions } = c.in_ok-session.ensures.does in
    let new : Connection = record { number = c.args.number; session = c.in_ok-session.session } in
    let t = turn c.args.number (Some slot) (begun_established slot) in
    let taken : Turn = record { number = c.args.number; seat = Some slot; actions = c.in_ok-session.actions } in
    let above = subst (λ (o : OpenOf). AllByRecursion (λ entry. entry.0 < c.args.number) o.sessions) (sym c.self.view_is) c.requires.new in
    let free : is_free c.args.self.now.sessions slot ≡ true = ap (λ (o : OpenOf). is_free o.sessions slot) (sym c.self.view_is) ∙ free_slot c in
    let after : OpenOf = record { sessions = sessions_in c.push.new.self.items; members = length c.move_seat.new.held.items; spent = false } in
    if_ok _ _ c.just-2.result (λ turns is time.
    subst (λ (ts : List Defined). Take c.args.roster.now ts c.args.self.now after turns.items) (sym (free_turn c.args.roster.now time c.args.self.now c.args.number slot (slot_named c.args.roster.now c.args.body.now) c.in-Some.ensures.slot free))
    (take_is c.args.roster.now (t ∷ []) c.args.self.now c.self.inside.connections.items c.push.new.self.items c.self.inside.held.items c.move_seat.new.held.items c.self.inside.is_spent turns.items
    c.self.view_is c.requires.fresh c.move_seat.ensures.members
    (opened_one t c.self.inside.connections.items c.push.new.self.items new above c.in_ok-push.ensures.items refl (ap (λ (a : Answer). a.after) (sym did)) (established-still slot))
    (subst (λ (l : List Turn). DoAs c.args.roster.now (t ∷ []) l) (sym is)
    (does_one c.args.roster.now t taken refl refl (ap (λ (a : Answer). a.does) (sym did))
    (record { told = subst (λ (a : Answer). AllByRecursion (IsTold c.args.roster.now.as_number) a.does.events) did (told-established c.args.roster.now.as_number slot); within = c.in-Some.ensures.within }))))) c.just-2.ensures
