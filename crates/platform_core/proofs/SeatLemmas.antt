-- Seats: each is held once, and it is known which are.
use Rattle.std.proofs.Common.{◌≡◌, ℕ, zero, suc, ◌<◌, Bool, true, false, cond, not, ◌&&◌, ◌||◌, List, [], ◌∷◌, length, set, get_or, filter, Option, None, IfSome, ◌⊎◌, inl, inr, refl, sym, ap, subst, ◌∙◌, arith}
use Rattle.std.specs.List.{list_any, remove}
use Rattle.std.proofs.lemmas.Bool.{cases_Bool, both_ways}
use Rattle.rcp_model.specs.Sessions.{SessionState, is_closed, Phase, OpenSent, Claiming, OpenConfirm, Established, Closed, seat_of}
use Rattle.feed_meaning.specs.Platform.{Connections}
use Rattle.feed_meaning.specs.SessionTurns.{is_slot, is_free}
use Rattle.platform_core.specs.declared.sessions.Connection.{Connection}
use Rattle.platform_core.specs.Open.{connection_in, sessions_in, AreApart, AreWithin, AreSeated}

abbrev pub seat_at : ℕ × SessionState → Option ℕ
seat_at entry = seat_of entry.1.phase

-- ---- the others

-- whether no other connection than that at a place holds the seat
abbrev pub free_beside : ℕ → Connections → ℕ → Bool
free_beside slot [] i = true
free_beside slot (e ∷ es) zero = is_free es slot
free_beside slot (e ∷ es) (suc i) = not (is_slot slot (seat_at e)) && free_beside slot es i

not-or : (a b : Bool) → not (a || b) ≡ (not a && not b)
not-or true b = refl
not-or false b = refl

-- the seat is free where neither that connection nor another holds it
pub free_by : (slot : ℕ) (es : Connections) (i : ℕ) (e : ℕ × SessionState) → i < length es → e ≡ get_or es i e
    → is_free es slot ≡ (not (is_slot slot (seat_at e)) && free_beside slot es i)
free_by slot [] i e within is = absurd (omega arith)
free_by slot (x ∷ es) zero e within is =
    not-or (is_slot slot (seat_at x)) (list_any (λ y. is_slot slot (seat_at y)) es) ∙ ap (λ (y : ℕ × SessionState). not (is_slot slot (seat_at y)) && is_free es slot) (sym is)
free_by slot (x ∷ es) (suc i) e within is =
    not-or (is_slot slot (seat_at x)) (list_any (λ y. is_slot slot (seat_at y)) es)
    ∙ ap (λ (b : Bool). not (is_slot slot (seat_at x)) && b) (free_by slot es i e (omega arith) is)
    ∙ swap (not (is_slot slot (seat_at x))) (not (is_slot slot (seat_at e))) (free_beside slot es i) where
      swap : (a b c : Bool) → (a && (b && c)) ≡ (b && (a && c))
      swap true b c = refl
      swap false true c = refl
      swap false false c = refl

pub beside_set : (slot : ℕ) (es : Connections) (i : ℕ) (y : ℕ × SessionState) → free_beside slot (set es i y) i ≡ free_beside slot es i
beside_set slot [] i y = refl
beside_set slot (e ∷ es) zero y = refl
beside_set slot (e ∷ es) (suc i) y = ap (λ (b : Bool). not (is_slot slot (seat_at e)) && b) (beside_set slot es i y)

-- ---- each seat is held once

and-both : (a b : Bool) → a ≡ true → b ≡ true → (a && b) ≡ true
and-both true b first second = second
and-both false b first second = absurd cc

and-parts : (a b : Bool) → (a && b) ≡ true → (a ≡ true) × (b ≡ true)
and-parts true b both = (refl, both)
and-parts false b both = absurd cc

-- who is free of a seat among connections, if it is one of these
free_of : (slot : ℕ) (es : Connections) (i : ℕ) (e : ℕ × SessionState) → i < length es → e ≡ get_or es i e → is_free es slot ≡ true → is_slot slot (seat_at e) ≡ false
free_of slot es i e within is free = at_seat (is_slot slot (seat_at e)) refl where
  at_seat : (b : Bool) → is_slot slot (seat_at e) ≡ b → b ≡ false
  at_seat false held = refl
  at_seat true held =
      let parts = and-parts (not (is_slot slot (seat_at e))) (free_beside slot es i) (sym (free_by slot es i e within is) ∙ free) in
      absurd (both_ways false refl (sym (ap not held) ∙ parts.0))

pub apart_at : (slot : ℕ) (es : Connections) (i : ℕ) (e : ℕ × SessionState) → i < length es → e ≡ get_or es i e → AreApart es → is_slot slot (seat_at e) ≡ true → free_beside slot es i ≡ true
apart_at slot [] i e within is apart holds = refl
apart_at slot (x ∷ es) zero e within is apart holds = apart.0 slot (ap (λ (y : ℕ × SessionState). is_slot slot (seat_at y)) (sym is) ∙ holds)
apart_at slot (x ∷ es) (suc i) e within is apart holds =
    and-both (not (is_slot slot (seat_at x))) (free_beside slot es i) (first (is_slot slot (seat_at x)) refl) (apart_at slot es i e (omega arith) is apart.1 holds) where
      first : (b : Bool) → is_slot slot (seat_at x) ≡ b → not b ≡ true
      first false held = refl
      first true held = absurd (both_ways (is_slot slot (seat_at e)) (free_of slot es i e (omega arith) is (apart.0 slot held)) holds)

-- a connection that holds a seat which the others don't hold
free_set : (slot : ℕ) (es : Connections) (i : ℕ) (y : ℕ × SessionState) → is_free es slot ≡ true → is_slot slot (seat_at y) ≡ false → is_free (set es i y) slot ≡ true
free_set slot [] i y free other = free
free_set slot (e ∷ es) zero y free other =
    let parts = and-parts (not (is_slot slot (seat_at e))) (is_free es slot) (sym (not-or (is_slot slot (seat_at e)) (list_any (λ x. is_slot slot (seat_at x)) es)) ∙ free) in
    not-or (is_slot slot (seat_at y)) (list_any (λ x. is_slot slot (seat_at x)) es) ∙ and-both (not (is_slot slot (seat_at y))) (is_free es slot) (ap not other) parts.1
free_set slot (e ∷ es) (suc i) y free other =
    let parts = and-parts (not (is_slot slot (seat_at e))) (is_free es slot) (sym (not-or (is_slot slot (seat_at e)) (list_any (λ x. is_slot slot (seat_at x)) es)) ∙ free) in
    not-or (is_slot slot (seat_at e)) (list_any (λ x. is_slot slot (seat_at x)) (set es i y)) ∙ and-both (not (is_slot slot (seat_at e))) (is_free (set es i y) slot) parts.0 (free_set slot es i y parts.1 other)

pub apart_set : (es : Connections) (i : ℕ) (y : ℕ × SessionState) → AreApart es → ((slot : ℕ) → is_slot slot (seat_at y) ≡ true → free_beside slot es i ≡ true) → AreApart (set es i y)
apart_set [] i y apart alone = apart
apart_set (e ∷ es) zero y apart alone = (alone, apart.1)
apart_set (e ∷ es) (suc i) y apart alone = (
  λ slot held. free_set slot es i y (apart.0 slot held) (other slot held (is_slot slot (seat_at y)) refl),
  apart_set es i y apart.1 (λ slot held. (and-parts (not (is_slot slot (seat_at e))) (free_beside slot es i) (alone slot held)).1),
) where
  other : (slot : ℕ) → is_slot slot (seat_at e) ≡ true → (b : Bool) → is_slot slot (seat_at y) ≡ b → b ≡ false
  other slot held false is = refl
  other slot held true is =
      let parts = and-parts (not (is_slot slot (seat_at e))) (free_beside slot es i) (alone slot is) in
      absurd (both_ways false refl (sym (ap not held) ∙ parts.0))

within_set : (members : ℕ) (es : Connections) (i : ℕ) (y : ℕ × SessionState) → AreWithin members es → IfSome (seat_at y) (λ slot. slot < members) → AreWithin members (set es i y)
within_set members [] i y within more = within
within_set members (e ∷ es) zero y within more = (more, within.1)
within_set members (e ∷ es) (suc i) y within more = (within.0, within_set members es i y within.1 more)

pub within_at : (members : ℕ) (es : Connections) (i : ℕ) (e : ℕ × SessionState) → AreWithin members es → i < length es → e ≡ get_or es i e → IfSome (seat_at e) (λ slot. slot < members)
within_at members [] i e within less is = absurd (omega arith)
within_at members (x ∷ es) zero e within less is = subst (λ (y : ℕ × SessionState). IfSome (seat_at y) (λ slot. slot < members)) (sym is) within.0
within_at members (x ∷ es) (suc i) e within less is = within_at members es i e within.1 (omega arith) is

-- ---- a session that moves to another seat, or gives up its own

-- what is known of the seats then
abbrev pub IsMoved : Option ℕ → Option ℕ → List Bool → List Bool → Type 0
IsMoved before now held new = (slot : ℕ) → get_or new slot false ≡ cond (is_slot slot now) true (cond (is_slot slot before) false (get_or held slot false))

-- the seat is its own before or free
abbrev pub IsAllowed : Connections → Option ℕ → Option ℕ → Type 0
IsAllowed es before now = (slot : ℕ) → is_slot slot now ≡ true → (is_slot slot before ≡ true) ⊎ (is_free es slot ≡ true)

pub moved_seats : (es : Connections) (i : ℕ) (e y : ℕ × SessionState) (held new : List Bool) → i < length es → e ≡ get_or es i e → AreSeated es held → length new ≡ length held
    → IsMoved (seat_at e) (seat_at y) held new → IsAllowed es (seat_at e) (seat_at y) → IfSome (seat_at y) (λ slot. slot < length held) → AreSeated (set es i y) new
moved_seats es i e y held new within is seated len moved allowed member = record {
  apart = apart_set es i y seated.apart alone;
  within = within_set (length new) es i y (subst (λ (n : ℕ). AreWithin n es) (sym len) seated.within) (subst (λ (n : ℕ). IfSome (seat_at y) (λ slot. slot < n)) (sym len) member);
  known = λ slot. moved slot ∙ known slot (is_slot slot (seat_at y)) refl (is_slot slot (seat_at e)) refl;
} where
  alone : (slot : ℕ) → is_slot slot (seat_at y) ≡ true → free_beside slot es i ≡ true
  alone slot holds = elim (allowed slot holds) [
    | inl own ↦ apart_at slot es i e within is seated.apart own
    | inr free ↦ (and-parts (not (is_slot slot (seat_at e))) (free_beside slot es i) (sym (free_by slot es i e within is) ∙ free)).1
  ]

  here : (i < length (set es i y)) × (y ≡ get_or (set es i y) i y)
  here = at_place es i within where
    at_place : (l : Connections) (k : ℕ) → k < length l → (k < length (set l k y)) × (y ≡ get_or (set l k y) k y)
    at_place [] k less = absurd (omega arith)
    at_place (x ∷ l) zero less = (omega arith, refl)
    at_place (x ∷ l) (suc k) less = let more = at_place l k (omega arith) in (omega (arith, more.0), more.1)

  free_now : (slot : ℕ) → is_free (set es i y) slot ≡ (not (is_slot slot (seat_at y)) && free_beside slot es i)
  free_now slot = free_by slot (set es i y) i y here.0 here.1 ∙ ap (λ (b : Bool). not (is_slot slot (seat_at y)) && b) (beside_set slot es i y)

  not-not : (b : Bool) → not (not b) ≡ b
  not-not true = refl
  not-not false = refl

  known : (slot : ℕ) (now : Bool) → is_slot slot (seat_at y) ≡ now → (before : Bool) → is_slot slot (seat_at e) ≡ before
      → cond now true (cond before false (get_or held slot false)) ≡ not (is_free (set es i y) slot)
  known slot true now_is before before_is = sym (ap not (free_now slot ∙ ap (λ (b : Bool). not b && free_beside slot es i) now_is))
  known slot false now_is true before_is =
      sym (ap not (free_now slot ∙ ap (λ (b : Bool). not b && free_beside slot es i) now_is ∙ apart_at slot es i e within is seated.apart before_is))
  known slot false now_is false before_is =
      seated.known slot ∙ ap not (free_by slot es i e within is ∙ ap (λ (b : Bool). not b && free_beside slot es i) before_is)
      ∙ sym (ap not (free_now slot ∙ ap (λ (b : Bool). not b && free_beside slot es i) now_is))

-- a phase that keeps its seat or gives it up is allowed
pub keeps_allowed : (es : Connections) (before now : Option ℕ) → (now ≡ None) ⊎ (now ≡ before) → IsAllowed es before now
keeps_allowed es before now (inl none) slot holds = absurd (both_ways (is_slot slot now) (ap (is_slot slot) none) holds)
keeps_allowed es before now (inr same) slot holds = inl (ap (is_slot slot) (sym same) ∙ holds)

pub keeps_member : (members : ℕ) (before now : Option ℕ) → (now ≡ None) ⊎ (now ≡ before) → IfSome before (λ slot. slot < members) → IfSome now (λ slot. slot < members)
keeps_member members before now (inl none) member = subst (λ (o : Option ℕ). IfSome o (λ slot. slot < members)) (sym none) tt
keeps_member members before now (inr same) member = subst (λ (o : Option ℕ). IfSome o (λ slot. slot < members)) (sym same) member

-- ---- connections that go: a closed session holds no seat

closed_seat : (phase : Phase) → is_closed phase ≡ true → seat_of phase ≡ None
closed_seat Closed closed = refl
closed_seat (OpenSent since) closed = absurd cc
closed_seat (Claiming since slot terms) closed = absurd cc
closed_seat (OpenConfirm peering) closed = absurd cc
closed_seat (Established peering) closed = absurd cc

-- the same seats are free
pub record HasSameSeats (es fs : Connections) : Type 0 where
  pub free : (slot : ℕ) → is_free fs slot ≡ is_free es slot
  pub apart : AreApart es → AreApart fs
  pub within : (members : ℕ) → AreWithin members es → AreWithin members fs

pub same_seated : (es fs : Connections) (held : List Bool) → HasSameSeats es fs → AreSeated es held → AreSeated fs held
same_seated es fs held same seated = record {
  apart = same.apart seated.apart;
  within = same.within (length held) seated.within;
  known = λ slot. seated.known slot ∙ ap not (sym (same.free slot));
}

same_cons : (e : ℕ × SessionState) (es fs : Connections) → HasSameSeats es fs → HasSameSeats (e ∷ es) (e ∷ fs)
same_cons e es fs same = record {
  free = λ slot. not-or (is_slot slot (seat_at e)) (list_any (λ x. is_slot slot (seat_at x)) fs) ∙ ap (λ (b : Bool). not (is_slot slot (seat_at e)) && b) (same.free slot)
      ∙ sym (not-or (is_slot slot (seat_at e)) (list_any (λ x. is_slot slot (seat_at x)) es));
  apart = λ apart. (λ slot holds. same.free slot ∙ apart.0 slot holds, same.apart apart.1);
  within = λ members within. (within.0, same.within members within.1);
}

same_without : (e : ℕ × SessionState) (es fs : Connections) → seat_at e ≡ None → HasSameSeats es fs → HasSameSeats (e ∷ es) fs
same_without e es fs none same = record {
  free = λ slot. same.free slot ∙ sym (ap not (ap (λ (o : Option ℕ). is_slot slot o || list_any (λ x. is_slot slot (seat_at x)) es) none));
  apart = λ apart. same.apart apart.1;
  within = λ members within. same.within members within.1;
}

same_itself : (es : Connections) → HasSameSeats es es
same_itself es = record { free = λ slot. refl; apart = λ apart. apart; within = λ members within. within }

pub same_removed : (cs : List Connection) (i : ℕ) (c : Connection) → i < length cs → c ≡ get_or cs i c → is_closed c.session.state.phase ≡ true → HasSameSeats (sessions_in cs) (sessions_in (remove cs i))
same_removed [] i c within is closed = absurd (omega arith)
same_removed (x ∷ cs) zero c within is closed =
    same_without (connection_in x) (sessions_in cs) (sessions_in cs) (closed_seat x.session.state.phase (ap (λ (d : Connection). is_closed d.session.state.phase) (sym is) ∙ closed)) (same_itself (sessions_in cs))
same_removed (x ∷ cs) (suc i) c within is closed = same_cons (connection_in x) (sessions_in cs) (sessions_in (remove cs i)) (same_removed cs i c (omega arith) is closed)

pub same_left : (cs : List Connection) → HasSameSeats (sessions_in cs) (sessions_in (filter (λ (c : Connection). not (is_closed c.session.state.phase)) cs))
same_left [] = same_itself []
same_left (c ∷ cs) =
    elim (cases_Bool (is_closed c.session.state.phase)) [
      | inl closed ↦ rw closed (same_without (connection_in c) (sessions_in cs) (sessions_in (filter (λ (d : Connection). not (is_closed d.session.state.phase)) cs)) (closed_seat c.session.state.phase closed) (same_left cs))
      | inr still ↦ rw still (same_cons (connection_in c) (sessions_in cs) (sessions_in (filter (λ (d : Connection). not (is_closed d.session.state.phase)) cs)) (same_left cs))
    ]
