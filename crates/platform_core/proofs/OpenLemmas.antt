-- Connections that are opened, and what the turns of a record leave.
use Rattle.std.proofs.Common.{◌≡◌, ℕ, ◌<◌, Bool, true, false, cond, not, ◌&&◌, ◌||◌, List, [], ◌∷◌, ◌++◌, length, get_or, Option, Some, None, IfSome, Result, Ok, Err, inl, inr, refl, sym, ap, subst, ◌∙◌}
use Rattle.std.specs.Result.{IfOk}
use Rattle.std.specs.List.{list_any, AllByRecursion}
use Rattle.std.proofs.lemmas.Bool.{both_ways, eqb-true}
use Rattle.std.proofs.lemmas.List.{map-append}
use Rattle.rcp_base.specs.Roster.{RosterOf}
use Rattle.rcp_model.specs.LinkState.{same_number}
use Rattle.rcp_model.specs.Sessions.{SessionState, stepped, seat_taken, begun_established}
use Rattle.feed_meaning.specs.Platform.{Connections}
use Rattle.feed_meaning.specs.SessionTurns.{Turn as Defined, turn, ready_turn, is_slot, is_free}
use Rattle.platform_core.specs.declared.sessions.Connection.{Connection}
use Rattle.platform_core.specs.declared.turns.Turn.{Turn}
use Rattle.platform_core.specs.Open.{OpenOf, connection_in, sessions_in, AreApart, AreWithin, AreSeated, IsWhole, AreOpen}
use Rattle.platform_core.specs.Turns.{at_time, sessions_after, DoAs, Take}
use Rattle.platform_core.proofs.ListMaps.{without_nothing}
use Rattle.platform_core.proofs.ConnectionLemmas.{all_push, below_none}
use Rattle.platform_core.proofs.SeatLemmas.{seat_at, IsMoved, IsAllowed}
use Rattle.platform_core.proofs.TurnLemmas.{numbered_more}

pub if_ok : {T E : Type 0} (P Q : T → Type 0) (r : Result T E) → ((x : T) → P x → Q x) → IfOk r P → IfOk r Q
if_ok P Q (Ok x) h p = h x p
if_ok P Q (Err e) h p = tt

-- ---- seats with one connection more

not-or : (a b : Bool) → not (a || b) ≡ (not a && not b)
not-or true b = refl
not-or false b = refl

free_push : (slot : ℕ) (es : Connections) (e : ℕ × SessionState) → is_free (es ++ e ∷ []) slot ≡ (is_free es slot && not (is_slot slot (seat_at e)))
free_push slot [] e = one (is_slot slot (seat_at e)) where
  one : (b : Bool) → not (b || false) ≡ (true && not b)
  one true = refl
  one false = refl
free_push slot (x ∷ es) e =
    not-or (is_slot slot (seat_at x)) (list_any (λ y. is_slot slot (seat_at y)) (es ++ e ∷ []))
    ∙ ap (λ (b : Bool). not (is_slot slot (seat_at x)) && b) (free_push slot es e)
    ∙ group (not (is_slot slot (seat_at x))) (is_free es slot) (not (is_slot slot (seat_at e)))
    ∙ ap (λ (b : Bool). b && not (is_slot slot (seat_at e))) (sym (not-or (is_slot slot (seat_at x)) (list_any (λ y. is_slot slot (seat_at y)) es))) where
      group : (a b c : Bool) → (a && (b && c)) ≡ ((a && b) && c)
      group true b c = refl
      group false b c = refl

apart_push : (es : Connections) (e : ℕ × SessionState) → AreApart es → ((slot : ℕ) → is_slot slot (seat_at e) ≡ true → is_free es slot ≡ true) → AreApart (es ++ e ∷ [])
apart_push [] e apart alone = (λ slot holds. refl, tt)
apart_push (x ∷ es) e apart alone = (
  λ slot holds. free_push slot es e ∙ ap (λ (b : Bool). b && not (is_slot slot (seat_at e))) (apart.0 slot holds) ∙ ap not (other slot holds (is_slot slot (seat_at e)) refl),
  apart_push es e apart.1 (λ slot holds. rest slot (not-or (is_slot slot (seat_at x)) (list_any (λ y. is_slot slot (seat_at y)) es)) (alone slot holds)),
) where
  second : (a b : Bool) → (a && b) ≡ true → b ≡ true
  second true b both = both
  second false b both = absurd cc

  rest : (slot : ℕ) → is_free (x ∷ es) slot ≡ (not (is_slot slot (seat_at x)) && is_free es slot) → is_free (x ∷ es) slot ≡ true → is_free es slot ≡ true
  rest slot parts free = second (not (is_slot slot (seat_at x))) (is_free es slot) (sym parts ∙ free)

  other : (slot : ℕ) → is_slot slot (seat_at x) ≡ true → (b : Bool) → is_slot slot (seat_at e) ≡ b → b ≡ false
  other slot holds false is = refl
  other slot holds true is =
      let free = alone slot is in
      absurd (both_ways false refl (sym (ap not (ap (λ (b : Bool). b || list_any (λ y. is_slot slot (seat_at y)) es) holds)) ∙ free))

within_push : (members : ℕ) (es : Connections) (e : ℕ × SessionState) → AreWithin members es → IfSome (seat_at e) (λ slot. slot < members) → AreWithin members (es ++ e ∷ [])
within_push members es e within more = all_push (λ (x : ℕ × SessionState). IfSome (seat_at x) (λ slot. slot < members)) es e within more

pub seats_pushed : (es : Connections) (e : ℕ × SessionState) (held new : List Bool) → AreSeated es held → length new ≡ length held → IsMoved None (seat_at e) held new → IsAllowed es None (seat_at e)
    → IfSome (seat_at e) (λ slot. slot < length held) → AreSeated (es ++ e ∷ []) new
seats_pushed es e held new seated len moved allowed member = record {
  apart = apart_push es e seated.apart free;
  within = within_push (length new) es e (subst (λ (n : ℕ). AreWithin n es) (sym len) seated.within) (subst (λ (n : ℕ). IfSome (seat_at e) (λ slot. slot < n)) (sym len) member);
  known = λ slot. moved slot ∙ known slot (is_slot slot (seat_at e)) refl;
} where
  free : (slot : ℕ) → is_slot slot (seat_at e) ≡ true → is_free es slot ≡ true
  free slot holds = elim (allowed slot holds) [ inl none ↦ absurd cc | inr alone ↦ alone ]

  and-false : (a : Bool) → not (a && false) ≡ true
  and-false true = refl
  and-false false = refl

  and-true : (a : Bool) → (a && true) ≡ a
  and-true true = refl
  and-true false = refl

  known : (slot : ℕ) (b : Bool) → is_slot slot (seat_at e) ≡ b → cond b true (cond (is_slot slot None) false (get_or held slot false)) ≡ not (is_free (es ++ e ∷ []) slot)
  known slot true is = sym (ap not (free_push slot es e ∙ ap (λ (b : Bool). is_free es slot && not b) is) ∙ and-false (is_free es slot))
  known slot false is = seated.known slot ∙ sym (ap not (free_push slot es e ∙ ap (λ (b : Bool). is_free es slot && not b) is ∙ and-true (is_free es slot)))

pub opened_more : (cs ds : List Connection) (new : Connection) (held next : List Bool) → AreOpen cs held → AllByRecursion (λ (e : ℕ × SessionState). e.0 < new.number) (sessions_in cs) → ds ≡ cs ++ new ∷ []
    → IsWhole new → length next ≡ length held → IsMoved None (seat_at (connection_in new)) held next → IsAllowed (sessions_in cs) None (seat_at (connection_in new))
    → IfSome (seat_at (connection_in new)) (λ slot. slot < length held) → AreOpen ds next
opened_more cs ds new held next opened above more whole len moved allowed member = record {
  numbered = numbered_more cs ds new opened.numbered above more;
  whole = subst (AllByRecursion IsWhole) (sym more) (all_push IsWhole cs new opened.whole whole);
  seated = subst (λ (es : Connections). AreSeated es next) (sym (ap sessions_in more ∙ map-append connection_in cs (new ∷ []))) (seats_pushed (sessions_in cs) (connection_in new) held next opened.seated len moved allowed member);
}

-- no seat, or a free one
pub none_allowed : (es : Connections) (now : Option ℕ) → now ≡ None → IsAllowed es None now
none_allowed es now none slot holds = absurd (both_ways (is_slot slot now) (ap (is_slot slot) none) holds)

pub free_allowed : (es : Connections) (now : Option ℕ) (slot : ℕ) → now ≡ Some slot → is_free es slot ≡ true → IsAllowed es None now
free_allowed es now slot is free s holds =
    let same : slot ≡ s = eqb-true slot s (sym (ap (is_slot s) is) ∙ holds) in inr (ap (is_free es) (sym same) ∙ free)

pub none_moved : (now : Option ℕ) (held : List Bool) → now ≡ None → IsMoved None now held held
none_moved now held none slot = sym (ap (λ (o : Option ℕ). cond (is_slot slot o) true (get_or held slot false)) none)

pub none_member : (now : Option ℕ) (members : ℕ) → now ≡ None → IfSome now (λ slot. slot < members)
none_member now members none = subst (λ (o : Option ℕ). IfSome o (λ slot. slot < members)) (sym none) tt

-- ---- what is taken of a record

pub take_is : (roster : RosterOf) (turns : List Defined) (old : OpenOf) (cs ds : List Connection) (held next : List Bool) (spent : Bool) (taken : List Turn)
    → (let before : OpenOf = record { sessions = sessions_in cs; members = length held; spent = spent } in before ≡ old) → old.spent ≡ false → length next ≡ length held
    → sessions_in ds ≡ sessions_after turns (sessions_in cs) → DoAs roster turns taken
    → Take roster turns old (record { sessions = sessions_in ds; members = length next; spent = false }) taken
take_is roster turns old cs ds held next spent taken view fresh len sessions does = record {
  after = λ i. record {
    sessions = (sessions ∙ ap (λ (o : OpenOf). sessions_after turns o.sessions) view) i;
    members = (len ∙ ap (λ (o : OpenOf). o.members) view) i;
    spent = sym fresh i;
  };
  do_as = does;
}

-- nothing is taken where there is no turn
pub take_nothing : (roster : RosterOf) (turns : List Defined) (old : OpenOf) (taken : List Turn) → turns ≡ [] → taken ≡ [] → Take roster turns old old taken
take_nothing roster turns old taken none empty =
    subst (λ (ts : List Defined). Take roster ts old old taken) (sym none) (subst (λ (l : List Turn). Take roster [] old old l) (sym empty) (record {
      after = refl;
      do_as = record { events = refl; output = refl; form = tt };
    }))

-- a seat that is taken: the connection is none
pub taken_turn : (roster : RosterOf) (time : ℕ) (old : OpenOf) (number slot : ℕ) (named : Option ℕ) → Some slot ≡ named → is_free old.sessions slot ≡ false
    → ready_turn (at_time roster time old.sessions) number named ≡ turn number None (stepped 0 [] seat_taken) ∷ []
taken_turn roster time old number slot named some taken = rw (← some) (rw taken refl)

pub free_turn : (roster : RosterOf) (time : ℕ) (old : OpenOf) (number slot : ℕ) (named : Option ℕ) → Some slot ≡ named → is_free old.sessions slot ≡ true
    → ready_turn (at_time roster time old.sessions) number named ≡ turn number (Some slot) (begun_established slot) ∷ []
free_turn roster time old number slot named some free = rw (← some) (rw free refl)

pub refused_after : (number : ℕ) (es : Connections) → AllByRecursion (λ (e : ℕ × SessionState). e.0 < number) es → sessions_after (turn number None (stepped 0 [] seat_taken) ∷ []) es ≡ es
refused_after number es above = without_nothing same_number number es (below_none number es above)

pub take_refused : (roster : RosterOf) (turns : List Defined) (old : OpenOf) (number : ℕ) (taken : List Turn) → turns ≡ turn number None (stepped 0 [] seat_taken) ∷ [] → AllByRecursion (λ (e : ℕ × SessionState). e.0 < number) old.sessions
    → DoAs roster (turn number None (stepped 0 [] seat_taken) ∷ []) taken → Take roster turns old old taken
take_refused roster turns old number taken is above does =
    subst (λ (ts : List Defined). Take roster ts old old taken) (sym is) (record {
      after = λ i. record old { sessions = sym (refused_after number old.sessions above) i };
      do_as = does;
    })
