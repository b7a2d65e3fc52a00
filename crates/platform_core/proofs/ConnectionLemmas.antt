-- Connections by their numbers: one that is put in its place or taken away, and what stays rising.
use Rattle.std.proofs.Common.{◌≡◌, ℕ, zero, suc, ◌<◌, Bool, true, false, cond, eqb, List, [], ◌∷◌, ◌++◌, length, set, get_or, filter, None, refl, sym, ap, subst, ◌∙◌, inl, inr, arith}
use Rattle.std.specs.List.{remove, AllByRecursion}
use Rattle.std.proofs.lemmas.Bool.{cases_Bool, eqb-true}
use Rattle.rcp_base.specs.Maps.{get_at, set_at}
use Rattle.rcp_model.specs.LinkState.{same_number}
use Rattle.rcp_model.specs.Sessions.{SessionState, is_closed}
use Rattle.feed_meaning.specs.Platform.{Connections}
use Rattle.feed_meaning.specs.SessionTurns.{connection_at, if_open}
use Rattle.platform_core.specs.declared.sessions.Connection.{Connection}
use Rattle.platform_core.specs.Open.{connection_in, sessions_in, AreNumbered, numbers_of}
use Rattle.platform_core.proofs.ListMaps.{IsPlace, without_found, put_found, all_removed, without_nothing}

-- ---- lists

pub all_set : {X : Type 0} (P : X → Type 0) (xs : List X) (i : ℕ) (y : X) → AllByRecursion P xs → P y → AllByRecursion P (set xs i y)
all_set P [] i y all h = all
all_set P (x ∷ xs) zero y all h = (h, all.1)
all_set P (x ∷ xs) (suc i) y all h = (all.0, all_set P xs i y all.1 h)

pub all_push : {X : Type 0} (P : X → Type 0) (xs : List X) (y : X) → AllByRecursion P xs → P y → AllByRecursion P (xs ++ y ∷ [])
all_push P [] y all h = (h, tt)
all_push P (x ∷ xs) y all h = (all.0, all_push P xs y all.1 h)

pub all_at : {X : Type 0} (P : X → Type 0) (xs : List X) (i : ℕ) (x : X) → AllByRecursion P xs → i < length xs → x ≡ get_or xs i x → P x
all_at P [] i x all within is = absurd (omega arith)
all_at P (y ∷ xs) zero x all within is = subst P (sym is) all.0
all_at P (y ∷ xs) (suc i) x all within is = all_at P xs i x all.1 (omega arith) is

pub all_both : {X : Type 0} (P : X → Type 0) (xs ys : List X) → AllByRecursion P xs → AllByRecursion P ys → AllByRecursion P (xs ++ ys)
all_both P [] ys all more = more
all_both P (x ∷ xs) ys all more = (all.0, all_both P xs ys all.1 more)

pub remove_set : {X : Type 0} (xs : List X) (i : ℕ) (y : X) → i < length xs → remove (set xs i y) i ≡ remove xs i
remove_set [] i y within = absurd (omega arith)
remove_set (x ∷ xs) zero y within = refl
remove_set (x ∷ xs) (suc i) y within = ap (λ l. x ∷ l) (remove_set xs i y (omega arith))

pub get_set : {X : Type 0} (xs : List X) (i : ℕ) (y d : X) → i < length xs → y ≡ get_or (set xs i y) i d
get_set [] i y d within = absurd (omega arith)
get_set (x ∷ xs) zero y d within = refl
get_set (x ∷ xs) (suc i) y d within = get_set xs i y d (omega arith)

pub set_within : {X : Type 0} (xs : List X) (i : ℕ) (y : X) → i < length xs → i < length (set xs i y)
set_within [] i y within = absurd (omega arith)
set_within (x ∷ xs) zero y within = omega arith
set_within (x ∷ xs) (suc i) y within = omega (arith, set_within xs i y (omega arith))

pub set_twice : {X : Type 0} (xs : List X) (i : ℕ) (y z : X) → set (set xs i y) i z ≡ set xs i z
set_twice [] i y z = refl
set_twice (x ∷ xs) zero y z = refl
set_twice (x ∷ xs) (suc i) y z = ap (λ l. x ∷ l) (set_twice xs i y z)

-- ---- numbers

pub above_none : (n : ℕ) (es : Connections) → AllByRecursion (λ m. n < m) (numbers_of es) → get_at same_number n es ≡ None
above_none n [] all = refl
above_none n (e ∷ es) all =
    elim (cases_Bool (eqb n e.0)) [
      | inl same ↦ let is : n ≡ e.0 = eqb-true n e.0 same in absurd (omega (arith, is, all.0))
      | inr other ↦ rw other (above_none n es all.1)
    ]

pub below_none : (n : ℕ) (es : Connections) → AllByRecursion (λ (e : ℕ × SessionState). e.0 < n) es → get_at same_number n es ≡ None
below_none n [] all = refl
below_none n (e ∷ es) all =
    elim (cases_Bool (eqb n e.0)) [
      | inl same ↦ let is : n ≡ e.0 = eqb-true n e.0 same in absurd (omega (arith, is, all.0))
      | inr other ↦ rw other (below_none n es all.1)
    ]

alone : (n : ℕ) (xs : List Connection) (i : ℕ) → AreNumbered (numbers_of (sessions_in xs)) → IsPlace (λ x. same_number n (connection_in x).0) xs i
    → get_at same_number n (sessions_in (remove xs i)) ≡ None
unfolding IsPlace
alone n [] i numbered h = absurd h
alone n (x ∷ xs) zero numbered h =
    let is : n ≡ x.number = eqb-true n x.number h in
    rw is (above_none x.number (sessions_in xs) numbered.0)
alone n (x ∷ xs) (suc i) numbered h = rw h.0 (alone n xs i numbered.1 h.1)

pub numbers_set : (xs : List Connection) (i : ℕ) (c y : Connection) → i < length xs → c ≡ get_or xs i c → y.number ≡ c.number
    → numbers_of (sessions_in (set xs i y)) ≡ numbers_of (sessions_in xs)
numbers_set [] i c y within is same = refl
numbers_set (x ∷ xs) zero c y within is same = ap (λ (n : ℕ). n ∷ numbers_of (sessions_in xs)) (same ∙ ap (λ (d : Connection). d.number) is)
numbers_set (x ∷ xs) (suc i) c y within is same = ap (λ (l : List ℕ). x.number ∷ l) (numbers_set xs i c y (omega arith) is same)

pub numbers_push : (ns : List ℕ) (n : ℕ) → AreNumbered ns → AllByRecursion (λ m. m < n) ns → AreNumbered (ns ++ n ∷ [])
numbers_push [] n numbered below = (tt, tt)
numbers_push (m ∷ ns) n numbered below = (all_push (λ k. m < k) ns n numbered.0 below.0, numbers_push ns n numbered.1 below.1)

numbers_all_removed : (P : ℕ → Type 0) (xs : List Connection) (i : ℕ) → AllByRecursion P (numbers_of (sessions_in xs)) → AllByRecursion P (numbers_of (sessions_in (remove xs i)))
numbers_all_removed P [] zero all = all
numbers_all_removed P [] (suc i) all = all
numbers_all_removed P (x ∷ xs) zero all = all.1
numbers_all_removed P (x ∷ xs) (suc i) all = (all.0, numbers_all_removed P xs i all.1)

pub numbered_removed : (xs : List Connection) (i : ℕ) → AreNumbered (numbers_of (sessions_in xs)) → AreNumbered (numbers_of (sessions_in (remove xs i)))
numbered_removed [] zero numbered = numbered
numbered_removed [] (suc i) numbered = numbered
numbered_removed (x ∷ xs) zero numbered = numbered.1
numbered_removed (x ∷ xs) (suc i) numbered = (numbers_all_removed (λ m. x.number < m) xs i numbered.0, numbered_removed xs i numbered.1)

numbers_all_filter : (P : ℕ → Type 0) (test : Connection → Bool) (xs : List Connection) → AllByRecursion P (numbers_of (sessions_in xs)) → AllByRecursion P (numbers_of (sessions_in (filter test xs)))
numbers_all_filter P test [] all = tt
numbers_all_filter P test (x ∷ xs) all =
    elim (cases_Bool (test x)) [
      | inl e ↦ rw e (all.0, numbers_all_filter P test xs all.1)
      | inr e ↦ rw e (numbers_all_filter P test xs all.1)
    ]

pub numbered_filter : (test : Connection → Bool) (xs : List Connection) → AreNumbered (numbers_of (sessions_in xs)) → AreNumbered (numbers_of (sessions_in (filter test xs)))
numbered_filter test [] numbered = tt
numbered_filter test (x ∷ xs) numbered =
    elim (cases_Bool (test x)) [
      | inl e ↦ rw e (numbers_all_filter (λ m. x.number < m) test xs numbered.0, numbered_filter test xs numbered.1)
      | inr e ↦ rw e (numbered_filter test xs numbered.1)
    ]

-- ---- a session after its turn: in its place, or taken away where it is closed

abbrev pub settled : Bool → List Connection → ℕ → List Connection
settled closed xs i = cond closed (remove xs i) xs

pub entries_settled : (n : ℕ) (xs : List Connection) (i : ℕ) (y : Connection) (phase : Bool) → AreNumbered (numbers_of (sessions_in xs)) → i < length xs
    → IsPlace (λ x. same_number n (connection_in x).0) xs i → y.number ≡ n → is_closed y.session.state.phase ≡ phase
    → sessions_in (settled phase (set xs i y) i) ≡ set_at same_number n (if_open y.session.state) (sessions_in xs)
entries_settled n xs i y true numbered within place same closed =
    rw closed (ap sessions_in (remove_set xs i y within)
    ∙ sym (without_nothing same_number n (sessions_in (remove xs i)) (alone n xs i numbered place))
    ∙ without_found same_number connection_in n xs i place)
entries_settled n xs i y false numbered within place same closed =
    rw closed (put_found same_number connection_in n y.session.state xs i y place (ap (λ (m : ℕ). (m, y.session.state)) same))

pub numbered_settled : (xs : List Connection) (i : ℕ) (c y : Connection) (phase : Bool) → AreNumbered (numbers_of (sessions_in xs)) → i < length xs → c ≡ get_or xs i c → y.number ≡ c.number
    → AreNumbered (numbers_of (sessions_in (settled phase (set xs i y) i)))
numbered_settled xs i c y true numbered within is same = rw (remove_set xs i y within) (numbered_removed xs i numbered)
numbered_settled xs i c y false numbered within is same = rw (numbers_set xs i c y within is same) numbered

pub all_settled : (P : Connection → Type 0) (xs : List Connection) (i : ℕ) (y : Connection) (phase : Bool) → AllByRecursion P xs → P y → AllByRecursion P (settled phase (set xs i y) i)
all_settled P xs i y true all h = all_removed P (set xs i y) i (all_set P xs i y all h)
all_settled P xs i y false all h = all_set P xs i y all h

-- ---- the connection of a number

pub found_at : {X : Type 0} (xs : List X) (i : ℕ) → i < length xs → (x : X) × (x ≡ get_or xs i x)
found_at [] i within = absurd (omega arith)
found_at (x ∷ xs) zero within = (x, refl)
found_at (x ∷ xs) (suc i) within = found_at xs i (omega arith)

pub same_place_as : {X : Type 0} (xs : List X) (i : ℕ) (x y : X) → i < length xs → x ≡ get_or xs i x → y ≡ get_or xs i y → x ≡ y
same_place_as [] i x y within is are = absurd (omega arith)
same_place_as (z ∷ xs) zero x y within is are = is ∙ sym are
same_place_as (z ∷ xs) (suc i) x y within is are = same_place_as xs i x y (omega arith) is are

pub place_within : {X : Type 0} (test : X → Bool) (xs : List X) (i : ℕ) → IsPlace test xs i → i < length xs
unfolding IsPlace
place_within test [] i h = absurd h
place_within test (x ∷ xs) zero h = omega arith
place_within test (x ∷ xs) (suc i) h = omega (arith, place_within test xs i h.1)

pub connected_at : (number : ℕ) (xs : List Connection) (i : ℕ) (d : Connection) → IsPlace (λ x. same_number number (connection_in x).0) xs i → d ≡ get_or xs i d
    → (number ≡ d.number) × (connection_at (sessions_in xs) number ≡ connection_in d ∷ [])
unfolding IsPlace
connected_at number [] i d h is = absurd h
connected_at number (x ∷ xs) zero d h is =
    let same : number ≡ x.number = eqb-true number x.number h in
    let number_is : number ≡ d.number = same ∙ ap (λ (y : Connection). y.number) (sym is) in
    (number_is, rw (connection_at, h) (ap (λ (y : Connection). (let e : ℕ × SessionState = (number, y.session.state) in e) ∷ []) (sym is) ∙ ap (λ (n : ℕ). (let e : ℕ × SessionState = (n, d.session.state) in e) ∷ []) number_is))
connected_at number (x ∷ xs) (suc i) d h is = let more = connected_at number xs i d h.1 is in (more.0, rw (connection_at, h.0) more.1)

pub disconnected : (number : ℕ) (es : Connections) → get_at same_number number es ≡ None → connection_at es number ≡ []
disconnected number es none = rw (connection_at, none) refl
