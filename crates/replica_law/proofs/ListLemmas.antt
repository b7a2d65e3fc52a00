-- Lists that a loop takes item by item, and the first item of a list that passes a test.
use Rattle.std.proofs.Common.{◌≡◌, ◌≢◌, not, min, ℕ, zero, suc, ◌+◌, ◌<◌, ◌≤◌, Bool, true, false, cond, ◌⊎◌, List, [], ◌∷◌, ◌++◌, length, take, Contains, AllPairs, Option, Some, None, MatchOption, slice_get, refl, sym, ap, subst, ◌∙◌, inl, inr, arith, length-append, eqb, eqb-true, eq-eqb}
use Rattle.std.proofs.lemmas.Option.{none-some, same_Some, get_or_from_slice_get, slice_get_within, slice_get_cases}
use Rattle.std.proofs.lemmas.Bool.{false≢true}
use Rattle.std.proofs.lemmas.List.{take_more, take_all}
use Rattle.std.proofs.lemmas.List.Kept.{AllPairs-from_increasing}
use Rattle.std.specs.List.Sorted.{IsStrictlyIncreasing}
use Rattle.std.specs.List.{find}
use Rattle.rcp_model.specs.RouteServer.{same_cost}
use Rattle.replica_law.specs.Steps.{unlike, lower, IsFirstApart}
use Rattle.rcp_model.proofs.MemberLemmas.{Contains-head, Contains-tail, Contains-cases, Contains-none}

pub took_item : {X : Type 0} (all items more : List X) (n : ℕ) (x : X) → items ≡ take (length items) all → n ≡ length items → Some x ≡ slice_get all n → more ≡ items ++ x ∷ [] → more ≡ take (length more) all
took_item {X} all items more n x before n_is read more_is =
    let at : slice_get all (length items) ≡ Some x = ap (slice_get all) (sym n_is) ∙ sym read in
    let within = slice_get_within all (length items) x at in
    let len : length more ≡ length items + 1 = ap length more_is ∙ length-append items (x ∷ []) in
    more_is ∙ ap (λ (l : List X). l ++ x ∷ []) before
    ∙ sym (take_more all (length items) x within ∙ ap (λ (y : X). take (length items) all ++ y ∷ []) (get_or_from_slice_get all (length items) x x at)) ∙ ap (λ k. take k all) (sym len)

pub past : {X : Type 0} (xs : List X) (n : ℕ) → None ≡ slice_get xs n → length xs ≤ n
past xs n none = elim (slice_get_cases xs n).1 [
  | inl found ↦ absurd (none-some _ (none ∙ found.2))
  | inr beyond ↦ beyond.0
]

pub took_all : {X : Type 0} (all items : List X) (n : ℕ) → items ≡ take (length items) all → n ≡ length items → None ≡ slice_get all n → items ≡ all
took_all all items n before n_is none = before ∙ take_all (length items) all (let all_past = past all n none in omega (arith, all_past, n_is))

-- ---- the first that passes a test

pairs-head : {X : Type 0} (R : X → X → Type 0) (x : X) (xs : List X) → AllPairs R (x ∷ xs) → (y : X) → Contains xs y → R x y
pairs-head {X} R x xs pairs y member = subst (λ (z : X). R x z) member.2 (pairs 0 (suc member.0) y (omega arith) (omega (arith, member.1)))

pairs-tail : {X : Type 0} (R : X → X → Type 0) (x : X) (xs : List X) → AllPairs R (x ∷ xs) → AllPairs R xs
pairs-tail R x xs pairs i j d less within = pairs (suc i) (suc j) d (omega (arith, less)) (omega (arith, within))

pub find_none : {X : Type 0} (p : X → Bool) (xs : List X) → find p xs ≡ None → (x : X) → Contains xs x → p x ≡ false
find_none p [] is x member = absurd (Contains-none x member)
find_none {X} p (y ∷ xs) is x member = at_test (p y) refl (λ none later. find_none p xs none x later) is where
  at_test : (t : Bool) → p y ≡ t → (find p xs ≡ None → Contains xs x → p x ≡ false) → cond t (Some y) (find p xs) ≡ None → p x ≡ false
  at_test true test rest is = absurd (none-some _ (sym is))
  at_test false test rest is = elim (Contains-cases y xs x member) [ inl same ↦ subst (λ (z : X). p z ≡ false) same test | inr later ↦ rest is later ]

-- among numbers that don't fall, the least one that passes
pub record IsLeastPassing (p : ℕ → Bool) (xs : List ℕ) (x : ℕ) : Type 0 where
  pub member : Contains xs x
  pub passes : p x ≡ true
  pub lower_fail : (y : ℕ) → Contains xs y → y < x → p y ≡ false

pub find_least : (p : ℕ → Bool) (xs : List ℕ) (x : ℕ) → AllPairs (λ a b. a ≤ b) xs → find p xs ≡ Some x → IsLeastPassing p xs x
find_least p [] x rising is = absurd (none-some _ is)
find_least p (y ∷ xs) x rising is = at_test (p y) refl (λ some. find_least p xs x (pairs-tail (λ a b. a ≤ b) y xs rising) some) is where
  first_low : (z : ℕ) → Contains (y ∷ xs) z → y ≤ z
  first_low z member = elim (Contains-cases y xs z member) [ inl same ↦ omega (arith, same) | inr later ↦ pairs-head (λ a b. a ≤ b) y xs rising z later ]

  at_test : (t : Bool) → p y ≡ t → (find p xs ≡ Some x → IsLeastPassing p xs x) → cond t (Some y) (find p xs) ≡ Some x → IsLeastPassing p (y ∷ xs) x
  at_test true test rest is =
      let same : y ≡ x = same_Some _ _ is in
      subst (λ z. IsLeastPassing p (y ∷ xs) z) same record {
        member = Contains-head y xs;
        passes = test;
        lower_fail = λ z member less. let low = first_low z member in absurd (omega (arith, low, less));
      }
  at_test false test rest is =
      let later = rest is in
      record {
        member = Contains-tail y xs x later.member;
        passes = later.passes;
        lower_fail = λ z member less. elim (Contains-cases y xs z member) [ inl same ↦ subst (λ w. p w ≡ false) same test | inr tail ↦ later.lower_fail z tail less ];
      }

pub not_falling : (xs : List ℕ) → IsStrictlyIncreasing xs → AllPairs (λ a b. a ≤ b) xs
not_falling xs rising i j d less within = let below = AllPairs-from_increasing xs rising i j d less within in omega (arith, below)

-- ---- the first place at which two functions differ

-- a test passes exactly where they differ
pub record IsTestOf {V : Type 0} (p : ℕ → Bool) (f g : ℕ → V) : Type 0 where
  pub differs : (u : ℕ) → p u ≡ true → f u ≢ g u
  pub same : (u : ℕ) → p u ≡ false → f u ≡ g u

pub unlike_test : (f g : ℕ → Bool) → IsTestOf (λ u. unlike (f u) (g u)) f g
unlike_test f g = record { differs = λ u is. differ (f u) (g u) is; same = λ u is. equal (f u) (g u) is } where
  differ : (a b : Bool) → unlike a b ≡ true → a ≢ b
  differ true true is same = false≢true is
  differ true false is same = false≢true (sym same)
  differ false true is same = false≢true same
  differ false false is same = false≢true is

  equal : (a b : Bool) → unlike a b ≡ false → a ≡ b
  equal true true is = refl
  equal true false is = absurd (false≢true (sym is))
  equal false true is = absurd (false≢true (sym is))
  equal false false is = refl

pub cost_test : (f g : ℕ → Option ℕ) → IsTestOf (λ u. not (same_cost (f u) (g u))) f g
cost_test f g = record { differs = λ u is. differ (f u) (g u) is; same = λ u is. equal (f u) (g u) is } where
  differ : (a b : Option ℕ) → not (same_cost a b) ≡ true → a ≢ b
  differ None None is same = false≢true is
  differ None (Some n) is same = none-some _ same
  differ (Some m) None is same = none-some _ (sym same)
  differ (Some m) (Some n) is same = false≢true (sym (ap not (eq-eqb m n (same_Some _ _ same))) ∙ is)

  equal : (a b : Option ℕ) → not (same_cost a b) ≡ false → a ≡ b
  equal None None is = refl
  equal None (Some n) is = absurd (false≢true (sym is))
  equal (Some m) None is = absurd (false≢true (sym is))
  equal (Some m) (Some n) is = at_test (eqb m n) (eqb-true m n) is where
    at_test : (t : Bool) → (t ≡ true → m ≡ n) → not t ≡ false → Some m ≡ Some n
    at_test true same is = ap Some (same refl)
    at_test false same is = absurd (false≢true (sym is))

-- of some routers
pub first_of_list : {V : Type 0} (p : ℕ → Bool) (f g : ℕ → V) (xs : List ℕ) (found : Option ℕ) → IsTestOf p f g → IsStrictlyIncreasing xs → found ≡ find p xs
    → MatchOption found ((u : ℕ) → Contains xs u → f u ≡ g u) (IsFirstApart (Contains xs) f g)
first_of_list p f g xs None test rising is = λ u member. test.same u (find_none p xs (sym is) u member)
first_of_list p f g xs (Some u) test rising is =
    let least = find_least p xs u (not_falling xs rising) (sym is) in
    record {
      inside = least.member;
      apart = test.differs u least.passes;
      lower_same = λ v member less. test.same v (least.lower_fail v member less);
    }

min_cases : (m n : ℕ) → (min m n ≡ m) ⊎ (min m n ≡ n)
min_cases m n = grind arith

-- of all, where two lists have each at which they differ
pub first_of_two : {V : Type 0} (p : ℕ → Bool) (f g : ℕ → V) (xs ys : List ℕ) (a b : Option ℕ) → IsTestOf p f g → AllPairs (λ m n. m ≤ n) xs → AllPairs (λ m n. m ≤ n) ys
    → ((u : ℕ) → p u ≡ true → Contains xs u ⊎ Contains ys u) → a ≡ find p xs → b ≡ find p ys
    → MatchOption (lower a b) ((u : ℕ) → f u ≡ g u) (IsFirstApart (λ u. Unit {0}) f g)
first_of_two p f g xs ys a b test xs_rise ys_rise covered a_is b_is = by_both a b a_is b_is where
  -- nothing passes that stands in neither list before what was found there
  fails : (u : ℕ) → (Contains xs u → p u ≡ false) → (Contains ys u → p u ≡ false) → f u ≡ g u
  fails u in_xs in_ys = at_test (p u) refl where
    at_test : (t : Bool) → p u ≡ t → f u ≡ g u
    at_test true passes = elim (covered u passes) [ inl here ↦ absurd (false≢true (sym (in_xs here) ∙ passes)) | inr there ↦ absurd (false≢true (sym (in_ys there) ∙ passes)) ]
    at_test false fails = test.same u fails

  by_both : (a b : Option ℕ) → a ≡ find p xs → b ≡ find p ys → MatchOption (lower a b) ((u : ℕ) → f u ≡ g u) (IsFirstApart (λ u. Unit {0}) f g)
  by_both None None a_is b_is = λ u. fails u (λ here. find_none p xs (sym a_is) u here) (λ there. find_none p ys (sym b_is) u there)
  by_both None (Some n) a_is b_is =
      let second = find_least p ys n ys_rise (sym b_is) in
      record {
        inside = tt;
        apart = test.differs n second.passes;
        lower_same = λ u inside less. fails u (λ here. find_none p xs (sym a_is) u here) (λ there. second.lower_fail u there less);
      }
  by_both (Some m) None a_is b_is =
      let first = find_least p xs m xs_rise (sym a_is) in
      record {
        inside = tt;
        apart = test.differs m first.passes;
        lower_same = λ u inside less. fails u (λ here. first.lower_fail u here less) (λ there. find_none p ys (sym b_is) u there);
      }
  by_both (Some m) (Some n) a_is b_is =
      let first = find_least p xs m xs_rise (sym a_is) in
      let second = find_least p ys n ys_rise (sym b_is) in
      record {
        inside = tt;
        apart = elim (min_cases m n) [ inl is ↦ subst (λ k. f k ≢ g k) (sym is) (test.differs m first.passes) | inr is ↦ subst (λ k. f k ≢ g k) (sym is) (test.differs n second.passes) ];
        lower_same = λ u inside less. fails u (λ here. first.lower_fail u here (omega (arith, less))) (λ there. second.lower_fail u there (omega (arith, less)));
      }
