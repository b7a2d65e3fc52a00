-- The decision process: what its filters leave, and which of it is chosen.
use Rattle.std.proofs.Common.{◌≡◌, ◌≢◌, ℕ, Bool, true, false, cond, not, ◌&&◌, ◌||◌, ◌==◌, nat_lt, ◌⊎◌, ◌↔◌, List, [], ◌∷◌, ◌++◌, Contains, Option, Some, None, IsSome, option_map, if◌then◌else◌, refl, sym, ap, subst, ◌∙◌, inl, inr, arith, eq-eqb, ne_eqb, eqb-true}
use Rattle.std.specs.List.{list_any}
use Rattle.std.specs.Cmp.{both_ways}
use Rattle.std.proofs.lemmas.List.Folds.{list_any-append}
use Rattle.std.proofs.Math.Bool.{or-false}
use Rattle.std.proofs.lemmas.Bool.{false≢true}
use Rattle.std.proofs.lemmas.Bool.Decides.{nat_tests}
use Rattle.rcp_model.proofs.MemberLemmas.{Contains-head, Contains-tail, Contains-cases, Contains-filled, any_member, any_from_member, none_at_member, none_from_members, filter_member, member_of_filter, filter_alike, filter-filter}
use Rattle.rcp_model.specs.Decision.{Contender, unbeaten, has_higher_preference, has_shorter_path, has_lower_origin, has_lower_exit, tied, goes_before, is_of, is_lower_pair, is_nearer, nearest, choice, IsNearest}

-- ---- what a filter leaves

-- each member that a filter leaves is one of the list, and none of the list beats it
pub unbeaten_member : (beats : Contender → Contender → Bool) (list : List Contender) (a : Contender) → Contains list a → list_any (λ b. beats b a) list ≡ false → Contains (unbeaten beats list) a
unbeaten_member beats list a member none = filter_member (λ a. not (list_any (λ b. beats b a) list)) list a member (ap not none)

not-true : (b : Bool) → not b ≡ true → b ≡ false
not-true true h = sym h
not-true false h = refl

pub member_of_unbeaten : (beats : Contender → Contender → Bool) (list : List Contender) (a : Contender) → Contains (unbeaten beats list) a → Contains list a × (list_any (λ b. beats b a) list ≡ false)
member_of_unbeaten beats list a member =
    let found = member_of_filter (λ a. not (list_any (λ b. beats b a) list)) list a member in
    (found.0, not-true (list_any (λ b. beats b a) list) found.1)

-- an order in which no route beats itself
pub record IsStrictOrder (beats : Contender → Contender → Bool) : Type 0 where
  pub never_itself : (a : Contender) → beats a a ≡ false
  pub chain : (a b c : Contender) → beats a b ≡ true → beats b c ≡ true → beats a c ≡ true

-- some member of a list that isn't empty is beaten by none
best_of : (beats : Contender → Contender → Bool) → IsStrictOrder beats → (list : List Contender) → list ≢ [] → (a : Contender) × Contains list a × (list_any (λ b. beats b a) list ≡ false)
best_of beats order [] filled = absurd (filled refl)
best_of beats order (a ∷ []) filled = (a, Contains-head a [], rw (order.never_itself a) refl)
best_of beats order (a ∷ b ∷ list) filled = at_test (best_of beats order (b ∷ list) (Contains-filled (b ∷ list) b (Contains-head b list))) where
  at_test : (m : Contender) × Contains (b ∷ list) m × (list_any (λ c. beats c m) (b ∷ list) ≡ false) → (m : Contender) × Contains (a ∷ b ∷ list) m × (list_any (λ c. beats c m) (a ∷ b ∷ list) ≡ false)
  at_test best = by_case (beats a best.0) refl where
    by_case : (t : Bool) → beats a best.0 ≡ t → (m : Contender) × Contains (a ∷ b ∷ list) m × (list_any (λ c. beats c m) (a ∷ b ∷ list) ≡ false)
    by_case true h = (a, Contains-head a (b ∷ list), rw (order.never_itself a) (none_from_members (λ c. beats c a) (b ∷ list) (λ c member. unbeaten_by c member (beats c a) refl))) where
      unbeaten_by : (c : Contender) → Contains (b ∷ list) c → (t : Bool) → beats c a ≡ t → beats c a ≡ false
      unbeaten_by c member true k = absurd (false≢true (sym (none_at_member (λ c. beats c best.0) (b ∷ list) c best.2 member) ∙ order.chain c a best.0 k h))
      unbeaten_by c member false k = k
    by_case false h = (best.0, Contains-tail a (b ∷ list) best.0 best.1, rw h best.2)

pub unbeaten_filled : (beats : Contender → Contender → Bool) → IsStrictOrder beats → (list : List Contender) → list ≢ [] → unbeaten beats list ≢ []
unbeaten_filled beats order list filled =
    let best = best_of beats order list filled in
    Contains-filled (unbeaten beats list) best.0 (unbeaten_member beats list best.0 best.1 best.2)

-- ---- the four filters are such orders

module _ (f : Contender → ℕ) where
  pub lower_order : IsStrictOrder (λ b a. nat_lt (f b) (f a))
  lower_order = record { never_itself = λ a. grind (arith, nat_tests); chain = λ a b c h k. grind (arith, nat_tests) }

  pub higher_order : IsStrictOrder (λ b a. nat_lt (f a) (f b))
  higher_order = record { never_itself = λ a. grind (arith, nat_tests); chain = λ a b c h k. grind (arith, nat_tests) }

pub exit_order : IsStrictOrder has_lower_exit
exit_order = record { never_itself = λ a. grind (arith, nat_tests); chain = λ a b c h k. chained a.neighbour b.neighbour c.neighbour a.med b.med c.med h k } where
  chained : (a b c l m n : ℕ) → (a == b && nat_lt l m) ≡ true → (b == c && nat_lt m n) ≡ true → (a == c && nat_lt l n) ≡ true
  chained a b c l m n h k = grind (arith, nat_tests)

-- ---- one filter after another is one filter

-- Beaten where it is by the first, or at its level by the second.
abbrev after_tie : (Contender → Contender → Bool) → (Contender → Contender → Bool) → (Contender → Contender → Bool) → Contender → Contender → Bool
after_tie first level second b a = first b a || level b a && second b a

module _ (first level second : Contender → Contender → Bool)
    (lifts : (a b c : Contender) → first c b ≡ true → level b a ≡ true → first c a ≡ true)
    (tie : (a b : Contender) → first a b ≡ false → first b a ≡ false → level b a ≡ true) where
  unbeaten-unbeaten : (list : List Contender) → unbeaten second (unbeaten first list) ≡ unbeaten (after_tie first level second) list
  unbeaten-unbeaten list =
      filter-filter (λ a. not (list_any (λ b. first b a) list)) (λ a. not (list_any (λ b. second b a) (unbeaten first list))) list
      ∙ filter_alike _ (λ a. not (list_any (λ b. after_tie first level second b a) list)) list (λ a member. alike a member (list_any (λ b. first b a) list) refl) where
        -- a member that the first leaves is beaten by the second there exactly where it is beaten in the list at its level
        among_left : (a : Contender) → Contains list a → list_any (λ b. first b a) list ≡ false → list_any (λ b. second b a) (unbeaten first list) ≡ list_any (λ b. after_tie first level second b a) list
        among_left a member none = both_ways _ _
            (λ any.
            let by = any_member (λ b. second b a) (unbeaten first list) any in
            let left = member_of_unbeaten first list by.0 by.1 in
            any_from_member (λ b. after_tie first level second b a) list by.0 left.0
            (of_tie (first by.0 a) (level by.0 a) (second by.0 a) (tie a by.0 (none_at_member (λ c. first c by.0) list a left.1 member) (none_at_member (λ b. first b a) list by.0 none left.0)) by.2))
            (λ any.
            let by = any_member (λ b. after_tie first level second b a) list any in
            let parts = to_tie (first by.0 a) (level by.0 a) (second by.0 a) (none_at_member (λ b. first b a) list by.0 none by.1) by.2 in
            any_from_member (λ b. second b a) (unbeaten first list) by.0
            (unbeaten_member first list by.0 by.1 (none_from_members (λ c. first c by.0) list (λ c inside. no_better a by.0 c none inside parts.0 (first c by.0) refl))) parts.1) where
              of_tie : (f l s : Bool) → l ≡ true → s ≡ true → (f || l && s) ≡ true
              of_tie true l s p q = refl
              of_tie false l s p q = rw (p, q) refl

              to_tie : (f l s : Bool) → f ≡ false → (f || l && s) ≡ true → (l ≡ true) × (s ≡ true)
              to_tie true l s f any = absurd (false≢true (sym f))
              to_tie false true true f any = (refl, refl)
              to_tie false true false f any = absurd (false≢true any)
              to_tie false false s f any = absurd (false≢true any)

              no_better : (a b c : Contender) → list_any (λ b. first b a) list ≡ false → Contains list c → level b a ≡ true → (t : Bool) → first c b ≡ t → first c b ≡ false
              no_better a b c none inside even true h = absurd (false≢true (sym (none_at_member (λ b. first b a) list c none inside) ∙ lifts a b c h even))
              no_better a b c none inside even false h = h

        alike : (a : Contender) → Contains list a → (t : Bool) → list_any (λ b. first b a) list ≡ t
            → (not (list_any (λ b. first b a) list) && not (list_any (λ b. second b a) (unbeaten first list))) ≡ not (list_any (λ b. after_tie first level second b a) list)
        alike a member true h =
            let by = any_member (λ b. first b a) list h in
            rw (h, any_from_member (λ b. after_tie first level second b a) list by.0 by.1 (rw (by.2) refl)) refl
        alike a member false h = rw (h, among_left a member h) refl

module _ (f : Contender → ℕ) (second : Contender → Contender → Bool) (list : List Contender) where
  lower_first : unbeaten second (unbeaten (λ b a. nat_lt (f b) (f a)) list) ≡ unbeaten (after_tie (λ b a. nat_lt (f b) (f a)) (λ b a. f b == f a) second) list
  lower_first = unbeaten-unbeaten (λ b a. nat_lt (f b) (f a)) (λ b a. f b == f a) second (λ a b c h k. grind (arith, nat_tests)) (λ a b h k. grind (arith, nat_tests)) list

  higher_first : unbeaten second (unbeaten (λ b a. nat_lt (f a) (f b)) list) ≡ unbeaten (after_tie (λ b a. nat_lt (f a) (f b)) (λ b a. f b == f a) second) list
  higher_first = unbeaten-unbeaten (λ b a. nat_lt (f a) (f b)) (λ b a. f b == f a) second (λ a b c h k. grind (arith, nat_tests)) (λ a b h k. grind (arith, nat_tests)) list

-- the four filters are one
pub tied_is : (list : List Contender) → tied list ≡ unbeaten goes_before list
unfolding tied
tied_is list =
    let by_origin = after_tie has_lower_origin (λ b a. b.origin == a.origin) has_lower_exit in
    let by_path = after_tie has_shorter_path (λ b a. b.hops == a.hops) by_origin in
    lower_first (λ a. a.origin) has_lower_exit (unbeaten has_shorter_path (unbeaten has_higher_preference list))
    ∙ lower_first (λ a. a.hops) by_origin (unbeaten has_higher_preference list)
    ∙ higher_first (λ a. a.pref) by_path list

pub tied_filled : (list : List Contender) → list ≢ [] → tied list ≢ []
unfolding tied
tied_filled list filled =
    unbeaten_filled has_lower_exit exit_order _
    (unbeaten_filled has_lower_origin (lower_order (λ a. a.origin)) _
    (unbeaten_filled has_shorter_path (lower_order (λ a. a.hops)) _
    (unbeaten_filled has_higher_preference (higher_order (λ a. a.pref)) list filled)))

-- a tied route is one of the list, and none of the list goes before it
pub member_of_tied : (list : List Contender) (a : Contender) → Contains (tied list) a → Contains list a × ((b : Contender) → Contains list b → goes_before b a ≡ false)
member_of_tied list a member =
    let found = member_of_unbeaten goes_before list a (subst (λ left. Contains left a) (tied_is list) member) in
    (found.0, λ b inside. none_at_member (λ b. goes_before b a) list b found.1 inside)

pub tied_member : (list : List Contender) (a : Contender) → Contains list a → ((b : Contender) → Contains list b → goes_before b a ≡ false) → Contains (tied list) a
tied_member list a member none =
    subst (λ left. Contains left a) (sym (tied_is list)) (unbeaten_member goes_before list a member (none_from_members (λ b. goes_before b a) list none))

tied-nil : tied [] ≡ []
unfolding tied
tied-nil = refl

-- ---- the nearest

module _ (m k n l : ℕ) where
  lower_pair-itself : is_lower_pair (Some m) k (Some m) k ≡ false
  lower_pair-itself = grind (arith, nat_tests)

  lower_pair-chain : (o p : ℕ) → is_lower_pair (Some m) k (Some n) l ≡ true → is_lower_pair (Some n) l (Some o) p ≡ true → is_lower_pair (Some m) k (Some o) p ≡ true
  lower_pair-chain o p h i = grind (arith, nat_tests)

  lower_pair-between : (o p : ℕ) → is_lower_pair (Some m) k (Some n) l ≡ true → (is_lower_pair (Some m) k (Some o) p ≡ true) ⊎ (is_lower_pair (Some o) p (Some n) l ≡ true)
  lower_pair-between o p h = grind (arith, nat_tests)

  lower_pair-tie : is_lower_pair (Some m) k (Some n) l ≡ false → is_lower_pair (Some n) l (Some m) k ≡ false → k ≡ l
  lower_pair-tie h i = grind (arith, nat_tests)

nearer-itself : (p : Option ℕ) (k : ℕ) → is_lower_pair p k p k ≡ false
nearer-itself None k = refl
nearer-itself (Some m) k = lower_pair-itself m k m k

nearer-chain : (p q r : Option ℕ) (k l n : ℕ) → is_lower_pair p k q l ≡ true → is_lower_pair q l r n ≡ true → is_lower_pair p k r n ≡ true
nearer-chain None q r k l n h i = absurd (false≢true h)
nearer-chain (Some m) None r k l n h i = absurd (false≢true i)
nearer-chain (Some m) (Some o) None k l n h i = refl
nearer-chain (Some m) (Some o) (Some p) k l n h i = lower_pair-chain m k o l p n h i

-- of three each lies below one of the others where those do
pub nearer-between : (p q r : Option ℕ) (k l n : ℕ) → is_lower_pair p k q l ≡ true → (is_lower_pair p k r n ≡ true) ⊎ (is_lower_pair r n q l ≡ true)
nearer-between None q r k l n h = absurd (false≢true h)
nearer-between (Some m) q None k l n h = inl refl
nearer-between (Some m) None (Some p) k l n h = inr refl
nearer-between (Some m) (Some o) (Some p) k l n h = lower_pair-between m k o l p n h

-- routes that are reached are as near as each other only with one identifier
nearer-tie : (p q : Option ℕ) (k l : ℕ) → IsSome p → IsSome q → is_lower_pair p k q l ≡ false → is_lower_pair q l p k ≡ false → k ≡ l
nearer-tie None q k l h i f g = absurd (false≢true h)
nearer-tie (Some m) None k l h i f g = absurd (false≢true i)
nearer-tie (Some m) (Some n) k l h i f g = lower_pair-tie m k n l f g

nearer_order : (cost : ℕ → Option ℕ) → IsStrictOrder (is_nearer cost)
nearer_order cost = record {
  never_itself = λ a. nearer-itself (cost a.slot) a.id;
  chain = λ a b c h k. nearer-chain (cost a.slot) (cost b.slot) (cost c.slot) a.id b.id c.id h k;
}

-- the nearest as a contender
abbrev pub front : (ℕ → Option ℕ) → List Contender → Option Contender
front cost [] = None
front cost (a ∷ list) = if list_any (λ b. is_nearer cost b a) list then front cost list else Some a

pub nearest-front : (cost : ℕ → Option ℕ) (list : List Contender) → nearest cost list ≡ option_map (λ (a : Contender). a.slot) (front cost list)
nearest-front cost [] = refl
nearest-front cost (a ∷ list) = at_test (list_any (λ b. is_nearer cost b a) list) (nearest-front cost list) where
  at_test : (t : Bool) → nearest cost list ≡ option_map (λ (a : Contender). a.slot) (front cost list)
      → cond t (nearest cost list) (Some a.slot) ≡ option_map (λ (a : Contender). a.slot) (cond t (front cost list) (Some a))
  at_test true rest = rest
  at_test false rest = refl

-- none of the list is nearer than the front
pub front_is : (cost : ℕ → Option ℕ) (list : List Contender) → list ≢ [] → (a : Contender) × (front cost list ≡ Some a) × IsNearest cost list a
front_is cost [] filled = absurd (filled refl)
front_is cost (a ∷ list) filled = at_test (list_any (λ b. is_nearer cost b a) list) refl (front_is cost list) where
  at_test : (t : Bool) → list_any (λ b. is_nearer cost b a) list ≡ t → (list ≢ [] → (m : Contender) × (front cost list ≡ Some m) × IsNearest cost list m)
      → (m : Contender) × (cond t (front cost list) (Some a) ≡ Some m) × IsNearest cost (a ∷ list) m
  at_test true any rest =
      let by = any_member (λ b. is_nearer cost b a) list any in
      let best = rest (Contains-filled list by.0 by.1) in (
        best.0,
        best.1,
        record {
          among = Contains-tail a list best.0 best.2.among;
          least = λ b inside. elim (Contains-cases a list b inside) [
            | inl same ↦ subst (λ c. is_nearer cost c best.0 ≡ false) same (not_nearer by best.0 best.2 (is_nearer cost a best.0) refl)
            | inr later ↦ best.2.least b later
          ];
        },
      ) where
        not_nearer : (by : (b : Contender) × Contains list b × (is_nearer cost b a ≡ true)) (m : Contender) → IsNearest cost list m → (t : Bool) → is_nearer cost a m ≡ t → is_nearer cost a m ≡ false
        not_nearer by m best true h = absurd (false≢true (sym (best.least by.0 by.1) ∙ (nearer_order cost).chain by.0 a m by.2 h))
        not_nearer by m best false h = h
  at_test false none rest = (
    a,
    refl,
    record {
      among = Contains-head a list;
      least = λ b inside. elim (Contains-cases a list b inside) [
        | inl same ↦ subst (λ c. is_nearer cost c a ≡ false) same ((nearer_order cost).never_itself a)
        | inr later ↦ none_at_member (λ b. is_nearer cost b a) list b none later
      ];
    },
  )

front_member : (cost : ℕ → Option ℕ) (list : List Contender) (m : Contender) → front cost list ≡ Some m → Contains list m
front_member cost [] m found = absurd (none_some found) where
  none_some : None ≡ Some m → ⊥
  none_some e = cc
front_member cost (a ∷ list) m found = at_test (list_any (λ b. is_nearer cost b a) list) (front_member cost list m) found where
  at_test : (t : Bool) → (front cost list ≡ Some m → Contains list m) → cond t (front cost list) (Some a) ≡ Some m → Contains (a ∷ list) m
  at_test true rest found = Contains-tail a list m (rest found)
  at_test false rest found = let same : a ≡ m = cc in subst (λ b. Contains (a ∷ list) b) same (Contains-head a list)

nearest_is : (cost : ℕ → Option ℕ) (list : List Contender) → list ≢ [] → (a : Contender) × (nearest cost list ≡ Some a.slot) × IsNearest cost list a
nearest_is cost list filled = let best = front_is cost list filled in (best.0, nearest-front cost list ∙ ap (option_map (λ (a : Contender). a.slot)) best.1, best.2)

-- with one contender more at the end: that one where it is nearer
abbrev pub nearer_of : (ℕ → Option ℕ) → Option Contender → Contender → Contender
nearer_of cost None a = a
nearer_of cost (Some best) a = if is_nearer cost a best then a else best

pub front-push : (cost : ℕ → Option ℕ) (list : List Contender) (y : Contender) → front cost (list ++ y ∷ []) ≡ Some (nearer_of cost (front cost list) y)
front-push cost [] y = refl
front-push cost (x ∷ list) y =
    rw (list_any-append (λ b. is_nearer cost b x) list (y ∷ []), or-false (is_nearer cost y x))
    (at_tests (list_any (λ b. is_nearer cost b x) list) (is_nearer cost y x) refl refl (front-push cost list y)) where
      at_tests : (any last : Bool) → list_any (λ b. is_nearer cost b x) list ≡ any → is_nearer cost y x ≡ last → front cost (list ++ y ∷ []) ≡ Some (nearer_of cost (front cost list) y)
          → cond (any || last) (front cost (list ++ y ∷ [])) (Some x) ≡ Some (nearer_of cost (cond any (front cost list) (Some x)) y)
      at_tests true last some is rest = rest
      at_tests false true none is rest = rest ∙ ap Some (over (front cost list) (λ m found. elim (nearer-between (cost y.slot) (cost x.slot) (cost m.slot) y.id x.id m.id is) [
        | inl beats ↦ beats
        | inr beats ↦ absurd (false≢true (sym (none_at_member (λ b. is_nearer cost b x) list m none (front_member cost list m found)) ∙ beats))
      ])) where
        over : (o : Option Contender) → ((m : Contender) → o ≡ Some m → is_nearer cost y m ≡ true) → nearer_of cost o y ≡ cond (is_nearer cost y x) y x
        over None beats = rw is refl
        over (Some m) beats = rw (is, beats m refl) refl
      at_tests false false none is rest = rw is refl

-- ---- the choice

pub choice_own : (slot : ℕ) (cost : ℕ → Option ℕ) (list : List Contender) (a : Contender) → Contains (tied list) a → a.slot ≡ slot → choice slot cost list ≡ Some slot
unfolding choice
choice_own slot cost list a member own = rw (any_from_member (is_of slot) (tied list) a member (eq-eqb a.slot slot own)) refl

pub choice_other : (slot : ℕ) (cost : ℕ → Option ℕ) (list : List Contender) → ((a : Contender) → Contains (tied list) a → a.slot ≢ slot) → list ≢ []
    → (a : Contender) × (choice slot cost list ≡ Some a.slot) × IsNearest cost (tied list) a
unfolding choice
choice_other slot cost list others filled =
    let best = nearest_is cost (tied list) (tied_filled list filled) in
    (best.0, rw (none_from_members (is_of slot) (tied list) (λ a member. ne_eqb a.slot slot (others a member))) best.1, best.2)

-- whether the slot's own route is tied, with what that says
own_cases : (slot : ℕ) (list : List Contender) → ((a : Contender) × Contains (tied list) a × (a.slot ≡ slot)) ⊎ ((a : Contender) → Contains (tied list) a → a.slot ≢ slot)
own_cases slot list = at_test (list_any (is_of slot) (tied list)) refl where
  at_test : (t : Bool) → list_any (is_of slot) (tied list) ≡ t → ((a : Contender) × Contains (tied list) a × (a.slot ≡ slot)) ⊎ ((a : Contender) → Contains (tied list) a → a.slot ≢ slot)
  at_test true any = let by = any_member (is_of slot) (tied list) any in inl (by.0, by.1, eqb-true by.0.slot slot by.2)
  at_test false none = inr (λ a member same. false≢true (sym (none_at_member (is_of slot) (tied list) a none member) ∙ eq-eqb a.slot slot same))

-- the choice is a tied route's
pub choice_is_tied : (slot : ℕ) (cost : ℕ → Option ℕ) (list : List Contender) → list ≢ [] → (a : Contender) × Contains (tied list) a × (choice slot cost list ≡ Some a.slot)
choice_is_tied slot cost list filled = elim (own_cases slot list) [
  | inl own ↦ (own.0, own.1, choice_own slot cost list own.0 own.1 own.2 ∙ ap Some (sym own.2))
  | inr others ↦ let best = choice_other slot cost list others filled in (best.0, best.2.among, best.1)
]

pub choice-nil : (slot : ℕ) (cost : ℕ → Option ℕ) → choice slot cost [] ≡ None
unfolding choice tied
choice-nil slot cost = refl

-- none exactly where there is no route
pub choice_none : (slot : ℕ) (cost : ℕ → Option ℕ) (list : List Contender) → (choice slot cost list ≡ None) ↔ (list ≡ [])
choice_none slot cost list = (of_list list, λ empty. ap (choice slot cost) empty ∙ choice-nil slot cost) where
  some_none : {n : ℕ} → Some n ≡ None → ⊥
  some_none e = cc

  of_list : (list : List Contender) → choice slot cost list ≡ None → list ≡ []
  of_list [] none = refl
  of_list (a ∷ list) none =
      let found = choice_is_tied slot cost (a ∷ list) (Contains-filled (a ∷ list) a (Contains-head a list)) in
      absurd (some_none (sym found.2 ∙ none))

-- of routes with distinct identifiers, all reached, one is nearest
pub choice_is_nearest : (slot : ℕ) (cost : ℕ → Option ℕ) (list : List Contender) (a : Contender)
    → ((b c : Contender) → Contains list b → Contains list c → b.id ≡ c.id → b.slot ≡ c.slot)
    → ((b : Contender) → Contains list b → IsSome (cost b.slot))
    → ((b : Contender) → Contains (tied list) b → b.slot ≢ slot)
    → IsNearest cost (tied list) a → choice slot cost list ≡ Some a.slot
choice_is_nearest slot cost list a one reached others best =
    let listed = (member_of_tied list a best.among).0 in
    let found = choice_other slot cost list others (Contains-filled list a listed) in
    let found_listed = (member_of_tied list found.0 found.2.among).0 in
    let same_id : found.0.id ≡ a.id =
    nearer-tie (cost found.0.slot) (cost a.slot) found.0.id a.id (reached found.0 found_listed) (reached a listed) (best.least found.0 found.2.among) (found.2.least a best.among) in
    found.1 ∙ ap Some (one found.0 a found_listed listed same_id)
