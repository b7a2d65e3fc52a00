-- The first flag of a sorted list that is set, and passes a test, is that of the least prefix that does.
use Rattle.std.proofs.Common.{◌≡◌, Bool, true, false, cond, ◌&&◌, List, [], ◌∷◌, filter, find, Option, Some, None, unwrap_or, refl, sym, ap, subst, ◌∙◌}
use Rattle.std.specs.List.{AllByRecursion}
use Rattle.std.specs.Map.{keys_of, lookup}
use Rattle.std.specs.List.Sorted.{IsStrictlySortedBy}
use Rattle.std.specs.Ordering.{is_eq, eq_by_cmp, ordering_reverse}
use Rattle.std.specs.declared.cmp.Ordering.{Ordering}
use Rattle.std.specs.declared.cmp.Ordering.TheVariants.{Less, Equal, Greater}
use Rattle.std.proofs.lemmas.Bool.{false≢true, and_from}
use Rattle.std.proofs.lemmas.Cmp.{tied_itself}
use Rattle.rcp_base.specs.IpPrefix.{IpPrefix, prefix_cmp}
use Rattle.rcp_model.proofs.RibLemmas.{prefix_total, prefix_exact}
use Rattle.pending_marks.specs.Marks.{Flag}

-- ---- the order of prefixes

is_equal : (o : Ordering) → is_eq o ≡ true → o ≡ Equal
is_equal Less e = absurd (false≢true e)
is_equal Equal e = refl
is_equal Greater e = absurd (false≢true e)

pub tied_same : (p q : IpPrefix) → eq_by_cmp prefix_cmp p q ≡ true → p ≡ q
tied_same p q tied = prefix_exact p q (is_equal (prefix_cmp p q) tied)

pub tied_self : (p : IpPrefix) → eq_by_cmp prefix_cmp p p ≡ true
tied_self p = ap is_eq (tied_itself prefix_total p)

pub less_back : (p q : IpPrefix) → prefix_cmp p q ≡ Less → prefix_cmp q p ≡ Less → ⊥
less_back p q less back = false≢true (ap is_eq (sym (prefix_total.trans p q p less back) ∙ tied_itself prefix_total p))

apart_above : (p q : IpPrefix) → prefix_cmp p q ≡ Less → eq_by_cmp prefix_cmp q p ≡ false
apart_above p q less = ap is_eq (prefix_total.antisymm q p ∙ ap ordering_reverse less)

-- ---- the flag of a prefix

abbrev pub flag_in : IpPrefix → List Flag → Bool
flag_in q flags = unwrap_or (lookup (eq_by_cmp prefix_cmp q) flags) false

flag_apart : (q : IpPrefix) (e : Flag) (flags : List Flag) → eq_by_cmp prefix_cmp q e.0 ≡ false → flag_in q (e ∷ flags) ≡ flag_in q flags
flag_apart q e flags apart = ap (λ (t : Bool). unwrap_or (cond t (Some e.1) (lookup (eq_by_cmp prefix_cmp q) flags)) false) apart

flag_tied : (q : IpPrefix) (e : Flag) (flags : List Flag) → eq_by_cmp prefix_cmp q e.0 ≡ true → flag_in q (e ∷ flags) ≡ e.1
flag_tied q e flags tied = ap (λ (t : Bool). unwrap_or (cond t (Some e.1) (lookup (eq_by_cmp prefix_cmp q) flags)) false) tied

above_first : (p q : IpPrefix) (flags : List Flag) → AllByRecursion (λ later. prefix_cmp p later ≡ Less) (keys_of flags) → flag_in q flags ≡ true → prefix_cmp p q ≡ Less
above_first p q [] above on = absurd (false≢true on)
above_first p q (e ∷ flags) above on = by_test (eq_by_cmp prefix_cmp q e.0) refl (above_first p q flags above.1) where
  by_test : (t : Bool) → eq_by_cmp prefix_cmp q e.0 ≡ t → (flag_in q flags ≡ true → prefix_cmp p q ≡ Less) → prefix_cmp p q ≡ Less
  by_test true tied rest = subst (λ (r : IpPrefix). prefix_cmp p r ≡ Less) (sym (tied_same q e.0 tied)) above.0
  by_test false apart rest = rest (sym (flag_apart q e flags apart) ∙ on)

sorted_later : (e : Flag) (flags : List Flag) → IsStrictlySortedBy prefix_cmp (keys_of (e ∷ flags)) → IsStrictlySortedBy prefix_cmp (keys_of flags)
unfolding IsStrictlySortedBy
sorted_later e flags sorted = sorted.1

sorted_above : (e : Flag) (flags : List Flag) → IsStrictlySortedBy prefix_cmp (keys_of (e ∷ flags)) → AllByRecursion (λ p. prefix_cmp e.0 p ≡ Less) (keys_of flags)
unfolding IsStrictlySortedBy
sorted_above e flags sorted = sorted.0

-- ---- the first one

-- no set flag passes, or this one is set and passes, and none below it
abbrev pub IsFirst : (IpPrefix → Bool) → List Flag → Option Flag → Type 0
IsFirst low flags None = (q : IpPrefix) → low q ≡ true → flag_in q flags ≡ true → ⊥
IsFirst low flags (Some f) =
    (low f.0 ≡ true) × (flag_in f.0 flags ≡ true) × ((q : IpPrefix) → low q ≡ true → flag_in q flags ≡ true → prefix_cmp q f.0 ≡ Less → ⊥)

module _ (low : IpPrefix → Bool) (e : Flag) (flags : List Flag) (sorted : IsStrictlySortedBy prefix_cmp (keys_of (e ∷ flags))) where
  here : low e.0 ≡ true → e.1 ≡ true → IsFirst low (e ∷ flags) (Some e)
  here passes on = (
    passes,
    flag_tied e.0 e flags (tied_self e.0) ∙ on,
    λ q is set less. less_back e.0 q (above_first e.0 q flags (sorted_above e flags sorted) (sym (flag_apart q e flags (ap is_eq less)) ∙ set)) less,
  )

  on_later : (low e.0 && e.1) ≡ false → (q : IpPrefix) → low q ≡ true → flag_in q (e ∷ flags) ≡ true → flag_in q flags ≡ true
  on_later fails q is set = by_test (eq_by_cmp prefix_cmp q e.0) refl where
    by_test : (t : Bool) → eq_by_cmp prefix_cmp q e.0 ≡ t → flag_in q flags ≡ true
    by_test true tied =
        absurd (false≢true (sym fails ∙ and_from (low e.0) e.1 (ap low (sym (tied_same q e.0 tied)) ∙ is) (sym (flag_tied q e flags tied) ∙ set)))
    by_test false apart = sym (flag_apart q e flags apart) ∙ set

  later : (low e.0 && e.1) ≡ false → (found : Option Flag) → IsFirst low flags found → IsFirst low (e ∷ flags) found
  later fails None first = λ q is set. first q is (on_later fails q is set)
  later fails (Some f) first = (
    first.0,
    flag_apart f.0 e flags (apart_above e.0 f.0 (above_first e.0 f.0 flags (sorted_above e flags sorted) first.1)) ∙ first.1,
    λ q is set. first.2 q is (on_later fails q is set),
  )

  by_tests : (t u : Bool) → low e.0 ≡ t → e.1 ≡ u → (rest : List Flag) → IsFirst low flags (find (λ (f : Flag). f.1) rest) → IsFirst low (e ∷ flags) (find (λ (f : Flag). f.1) (cond t (e ∷ rest) rest))
  by_tests true true passes on rest first = subst (λ (t : Bool). IsFirst low (e ∷ flags) (cond t (Some e) (find (λ (f : Flag). f.1) rest))) (sym on) (here passes on)
  by_tests true false passes on rest first =
      subst (λ (t : Bool). IsFirst low (e ∷ flags) (cond t (Some e) (find (λ (f : Flag). f.1) rest))) (sym on) (later (λ i. passes i && on i) (find (λ (f : Flag). f.1) rest) first)
  by_tests false u passes on rest first = later (ap (λ (t : Bool). t && e.1) passes) (find (λ (f : Flag). f.1) rest) first

pub first_is : (low : IpPrefix → Bool) (flags : List Flag) → IsStrictlySortedBy prefix_cmp (keys_of flags) → IsFirst low flags (find (λ (f : Flag). f.1) (filter (λ (f : Flag). low f.0) flags))
first_is low [] sorted = λ q is set. false≢true set
first_is low (e ∷ flags) sorted =
    by_tests low e flags sorted (low e.0) e.1 refl refl (filter (λ (f : Flag). low f.0) flags) (first_is low flags (sorted_later e flags sorted))
