-- Faultless attributes: what passes the checks, and that the canonical octets of what does pass them too.
use Rattle.std.proofs.Common.{◌≡◌, ◌≢◌, ℕ, ◌+◌, ◌/◌, ◌%◌, ◌<◌, ◌≤◌, Bool, true, false, not, cond, ◌&&◌, ◌||◌, List, [], ◌∷◌, length, map, Option, Some, None, refl, sym, ap, ◌∙◌, subst, arith, eqb, ltb, leb, eq-eqb, ne_eqb}
use Rattle.std.specs.Prelude.{filter, is_some, is_none}
use Rattle.std.specs.List.{list_any, All, AllByRecursion}
use Rattle.std.specs.Int.{Width}
use Rattle.std.proofs.lemmas.Bool.{cond_both, eqb-false, or_parts, or_from, and_from, and_left, and_right, false≢true}
use Rattle.rcp_base.specs.Cut.{cut}
use Rattle.rcp_model.specs.Messages.{FaultOf, fault}
use Rattle.rcp_model.specs.Attributes.{Attribute, ORIGIN, AS_PATH, NEXT_HOP, LOCAL_PREF, is_recognised, is_optional, is_transitive, is_partial, category, keeps_partial, attribute_size, attribute_of, attributes_in, value_of, value_fault, has_faulty_value, has_other_category, has_other_length, attribute_fault, or_else, list_fault, missing_fault, attributes_fault, has_route, is_kept, written, insert_by_type, by_type, default_pref, with_pref, canonical, attribute_octets, canonical_octets}
use Rattle.rcp_model.proofs.FaultLemmas.{HasPassed, all_passed, first_failing-None, or_else-None}
use Rattle.rcp_model.proofs.CanonicalLemmas.{IsWritten, category-whole, IsCanonical-canonical, insert-All, by_type-All, with_pref-All, flags-plain, kind-read_back, kept-read_back, cut-written}
use Rattle.rcp_model.proofs.RouteLemmas.{value_again}
use Rattle.rcp_model.proofs.AttributeLemmas.{IsShort, IsShort-attributes_in, read_back, attribute_of-attribute_octets}

-- the checks of an attribute, in their order
abbrev attribute_checks : Width → List ℕ → List ℕ → List (Bool × FaultOf)
attribute_checks width seen piece =
    let a = attribute_of piece in
    (list_any (λ kind. eqb kind a.kind) seen, fault 3 1 [])
    ∷ (not (is_recognised a.kind) && not (is_optional a.flags), fault 3 2 piece)
    ∷ (is_recognised a.kind && has_other_category a, fault 3 4 piece)
    ∷ (is_recognised a.kind && has_other_length width a, fault 3 5 piece)
    ∷ (is_recognised a.kind && has_faulty_value width a, value_fault a piece)
    ∷ []

attribute_passes : (width : Width) (seen piece : List ℕ) → attribute_fault width seen piece ≡ None → AllByRecursion HasPassed (attribute_checks width seen piece)
unfolding attribute_fault
attribute_passes width seen piece e = all_passed (attribute_checks width seen piece) e

attribute_fault-None : (width : Width) (seen piece : List ℕ) → AllByRecursion HasPassed (attribute_checks width seen piece) → attribute_fault width seen piece ≡ None
unfolding attribute_fault
attribute_fault-None width seen piece each = first_failing-None (attribute_checks width seen piece) each

list_fault-cons : (width : Width) (seen piece : List ℕ) (pieces : List (List ℕ)) (rest : List ℕ)
    → list_fault width seen (piece ∷ pieces) rest ≡ or_else (attribute_fault width seen piece) (list_fault width ((attribute_of piece).kind ∷ seen) pieces rest)
unfolding list_fault
list_fault-cons width seen piece pieces rest = refl

-- ---- what passes

-- a type that is not among those that were seen
abbrev IsFresh : List ℕ → Attribute → Type 0
IsFresh seen a = list_any (λ kind. eqb kind a.kind) seen ≡ false

-- no type stands twice
abbrev pub AreDistinct : List Attribute → Type 0
AreDistinct [] = Unit {0}
AreDistinct (a ∷ list) = AllByRecursion (λ b. a.kind ≢ b.kind) list × AreDistinct list

-- the length and the value are those that the type asks
pub record IsSound (width : Width) (a : Attribute) : Type 0 where
  pub right_length : (is_recognised a.kind && has_other_length width a) ≡ false
  pub right_value : (is_recognised a.kind && has_faulty_value width a) ≡ false

module _ (width : Width) where
  fresh_from : (seen : List ℕ) (pieces : List (List ℕ)) (rest : List ℕ) → list_fault width seen pieces rest ≡ None → AllByRecursion (IsFresh seen) (map attribute_of pieces)
  fresh_from seen [] rest e = tt
  fresh_from seen (piece ∷ pieces) rest e =
      let parts = or_else-None (attribute_fault width seen piece) (list_fault width ((attribute_of piece).kind ∷ seen) pieces rest) (sym (list_fault-cons width seen piece pieces rest) ∙ e) in
      ((attribute_passes width seen piece parts.0).0, older seen (attribute_of piece).kind (map attribute_of pieces) (fresh_from ((attribute_of piece).kind ∷ seen) pieces rest parts.1)) where
        older : (seen : List ℕ) (kind : ℕ) (list : List Attribute) → AllByRecursion (IsFresh (kind ∷ seen)) list → AllByRecursion (IsFresh seen) list
        older seen kind [] each = tt
        older seen kind (b ∷ list) each = ((or_parts (eqb kind b.kind) (list_any (λ k. eqb k b.kind) seen) each.0).1, older seen kind list each.1)

  newest : (seen : List ℕ) (kind : ℕ) (list : List Attribute) → AllByRecursion (IsFresh (kind ∷ seen)) list → AllByRecursion (λ b. kind ≢ b.kind) list
  newest seen kind [] each = tt
  newest seen kind (b ∷ list) each = (eqb-false kind b.kind (or_parts (eqb kind b.kind) (list_any (λ k. eqb k b.kind) seen) each.0).0, newest seen kind list each.1)

  distinct_from : (seen : List ℕ) (pieces : List (List ℕ)) (rest : List ℕ) → list_fault width seen pieces rest ≡ None → AreDistinct (map attribute_of pieces)
  distinct_from seen [] rest e = tt
  distinct_from seen (piece ∷ pieces) rest e =
      let parts = or_else-None (attribute_fault width seen piece) (list_fault width ((attribute_of piece).kind ∷ seen) pieces rest) (sym (list_fault-cons width seen piece pieces rest) ∙ e) in
      (newest seen (attribute_of piece).kind (map attribute_of pieces) (fresh_from ((attribute_of piece).kind ∷ seen) pieces rest parts.1), distinct_from ((attribute_of piece).kind ∷ seen) pieces rest parts.1)

  sound_from : (seen : List ℕ) (pieces : List (List ℕ)) (rest : List ℕ) → list_fault width seen pieces rest ≡ None → AllByRecursion (IsSound width) (map attribute_of pieces)
  sound_from seen [] rest e = tt
  sound_from seen (piece ∷ pieces) rest e =
      let parts = or_else-None (attribute_fault width seen piece) (list_fault width ((attribute_of piece).kind ∷ seen) pieces rest) (sym (list_fault-cons width seen piece pieces rest) ∙ e) in
      let passed = attribute_passes width seen piece parts.0 in
      (record { right_length = passed.1.1.1.0; right_value = passed.1.1.1.1.0 }, sound_from ((attribute_of piece).kind ∷ seen) pieces rest parts.1)

-- ---- the canonical form keeps types apart and values sound

apart-filter : (P : Attribute → Type 0) (list : List Attribute) → AllByRecursion P list → AllByRecursion P (filter is_kept list)
apart-filter P [] each = tt
apart-filter P (a ∷ list) each = cond_both (is_kept a) (a ∷ filter is_kept list) (filter is_kept list) (AllByRecursion P) (λ _. (each.0, apart-filter P list each.1)) (λ _. apart-filter P list each.1)

distinct-filter : (list : List Attribute) → AreDistinct list → AreDistinct (filter is_kept list)
distinct-filter [] d = tt
distinct-filter (a ∷ list) d =
    cond_both (is_kept a) (a ∷ filter is_kept list) (filter is_kept list) AreDistinct (λ _. (apart-filter (λ b. a.kind ≢ b.kind) list d.0, distinct-filter list d.1)) (λ _. distinct-filter list d.1)

apart-written : (kind : ℕ) (list : List Attribute) → AllByRecursion (λ b. kind ≢ b.kind) list → AllByRecursion (λ b. kind ≢ b.kind) (map written list)
apart-written kind [] each = tt
apart-written kind (a ∷ list) each = (each.0, apart-written kind list each.1)

distinct-written : (list : List Attribute) → AreDistinct list → AreDistinct (map written list)
distinct-written [] d = tt
distinct-written (a ∷ list) d = (apart-written a.kind list d.0, distinct-written list d.1)

-- LOCAL_PREF is put to a list that has none
apart-absent : (list : List Attribute) → is_some (value_of LOCAL_PREF list) ≡ false → AllByRecursion (λ b. LOCAL_PREF ≢ b.kind) list
apart-absent [] e = tt
apart-absent (a ∷ list) e = by_test (eqb a.kind LOCAL_PREF) refl (apart-absent list) where
  by_test : (t : Bool) → eqb a.kind LOCAL_PREF ≡ t → (is_some (value_of LOCAL_PREF list) ≡ false → AllByRecursion (λ b. LOCAL_PREF ≢ b.kind) list) → AllByRecursion (λ b. LOCAL_PREF ≢ b.kind) (a ∷ list)
  by_test true t rest = let there : is_some (value_of LOCAL_PREF (a ∷ list)) ≡ true = rw t refl in absurd (false≢true (sym e ∙ there))
  by_test false t rest = let same : is_some (value_of LOCAL_PREF (a ∷ list)) ≡ is_some (value_of LOCAL_PREF list) = rw t refl in (λ f. eqb-false a.kind LOCAL_PREF t (sym f), rest (sym same ∙ e))

distinct-with_pref : (list : List Attribute) → AreDistinct list → AreDistinct (with_pref list)
distinct-with_pref list d = cond_both (is_some (value_of LOCAL_PREF list)) list (default_pref ∷ list) AreDistinct (λ _. d) (λ absent. (apart-absent list absent, d))

distinct-insert : (a : Attribute) (list : List Attribute) → AllByRecursion (λ b. a.kind ≢ b.kind) list → AreDistinct list → AreDistinct (insert_by_type a list)
distinct-insert a [] apart d = (tt, tt)
distinct-insert a (b ∷ list) apart d =
    cond_both (ltb b.kind a.kind) (b ∷ insert_by_type a list) (a ∷ b ∷ list) AreDistinct
    (λ _. (insert-All (λ c. b.kind ≢ c.kind) a list (λ e. apart.0 (sym e)) d.0, distinct-insert a list apart.1 d.1)) (λ _. (apart, d))

distinct-by_type : (list : List Attribute) → AreDistinct list → AreDistinct (by_type list)
distinct-by_type [] d = tt
distinct-by_type (a ∷ list) d = distinct-insert a (by_type list) (by_type-All (λ b. a.kind ≢ b.kind) list d.0) (distinct-by_type list d.1)

pub distinct-canonical : (list : List Attribute) → AreDistinct list → AreDistinct (canonical list)
unfolding canonical
distinct-canonical list d =
    distinct-by_type (with_pref (map written (filter is_kept list))) (distinct-with_pref (map written (filter is_kept list)) (distinct-written (filter is_kept list) (distinct-filter list d)))

sound-written : (width : Width) (list : List Attribute) → AllByRecursion (IsSound width) list → AllByRecursion (IsSound width) (map written list)
sound-written width [] each = tt
sound-written width (a ∷ list) each = (record { right_length = each.0.right_length; right_value = each.0.right_value }, sound-written width list each.1)

pub sound-canonical : (width : Width) (list : List Attribute) → AllByRecursion (IsSound width) list → AllByRecursion (IsSound width) (canonical list)
unfolding canonical
sound-canonical width list each =
    by_type-All (IsSound width) (with_pref (map written (filter is_kept list)))
    (with_pref-All (IsSound width) (map written (filter is_kept list)) (record { right_length = refl; right_value = refl })
    (sound-written width (filter is_kept list) (apart-filter (IsSound width) list each)))

-- ---- an attribute that is written passes the checks

record Passes (width : Width) (seen : List ℕ) (a : Attribute) : Type 0 where
  fresh : IsFresh seen a
  optional : (not (is_recognised a.kind) && not (is_optional a.flags)) ≡ false
  category : (is_recognised a.kind && has_other_category a) ≡ false
  sound : IsSound width a

passes-fault : (width : Width) (seen piece : List ℕ) → Passes width seen (attribute_of piece) → attribute_fault width seen piece ≡ None
passes-fault width seen piece p = attribute_fault-None width seen piece (p.fresh, (p.optional, (p.category, (p.sound.right_length, (p.sound.right_value, tt)))))

kept_optional : (recognised optional transitive : Bool) → (recognised || optional && transitive) ≡ true → (not recognised && not optional) ≡ false
kept_optional true optional transitive e = refl
kept_optional false true transitive e = refl
kept_optional false false transitive e = absurd (false≢true e)

written_range : (a : Attribute) → is_recognised a.kind ≡ true → (category a.kind ≤ (written a).flags) × ((written a).flags ≤ category a.kind + 32)
written_range a known =
    let flags : (written a).flags ≡ category a.kind + cond (keeps_partial a.kind && is_partial a.flags) 32 0 = rw known refl in
    rw flags (cond_both (keeps_partial a.kind && is_partial a.flags) 32 0 (λ (n : ℕ). (category a.kind ≤ category a.kind + n) × (category a.kind + n ≤ category a.kind + 32)) (λ _. (omega arith, omega arith)) (λ _. (omega arith, omega arith)))

category_stays : (c flags : ℕ) → c % 64 ≡ 0 → c ≤ 192 → c ≤ flags → flags ≤ c + 48 → flags / 64 % 4 ≡ c / 64
category_stays c flags whole small low high = omega arith

-- the lesser flags leave the category as it is
category-written : (recognised : Bool) (a : Attribute) (more : ℕ) → is_recognised a.kind ≡ recognised → IsWritten a → more ≤ 16
    → (is_recognised a.kind && has_other_category (record a { flags = a.flags + more })) ≡ false
category-written false a more known w le = and_left (is_recognised a.kind) (has_other_category (record a { flags = a.flags + more })) known
category-written true a more known w le =
    let range = subst (λ (b : Attribute). (category a.kind ≤ b.flags) × (b.flags ≤ category a.kind + 32)) w.same (written_range a known) in
    let whole = category-whole a.kind in
    let same : eqb ((a.flags + more) / 64 % 4) (category a.kind / 64) ≡ true = eq-eqb _ _ (category_stays (category a.kind) (a.flags + more) whole.0 whole.1 (omega (arith, range.0)) (omega (arith, range.1))) in
    and_right (is_recognised a.kind) (has_other_category (record a { flags = a.flags + more })) (rw same refl)

passes-read_back : (width : Width) (seen : List ℕ) (a : Attribute) → IsWritten a → IsSound width a → IsFresh seen a → Passes width seen (read_back a)
passes-read_back width seen a w sound fresh = record {
  fresh = cond_both (leb (length a.value) 255) a (record a { flags = a.flags + 16 }) (IsFresh seen) (λ _. fresh) (λ _. fresh);
  optional = kept_optional (is_recognised (read_back a).kind) (is_optional (read_back a).flags) (is_transitive (read_back a).flags) (kept-read_back a w);
  category =
      let as_is = category-written (is_recognised a.kind) a 0 refl w (omega arith) in
      let zero_more : a.flags + 0 ≡ a.flags = omega arith in
      cond_both (leb (length a.value) 255) a (record a { flags = a.flags + 16 }) (λ (b : Attribute). (is_recognised b.kind && has_other_category b) ≡ false)
      (λ _. rw zero_more at as_is) (λ _. category-written (is_recognised a.kind) a 16 refl w (omega arith));
  sound = cond_both (leb (length a.value) 255) a (record a { flags = a.flags + 16 }) (IsSound width) (λ _. sound) (λ _. record { right_length = sound.right_length; right_value = sound.right_value });
}

attribute_octets-faultless : (width : Width) (seen : List ℕ) (a : Attribute) → IsWritten a → IsSound width a → IsFresh seen a → attribute_fault width seen (attribute_octets a) ≡ None
attribute_octets-faultless width seen a w sound fresh =
    passes-fault width seen (attribute_octets a) (subst (Passes width seen) (sym (attribute_of-attribute_octets a (flags-plain a w))) (passes-read_back width seen a w sound fresh))

fresher : (seen : List ℕ) (kind : ℕ) (list : List Attribute) → AllByRecursion (λ b. kind ≢ b.kind) list → AllByRecursion (IsFresh seen) list → AllByRecursion (IsFresh (kind ∷ seen)) list
fresher seen kind [] apart each = tt
fresher seen kind (b ∷ list) apart each = (or_from (eqb kind b.kind) (list_any (λ k. eqb k b.kind) seen) (ne_eqb kind b.kind apart.0) each.0, fresher seen kind list apart.1 each.1)

list-faultless : (width : Width) (seen : List ℕ) (list : List Attribute) → AllByRecursion IsWritten list → AllByRecursion (IsSound width) list → AreDistinct list → AllByRecursion (IsFresh seen) list
    → list_fault width seen (map attribute_octets list) [] ≡ None
unfolding list_fault
list-faultless width seen [] w sound apart fresh = refl
list-faultless width seen (a ∷ list) w sound apart fresh =
    let kind : (attribute_of (attribute_octets a)).kind ≡ a.kind = ap (λ (b : Attribute). b.kind) (attribute_of-attribute_octets a (flags-plain a w.0)) ∙ kind-read_back a in
    list_fault-cons width seen (attribute_octets a) (map attribute_octets list) []
    ∙ ap (λ (o : Option FaultOf). or_else o (list_fault width ((attribute_of (attribute_octets a)).kind ∷ seen) (map attribute_octets list) [])) (attribute_octets-faultless width seen a w.0 sound.0 fresh.0)
    ∙ ap (λ (k : ℕ). list_fault width (k ∷ seen) (map attribute_octets list) []) kind
    ∙ list-faultless width (a.kind ∷ seen) list w.1 sound.1 apart.1 (fresher seen a.kind list apart.0 fresh.1)

-- ---- the attributes of an UPDATE

nothing_seen : (list : List Attribute) → AllByRecursion (IsFresh []) list
nothing_seen [] = tt
nothing_seen (a ∷ list) = (refl, nothing_seen list)

-- what is missing depends on three values alone
missing-same : (list other : List Attribute) → value_of ORIGIN list ≡ value_of ORIGIN other → value_of AS_PATH list ≡ value_of AS_PATH other → value_of NEXT_HOP list ≡ value_of NEXT_HOP other → missing_fault list ≡ missing_fault other
missing-same list other origin path next_hop = rw (origin, path, next_hop) refl

missing-again : (list : List Attribute) → AllByRecursion IsShort list → missing_fault (attributes_in (canonical_octets list)) ≡ missing_fault list
missing-again list short = missing-same (attributes_in (canonical_octets list)) list (value_again list short ORIGIN refl refl) (value_again list short AS_PATH refl refl) (value_again list short NEXT_HOP refl refl)

written-faultless : (width : Width) (list : List Attribute) → AllByRecursion IsShort list → AreDistinct list → AllByRecursion (IsSound width) list
    → list_fault width [] (cut attribute_size (canonical_octets list)).0 (cut attribute_size (canonical_octets list)).1 ≡ None
written-faultless width list short apart sound =
    ap (λ (r : List (List ℕ) × List ℕ). list_fault width [] r.0 r.1) (cut-written (canonical list) (IsCanonical-canonical list short).each)
    ∙ list-faultless width [] (canonical list) (IsCanonical-canonical list short).each (sound-canonical width list sound) (distinct-canonical list apart) (nothing_seen (canonical list))

pub canonical_octets-faultless : (width : Width) (nlri : Bool) (octets : List ℕ) → All (λ o. o < 256) octets → attributes_fault width nlri octets ≡ None → attributes_fault width nlri (canonical_octets (attributes_in octets)) ≡ None
unfolding attributes_fault
canonical_octets-faultless width nlri octets all e =
    let list = attributes_in octets in
    let short = IsShort-attributes_in octets all in
    let parts = or_else-None (list_fault width [] (cut attribute_size octets).0 (cut attribute_size octets).1) (cond nlri (missing_fault list) None) e in
    let whole = written-faultless width list short (distinct_from width [] (cut attribute_size octets).0 (cut attribute_size octets).1 parts.0) (sound_from width [] (cut attribute_size octets).0 (cut attribute_size octets).1 parts.0) in
    ap (λ (o : Option FaultOf). or_else o (cond nlri (missing_fault (attributes_in (canonical_octets list))) None)) whole
    ∙ ap (λ (o : Option FaultOf). cond nlri o None) (missing-again list short)
    ∙ parts.1

-- ---- what a faultless announcement has

there : (kind : ℕ) (list : List Attribute) → is_none (value_of kind list) ≡ false → is_some (value_of kind list) ≡ true
there kind list e = by_value (value_of kind list) e where
  by_value : (o : Option (List ℕ)) → is_none o ≡ false → is_some o ≡ true
  by_value None f = sym f
  by_value (Some value) f = refl

missing_checks : List Attribute → List (Bool × FaultOf)
missing_checks list =
    (is_none (value_of ORIGIN list), fault 3 3 (ORIGIN ∷ []))
    ∷ (is_none (value_of AS_PATH list), fault 3 3 (AS_PATH ∷ []))
    ∷ (is_none (value_of NEXT_HOP list), fault 3 3 (NEXT_HOP ∷ []))
    ∷ []

pub has_route-faultless : (width : Width) (octets : List ℕ) → attributes_fault width true octets ≡ None → has_route (attributes_in octets) ≡ true
unfolding attributes_fault missing_checks
has_route-faultless width octets e =
    let list = attributes_in octets in
    let parts = or_else-None (list_fault width [] (cut attribute_size octets).0 (cut attribute_size octets).1) (missing_fault list) e in
    let passed = all_passed (missing_checks list) parts.1 in
    and_from (is_some (value_of ORIGIN list) && is_some (value_of AS_PATH list)) (is_some (value_of NEXT_HOP list))
    (and_from (is_some (value_of ORIGIN list)) (is_some (value_of AS_PATH list)) (there ORIGIN list passed.0) (there AS_PATH list passed.1.0))
    (there NEXT_HOP list passed.1.1.0)
