-- The canonical form of attributes: reading it again gives it again.
use Rattle.std.proofs.Common.{◌≡◌, ℕ, zero, suc, ◌+◌, ◌/◌, ◌%◌, ◌<◌, ◌≤◌, Bool, true, false, cond, ◌&&◌, List, [], ◌∷◌, ◌++◌, length, get_or, map, Option, Some, None, refl, sym, ap, ◌∙◌, subst, arith, eqb, ltb, leb, eqb-true, ne_eqb, leb-true, le-ltb, ltb-true, ltb-false}
use Rattle.std.specs.Prelude.{filter, is_some}
use Rattle.std.specs.List.{flat_map, All, AllByRecursion}
use Rattle.std.specs.List.Sorted.{IsNonDecreasingBy}
use Rattle.std.specs.Int.{w16, to_be_bytes}
use Rattle.std.proofs.lemmas.List.Elements.{All-nil, All-append, All-from_recursion}
use Rattle.std.proofs.lemmas.Bool.{cond_both, false≢true}
use Rattle.rcp_base.specs.Cut.{cut}
use Rattle.rcp_model.specs.Attributes.{Attribute, AttributeType, LOCAL_PREF, attribute_types, in_row, is_recognised, is_partial, category, keeps_partial, attribute_size, attribute_of, attributes_in, value_of, is_kept, written_flags, written, insert_by_type, by_type, default_pref, with_pref, canonical, attribute_octets, canonical_octets}
use Rattle.rcp_base.proofs.CutLemmas.{IsFront, cut-flat_map_all}
use Rattle.rcp_model.proofs.AttributeLemmas.{IsSize-attribute_size, IsFront-attribute, IsAttribute-attribute_octets, attribute_of-attribute_octets, read_back, IsShort, HasOctets}

-- ---- flags that are written

-- what holds of each row, and where there is none
in_row-all : {A : Type 0} (says : AttributeType → A) (P : A → Type 0) (none : A) (kind : ℕ) (rows : List AttributeType) → P none → AllByRecursion (λ row. P (says row)) rows
    → P (in_row says none kind rows)
in_row-all says P none kind [] otherwise each = otherwise
in_row-all says P none kind (row ∷ rows) otherwise each =
    cond_both (eqb kind row.kind) (says row) (in_row says none kind rows) P (λ _. each.0) (λ _. in_row-all says P none kind rows otherwise each.1)

pub category-whole : (kind : ℕ) → (category kind % 64 ≡ 0) × (category kind ≤ 192)
category-whole kind =
    let whole : (n : ℕ) → Type 0 = λ n. (n % 64 ≡ 0) × (n ≤ 192) in
    let least : whole 0 = (refl, omega arith) in
    let one : whole 64 = (refl, omega arith) in
    let other : whole 128 = (refl, omega arith) in
    let both : whole 192 = (refl, omega arith) in
    in_row-all (λ row. row.category) whole 0 kind attribute_types least (one, (one, (one, (other, (one, (one, (both, (both, tt))))))))

category-plain : (kind : ℕ) → category kind % 32 ≡ 0
category-plain kind = omega (arith, (category-whole kind).0)

-- only optional, transitive and partial are among them
written_flags-plain : (a : Attribute) → written_flags a % 32 ≡ 0
written_flags-plain a =
    cond_both (is_recognised a.kind) (category a.kind + cond (keeps_partial a.kind && is_partial a.flags) 32 0) 224 (λ (n : ℕ). n % 32 ≡ 0)
    (λ _. cond_both (keeps_partial a.kind && is_partial a.flags) 32 0 (λ (n : ℕ). (category a.kind + n) % 32 ≡ 0) (λ _. omega (arith, category-plain a.kind)) (λ _. omega (arith, category-plain a.kind)))
    (λ _. refl)

-- the flag of the length, which is below these, changes none of them
is_partial-extended : (flags : ℕ) → flags % 32 ≡ 0 → is_partial (flags + 16) ≡ is_partial flags
is_partial-extended flags plain = ap (λ (n : ℕ). eqb (n % 2) 1) (omega arith)

is_kept-extended : (a : Attribute) → a.flags % 32 ≡ 0 → is_kept (record a { flags = a.flags + 16 }) ≡ is_kept a
is_kept-extended a plain =
    let optional : (a.flags + 16) / 128 ≡ a.flags / 128 = omega arith in
    let transitive : (a.flags + 16) / 64 ≡ a.flags / 64 = omega arith in
    rw (optional, transitive) refl

-- ---- attributes that are written as they are

pub record IsWritten (a : Attribute) : Type 0 where
  pub kept : is_kept a ≡ true
  pub same : written a ≡ a
  pub fits : length a.value < 65536

pub flags-plain : (a : Attribute) → IsWritten a → a.flags % 32 ≡ 0
flags-plain a w = subst (λ (b : Attribute). b.flags % 32 ≡ 0) w.same (written_flags-plain a)

category-high : (kind : ℕ) → keeps_partial kind ≡ true → category kind ≡ 192
category-high kind e = at_row attribute_types (no, (no, (no, (no, (no, (no, (λ _. refl, (λ _. refl, tt)))))))) e where
  no : {c : ℕ} → false ≡ true → c ≡ 192
  no e = absurd (false≢true e)

  at_row : (rows : List AttributeType) → AllByRecursion (λ row. row.keeps_partial ≡ true → row.category ≡ 192) rows
      → in_row (λ row. row.keeps_partial) false kind rows ≡ true → in_row (λ row. row.category) 0 kind rows ≡ 192
  at_row [] each e = absurd (false≢true e)
  at_row (row ∷ rows) each e = at_test (eqb kind row.kind) (at_row rows each.1) e where
    at_test : (t : Bool) → (in_row (λ row. row.keeps_partial) false kind rows ≡ true → in_row (λ row. row.category) 0 kind rows ≡ 192)
        → cond t row.keeps_partial (in_row (λ row. row.keeps_partial) false kind rows) ≡ true → cond t row.category (in_row (λ row. row.category) 0 kind rows) ≡ 192
    at_test true later e = each.0 e
    at_test false later e = later e

abbrev chosen_flags : Bool → Bool → Bool → ℕ → ℕ
chosen_flags recognised high partial c = cond recognised (c + cond (high && partial) 32 0) 224

chosen_again : (recognised high partial : Bool) (c : ℕ) → (high ≡ true → c ≡ 192) → chosen_flags recognised high (is_partial (chosen_flags recognised high partial c)) c ≡ chosen_flags recognised high partial c
chosen_again false high partial c is = refl
chosen_again true false partial c is = refl
chosen_again true true false c is = rw (is refl) refl
chosen_again true true true c is = rw (is refl) refl

pub written-written : (a : Attribute) → written (written a) ≡ written a
written-written a =
    ap (λ (f : ℕ). record { flags = f; kind = a.kind; value = a.value }) (chosen_again (is_recognised a.kind) (keeps_partial a.kind) (is_partial a.flags) (category a.kind) (category-high a.kind))

kept_by : (recognised : Bool) (a : Attribute) → is_recognised a.kind ≡ recognised → is_kept (written a) ≡ true
kept_by true a e = rw e refl
kept_by false a e = rw e refl

IsWritten-written : (a : Attribute) → IsShort a → IsWritten (written a)
IsWritten-written a short = record { kept = kept_by (is_recognised a.kind) a refl; same = written-written a; fits = short }

-- ---- an attribute of more than 255 octets is read with one flag more, which changes nothing

pub kind-read_back : (a : Attribute) → (read_back a).kind ≡ a.kind
kind-read_back a = cond_both (leb (length a.value) 255) a (record a { flags = a.flags + 16 }) (λ (b : Attribute). b.kind ≡ a.kind) (λ _. refl) (λ _. refl)

pub value-read_back : (a : Attribute) → (read_back a).value ≡ a.value
value-read_back a = cond_both (leb (length a.value) 255) a (record a { flags = a.flags + 16 }) (λ (b : Attribute). b.value ≡ a.value) (λ _. refl) (λ _. refl)

pub kept-read_back : (a : Attribute) → IsWritten a → is_kept (read_back a) ≡ true
kept-read_back a w =
    cond_both (leb (length a.value) 255) a (record a { flags = a.flags + 16 }) (λ (b : Attribute). is_kept b ≡ true) (λ _. w.kept) (λ _. is_kept-extended a (flags-plain a w) ∙ w.kept)

written-extended : (a : Attribute) → a.flags % 32 ≡ 0 → written (record a { flags = a.flags + 16 }) ≡ written a
written-extended a plain =
    ap (λ (p : Bool). record { flags = chosen_flags (is_recognised a.kind) (keeps_partial a.kind) p (category a.kind); kind = a.kind; value = a.value }) (is_partial-extended a.flags plain)

written-read_back : (a : Attribute) → IsWritten a → written (read_back a) ≡ a
written-read_back a w =
    cond_both (leb (length a.value) 255) a (record a { flags = a.flags + 16 }) (λ (b : Attribute). written b ≡ a) (λ _. w.same) (λ _. written-extended a (flags-plain a w) ∙ w.same)

-- ---- lists

filter-kept : (list : List Attribute) → AllByRecursion IsWritten list → filter is_kept list ≡ list
filter-kept [] each = refl
filter-kept (a ∷ list) each = let kept : is_kept a ≡ true = each.0.kept in rw kept (ap (λ (l : List Attribute). a ∷ l) (filter-kept list each.1))

map-written : (list : List Attribute) → AllByRecursion IsWritten list → map written list ≡ list
map-written [] each = refl
map-written (a ∷ list) each = let same : written a ≡ a = each.0.same in rw (same, map-written list each.1) refl

kept_again : (list : List Attribute) → AllByRecursion IsWritten list → filter is_kept (map read_back list) ≡ map read_back list
kept_again [] each = refl
kept_again (a ∷ list) each = let kept : is_kept (read_back a) ≡ true = kept-read_back a each.0 in rw (kept, kept_again list each.1) refl

written_again : (list : List Attribute) → AllByRecursion IsWritten list → map written (map read_back list) ≡ list
written_again [] each = refl
written_again (a ∷ list) each = let same : written (read_back a) ≡ a = written-read_back a each.0 in rw (same, written_again list each.1) refl

-- ---- order

abbrev pub IsRising : List Attribute → Type 0
IsRising [] = Unit {0}
IsRising (a ∷ list) = AllByRecursion (λ b. a.kind ≤ b.kind) list × IsRising list

module _ (P : Attribute → Type 0) where
  pub insert-All : (a : Attribute) (list : List Attribute) → P a → AllByRecursion P list → AllByRecursion P (insert_by_type a list)
  insert-All a [] first each = (first, tt)
  insert-All a (b ∷ list) first each =
      cond_both (ltb b.kind a.kind) (b ∷ insert_by_type a list) (a ∷ b ∷ list) (AllByRecursion P) (λ _. (each.0, insert-All a list first each.1)) (λ _. (first, each))

  pub by_type-All : (list : List Attribute) → AllByRecursion P list → AllByRecursion P (by_type list)
  by_type-All [] each = tt
  by_type-All (a ∷ list) each = insert-All a (by_type list) each.0 (by_type-All list each.1)

weaker : (m n : ℕ) (list : List Attribute) → m ≤ n → AllByRecursion (λ b. n ≤ b.kind) list → AllByRecursion (λ b. m ≤ b.kind) list
weaker m n [] le each = tt
weaker m n (a ∷ list) le each = (omega (arith, each.0), weaker m n list le each.1)

insert-rising : (a : Attribute) (list : List Attribute) → IsRising list → IsRising (insert_by_type a list)
insert-rising a [] rising = (tt, tt)
insert-rising a (b ∷ list) rising =
    cond_both (ltb b.kind a.kind) (b ∷ insert_by_type a list) (a ∷ b ∷ list) IsRising
    (λ lt. (insert-All (λ c. b.kind ≤ c.kind) a list (omega (arith, ltb-true b.kind a.kind lt)) rising.0, insert-rising a list rising.1))
    (λ ge. let le : a.kind ≤ b.kind = ltb-false b.kind a.kind ge in ((le, weaker a.kind b.kind list le rising.0), rising))

by_type-rising : (list : List Attribute) → IsRising (by_type list)
by_type-rising [] = tt
by_type-rising (a ∷ list) = insert-rising a (by_type list) (by_type-rising list)

insert-first : (a : Attribute) (list : List Attribute) → AllByRecursion (λ b. a.kind ≤ b.kind) list → insert_by_type a list ≡ a ∷ list
insert-first a [] each = refl
insert-first a (b ∷ list) each = let ge : ltb b.kind a.kind ≡ false = le-ltb b.kind a.kind each.0 in rw ge refl

by_type-same : (list : List Attribute) → IsRising list → by_type list ≡ list
by_type-same [] rising = refl
by_type-same (a ∷ list) rising = ap (insert_by_type a) (by_type-same list rising.1) ∙ insert-first a list rising.0

-- ---- values

-- two tests that don't both hold may be made in either order
swapped : (f e : Bool) (x y z : Option (List ℕ)) → (f ≡ true → e ≡ true → ⊥) → cond f x (cond e y z) ≡ cond e y (cond f x z)
swapped true true x y z apart = absurd (apart refl refl)
swapped true false x y z apart = refl
swapped false true x y z apart = refl
swapped false false x y z apart = refl

not_both : (a b kind : ℕ) → b < a → eqb b kind ≡ true → eqb a kind ≡ true → ⊥
not_both a b kind lt f e = omega (arith, eqb-true b kind f, eqb-true a kind e)

module _ (kind : ℕ) where
  -- only the types and the values count
  value_of-map : (f : Attribute → Attribute) (list : List Attribute) → ((a : Attribute) → (f a).kind ≡ a.kind) → ((a : Attribute) → (f a).value ≡ a.value) → value_of kind (map f list) ≡ value_of kind list
  value_of-map f [] same_kind same_value = refl
  value_of-map f (a ∷ list) same_kind same_value = rw (same_kind a, same_value a, value_of-map f list same_kind same_value) refl

  value_of-insert : (a : Attribute) (list : List Attribute) → value_of kind (insert_by_type a list) ≡ value_of kind (a ∷ list)
  value_of-insert a [] = refl
  value_of-insert a (b ∷ list) =
      cond_both (ltb b.kind a.kind) (b ∷ insert_by_type a list) (a ∷ b ∷ list) (λ (l : List Attribute). value_of kind l ≡ value_of kind (a ∷ b ∷ list))
      (λ lt. ap (λ (o : Option (List ℕ)). cond (eqb b.kind kind) (Some b.value) o) (value_of-insert a list)
      ∙ swapped (eqb b.kind kind) (eqb a.kind kind) (Some b.value) (Some a.value) (value_of kind list) (not_both a.kind b.kind kind (ltb-true b.kind a.kind lt)))
      (λ _. refl)

  value_of-by_type : (list : List Attribute) → value_of kind (by_type list) ≡ value_of kind list
  value_of-by_type [] = refl
  value_of-by_type (a ∷ list) = value_of-insert a (by_type list) ∙ ap (λ (o : Option (List ℕ)). cond (eqb a.kind kind) (Some a.value) o) (value_of-by_type list)

  module _ (recognised : is_recognised kind ≡ true) where
    dropped_has_other : (a : Attribute) → is_kept a ≡ false → eqb a.kind kind ≡ false
    dropped_has_other a dropped = ne_eqb a.kind kind (λ e.
        let known : is_recognised a.kind ≡ true = ap is_recognised e ∙ recognised in
        let kept : is_kept a ≡ true = rw known refl in
        false≢true (sym dropped ∙ kept))

    value_of-kept : (list : List Attribute) → value_of kind (filter is_kept list) ≡ value_of kind list
    value_of-kept [] = refl
    value_of-kept (a ∷ list) =
        cond_both (is_kept a) (a ∷ filter is_kept list) (filter is_kept list) (λ (l : List Attribute). value_of kind l ≡ value_of kind (a ∷ list))
        (λ _. ap (λ (o : Option (List ℕ)). cond (eqb a.kind kind) (Some a.value) o) (value_of-kept list))
        (λ dropped. let other = dropped_has_other a dropped in rw other (value_of-kept list))

-- LOCAL_PREF stands in the list, or its default is put there
has-pref : (list : List Attribute) → is_some (value_of LOCAL_PREF (with_pref list)) ≡ true
has-pref list = cond_both (is_some (value_of LOCAL_PREF list)) list (default_pref ∷ list) (λ (l : List Attribute). is_some (value_of LOCAL_PREF l) ≡ true) (λ e. e) (λ _. refl)

with_pref-same : (list : List Attribute) → is_some (value_of LOCAL_PREF list) ≡ true → with_pref list ≡ list
with_pref-same list e = rw e refl

pub with_pref-All : (P : Attribute → Type 0) (list : List Attribute) → P default_pref → AllByRecursion P list → AllByRecursion P (with_pref list)
with_pref-All P list first each = cond_both (is_some (value_of LOCAL_PREF list)) list (default_pref ∷ list) (AllByRecursion P) (λ _. each) (λ _. (first, each))

-- its value, or the default's
abbrev pub pref_or : Option (List ℕ) → Option (List ℕ)
pref_or None = Some default_pref.value
pref_or (Some value) = Some value

value_of-with_pref : (kind : ℕ) (list : List Attribute) → eqb LOCAL_PREF kind ≡ false → value_of kind (with_pref list) ≡ value_of kind list
value_of-with_pref kind list other =
    cond_both (is_some (value_of LOCAL_PREF list)) list (default_pref ∷ list) (λ (l : List Attribute). value_of kind l ≡ value_of kind list) (λ _. refl) (λ _. rw other refl)

pref-with_pref : (list : List Attribute) → value_of LOCAL_PREF (with_pref list) ≡ pref_or (value_of LOCAL_PREF list)
pref-with_pref list = by_value (value_of LOCAL_PREF list) refl where
  by_value : (o : Option (List ℕ)) → value_of LOCAL_PREF list ≡ o → value_of LOCAL_PREF (with_pref list) ≡ pref_or o
  by_value None e = rw e refl
  by_value (Some value) e = rw e e

-- ---- the canonical form

-- what it keeps
pub record IsCanonical (list : List Attribute) : Type 0 where
  pub each : AllByRecursion IsWritten list
  pub rising : IsRising list
  pub has_pref : is_some (value_of LOCAL_PREF list) ≡ true

all_written : (list : List Attribute) → AllByRecursion IsShort list → AllByRecursion IsWritten (map written (filter is_kept list))
all_written [] each = tt
all_written (a ∷ list) each =
    cond_both (is_kept a) (a ∷ filter is_kept list) (filter is_kept list) (λ (l : List Attribute). AllByRecursion IsWritten (map written l))
    (λ _. (IsWritten-written a each.0, all_written list each.1)) (λ _. all_written list each.1)

IsWritten-default : IsWritten default_pref
IsWritten-default = record { kept = refl; same = refl; fits = omega arith }

pub IsCanonical-canonical : (list : List Attribute) → AllByRecursion IsShort list → IsCanonical (canonical list)
unfolding canonical
IsCanonical-canonical list short =
    let all = with_pref (map written (filter is_kept list)) in
    record {
      each = by_type-All IsWritten all (with_pref-All IsWritten (map written (filter is_kept list)) IsWritten-default (all_written list short));
      rising = by_type-rising all;
      has_pref = ap is_some (value_of-by_type LOCAL_PREF all) ∙ has-pref (map written (filter is_kept list));
    }

settled : (list : List Attribute) → IsCanonical list → by_type (with_pref list) ≡ list
settled list form = ap by_type (with_pref-same list form.has_pref) ∙ by_type-same list form.rising

-- it is its own canonical form
pub canonical-same : (list : List Attribute) → IsCanonical list → canonical list ≡ list
unfolding canonical
canonical-same list form =
    ap (λ (l : List Attribute). by_type (with_pref (map written l))) (filter-kept list form.each)
    ∙ ap (λ (l : List Attribute). by_type (with_pref l)) (map-written list form.each)
    ∙ settled list form

-- and that of the attributes that are read where it is written
pub canonical-read_back : (list : List Attribute) → IsCanonical list → canonical (map read_back list) ≡ list
unfolding canonical
canonical-read_back list form =
    ap (λ (l : List Attribute). by_type (with_pref (map written l))) (kept_again list form.each)
    ∙ ap (λ (l : List Attribute). by_type (with_pref l)) (written_again list form.each)
    ∙ settled list form

-- ---- reading what is written

written_fronts : (list : List Attribute) → AllByRecursion IsWritten list → AllByRecursion (λ a. IsFront attribute_size (attribute_octets a)) list
written_fronts [] each = tt
written_fronts (a ∷ list) each = (IsFront-attribute (attribute_octets a) (IsAttribute-attribute_octets a (flags-plain a each.0) each.0.fits), written_fronts list each.1)

pub cut-written : (list : List Attribute) → AllByRecursion IsWritten list → cut attribute_size (flat_map attribute_octets list) ≡ (map attribute_octets list, [])
cut-written list each = cut-flat_map_all attribute_size IsSize-attribute_size attribute_octets list (written_fronts list each)

each_again : (list : List Attribute) → AllByRecursion IsWritten list → map attribute_of (map attribute_octets list) ≡ map read_back list
each_again [] each = refl
each_again (a ∷ list) each = rw (attribute_of-attribute_octets a (flags-plain a each.0), each_again list each.1) refl

pub attributes_in-written : (list : List Attribute) → AllByRecursion IsWritten list → attributes_in (flat_map attribute_octets list) ≡ map read_back list
attributes_in-written list each = ap (λ (r : List (List ℕ) × List ℕ). map attribute_of r.0) (cut-written list each) ∙ each_again list each

module _ (list : List Attribute) (short : AllByRecursion IsShort list) where
  form : IsCanonical (canonical list)
  form = IsCanonical-canonical list short

  pub attributes_in-canonical : attributes_in (canonical_octets list) ≡ map read_back (canonical list)
  attributes_in-canonical = attributes_in-written (canonical list) form.each

  pub canonical-canonical : canonical (canonical list) ≡ canonical list
  canonical-canonical = canonical-same (canonical list) form

  -- the canonical form of canonical octets is the one that they were written from
  pub canonical_again : canonical (attributes_in (canonical_octets list)) ≡ canonical list
  canonical_again = ap canonical attributes_in-canonical ∙ canonical-read_back (canonical list) form

  pub canonical_octets_again : canonical_octets (attributes_in (canonical_octets list)) ≡ canonical_octets list
  canonical_octets_again = ap (flat_map attribute_octets) canonical_again

  -- values stand as they were
  pub value_of-again : (kind : ℕ) → value_of kind (attributes_in (canonical_octets list)) ≡ value_of kind (canonical list)
  value_of-again kind = ap (value_of kind) attributes_in-canonical ∙ value_of-map kind read_back (canonical list) kind-read_back value-read_back

-- what is recognised keeps its value, LOCAL_PREF where it was there
pub value_of-canonical : (kind : ℕ) (list : List Attribute) → is_recognised kind ≡ true → eqb LOCAL_PREF kind ≡ false → value_of kind (canonical list) ≡ value_of kind list
unfolding canonical
value_of-canonical kind list recognised other =
    value_of-by_type kind (with_pref (map written (filter is_kept list)))
    ∙ value_of-with_pref kind (map written (filter is_kept list)) other
    ∙ value_of-map kind written (filter is_kept list) (λ a. refl) (λ a. refl)
    ∙ value_of-kept kind recognised list

pub pref-canonical : (list : List Attribute) → value_of LOCAL_PREF (canonical list) ≡ pref_or (value_of LOCAL_PREF list)
unfolding canonical
pref-canonical list =
    value_of-by_type LOCAL_PREF (with_pref (map written (filter is_kept list)))
    ∙ pref-with_pref (map written (filter is_kept list))
    ∙ ap pref_or (value_of-map LOCAL_PREF written (filter is_kept list) (λ a. refl) (λ a. refl) ∙ value_of-kept LOCAL_PREF refl list)

-- ---- canonical octets are octets

written_flags-fit : (a : Attribute) → written_flags a ≤ 224
written_flags-fit a =
    cond_both (is_recognised a.kind) (category a.kind + cond (keeps_partial a.kind && is_partial a.flags) 32 0) 224 (λ (n : ℕ). n ≤ 224)
    (λ _. cond_both (keeps_partial a.kind && is_partial a.flags) 32 0 (λ (n : ℕ). category a.kind + n ≤ 224) (λ _. omega (arith, category-fits a.kind)) (λ _. omega (arith, category-fits a.kind)))
    (λ _. omega arith) where
      category-fits : (kind : ℕ) → category kind ≤ 192
      category-fits kind = (category-whole kind).1

attribute_octets-All : (a : Attribute) → IsWritten a → HasOctets a → All (λ o. o < 256) (attribute_octets a)
unfolding attribute_octets
attribute_octets-All a w octets =
    let flags : a.flags ≤ 224 = subst (λ (b : Attribute). b.flags ≤ 224) w.same (written_flags-fit a) in
    let kind : a.kind < 256 = octets.kind in
    let P : ℕ → Type 0 = λ o. o < 256 in
    cond_both (leb (length a.value) 255) (a.flags ∷ a.kind ∷ length a.value ∷ a.value) ((a.flags + 16) ∷ a.kind ∷ (to_be_bytes w16 (length a.value) ++ a.value)) (All P)
    (λ short. let few : length a.value < 256 = omega (arith, leb-true _ _ short) in
    All-append P (a.flags ∷ a.kind ∷ length a.value ∷ []) a.value (All-from_recursion P (a.flags ∷ a.kind ∷ length a.value ∷ []) (omega arith)) octets.value)
    (λ _. let head = (a.flags + 16) ∷ a.kind ∷ to_be_bytes w16 (length a.value) in
    All-append P head a.value (All-from_recursion P head (omega arith)) octets.value)

all_octets : (list : List Attribute) → AllByRecursion IsWritten list → AllByRecursion HasOctets list → All (λ o. o < 256) (flat_map attribute_octets list)
all_octets [] each octets = All-nil (λ o. o < 256)
all_octets (a ∷ list) each octets = All-append (λ o. o < 256) (attribute_octets a) (flat_map attribute_octets list) (attribute_octets-All a each.0 octets.0) (all_octets list each.1 octets.1)

kept_octets : (list : List Attribute) → AllByRecursion HasOctets list → AllByRecursion HasOctets (map written (filter is_kept list))
kept_octets [] each = tt
kept_octets (a ∷ list) each =
    cond_both (is_kept a) (a ∷ filter is_kept list) (filter is_kept list) (λ (l : List Attribute). AllByRecursion HasOctets (map written l))
    (λ _. (record { kind = each.0.kind; value = each.0.value }, kept_octets list each.1)) (λ _. kept_octets list each.1)

HasOctets-default : HasOctets default_pref
HasOctets-default = record { kind = omega arith; value = All-from_recursion (λ o. o < 256) default_pref.value (omega arith) }

pub canonical_octets-All : (list : List Attribute) → AllByRecursion IsShort list → AllByRecursion HasOctets list → All (λ o. o < 256) (canonical_octets list)
unfolding canonical
canonical_octets-All list short octets =
    let all = with_pref (map written (filter is_kept list)) in
    all_octets (by_type all) (IsCanonical-canonical list short).each (by_type-All HasOctets all (with_pref-All HasOctets (map written (filter is_kept list)) HasOctets-default (kept_octets list octets)))

-- ---- types and values, as they are read again

same_kinds : (list : List Attribute) → map (λ a. a.kind) (map read_back list) ≡ map (λ a. a.kind) list
same_kinds [] = refl
same_kinds (a ∷ list) = rw (kind-read_back a, same_kinds list) refl

same_values : (list : List Attribute) → map (λ a. a.value) (map read_back list) ≡ map (λ a. a.value) list
same_values [] = refl
same_values (a ∷ list) = rw (value-read_back a, same_values list) refl

pub kinds_again : (list : List Attribute) → AllByRecursion IsShort list → map (λ a. a.kind) (attributes_in (canonical_octets list)) ≡ map (λ a. a.kind) (canonical list)
kinds_again list short = ap (map (λ (a : Attribute). a.kind)) (attributes_in-canonical list short) ∙ same_kinds (canonical list)

pub values_again : (list : List Attribute) → AllByRecursion IsShort list → map (λ a. a.value) (attributes_in (canonical_octets list)) ≡ map (λ a. a.value) (canonical list)
values_again list short = ap (map (λ (a : Attribute). a.value)) (attributes_in-canonical list short) ∙ same_values (canonical list)

-- ---- the order of types, by places

kind_at : (n : ℕ) (list : List Attribute) → AllByRecursion (λ b. n ≤ b.kind) list → (j : ℕ) (d : Attribute) → j < length list → n ≤ (get_or list j d).kind
kind_at n [] each j d lt = absurd (omega arith)
kind_at n (a ∷ list) each zero d lt = each.0
kind_at n (a ∷ list) each (suc j) d lt = kind_at n list each.1 j d (omega arith)

never_falls : (list : List Attribute) → IsRising list → IsNonDecreasingBy (λ a. a.kind) list
never_falls [] rising i j d le lt = absurd (omega arith)
never_falls (a ∷ list) rising zero zero d le lt = omega arith
never_falls (a ∷ list) rising zero (suc j) d le lt = kind_at a.kind list rising.0 j d (omega arith)
never_falls (a ∷ list) rising (suc i) zero d le lt = absurd (omega arith)
never_falls (a ∷ list) rising (suc i) (suc j) d le lt = never_falls list rising.1 i j d (omega arith) (omega arith)

pub canonical-rising : (list : List Attribute) → IsNonDecreasingBy (λ a. a.kind) (canonical list)
unfolding canonical
canonical-rising list = never_falls (by_type (with_pref (map written (filter is_kept list)))) (by_type-rising (with_pref (map written (filter is_kept list))))
