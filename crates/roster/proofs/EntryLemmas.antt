-- What the entries of the map of identifiers say of the list of members.
use Rattle.std.proofs.Common.{true≢false, if◌then◌else◌, length-append, ◌≡◌, ℕ, suc, ◌+◌, Bool, true, false, not, cond, eqb, nat_lt, ◌||◌, List, [], ◌∷◌, ◌++◌, map, length, position, Option, Some, None, is_some, refl, sym, ap, ◌∙◌, arith}
use Rattle.std.specs.List.{list_any, prefix_len}
use Rattle.std.proofs.lemmas.Bool.{eqb-true, eq-eqb}
use Rattle.std.proofs.lemmas.List.{map-append}
use Rattle.std.specs.Map.{keys_of, lookup}
use Rattle.std.specs.Option.{option_to_list}
use Rattle.indexmap.specs.IndexSet.{insert_key}
use Rattle.std.proofs.lemmas.Map.Made.{is_some-lookup}
use Rattle.rcp_base.specs.declared.names.Member.{Member}
use Rattle.rcp_base.specs.Roster.{has_router, has_identifier}
use Rattle.roster.specs.Entries.{member_of, identifier_of}

-- ---- a test of lists that come of one list

module _ {E A B : Type 0} (p : A → Bool) (q : B → Bool) (f : E → A) (g : E → B) (same : (e : E) → p (f e) ≡ q (g e)) where
  pub any-same : (es : List E) → list_any p (map f es) ≡ list_any q (map g es)
  any-same [] = refl
  any-same (e ∷ es) = rw (same e) (ap (λ t. q (g e) || t) (any-same es))

  prefix-same : (es : List E) → prefix_len (λ x. not (p x)) (map f es) ≡ prefix_len (λ x. not (q x)) (map g es)
  prefix-same [] = refl
  prefix-same (e ∷ es) = rw (same e) (ap (λ n. cond (not (q (g e))) (1 + n) 0) (prefix-same es))

  length-same : (es : List E) → length (map f es) ≡ length (map g es)
  length-same [] = refl
  length-same (e ∷ es) = ap suc (length-same es)

  pub position-same : (es : List E) → position p (map f es) ≡ position q (map g es)
  position-same es =
      ap (λ n. cond (nat_lt n (length (map f es))) (Some n) None) (prefix-same es)
      ∙ ap (λ n. cond (nat_lt (prefix_len (λ x. not (q x)) (map g es)) n) (Some (prefix_len (λ x. not (q x)) (map g es))) None) (length-same es)

-- ---- equal in either order

turned : (a b : ℕ) → eqb a b ≡ true → eqb b a ≡ true
turned a b e = eq-eqb b a (sym (eqb-true a b e))

pub eqb-turned : (a b : ℕ) → eqb a b ≡ eqb b a
eqb-turned a b = by (eqb a b) (eqb b a) refl refl
  where
    by : (s t : Bool) → eqb a b ≡ s → eqb b a ≡ t → eqb a b ≡ eqb b a
    by true t e f = e ∙ sym (turned a b e)
    by false true e f = turned b a f ∙ sym f
    by false false e f = e ∙ sym f

-- ---- the look-ups

module _ (eq : ℕ → ℕ → Bool) (same : (a b : ℕ) → eq a b ≡ eqb a b) where
  turn : (k n : ℕ) → eq k n ≡ eqb n k
  turn k n = same k n ∙ eqb-turned k n

  pub router-found : (k : ℕ) (es : List (ℕ × ℕ)) → is_some (lookup (eq k) es) ≡ has_router (map member_of es) k
  router-found k es =
      is_some-lookup (eq k) es
      ∙ any-same (eq k) (λ (m : Member). eqb m.router k) (λ (e : ℕ × ℕ). e.0) member_of (λ e. turn k e.0) es

  pub router-place : (k : ℕ) (es : List (ℕ × ℕ)) → position (eq k) (keys_of es) ≡ position (λ m. eqb m.router k) (map member_of es)
  router-place k es = position-same (eq k) (λ (m : Member). eqb m.router k) (λ (e : ℕ × ℕ). e.0) member_of (λ e. turn k e.0) es

  pub identifier-found : (k : ℕ) (es : List (ℕ × ℕ)) → list_any (eq k) (map identifier_of es) ≡ has_identifier (map member_of es) k
  identifier-found k es = any-same (eq k) (λ (m : Member). eqb m.bgp_id k) identifier_of member_of (λ e. turn k e.1) es

  pub identifier-place : (k : ℕ) (es : List (ℕ × ℕ)) → position (eq k) (map identifier_of es) ≡ position (λ m. eqb m.bgp_id k) (map member_of es)
  identifier-place k es = position-same (eq k) (λ (m : Member). eqb m.bgp_id k) identifier_of member_of (λ e. turn k e.1) es

-- ---- one more member

-- what `pop` leaves, where x was put last
pub popped : (xs ys : List ℕ) (x : ℕ) (r : Option ℕ) → xs ++ x ∷ [] ≡ ys ++ option_to_list r → is_some r ≡ true → ys ≡ xs
popped xs ys x None e there = absurd (true≢false (sym there))
popped [] [] x (Some z) e there = refl
popped [] (y ∷ ys) x (Some z) e there = absurd (omega (arith, simp length-append at (ap length e)))
popped (a ∷ xs) [] x (Some z) e there = absurd (omega (arith, simp length-append at (ap length e)))
popped (a ∷ xs) (b ∷ ys) x (Some z) e there =
    let head : a ≡ b = cc in
    let tail : xs ++ x ∷ [] ≡ ys ++ z ∷ [] = cc in
    let rest : ys ≡ xs = popped xs ys x (Some z) tail there in
    cc

pub put_last : (eq : ℕ → ℕ → Bool) (ids : List ℕ) (id : ℕ) → list_any (eq id) ids ≡ false → insert_key eq ids id ≡ ids ++ id ∷ []
put_last eq ids id new = ap (λ (t : Bool). if t then ids else ids ++ id ∷ []) new

none-found : (o : Option ℕ) → is_some o ≡ false → o ≡ None
none-found None e = refl
none-found (Some x) e = absurd (true≢false e)

pub identifiers-more : (es more : List (ℕ × ℕ)) (router id : ℕ) → more ≡ es ++ (router, id) ∷ [] → map identifier_of more ≡ map identifier_of es ++ id ∷ []
identifiers-more es more router id e = ap (map identifier_of) e ∙ map-append identifier_of es ((router, id) ∷ [])

pub members-more : (es more : List (ℕ × ℕ)) (router id : ℕ) → more ≡ es ++ (router, id) ∷ [] → map member_of more ≡ map member_of es ++ record { router = router; bgp_id = id } ∷ []
members-more es more router id e = ap (map member_of) e ∙ map-append member_of es ((router, id) ∷ [])

module _ (eq : ℕ → ℕ → Bool) (same : (a b : ℕ) → eq a b ≡ eqb a b) where
  pub taken-more : (es : List (ℕ × ℕ)) (members : List Member) (ids after : List ℕ) (id : ℕ) → ids ≡ map identifier_of es → map member_of es ≡ members
      → has_identifier members id ≡ false → after ≡ insert_key eq ids id → after ≡ map identifier_of es ++ id ∷ []
  taken-more es members ids after id is view new put =
      let fresh : list_any (eq id) ids ≡ false =
      ap (λ (xs : List ℕ). list_any (eq id) xs) is ∙ identifier-found eq same id es ∙ ap (λ (ms : List Member). has_identifier ms id) view ∙ new in
      put ∙ put_last eq ids id fresh ∙ ap (λ (xs : List ℕ). xs ++ id ∷ []) is

  pub router-new : (es : List (ℕ × ℕ)) (members : List Member) (router : ℕ) → map member_of es ≡ members → has_router members router ≡ false → lookup (eq router) es ≡ None
  router-new es members router view new = none-found (lookup (eq router) es) (router-found eq same router es ∙ ap (λ (ms : List Member). has_router ms router) view ∙ new)
