-- The first fault of a list of attributes, one attribute after another.
use Rattle.std.proofs.Common.{◌≡◌, ℕ, zero, suc, ◌+◌, ◌<◌, ◌≤◌, Bool, true, false, cond, not, ◌||◌, ◌&&◌, eqb, leb, List, [], ◌∷◌, ◌++◌, length, get_or, drop, map, Option, Some, None, refl, sym, ap, subst, ◌⊎◌, ◌∙◌, inl, inr, append_assoc, arith}
use Rattle.std.specs.Prelude.{slice_index, slice_index_or, slice_set}
use Rattle.std.specs.List.{list_any, list_all}
use Rattle.std.specs.Option.{option_map}
use Rattle.std.proofs.lemmas.Bool.{cases_Bool, cases_eq, and_parts, leb-true, not-true}
use Rattle.std.proofs.lemmas.Bool.Decides.{nat_tests}
use Rattle.std.proofs.lemmas.List.{get_or-take, get_or-drop, get_or-set_same, get_or-set_other, length-drop, drop-drop, drop_all, append-nil}
use Rattle.std.proofs.lemmas.List.Folds.{list_any-append}
use Rattle.bgp_fault.specs.declared.Data.{Data}
use Rattle.bgp_fault.specs.declared.Data.TheVariants.{Span}
use Rattle.bgp_fault.specs.declared.Fault.{Fault}
use Rattle.bgp_fault.specs.Faults.{IsWithin}
use Rattle.rcp_base.specs.Cut.{cut}
use Rattle.rcp_base.specs.Checks.{first_failing}
use Rattle.rcp_model.specs.Messages.{FaultOf, fault}
use Rattle.rcp_model.specs.Attributes as model
use Rattle.rcp_model.specs.Attributes.{Attribute, ORIGIN, AS_PATH, NEXT_HOP, attribute_of, attribute_size, attributes_in, attribute_fault, attributes_fault, list_fault, missing_fault, or_else, is_recognised, is_optional, has_other_category, has_other_length, has_faulty_value, value_fault, is_kept, number_width}
use Rattle.path_attrs.specs.Refusals.{KeepsOne, fault_in, update_fault}
use Rattle.path_attrs.specs.Readings.{own_fault, faulty_value, piece_at, next_fault, malformed_list}
use Rattle.path_attrs.proofs.Cutting.{cut-more, cut-none}
use Rattle.path_attrs.proofs.Types.{has_kind}

-- ---- one attribute

-- the checks of an attribute as a chain of tests
chain : (seen known optional other_flags other_length faulty : Bool) (f0 f2 f4 f5 fv : FaultOf)
    → first_failing ((seen, f0) ∷ (not known && not optional, f2) ∷ (known && other_flags, f4) ∷ (known && other_length, f5) ∷ (known && faulty, fv) ∷ [])
    ≡ cond seen (Some f0) (cond known (cond other_flags (Some f4) (cond other_length (Some f5) (cond faulty (Some fv) None))) (cond optional None (Some f2)))
chain true known optional other_flags other_length faulty f0 f2 f4 f5 fv = refl
chain false true optional true other_length faulty f0 f2 f4 f5 fv = refl
chain false true optional false true faulty f0 f2 f4 f5 fv = refl
chain false true optional false false true f0 f2 f4 f5 fv = refl
chain false true optional false false false f0 f2 f4 f5 fv = refl
chain false false true other_flags other_length faulty f0 f2 f4 f5 fv = refl
chain false false false other_flags other_length faulty f0 f2 f4 f5 fv = refl

-- the same chain, of faults that name a span
mapped : (known optional other_flags other_length faulty : Bool) (g : Fault → FaultOf) (f2 f4 f5 fv : Fault)
    → cond known (cond other_flags (Some (g f4)) (cond other_length (Some (g f5)) (cond faulty (Some (g fv)) None))) (cond optional None (Some (g f2)))
    ≡ option_map g (cond known (cond other_flags (Some f4) (cond other_length (Some f5) (cond faulty (Some fv) None))) (cond optional None (Some f2)))
mapped true optional true other_length faulty g f2 f4 f5 fv = refl
mapped true optional false true faulty g f2 f4 f5 fv = refl
mapped true optional false false true g f2 f4 f5 fv = refl
mapped true optional false false false g f2 f4 f5 fv = refl
mapped false true other_flags other_length faulty g f2 f4 f5 fv = refl
mapped false false other_flags other_length faulty g f2 f4 f5 fv = refl

value_fault-is : (body : List ℕ) (start len : ℕ) (a : Attribute) → value_fault a (piece_at body start len) ≡ fault_in body (faulty_value a.kind (Span start len))
value_fault-is body start len a = elim (cases_Bool (eqb a.kind ORIGIN)) [
  | inl is ↦ rw is refl
  | inr other ↦ elim (cases_Bool (eqb a.kind AS_PATH)) [
    | inl is ↦ rw (other, is) refl
    | inr other2 ↦ elim (cases_Bool (eqb a.kind NEXT_HOP)) [
      | inl is ↦ rw (other, other2, is) refl
      | inr other3 ↦ rw (other, other2, other3) refl
    ]
  ]
]

-- the fault of a whole attribute is that its type is there already, or its own
pub attribute_fault-is : (body : List ℕ) (start len : ℕ) (kinds : List ℕ)
    → attribute_fault number_width kinds (piece_at body start len)
    ≡ cond (list_any (λ kind. eqb kind (attribute_of (piece_at body start len)).kind) kinds) (Some (fault 3 1 [])) (option_map (fault_in body) (own_fault (attribute_of (piece_at body start len)) (Span start len)))
unfolding attribute_fault
attribute_fault-is body start len kinds =
    let piece = piece_at body start len in
    let a = attribute_of (piece_at body start len) in
    let span = Span start len in
    let seen = list_any (λ kind. eqb kind a.kind) kinds in
    chain (list_any (λ kind. eqb kind a.kind) kinds) (is_recognised a.kind) (is_optional a.flags) (has_other_category a) (has_other_length number_width a) (has_faulty_value number_width a) (fault 3 1 []) (fault 3 2 piece) (fault 3 4 piece) (fault 3 5 piece) (value_fault a piece)
    ∙ ap (λ (t : Option FaultOf). cond seen (Some (fault 3 1 [])) t)
    (rw (value_fault-is body start len a)
    (mapped (is_recognised a.kind) (is_optional a.flags) (has_other_category a) (has_other_length number_width a) (has_faulty_value number_width a) (fault_in body) (update_fault 2 span) (update_fault 4 span) (update_fault 5 span) (faulty_value a.kind span)))

-- whether there is a fault doesn't hang on the place
pub own_fault-anywhere : (a : Attribute) (s t : Data) → own_fault a s ≡ None → own_fault a t ≡ None
own_fault-anywhere a s t none =
    no_fault (is_recognised a.kind) (has_other_category a) (has_other_length number_width a) (has_faulty_value number_width a) (is_optional a.flags) _ _ _ _ _ _ _ _ none where
      no_fault : (known other_flags other_length faulty optional : Bool) (f2 f4 f5 fv g2 g4 g5 gv : Fault)
          → cond known (cond other_flags (Some f4) (cond other_length (Some f5) (cond faulty (Some fv) None))) (cond optional None (Some f2)) ≡ None
          → cond known (cond other_flags (Some g4) (cond other_length (Some g5) (cond faulty (Some gv) None))) (cond optional None (Some g2)) ≡ None
      no_fault true true other_length faulty optional f2 f4 f5 fv g2 g4 g5 gv e = absurd cc
      no_fault true false true faulty optional f2 f4 f5 fv g2 g4 g5 gv e = absurd cc
      no_fault true false false true optional f2 f4 f5 fv g2 g4 g5 gv e = absurd cc
      no_fault true false false false optional f2 f4 f5 fv g2 g4 g5 gv e = refl
      no_fault false other_flags other_length faulty true f2 f4 f5 fv g2 g4 g5 gv e = refl
      no_fault false other_flags other_length faulty false f2 f4 f5 fv g2 g4 g5 gv e = absurd cc

-- ---- its place

-- how long a whole attribute is
pub record IsSized (octets : List ℕ) (len : ℕ) : Type 0 where
  pub len_is : len ≡ model.value_place octets + model.value_length octets
  pub fits : len ≤ length octets

pub sized : (octets : List ℕ) (len : ℕ) → attribute_size octets ≡ Some len → IsSized octets len
unfolding attribute_size
sized octets len some = go (leb (model.value_place octets) (length octets)) (leb (model.value_place octets + model.value_length octets) (length octets)) refl some
  where
    go : (a b : Bool) → leb (model.value_place octets + model.value_length octets) (length octets) ≡ b → cond (a && b) (Some (model.value_place octets + model.value_length octets)) None ≡ Some len → IsSized octets len
    go true true fits is = (let e : model.value_place octets + model.value_length octets ≡ len = cc in record { len_is = sym e; fits = omega (arith, leb-true _ _ fits, e) })
    go true false fits is = absurd cc
    go false true fits is = absurd cc
    go false false fits is = absurd cc

pub value_place-bounds : (octets : List ℕ) → (3 ≤ model.value_place octets) × (model.value_place octets ≤ 4)
value_place-bounds octets = elim (cases_Bool (model.is_extended (slice_index octets 0))) [
  | inl long ↦ rw long (omega arith, omega arith)
  | inr short ↦ rw short (omega arith, omega arith)
]

pub three : (octets : List ℕ) (len : ℕ) → attribute_size octets ≡ Some len → 3 ≤ len
three octets len some = omega (arith, (sized octets len some).len_is, (value_place-bounds octets).0)

-- the pieces from a place on
pub cut-next : (body : List ℕ) (place len : ℕ) → attribute_size (drop place body) ≡ Some len
    → cut attribute_size (drop place body) ≡ (piece_at body place len ∷ (cut attribute_size (drop (place + len) body)).0, (cut attribute_size (drop (place + len) body)).1)
cut-next body place len some =
    let s = sized (drop place body) len some in
    let t = three (drop place body) len some in
    rw (← drop-drop len place body) (cut-more attribute_size (drop place body) len some (omega arith) (omega (arith, s.fits)))

-- ---- one step of a reader

-- What a reader knows at a place: the attributes that are read, the types that have come, that the first fault and the attributes of the body are those of what is left after these,
-- and that the pieces in front have no fault.
pub record IsReading (body : List ℕ) (place : ℕ) (seen : List Bool) (done : List Attribute) : Type 0 where
  pub kinds : List ℕ
  pub judged : list_fault number_width [] (cut attribute_size body).0 (cut attribute_size body).1 ≡ list_fault number_width kinds (cut attribute_size (drop place body)).0 (cut attribute_size (drop place body)).1
  pub are_read : attributes_in body ≡ done ++ attributes_in (drop place body)
  pub kinds_are : (kind : ℕ) → list_any (λ k. eqb k kind) kinds ≡ has_kind kind done
  pub marked : (kind : ℕ) → kind < 256 → slice_index_or seen kind false ≡ has_kind kind done
  pub pieces : List (List ℕ)
  pub in_order : (cut attribute_size body).0 ≡ pieces ++ (cut attribute_size (drop place body)).0
  pub passed : (more : List (List ℕ)) → list_fault number_width [] (pieces ++ more) [] ≡ list_fault number_width kinds more []

unmarked : (seen : List Bool) → list_all not seen ≡ true → (k : ℕ) → slice_index_or seen k false ≡ false
unmarked [] none k = refl
unmarked (b ∷ seen) none zero = not-true b (and_parts (not b) (list_all not seen) none).0
unmarked (b ∷ seen) none (suc k) = unmarked seen (and_parts (not b) (list_all not seen) none).1 k

pub reading-begins : (body : List ℕ) (seen : List Bool) → list_all not seen ≡ true → IsReading body 0 seen []
reading-begins body seen none = record { kinds = []; judged = refl; are_read = refl; kinds_are = λ kind. refl; marked = λ kind small. unmarked seen none kind; pieces = []; in_order = refl; passed = λ more. refl }

or_false : (a b : Bool) → (a || (b || false)) ≡ (b || a)
or_false true true = refl
or_false true false = refl
or_false false true = refl
or_false false false = refl

has_kind-push : (kind : ℕ) (done : List Attribute) (a : Attribute) → has_kind kind (done ++ a ∷ []) ≡ (eqb a.kind kind || has_kind kind done)
has_kind-push kind done a = list_any-append (λ (b : Attribute). eqb b.kind kind) done (a ∷ []) ∙ or_false (has_kind kind done) (eqb a.kind kind)

cond_none : {X : Type 0} (b : Bool) (x : X) (o : Option X) → cond b (Some x) o ≡ None → (b ≡ false) × (o ≡ None)
cond_none true x o none = absurd cc
cond_none false x o none = (refl, none)

-- the fault at a place where an attribute is whole
pub next_fault-whole : (body : List ℕ) (place len : ℕ) (seen : List Bool) → attribute_size (drop place body) ≡ Some len
    → next_fault body place seen ≡ cond (slice_index_or seen (slice_index (piece_at body place len) 1) false) (Some malformed_list) (own_fault (attribute_of (piece_at body place len)) (Span place len))
next_fault-whole body place len seen some = rw (some, next_fault) refl

-- the first fault from a place on where an attribute is whole
list_fault-whole : (body : List ℕ) (place len : ℕ) (kinds : List ℕ) → attribute_size (drop place body) ≡ Some len
    → list_fault number_width kinds (cut attribute_size (drop place body)).0 (cut attribute_size (drop place body)).1
    ≡ or_else (attribute_fault number_width kinds (piece_at body place len)) (list_fault number_width (slice_index (piece_at body place len) 1 ∷ kinds) (cut attribute_size (drop (place + len) body)).0 (cut attribute_size (drop (place + len) body)).1)
unfolding list_fault
list_fault-whole body place len kinds some =
    ap (λ (parts : List (List ℕ) × List ℕ). list_fault number_width kinds parts.0 parts.1) (cut-next body place len some)

attributes_in-whole : (body : List ℕ) (place len : ℕ) → attribute_size (drop place body) ≡ Some len
    → attributes_in (drop place body) ≡ attribute_of (piece_at body place len) ∷ attributes_in (drop (place + len) body)
attributes_in-whole body place len some = ap (λ (parts : List (List ℕ) × List ℕ). map attribute_of parts.0) (cut-next body place len some)

marks : (seen : List Bool) (kind k : ℕ) (has : Bool) → kind < length seen → slice_index_or seen k false ≡ has → slice_index_or (slice_set seen kind true) k false ≡ (eqb kind k || has)
marks seen kind k has inside was = elim (cases_eq k kind) [
  | inl same ↦ (let is : eqb kind k ≡ true = grind (arith, nat_tests) in rw (is, same) (get_or-set_same seen kind true false inside))
  | inr apart ↦ (let is : eqb kind k ≡ false = grind (arith, nat_tests) in rw is (get_or-set_other seen kind k true false apart ∙ was))
]

list_fault-piece : (kinds : List ℕ) (piece : List ℕ) (more : List (List ℕ)) → attribute_fault number_width kinds piece ≡ None
    → list_fault number_width kinds (piece ∷ more) [] ≡ list_fault number_width (slice_index piece 1 ∷ kinds) more []
unfolding list_fault
list_fault-piece kinds piece more none = rw none refl

nothing_left : (kinds : List ℕ) → list_fault number_width kinds [] [] ≡ None
unfolding list_fault
nothing_left kinds = refl

-- a whole attribute without fault, at the reader's place
module _ (body : List ℕ) (place : ℕ) (seen : List Bool) (done : List Attribute) (now : IsReading body place seen done)
    (piece : List ℕ) (whole : attribute_size (drop place body) ≡ Some (length piece)) (taken : piece ≡ piece_at body place (length piece))
    (none : next_fault body place seen ≡ None) (octet : slice_index piece 1 < 256) where
  passes : (has_kind (slice_index piece 1) done ≡ false) × (attribute_fault number_width now.kinds piece ≡ None)
  passes =
      let len = length piece in
      let told = subst (λ q. cond (slice_index_or seen (slice_index q 1) false) (Some malformed_list) (own_fault (attribute_of q) (Span place len)) ≡ None) (sym taken)
      (sym (next_fault-whole body place len seen whole) ∙ none) in
      let parts = cond_none _ malformed_list (own_fault (attribute_of piece) (Span place len)) told in
      let fresh : has_kind (slice_index piece 1) done ≡ false = sym (now.marked (slice_index piece 1) octet) ∙ parts.0 in
      let new_type : list_any (λ k. eqb k (slice_index piece 1)) now.kinds ≡ false = now.kinds_are (slice_index piece 1) ∙ fresh in
      let is = subst (λ q. attribute_fault number_width now.kinds q
      ≡ cond (list_any (λ kind. eqb kind (attribute_of q).kind) now.kinds) (Some (fault 3 1 [])) (option_map (fault_in body) (own_fault (attribute_of q) (Span place len)))) (sym taken)
      (attribute_fault-is body place len now.kinds) in
      (fresh, is ∙ rw (new_type, parts.1) refl)

  in_front : (cut attribute_size body).0 ≡ now.pieces ++ piece ∷ (cut attribute_size (drop (place + length piece) body)).0
  in_front =
      now.in_order ∙ ap (λ (parts : List (List ℕ) × List ℕ). now.pieces ++ parts.0) (cut-next body place (length piece) whole)
      ∙ ap (λ q. now.pieces ++ q ∷ (cut attribute_size (drop (place + length piece) body)).0) (sym taken)

  -- the reader goes on after it
  pub reading-goes_on : length seen ≡ 256
      → IsReading body (place + length piece) (slice_set seen (slice_index piece 1) true) (done ++ attribute_of piece ∷ []) × (has_kind (slice_index piece 1) done ≡ false)
  reading-goes_on all =
      let a = attribute_of piece in
      let kind = slice_index piece 1 in
      let pass = passes in
      let judged_here = subst (λ q. list_fault number_width now.kinds (cut attribute_size (drop place body)).0 (cut attribute_size (drop place body)).1
      ≡ or_else (attribute_fault number_width now.kinds q) (list_fault number_width (slice_index q 1 ∷ now.kinds) (cut attribute_size (drop (place + length piece) body)).0 (cut attribute_size (drop (place + length piece) body)).1)) (sym taken)
      (list_fault-whole body place (length piece) now.kinds whole) in
      let read_here = subst (λ q. attributes_in (drop place body) ≡ attribute_of q ∷ attributes_in (drop (place + length piece) body)) (sym taken) (attributes_in-whole body place (length piece) whole) in (
        record {
          kinds = kind ∷ now.kinds;
          judged = now.judged ∙ judged_here ∙ rw pass.1 refl;
          are_read = now.are_read ∙ ap (λ (more : List Attribute). done ++ more) read_here ∙ sym (append_assoc done (a ∷ []) (attributes_in (drop (place + length piece) body)));
          kinds_are = λ k. ap (λ (t : Bool). eqb kind k || t) (now.kinds_are k) ∙ sym (has_kind-push k done a);
          marked = λ k small. marks seen kind k (has_kind k done) (omega arith) (now.marked k small) ∙ sym (has_kind-push k done a);
          pieces = now.pieces ++ piece ∷ [];
          in_order = in_front ∙ sym (append_assoc now.pieces (piece ∷ []) (cut attribute_size (drop (place + length piece) body)).0);
          passed = λ more. ap (λ (ps : List (List ℕ)). list_fault number_width [] ps []) (append_assoc now.pieces (piece ∷ []) more) ∙ now.passed (piece ∷ more) ∙ list_fault-piece now.kinds piece more pass.1;
        },
        pass.0,
      )

  -- where it is kept, it is one that memory is taken for
  pub reading-keeps : is_kept (attribute_of piece) ≡ true → KeepsOne body
  reading-keeps kept = record {
    front = now.pieces;
    piece = piece;
    behind = (cut attribute_size (drop (place + length piece) body)).0;
    in_order = in_front;
    faultless = now.passed (piece ∷ []) ∙ list_fault-piece now.kinds piece [] passes.1 ∙ nothing_left (slice_index piece 1 ∷ now.kinds);
    kept = kept;
  }

some_is : {X : Type 0} (x y : X) → Some x ≡ Some y → x ≡ y
some_is x y same = cc

cond_some : {X : Type 0} (b : Bool) (x y : X) (o : Option X) → cond b (Some x) o ≡ Some y → ((b ≡ true) × (x ≡ y)) ⊎ ((b ≡ false) × (o ≡ Some y))
cond_some true x y o same = inl (refl, some_is x y same)
cond_some false x y o same = inr (refl, same)

cond_within : (body : List ℕ) (b : Bool) (f g : Fault) (o : Option Fault) → IsWithin body f.extra → (o ≡ Some g → IsWithin body g.extra) → cond b (Some f) o ≡ Some g → IsWithin body g.extra
cond_within body b f g o first later is = elim (cond_some b f g o is) [
  | inl (_, same) ↦ subst (λ (h : Fault). IsWithin body h.extra) same first
  | inr (_, other) ↦ later other
]

faulty_value-within : (body : List ℕ) (kind : ℕ) (span : Data) → IsWithin body span → IsWithin body (faulty_value kind span).extra
faulty_value-within body kind span within = elim (cases_Bool (eqb kind ORIGIN)) [
  | inl is ↦ rw is within
  | inr other ↦ elim (cases_Bool (eqb kind AS_PATH)) [
    | inl is ↦ rw (other, is) tt
    | inr other2 ↦ elim (cases_Bool (eqb kind NEXT_HOP)) [
      | inl is ↦ rw (other, other2, is) within
      | inr other3 ↦ rw (other, other2, other3) within
    ]
  ]
]

own_fault-within : (body : List ℕ) (a : Attribute) (span : Data) (found : Fault) → IsWithin body span → own_fault a span ≡ Some found → IsWithin body found.extra
own_fault-within body a span found within is = elim (cases_Bool (is_recognised a.kind)) [
  | inl known ↦
      cond_within body (has_other_category a) (update_fault 4 span) found _ within
      (cond_within body (has_other_length number_width a) (update_fault 5 span) found _ within
      (cond_within body (has_faulty_value number_width a) (faulty_value a.kind span) found None (faulty_value-within body a.kind span within) (λ nothing. absurd cc)))
      (rw known at is)
  | inr unknown ↦ not_optional (is_optional a.flags) (rw unknown at is)
]
  where
    not_optional : (optional : Bool) → cond optional None (Some (update_fault 2 span)) ≡ Some found → IsWithin body found.extra
    not_optional true is' = absurd cc
    not_optional false is' = subst (λ (h : Fault). IsWithin body h.extra) (some_is (update_fault 2 span) found is') within

-- a fault at a place is the first one of the body
module _ (body : List ℕ) (place : ℕ) (seen : List Bool) (done : List Attribute) (now : IsReading body place seen done) (inside : place < length body) (octets : (k : ℕ) → get_or body k 0 < 256) (found : Fault) where
  stops-broken : attribute_size (drop place body) ≡ None → next_fault body place seen ≡ Some found
      → (list_fault number_width now.kinds (cut attribute_size (drop place body)).0 (cut attribute_size (drop place body)).1 ≡ Some (fault_in body found)) × IsWithin body found.extra
  unfolding list_fault
  stops-broken none is =
      let same : malformed_list ≡ found = some_is malformed_list found (rw (none, next_fault) at is) in
      let left : eqb (length (drop place body)) 0 ≡ false = grind (arith, nat_tests, length-drop place body) in
      let told : list_fault number_width now.kinds (cut attribute_size (drop place body)).0 (cut attribute_size (drop place body)).1 ≡ Some (fault_in body malformed_list) =
      ap (λ (parts : List (List ℕ) × List ℕ). list_fault number_width now.kinds parts.0 parts.1) (cut-none attribute_size (drop place body) none) ∙ rw left refl in
      subst (λ (h : Fault). (list_fault number_width now.kinds (cut attribute_size (drop place body)).0 (cut attribute_size (drop place body)).1 ≡ Some (fault_in body h)) × IsWithin body h.extra) same (told, tt)

  stops-whole : (len : ℕ) → attribute_size (drop place body) ≡ Some len → next_fault body place seen ≡ Some found
      → (list_fault number_width now.kinds (cut attribute_size (drop place body)).0 (cut attribute_size (drop place body)).1 ≡ Some (fault_in body found)) × IsWithin body found.extra
  stops-whole len some is =
      let a = attribute_of (piece_at body place len) in
      let kind = slice_index (piece_at body place len) 1 in
      let size = sized (drop place body) len some in
      let long = three (drop place body) len some in
      let small : kind < 256 = rw (get_or-take len (drop place body) 1 0 (omega arith), get_or-drop place body 1 0) (octets (place + 1)) in
      let within : place + len ≤ length body = omega (arith, size.fits, length-drop place body) in
      let whole = list_fault-whole body place len now.kinds some in
      let own = attribute_fault-is body place len now.kinds in
      let new_type : list_any (λ k. eqb k kind) now.kinds ≡ slice_index_or seen kind false = now.kinds_are kind ∙ sym (now.marked kind small) in
      elim (cond_some _ malformed_list found (own_fault a (Span place len)) (sym (next_fault-whole body place len seen some) ∙ is)) [
        | inl (there, same) ↦
            (let told : attribute_fault number_width now.kinds (piece_at body place len) ≡ Some (fault 3 1 []) = own ∙ rw (new_type, there) refl in
            subst (λ (h : Fault). (list_fault number_width now.kinds (cut attribute_size (drop place body)).0 (cut attribute_size (drop place body)).1 ≡ Some (fault_in body h)) × IsWithin body h.extra) same
            (whole ∙ rw told refl, tt))
        | inr (absent, mine) ↦
            (let told : attribute_fault number_width now.kinds (piece_at body place len) ≡ Some (fault_in body found) = own ∙ rw (new_type, absent, mine) refl in
            (whole ∙ rw told refl, own_fault-within body a (Span place len) found within mine))
      ]

  pub reading-stops : next_fault body place seen ≡ Some found
      → (list_fault number_width [] (cut attribute_size body).0 (cut attribute_size body).1 ≡ Some (fault_in body found)) × IsWithin body found.extra
  reading-stops is =
      let parts = go (attribute_size (drop place body)) refl is in
      (now.judged ∙ parts.0, parts.1)
    where
      go : (size : Option ℕ) → attribute_size (drop place body) ≡ size → next_fault body place seen ≡ Some found
          → (list_fault number_width now.kinds (cut attribute_size (drop place body)).0 (cut attribute_size (drop place body)).1 ≡ Some (fault_in body found)) × IsWithin body found.extra
      go None none is = stops-broken none is
      go (Some len) some is = stops-whole len some is

-- at the end there is no fault
pub reading-ends : (body : List ℕ) (place : ℕ) (seen : List Bool) (done : List Attribute) → IsReading body place seen done → length body ≤ place
    → (list_fault number_width [] (cut attribute_size body).0 (cut attribute_size body).1 ≡ None) × (attributes_in body ≡ done)
unfolding list_fault
reading-ends body place seen done now over =
    let nothing : drop place body ≡ [] = drop_all place body over in
    (now.judged ∙ rw nothing refl, now.are_read ∙ rw nothing (append-nil done))

-- ---- the whole list

pub attributes_fault-list : (nlri : Bool) (body : List ℕ) (told : FaultOf) → list_fault number_width [] (cut attribute_size body).0 (cut attribute_size body).1 ≡ Some told → attributes_fault number_width nlri body ≡ Some told
unfolding attributes_fault
attributes_fault-list nlri body told is = rw is refl

pub attributes_fault-missing : (nlri : Bool) (body : List ℕ) → list_fault number_width [] (cut attribute_size body).0 (cut attribute_size body).1 ≡ None
    → attributes_fault number_width nlri body ≡ cond nlri (missing_fault (attributes_in body)) None
unfolding attributes_fault
attributes_fault-missing nlri body is = rw is refl
