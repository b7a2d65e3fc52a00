-- The cutter: what it takes off the front, that its pieces and the rest are the octets, and that it is undone by putting pieces one after another.
use Rattle.std.proofs.Common.{◌≡◌, ℕ, zero, suc, ◌-◌, ◌<◌, ◌≤◌, ◌⊎◌, inl, inr, List, [], ◌∷◌, ◌++◌, length, map, take, drop, Option, Some, None, refl, sym, ap, ◌∙◌, subst, arith, take_at, drop_at, length-append, length-take-le, append_assoc, append-nil, take-append-drop, ⊎_elim}
use Rattle.std.specs.List.{concat, flat_map, All, AllByRecursion}
use Rattle.std.proofs.lemmas.List.Elements.{All-same, All-take, All-drop}
use Rattle.rcp_base.specs.Cut.{cut_after, cut}

-- ---- one step

-- octets that are still to come are passed over
pub cut_after-drop : (size : List ℕ → Option ℕ) (n : ℕ) (octets : List ℕ) → cut_after size n octets ≡ cut size (drop n octets)
cut_after-drop size zero octets = refl
cut_after-drop size (suc n) [] = refl
cut_after-drop size (suc n) (octet ∷ octets) = cut_after-drop size n octets

-- nothing is nothing
pub cut-nil : (size : List ℕ → Option ℕ) → cut size [] ≡ ([], [])
cut-nil size = refl

-- where no piece stands in front, all is the rest
pub cut-stop : (size : List ℕ → Option ℕ) (octets : List ℕ) → size octets ≡ None → cut size octets ≡ ([], octets)
cut-stop size [] stop = refl
cut-stop size (octet ∷ octets) stop = rw (stop, cut_after)

cut-cons : (size : List ℕ → Option ℕ) (n octet : ℕ) (octets : List ℕ) → size (octet ∷ octets) ≡ Some n
    → cut size (octet ∷ octets) ≡ (take n (octet ∷ octets) ∷ (cut_after size (n - 1) octets).0, (cut_after size (n - 1) octets).1)
cut-cons size n octet octets front = rw (front, cut_after)

-- a piece that stands in front comes first, and then the pieces of what follows it
pub cut-front : (size : List ℕ → Option ℕ) (n : ℕ) (octets : List ℕ) → size octets ≡ Some n → 0 < n → n ≤ length octets
    → cut size octets ≡ (take n octets ∷ (cut size (drop n octets)).0, (cut size (drop n octets)).1)
cut-front size zero octets front more within = absurd (omega arith)
cut-front size (suc n) [] front more within = absurd (omega arith)
cut-front size (suc n) (octet ∷ octets) front more within =
    let less : suc n - 1 ≡ n = omega arith in
    let rest : cut_after size (suc n - 1) octets ≡ cut size (drop n octets) = rw less (cut_after-drop size n octets) in
    cut-cons size (suc n) octet octets front ∙ ap (λ (r : List (List ℕ) × List ℕ). (take (suc n) (octet ∷ octets) ∷ r.0, r.1)) rest

pub cut-append : (size : List ℕ → Option ℕ) (piece more : List ℕ) → size (piece ++ more) ≡ Some (length piece) → 0 < length piece
    → cut size (piece ++ more) ≡ (piece ∷ (cut size more).0, (cut size more).1)
cut-append size piece more front some =
    let first : take (length piece) (piece ++ more) ≡ piece = take_at piece more (length piece) refl in
    let after : drop (length piece) (piece ++ more) ≡ more = drop_at piece more (length piece) refl in
    cut-front size (length piece) (piece ++ more) front some (omega (arith, length-append piece more)) ∙ rw (first, after) refl

-- ---- what a function that gives a length may keep

-- Every length that it gives is positive, and within the octets.
pub record IsSize (size : List ℕ → Option ℕ) : Type 0 where
  pub positive : (octets : List ℕ) (n : ℕ) → size octets ≡ Some n → 0 < n
  pub within : (octets : List ℕ) (n : ℕ) → size octets ≡ Some n → n ≤ length octets

-- It gives the same whatever stands after the piece.
pub record IsLocal (size : List ℕ → Option ℕ) : Type 0 where
  pub anyway : (piece more other : List ℕ) → size (piece ++ more) ≡ Some (length piece) → size (piece ++ other) ≡ Some (length piece)

-- The octets are seen as a piece in front of whatever follows.
pub record IsFront (size : List ℕ → Option ℕ) (piece : List ℕ) : Type 0 where
  pub seen : (more : List ℕ) → size (piece ++ more) ≡ Some (length piece)

-- ---- what a cut is: a law by cases on the pieces

-- The octets are these pieces, each of the length that is given where it stands in front, and then a rest in which none stands in front.
abbrev pub IsCut : (List ℕ → Option ℕ) → List ℕ → List (List ℕ) → List ℕ → Type 0
IsCut size octets [] rest = (octets ≡ rest) × ((octets ≡ []) ⊎ (size octets ≡ None))
IsCut size octets (piece ∷ pieces) rest = (more : List ℕ) × (octets ≡ piece ++ more) × (size octets ≡ Some (length piece)) × IsCut size more pieces rest

module _ (size : List ℕ → Option ℕ) (ok : IsSize size) where
  -- one step, after the piece that is under way has come to its end
  next_piece : (o : Option ℕ) (octet : ℕ) (octets : List ℕ) → size (octet ∷ octets) ≡ o
      → ((n : ℕ) → n ≤ length octets → IsCut size (drop n octets) (cut_after size n octets).0 (cut_after size n octets).1)
      → IsCut size (octet ∷ octets) (cut size (octet ∷ octets)).0 (cut size (octet ∷ octets)).1
  next_piece None octet octets e after =
      subst (λ (r : List (List ℕ) × List ℕ). IsCut size (octet ∷ octets) r.0 r.1) (sym (cut-stop size (octet ∷ octets) e)) (refl, inr e)
  next_piece (Some zero) octet octets e after = absurd (omega (arith, ok.positive (octet ∷ octets) 0 e))
  next_piece (Some (suc n)) octet octets e after =
      let within : suc n ≤ length (octet ∷ octets) = ok.within (octet ∷ octets) (suc n) e in
      let less : suc n - 1 ≡ n = omega arith in
      let long : length (take (suc n) (octet ∷ octets)) ≡ suc n = length-take-le (suc n) (octet ∷ octets) within in
      let rest = subst (λ (k : ℕ). IsCut size (drop n octets) (cut_after size k octets).0 (cut_after size k octets).1) (sym less) (after n (omega arith)) in
      subst (λ (r : List (List ℕ) × List ℕ). IsCut size (octet ∷ octets) r.0 r.1) (sym (cut-cons size (suc n) octet octets e))
      (drop n octets, sym (take-append-drop (suc n) (octet ∷ octets)), e ∙ ap Some (sym long), rest)

  cut_after_is : (left : ℕ) (octets : List ℕ) → left ≤ length octets → IsCut size (drop left octets) (cut_after size left octets).0 (cut_after size left octets).1
  cut_after_is zero [] le = (refl, inl refl)
  cut_after_is (suc left) [] le = absurd (omega arith)
  cut_after_is (suc left) (octet ∷ octets) le = cut_after_is left octets (omega arith)
  cut_after_is zero (octet ∷ octets) le = next_piece (size (octet ∷ octets)) octet octets refl (λ n within. cut_after_is n octets within)

  pub cut_is : (octets : List ℕ) → IsCut size octets (cut size octets).0 (cut size octets).1
  cut_is octets = cut_after_is 0 octets (omega arith)

  -- no other pieces and rest are so
  pub cut_unique : (pieces : List (List ℕ)) (octets rest : List ℕ) → IsCut size octets pieces rest → cut size octets ≡ (pieces, rest)
  cut_unique [] octets rest h = ⊎_elim (λ e. ap (cut size) e ∙ ap (λ (r : List ℕ). ([], r)) (sym e ∙ h.0)) (λ e. rw (← h.0) (cut-stop size octets e)) h.1
  cut_unique (piece ∷ pieces) octets rest h =
      let front : size (piece ++ h.0) ≡ Some (length piece) = rw h.1 at h.2 in
      ap (cut size) h.1 ∙ cut-append size piece h.0 front (ok.positive _ _ h.2) ∙ ap (λ (r : List (List ℕ) × List ℕ). (piece ∷ r.0, r.1)) (cut_unique pieces h.0 rest h.3)

  -- ---- what follows from it

  whole : (pieces : List (List ℕ)) (octets rest : List ℕ) → IsCut size octets pieces rest → octets ≡ concat pieces ++ rest
  whole [] octets rest h = h.0
  whole (piece ∷ pieces) octets rest h = h.1 ∙ ap (λ (more : List ℕ). piece ++ more) (whole pieces h.0 rest h.3) ∙ sym (append_assoc piece (concat pieces) rest)

  -- the octets are the pieces one after another, and then the rest
  pub cut-whole : (octets : List ℕ) → octets ≡ concat (cut size octets).0 ++ (cut size octets).1
  cut-whole octets = whole (cut size octets).0 octets (cut size octets).1 (cut_is octets)

  rest_stops : (pieces : List (List ℕ)) (octets rest : List ℕ) → IsCut size octets pieces rest → (rest ≡ []) ⊎ (size rest ≡ None)
  rest_stops [] octets rest h = ⊎_elim (λ e. inl (sym h.0 ∙ e)) (λ e. inr (ap size (sym h.0) ∙ e)) h.1
  rest_stops (piece ∷ pieces) octets rest h = rest_stops pieces h.0 rest h.3

  -- the rest is nothing, or octets in front of which no piece stands
  pub cut-rest : (octets : List ℕ) → ((cut size octets).1 ≡ []) ⊎ (size (cut size octets).1 ≡ None)
  cut-rest octets = rest_stops (cut size octets).0 octets (cut size octets).1 (cut_is octets)

  -- each piece has the length that is given where it stands in front of something
  pub pieces_in_front : (pieces : List (List ℕ)) (octets rest : List ℕ) → IsCut size octets pieces rest
      → AllByRecursion (λ piece. (more : List ℕ) × (size (piece ++ more) ≡ Some (length piece))) pieces
  pieces_in_front [] octets rest h = tt
  pieces_in_front (piece ∷ pieces) octets rest h = ((h.0, rw h.1 at h.2), pieces_in_front pieces h.0 rest h.3)

  pub cut-pieces : (octets : List ℕ) → AllByRecursion (λ piece. (more : List ℕ) × (size (piece ++ more) ≡ Some (length piece))) (cut size octets).0
  cut-pieces octets = pieces_in_front (cut size octets).0 octets (cut size octets).1 (cut_is octets)

  -- what holds of each octet holds of each in a piece, and of each in the rest
  all_of_pieces : (P : ℕ → Type 0) (pieces : List (List ℕ)) (octets rest : List ℕ) → IsCut size octets pieces rest → All P octets → AllByRecursion (All P) pieces
  all_of_pieces P [] octets rest h all = tt
  all_of_pieces P (piece ∷ pieces) octets rest h all =
      let both = All-same P (piece ++ h.0) octets (sym h.1) all in
      let first : take (length piece) (piece ++ h.0) ≡ piece = take_at piece h.0 (length piece) refl in
      let after : drop (length piece) (piece ++ h.0) ≡ h.0 = drop_at piece h.0 (length piece) refl in
      (subst (All P) first (All-take P (length piece) (piece ++ h.0) both), all_of_pieces P pieces h.0 rest h.3 (subst (All P) after (All-drop P (length piece) (piece ++ h.0) both)))

  pub cut-All : (P : ℕ → Type 0) (octets : List ℕ) → All P octets → AllByRecursion (All P) (cut size octets).0
  cut-All P octets all = all_of_pieces P (cut size octets).0 octets (cut size octets).1 (cut_is octets) all

  -- ---- pieces that are put one after another are cut into these again

  pub cut-concat : (pieces : List (List ℕ)) (more : List ℕ) → AllByRecursion (IsFront size) pieces → cut size (concat pieces ++ more) ≡ (pieces ++ (cut size more).0, (cut size more).1)
  cut-concat [] more each = refl
  cut-concat (piece ∷ pieces) more each =
      let front : size (piece ++ (concat pieces ++ more)) ≡ Some (length piece) = each.0.seen (concat pieces ++ more) in
      ap (cut size) (append_assoc piece (concat pieces) more)
      ∙ cut-append size piece (concat pieces ++ more) front (ok.positive _ _ front)
      ∙ ap (λ (r : List (List ℕ) × List ℕ). (piece ∷ r.0, r.1)) (cut-concat pieces more each.1)

  pub cut-concat_all : (pieces : List (List ℕ)) → AllByRecursion (IsFront size) pieces → cut size (concat pieces) ≡ (pieces, [])
  cut-concat_all pieces each = ap (cut size) (sym (append-nil (concat pieces))) ∙ cut-concat pieces [] each ∙ ap (λ (l : List (List ℕ)). (l, [])) (append-nil pieces)

  -- the same where each item of a list is written as a piece
  pub cut-flat_map : {X : Type 0} (f : X → List ℕ) (items : List X) (more : List ℕ) → AllByRecursion (λ item. IsFront size (f item)) items → cut size (flat_map f items ++ more) ≡ (map f items ++ (cut size more).0, (cut size more).1)
  cut-flat_map f [] more each = refl
  cut-flat_map f (item ∷ items) more each =
      let front : size (f item ++ (flat_map f items ++ more)) ≡ Some (length (f item)) = each.0.seen (flat_map f items ++ more) in
      ap (cut size) (append_assoc (f item) (flat_map f items) more)
      ∙ cut-append size (f item) (flat_map f items ++ more) front (ok.positive _ _ front)
      ∙ ap (λ (r : List (List ℕ) × List ℕ). (f item ∷ r.0, r.1)) (cut-flat_map f items more each.1)

  pub cut-flat_map_all : {X : Type 0} (f : X → List ℕ) (items : List X) → AllByRecursion (λ item. IsFront size (f item)) items → cut size (flat_map f items) ≡ (map f items, [])
  cut-flat_map_all f items each = ap (cut size) (sym (append-nil (flat_map f items))) ∙ cut-flat_map f items [] each ∙ ap (λ (l : List (List ℕ)). (l, [])) (append-nil (map f items))

  -- ---- where the length depends on the piece alone

  module _ (front : IsLocal size) where
    pub IsFront-seen : (piece more : List ℕ) → size (piece ++ more) ≡ Some (length piece) → IsFront size piece
    IsFront-seen piece more e = record { seen = λ other. front.anyway piece more other e }

    all_in_front : (pieces : List (List ℕ)) → AllByRecursion (λ piece. (more : List ℕ) × (size (piece ++ more) ≡ Some (length piece))) pieces → AllByRecursion (IsFront size) pieces
    all_in_front [] each = tt
    all_in_front (piece ∷ pieces) each = (IsFront-seen piece each.0.0 each.0.1, all_in_front pieces each.1)

    -- each piece of a cut is seen in front of whatever follows
    pub pieces_are_fronts : (octets : List ℕ) → AllByRecursion (IsFront size) (cut size octets).0
    pieces_are_fronts octets = all_in_front (cut size octets).0 (cut-pieces octets)

    -- octets that come later are put after the rest: they change no piece that is whole
    pub cut-later : (octets later : List ℕ) → cut size (octets ++ later) ≡ ((cut size octets).0 ++ (cut size ((cut size octets).1 ++ later)).0, (cut size ((cut size octets).1 ++ later)).1)
    cut-later octets later =
        ap (λ (o : List ℕ). cut size (o ++ later)) (cut-whole octets)
        ∙ ap (cut size) (append_assoc (concat (cut size octets).0) (cut size octets).1 later)
        ∙ cut-concat (cut size octets).0 ((cut size octets).1 ++ later) (pieces_are_fronts octets)
