-- The first fault of a header, at each check.
use Rattle.std.proofs.Common.{◌≡◌, ◌≤◌, ltb, arith, ℕ, Bool, true, false, List, [], ◌∷◌, Some, None, refl, sym, ap, ◌∙◌}
use Rattle.std.specs.Int.{w16, to_be_bytes}
use Rattle.std.proofs.lemmas.Bool.{not_from_true, or_parts, ltb-false}
use Rattle.rcp_model.specs.Messages.{FaultOf, fault, has_marker, length_octets, length_field, type_field, is_outside, least_length, greatest_length, header_fault}
use Rattle.rcp_model.proofs.ReadingLemmas.{header_fault-None, header_passes}
use Rattle.bgp_msg.specs.HeaderFields.{IsHeader, IsLengthOf}

-- a number that isn't outside is within
bounds_of : (low high n : ℕ) → is_outside low high n ≡ false → (low ≤ n) × (n ≤ high)
bounds_of low high n e = let sides = or_parts (ltb n low) (ltb high n) e in (ltb-false _ _ sides.0, ltb-false _ _ sides.1)

abbrev bad_length : List ℕ → FaultOf
bad_length octets = fault 1 2 octets

pub marker_fault : (octets : List ℕ) → has_marker octets ≡ false → header_fault octets ≡ Some (fault 1 1 [])
unfolding header_fault
marker_fault octets e = rw e refl

module _ (octets : List ℕ) (marked : has_marker octets ≡ true) where
  length_fault_of : is_outside 19 4096 (length_field octets) ≡ true → header_fault octets ≡ Some (fault 1 2 (length_octets octets))
  unfolding header_fault
  length_fault_of e = rw (marked, e) refl

  type_fault_of : is_outside 19 4096 (length_field octets) ≡ false → is_outside 1 4 (type_field octets) ≡ true
      → header_fault octets ≡ Some (fault 1 3 (type_field octets ∷ []))
  unfolding header_fault
  type_fault_of within e = rw (marked, within, e) refl

  bounds_fault_of : is_outside 19 4096 (length_field octets) ≡ false → is_outside 1 4 (type_field octets) ≡ false
      → is_outside (least_length (type_field octets)) (greatest_length (type_field octets)) (length_field octets) ≡ true
      → header_fault octets ≡ Some (fault 1 2 (length_octets octets))
  unfolding header_fault
  bounds_fault_of within known e = rw (marked, within, known, e) refl

  module _ (kind len : ℕ) (read : IsHeader octets kind len) where
    abbrev bounds : Bool
    bounds = is_outside (least_length kind) (greatest_length kind) len

    same_bounds : is_outside (least_length (type_field octets)) (greatest_length (type_field octets)) (length_field octets) ≡ bounds
    same_bounds =
        ap (λ (n : ℕ). is_outside (least_length (type_field octets)) (greatest_length (type_field octets)) n) (sym read.len_is)
        ∙ ap (λ (k : ℕ). is_outside (least_length k) (greatest_length k) len) (sym read.kind_is)

    same_length : is_outside 19 4096 (length_field octets) ≡ is_outside 19 4096 len
    same_length = ap (is_outside 19 4096) (sym read.len_is)

    same_type : is_outside 1 4 (type_field octets) ≡ is_outside 1 4 kind
    same_type = ap (is_outside 1 4) (sym read.kind_is)

    told_length : Some (fault 1 2 (length_octets octets)) ≡ Some (fault 1 2 (to_be_bytes w16 len))
    told_length = ap (λ (o : List ℕ). Some (bad_length o)) (sym read.spelled)

    pub length_fault : is_outside 19 4096 len ≡ true → header_fault octets ≡ Some (fault 1 2 (to_be_bytes w16 len))
    length_fault e = length_fault_of (same_length ∙ e) ∙ told_length

    pub type_fault : is_outside 19 4096 len ≡ false → is_outside 1 4 kind ≡ true → header_fault octets ≡ Some (fault 1 3 (kind ∷ []))
    type_fault within e = type_fault_of (same_length ∙ within) (same_type ∙ e) ∙ ap (λ (k : ℕ). Some (fault 1 3 (k ∷ []))) (sym read.kind_is)

    pub bounds_fault : is_outside 19 4096 len ≡ false → is_outside 1 4 kind ≡ false → bounds ≡ true
        → header_fault octets ≡ Some (fault 1 2 (to_be_bytes w16 len))
    bounds_fault within known e = bounds_fault_of (same_length ∙ within) (same_type ∙ known) (same_bounds ∙ e) ∙ told_length

    pub no_fault : is_outside 19 4096 len ≡ false → is_outside 1 4 kind ≡ false → bounds ≡ false → header_fault octets ≡ None
    no_fault within known e =
        header_fault-None octets
        (not_from_true (has_marker octets) marked, (same_length ∙ within, (same_type ∙ known, (same_bounds ∙ e, tt))))

-- ---- the lengths of a header without a fault

module _ (octets : List ℕ) (kind len : ℕ) (read : IsHeader octets kind len) (faultless : header_fault octets ≡ None) where
  -- where the type is known, so are its bounds
  bounds_at : (k : ℕ) → kind ≡ k → is_outside (least_length k) (greatest_length k) len ≡ false
  bounds_at k is =
      ap (λ (n : ℕ). is_outside (least_length k) (greatest_length k) n) read.len_is
      ∙ ap (λ (j : ℕ). is_outside (least_length j) (greatest_length j) (length_field octets)) (sym is ∙ read.kind_is)
      ∙ (header_passes octets faultless).1.1.1.0

  pub IsLengthOf-faultless : IsLengthOf kind len
  IsLengthOf-faultless =
      let all = bounds_of 19 4096 (length_field octets) (header_passes octets faultless).1.0 in
      let types = bounds_of 1 4 (type_field octets) (header_passes octets faultless).1.1.0 in
      record {
        known = (omega (arith, types.0, read.kind_is), omega (arith, types.1, read.kind_is));
        least = omega (arith, all.0, read.len_is);
        most = omega (arith, all.1, read.len_is);
        opening = λ is. (bounds_of 29 4096 len (bounds_at 1 is)).0;
        update = λ is. (bounds_of 23 4096 len (bounds_at 2 is)).0;
        notification = λ is. (bounds_of 21 4096 len (bounds_at 3 is)).0;
        keepalive = λ is. let both = bounds_of 19 19 len (bounds_at 4 is) in omega (arith, both.0, both.1);
      }
