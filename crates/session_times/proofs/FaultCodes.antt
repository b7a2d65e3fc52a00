-- The fault of a message isn't that of a timer.
use Rattle.std.proofs.Common.{◌≢◌, ℕ, Bool, true, false, cond, inl, inr, List, [], ◌∷◌, length, Option, Some, None, eqb, arith}
use Rattle.std.specs.Prelude.{not, ◌&&◌, is_none, slice_index}
use Rattle.std.specs.List.{AllByRecursion, list_any}
use Rattle.std.proofs.lemmas.Bool.{cases_Bool}
use Rattle.std.specs.Int.{Width}
use Rattle.rcp_base.specs.Cut.{cut}
use Rattle.rcp_base.specs.Checks.{first_failing}
use Rattle.rcp_model.specs.Messages.{FaultOf, fault, header_fault, has_marker, is_outside, length_field, length_octets, type_field, least_length, greatest_length}
use Rattle.rcp_model.specs.Opens.{open_fault, version_of, VERSION, open_fields, is_short_hold, parameters_length, parameters_of, has_unknown_parameter, has_partial_parameter}
use Rattle.rcp_model.specs.Attributes.{Attribute, ORIGIN, AS_PATH, NEXT_HOP, value_of, attribute_of, is_recognised, is_optional, has_other_category, has_other_length, has_faulty_value, attribute_size, attributes_in, or_else, value_fault, attribute_fault, list_fault, missing_fault, attributes_fault}
use Rattle.rcp_model.specs.Updates.{update_fault, prefixes_fault, sections_of}

-- the fault of a message, or none
abbrev pub IsOfMessage : Option FaultOf → Type 0
IsOfMessage None = Unit {0}
IsOfMessage (Some why) = why.code ≢ 4

of-checks : (checks : List (Bool × FaultOf)) → AllByRecursion (λ (check : Bool × FaultOf). check.1.code ≢ 4) checks → IsOfMessage (first_failing checks)
of-checks [] each = tt
of-checks (check ∷ checks) each = elim (cases_Bool check.0) [
  | inl is ↦ rw (is) each.0
  | inr is ↦ rw (is) (of-checks checks each.1)
]

of-either : (first second : Option FaultOf) → IsOfMessage first → IsOfMessage second → IsOfMessage (or_else first second)
of-either None second f s = s
of-either (Some why) second f s = f

of-test : (b : Bool) (first second : Option FaultOf) → IsOfMessage first → IsOfMessage second → IsOfMessage (cond b first second)
of-test true first second f s = f
of-test false first second f s = s

pub of-header : (octets : List ℕ) → IsOfMessage (header_fault octets)
unfolding header_fault
of-header octets = of-checks (
    (not (has_marker octets), fault 1 1 [])
    ∷ (is_outside 19 4096 (length_field octets), fault 1 2 (length_octets octets))
    ∷ (is_outside 1 4 (type_field octets), fault 1 3 (type_field octets ∷ []))
    ∷ (is_outside (least_length (type_field octets)) (greatest_length (type_field octets)) (length_field octets), fault 1 2 (length_octets octets))
    ∷ []) (λ e. omega arith, (λ e. omega arith, (λ e. omega arith, (λ e. omega arith, tt))))

pub of-open : (knows : ℕ → Bool) (as_number : ℕ) (body : List ℕ) → IsOfMessage (open_fault knows as_number body)
unfolding open_fault
of-open knows as_number body = of-checks (
    (not (eqb (version_of body) VERSION), fault 2 1 (0 ∷ VERSION ∷ []))
    ∷ (not (eqb (open_fields body).as_number as_number), fault 2 2 [])
    ∷ (is_short_hold (open_fields body).hold, fault 2 6 [])
    ∷ (not (knows (open_fields body).id), fault 2 3 [])
    ∷ (not (eqb (parameters_length body) (length (parameters_of body))), fault 2 0 [])
    ∷ (has_unknown_parameter (parameters_of body), fault 2 4 [])
    ∷ (has_partial_parameter (parameters_of body), fault 2 0 [])
    ∷ []) (λ e. omega arith, (λ e. omega arith, (λ e. omega arith, (λ e. omega arith, (λ e. omega arith, (λ e. omega arith, (λ e. omega arith, tt)))))))

of-prefixes : (octets : List ℕ) → IsOfMessage (prefixes_fault octets)
of-prefixes octets = of-test _ None (Some (fault 3 10 [])) tt (λ e. omega arith)

-- the fault of a test
other-code : (b : Bool) (first second : FaultOf) → first.code ≢ 4 → second.code ≢ 4 → (cond b first second).code ≢ 4
other-code true first second f s = f
other-code false first second f s = s

of-value : (a : Attribute) (piece : List ℕ) → (value_fault a piece).code ≢ 4
of-value a piece =
    other-code _ (fault 3 6 piece) _ (λ e. omega arith)
    (other-code _ (fault 3 11 []) _ (λ e. omega arith)
    (other-code _ (fault 3 8 piece) (fault 3 9 piece) (λ e. omega arith) (λ e. omega arith)))

of-attribute : (width : Width) (seen piece : List ℕ) → IsOfMessage (attribute_fault width seen piece)
unfolding attribute_fault
of-attribute width seen piece = let a = attribute_of piece in of-checks (
    (list_any (λ kind. eqb kind a.kind) seen, fault 3 1 [])
    ∷ (not (is_recognised a.kind) && not (is_optional a.flags), fault 3 2 piece)
    ∷ (is_recognised a.kind && has_other_category a, fault 3 4 piece)
    ∷ (is_recognised a.kind && has_other_length width a, fault 3 5 piece)
    ∷ (is_recognised a.kind && has_faulty_value width a, value_fault a piece)
    ∷ []) (λ e. omega arith, (λ e. omega arith, (λ e. omega arith, (λ e. omega arith, (of-value a piece, tt)))))

of-list : (width : Width) (seen : List ℕ) (pieces : List (List ℕ)) (rest : List ℕ) → IsOfMessage (list_fault width seen pieces rest)
unfolding list_fault
of-list width seen [] rest = of-test _ None (Some (fault 3 1 [])) tt (λ e. omega arith)
of-list width seen (piece ∷ pieces) rest = of-either (attribute_fault width seen piece) _ (of-attribute width seen piece) (of-list width (slice_index piece 1 ∷ seen) pieces rest)

of-missing : (attributes : List Attribute) → IsOfMessage (missing_fault attributes)
of-missing attributes = of-checks (
    (is_none (value_of ORIGIN attributes), fault 3 3 (ORIGIN ∷ []))
    ∷ (is_none (value_of AS_PATH attributes), fault 3 3 (AS_PATH ∷ []))
    ∷ (is_none (value_of NEXT_HOP attributes), fault 3 3 (NEXT_HOP ∷ []))
    ∷ []) (λ e. omega arith, (λ e. omega arith, (λ e. omega arith, tt)))

of-attributes : (width : Width) (nlri : Bool) (octets : List ℕ) → IsOfMessage (attributes_fault width nlri octets)
unfolding attributes_fault
of-attributes width nlri octets =
    of-either (list_fault width [] (cut attribute_size octets).0 (cut attribute_size octets).1) _ (of-list width [] _ _)
    (of-test nlri (missing_fault (attributes_in octets)) None (of-missing (attributes_in octets)) tt)

pub of-update : (width : Width) (body : List ℕ) → IsOfMessage (update_fault width body)
unfolding update_fault
of-update width body = elim (sections_of body) as (λ found. IsOfMessage (elim found [
  | None ↦ Some (fault 3 1 [])
  | Some sections ↦
      or_else (attributes_fault width (not (eqb (length sections.nlri) 0)) sections.attributes)
      (or_else (prefixes_fault sections.withdrawn) (prefixes_fault sections.nlri))
])) [
  | None ↦ λ e. omega arith
  | Some sections ↦
      of-either (attributes_fault width (not (eqb (length sections.nlri) 0)) sections.attributes) _ (of-attributes width _ sections.attributes)
      (of-either (prefixes_fault sections.withdrawn) _ (of-prefixes sections.withdrawn) (of-prefixes sections.nlri))
]
