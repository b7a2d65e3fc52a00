-- An OPEN that is written is read again, and where its identifier is judged.
use Rattle.std.proofs.Common.{◌≡◌, ℕ, Bool, true, false, cond, not, eqb, List, [], ◌∷◌, ◌++◌, length, drop, Option, Some, None, refl, ap, ◌∙◌, arith}
use Rattle.std.specs.Prelude.{if◌then◌else◌}
use Rattle.std.specs.Int.{w16, w32, from_be_bytes, to_be_bytes}
use Rattle.std.proofs.lemmas.Bool.{eq-eqb}
use Rattle.std.proofs.lemmas.Nat.{from_be_bytes-to_be_bytes_2, from_be_bytes-to_be_bytes_4}
use Rattle.rcp_model.specs.Messages.{FaultOf, fault, IsMessage}
use Rattle.rcp_model.specs.Opens.{OpenFields, version_of, open_fields, is_short_hold, parameters_length, parameters_of, has_unknown_parameter, has_partial_parameter, open_fault, open_octets}
use Rattle.rcp_model.proofs.ReadingLemmas.{IsMessage-message_octets}
use Rattle.bgp_msg.specs.Opened.{IsOffer, fault_but_identifier, is_behind_identifier}

abbrev body_of : OpenFields → List ℕ
body_of offer = 4 ∷ (to_be_bytes w16 offer.as_number ++ to_be_bytes w16 offer.hold ++ to_be_bytes w32 offer.id ++ 0 ∷ [])

pub IsMessage-open : (offer : OpenFields) → IsMessage (open_octets offer)
IsMessage-open offer = IsMessage-message_octets 1 (body_of offer) (omega arith) refl refl

fields_from : ℕ → ℕ → ℕ → OpenFields
fields_from as_number hold id = record { as_number = as_number; hold = hold; id = id }

pub open_fields-written : (offer : OpenFields) → IsOffer offer → open_fields (drop 19 (open_octets offer)) ≡ offer
open_fields-written offer fits =
    let a : from_be_bytes w16 (to_be_bytes w16 offer.as_number) ≡ offer.as_number = from_be_bytes-to_be_bytes_2 offer.as_number fits.as_number in
    let h : from_be_bytes w16 (to_be_bytes w16 offer.hold) ≡ offer.hold = from_be_bytes-to_be_bytes_2 offer.hold fits.hold in
    let i : from_be_bytes w32 (to_be_bytes w32 offer.id) ≡ offer.id = from_be_bytes-to_be_bytes_4 offer.id fits.id in
    let F : ℕ → ℕ → ℕ → OpenFields = λ x y z. record { as_number = x; hold = y; id = z } in
    ap (λ (x : ℕ). F x (from_be_bytes w16 (to_be_bytes w16 offer.hold)) (from_be_bytes w32 (to_be_bytes w32 offer.id))) a
    ∙ ap (λ (y : ℕ). F offer.as_number y (from_be_bytes w32 (to_be_bytes w32 offer.id))) h
    ∙ ap (λ (z : ℕ). F offer.as_number offer.hold z) i

abbrev judged : Bool → Bool → Bool → Bool → Bool → Bool → Bool → Option FaultOf
judged version as_number hold id told unknown partial =
    cond version (Some (fault 2 1 (0 ∷ 4 ∷ [])))
    (cond as_number (Some (fault 2 2 []))
    (cond hold (Some (fault 2 6 []))
    (cond id (Some (fault 2 3 []))
    (cond told (Some (fault 2 0 []))
    (cond unknown (Some (fault 2 4 []))
    (cond partial (Some (fault 2 0 [])) None))))))

-- without parameters
abbrev judged_alone : OpenFields → (ℕ → Bool) → OpenFields → Option FaultOf
judged_alone offer knows fields =
    judged false (not (eqb fields.as_number offer.as_number)) (is_short_hold fields.hold) (not (knows fields.id)) false false false

pub open_fault-written : (offer : OpenFields) (knows : ℕ → Bool) → IsOffer offer → knows offer.id ≡ true
    → open_fault knows offer.as_number (drop 19 (open_octets offer)) ≡ (if is_short_hold offer.hold then Some (fault 2 6 []) else None)
unfolding open_fault
open_fault-written offer knows fits known =
    let same : eqb offer.as_number offer.as_number ≡ true = eq-eqb _ _ refl in
    let seen : open_fault knows offer.as_number (drop 19 (open_octets offer)) ≡ judged_alone offer knows (open_fields (drop 19 (open_octets offer))) = refl in
    seen ∙ ap (judged_alone offer knows) (open_fields-written offer fits) ∙ rw (same, known) refl

by_cases : (version as_number hold known told unknown partial : Bool) →
    judged version as_number hold (not known) told unknown partial
    ≡ cond (is_behind_identifier (judged version as_number hold false told unknown partial))
    (cond known (judged version as_number hold false told unknown partial) (Some (fault 2 3 [])))
    (judged version as_number hold false told unknown partial)
by_cases true as_number hold known told unknown partial = refl
by_cases false true hold known told unknown partial = refl
by_cases false false true known told unknown partial = refl
by_cases false false false true true unknown partial = refl
by_cases false false false true false true partial = refl
by_cases false false false true false false true = refl
by_cases false false false true false false false = refl
by_cases false false false false true unknown partial = refl
by_cases false false false false false true partial = refl
by_cases false false false false false false true = refl
by_cases false false false false false false false = refl

pub open_fault-by_identifier : (knows : ℕ → Bool) (as_number : ℕ) (body : List ℕ)
    → open_fault knows as_number body
    ≡ (if is_behind_identifier (fault_but_identifier as_number body)
    then (if knows (open_fields body).id then fault_but_identifier as_number body else Some (fault 2 3 []))
    else fault_but_identifier as_number body)
unfolding open_fault
open_fault-by_identifier knows as_number body =
    by_cases (not (eqb (version_of body) 4)) (not (eqb (open_fields body).as_number as_number)) (is_short_hold (open_fields body).hold) (knows (open_fields body).id)
    (not (eqb (parameters_length body) (length (parameters_of body)))) (has_unknown_parameter (parameters_of body)) (has_partial_parameter (parameters_of body))
