-- The first fault of an OPEN, at each check.
use Rattle.std.proofs.Common.{◌≡◌, ◌≢◌, ℕ, true, false, eqb, List, [], ◌∷◌, length, Some, refl, sym, ap, ◌∙◌}
use Rattle.std.proofs.lemmas.Bool.{ne_eqb, eq-eqb}
use Rattle.rcp_model.specs.Messages.{fault}
use Rattle.rcp_model.specs.Opens.{OpenFields, version_of, open_fields, is_short_hold, parameters_length, parameters_of, open_fault}
use Rattle.bgp_msg.specs.Opened.{fault_but_identifier, parameters_fault}

module _ (as_number : ℕ) (body : List ℕ) where
  pub version_fault : version_of body ≢ 4 → fault_but_identifier as_number body ≡ Some (fault 2 1 (0 ∷ 4 ∷ []))
  unfolding open_fault
  version_fault other = let e : eqb (version_of body) 4 ≡ false = ne_eqb _ _ other in rw e refl

  module _ (version : version_of body ≡ 4) where
    as_fault_of : eqb (open_fields body).as_number as_number ≡ false → fault_but_identifier as_number body ≡ Some (fault 2 2 [])
    unfolding open_fault
    as_fault_of e = rw (version, e) refl

    hold_fault_of : eqb (open_fields body).as_number as_number ≡ true → is_short_hold (open_fields body).hold ≡ true
        → fault_but_identifier as_number body ≡ Some (fault 2 6 [])
    unfolding open_fault
    hold_fault_of same e = rw (version, same, e) refl

    length_fault_of : eqb (open_fields body).as_number as_number ≡ true → is_short_hold (open_fields body).hold ≡ false
        → eqb (parameters_length body) (length (parameters_of body)) ≡ false → fault_but_identifier as_number body ≡ Some (fault 2 0 [])
    unfolding open_fault
    length_fault_of same long e = rw (version, same, long, e) refl

    rest_of_checks : eqb (open_fields body).as_number as_number ≡ true → is_short_hold (open_fields body).hold ≡ false
        → eqb (parameters_length body) (length (parameters_of body)) ≡ true → fault_but_identifier as_number body ≡ parameters_fault (parameters_of body)
    unfolding open_fault
    rest_of_checks same long e = rw (version, same, long, e) refl

    module _ (offer : OpenFields) (read : offer ≡ open_fields body) where
      same_as : eqb (open_fields body).as_number as_number ≡ eqb offer.as_number as_number
      same_as = ap (λ (o : OpenFields). eqb o.as_number as_number) (sym read)

      same_hold : is_short_hold (open_fields body).hold ≡ is_short_hold offer.hold
      same_hold = ap (λ (o : OpenFields). is_short_hold o.hold) (sym read)

      pub as_fault : offer.as_number ≢ as_number → fault_but_identifier as_number body ≡ Some (fault 2 2 [])
      as_fault other = as_fault_of (same_as ∙ ne_eqb _ _ other)

      module _ (same : offer.as_number ≡ as_number) where
        own_as : eqb (open_fields body).as_number as_number ≡ true
        own_as = same_as ∙ eq-eqb _ _ same

        pub hold_fault : is_short_hold offer.hold ≡ true → fault_but_identifier as_number body ≡ Some (fault 2 6 [])
        hold_fault e = hold_fault_of own_as (same_hold ∙ e)

        module _ (long : is_short_hold offer.hold ≡ false) where
          pub length_fault : parameters_length body ≢ length (parameters_of body) → fault_but_identifier as_number body ≡ Some (fault 2 0 [])
          length_fault other = length_fault_of own_as (same_hold ∙ long) (ne_eqb _ _ other)

          pub parameters_left : parameters_length body ≡ length (parameters_of body)
              → fault_but_identifier as_number body ≡ parameters_fault (parameters_of body)
          parameters_left e = rest_of_checks own_as (same_hold ∙ long) (eq-eqb _ _ e)
