-- The first fault of the body of an UPDATE, in the order of its checks.
use Rattle.std.proofs.Common.{true, ◌≡◌, ℕ, ◌≤◌, not, eqb, List, [], ◌∷◌, ◌++◌, length, map, append_assoc, append-nil, Some, None, refl, sym, ap, subst, ◌∙◌, arith}
use Rattle.bgp_fault.specs.declared.Data.{Data}
use Rattle.bgp_fault.specs.declared.Data.TheVariants as extra
use Rattle.bgp_fault.specs.declared.Fault.{Fault}
use Rattle.bgp_fault.specs.Faults.{IsWithin}
use Rattle.bgp_msg.specs.Written.{data_length}
use Rattle.bgp_msg.specs.Faults.{bare}
use Rattle.rcp_model.specs.Messages.{FaultOf, fault}
use Rattle.rcp_model.specs.Attributes.{attributes_in, attributes_fault, number_width}
use Rattle.rcp_model.specs.Routes.{RouteFields, route_of}
use Rattle.rcp_model.specs.Updates.{Changes, Sections, sections_of, prefixes_in, prefixes_fault, update_fault, changes_of}
use Rattle.std.proofs.lemmas.Bool.{eqb-true}
use Rattle.session_core.specs.declared.update.Found.{Found}
use Rattle.rcp_model.specs.Sessions.{Doing, SessionEvent, Announce, Withdraw, then_also, telling, changes_events}
use Rattle.session_core.specs.Updates.{IsTold, not_announced}

pub no_sections : (body : List ℕ) → sections_of body ≡ None → update_fault number_width body ≡ Some (fault 3 1 [])
unfolding update_fault
no_sections body none = rw (update_fault, none) refl

module _ (body : List ℕ) (s : Sections) (are : sections_of body ≡ Some s) where
  pub by_attributes : (why : FaultOf) → attributes_fault number_width (not (eqb (length s.nlri) 0)) s.attributes ≡ Some why → update_fault number_width body ≡ Some why
  unfolding update_fault
  by_attributes why is = rw (update_fault, are, is) refl

  module _ (faultless : attributes_fault number_width (not (eqb (length s.nlri) 0)) s.attributes ≡ None) where
    pub by_withdrawn : (why : FaultOf) → prefixes_fault s.withdrawn ≡ Some why → update_fault number_width body ≡ Some why
    unfolding update_fault
    by_withdrawn why is = rw (update_fault, are, faultless, is) refl

    pub by_nlri : (why : FaultOf) → prefixes_fault s.withdrawn ≡ None → prefixes_fault s.nlri ≡ Some why → update_fault number_width body ≡ Some why
    unfolding update_fault
    by_nlri why none is = rw (update_fault, are, faultless, none, is) refl

    pub no_fault : prefixes_fault s.withdrawn ≡ None → prefixes_fault s.nlri ≡ None → update_fault number_width body ≡ None
    unfolding update_fault
    no_fault none is = rw (update_fault, are, faultless, none, is) refl

-- data within so many octets are no more
pub room_within : (body : List ℕ) (d : Data) → IsWithin body d → length body ≤ 4073 → data_length d ≤ 4073
room_within body extra.None within short = omega arith
room_within body (extra.Octet n) within short = omega arith
room_within body (extra.Pair n) within short = omega arith
room_within body (extra.Span start len) within short = omega (arith, within, short)

-- a fault that no octets go with
pub bare_told : (found : Found) (code sub : ℕ) → found.fault ≡ bare code sub → IsTold found
bare_told found code sub is = record {
  within = subst (λ (f : Fault). IsWithin found.octets.now f.extra) (sym is) tt;
  room = subst (λ (f : Fault). data_length f.extra ≤ 4073) (sym is) (omega arith);
}

-- what a faultless UPDATE brings
pub changes-are : (body withdrawn attributes nlri : List ℕ) → sections_of body ≡ Some (record { withdrawn = withdrawn; attributes = attributes; nlri = nlri })
    → changes_of body ≡ record { withdrawn = not_announced nlri (prefixes_in withdrawn); announced = prefixes_in nlri; attributes = attributes_in attributes }
unfolding changes_of
changes-are body withdrawn attributes nlri are = rw (changes_of, are) refl

-- events that are added
pub told-besides : (old : Doing) (more new : List SessionEvent) → new ≡ old.events ++ more → record old { events = new } ≡ then_also old (telling more)
told-besides old more new is = rw (append-nil old.sent, is) refl

-- the withdrawn routes come, and then the NLRI
pub told-both : (body withdrawn attributes nlri : List ℕ) → sections_of body ≡ Some (record { withdrawn = withdrawn; attributes = attributes; nlri = nlri })
    → (as_number : ℕ) (route : RouteFields) → route ≡ route_of number_width as_number (attributes_in attributes)
    → (old middle new : List SessionEvent) → middle ≡ old ++ map Withdraw (not_announced nlri (prefixes_in withdrawn)) → new ≡ middle ++ map (λ p. Announce p route) (prefixes_in nlri)
    → new ≡ old ++ changes_events as_number (changes_of body)
told-both body withdrawn attributes nlri are as_number route of old middle new first second =
    second
    ∙ ap (λ (es : List SessionEvent). es ++ map (λ p. Announce p route) (prefixes_in nlri)) first
    ∙ append_assoc old (map Withdraw (not_announced nlri (prefixes_in withdrawn))) (map (λ p. Announce p route) (prefixes_in nlri))
    ∙ ap (λ (r : RouteFields). old ++ (map Withdraw (not_announced nlri (prefixes_in withdrawn)) ++ map (λ p. Announce p r) (prefixes_in nlri))) of
    ∙ ap (λ (c : Changes). old ++ changes_events as_number c) (sym (changes-are body withdrawn attributes nlri are))

-- without NLRI the withdrawn routes are all
pub told-first : (body withdrawn attributes nlri : List ℕ) → sections_of body ≡ Some (record { withdrawn = withdrawn; attributes = attributes; nlri = nlri })
    → (as_number : ℕ) → eqb (length nlri) 0 ≡ true
    → (old new : List SessionEvent) → new ≡ old ++ map Withdraw (not_announced nlri (prefixes_in withdrawn))
    → new ≡ old ++ changes_events as_number (changes_of body)
told-first body withdrawn attributes [] are as_number none old new first =
    first
    ∙ ap (λ (es : List SessionEvent). old ++ es) (sym (append-nil (map Withdraw (not_announced [] (prefixes_in withdrawn)))))
    ∙ ap (λ (c : Changes). old ++ changes_events as_number c) (sym (changes-are body withdrawn attributes [] are))
told-first body withdrawn attributes (octet ∷ nlri) are as_number none old new first = absurd (omega (arith, eqb-true _ _ none))
