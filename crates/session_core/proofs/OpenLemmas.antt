-- The first fault of an OPEN, where the roster says which BGP Identifiers are known.
use Rattle.std.proofs.Common.{◌≡◌, ℕ, Bool, true, false, List, [], Option, Some, None, refl, ◌∙◌}
use Rattle.std.specs.Prelude.{is_some}
use Rattle.bgp_msg.specs.Opened.{fault_but_identifier, is_behind_identifier}
use Rattle.bgp_msg.proofs.Offers.{open_fault-by_identifier}
use Rattle.rcp_base.specs.Roster.{RosterOf}
use Rattle.rcp_model.specs.Messages.{FaultOf, fault}
use Rattle.rcp_model.specs.Opens.{open_fields}
use Rattle.rcp_model.specs.Sessions.{slot_by_identifier, is_known, opening_fault}

module _ (roster : RosterOf) (body : List ℕ) where
  found : Option ℕ
  found = slot_by_identifier roster.members (open_fields body).id

  pub accepted : (slot : ℕ) → fault_but_identifier roster.as_number body ≡ None → slot_by_identifier roster.members (open_fields body).id ≡ Some slot → opening_fault roster body ≡ None
  accepted slot none known = open_fault-by_identifier (is_known roster) roster.as_number body ∙ rw (none, known) refl

  pub unknown : fault_but_identifier roster.as_number body ≡ None → slot_by_identifier roster.members (open_fields body).id ≡ None → opening_fault roster body ≡ Some (fault 2 3 [])
  unknown none known = open_fault-by_identifier (is_known roster) roster.as_number body ∙ rw (none, known) refl

  module _ (why : FaultOf) (is : fault_but_identifier roster.as_number body ≡ Some why) where
    pub unknown-behind : is_behind_identifier (Some why) ≡ true → slot_by_identifier roster.members (open_fields body).id ≡ None → opening_fault roster body ≡ Some (fault 2 3 [])
    unknown-behind behind known = open_fault-by_identifier (is_known roster) roster.as_number body ∙ rw (is, behind, known) refl

    pub faulted-early : is_behind_identifier (Some why) ≡ false → opening_fault roster body ≡ Some why
    faulted-early early = open_fault-by_identifier (is_known roster) roster.as_number body ∙ rw (is, early) refl

    pub faulted-known : (slot : ℕ) → slot_by_identifier roster.members (open_fields body).id ≡ Some slot → opening_fault roster body ≡ Some why
    faulted-known slot known = by (is_behind_identifier (Some why)) refl where
      by : (behind : Bool) → is_behind_identifier (Some why) ≡ behind → opening_fault roster body ≡ Some why
      by true behind = open_fault-by_identifier (is_known roster) roster.as_number body ∙ rw (is, behind, known) refl
      by false behind = faulted-early behind

pub none-of : {A : Type 0} (o : Option A) → is_some o ≡ false → o ≡ None
none-of None e = refl
none-of (Some x) e = absurd (cc)

pub some-of : {A : Type 0} (o : Option A) → is_some o ≡ true → (x : A) × (o ≡ Some x)
some-of None e = absurd (cc)
some-of (Some x) e = (x, refl)
