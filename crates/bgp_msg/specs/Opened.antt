-- An OPEN as it is read.
use Rattle.std.specs.Prelude.{ℕ, ◌<◌, ◌^◌, ◌||◌, ◌==◌, Bool, true, List, [], ◌∷◌, Option, Some, None}
use Rattle.bgp_fault.specs.declared.Data.{Data}
use Rattle.bgp_fault.specs.declared.Fault.{Fault}
use Rattle.rcp_base.specs.Checks.{first_failing}
use Rattle.rcp_model.specs.Messages.{FaultOf, fault}
use Rattle.rcp_model.specs.Opens.{OpenFields, has_unknown_parameter, has_partial_parameter, open_fault}
use Rattle.bgp_msg.specs.declared.open.OpenBody.{OpenBody}

-- its fields
abbrev pub fields_of : OpenBody → OpenFields
fields_of body = record { as_number = body.as_number; hold = body.hold; id = body.id }

-- the first fault, where the BGP Identifier isn't judged
abbrev pub fault_but_identifier : ℕ → List ℕ → Option FaultOf
fault_but_identifier as_number body = open_fault (λ id. true) as_number body

-- the first fault of the parameters alone
abbrev pub parameters_fault : List ℕ → Option FaultOf
parameters_fault parameters =
    first_failing ((has_unknown_parameter parameters, fault 2 4 []) ∷ (has_partial_parameter parameters, fault 2 0 []) ∷ [])

-- a fault of an OPEN (RFC 4271 section 6.2)
abbrev pub open_error : ℕ → Data → Fault
open_error sub extra = record { code = 2; sub = sub; extra = extra }

-- fields that an OPEN has room for
pub record IsOffer (offer : OpenFields) : Type 0 where
  pub as_number : offer.as_number < 2 ^ 16
  pub hold : offer.hold < 2 ^ 16
  pub id : offer.id < 2 ^ 32

-- no fault, or one of the parameters, which the BGP Identifier is judged before
abbrev pub is_behind_identifier : Option FaultOf → Bool
is_behind_identifier None = true
is_behind_identifier (Some found) = found.sub == 0 || found.sub == 4
