-- What a refusal says of the octets that were read.
use Rattle.std.specs.Prelude.{◌≡◌, ℕ, true, List, [], ◌∷◌, ◌++◌, None}
use Rattle.bgp_fault.specs.declared.Data.{Data}
use Rattle.bgp_fault.specs.declared.Fault.{Fault}
use Rattle.bgp_fault.specs.declared.Data.TheVariants as extra
use Rattle.bgp_fault.specs.Faults.{data_octets}
use Rattle.rcp_base.specs.Cut.{cut}
use Rattle.rcp_model.specs.Messages.{FaultOf}
use Rattle.rcp_model.specs.Attributes.{attribute_of, attribute_size, is_kept, list_fault, number_width}
use Rattle.path_attrs.specs.declared.refusal.AttrRefusal.{AttrRefusal}
use Rattle.path_attrs.specs.declared.refusal.AttrRefusal.TheVariants as refusals

-- a fault whose span names octets of `body`, as a NOTIFICATION names it
abbrev pub fault_in : List ℕ → Fault → FaultOf
fault_in body fault = record { code = fault.code; sub = fault.sub; content = data_octets body fault.extra }

-- what holds of the fault, if memory did not run out
abbrev pub IfFault : AttrRefusal → (Fault → Type 0) → Type 0
IfFault (refusals.Fault fault) P = P fault
IfFault refusals.NoMemory P = Unit {0}

-- what holds where memory ran out
abbrev pub IfNoMemory : AttrRefusal → Type 0 → Type 0
IfNoMemory (refusals.Fault fault) P = Unit {0}
IfNoMemory refusals.NoMemory P = P

abbrev pub update_fault : ℕ → Data → Fault
update_fault sub extra = record { code = 3; sub = sub; extra = extra }

-- a malformed AS_PATH (RFC 4271 section 6.3)
abbrev pub malformed_path : Fault
malformed_path = update_fault 11 extra.None

-- Of the attributes in these octets one is kept, and up to and with it they have no fault.
pub record KeepsOne (octets : List ℕ) : Type 0 where
  pub front : List (List ℕ)
  pub piece : List ℕ
  pub behind : List (List ℕ)
  pub in_order : (cut attribute_size octets).0 ≡ front ++ piece ∷ behind
  pub faultless : list_fault number_width [] (front ++ piece ∷ []) [] ≡ None
  pub kept : is_kept (attribute_of piece) ≡ true
