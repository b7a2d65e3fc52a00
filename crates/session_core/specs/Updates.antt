-- What reading the body of an UPDATE says of its first fault.
use Rattle.std.specs.Prelude.{◌≡◌, ℕ, ◌≤◌, List, filter, not, Some}
use Rattle.std.specs.BTreeSet as tree_set
use Rattle.std.specs.BTreeSet.{BTreeSet}
use Rattle.bgp_fault.specs.Faults.{IsWithin}
use Rattle.bgp_msg.specs.Written.{data_length}
use Rattle.path_attrs.specs.Refusals.{fault_in}
use Rattle.rcp_model.specs.Messages.{FaultOf}
use Rattle.rcp_model.specs.Attributes.{Attribute, attributes_in, number_width}
use Rattle.rcp_model.specs.Routes.{route_of}
use Rattle.rcp_base.specs.IpPrefix.{IpPrefix, prefix_cmp}
use Rattle.rcp_base.specs.Maps.{is_among}
use Rattle.rcp_model.specs.Updates.{sections_of, prefixes_in, update_fault}
use Rattle.session_core.specs.declared.update.Found.{Found}
use Rattle.session_core.specs.declared.update.Unread.{Unread}
use Rattle.session_core.specs.declared.update.Unread.TheVariants.{Faulty, NoMemory}

-- A body has these withdrawn routes and this NLRI, and attributes whose route is that of these.
pub record Says (body withdrawn nlri : List ℕ) (attributes : List Attribute) : Type 0 where
  pub octets : List ℕ
  pub sections : sections_of body ≡ Some (record { withdrawn = withdrawn; attributes = octets; nlri = nlri })
  pub same_route : (as_number : ℕ) → route_of number_width as_number attributes ≡ route_of number_width as_number (attributes_in octets)

-- what holds of the fault, if memory did not run out
abbrev pub IfFaulty : Unread → (Found → Type 0) → Type 0
IfFaulty (Faulty found) P = P found
IfFaulty NoMemory P = Unit {0}

abbrev pub fault_of : Found → FaultOf
fault_of found = fault_in found.octets.now found.fault

-- a fault whose data a NOTIFICATION has room for
pub record IsTold (found : Found) : Type 0 where
  pub within : IsWithin found.octets.now found.fault.extra
  pub room : data_length found.fault.extra ≤ 4073

-- the first fault of the body
pub record IsFirst (body : List ℕ) (found : Found) : Type 0 where
  pub first : update_fault number_width body ≡ Some (fault_of found)
  pub told : IsTold found

-- these prefixes without those of a section
abbrev pub not_announced : List ℕ → List IpPrefix → List IpPrefix
not_announced nlri prefixes = filter (λ p. not (is_among (prefixes_in nlri) p)) prefixes

-- a set of exactly the prefixes of a list
abbrev pub HasThose : BTreeSet IpPrefix → List IpPrefix → Type 0
HasThose set prefixes = (q : IpPrefix) → tree_set.contains prefix_cmp set q ≡ is_among prefixes q
