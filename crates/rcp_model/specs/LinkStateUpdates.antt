-- What Link State Updates bring to an area (RFC 2328 sections 13 and A.3.5): router LSAs, and the link state after them.
use Rattle.std.specs.Prelude.{ℕ, ◌==◌, ◌&&◌, Bool, List, [], ◌∷◌, ◌++◌, map, filter, Result, Ok, Err, if◌then◌else◌}
use Rattle.std.specs.List.{flat_map}
use Rattle.rcp_base.specs.OspfPackets.{packet_type, area_id, LINK_STATE_UPDATE}
use Rattle.rcp_model.specs.declared.lsa_fault.LsaFault.{LsaFault}
use Rattle.rcp_model.specs.declared.lsa_fault.LsaFault.TheVariants.{Short}
use Rattle.rcp_model.specs.LinkState.{RouterLsa, LinkState, installed}
use Rattle.rcp_model.specs.RouterLsas.{lsa_type, lsa_at}
use Rattle.rcp_model.specs.LsaWalk.{lsas_in}

-- the type of a router LSA (section A.4.1)
abbrev pub ROUTER_LSA : ℕ
ROUTER_LSA = 1

-- an LSA that was read, or its fault
abbrev pub ReadLsa : Type 0
ReadLsa = Result RouterLsa LsaFault

abbrev pub is_router_lsa : List ℕ → Bool
is_router_lsa octets = lsa_type octets == ROUTER_LSA

-- packets of other types and of other areas are skipped
abbrev pub is_update_of : ℕ → List ℕ → Bool
is_update_of area packet = packet_type packet == LINK_STATE_UPDATE && area_id packet == area

-- a packet that has fewer whole LSAs than it counts has a fault of its own
abbrev pub own_fault : Bool → List ReadLsa
own_fault short = if short then Err Short ∷ [] else []

-- The router LSAs that a whole packet brings to an area, in order, each read or with its fault; then the packet's own fault.
unfoldable pub lsas_of_packet : ℕ → List ℕ → List ReadLsa
lsas_of_packet area packet =
    if is_update_of area packet
    then map lsa_at (filter is_router_lsa (lsas_in packet).lsas) ++ own_fault (lsas_in packet).short
    else []

abbrev pub lsas_of_packets : ℕ → List (List ℕ) → List ReadLsa
lsas_of_packets area packets = flat_map (lsas_of_packet area) packets

-- ---- faultless ones change the link state, faulty ones are left out

abbrev pub faultless_lsas : List ReadLsa → List RouterLsa
faultless_lsas [] = []
faultless_lsas (Ok lsa ∷ read) = lsa ∷ faultless_lsas read
faultless_lsas (Err fault ∷ read) = faultless_lsas read

abbrev pub left_out : List ReadLsa → List LsaFault
left_out [] = []
left_out (Ok lsa ∷ read) = left_out read
left_out (Err fault ∷ read) = fault ∷ left_out read

-- the link state after LSAs that come one after another at one time
unfoldable pub installed_all : ℕ → List RouterLsa → LinkState → LinkState
installed_all now [] state = state
installed_all now (lsa ∷ lsas) state = installed_all now lsas (installed now lsa state)

-- the link state after the LSAs that packets bring at one time
abbrev pub after_packets : ℕ → ℕ → List (List ℕ) → LinkState → LinkState
after_packets area now packets state = installed_all now (faultless_lsas (lsas_of_packets area packets)) state
