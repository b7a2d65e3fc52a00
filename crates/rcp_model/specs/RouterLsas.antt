-- Router LSAs as octets (RFC 2328 sections 12.1.7, A.4.1 and A.4.2): what they say, and their first fault.
use Rattle.std.specs.Prelude.{ℕ, zero, suc, ◌+◌, ◌*◌, ◌%◌, ◌==◌, ◌&&◌, ◌||◌, Bool, not, List, [], ◌∷◌, length, drop, slice_index, sum, nat_lt, Option, Some, None, is_none, option_and_then, unwrap_or, Result, if◌then◌else◌, ℤ}
use Rattle.std.specs.Option.{option_map}
use Rattle.std.specs.Int.{w16, w32, cast_signed}
use Rattle.rcp_base.specs.Octets.{number_at}
use Rattle.rcp_base.specs.Checks.{first_failing, unless}
use Rattle.rcp_model.specs.declared.lsa_fault.LsaFault.{LsaFault}
use Rattle.rcp_model.specs.declared.lsa_fault.LsaFault.TheVariants.{Short, Checksum, Links, Owner}
use Rattle.rcp_model.specs.LinkState.{RouterLink, RouterLsa}

-- ---- the fields of an LSA's header and of a router LSA

abbrev pub age_field : List ℕ → ℕ
age_field octets = number_at w16 0 octets

abbrev pub lsa_type : List ℕ → ℕ
lsa_type octets = slice_index octets 3

abbrev pub link_state_id : List ℕ → ℕ
link_state_id octets = number_at w32 4 octets

abbrev pub advertising_router : List ℕ → ℕ
advertising_router octets = number_at w32 8 octets

abbrev pub sequence_field : List ℕ → ℤ
sequence_field octets = cast_signed w32 (number_at w32 12 octets)

abbrev pub checksum_field : List ℕ → ℕ
checksum_field octets = number_at w16 16 octets

abbrev pub lsa_length : List ℕ → ℕ
lsa_length octets = number_at w16 18 octets

abbrev pub link_count : List ℕ → ℕ
link_count octets = number_at w16 22 octets

-- the octets of an LSA's header, and of a router LSA before its links
abbrev pub lsa_header_len : ℕ
lsa_header_len = 20

abbrev pub before_links : ℕ
before_links = 24

-- ---- links, each with a list of TOS metrics that are skipped

abbrev pub link_len : List ℕ → ℕ
link_len octets = 12 + 4 * slice_index octets 9

abbrev pub link_of : List ℕ → RouterLink
link_of octets = record { id = number_at w32 0 octets; kind = slice_index octets 8; metric = number_at w16 10 octets }

-- the link in front and the octets after it
abbrev pub link_at : List ℕ → Option (RouterLink × List ℕ)
link_at octets =
    if nat_lt (length octets) 12 then None
    else if nat_lt (length octets) (link_len octets) then None
    else Some (link_of octets, drop (link_len octets) octets)

-- so many links, which are all of the octets
abbrev pub links_in : ℕ → List ℕ → Option (List RouterLink)
links_in zero [] = Some []
links_in zero (octet ∷ octets) = None
links_in (suc count) octets = option_and_then (λ front. option_map (λ links. front.0 ∷ links) (links_in count front.1)) (link_at octets)

-- ---- the checksum (section 12.1.7, RFC 905 annex B): two sums modulo 255, which are 0 over all octets but the age

-- each octet as often as there are octets from it on: the sum of all the sums so far
abbrev pub weighted : List ℕ → ℕ
weighted [] = 0
weighted (octet ∷ octets) = length (octet ∷ octets) * octet + weighted octets

abbrev pub has_zero_sums : List ℕ → Bool
has_zero_sums octets = sum octets % 255 == 0 && weighted octets % 255 == 0

-- the octets that are summed: an instance ages on its way
abbrev pub summed : List ℕ → List ℕ
summed octets = drop 2 octets

-- ---- reading

-- what the octets say
abbrev pub lsa_of : List ℕ → RouterLsa
lsa_of octets = record {
  key = advertising_router octets;
  header = record { sequence = sequence_field octets; checksum = checksum_field octets; age = age_field octets };
  content = unwrap_or (links_in (link_count octets) (drop before_links octets)) [];
}

-- each check that a router LSA can fail, with the fault that it is
unfoldable pub lsa_checks : List ℕ → List (Bool × LsaFault)
lsa_checks octets =
    (nat_lt (length octets) before_links, Short)
    ∷ (not (has_zero_sums (summed octets)) || checksum_field octets == 0, Checksum)
    ∷ (is_none (links_in (link_count octets) (drop before_links octets)), Links)
    ∷ (not (link_state_id octets == advertising_router octets), Owner)
    ∷ []

-- the LSA of all of the octets, or their first fault
unfoldable pub lsa_at : List ℕ → Result RouterLsa LsaFault
lsa_at octets = unless (first_failing (lsa_checks octets)) (lsa_of octets)
