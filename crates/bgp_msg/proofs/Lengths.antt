-- How long an UPDATE is, and that its pieces are its octets.
use Rattle.std.proofs.Common.{◌≡◌, ℕ, ◌+◌, List, [], ◌∷◌, ◌++◌, length, drop, replicate, arith, length-append, length-drop, length-take-le, refl}
use Rattle.std.specs.List.{flat_map}
use Rattle.std.specs.Int.{w16, to_be_bytes}
use Rattle.rcp_base.specs.IpPrefix.{IpPrefix, prefix_octets}
use Rattle.rcp_model.specs.Messages.{marker, message_octets}
use Rattle.rcp_model.specs.Updates.{update_octets}
use Rattle.bgp_fault.specs.declared.Data.{Data}
use Rattle.bgp_fault.specs.declared.Data.TheVariants as extra
use Rattle.bgp_fault.specs.Faults.{data_octets, IsWithin}
use Rattle.bgp_msg.specs.Written.{data_length}

-- 23 octets, and those of the three sections
abbrev pub update_length : List IpPrefix → List ℕ → List IpPrefix → ℕ
update_length withdrawn attrs nlri = 23 + length (flat_map prefix_octets withdrawn) + length attrs + length (flat_map prefix_octets nlri)

pub length-update_octets : (withdrawn : List IpPrefix) (attrs : List ℕ) (nlri : List IpPrefix) →
    length (update_octets withdrawn attrs nlri) ≡ update_length withdrawn attrs nlri
unfolding update_octets
length-update_octets withdrawn attrs nlri = simp length-append (omega arith)

-- the pieces of an UPDATE, one after the other, with the numbers that its header and its sections have
pub pieces-update_octets : (withdrawn : List IpPrefix) (attrs : List ℕ) (nlri : List IpPrefix) (total count : ℕ) →
    total ≡ update_length withdrawn attrs nlri → count ≡ length (flat_map prefix_octets withdrawn) →
    replicate 16 255 ++ to_be_bytes w16 total ++ 2 ∷ []
    ++ to_be_bytes w16 count ++ flat_map prefix_octets withdrawn
    ++ to_be_bytes w16 (length attrs) ++ attrs
    ++ flat_map prefix_octets nlri
    ≡ update_octets withdrawn attrs nlri
unfolding update_octets
pieces-update_octets withdrawn attrs nlri total count e f =
    let body = to_be_bytes w16 (length (flat_map prefix_octets withdrawn)) ++ flat_map prefix_octets withdrawn
    ++ to_be_bytes w16 (length attrs) ++ attrs ++ flat_map prefix_octets nlri in
    let long : length body ≡ 4 + length (flat_map prefix_octets withdrawn) + length attrs + length (flat_map prefix_octets nlri) = simp length-append (omega arith) in
    let t : total ≡ 19 + length body = omega arith in
    rw (t, f) refl

-- how many octets the data of a fault has, where the octets that it names are there
pub length-data_octets : (body : List ℕ) (extra : Data) → IsWithin body extra → length (data_octets body extra) ≡ data_length extra
length-data_octets body extra.None within = refl
length-data_octets body (extra.Octet n) within = refl
length-data_octets body (extra.Pair n) within = refl
length-data_octets body (extra.Span start len) within = length-take-le len (drop start body) (omega (arith, length-drop start body))

-- the pieces of a NOTIFICATION, with the length that its header has
pub pieces-notification : (code sub total : ℕ) (content : List ℕ) → total ≡ 21 + length content →
    (marker ++ to_be_bytes w16 total ++ 3 ∷ []) ++ (code ∷ sub ∷ []) ++ content ≡ message_octets 3 (code ∷ sub ∷ content)
pieces-notification code sub total content e =
    let t : total ≡ 19 + length (code ∷ sub ∷ content) = omega arith in
    rw t refl
