-- Optional parameters of an OPEN and its capabilities as words (RFC 4271 4.2, RFC 5492).
use Rattle.std.specs.Prelude.{ℕ, List, [], ◌∷◌, ◌++◌, length, drop, Option, Some, None, option_map, option_and_then, nat_eq, nat_lt, if◌then◌else◌, bytes_eq, codes}
use Rattle.std.specs.List.{starts_with}
use Rattle.std.specs.Int.{w16, to_be_bytes}
use Rattle.line_words.specs.Words.{hex_onto}
use Rattle.line_words.specs.Lists.{list_onto}
use Rattle.line_words.specs.Fields.{halves, u8_of, u16_of}
use Rattle.bgp_words.specs.Attributes.{u32_onto}

-- a code, a length and a value
abbrev pub coded_onto : List ℕ → ℕ → List ℕ → Option (List ℕ)
coded_onto out code value = if nat_lt 255 (length value) then None else Some (out ++ (code ∷ length value ∷ value))

-- multiprotocol extensions (RFC 4760 8): the address family, an octet 0, the subsequent one
abbrev pub family_of_halves : List ℕ × List ℕ → Option (List ℕ)
family_of_halves text = option_and_then (λ a. option_map (λ s. to_be_bytes w16 a ++ 0 ∷ s ∷ []) (u8_of text.1)) (u16_of text.0)

abbrev pub family_of : List ℕ → Option (List ℕ)
family_of text = option_and_then family_of_halves (halves 47 text)

-- a code and its value after a colon: `mp:`, `as4:` (RFC 6793 3), or a number and octets in hexadecimal
unfoldable pub valued_onto : List ℕ → List ℕ × List ℕ → Option (List ℕ)
valued_onto out text =
    if bytes_eq text.0 (codes "mp") then option_and_then (coded_onto out 1) (family_of text.1) else (
    if bytes_eq text.0 (codes "as4") then option_and_then (coded_onto out 65) (u32_onto [] text.1) else
    option_and_then (λ code. option_and_then (coded_onto out code) (hex_onto [] text.1)) (u8_of text.0))

-- those without a value: RFC 2918, RFC 8654, RFC 7313
unfoldable pub bare_onto : List ℕ → List ℕ → Option (List ℕ)
bare_onto out text =
    if bytes_eq text (codes "route-refresh") then coded_onto out 2 [] else (
    if bytes_eq text (codes "extended-message") then coded_onto out 6 [] else (
    if bytes_eq text (codes "enhanced-route-refresh") then coded_onto out 70 [] else None))

unfoldable pub capability_onto : List ℕ → List ℕ → Option (List ℕ)
capability_onto out text = elim (halves 58 text) [
  | None ↦ bare_onto out text
  | Some found ↦ valued_onto out found
]

-- `caps=` and capabilities by commas: a parameter of type 2
abbrev pub capabilities_onto : List ℕ → List ℕ → Option (List ℕ)
capabilities_onto out text = option_and_then (coded_onto out 2) (list_onto capability_onto 44 [] text)

-- `param-`, a type, and octets in hexadecimal
abbrev pub any_parameter_of_halves : List ℕ → List ℕ × List ℕ → Option (List ℕ)
any_parameter_of_halves out text = option_and_then (λ kind. option_and_then (coded_onto out kind) (hex_onto [] text.1)) (u8_of text.0)

abbrev pub any_parameter_onto : List ℕ → List ℕ → Option (List ℕ)
any_parameter_onto out text = option_and_then (any_parameter_of_halves out) (halves 61 text)

-- The octets of a list and those of a parameter's word. None where it isn't one, and none within where it can't be read.
unfoldable pub parameter_onto : List ℕ → List ℕ → Option (Option (List ℕ))
parameter_onto out word =
    if starts_with nat_eq word (codes "caps=") then Some (capabilities_onto out (drop 5 word)) else (
    if starts_with nat_eq word (codes "param-") then Some (any_parameter_onto out (drop 6 word)) else None)
