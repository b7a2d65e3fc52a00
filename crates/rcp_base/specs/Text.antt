-- Texts of numbers, addresses and prefixes: the one text of each value, and what a text says.
use Rattle.std.specs.Prelude.{◌≡◌, ℕ, ◌+◌, ◌^◌, ◌<◌, ◌==◌, ◌&&◌, Bool, false, not, List, [], ◌∷◌, ◌++◌, length, take, drop, map, Option, Some, None, nat_lt, if◌then◌else◌, option_and_then}
use Rattle.std.specs.Char.{is_ascii_digit}
use Rattle.std.specs.Fmt.{decimal}
use Rattle.std.specs.Int.{w32, to_be_bytes, from_be_bytes}
use Rattle.std.specs.List.{list_all, slice_split, join_with_byte}
use Rattle.std.specs.Str.Parse.{digits_value}
use Rattle.rcp_base.specs.IpPrefix.{IpPrefix, prefix_of}

-- the octets of '.' and '/'
abbrev pub dot : ℕ
dot = 46

abbrev pub slash : ℕ
slash = 47

-- the four numbers of an address, joined by dots
abbrev pub address_text : ℕ → List ℕ
address_text a = join_with_byte dot (map decimal (to_be_bytes w32 a))

-- an address, a slash and a length
abbrev pub prefix_text : IpPrefix → List ℕ
prefix_text p = address_text p.addr ++ slash ∷ decimal p.len

-- decimal digits without a leading 0, but `0` itself
abbrev pub is_number : List ℕ → Bool
is_number [] = false
is_number (c ∷ []) = is_ascii_digit c
is_number (c ∷ d ∷ cs) = not (c == 48) && list_all is_ascii_digit (c ∷ d ∷ cs)

-- the number of a text: none where it is no number, or one of 2 ^ 64 or more
abbrev pub number_of : List ℕ → Option ℕ
number_of text = if is_number text && nat_lt (digits_value 10 text) (2 ^ 64) then Some (digits_value 10 text) else None

-- a number of at most 255
abbrev pub octet_of : List ℕ → Option ℕ
octet_of text = option_and_then (λ n. if nat_lt n 256 then Some n else None) (number_of text)

-- four such numbers are the octets of an address
abbrev pub address_of_parts : List (List ℕ) → Option ℕ
address_of_parts (a ∷ b ∷ c ∷ d ∷ []) =
    option_and_then (λ a. option_and_then (λ b. option_and_then (λ c. option_and_then (λ d.
    Some (from_be_bytes w32 (a ∷ b ∷ c ∷ d ∷ []))) (octet_of d)) (octet_of c)) (octet_of b)) (octet_of a)
address_of_parts parts = None

-- the address of a text: none where it isn't four numbers of at most 255 joined by dots
abbrev pub address_of : List ℕ → Option ℕ
address_of text = address_of_parts (slice_split (λ c. c == dot) text)

-- an address and a length
abbrev pub prefix_of_parts : List (List ℕ) → Option IpPrefix
prefix_of_parts (a ∷ l ∷ []) = option_and_then (λ addr. option_and_then (λ len. prefix_of addr len) (number_of l)) (address_of a)
prefix_of_parts parts = None

-- the prefix of a text: none where it isn't an address, a slash and a number of at most 32
abbrev pub prefix_of_text : List ℕ → Option IpPrefix
prefix_of_text text = prefix_of_parts (slice_split (λ c. c == slash) text)

-- the text is an address, a slash and a length, and p is their prefix: bits after the length don't matter
pub record SpellsPrefix (text : List ℕ) (p : IpPrefix) : Type 0 where
  pub addr : ℕ
  pub len : ℕ
  pub fits : addr < 2 ^ 32
  pub spelled : text ≡ address_text addr ++ slash ∷ decimal len
  pub prefix : prefix_of addr len ≡ Some p

-- octets with a text written over them from a place on
abbrev pub written_at : ℕ → List ℕ → List ℕ → List ℕ
written_at place text octets = take place octets ++ (text ++ drop (place + length text) octets)
