-- What a window of a source is: the octets that it holds, and how many it can hold.
use Rattle.std.specs.Prelude.{◌≡◌, ℕ, List, [], Option, IfSome}
use Rattle.outside.specs.Told.{in_front}

pub record Held : Type 0 where
  pub octets : List ℕ
  pub size : ℕ

-- the octets held and those still to come are the same ones
abbrev pub SameOctets : Held → Option (List ℕ) → Held → Option (List ℕ) → Type 0
SameOctets before left now rest = in_front before.octets left ≡ in_front now.octets rest

-- nothing more comes
abbrev pub IsEmptyRest : Option (List ℕ) → Type 0
IsEmptyRest left = IfSome left (λ octets. octets ≡ [])
