-- The words of the traits of the outside: counts that never fall, and octets that contracts know or not.
use Rattle.std.specs.Prelude.{◌≡◌, refl, ℕ, ◌+◌, ◌-◌, ◌^◌, ◌<◌, ◌≤◌, min, List, [], ◌++◌, Option, None, Some, All}
use Rattle.std.proofs.Common.{ap, sym, append_assoc, append-nil}

-- one more, or the last value that a count of 64 bits has
abbrev pub raised : ℕ → ℕ
raised count = min (count + 1) (2 ^ 64 - 1)

-- The count rose. One that stands at its last value counts as risen.
abbrev pub Rose : ℕ → ℕ → Type 0
Rose before now = raised before ≤ now

abbrev pub NeverFalls : ℕ → ℕ → Type 0
NeverFalls before now = before ≤ now

-- each is an octet
abbrev pub AreOctets : List ℕ → Type 0
AreOctets xs = All (λ x. x < 256) xs

-- these octets put in front of those still to come, where they are known
abbrev pub in_front : List ℕ → Option (List ℕ) → Option (List ℕ)
in_front octets None = None
in_front octets (Some left) = Some (octets ++ left)

-- these octets put after those taken, where they are known
abbrev pub behind : Option (List ℕ) → List ℕ → Option (List ℕ)
behind None octets = None
behind (Some taken) octets = Some (taken ++ octets)

-- these values put after those of a list, where it is known
abbrev pub followed : {A : Type 0} → Option (List A) → List A → Option (List A)
followed None more = None
followed (Some list) more = Some (list ++ more)

-- two pieces, read or written one after the other, are one

pub in_front-append : (first second : List ℕ) (left : Option (List ℕ)) →
    in_front first (in_front second left) ≡ in_front (first ++ second) left
in_front-append first second None = refl
in_front-append first second (Some left) = ap Some (sym (append_assoc first second left))

pub behind-append : (taken : Option (List ℕ)) (first second : List ℕ) →
    behind (behind taken first) second ≡ behind taken (first ++ second)
behind-append None first second = refl
behind-append (Some taken) first second = ap Some (append_assoc taken first second)

-- no octets change nothing

pub in_front-nil : (left : Option (List ℕ)) → in_front [] left ≡ left
in_front-nil None = refl
in_front-nil (Some left) = refl

pub behind-nil : (taken : Option (List ℕ)) → behind taken [] ≡ taken
behind-nil None = refl
behind-nil (Some taken) = ap Some (append-nil taken)
