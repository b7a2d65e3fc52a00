-- What an answer of a net says.
use Rattle.std.specs.Prelude.{Bool, true, false, Result, Ok, Err}
use Rattle.outside.specs.declared.net.Accepted.{Accepted}
use Rattle.outside.specs.declared.net.Accepted.TheVariants.{Link, NotReady}

-- P of the link that came, where one did
abbrev pub OnLink : {L E : Type 0} → Result (Accepted L) E → (L → Type 0) → Type 0
OnLink (Ok (Link link)) P = P link
OnLink (Ok NotReady) P = Unit {0}
OnLink (Err e) P = Unit {0}

abbrev pub is_link : {L E : Type 0} → Result (Accepted L) E → Bool
is_link (Ok (Link link)) = true
is_link (Ok NotReady) = false
is_link (Err e) = false
