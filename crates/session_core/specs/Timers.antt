-- What is due to a session with timers.
use Rattle.std.specs.Prelude.{◌≡◌, ℕ, ◌/◌, Bool, not, ◌&&◌, ◌==◌, if◌then◌else◌}
use Rattle.rcp_model.specs.Sessions.{Peering, nothing, sending, keepalive, then_also, has_passed}
use Rattle.session_core.specs.declared.actions.Actions.{Actions}
use Rattle.session_core.specs.Shown.{doing_of}

-- the hold time has passed since the last read
abbrev pub is_overdue : Peering → ℕ → Bool
is_overdue peering now = not (peering.negotiated.hold == 0) && has_passed peering.negotiated.hold peering.read now

-- a KEEPALIVE is due
abbrev pub is_due : Peering → ℕ → Bool
is_due peering now = not (peering.negotiated.hold == 0) && has_passed (peering.negotiated.hold / 3) peering.sent now

-- it was sent where it was due
pub record KeepsAlive (old : Peering) (now : ℕ) (before : Actions) (new : Peering) (after : Actions) : Type 0 where
  pub peering : new ≡ (if is_due old now then record old { sent = now } else old)
  pub does : doing_of after ≡ then_also (doing_of before) (if is_due old now then sending keepalive else nothing)
