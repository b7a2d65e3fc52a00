-- With which NOTIFICATION a session ends (RFC 4271 sections 4.5, 6.4 and 6.7), or with none.
use Rattle.std.specs.Prelude.{◌≡◌, ℕ, Bool, false, ◌==◌, List, [], ◌∷◌, ◌++◌, Option, Some, None}
use Rattle.std.specs.List.{AllByRecursion}
use Rattle.rcp_model.specs.Messages.{FaultOf, fault, type_field, notification_octets}
use Rattle.rcp_model.specs.Sessions.{NOTIFICATION, Reason, Faulted, Received, Ended, SeatTaken, Ending, Doing}

abbrev pub is_notification : List ℕ → Bool
is_notification message = type_field message == NOTIFICATION

abbrev pub HaveNoNotification : List (List ℕ) → Type 0
HaveNoNotification messages = AllByRecursion (λ message. is_notification message ≡ false) messages

-- the last message is the NOTIFICATION of this fault, and no other message is one
abbrev pub EndInNotification : FaultOf → List (List ℕ) → Type 0
EndInNotification why sent = (before : List (List ℕ)) × (sent ≡ before ++ notification_octets why ∷ []) × HaveNoNotification before

-- What is sent by an end of this reason, code and subcode: the NOTIFICATION with them where a fault is reported, that of Cease
-- without data where the seat is taken, and else none.
abbrev pub SentBy : Reason → ℕ → ℕ → List (List ℕ) → Type 0
SentBy Faulted code sub sent = (content : List ℕ) × EndInNotification (fault code sub content) sent
SentBy SeatTaken code sub sent = (code ≡ 6) × (sub ≡ 0) × EndInNotification (fault 6 0 []) sent
SentBy Received code sub sent = HaveNoNotification sent
SentBy Ended code sub sent = HaveNoNotification sent

-- what is sent up to an end, or without one
abbrev pub SentUpTo : Option Ending → List (List ℕ) → Type 0
SentUpTo None sent = HaveNoNotification sent
SentUpTo (Some end) sent = SentBy end.reason end.code end.sub sent

-- what a session does has the NOTIFICATION of its end, and no other
abbrev pub IsEndTold : Doing → Type 0
IsEndTold does = SentUpTo does.closed does.sent
