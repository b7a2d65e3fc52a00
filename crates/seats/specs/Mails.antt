-- The messages that a router's sessions put to one shard.
use Rattle.std.specs.Prelude.{ℕ, ◌<◌, ◌≤◌, Bool, true, false, List, fold, All}
use Rattle.cost_rows.specs.declared.view.View.{View}
use Rattle.rcp_model.specs.declared.rcs_mail.ShardMail.{ShardMail}
use Rattle.rcp_model.specs.declared.rcs_mail.ShardMail.TheVariants as mail

-- a message to a shard
abbrev pub Mail : Type 0
Mail = ShardMail View

-- whether the router is up after a message, by whether it was before
abbrev pub up_after : Bool → Mail → Bool
up_after up (mail.Up slot generation) = true
up_after up (mail.Down slot) = false
up_after up (mail.Announce slot prefix route) = up
up_after up (mail.Withdraw slot prefix) = up
up_after up (mail.View view) = up

-- the router is up after these messages: the last `Up` or `Down` among them is an `Up`
abbrev pub is_up : List Mail → Bool
is_up mails = fold up_after false mails

-- a message is an `Up` of this generation at most, or no `Up`
abbrev pub IsWithin : ℕ → Mail → Type 0
IsWithin most (mail.Up slot generation) = generation ≤ most
IsWithin most (mail.Down slot) = Unit {0}
IsWithin most (mail.Announce slot prefix route) = Unit {0}
IsWithin most (mail.Withdraw slot prefix) = Unit {0}
IsWithin most (mail.View view) = Unit {0}

-- a message is an `Up` of a lower generation, or no `Up`
abbrev pub IsBelow : ℕ → Mail → Type 0
IsBelow bound (mail.Up slot generation) = generation < bound
IsBelow bound (mail.Down slot) = Unit {0}
IsBelow bound (mail.Announce slot prefix route) = Unit {0}
IsBelow bound (mail.Withdraw slot prefix) = Unit {0}
IsBelow bound (mail.View view) = Unit {0}
