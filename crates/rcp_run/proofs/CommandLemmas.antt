-- What a status says of a command.
use Rattle.std.proofs.Common.{◌≡◌, ℕ, List, Option, Some, refl, sym, ap, subst, ◌∙◌, ◌⊎◌, inl, inr}
use Rattle.outside.specs.Told.{Rose}
use Rattle.rcp_base.specs.IpPrefix.{IpPrefix}
use Rattle.feed_meaning.specs.WholeFeeds.{FeedEnd, Finished}
use Rattle.feed_format.specs.declared.status.Status.{Status}
use Rattle.feed_format.specs.declared.status.Status.TheVariants.{Done, Usage, Feed, Roster, Read, Write, NoMemory, NoPath, NetFault}
use Rattle.feed_format.specs.declared.status.WalkRefusal.{WalkRefusal}
use Rattle.feed_run.specs.Statuses.{HasCause, StopCause, EndsSo, status_at}
use Rattle.feed_run.specs.Going.{ReadsSo}
use Rattle.rcp_words.specs.Words.{StandFor}
use Rattle.rcp_run.specs.Generated.{WritesCause}
use Rattle.rcp_run.specs.Reports.{ReportCause, CommandCause, IsStatusFor, ended, refused}
use Rattle.rcp_words.specs.declared.command.Command.{Command}
use Rattle.rcp_words.specs.declared.command.Command.TheVariants as command
use Rattle.rcp_words.specs.declared.command.Report.{Report}
use Rattle.rcp_words.specs.declared.command.Report.TheVariants as report

-- ---- statuses

-- where a feed can't be read on
pub stop-cause : (status : Status) (a b c d : ℕ) → StopCause status a b → HasCause status a b c d
stop-cause (Feed number why) a b c d cause = tt
stop-cause (Roster number line why) a b c d cause = tt
stop-cause Read a b c d cause = cause
stop-cause NoMemory a b c d cause = tt
stop-cause Done a b c d cause = tt
stop-cause Usage a b c d cause = absurd cause
stop-cause Write a b c d cause = absurd cause
stop-cause (NoPath why) a b c d cause = absurd cause
stop-cause NetFault a b c d cause = absurd cause

pub replay-status : (status : Status) (end : FeedEnd) (a b c d : ℕ) → HasCause status a b c d → EndsSo status end → (Rose a b → ⊥) → (Rose c d → ⊥)
    → IsStatusFor command.Replay end status ⊎ (status ≡ NoMemory)
replay-status status end a b c d cause ends read write = elim (completes status end a b c d cause ends read write) [
  | inl is ↦ inl (subst (IsStatusFor command.Replay end) (sym is) (ended command.Replay end))
  | inr is ↦ inr is
] where
  completes : (status : Status) (end : FeedEnd) (a b c d : ℕ) → HasCause status a b c d → EndsSo status end → (Rose a b → ⊥) → (Rose c d → ⊥)
      → (status ≡ status_at end) ⊎ (status ≡ NoMemory)
  completes Done end a b c d cause ends read write = inl (sym (ap status_at ends))
  completes Usage end a b c d cause ends read write = absurd cause
  completes (Feed number why) end a b c d cause ends read write = inl (sym (ap status_at ends))
  completes (Roster number line why) end a b c d cause ends read write = inl (sym (ap status_at ends))
  completes Read end a b c d cause ends read write = absurd (read cause)
  completes Write end a b c d cause ends read write = absurd (write cause)
  completes NoMemory end a b c d cause ends read write = inr refl
  completes (NoPath why) end a b c d cause ends read write = absurd cause
  completes NetFault end a b c d cause ends read write = absurd cause

by_end : (c : Command) (end : FeedEnd) (status : Status) → status_at end ≡ status → IsStatusFor c end status
by_end c end status is = subst (IsStatusFor c end) is (ended c end)

pub report-status : (report : Report) (status : Status) (end : FeedEnd) (a b c d : ℕ) → ReportCause report status a b c d → EndsSo status end → (Rose a b → ⊥) → (Rose c d → ⊥)
    → IsStatusFor (command.Report report) end status ⊎ (status ≡ NoMemory)
report-status report Done end a b c d cause ends read write = inl (by_end (command.Report report) end Done (ap status_at ends))
report-status report Usage end a b c d cause ends read write = absurd cause
report-status report (Feed number why) end a b c d cause ends read write = inl (by_end (command.Report report) end (Feed number why) (ap status_at ends))
report-status report (Roster number line why) end a b c d cause ends read write = inl (by_end (command.Report report) end (Roster number line why) (ap status_at ends))
report-status report Read end a b c d cause ends read write = absurd (read cause)
report-status report Write end a b c d cause ends read write = absurd (write cause)
report-status report NoMemory end a b c d cause ends read write = inr refl
report-status report.Tables (NoPath why) end a b c d cause ends read write = absurd cause
report-status report.Agree (NoPath why) end a b c d cause ends read write = absurd cause
report-status (report.Path router prefix) (NoPath why) end a b c d cause ends read write =
    inl (subst (λ (e : FeedEnd). IsStatusFor (command.Report (report.Path router prefix)) e (NoPath why)) (sym ends) (refused router prefix why))
report-status report NetFault end a b c d cause ends read write = absurd cause

-- ---- of a command that reads nothing

pub reads-nothing : (status : Status) (octets : List ℕ) (a b : ℕ) → WritesCause status a b → ReadsSo (λ _. Finished) (λ o. o) 0 status octets (Some octets)
reads-nothing Done octets a b cause = record { ended = refl; through = λ is. refl; stops = tt; cut = λ is. absurd cc }
reads-nothing NoMemory octets a b cause = record { ended = tt; through = λ is. refl; stops = tt; cut = λ is. absurd cc }
reads-nothing Write octets a b cause = record { ended = tt; through = λ is. refl; stops = tt; cut = λ is. absurd cc }
reads-nothing Usage octets a b cause = absurd cause
reads-nothing (Feed number why) octets a b cause = absurd cause
reads-nothing (Roster number line why) octets a b cause = absurd cause
reads-nothing Read octets a b cause = absurd cause
reads-nothing (NoPath why) octets a b cause = absurd cause
reads-nothing NetFault octets a b cause = absurd cause

-- ---- of any command

at_end : (c : Command) (status : Status) (end : FeedEnd) (a b : ℕ) → WritesCause status a b → EndsSo status end → (Rose a b → ⊥) → IsStatusFor c end status ⊎ (status ≡ NoMemory)
at_end c Done end a b cause ends write = inl (by_end c end Done (ap status_at ends))
at_end c NoMemory end a b cause ends write = inr refl
at_end c Write end a b cause ends write = absurd (write cause)
at_end c Usage end a b cause ends write = absurd cause
at_end c (Feed number why) end a b cause ends write = absurd cause
at_end c (Roster number line why) end a b cause ends write = absurd cause
at_end c Read end a b cause ends write = absurd cause
at_end c (NoPath why) end a b cause ends write = absurd cause
at_end c NetFault end a b cause ends write = absurd cause

pub command-status : (c : Command) (status : Status) (end : FeedEnd) (x y z w : ℕ) → CommandCause c status x y z w → EndsSo status end → (Rose x y → ⊥) → (Rose z w → ⊥)
    → IsStatusFor c end status ⊎ (status ≡ NoMemory)
command-status command.Replay status end x y z w cause ends read write = replay-status status end x y z w cause ends read write
command-status (command.Report report) status end x y z w cause ends read write = report-status report status end x y z w cause ends read write
command-status (command.Make number) status end x y z w cause ends read write = at_end (command.Make number) status end z w cause ends write
command-status (command.Trial number threads) status end x y z w cause ends read write = at_end (command.Trial number threads) status end z w cause ends write

read_only : (c : Command) (x y z w : ℕ) → CommandCause c Read x y z w → Rose x y
read_only command.Replay x y z w cause = cause
read_only (command.Report report) x y z w cause = cause
read_only (command.Make number) x y z w cause = absurd cause
read_only (command.Trial number threads) x y z w cause = absurd cause

write_only : (c : Command) (x y z w : ℕ) → CommandCause c Write x y z w → Rose z w
write_only command.Replay x y z w cause = cause
write_only (command.Report report) x y z w cause = cause
write_only (command.Make number) x y z w cause = cause
write_only (command.Trial number threads) x y z w cause = cause

no_usage : (c : Command) (x y z w : ℕ) → CommandCause c Usage x y z w → ⊥
no_usage command.Replay x y z w cause = cause
no_usage (command.Report report) x y z w cause = cause
no_usage (command.Make number) x y z w cause = cause
no_usage (command.Trial number threads) x y z w cause = cause

no_net : (c : Command) (x y z w : ℕ) → CommandCause c NetFault x y z w → ⊥
no_net command.Replay x y z w cause = cause
no_net (command.Report report) x y z w cause = cause
no_net (command.Make number) x y z w cause = cause
no_net (command.Trial number threads) x y z w cause = cause

path_alone : (words : List (List ℕ)) (c : Command) (why : WalkRefusal) (x y z w : ℕ) → CommandCause c (NoPath why) x y z w → StandFor words c
    → (router : ℕ) × (prefix : IpPrefix) × StandFor words (command.Report (report.Path router prefix))
path_alone words command.Replay why x y z w cause stand = absurd cause
path_alone words (command.Make number) why x y z w cause stand = absurd cause
path_alone words (command.Trial number threads) why x y z w cause stand = absurd cause
path_alone words (command.Report report.Tables) why x y z w cause stand = absurd cause
path_alone words (command.Report report.Agree) why x y z w cause stand = absurd cause
path_alone words (command.Report (report.Path router prefix)) why x y z w cause stand = (router, prefix, stand)

module _ (c : Command) (status : Status) (x y z w : ℕ) (cause : CommandCause c status x y z w) where
  pub read-cause : status ≡ Read → Rose x y
  read-cause is = read_only c x y z w (subst (λ (s : Status). CommandCause c s x y z w) is cause)

  pub write-cause : status ≡ Write → Rose z w
  write-cause is = write_only c x y z w (subst (λ (s : Status). CommandCause c s x y z w) is cause)

  pub never-usage : status ≡ Usage → ⊥
  never-usage is = no_usage c x y z w (subst (λ (s : Status). CommandCause c s x y z w) is cause)

  pub never-net : status ≡ NetFault → ⊥
  never-net is = no_net c x y z w (subst (λ (s : Status). CommandCause c s x y z w) is cause)

  pub refused-alone : (words : List (List ℕ)) (why : WalkRefusal) → status ≡ NoPath why → StandFor words c
      → (router : ℕ) × (prefix : IpPrefix) × StandFor words (command.Report (report.Path router prefix))
  refused-alone words why is stand = path_alone words c why x y z w (subst (λ (s : Status). CommandCause c s x y z w) is cause) stand
