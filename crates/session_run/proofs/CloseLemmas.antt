-- A link that was closed is else as it was.
use Rattle.std.proofs.Common.{◌≡◌, ℕ, Bool, List, Option, ap, ◌∙◌}
use Rattle.outside.specs.Links.{closing}
use Rattle.outbox.specs.Wires.{WireOf}
use Rattle.session_run.specs.Sessions.{closed_wire}

abbrev wire : Option (List ℕ) → Option (List ℕ) → Option Bool → ℕ → ℕ → ℕ → WireOf
wire given taken closed faults ends empties = record { given = given; taken = taken; closed = closed; faults = faults; ends = ends; empties = empties }

pub closes : (old new : WireOf) → new.closed ≡ closing old.closed → new.given ≡ old.given → new.taken ≡ old.taken → new.faults ≡ old.faults → new.ends ≡ old.ends → new.empties ≡ old.empties
    → new ≡ closed_wire old
closes old new closed given taken faults ends empties =
    ap (λ v. wire v new.taken new.closed new.faults new.ends new.empties) given
    ∙ ap (λ v. wire old.given v new.closed new.faults new.ends new.empties) taken
    ∙ ap (λ v. wire old.given old.taken v new.faults new.ends new.empties) closed
    ∙ ap (λ v. wire old.given old.taken (closing old.closed) v new.ends new.empties) faults
    ∙ ap (λ v. wire old.given old.taken (closing old.closed) old.faults v new.empties) ends
    ∙ ap (λ v. wire old.given old.taken (closing old.closed) old.faults old.ends v) empties
