use Rattle.std.proofs.Common.{ℕ, List, sym, ap, ◌∙◌}
use Rattle.rcp_model.specs.Sessions.{Octets, answer}
use Rattle.rcp_model.proofs.SessionLemmas.{any_pieces}
use Rattle.rcp_model.proofs.laws.sessions.any_cut.Goals as goal

pub returns-clause-whole : goal.returns-clause-whole
returns-clause-whole c = any_pieces

pub returns-clause-same : goal.returns-clause-same
returns-clause-same c roster now piece other pieces others session same =
    any_pieces roster now piece pieces session
    ∙ ap (λ (octets : List ℕ). answer roster (Octets octets now) session) same
    ∙ sym (any_pieces roster now other others session)
