use Rattle.std.proofs.Common.{◌≡◌, ℕ, List, [], ◌∷◌, map, sym, ap, ◌∙◌}
use Rattle.rcp_base.specs.Roster.{RosterOf}
use Rattle.rcp_model.specs.Sessions.{SessionState, Doing, Answer, Octets, then_also, answer, answers}
use Rattle.rcp_model.proofs.SessionLemmas.{any_pieces}
use Rattle.session_core.specs.Held.{Held}
use Rattle.session_core.specs.Hearing.{Hears}
use Rattle.session_core.proofs.laws.any_cut.Goals as goal

-- what the calls come to
heard : (roster : RosterOf) (now : ℕ) (pieces : List (List ℕ)) (old new : Held) (does : Doing) → Hears roster now pieces old new does
    → (new.state ≡ (answers roster (map (λ p. Octets p now) pieces) old.state).after) × (does ≡ (answers roster (map (λ p. Octets p now) pieces) old.state).does)
unfolding answers
heard roster now [] old new does hears = (ap (λ (h : Held). h.state) hears.0, hears.1)
heard roster now (piece ∷ pieces) old new does hears =
    let first = answer roster (Octets piece now) old.state in
    let others = heard roster now pieces hears.0 new hears.2 hears.4 in
    let after = hears.3.after in (
      others.0 ∙ ap (λ (s : SessionState). (answers roster (map (λ p. Octets p now) pieces) s).after) after,
      hears.5
          ∙ ap (λ (d : Doing). then_also d hears.2) hears.3.does
          ∙ ap (then_also first.does) (others.1 ∙ ap (λ (s : SessionState). (answers roster (map (λ p. Octets p now) pieces) s).does) after),
    )

pub returns : goal.returns
returns c roster now piece other pieces others old first second does did same one two =
    let a = heard roster now (piece ∷ pieces) old first does one in
    let b = heard roster now (other ∷ others) old second did two in
    let all : answers roster (map (λ p. Octets p now) (piece ∷ pieces)) old.state ≡ answers roster (map (λ p. Octets p now) (other ∷ others)) old.state =
    any_pieces roster now piece pieces old.state ∙ ap (λ (octets : List ℕ). answer roster (Octets octets now) old.state) same ∙ sym (any_pieces roster now other others old.state) in
    (a.0 ∙ ap (λ (r : Answer). r.after) all ∙ sym b.0, a.1 ∙ ap (λ (r : Answer). r.does) all ∙ sym b.1)
