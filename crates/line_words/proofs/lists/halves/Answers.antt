use Rattle.std.proofs.Common.{rules, ℕ, List, ◌+◌, take, drop, Some, ap, sym, ◌∙◌}
use Rattle.std.specs.Prelude.{option_map}
use Rattle.std.proofs.lemmas.List.{take_rest}
use Rattle.rcp_base.proofs.TextLemmas.{split_nowhere, split_there}
use Rattle.line_words.proofs.lists.halves.Goals as goal

pub returns-in_err-place-clause-halves : goal.returns-in_err-place-clause-halves
returns-in_err-place-clause-halves c = search rules

pub returns-clause-halves : goal.returns-clause-halves
returns-clause-halves c =
    ap (option_map (λ (i : ℕ). (take i c.args.text.now, drop (i + 1) c.args.text.now))) (sym c.in_ok-place.ensures)
    ∙ ap (λ (rest : List ℕ). Some (take c.in_ok-place.place c.args.text.now, rest)) (sym (take_rest c.args.text.now (c.in_ok-place.place + 1)))

pub returns-in_err-place-clause-parts : goal.returns-in_err-place-clause-parts
returns-in_err-place-clause-parts c = rw c.from_residual.ensures (split_nowhere _ c.args.text.now (sym c.in_err-place.ensures))

pub returns-clause-parts : goal.returns-clause-parts
returns-clause-parts c = split_there _ c.args.text.now c.in_ok-place.place (sym c.in_ok-place.ensures)
