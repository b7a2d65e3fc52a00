use Rattle.std.proofs.Common.{◌++◌, ◌∷◌, [], ℕ, List, ap, ◌∙◌, codes}
use Rattle.std.specs.Fmt.{decimal}
use Rattle.std.specs.List.{concat}
use Rattle.session_report.proofs.report.put_line.Goals as goal

pub returns : goal.returns
returns c = c.in_ok-extend_from_slice.ensures.items ∙ ap (λ (l : List ℕ). c.args.text.now.items ++ l) (c.as_bytes.ensures.value ∙ (c.in_ok-line.ensures.ok
    ∙ ap (λ (why : List ℕ). concat (codes "session " ∷ c.args.router.now ∷ codes " generation " ∷ decimal c.args.end.now.generation ∷ codes " " ∷ why
    ∷ codes " messages " ∷ decimal c.args.end.now.messages ∷ codes " updates " ∷ decimal c.args.end.now.updates ∷ codes "\n" ∷ [])) c.in_ok-why.ensures))
