use Rattle.std.proofs.Common.{◌≡◌, ℕ, List, [], ◌∷◌, ◌++◌, OnOk, subst, ◌∙◌}
use Rattle.feed_meaning.specs.OutRecords.{SUMMARY}
use Rattle.platform_core.proofs.output.Outputs.add_summary.Goals as goal

pub returns : goal.returns
returns c =
    let one = c.in_ok-extend_from_slice.ensures.items ∙ (λ i. c.in_ok-body.ensures.items i ++ c.to_be_bytes.ensures i) in
    let two = c.in_ok-extend_from_slice-2.ensures.items ∙ (λ i. one i ++ c.to_be_bytes-2.ensures i) in
    let three = c.in_ok-extend_from_slice-3.ensures.items ∙ (λ i. two i ++ c.to_be_bytes-3.ensures i) in
    subst (λ (b : List ℕ). OnOk c.add.result (c.add.new.self ≡ c.args.self.now ++ record { kind = SUMMARY; connection = 0; body = b } ∷ [])) three c.add.ensures
