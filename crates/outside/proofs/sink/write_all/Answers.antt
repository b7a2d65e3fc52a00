-- What one more write took goes after what went out before.
use Rattle.std.proofs.Common.{◌≡◌, ◌+◌, ◌∙◌, ℕ, List, Option, ap, sym, take, drop, arith}
use Rattle.std.proofs.Math.Seq.{take-add}
use Rattle.outside.specs.Told.{behind, behind-append}
use Rattle.outside.proofs.sink.write_all.Goals as goal

one_more : (start now then : Option (List ℕ)) (piece rest : List ℕ) (done count : ℕ) →
    rest ≡ drop done piece → now ≡ behind start (take done piece) → then ≡ behind now (take count rest) →
    then ≡ behind start (take (done + count) piece)
one_more start now then piece rest done count is_rest so_far next =
    next
    ∙ ap (λ xs. behind now (take count xs)) is_rest
    ∙ ap (λ taken. behind taken (take count (drop done piece))) so_far
    ∙ behind-append start (take done piece) (take count (drop done piece))
    ∙ ap (behind start) (sym (take-add done count piece))

pub loop-done-preserved : goal.loop-done-preserved
loop-done-preserved g c =
    let so_far = c.loop-done.invariant in
    let call = c.in-Ok.ensures in (
      omega (arith, so_far.0, call.within, c.split_at.ensures.back_len),
      one_more _ _ _ c.args.piece.now _ _ _ c.split_at.ensures.back so_far.1 call.front,
      omega (arith, so_far.2, call.never_falls),
    )
