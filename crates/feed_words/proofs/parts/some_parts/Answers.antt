use Rattle.std.proofs.Common.{◌≡◌, ◌-◌, ◌+◌, ◌^◌, ℕ, sym, ap, ◌∙◌, arith}
use Rattle.std.proofs.lemmas.Result.{err_from_is_err_and}
use Rattle.line_words.specs.Words.{words_of}
use Rattle.feed_words.specs.Parts.{part_of, parts_within}
use Rattle.feed_words.proofs.PartLemmas.{part_fails, last_part, next_part, other_word, too_many}
use Rattle.feed_words.proofs.parts.some_parts.Goals as goal

pub returns-in_err-more : goal.returns-in_err-more
returns-in_err-more c =
    let p = err_from_is_err_and c.from_residual.result c.from_residual.ensures.1 in
    rw (p.1, p.2) (part_fails c.in_err-more.field-0.0 (part_of c.args.protocol) (2 ^ 20 - c.loop.counter) c.loop.body.items (words_of c.loop.rest.now) _ (omega arith) c.in_err-more.ensures c.loop.invariant)

pub returns-in-None : goal.returns-in-None
returns-in-None c =
    last_part (part_of c.args.protocol) (2 ^ 20 - c.loop.counter) c.loop.body.items c.part.new.body.items (words_of c.loop.rest.now) _ (omega arith) (rw c.in-None.ensures.words at c.in_ok-more.ensures) c.loop.invariant

pub returns-then-not-is_separator : goal.returns-then-not-is_separator
returns-then-not-is_separator c =
    rw (c.fault.ensures, c.in-Some.ensures.words)
    (other_word (part_of c.args.protocol) (2 ^ 20 - c.loop.counter) c.loop.body.items c.part.new.body.items (words_of c.loop.rest.now) c.in-Some.word.now (words_of c.in-Some.part.now) _ (omega arith)
    (rw c.in-Some.ensures.words at c.in_ok-more.ensures) (sym c.if-not-is_separator.ensures) c.loop.invariant)

pub loop-preserved : goal.loop-preserved
loop-preserved c =
    let less : 2 ^ 20 - (c.loop.counter + 1) ≡ 2 ^ 20 - c.loop.counter - 1 = omega arith in
    ap (λ (n : ℕ). parts_within (part_of c.args.protocol) n c.part.new.body.items (words_of c.in-Some.part.now)) less
    ∙ next_part (part_of c.args.protocol) (2 ^ 20 - c.loop.counter) c.loop.body.items c.part.new.body.items (words_of c.loop.rest.now) c.in-Some.word.now (words_of c.in-Some.part.now) _ (omega arith) (rw c.in-Some.ensures.words at c.in_ok-more.ensures) (sym c.if-not-is_separator.ensures) c.loop.invariant

pub returns : goal.returns
returns c = rw c.fault-2.ensures (too_many (part_of c.args.protocol) (2 ^ 20 - c.loop.counter) c.loop.body.items (words_of c.loop.rest.now) _ (omega arith) c.loop.invariant)
