use Rattle.std.proofs.Common.{◌≡◌, ◌-◌, ◌+◌, ◌^◌, ℕ, ap, ◌∙◌, arith, subst}
use Rattle.line_words.specs.Words.{words_of}
use Rattle.line_words.specs.Lists.{words_within, IsTaken}
use Rattle.line_words.proofs.ListLemmas.{word_taken, word_unreadable, other_kind, no_word, too_many}
use Rattle.line_words.proofs.lists.push_words.Goals as goal

pub returns-in_default : goal.returns-in_default
returns-in_default g c =
    rw c.in_default.ensures.words
    (no_word g.W.Word.onto (2 ^ 20 - c.loop.counter) c.loop.out.items _ (omega arith) (rw (← c.in_default.ensures.words) c.loop.invariant))

pub returns-in-Other : goal.returns-in-Other
returns-in-Other g c =
    let other = subst (λ t. IsTaken t c.loop.out.items c.push.new.out.items (g.W.Word.onto c.loop.out.items c.in-Some.word.now)) c.in-Other.is c.in_ok-push.ensures in
    rw (other.1, c.in-Some.ensures.words)
    (other_kind g.W.Word.onto (2 ^ 20 - c.loop.counter) c.loop.out.items c.in-Some.word.now (words_of c.in-Some.more.now) _ (omega arith) other.0 (rw (← c.in-Some.ensures.words) c.loop.invariant))

pub returns-in-Unreadable : goal.returns-in-Unreadable
returns-in-Unreadable g c =
    let unreadable = subst (λ t. IsTaken t c.loop.out.items c.push.new.out.items (g.W.Word.onto c.loop.out.items c.in-Some.word.now)) c.in-Unreadable.is c.in_ok-push.ensures in
    rw (c.fault.ensures, c.in-Some.ensures.words)
    (word_unreadable g.W.Word.onto (2 ^ 20 - c.loop.counter) c.loop.out.items c.in-Some.word.now (words_of c.in-Some.more.now) _ (omega arith) unreadable (rw (← c.in-Some.ensures.words) c.loop.invariant))

pub loop-preserved : goal.loop-preserved
loop-preserved g c =
    let less : 2 ^ 20 - (c.loop.counter + 1) ≡ 2 ^ 20 - c.loop.counter - 1 = omega arith in
    let taken = subst (λ t. IsTaken t c.loop.out.items c.push.new.out.items (g.W.Word.onto c.loop.out.items c.in-Some.word.now)) c.in-Pushed.is c.in_ok-push.ensures in
    ap (λ (n : ℕ). words_within g.W.Word.onto n c.push.new.out.items (words_of c.in-Some.more.now)) less
    ∙ word_taken g.W.Word.onto (2 ^ 20 - c.loop.counter) c.loop.out.items c.push.new.out.items c.in-Some.word.now (words_of c.in-Some.more.now) _ (omega arith) taken (rw (← c.in-Some.ensures.words) c.loop.invariant)

pub returns : goal.returns
returns g c = rw c.fault-2.ensures (too_many g.W.Word.onto (2 ^ 20 - c.loop.counter) c.loop.out.items (words_of c.loop.rest.now) _ (omega arith) c.loop.invariant)
