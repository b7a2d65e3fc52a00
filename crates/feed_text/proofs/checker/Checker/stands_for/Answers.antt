use Rattle.std.proofs.Common.{◌≡◌, ◌∷◌, [], ◌++◌, ℕ, List, Option, Ok, sym, subst}
use Rattle.std.proofs.lemmas.Option.{MatchOption-at_none}
use Rattle.line_words.specs.Words.{lines_of}
use Rattle.feed_words.specs.Texts.{line_gives}
use Rattle.feed_text.proofs.LineLemmas.{Compares, compares_start, compares_more, compares_end, at_some}
use Rattle.feed_text.proofs.checker.Checker.stands_for.Goals as goal

pub loop-line-init : goal.loop-line-init
loop-line-init c = subst (λ (s : Option (List ℕ)). Compares s c.args.text.now c.args.octets.now c.args.text.now c.args.octets.now) (sym c.reset.ensures) (compares_start c.args.text.now c.args.octets.now)

pub loop-line-preserved : goal.loop-line-preserved
loop-line-preserved c =
    let before = c.loop-line in
    let after = c.rest_after.new.self in
    compares_more before.self.encoder after.encoder before.rest.now before.left.now c.in-Some.line.now c.in-Some.more.now after.piece.items c.in-Some-2.after.now c.args.text.now c.args.octets.now
    before.invariant c.in-Some.ensures.lines
    (at_some (λ rest. line_gives before.self.encoder c.in-Some.line.now ≡ Ok (after.encoder, after.piece.items)) c.in_ok-after.field-0 c.in-Some-2.after c.in-Some-2.is c.in_ok-after.ensures.line)
    (at_some (λ rest. after.piece.items ++ rest.now ≡ before.left.now) c.in_ok-after.field-0 c.in-Some-2.after c.in-Some-2.is c.in_ok-after.ensures.octets)

pub returns : goal.returns
returns c same =
    let before = c.loop-line in
    let after = c.rest_after-2.new.self in
    compares_end before.self.encoder after.encoder before.rest.now before.left.now after.piece.items c.in-Some-3.last.now c.args.text.now c.args.octets.now
    before.invariant (MatchOption-at_none (lines_of before.rest.now ≡ before.rest.now ∷ []) (λ found. lines_of before.rest.now ≡ found.0.now ∷ lines_of found.1.now) c.in_default.is c.split_line.ensures.lines)
    (at_some (λ rest. line_gives before.self.encoder before.rest.now ≡ Ok (after.encoder, after.piece.items)) c.in_ok-last.field-0 c.in-Some-3.last c.in-Some-3.is c.in_ok-last.ensures.line)
    (at_some (λ rest. after.piece.items ++ rest.now ≡ before.left.now) c.in_ok-last.field-0 c.in-Some-3.last c.in-Some-3.is c.in_ok-last.ensures.octets)
    (c.ends_with.ensures same)
