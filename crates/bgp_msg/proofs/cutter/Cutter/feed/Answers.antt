-- The header's octets are copied, and then those of its message after them.
use Rattle.std.proofs.Common.{◌+◌, ◌<◌, ◌≤◌, ℕ, List, length, take, sym, ap, ◌∙◌, subst, arith, length-take-le}
use Rattle.rcp_model.specs.Messages.{header_fault, length_field}
use Rattle.rcp_model.proofs.ReadingLemmas.{faultless_length}
use Rattle.bgp_msg.specs.Cutting.{Feeds}
use Rattle.bgp_msg.proofs.Feeding.{begins, Feeds-short, Feeds-faulty, goes_on}
use Rattle.bgp_msg.proofs.cutter.Cutter.feed.Goals as goal

pub returns-then-held-lt-HEADER_LEN : goal.returns-then-held-lt-HEADER_LEN
returns-then-held-lt-HEADER_LEN c =
    let b = begins c.self.inside.buffer c.fill-count.new.buffer c.args.piece.now c.self.inside.len c.fill-count.result c.self.told c.self.invariant c.fill-count.ensures.count c.fill-count.ensures.filled in
    let short : length (take (c.self.inside.len + c.fill-count.result) c.fill-count.new.buffer) < 19 = omega (arith, ap length c.split_at.ensures.front, c.if-held-lt-HEADER_LEN.true) in
    let P : List ℕ → Type 0 = λ old. Feeds old c.args.piece.now c.fill-count.result (take (c.self.inside.len + c.fill-count.result) c.fill-count.new.buffer) in
    subst P c.self.view_is (Feeds-short _ _ _ _ b short)

pub returns-in_default : goal.returns-in_default
returns-in_default c =
    let b = begins c.self.inside.buffer c.fill-count.new.buffer c.args.piece.now c.self.inside.len c.fill-count.result c.self.told c.self.invariant c.fill-count.ensures.count c.fill-count.ensures.filled in
    let long : 19 ≤ length (take (c.self.inside.len + c.fill-count.result) c.fill-count.new.buffer) = omega (arith, ap length c.split_at.ensures.front, c.if-held-lt-HEADER_LEN.false) in
    let e = ap header_fault (sym c.split_at.ensures.front) ∙ c.in_default.ensures.fault.0 in
    let P : List ℕ → Type 0 = λ old. Feeds old c.args.piece.now c.fill-count.result (take (c.self.inside.len + c.fill-count.result) c.fill-count.new.buffer) in
    subst P c.self.view_is (Feeds-faulty _ _ _ _ b long _ e)

pub fill-more-requires-clause-goal_fits : goal.fill-more-requires-clause-goal_fits
fill-more-requires-clause-goal_fits c =
    omega (arith, faultless_length c.split_at.result.0.now c.in-Ok.ensures.faultless, c.in-Ok.ensures.fields.len_is, c.from.ensures)

pub invariant_of-self-2 : goal.invariant_of-self-2
invariant_of-self-2 c =
    let b = begins c.self.inside.buffer c.fill-count.new.buffer c.args.piece.now c.self.inside.len c.fill-count.result c.self.told c.self.invariant c.fill-count.ensures.count c.fill-count.ensures.filled in
    let front = c.split_at.ensures.front in
    let long : 19 ≤ length (take (c.self.inside.len + c.fill-count.result) c.fill-count.new.buffer) = omega (arith, ap length front, c.if-held-lt-HEADER_LEN.false) in
    let on = goes_on _ _ _ _ _ c.fill-count.result c.from.result (c.self.inside.len + c.fill-count.result) c.fill-more.result b long
    (ap header_fault (sym front) ∙ c.in-Ok.ensures.faultless)
    (c.from.ensures ∙ c.in-Ok.ensures.fields.len_is ∙ ap length_field front)
    (sym c.split_at.ensures.front_len ∙ ap length front)
    c.split_at-2.ensures.back c.fill-more.ensures.count c.fill-more.ensures.filled in
    (omega (arith, on.fits, length-take-le c.self.inside.len c.self.inside.buffer (omega (arith, c.self.told, c.self.invariant.0))), on.one)

pub returns : goal.returns
returns c =
    let b = begins c.self.inside.buffer c.fill-count.new.buffer c.args.piece.now c.self.inside.len c.fill-count.result c.self.told c.self.invariant c.fill-count.ensures.count c.fill-count.ensures.filled in
    let front = c.split_at.ensures.front in
    let long : 19 ≤ length (take (c.self.inside.len + c.fill-count.result) c.fill-count.new.buffer) = omega (arith, ap length front, c.if-held-lt-HEADER_LEN.false) in
    let on = goes_on _ _ _ _ _ c.fill-count.result c.from.result (c.self.inside.len + c.fill-count.result) c.fill-more.result b long
    (ap header_fault (sym front) ∙ c.in-Ok.ensures.faultless)
    (c.from.ensures ∙ c.in-Ok.ensures.fields.len_is ∙ ap length_field front)
    (sym c.split_at.ensures.front_len ∙ ap length front)
    c.split_at-2.ensures.back c.fill-more.ensures.count c.fill-more.ensures.filled in
    let P : List ℕ → Type 0 = λ old. Feeds old c.args.piece.now (c.fill-count.result + c.fill-more.result) (take (c.self.inside.len + c.fill-count.result + c.fill-more.result) c.fill-more.new.buffer) in
    subst P c.self.view_is on.feeds
