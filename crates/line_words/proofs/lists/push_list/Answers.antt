use Rattle.std.proofs.Common.{◌≡◌, Bool, sym, ap, ◌∙◌, Some, None, subst}
use Rattle.std.specs.Prelude.{IfOk, if◌then◌else◌}
use Rattle.line_words.specs.Lists.{items_onto, list_onto}
use Rattle.line_words.proofs.ListLemmas.{item_read, item_unread, last_item}
use Rattle.line_words.proofs.lists.push_list.Goals as goal

pub returns-then-not-branch : goal.returns-then-not-branch
returns-then-not-branch g c =
    let unread : g.I.Item.onto c.loop-piece.out.items c.in-Some.piece.now ≡ None = c.in_ok-push.ensures ∙ ap (λ (b : Bool). if b then Some c.push.new.out.items else None) c.if-not-branch.true in
    sym c.loop-piece.invariant ∙ ap (items_onto g.I.Item.onto c.loop-piece.out.items) c.in-Some.ensures.parts ∙ item_unread g.I.Item.onto _ _ _ unread

pub loop-piece-preserved : goal.loop-piece-preserved
loop-piece-preserved g c =
    let read : g.I.Item.onto c.loop-piece.out.items c.in-Some.piece.now ≡ Some c.push.new.out.items = c.in_ok-push.ensures ∙ ap (λ (b : Bool). if b then Some c.push.new.out.items else None) c.if-not-branch.false in
    sym (ap (items_onto g.I.Item.onto c.loop-piece.out.items) c.in-Some.ensures.parts ∙ item_read g.I.Item.onto _ _ _ _ read) ∙ c.loop-piece.invariant

pub returns : goal.returns
returns g c =
    let all : list_onto g.I.Item.onto c.args.by c.args.out.now.items c.args.text.now ≡ g.I.Item.onto c.loop-piece.out.items c.loop-piece.rest.now =
    sym c.loop-piece.invariant ∙ ap (items_onto g.I.Item.onto c.loop-piece.out.items) c.in_default.ensures.parts ∙ last_item g.I.Item.onto _ _ in
    subst (λ octets. IfOk c.push-2.result (λ read. octets ≡ (if read then Some c.push-2.new.out.items else None))) (sym all) c.push-2.ensures
