use Rattle.std.proofs.Common.{ℕ, List, length, get_or, ap, ◌∙◌, arith, rules}
use Rattle.std.specs.Prelude.{ℤ, pos, ◌+ℤ◌}
use mir.Syntax.{w32}
use mir.Val.{SFits}
use Rattle.std.proofs.lemmas.Int.{to_z-of_z}
use Rattle.rcp_model.specs.LinkState.{RouterLink, RouterLsa}
use Rattle.feed_make.specs.Networks.{NetworkOf, content_of, first_sequence, lsa_after}
use Rattle.feed_make.proofs.Networks.{content-few, length-links, rises-at}
use Rattle.feed_make.proofs.network.Network.lsa.Goals as goal

abbrev made : ℕ → ℤ → List RouterLink → RouterLsa
made key sequence content = record { key = key; header = record { sequence = sequence; checksum = 0; age = 1 }; content = content }

pub returns-clause-lsa : goal.returns-clause-lsa
returns-clause-lsa c =
    let s = c.self.inside in
    let router = c.args.router in
    let fits : SFits w32 c.sequence.result = search rules in
    let rose = (λ i. get_or (c.self.invariant.2 i) (c.from.ensures i) 0) ∙ rises-at s.number s.changes router 0 c.requires in
    let sequence = to_z-of_z w32 c.sequence.result fits ∙ c.sequence.ensures ∙ ap (λ n. first_sequence +ℤ pos n) rose in
    let content = c.in_ok-content.ensures ∙ ap (content_of router) (c.deref.ensures.value ∙ c.self.invariant.1) in
    (λ i. made (c.id_of.ensures i) (sequence i) (content i))
    ∙ ap (λ (n : NetworkOf). lsa_after n.number n.changes router) c.self.view_is

pub returns-clause-few : goal.returns-clause-few
returns-clause-few c =
    let s = c.self.inside in
    let items = c.in_ok-content.ensures in
    let list = c.deref.ensures.value ∙ c.self.invariant.1 in
    omega (arith, ap length items, ap length list, content-few c.args.router c.deref.result.now, length-links s.number s.changes)
