use Rattle.std.proofs.Common.{List, [], ◌∷◌, ◌++◌, take, sym, ap, ◌∙◌}
use Rattle.std.proofs.lemmas.List.{take_more}
use Rattle.rcp_model.specs.LinkState.{RouterLink}
use Rattle.feed_make.specs.Networks.{Link, content_of}
use Rattle.feed_make.proofs.Networks.{content-append}
use Rattle.feed_make.proofs.network.content.Goals as goal

pub loop-link-preserved : goal.loop-link-preserved
loop-link-preserved c =
    let router = c.args.router in
    let links = c.args.links.now in
    let i = c.loop-link.link-index in
    let link = c.link-item.result in
    c.in_ok-add_link.ensures
    ∙ ap (λ (t : List RouterLink). t ++ content_of router (link ∷ [])) c.loop-link.invariant
    ∙ sym (content-append router (take i links) (link ∷ []))
    ∙ ap (content_of router) (ap (λ (l : Link). take i links ++ l ∷ []) c.link-item.is ∙ sym (take_more links i link c.loop-link-test.true))
