use Rattle.std.proofs.Common.{◌≡◌, ℕ, List, ◌++◌, sym, ap, ◌∙◌, append_assoc, append-nil, arith}
use Rattle.std.specs.List.{flat_map}
use Rattle.feed_make.specs.Numbers.{numbers_from}
use Rattle.feed_make.specs.Feeds.{settings_text, router_line, roster_text}
use Rattle.feed_make.proofs.Ranges.{numbers-none, range-more}
use Rattle.feed_make.proofs.roster.roster_text.Goals as goal

pub loop-router-init : goal.loop-router-init
loop-router-init c =
    c.in_ok-text.ensures.items
    ∙ sym (ap (λ (ns : List ℕ). settings_text ++ flat_map router_line ns) (numbers-none 0) ∙ append-nil settings_text)

pub loop-router-preserved : goal.loop-router-preserved
loop-router-preserved c =
    let router = c.loop-router.router in
    c.in_ok-add_router.ensures
    ∙ ap (λ (t : List ℕ). t ++ router_line router) c.loop-router.invariant
    ∙ append_assoc settings_text (flat_map router_line (numbers_from 0 router)) (router_line router)
    ∙ ap (λ (t : List ℕ). settings_text ++ t) (sym (range-more router_line router))

pub returns : goal.returns
unfolding roster_text
returns c =
    let last : c.loop-router.router ≡ 400 = omega arith in
    c.loop-router.invariant ∙ ap (λ n. settings_text ++ flat_map router_line (numbers_from 0 n)) last
