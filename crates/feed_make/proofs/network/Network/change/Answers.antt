use Rattle.std.proofs.Common.{◌≡◌, ℕ, ◌+◌, ◌<◌, [], ◌∷◌, length, sym, ap, ◌∙◌, arith, rules}
use Rattle.std.specs.Vec.{vec_len}
use Rattle.feed_make.specs.Networks.{Link, NetworkOf, changed_link}
use Rattle.feed_make.proofs.Networks.{length-links}
use Rattle.feed_make.proofs.Changes.{place_is, cost_is, old_is, old_is_link, from_is, to_is, rose_few, rose_few_then, rise, links_are}
use Rattle.feed_make.proofs.network.Network.change.Goals as goal

-- a link with another cost
abbrev made_link : Link → ℕ → Link
made_link link cost = record link { cost = cost }

pub index-requires : goal.index-requires
index-requires c =
    let s = c.self.inside in
    let long : vec_len s.links ≡ length s.links.items = search rules in
    omega (arith, long, ap length c.self.invariant.1, length-links s.number s.changes, c.draw.ensures.below, c.from-place.ensures)

pub index_mut-requires : goal.index_mut-requires
index_mut-requires c =
    let s = c.self.inside in
    let long : vec_len s.links ≡ length s.links.items = search rules in
    omega (arith, long, ap length c.self.invariant.1, length-links s.number s.changes, c.draw.ensures.below, c.from-place.ensures)

pub bounds-self-inside-from : goal.bounds-self-inside-from
bounds-self-inside-from c =
    let s = c.self.inside in
    let place = place_is s.number s.changes c.args.self.now c.args.draws.now c.self.view_is c.requires.feed c.requires.drawn c.draw.result c.from-place.result c.from-place.ensures c.draw.ensures.value in
    let old = old_is s.number s.changes c.from-place.result s.links.items c.index.result.now c.self.invariant.1 place c.index.ensures in
    let is_link = old_is_link s.number s.changes c.index.result.now old in
    let from = ap (λ (l : Link). l.from) c.link.view_is ∙ ap (λ (l : Link). l.from) c.behind-self.view_is in
    omega (arith, c.from.ensures, from, is_link.from_one)

pub bounds-self-inside-from-2 : goal.bounds-self-inside-from-2
bounds-self-inside-from-2 c =
    let s = c.self.inside in
    let place = place_is s.number s.changes c.args.self.now c.args.draws.now c.self.view_is c.requires.feed c.requires.drawn c.draw.result c.from-place.result c.from-place.ensures c.draw.ensures.value in
    let old = old_is s.number s.changes c.from-place.result s.links.items c.index.result.now c.self.invariant.1 place c.index.ensures in
    let is_link = old_is_link s.number s.changes c.index.result.now old in
    let from = ap (λ (l : Link). l.from) c.link.view_is ∙ ap (λ (l : Link). l.from) c.behind-self.view_is in
    omega (arith, c.from.ensures, from, is_link.from_one)

pub overflow_add-self : goal.overflow_add-self
overflow_add-self c =
    let s = c.self.inside in
    let place = place_is s.number s.changes c.args.self.now c.args.draws.now c.self.view_is c.requires.feed c.requires.drawn c.draw.result c.from-place.result c.from-place.ensures c.draw.ensures.value in
    let old = old_is s.number s.changes c.from-place.result s.links.items c.index.result.now c.self.invariant.1 place c.index.ensures in
    let is_link = old_is_link s.number s.changes c.index.result.now old in
    let from = ap (λ (l : Link). l.from) c.link.view_is ∙ ap (λ (l : Link). l.from) c.behind-self.view_is in
    let few = rose_few s.number s.changes c.from.result s.rises c.self.invariant.2 (omega (arith, c.from.ensures, from, is_link.from_one)) in
    omega (arith, few, c.self.invariant.0)

pub bounds-self-inside-from-3 : goal.bounds-self-inside-from-3
bounds-self-inside-from-3 c =
    let s = c.self.inside in
    let place = place_is s.number s.changes c.args.self.now c.args.draws.now c.self.view_is c.requires.feed c.requires.drawn c.draw.result c.from-place.result c.from-place.ensures c.draw.ensures.value in
    let old = old_is s.number s.changes c.from-place.result s.links.items c.index.result.now c.self.invariant.1 place c.index.ensures in
    let is_link = old_is_link s.number s.changes c.index.result.now old in
    let from = ap (λ (l : Link). l.from) c.link.view_is ∙ ap (λ (l : Link). l.from) c.behind-self.view_is in
    let to = ap (λ (l : Link). l.to) c.link.view_is ∙ ap (λ (l : Link). l.to) c.behind-self.view_is in
    omega (arith, c.from-2.ensures, to, is_link.to_one)

pub bounds-self-inside-from-4 : goal.bounds-self-inside-from-4
bounds-self-inside-from-4 c =
    let s = c.self.inside in
    let place = place_is s.number s.changes c.args.self.now c.args.draws.now c.self.view_is c.requires.feed c.requires.drawn c.draw.result c.from-place.result c.from-place.ensures c.draw.ensures.value in
    let old = old_is s.number s.changes c.from-place.result s.links.items c.index.result.now c.self.invariant.1 place c.index.ensures in
    let is_link = old_is_link s.number s.changes c.index.result.now old in
    let from = ap (λ (l : Link). l.from) c.link.view_is ∙ ap (λ (l : Link). l.from) c.behind-self.view_is in
    let to = ap (λ (l : Link). l.to) c.link.view_is ∙ ap (λ (l : Link). l.to) c.behind-self.view_is in
    omega (arith, c.from-2.ensures, to, is_link.to_one)

pub overflow_add-self-2 : goal.overflow_add-self-2
overflow_add-self-2 c =
    let s = c.self.inside in
    let place = place_is s.number s.changes c.args.self.now c.args.draws.now c.self.view_is c.requires.feed c.requires.drawn c.draw.result c.from-place.result c.from-place.ensures c.draw.ensures.value in
    let old = old_is s.number s.changes c.from-place.result s.links.items c.index.result.now c.self.invariant.1 place c.index.ensures in
    let is_link = old_is_link s.number s.changes c.index.result.now old in
    let from = ap (λ (l : Link). l.from) c.link.view_is ∙ ap (λ (l : Link). l.from) c.behind-self.view_is in
    let to = ap (λ (l : Link). l.to) c.link.view_is ∙ ap (λ (l : Link). l.to) c.behind-self.view_is in
    let from_one : c.from.result < 400 = omega (arith, c.from.ensures, from, is_link.from_one) in
    let to_one : c.from-2.result < 400 = omega (arith, c.from-2.ensures, to, is_link.to_one) in
    let two : c.from.result ≡ c.from-2.result → ⊥ = λ e. is_link.two (sym (c.from.ensures ∙ from) ∙ e ∙ (c.from-2.ensures ∙ to)) in
    let few = rose_few_then s.number s.changes c.from.result c.from-2.result s.rises c.self.invariant.2 from_one to_one two in
    omega (arith, few, c.self.invariant.0)

pub invariant_of-self : goal.invariant_of-self
invariant_of-self c =
    let s = c.self.inside in
    let place = place_is s.number s.changes c.args.self.now c.args.draws.now c.self.view_is c.requires.feed c.requires.drawn c.draw.result c.from-place.result c.from-place.ensures c.draw.ensures.value in
    let old = old_is s.number s.changes c.from-place.result s.links.items c.index.result.now c.self.invariant.1 place c.index.ensures in
    let is_link = old_is_link s.number s.changes c.index.result.now old in
    let from = ap (λ (l : Link). l.from) c.link.view_is ∙ ap (λ (l : Link). l.from) c.behind-self.view_is in
    let to = ap (λ (l : Link). l.to) c.link.view_is ∙ ap (λ (l : Link). l.to) c.behind-self.view_is in
    let from_one : c.from.result < 400 = omega (arith, c.from.ensures, from, is_link.from_one) in
    let to_one : c.from-2.result < 400 = omega (arith, c.from-2.ensures, to, is_link.to_one) in
    let two : c.from.result ≡ c.from-2.result → ⊥ = λ e. is_link.two (sym (c.from.ensures ∙ from) ∙ e ∙ (c.from-2.ensures ∙ to)) in
    let cost = cost_is s.number s.changes c.args.self.now c.args.draws.now c.self.view_is c.requires.feed c.requires.drawn c.draw.new.self c.draw-cost.result c.draw.ensures.after c.draw-cost.ensures.value in (
      omega (arith, c.requires.few, ap (λ (n : NetworkOf). n.changes) c.self.view_is),
      links_are s.number s.changes c.from-place.result s.links.items c.index.result.now _ c.self.invariant.1 place old (λ i. made_link (c.behind-self.view_is i) (1 + cost i)),
      rise s.number s.changes c.from.result c.from-2.result s.rises c.self.invariant.2
          (c.from.ensures ∙ from ∙ from_is s.number s.changes c.index.result.now old) (c.from-2.ensures ∙ to ∙ to_is s.number s.changes c.index.result.now old) from_one to_one two,
    )

pub returns-clause-routers : goal.returns-clause-routers
returns-clause-routers c =
    let s = c.self.inside in
    let place = place_is s.number s.changes c.args.self.now c.args.draws.now c.self.view_is c.requires.feed c.requires.drawn c.draw.result c.from-place.result c.from-place.ensures c.draw.ensures.value in
    let old = old_is s.number s.changes c.from-place.result s.links.items c.index.result.now c.self.invariant.1 place c.index.ensures in
    let is_link = old_is_link s.number s.changes c.index.result.now old in
    let from = ap (λ (l : Link). l.from) c.link.view_is ∙ ap (λ (l : Link). l.from) c.behind-self.view_is in
    let to = ap (λ (l : Link). l.to) c.link.view_is ∙ ap (λ (l : Link). l.to) c.behind-self.view_is in
    (λ i. (from ∙ from_is s.number s.changes c.index.result.now old) i ∷ (to ∙ to_is s.number s.changes c.index.result.now old) i ∷ [])
    ∙ ap (λ (n : NetworkOf). (changed_link n.number n.changes).from ∷ (changed_link n.number n.changes).to ∷ []) c.self.view_is
