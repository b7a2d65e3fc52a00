use Rattle.std.proofs.Common.{◌≡◌, ℕ, List, ◌+◌, ◌*◌, ◌∷◌, [], ◌++◌, map, sym, ap, ◌∙◌, arith, append_assoc, append-nil}
use Rattle.feed_make.specs.Numbers.{numbers_from}
use Rattle.feed_make.specs.Draws.{DrawsOf}
use Rattle.feed_make.specs.Networks.{Link, ring_link, other_link}
use Rattle.feed_make.proofs.Ranges.{numbers-none, map-numbers_more}
use Rattle.feed_make.proofs.links.draw_links.Goals as goal

pub loop-i-init : goal.loop-i-init
loop-i-init c = record {
  links = c.new-links.ensures.items ∙ sym (ap (λ (ns : List ℕ). map (ring_link c.args.draws.now.number) ns) (numbers-none 0));
  draws = ap (λ n. record c.args.draws.now { drawn = n }) c.requires;
}

pub loop-i-preserved : goal.loop-i-preserved
loop-i-preserved c =
    let number = c.args.draws.now.number in
    let i = c.loop-i.i in
    record {
      links =
          c.in_ok-push.ensures.items
          ∙ (λ k. c.loop-i.invariant.links k ++ (c.ring_link.ensures.link ∙ ap (λ (d : DrawsOf). ring_link d.number i) c.loop-i.invariant.draws) k ∷ [])
          ∙ sym (map-numbers_more (ring_link number) 0 i i (omega arith));
      draws = c.ring_link.ensures.after ∙ ap (λ (d : DrawsOf). record d { drawn = i + 1 }) c.loop-i.invariant.draws;
    }

pub loop-init : goal.loop-init
loop-init c =
    let number = c.args.draws.now.number in
    let all : c.loop-i.i ≡ 400 = omega arith in
    record {
      links =
          c.loop-i.invariant.links
          ∙ ap (λ n. map (ring_link number) (numbers_from 0 n)) all
          ∙ sym (ap (λ (ns : List ℕ). map (ring_link number) (numbers_from 0 400) ++ map (other_link number) ns) (numbers-none 0) ∙ append-nil (map (ring_link number) (numbers_from 0 400)));
      draws = c.loop-i.invariant.draws ∙ ap (λ n. record { number = number; drawn = n }) all;
    }

pub loop-preserved : goal.loop-preserved
loop-preserved c =
    let number = c.args.draws.now.number in
    let k = c.loop.counter in
    let ring = map (ring_link number) (numbers_from 0 400) in
    let drawn : c.loop.draws.drawn ≡ 400 + 3 * k = ap (λ (d : DrawsOf). d.drawn) c.loop.invariant.draws in
    let next : 400 + 3 * k + 3 ≡ 400 + 3 * (k + 1) = omega arith in
    record {
      links =
          c.in_ok-push-2.ensures.items
          ∙ (λ i. c.loop.invariant.links i ++ (c.other_link.ensures.link k drawn ∙ ap (λ (d : DrawsOf). other_link d.number k) c.loop.invariant.draws) i ∷ [])
          ∙ append_assoc ring (map (other_link number) (numbers_from 0 k)) (other_link number k ∷ [])
          ∙ ap (λ (more : List Link). ring ++ more) (sym (map-numbers_more (other_link number) 0 k k (omega arith)));
      draws =
          c.other_link.ensures.after
          ∙ ap (λ (d : DrawsOf). record d { drawn = d.drawn + 3 }) c.loop.invariant.draws
          ∙ ap (λ n. record { number = number; drawn = n }) next;
    }
