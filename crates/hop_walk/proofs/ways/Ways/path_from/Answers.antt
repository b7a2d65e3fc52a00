use Rattle.hop_walk.proofs.StepLemmas.{next_reached, next_smaller, path_goes_on, path_ends}
use Rattle.hop_walk.proofs.ways.Ways.path_from.Goals as goal

pub loop-next-smaller : goal.loop-next-smaller
loop-next-smaller c = next_smaller c.args.self.now.edges c.loop-next.at c.in-Some.next c.args.self.now.end c.requires.positive c.in-Some.ensures.next

pub loop-next-preserved : goal.loop-next-preserved
loop-next-preserved c = record {
  reached = next_reached c.args.self.now.edges c.loop-next.at c.in-Some.next c.args.self.now.end c.in-Some.ensures.next;
  so_far = path_goes_on c.args.self.now.edges c.args.router c.loop-next.at c.in-Some.next c.args.self.now.end c.loop-next.path.items c.push-in-Some.new.self.items c.in-Some.ensures c.loop-next.invariant.so_far
      c.in_ok-push-2.ensures.items;
}

pub returns : goal.returns
returns c = path_ends c.args.self.now.edges c.args.router c.loop-next.at c.args.self.now.end c.loop-next.path.items c.loop-next.invariant.reached c.in_default.ensures c.loop-next.invariant.so_far
