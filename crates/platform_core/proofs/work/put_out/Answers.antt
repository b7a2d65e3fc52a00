use Rattle.std.proofs.Common.{◌<◌, length, ◌∙◌, arith, refl}
use Rattle.std.proofs.lemmas.List.{length_push}
use Rattle.std.proofs.lemmas.Iterator.Adapters.{YieldsList-from_vec}
use Rattle.std.proofs.lemmas.Iterator.Consumers.{YieldsList-turn}
use Rattle.platform_core.proofs.WorkLemmas.{put_more, put_nothing}
use Rattle.platform_core.proofs.work.put_out.Goals as goal

pub loop-messages-init : goal.loop-messages-init
loop-messages-init c = record { place = refl; out = put_nothing c.args.numbers.now c.args.out.now }

pub loop-messages-preserved : goal.loop-messages-preserved
loop-messages-preserved c =
    let t = YieldsList-turn (YieldsList-from_vec {s = c.into_iter-messages-iterator.result} c.args.lists.items c.into_iter-messages-iterator.ensures.into_iter_gives.0 (c.into_iter-messages-iterator.ensures.into_iter_gives.1 ∙ c.args.lists.ok.0)) c.loop-messages.yielded c.loop-messages.messages-iterator c.loop-messages.yielded_by c.next.result c.next.new.self c.in-Some.messages c.in-Some.is c.next.ensures.steps in
    let inv = c.loop-messages.invariant in
    let less : length c.loop-messages.yielded < length c.args.numbers.now = omega (arith, t.0, c.requires.each) in
    record {
      place = omega (arith, inv.place, length_push c.loop-messages.yielded c.in-Some.messages);
      out = put_more c.args.numbers.now c.loop-messages.yielded c.in-Some.messages c.loop-messages.place c.args.out.now c.loop-messages.out c.add_messages.new.self inv.place less inv.out c.in_ok-add_messages.ensures;
    }
