use Rattle.std.proofs.Common.{◌≡◌, ◌+◌, ◌≤◌, ◌++◌, [], Some, None, Ok, IfSome, length, take, drop, is_err, is_some, sym, ap, subst, ◌∙◌, zero-add, arith}
use Rattle.std.proofs.lemmas.List.{drop_all}
use Rattle.rcp_base.specs.OspfPackets.{Front, part, lost, front_of, packets_in, IsPacket}
use Rattle.rcp_model.specs.LinkStateUpdates.{lsas_of_packet}
use Rattle.ospf_packet.specs.Framing.{Framing}
use Rattle.igp_view.specs.Streams.{stream_of, stream_after, lost_by, lsas_by}
use Rattle.igp_view.specs.Reading.{Installs, Counts}
use Rattle.igp_view.proofs.TakingLemmas.{Taking, nothing, taking_none, taking_packet, after_whole, after_part, end_installs, end_counts, none_more_part, none_more_lost, part_lost_by, part_stream, lost_lost_by, lost_stream}
use Rattle.igp_view.proofs.intake.take_in.Goals as goal
use Rattle.igp_view.proofs.intake.take_in.Goals.{After-next, In-Ok-Some, In-Ok-None, In-Err}

pub loop-packet-init : goal.loop-packet-init
loop-packet-init c = taking_none c.args.area c.args.framer.now c.args.piece.now c.args.lsdb.now (omega (arith, c.place-place.ensures, c.place-place.type_inv)) c.requires

fed : (c : After-next) → c.feed-taken.new.self.held ≡ c.loop-packet.framer.held ++ take c.feed-taken.result c.loop-packet.rest.now
fed c = ap (λ (f : Framing). f.held) c.feed-taken.ensures.taken

place : (c : After-next) → c.feed-taken.new.self.place ≡ c.loop-packet.framer.place
place c = ap (λ (f : Framing). f.place) c.feed-taken.ensures.taken

packet_is : (c : In-Ok-Some) → (c.in-Ok-Some.packet.now ≡ c.feed-taken.new.self.held) × IsPacket c.in-Ok-Some.packet.now
packet_is c = subst (λ found. IfSome found (λ octets. (octets.now ≡ c.feed-taken.new.self.held) × IsPacket octets.now)) c.in-Ok-Some.field-0-is c.in-Ok-Some.ensures.whole

pub loop-packet-preserved : goal.loop-packet-preserved
loop-packet-preserved c =
    let at = packet_is (goal.at.loop-packet-preserved c).In-Ok-Some in
    let n = (goal.at.loop-packet-preserved c).After-next in
    let whole_one = subst IsPacket at.0 at.1 in
    subst (λ left. Taking c.args.area c.args.framer.now c.args.piece.now c.next.follows.lender-at-none left c.args.lsdb.now c.take_packet.new.lsdb c.take_packet.new.got) (sym c.split_at.ensures.back)
    (taking_packet c.args.area c.args.framer.now c.args.piece.now c.loop-packet.framer c.loop-packet.rest.now c.args.lsdb.now c.loop-packet.lsdb c.loop-packet.got c.loop-packet.invariant c.feed-taken.result
    c.feed-taken.new.self.held (fed n) c.take_packet.new.lsdb c.take_packet.new.got c.next.follows.lender-at-none whole_one
    (c.next.follows.holds-at-none ∙ after_whole c.feed-taken.new.self c.loop-packet.framer.place (place n) whole_one)
    (subst (λ octets. Installs (lsas_of_packet c.args.area octets) c.loop-packet.lsdb c.take_packet.new.lsdb) at.0 c.in_ok-take_packet-in-Ok-Some.ensures.state)
    (subst (λ octets. Counts (lsas_of_packet c.args.area octets) c.loop-packet.got c.take_packet.new.got) at.0 c.in_ok-take_packet-in-Ok-Some.ensures.counts)
    (subst (λ octets. c.take_packet.new.got.installed + c.take_packet.new.got.left_out ≤ c.loop-packet.got.installed + c.loop-packet.got.left_out + length octets) at.0 c.in_ok-take_packet-in-Ok-Some.ensures.few))

-- no packet is left, and a part of one is held
waiting : (c : In-Ok-None) → (front_of c.feed-taken.new.self.held ≡ part) × (drop c.feed-taken.result c.loop-packet.rest.now ≡ [])
waiting c =
    let is = c.next.ensures.part.0 (c.in-Ok-None.is ∙ ap Ok c.in-Ok-None.field-0-is) in
    (is, drop_all c.feed-taken.result c.loop-packet.rest.now (omega (arith, c.feed-taken.ensures.all is)))

-- the framing is lost
gone : (c : In-Err) → front_of c.feed-taken.new.self.held ≡ lost
gone c = c.next.ensures.lost.0 (ap is_err c.in-Err.is)

-- what is shown of the walk at its end
module _ (c : After-next) where
  none_part : front_of c.feed-taken.new.self.held ≡ part → drop c.feed-taken.result c.loop-packet.rest.now ≡ [] → packets_in (c.feed-taken.new.self.held ++ drop c.feed-taken.result c.loop-packet.rest.now) ≡ []
  none_part =
      none_more_part c.args.area c.args.framer.now c.args.piece.now c.loop-packet.framer c.loop-packet.rest.now c.args.lsdb.now c.loop-packet.lsdb c.loop-packet.got c.loop-packet.invariant c.feed-taken.result
      c.feed-taken.new.self.held (fed c)

  none_lost : front_of c.feed-taken.new.self.held ≡ lost → packets_in (c.feed-taken.new.self.held ++ drop c.feed-taken.result c.loop-packet.rest.now) ≡ []
  none_lost =
      none_more_lost c.args.area c.args.framer.now c.args.piece.now c.loop-packet.framer c.loop-packet.rest.now c.args.lsdb.now c.loop-packet.lsdb c.loop-packet.got c.loop-packet.invariant c.feed-taken.result
      c.feed-taken.new.self.held (fed c)

  installs : (front : Front) → front_of c.feed-taken.new.self.held ≡ front → packets_in (c.feed-taken.new.self.held ++ drop c.feed-taken.result c.loop-packet.rest.now) ≡ []
      → Installs (lsas_by c.args.area (Some c.args.framer.now) c.args.piece.now) c.args.lsdb.now c.loop-packet.lsdb
  installs =
      end_installs c.args.area c.args.framer.now c.args.piece.now c.loop-packet.framer c.loop-packet.rest.now c.args.lsdb.now c.loop-packet.lsdb c.loop-packet.got c.loop-packet.invariant c.feed-taken.result
      c.feed-taken.new.self.held (fed c)

  counts : (front : Front) → front_of c.feed-taken.new.self.held ≡ front → packets_in (c.feed-taken.new.self.held ++ drop c.feed-taken.result c.loop-packet.rest.now) ≡ []
      → Counts (lsas_by c.args.area (Some c.args.framer.now) c.args.piece.now) nothing c.loop-packet.got
  counts =
      end_counts c.args.area c.args.framer.now c.args.piece.now c.loop-packet.framer c.loop-packet.rest.now c.args.lsdb.now c.loop-packet.lsdb c.loop-packet.got c.loop-packet.invariant c.feed-taken.result
      c.feed-taken.new.self.held (fed c)

  none_lost_by : front_of c.feed-taken.new.self.held ≡ part → drop c.feed-taken.result c.loop-packet.rest.now ≡ [] → lost_by (Some c.args.framer.now) c.args.piece.now ≡ None
  none_lost_by =
      part_lost_by c.args.area c.args.framer.now c.args.piece.now c.loop-packet.framer c.loop-packet.rest.now c.args.lsdb.now c.loop-packet.lsdb c.loop-packet.got c.loop-packet.invariant c.feed-taken.result
      c.feed-taken.new.self.held (fed c)

  held_stream : front_of c.feed-taken.new.self.held ≡ part → drop c.feed-taken.result c.loop-packet.rest.now ≡ [] → Some (record { held = c.feed-taken.new.self.held; place = c.loop-packet.framer.place }) ≡ stream_after (Some c.args.framer.now) c.args.piece.now
  held_stream =
      part_stream c.args.area c.args.framer.now c.args.piece.now c.loop-packet.framer c.loop-packet.rest.now c.args.lsdb.now c.loop-packet.lsdb c.loop-packet.got c.loop-packet.invariant c.feed-taken.result
      c.feed-taken.new.self.held (fed c)

  lost_here : front_of c.feed-taken.new.self.held ≡ lost → lost_by (Some c.args.framer.now) c.args.piece.now ≡ Some c.loop-packet.framer.place
  lost_here =
      lost_lost_by c.args.area c.args.framer.now c.args.piece.now c.loop-packet.framer c.loop-packet.rest.now c.args.lsdb.now c.loop-packet.lsdb c.loop-packet.got c.loop-packet.invariant c.feed-taken.result
      c.feed-taken.new.self.held (fed c)

  no_stream : front_of c.feed-taken.new.self.held ≡ lost → None ≡ stream_after (Some c.args.framer.now) c.args.piece.now
  no_stream =
      lost_stream c.args.area c.args.framer.now c.args.piece.now c.loop-packet.framer c.loop-packet.rest.now c.args.lsdb.now c.loop-packet.lsdb c.loop-packet.got c.loop-packet.invariant c.feed-taken.result
      c.feed-taken.new.self.held (fed c)

pub returns-in-Ok-None-clause-state : goal.returns-in-Ok-None-clause-state
returns-in-Ok-None-clause-state c =
    let w = waiting (goal.at.returns-in-Ok-None-clause-state c).In-Ok-None in
    let n = (goal.at.returns-in-Ok-None-clause-state c).After-next in
    installs n part w.0 (none_part n w.0 w.1)

pub returns-in-Ok-None-clause-installed : goal.returns-in-Ok-None-clause-installed
returns-in-Ok-None-clause-installed c =
    let w = waiting (goal.at.returns-in-Ok-None-clause-installed c).In-Ok-None in
    let n = (goal.at.returns-in-Ok-None-clause-installed c).After-next in
    (counts n part w.0 (none_part n w.0 w.1)).installed ∙ zero-add _

pub returns-in-Ok-None-clause-left_out : goal.returns-in-Ok-None-clause-left_out
returns-in-Ok-None-clause-left_out c =
    let w = waiting (goal.at.returns-in-Ok-None-clause-left_out c).In-Ok-None in
    let n = (goal.at.returns-in-Ok-None-clause-left_out c).After-next in
    (counts n part w.0 (none_part n w.0 w.1)).left_out ∙ zero-add _

pub returns-in-Ok-None-clause-lost : goal.returns-in-Ok-None-clause-lost
returns-in-Ok-None-clause-lost c =
    let w = waiting (goal.at.returns-in-Ok-None-clause-lost c).In-Ok-None in
    let n = (goal.at.returns-in-Ok-None-clause-lost c).After-next in
    c.loop-packet.invariant.counts.lost ∙ sym (none_lost_by n w.0 w.1)

pub returns-in-Ok-None-clause-stream : goal.returns-in-Ok-None-clause-stream
returns-in-Ok-None-clause-stream c =
    let w = waiting (goal.at.returns-in-Ok-None-clause-stream c).In-Ok-None in
    let n = (goal.at.returns-in-Ok-None-clause-stream c).After-next in
    ap (λ o. stream_of (is_some o) c.next.follows.lender-at-none) c.loop-packet.invariant.counts.lost
    ∙ ap Some (c.next.follows.holds-at-none ∙ after_part c.feed-taken.new.self w.0 ∙ ap (λ place. record { held = c.feed-taken.new.self.held; place = place }) (place n))
    ∙ held_stream n w.0 w.1

pub returns-in-Err-clause-state : goal.returns-in-Err-clause-state
returns-in-Err-clause-state c =
    let is = gone (goal.at.returns-in-Err-clause-state c).In-Err in
    let n = (goal.at.returns-in-Err-clause-state c).After-next in
    installs n lost is (none_lost n is)

pub returns-in-Err-clause-installed : goal.returns-in-Err-clause-installed
returns-in-Err-clause-installed c =
    let is = gone (goal.at.returns-in-Err-clause-installed c).In-Err in
    let n = (goal.at.returns-in-Err-clause-installed c).After-next in
    (counts n lost is (none_lost n is)).installed ∙ zero-add _

pub returns-in-Err-clause-left_out : goal.returns-in-Err-clause-left_out
returns-in-Err-clause-left_out c =
    let is = gone (goal.at.returns-in-Err-clause-left_out c).In-Err in
    let n = (goal.at.returns-in-Err-clause-left_out c).After-next in
    (counts n lost is (none_lost n is)).left_out ∙ zero-add _

pub returns-in-Err-clause-lost : goal.returns-in-Err-clause-lost
returns-in-Err-clause-lost c =
    let is = gone (goal.at.returns-in-Err-clause-lost c).In-Err in
    let n = (goal.at.returns-in-Err-clause-lost c).After-next in
    ap Some (c.in-Err.ensures.place ∙ place n) ∙ sym (lost_here n is)

pub returns-in-Err-clause-stream : goal.returns-in-Err-clause-stream
returns-in-Err-clause-stream c =
    no_stream (goal.at.returns-in-Err-clause-stream c).After-next (gone (goal.at.returns-in-Err-clause-stream c).In-Err)
