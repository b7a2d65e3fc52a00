use Rattle.std.proofs.Common.{◌≡◌, ◌++◌, ◌+◌, ◌*◌, ◌∙◌, length, ap, arith}
use Rattle.std.specs.List.{flat_map}
use Rattle.rcp_model.specs.LinkState.{RouterLsa}
use Rattle.lsa_reader.specs.Writing.{header_octets, link_octets}
use Rattle.lsa_reader.proofs.Spelling.{Spells-from_zero, links_more, all_written}
use Rattle.lsa_reader.proofs.writing.fill.Goals as goal

pub loop-i-preserved : goal.loop-i-preserved
loop-i-preserved c =
    links_more (header_octets 0 0 c.args.lsa.now) _ _ _ c.deref-link-items.result.now c.loop-i.i _ c.loop-i-test.true
    c.link-item.is c.link_octets.ensures c.loop-i.invariant c.put-in-loop-i.ensures

pub returns : goal.returns
returns c =
    let header = header_octets 0 0 c.args.lsa.now in
    let links : c.deref-link-items.result.now ≡ c.args.lsa.now.content =
    c.deref-link-items.ensures.value ∙ ap (λ (l : RouterLsa). l.content) c.lsa.view_is in
    let count = ap length links in
    let exact : length c.loop-i.out ≡ 24 + 12 * length c.deref-link-items.result.now = omega (arith, count) in
    let out = all_written header c.loop-i.out c.deref-link-items.result.now c.loop-i.i exact c.loop-i.auto.i-end c.loop-i-test.false c.loop-i.invariant
    ∙ ap (λ ls. header ++ flat_map link_octets ls) links in
    Spells-from_zero c.args.lsa.now c.loop-i.out c.split_at.result.1.now _ _ out c.split_at.ensures.back
    c.checksum-high.ensures.high c.checksum-high.ensures.low c.checksum-high.ensures.first c.checksum-high.ensures.second
