use Rattle.std.proofs.Common.{◌≡◌, ◌++◌, ◌+◌, ◌-◌, ◌∷◌, [], ◌∙◌, true, is_ok, ap, sym, arith}
use Rattle.std.specs.Option.{ok_or}
use Rattle.rcp_model.specs.declared.lsa_fault.LsaFault.TheVariants.{Links}
use Rattle.rcp_model.specs.RouterLsas.{links_in}
use Rattle.lsa_reader.proofs.LinkLists.{with_front, links_in-one, links_in-none, first_whole}
use Rattle.lsa_reader.proofs.reading.read_links.Goals as goal

pub returns-in_default-clause-gives : goal.returns-in_default-clause-gives
returns-in_default-clause-gives c =
    ap (λ links. ok_or links Links)
    (sym c.loop-read.invariant.links ∙ links_in-none c.loop-read.links.items c.args.count c.loop-read._read _ c.loop-read-test.true c.in_default.ensures)

pub loop-read-preserved : goal.loop-read-preserved
loop-read-preserved c =
    let was_ok : is_ok c.push.result ≡ true = grind arith in
    let pushed : c.push.new.self.items ≡ c.loop-read.links.items ++ c.in-Some.front.0 ∷ [] = rw was_ok at c.push.ensures.items in
    record {
      links =
          ap (λ links. with_front links (links_in (c.args.count - (c.loop-read._read + 1)) c.in-Some.front.1.now)) pushed
          ∙ sym (links_in-one c.loop-read.links.items c.args.count c.loop-read._read _ _ _ c.loop-read-test.true c.in-Some.ensures)
          ∙ c.loop-read.invariant.links;
      at_first = λ zero. absurd (omega arith);
      later = λ _. first_whole c.loop-read._read _ c.args.bytes.now _ c.loop-read.invariant.at_first c.loop-read.invariant.later c.in-Some.ensures;
    }

pub returns-then-is_err-clause-no_memory : goal.returns-then-is_err-clause-no_memory
returns-then-is_err-clause-no_memory c = λ _. record {
  counted = omega (arith, c.loop-read-test.true);
  whole = first_whole c.loop-read._read _ c.args.bytes.now _ c.loop-read.invariant.at_first c.loop-read.invariant.later c.in-Some.ensures;
}
