use Rattle.std.proofs.Common.{◌≡◌, ◌-◌, length, take, drop, refl, sym, ap, ◌∙◌, arith}
use Rattle.std.proofs.lemmas.List.{length-drop, take_all}
use Rattle.bgp_fault.specs.declared.Data.TheVariants.{None as NoData}
use Rattle.rcp_model.specs.Attributes.{attribute_of, attribute_size}
use Rattle.path_attrs.proofs.Judging.{own_fault-anywhere}
use Rattle.path_attrs.proofs.reading.next_piece.Goals as goal

pub returns-in-None-clause-piece : goal.returns-in-None-clause-piece
returns-in-None-clause-piece c =
    let rest : take (length c.args.body.now - c.args.place) (drop c.args.place c.args.body.now) ≡ drop c.args.place c.args.body.now = take_all _ _ (omega (arith, length-drop c.args.place c.args.body.now)) in
    record {
      whole = ap attribute_size (sym rest) ∙ c.in-Some.ensures.size;
      taken = c.in-Some.ensures.piece ∙ ap (take (length c.in-Some.piece.now)) rest;
      marked = rw c.from-kind.ensures refl;
      long = c.in-Some.ensures.long;
      header = c.in-Some.ensures.header;
      faultless = own_fault-anywhere (attribute_of c.in-Some.piece.now) _ NoData (sym c.in-None.ensures);
    }
