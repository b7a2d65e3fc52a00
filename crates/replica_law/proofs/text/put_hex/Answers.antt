use Rattle.std.proofs.Common.{ℕ, ◌++◌, ◌∷◌, [], get_or, sym, ◌∙◌, append_assoc}
use Rattle.std.proofs.lemmas.Option.{slice_get-get_or, get_or_from_slice_get}
use Rattle.replica_law.specs.Texts.{space, hex_of, hex_text}
use Rattle.replica_law.proofs.TextLemmas.{pieces_more, pieces_all, hex_more}
use Rattle.replica_law.proofs.text.put_hex.Goals as goal

pub loop-octet-preserved : goal.loop-octet-preserved
loop-octet-preserved c =
    let x : ℕ = get_or c.args.octets.now c.loop-octet.octet-index 0 in
    pieces_more hex_of (c.args.text.now.items ++ space ∷ []) c.loop-octet.text.items c.push-in-loop-octet-2.new.self.items c.args.octets.now c.loop-octet.octet-index x c.loop-octet.invariant c.loop-octet-test.true
    (sym (get_or_from_slice_get c.args.octets.now c.loop-octet.octet-index x x (slice_get-get_or c.args.octets.now c.loop-octet.octet-index 0 c.loop-octet-test.true)))
    (hex_more c.loop-octet.text.items c.push-in-loop-octet.new.self.items c.push-in-loop-octet-2.new.self.items x c.hex_digit.result c.hex_digit-in-loop-octet.result c.in_ok-push-2.ensures.items
    c.in_ok-push-3.ensures.items c.hex_digit.ensures c.hex_digit-in-loop-octet.ensures)

pub returns : goal.returns
returns c =
    pieces_all hex_of (c.args.text.now.items ++ space ∷ []) c.loop-octet.text.items c.args.octets.now c.loop-octet.octet-index c.loop-octet.invariant c.loop-octet-test.false
    ∙ append_assoc c.args.text.now.items (space ∷ []) (hex_text c.args.octets.now)
