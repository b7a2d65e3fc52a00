use Rattle.std.proofs.Common.{◌≡◌, ◌<◌, ◌∙◌, ◌++◌, ℕ, List, ap, sym, subst, arith}
use Rattle.std.proofs.lemmas.List.Elements.{All-from_get_or}
use Rattle.feed_words.specs.Joining.{octets_line}
use Rattle.feed_text.specs.Turns.{Spells}
use Rattle.feed_text.proofs.printer.Printer.octets.Goals as goal

pub returns : goal.returns
returns c =
    let octets = c.args.octets.now in
    let line : c.push_octets_line.new.text.items ≡ octets_line c.args.octets.now = c.in_ok-push_octets_line.ensures ∙ ap (λ (text : List ℕ). text ++ octets_line c.args.octets.now) c.clear.ensures.items in
    subst (λ (text : List ℕ). Spells text c.args.octets.now) (sym line) (record {
      reads = c.octets_are_read_again.ensures.again octets (All-from_get_or (λ octet. octet < 256) octets 0 (λ i lt. omega (arith, lt, c.type_inv.octets i))) (omega (arith, c.requires));
      ends = c.octets_are_read_again.ensures.ends octets;
    })
