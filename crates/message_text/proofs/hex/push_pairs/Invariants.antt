-- The text so far, and the digits of the octets left, are the whole text.
use Rattle.std.proofs.Common.{◌≡◌, ◌++◌, drop}
use Rattle.line_words.specs.Words.{hex_pairs}
use Rattle.message_text.proofs.hex.push_pairs.Given as goal

abbrev pub invariant-loop-octet : goal.invariant-loop-octet
invariant-loop-octet l = l.text.items ++ hex_pairs (drop l.octet-index l.octets) ≡ l.fn.text.items ++ hex_pairs l.octets
