-- The text left, after the state and the octets so far, gives what the whole text gives.
use Rattle.std.proofs.Common.{◌≡◌, drop}
use Rattle.feed_words.specs.declared.roster_text.Escape.TheVariants as escape
use Rattle.feed_words.specs.Texts.{unescaped_onto}
use Rattle.feed_words.proofs.roster_text.push_unescaped.Given as goal

abbrev pub invariant-loop-c : goal.invariant-loop-c
invariant-loop-c l = unescaped_onto (drop l.c-index l.text) l.state l.out.items ≡ unescaped_onto l.text escape.Plain l.fn.out.items
