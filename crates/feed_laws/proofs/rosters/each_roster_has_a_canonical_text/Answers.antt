use Rattle.std.proofs.Common.{sym, ap, ◌∙◌}
use Rattle.rcp_base.specs.Roster.{roster_of}
use Rattle.feed_laws.proofs.RosterTextLemmas.{text-read}
use Rattle.feed_laws.proofs.RosterFormLemmas.{read-form}
use Rattle.feed_laws.proofs.rosters.each_roster_has_a_canonical_text.Goals as goal

pub returns : goal.returns
returns c = record {
  form = read-form;
  again = λ text roster is. text-read roster (read-form text roster is);
  one = λ roster other is_one is_other same.
      let read = sym (text-read roster is_one) ∙ ap roster_of same ∙ text-read other is_other in cc;
}
