use Rattle.std.proofs.Common.{ℕ, List, sym, ap, ◌∙◌}
use Rattle.feed_meaning.specs.Runs.{act}
use Rattle.feed_laws.specs.Cuts.{links_record, acted_but_pending}
use Rattle.feed_laws.proofs.LinkLemmas.{any_links}
use Rattle.feed_laws.proofs.PendingLemmas.{any_pending}
use Rattle.feed_laws.proofs.cuts.any_cut_of_the_link_state_stream.Goals as goal

pub returns : goal.returns
returns c = record {
  whole = any_links;
  pending = any_pending;
  same = λ platform piece other pieces others together.
      any_links platform piece pieces
      ∙ ap (λ (body : List ℕ). acted_but_pending (act platform (links_record body))) together
      ∙ sym (any_links platform other others);
}
