use Rattle.std.proofs.Common.{ℕ, List, ◌∷◌, map, sym, ap, ◌∙◌}
use Rattle.feed_meaning.specs.Runs.{act}
use Rattle.feed_laws.specs.Cuts.{octets_record}
use Rattle.feed_laws.proofs.RunLemmas.{run_within}
use Rattle.feed_laws.proofs.ConnectionLemmas.{any_records}
use Rattle.feed_laws.proofs.cuts.any_cut_of_a_connection.Goals as goal

pub returns : goal.returns
returns c = record {
  whole = any_records;
  same = λ platform number piece other pieces others before later together.
      run_within platform before (map (octets_record number) (piece ∷ pieces)) (map (octets_record number) (other ∷ others)) later
      (λ now. any_records now number piece pieces ∙ ap (λ (body : List ℕ). act now (octets_record number body)) together ∙ sym (any_records now number other others));
}
