-- So many offers were taken, and those of the generation are kept.
use Rattle.std.proofs.Common.{◌≡◌, ℕ, List, length}
use Rattle.rcp_model.specs.Routes.{OfferFields}
use Rattle.shard_mail.specs.Batches.{Takes, entries_of, own_offers}
use Rattle.shard_mail.proofs.batch.take_offers.Given as goal

abbrev pub invariant-loop-taken : goal.invariant-loop-taken
invariant-loop-taken g l =
    (taken : List (ℕ × OfferFields)) × (length taken ≡ l.taken) × Takes taken l.initial.seat l.seat × (l.batch.entries ≡ entries_of (own_offers l.initial.seat.generation taken))
