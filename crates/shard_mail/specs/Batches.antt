-- Batches of offers, and the UPDATEs that are written for them.
use Rattle.std.specs.Prelude.{◌≡◌, ℕ, ◌≤◌, ◌==◌, ◌⊎◌, List, [], ◌++◌, length, map, filter, fold, if◌then◌else◌}
use Rattle.std.specs.BTreeMap.{insert_entry}
use Rattle.rcp_base.specs.IpPrefix.{IpPrefix, prefix_cmp}
use Rattle.rcp_model.specs.Routes.{OfferFields}
use Rattle.rcp_model.specs.Packing.{packed}
use Rattle.update_pack.specs.Shown.{cell_of}
use Rattle.outside.specs.Told.{Rose}
use Rattle.outbox.specs.Wires.{HasNotFallen}
use Rattle.seats.specs.Seats.{SeatOf}
use Rattle.shard_mail.specs.Puts.{IsSameSeat}

-- ---- the UPDATEs of a batch

-- the offers by rising prefix; where a prefix stands twice the last one counts
abbrev pub entries_of : List OfferFields → List (IpPrefix × OfferFields)
entries_of offers = fold (λ entries (offer : OfferFields). insert_entry prefix_cmp entries offer.prefix offer) [] offers

abbrev pub latest_of : List OfferFields → List OfferFields
latest_of offers = map (λ (entry : IpPrefix × OfferFields). entry.1) (entries_of offers)

-- the UPDATEs of a batch
abbrev pub updates_of : List OfferFields → List (List ℕ)
updates_of offers = packed (map cell_of (latest_of offers))

-- of the offers that were taken, each with the number of its shard, those of a generation
abbrev pub own_offers : ℕ → List (ℕ × OfferFields) → List OfferFields
own_offers generation taken = filter (λ (offer : OfferFields). offer.generation == generation) (map (λ (t : ℕ × OfferFields). t.1) taken)

-- an offer is kept, if it is of this generation
abbrev pub with_offer : ℕ → List (IpPrefix × OfferFields) → OfferFields → List (IpPrefix × OfferFields)
with_offer generation entries offer = if offer.generation == generation then insert_entry prefix_cmp entries offer.prefix offer else entries

-- ---- what is taken

-- These offers were taken by the seat, at most 1,024, and nothing was put.
pub record Takes (taken : List (ℕ × OfferFields)) (old new : SeatOf) : Type 0 where
  pub same : IsSameSeat old new
  pub senders : new.senders ≡ old.senders
  pub received : new.offers.received ≡ old.offers.received ++ taken
  pub empties : HasNotFallen old.offers.empties new.offers.empties
  pub few : length taken ≤ 1024

-- offers were taken until there was none, or 1,024
abbrev pub TookAll : List (ℕ × OfferFields) → SeatOf → SeatOf → Type 0
TookAll taken old new = (1024 ≤ length taken) ⊎ Rose old.offers.empties new.offers.empties
