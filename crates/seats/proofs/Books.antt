-- The book of seats.
use Rattle.std.proofs.Common.{◌≡◌, ◌≢◌, ℕ, ◌+◌, ◌<◌, ◌≤◌, Bool, true, false, cond, List, length, set, get_or, slice_index_or, slice_set, nat_lt, Option, Some, None, All, refl, sym, ap, ◌∙◌, subst, arith, inl, inr, map, slice_get, unwrap_or}
use Rattle.std.specs.Option.{option_map}
use Rattle.std.proofs.lemmas.Option.{slice_get-map, unwrap_or-slice_get}
use Rattle.std.proofs.lemmas.Bool.Decides.{eqb_tells}
use Rattle.std.proofs.lemmas.List.{get_or-set_same, get_or-set_other, length-set, length-map}
use Rattle.atomic_table.specs.Seated.{TableId}
use Rattle.rcp_model.specs.declared.rcs_mail.ShardMail.TheVariants as mail
use Rattle.seats.specs.Mails.{Mail, is_up, IsWithin, IsBelow}
use Rattle.seats.specs.Ends.{SenderOf}
use Rattle.seats.specs.Seats.{SeatOf, IsBook, IsResting, IsClaimed, IsOffered, IsLater, IsLatest, taken_of, place_of, next_generation, WORN_OUT}

-- an `Up` of a generation at most is below the next
below : (generation : ℕ) (m : Mail) → IsWithin generation m → IsBelow (generation + 1) m
below generation (mail.Up slot of_up) within = omega arith
below generation (mail.Down slot) within = tt
below generation (mail.Announce slot prefix route) within = tt
below generation (mail.Withdraw slot prefix) within = tt
below generation (mail.View view) within = tt

within : (generation : ℕ) (m : Mail) → IsBelow generation m → IsWithin generation m
within generation (mail.Up slot of_up) lower = omega arith
within generation (mail.Down slot) lower = tt
within generation (mail.Announce slot prefix route) lower = tt
within generation (mail.Withdraw slot prefix) lower = tt
within generation (mail.View view) lower = tt

-- a seat by which nothing was put since it was claimed can rest again
pub rests : (shards : ℕ → List TableId) (offers : ℕ → TableId) (slot : ℕ) (seat : SeatOf) → IsClaimed shards offers slot seat → IsResting shards offers seat
rests shards offers slot seat claimed = record {
  named = record { each = claimed.named.each; receiver = claimed.named.receiver };
  down = claimed.down;
  latest = λ k d in' j e within'. within seat.generation _ (claimed.later k d in' j e within');
}

later : (seat : SeatOf) → IsLatest seat → IsLater (next_generation seat)
later seat latest k d in' j e within = below seat.generation _ (latest k d in' j e within)

module _ (places : ℕ) (shards : ℕ → List TableId) (offers : ℕ → TableId) (seats : List (Option SeatOf)) (book : IsBook places shards offers seats) where
  -- a seat that is taken for its next session was just claimed
  pub claimed : (slot : ℕ) (seat : SeatOf) → place_of seats slot ≡ Some seat → IsClaimed shards offers slot (next_generation seat)
  claimed slot seat at =
      let rests = book.resting slot seat at in
      record { at = book.slots slot seat at; named = record { each = rests.named.each; receiver = rests.named.receiver }; down = rests.down; later = later seat rests.latest }

  module _ (slot : ℕ) (place : Option SeatOf) (here : slot < length seats)
      (fits : (seat : SeatOf) → place ≡ Some seat → (seat.slot ≡ slot) × IsResting shards offers seat) where
    at_place : (other : ℕ) (seat : SeatOf) → place_of (slice_set seats slot place) other ≡ Some seat → (seat.slot ≡ other) × IsResting shards offers seat
    at_place other seat is = elim (eqb_tells other slot) [
      | inl same ↦ at_same same.1
      | inr differs ↦ at_other (sym (get_or-set_other seats slot other place None differs.1) ∙ is)
    ] where
      at_same : other ≡ slot → (seat.slot ≡ other) × IsResting shards offers seat
      at_same same =
          let found : place ≡ Some seat = sym (get_or-set_same seats slot place None here) ∙ (ap (place_of (slice_set seats slot place)) (sym same) ∙ is) in
          ((fits seat found).0 ∙ sym same, (fits seat found).1)

      at_other : place_of seats other ≡ Some seat → (seat.slot ≡ other) × IsResting shards offers seat
      at_other at = (book.slots other seat at, book.resting other seat at)

    -- a book with another seat in a place, which is that of its slot and rests
    pub book-set : IsBook places shards offers (slice_set seats slot place)
    book-set = record {
      count = length-set seats slot place ∙ book.count;
      slots = λ other seat is. (at_place other seat is).0;
      resting = λ other seat is. (at_place other seat is).1;
    }

  -- the place of a slot is empty
  pub book-none : (slot : ℕ) (place : Option SeatOf) → slot < length seats → place ≡ None → IsBook places shards offers (slice_set seats slot place)
  book-none slot place here none = book-set slot place here (λ seat is. let no : None ≡ Some seat = sym none ∙ is in absurd cc)

  -- the seat of a slot is back in its place
  pub book-some : (slot : ℕ) (seat : SeatOf) → slot < length seats → seat.slot ≡ slot → IsResting shards offers seat → IsBook places shards offers (slice_set seats slot (Some seat))
  book-some slot seat here at rests = book-set slot (Some seat) here (λ other is. let same : seat ≡ other = cc in
      (ap (λ (s : SeatOf). s.slot) (sym same) ∙ at, subst (IsResting shards offers) same rests))

flat : (o : Option SeatOf) → unwrap_or (option_map (λ seat. Some seat) o) None ≡ o
flat None = refl
flat (Some seat) = refl

-- the book of seats that are put into their places
pub book-new : (places : ℕ) (shards : ℕ → List TableId) (offers : ℕ → TableId) (seats : List SeatOf)
    → length seats ≡ places → ((slot : ℕ) (seat : SeatOf) → slice_get seats slot ≡ Some seat → IsOffered shards offers slot seat)
    → IsBook places shards offers (map (λ seat. Some seat) seats)
book-new places shards offers seats count each = record {
  count = length-map seats (λ seat. Some seat) ∙ count;
  slots = λ slot seat at. (each slot seat (found slot seat at)).at;
  resting = λ slot seat at. resting seat (each slot seat (found slot seat at));
} where
  found : (slot : ℕ) (seat : SeatOf) → place_of (map (λ seat. Some seat) seats) slot ≡ Some seat → slice_get seats slot ≡ Some seat
  found slot seat at =
      sym (flat (slice_get seats slot))
      ∙ (ap (λ place. unwrap_or place None) (sym (slice_get-map (λ seat. Some seat) seats slot)) ∙ (unwrap_or-slice_get (map (λ seat. Some seat) seats) slot None ∙ at))

  resting : {slot : ℕ} (seat : SeatOf) → IsOffered shards offers slot seat → IsResting shards offers seat
  resting seat offered = record {
    named = record { each = offered.named.each; receiver = offered.named.receiver };
    down = λ k d in'. ap is_up (offered.unused k d in');
    latest = λ k d in'. let P : List Mail → Type 0 = λ mails. All (IsWithin seat.generation) mails in subst P (sym (offered.unused k d in')) (λ j e none. absurd (omega arith));
  }
