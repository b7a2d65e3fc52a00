-- Seats that have the mailboxes that they are named for.
use Rattle.std.proofs.Common.{◌≡◌, ◌⊎◌, ℕ, zero, suc, ◌+◌, ◌<◌, List, [], ◌∷◌, ◌++◌, length, map, Some, slice_get, slice_index_or, refl, sym, ap, subst, ◌∙◌, inl, inr, arith}
use Rattle.std.proofs.lemmas.List.{length-map}
use Rattle.std.proofs.lemmas.Simd.{map-map}
use Rattle.std.proofs.lemmas.Option.{get_or_from_slice_get}
use Rattle.atomic_table.specs.Seated.{TableId}
use Rattle.mailbox.specs.Boxes.{mailbox_of}
use Rattle.seats.specs.Ends.{SenderOf, sender_of, receiver_of}
use Rattle.seats.specs.Mails.{Mail}
use Rattle.seats.specs.Seats.{SeatOf, IsOffered}
use Rattle.daemon_parts.specs.Parts.{AreOfSlot}
use Rattle.daemon_parts.specs.declared.parts.SeatEnds.{SeatEnds}
use Rattle.rcpd_run.specs.Names.{AreNamed, shard_mailboxes_of, offer_mailbox_of}

-- ---- a seat more

get_more : {A : Type 0} (xs : List A) (more x : A) (k : ℕ) → slice_get (xs ++ more ∷ []) k ≡ Some x → (slice_get xs k ≡ Some x) ⊎ ((k ≡ length xs) × (more ≡ x))
get_more [] more x zero is = inr (refl, cc)
get_more [] more x (suc k) is = absurd cc
get_more (y ∷ xs) more x zero is = inl is
get_more (y ∷ xs) more x (suc k) is = elim (get_more xs more x k is) [
  | inl before ↦ inl before
  | inr last ↦ inr (ap suc last.0, last.1)
]

pub offered_on : (shards : ℕ → List TableId) (offers : ℕ → TableId) (place : ℕ) (seats after : List SeatOf) (new : SeatOf) → length seats ≡ place → after ≡ seats ++ new ∷ []
    → IsOffered shards offers place new → ((slot : ℕ) (seat : SeatOf) → slice_get seats slot ≡ Some seat → IsOffered shards offers slot seat)
    → (slot : ℕ) (seat : SeatOf) → slice_get after slot ≡ Some seat → IsOffered shards offers slot seat
offered_on shards offers place seats after new count put is so_far slot seat at =
    elim (get_more seats new seat slot (ap (λ (l : List SeatOf). slice_get l slot) (sym put) ∙ at)) [
      | inl before ↦ so_far slot seat before
      | inr last ↦ subst (λ (n : ℕ). IsOffered shards offers n seat) (sym (last.0 ∙ count)) (subst (IsOffered shards offers place) last.1 is)
    ]

pub front_at : (place : ℕ) (all rest tail : List SeatEnds) (front : SeatEnds) → rest ≡ front ∷ tail → ((k : ℕ) → slice_get rest k ≡ slice_get all (place + k)) → slice_get all place ≡ Some front
front_at place all rest tail front is at = ap (slice_get all) (omega arith) ∙ sym (at 0) ∙ ap (λ (l : List SeatEnds). slice_get l 0) is

pub rest_on : (place : ℕ) (all rest tail : List SeatEnds) (front : SeatEnds) → rest ≡ front ∷ tail → ((k : ℕ) → slice_get rest k ≡ slice_get all (place + k))
    → (k : ℕ) → slice_get tail k ≡ slice_get all (place + 1 + k)
rest_on place all rest tail front is at k = ap (λ (l : List SeatEnds). slice_get l (suc k)) (sym is) ∙ at (suc k) ∙ ap (slice_get all) (omega arith)

pub ends_at : (all : List SeatEnds) (slot shards : ℕ) (front : SeatEnds) → slice_get all slot ≡ Some front
    → ((n : ℕ) (seat : SeatEnds) → n < length all → AreOfSlot n shards (slice_index_or all n seat).shards.items) → slot < length all → AreOfSlot slot shards front.shards.items
ends_at all slot shards front is of within =
    subst (λ (seat : SeatEnds). AreOfSlot slot shards seat.shards.items) (get_or_from_slice_get all slot front front is) (of slot front within)

pub seat_offered : (places : ℕ) (shards : ℕ → List TableId) (offers : ℕ → TableId) (all : List SeatEnds) (slot count : ℕ) (ends : SeatEnds) (seat : SeatOf)
    → AreNamed places shards offers all → slice_get all slot ≡ Some ends → AreOfSlot slot count ends.shards.items
    → seat ≡ record { slot = slot; generation = 0; senders = map sender_of ends.shards.items; offers = receiver_of ends.offers } → IsOffered shards offers slot seat
seat_offered places shards offers all slot count ends seat named is of made = subst (IsOffered shards offers slot) (sym made) (record {
  at = refl;
  named = record {
    each = map-map (λ (s : SenderOf Mail). s.mailbox) sender_of ends.shards.items ∙ sym (named.shards_are slot ∙ ap shard_mailboxes_of is);
    receiver = sym (named.offers_are slot ∙ ap offer_mailbox_of is);
  };
  unused = of.unused;
})

-- ---- the names of a list of seats

some_at : {A : Type 0} (xs : List A) (k : ℕ) → k < length xs → (x : A) × (slice_get xs k ≡ Some x)
some_at [] k within = absurd (omega (arith, within))
some_at (x ∷ xs) zero within = (x, refl)
some_at (x ∷ xs) (suc k) within = some_at xs k (omega (arith, within))

pub named_length : (places : ℕ) (shards : ℕ → List TableId) (offers : ℕ → TableId) (all : List SeatEnds) (count slot : ℕ) → AreNamed places shards offers all
    → ((n : ℕ) (seat : SeatEnds) → n < length all → AreOfSlot n count (slice_index_or all n seat).shards.items) → slot < places → length (shards slot) ≡ count
named_length places shards offers all count slot named of within =
    let inside : slot < length all = subst (λ (n : ℕ). slot < n) (sym named.count) within in
    let found = some_at all slot inside in
    ap length (named.shards_are slot ∙ ap shard_mailboxes_of found.1) ∙ length-map found.0.shards.items mailbox_of ∙ (ends_at all slot count found.0 found.1 of inside).count
