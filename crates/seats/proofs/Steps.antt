-- The steps of a seat.
use Rattle.std.proofs.Common.{◌≡◌, ℕ, ◌<◌, ◌++◌, ◌∷◌, [], List, length, map, set, get_or, slice_index_or, slice_set, All, refl, sym, ap, ◌∙◌, subst}
use Rattle.std.proofs.lemmas.List.{map-set, get_or-map, length-map}
use Rattle.std.proofs.lemmas.List.Elements.{All-set}
use Rattle.rcp_model.specs.Routes.{OfferFields}
use Rattle.mailbox.specs.declared.ends.Sender.{Sender}
use Rattle.mailbox.specs.Boxes.{counted, sent, refusals_of, number_of, capacity_of, IsSameSender, WasFull}
use Rattle.seats.specs.Mails.{Mail}
use Rattle.seats.specs.Ends.{SenderOf, ReceiverOf, sender_of}
use Rattle.seats.specs.Seats.{SeatOf, IsNumbered, no_sender, sender_at, sent_at, put_to, refused_by}

-- a step keeps which sender it is
stepped : (old new : Sender Mail) (put : List Mail) (refusals : ℕ) → IsSameSender old new → sent new ≡ put → refusals_of new ≡ refusals
    → sender_of new ≡ record (sender_of old) { sent = put; refusals = refusals }
stepped old new put refusals same is count i = record {
  mailbox = same.mailbox i;
  number = same.number i;
  sent = is i;
  refusals = count i;
  room = same.room i;
}

-- what contracts see of a seat with these senders
abbrev seen : ℕ → ℕ → List (Sender Mail) → ReceiverOf OfferFields → SeatOf
seen slot generation senders offers = record { slot = slot; generation = generation; senders = map sender_of senders; offers = offers }

module _ (senders : List (Sender Mail)) (shard : ℕ) (here : shard < length (map sender_of senders)) (old : Sender Mail) (at : get_or senders shard old ≡ old) where
  within : shard < length senders
  within = subst (λ n. shard < n) (length-map senders sender_of) here

  -- the sender of a shard, as contracts see it
  seen_at : slice_index_or (map sender_of senders) shard no_sender ≡ sender_of old
  seen_at = get_or-map sender_of senders shard old no_sender within ∙ ap sender_of at

  -- each sender has the number of its slot still
  pub numbered : (new : Sender Mail) (slot : ℕ) → number_of new ≡ number_of old → IsNumbered slot (map sender_of senders) → IsNumbered slot (map sender_of (slice_set senders shard new))
  numbered new slot same all =
      let P : SenderOf Mail → Type 0 = λ s. s.number ≡ slot in
      subst (All P) (sym (map-set sender_of senders shard new)) (All-set P (map sender_of senders) shard (sender_of new) (same ∙ (ap (λ (s : SenderOf Mail). s.number) (sym seen_at) ∙ all shard no_sender here)) all)

  module _ (slot generation : ℕ) (offers : ReceiverOf OfferFields) (seat : SeatOf) (is : seen slot generation senders offers ≡ seat) where
    -- the sender is another afterwards
    with_new : (new : Sender Mail) (x : SenderOf Mail) → sender_of new ≡ x
        → seen slot generation (slice_set senders shard new) offers ≡ record (seen slot generation senders offers) { senders = slice_set (map sender_of senders) shard x }
    with_new new x same = ap (λ l. record (seen slot generation senders offers) { senders = l }) (map-set sender_of senders shard new ∙ ap (slice_set (map sender_of senders) shard) same)

    pub was_put : (new : Sender Mail) (mail : Mail) → IsSameSender old new → sent new ≡ sent old ++ mail ∷ [] → refusals_of new ≡ refusals_of old
        → seen slot generation (slice_set senders shard new) offers ≡ put_to shard mail seat
    was_put new mail same put count =
        with_new new _ (stepped old new (sent old ++ mail ∷ []) (refusals_of old) same put count)
        ∙ (ap (λ (s : SenderOf Mail). record (seen slot generation senders offers) { senders = slice_set (map sender_of senders) shard (record s { sent = s.sent ++ mail ∷ [] }) }) (sym seen_at)
        ∙ ap (put_to shard mail) is)

    pub was_full : (new : Sender Mail) → IsSameSender old new → sent new ≡ sent old → refusals_of new ≡ counted (refusals_of old)
        → seen slot generation (slice_set senders shard new) offers ≡ refused_by shard seat
    was_full new same put count =
        with_new new _ (stepped old new (sent old) (counted (refusals_of old)) same put count)
        ∙ (ap (λ (s : SenderOf Mail). record (seen slot generation senders offers) { senders = slice_set (map sender_of senders) shard (record s { refusals = counted s.refusals }) }) (sym seen_at)
        ∙ ap (refused_by shard) is)

    -- so many messages were queued, by what contracts see
    pub was_queued : number_of old ≡ slot → WasFull (capacity_of old) (number_of old) (sent old)
        → WasFull (sender_at shard seat).room seat.slot (sent_at shard seat)
    was_queued number full =
        subst (λ (x : SeatOf). WasFull (sender_at shard x).room x.slot (sent_at shard x)) is
        (subst (λ (s : SenderOf Mail). WasFull s.room slot s.sent) (sym seen_at)
        (subst (λ n. WasFull (capacity_of old) n (sent old)) number full))

    pub number_at : IsNumbered slot (map sender_of senders) → number_of old ≡ slot
    number_at all = ap (λ (s : SenderOf Mail). s.number) (sym seen_at) ∙ all shard no_sender here
