-- Seats of new mailboxes.
use Rattle.std.proofs.Common.{◌≡◌, ℕ, zero, suc, ◌<◌, List, [], ◌∷◌, length, map, slice_index_or, slice_get, Some, None, All, ap, sym, subst, ◌∙◌, refl, arith}
use Rattle.std.proofs.lemmas.List.{length-map}
use Rattle.atomic_table.specs.Seated.{TableId}
use Rattle.mailbox.specs.declared.ends.Sender.{Sender}
use Rattle.mailbox.specs.declared.ends.Receiver.{Receiver}
use Rattle.mailbox.specs.Boxes.{IsNew, mailbox_of, mailbox_at}
use Rattle.rcp_model.specs.declared.offer.Offer.{Offer}
use Rattle.seats.specs.Mails.{Mail}
use Rattle.seats.specs.Ends.{SenderOf, sender_of, receiver_of}
use Rattle.seats.specs.Seats.{SeatOf, IsNumbered, AreUnused, IsOffered}

-- what holds of the one sender holds of each
of_one : (P : SenderOf Mail → Type 0) (senders : List (Sender Mail)) → length senders ≡ 1 → ((s : Sender Mail) → slice_index_or senders 0 s ≡ s → P (sender_of s)) → All P (map sender_of senders)
of_one P [] one holds k d in' = absurd (omega arith)
of_one P (s ∷ senders) one holds zero d in' = holds s refl
of_one P (s ∷ senders) one holds (suc k) d in' = absurd (omega (arith, length-map senders sender_of))

module _ (receiver : Receiver Mail) (senders : List (Sender Mail)) (one : length senders ≡ 1)
    (each : (k : ℕ) (d : Sender Mail) → k < length senders → IsNew receiver k (slice_index_or senders k d)) where
  new : (s : Sender Mail) → slice_index_or senders 0 s ≡ s → IsNew receiver 0 s
  new s is = subst (IsNew receiver 0) is (each 0 s (omega arith))

  pub numbers : IsNumbered 0 (map sender_of senders)
  numbers = of_one (λ s. s.number ≡ 0) senders one (λ s is. (new s is).number)

  pub unused : AreUnused (map sender_of senders)
  unused = of_one (λ s. s.sent ≡ []) senders one (λ s is. (new s is).nothing)

-- the mailboxes of the senders, as contracts see them
pub mailboxes : (senders : List (Sender Mail)) → map (λ (s : SenderOf Mail). s.mailbox) (map sender_of senders) ≡ map mailbox_of senders
mailboxes [] = refl
mailboxes (s ∷ senders) = ap (λ l. mailbox_of s ∷ l) (mailboxes senders)

-- the one seat of a book
pub one_offered : (shards : ℕ → List TableId) (offers : ℕ → TableId) (seat : SeatOf) → IsOffered shards offers 0 seat
    → (slot : ℕ) (other : SeatOf) → slice_get (seat ∷ []) slot ≡ Some other → IsOffered shards offers slot other
one_offered shards offers seat offered zero other is = let same : seat ≡ other = cc in subst (IsOffered shards offers 0) same offered
one_offered shards offers seat offered (suc slot) other is = let no : None ≡ Some other = is in absurd cc

-- the seats of a book with this seat alone
pub all_offered : (shards : ℕ → List TableId) (offers : ℕ → TableId) (seat : SeatOf) → IsOffered shards offers 0 seat
    → (seats : List SeatOf) → seats ≡ seat ∷ []
    → (slot : ℕ) (other : SeatOf) → slice_get seats slot ≡ Some other → IsOffered shards offers slot other
all_offered shards offers seat offered seats one slot other is =
    one_offered shards offers seat offered slot other (ap (λ xs. slice_get xs slot) (sym one) ∙ is)

-- a new seat of slot 0 is one that a book is made with
pub new_offered : (shards : ℕ → List TableId) (offers : ℕ → TableId) (senders : List (Sender Mail)) (receiver : Receiver Offer)
    → AreUnused (map sender_of senders) → shards 0 ≡ map mailbox_of senders → offers 0 ≡ mailbox_at receiver
    → (seat : SeatOf) → seat ≡ record { slot = 0; generation = 0; senders = map sender_of senders; offers = receiver_of receiver }
    → IsOffered shards offers 0 seat
new_offered shards offers senders receiver unused named receives seat is =
    subst (IsOffered shards offers 0) (sym is) (record {
      at = refl;
      named = record { each = mailboxes senders ∙ sym named; receiver = sym receives };
      unused = unused;
    })
