-- What puts come to, one after another.
use Rattle.std.proofs.Common.{◌≡◌, ◌≢◌, ℕ, ◌+◌, ◌<◌, Bool, true, false, cond, List, [], ◌∷◌, ◌++◌, length, map, nat_lt, eqb, refl, sym, ap, ◌∙◌, append_assoc, append-nil, arith, inl, inr}
use Rattle.std.specs.Prelude.{◌==◌, ◌||◌, flat_map, if◌then◌else◌}
use Rattle.std.proofs.lemmas.Bool.Decides.{eqb_tells, nat_tests}
use Rattle.std.proofs.lemmas.List.{get_or-set_same, get_or-set_other, length-set, map-append}
use Rattle.std.proofs.lemmas.List.Folds.{list_any-append}
use Rattle.std.proofs.lemmas.Grind.{flat_map-append}
use Rattle.std.proofs.Math.Seq.{map-set_same}
use Rattle.mailbox.specs.Boxes.{counted}
use Rattle.rcp_model.specs.Sessions.{SessionEvent, Up, Announce, Withdraw}
use Rattle.seats.specs.Mails.{Mail}
use Rattle.seats.specs.Ends.{SenderOf}
use Rattle.seats.specs.Seats.{SeatOf, no_sender, sender_at, sent_at, with_sender, put_to, refused_by}
use Rattle.shard_mail.specs.Puts.{IsSameSeat, Puts, alone, mail_of, mails_of, is_up_event, reached_up}

pub same-seat : (s : SeatOf) → IsSameSeat s s
same-seat s = record { slot = refl; generation = refl; count = refl; mailboxes = refl; receiver = refl }

pub same-then : (a b c : SeatOf) → IsSameSeat a b → IsSameSeat b c → IsSameSeat a c
same-then a b c first second = record {
  slot = second.slot ∙ first.slot;
  generation = second.generation ∙ first.generation;
  count = second.count ∙ first.count;
  mailboxes = second.mailboxes ∙ first.mailboxes;
  receiver = second.receiver ∙ first.receiver;
}

abbrev pub none : ℕ → List Mail
none shard = []

pub puts-none : (s : SeatOf) → Puts none s s
puts-none s = record { same = same-seat s; offers = refl; each = λ shard here. sym (append-nil (sent_at shard s)) }

pub puts-then : (first second : ℕ → List Mail) (a b c : SeatOf) → Puts first a b → Puts second b c → Puts (λ shard. first shard ++ second shard) a c
puts-then first second a b c one other = record {
  same = same-then a b c one.same other.same;
  offers = other.offers ∙ one.offers;
  each = λ shard here.
      other.each shard (omega (arith, one.same.count))
      ∙ ap (λ (xs : List Mail). xs ++ second shard) (one.each shard here)
      ∙ append_assoc (sent_at shard a) (first shard) (second shard);
}

-- the same messages to each shard
pub puts-as : (mails others : ℕ → List Mail) (a b : SeatOf) → ((shard : ℕ) → shard < length a.senders → mails shard ≡ others shard) → Puts mails a b → Puts others a b
puts-as mails others a b same puts = record {
  same = puts.same;
  offers = puts.offers;
  each = λ shard here. puts.each shard here ∙ ap (λ (xs : List Mail). sent_at shard a ++ xs) (same shard here);
}

-- ---- one step of a sender

module _ (seat : SeatOf) (shard : ℕ) (here : shard < length seat.senders) (sender : SenderOf Mail) (same : sender.mailbox ≡ (sender_at shard seat).mailbox) where
  kept : IsSameSeat seat (with_sender shard sender seat)
  kept = record {
    slot = refl;
    generation = refl;
    count = length-set seat.senders shard sender;
    mailboxes = map-set_same (λ (s : SenderOf Mail). s.mailbox) seat.senders shard sender no_sender same;
    receiver = refl;
  }

  -- what was put to a shard, where this sender is another
  sent-with : (more : List Mail) → sender.sent ≡ sent_at shard seat ++ more → (other : ℕ)
      → sent_at other (with_sender shard sender seat) ≡ sent_at other seat ++ (if other == shard then more else [])
  sent-with more put other = elim (eqb_tells other shard) [
    | inl is ↦ at_shard is.1 is.0
    | inr not ↦ at_other not.1 not.0
  ] where
    at_shard : other ≡ shard → eqb other shard ≡ true → sent_at other (with_sender shard sender seat) ≡ sent_at other seat ++ (if other == shard then more else [])
    at_shard is test =
        ap (λ n. sent_at n (with_sender shard sender seat)) is
        ∙ ap (λ (s : SenderOf Mail). s.sent) (get_or-set_same seat.senders shard sender no_sender here)
        ∙ put
        ∙ ap (λ n. sent_at n seat ++ more) (sym is)
        ∙ ap (λ b. sent_at other seat ++ cond b more []) (sym test)

    at_other : other ≢ shard → eqb other shard ≡ false → sent_at other (with_sender shard sender seat) ≡ sent_at other seat ++ (if other == shard then more else [])
    at_other not test =
        ap (λ (s : SenderOf Mail). s.sent) (get_or-set_other seat.senders shard other sender no_sender not)
        ∙ sym (append-nil (sent_at other seat))
        ∙ ap (λ b. sent_at other seat ++ cond b more []) (sym test)

pub puts-one : (seat : SeatOf) (shard : ℕ) (message : Mail) → shard < length seat.senders → Puts (alone shard message) seat (put_to shard message seat)
puts-one seat shard message here = record {
  same = kept seat shard here (record (sender_at shard seat) { sent = sent_at shard seat ++ message ∷ [] }) refl;
  offers = refl;
  each = λ other there. sent-with seat shard here (record (sender_at shard seat) { sent = sent_at shard seat ++ message ∷ [] }) refl (message ∷ []) refl other;
}

pub puts-refused : (seat : SeatOf) (shard : ℕ) → shard < length seat.senders → Puts none seat (refused_by shard seat)
puts-refused seat shard here = record {
  same = kept seat shard here (record (sender_at shard seat) { refusals = counted (sender_at shard seat).refusals }) refl;
  offers = refl;
  each = λ other there. sent-with seat shard here (record (sender_at shard seat) { refusals = counted (sender_at shard seat).refusals }) refl [] (sym (append-nil (sent_at shard seat))) other
      ∙ ap (λ (xs : List Mail). sent_at other seat ++ xs) (nothing (eqb other shard));
} where
  nothing : (b : Bool) → cond b [] [] ≡ none 0
  nothing true = refl
  nothing false = refl

-- ---- all shards

-- a message to each shard below a number
abbrev pub below : ℕ → Mail → ℕ → List Mail
below count message shard = if nat_lt shard count then message ∷ [] else []

pub below-none : (seat : SeatOf) (message : Mail) → Puts (below 0 message) seat seat
below-none seat message = puts-as none (below 0 message) seat seat (λ shard here. grind (arith, nat_tests)) (puts-none seat)

pub below-more : (a b c : SeatOf) (count : ℕ) (message : Mail) → Puts (below count message) a b → Puts (alone count message) b c → Puts (below (count + 1) message) a c
below-more a b c count message first one =
    puts-as (λ shard. below count message shard ++ alone count message shard) (below (count + 1) message) a c (λ shard here. grind (arith, nat_tests))
    (puts-then (below count message) (alone count message) a b c first one)

pub below-all : (a b : SeatOf) (count : ℕ) (message : Mail) → count ≡ length a.senders → Puts (below count message) a b → Puts (λ shard. message ∷ []) a b
below-all a b count message all puts = puts-as (below count message) (λ shard. message ∷ []) a b (λ shard here. grind (arith, nat_tests)) puts

-- ---- events

-- an event is the same messages for a seat of the same slot, generation and count of shards
pub mail_of-same : (a b : SeatOf) (event : SessionEvent) (shard : ℕ) → IsSameSeat a b → mail_of b event shard ≡ mail_of a event shard
mail_of-same a b Up shard same = cc (same.slot, same.generation)
mail_of-same a b (Announce prefix route) shard same = cc (same.slot, same.count)
mail_of-same a b (Withdraw prefix) shard same = cc (same.slot, same.count)

one_event : (mails : SessionEvent → ℕ → List Mail) (event : SessionEvent) (shard : ℕ) → flat_map (λ (e : SessionEvent). mails e shard) (event ∷ []) ≡ mails event shard
one_event mails event shard = append-nil (mails event shard)

-- an event more was put
pub events-more : {X : Type 0} (event_of : X → SessionEvent) (xs : List X) (x : X) (a b c : SeatOf) → Puts (mails_of a (map event_of xs)) a b → Puts (mail_of b (event_of x)) b c
    → Puts (mails_of a (map event_of (xs ++ x ∷ []))) a c
events-more event_of xs x a b c first one =
    puts-as (λ shard. mails_of a (map event_of xs) shard ++ mail_of a (event_of x) shard) (mails_of a (map event_of (xs ++ x ∷ []))) a c
    (λ shard here.
    ap (λ (ms : List Mail). mails_of a (map event_of xs) shard ++ ms) (sym (one_event (mail_of a) (event_of x) shard))
    ∙ sym (flat_map-append (λ (e : SessionEvent). mail_of a e shard) (map event_of xs) (event_of x ∷ []))
    ∙ ap (λ (es : List SessionEvent). mails_of a es shard) (sym (map-append event_of xs (x ∷ []))))
    (puts-then (mails_of a (map event_of xs)) (mail_of a (event_of x)) a b c first
    (puts-as (mail_of b (event_of x)) (mail_of a (event_of x)) b c (λ shard here. mail_of-same a b (event_of x) shard first.same) one))

pub up-more : {X : Type 0} (event_of : X → SessionEvent) (xs : List X) (x : X) (up : Bool) → up ≡ reached_up (map event_of xs)
    → (up || is_up_event (event_of x)) ≡ reached_up (map event_of (xs ++ x ∷ []))
up-more event_of xs x up is =
    ap (λ b. b || is_up_event (event_of x)) is
    ∙ ap (λ b. reached_up (map event_of xs) || b) (sym (or-false (is_up_event (event_of x))))
    ∙ sym (list_any-append is_up_event (map event_of xs) (event_of x ∷ []))
    ∙ ap reached_up (sym (map-append event_of xs (x ∷ [])))
  where
    or-false : (b : Bool) → (b || false) ≡ b
    or-false true = refl
    or-false false = refl
