-- What is taken from a mailbox, message by message.
use Rattle.std.proofs.Common.{◌≡◌, ℕ, suc, ◌≤◌, true, false, List, [], ◌∷◌, ◌++◌, length, drop, refl, sym, ap, ◌∙◌, append-nil, arith}
use Rattle.std.specs.Prelude.{Contains}
use Rattle.std.proofs.Math.Seq.{drop-append_seam}
use Rattle.mailbox.specs.Boxes.{counted}
use Rattle.shard_worker.specs.Runs.{Letter, RunOf, after_message, after_messages}
use Rattle.shard_worker.specs.Ends.{InboxOf}
use Rattle.shard_worker.specs.Turns.{taken_since, HasTaken, IsAnnounce, HasAnnounce}
use Rattle.shard_worker.proofs.StartLemmas.{messages_append}

-- the mailbox after these messages more
abbrev pub taken_more : InboxOf → List Letter → InboxOf
taken_more before letters = record before { taken = before.taken ++ letters }

pub taken_none : (before : InboxOf) → before ≡ taken_more before []
taken_none before = ap (λ (ls : List Letter). record before { taken = ls }) (sym (append-nil before.taken))

pub taken_next : (before now after : InboxOf) (letters : List Letter) (letter : Letter) → now ≡ taken_more before letters → after ≡ taken_more now (letter ∷ []) → after ≡ taken_more before (letters ++ letter ∷ [])
taken_next before now after letters letter is next =
    next ∙ (λ i. taken_more (is i) (letter ∷ [])) ∙ ap (λ (ls : List Letter). record before { taken = ls }) (assoc before.taken letters (letter ∷ [])) where
      assoc : (a b c : List Letter) → (a ++ b) ++ c ≡ a ++ (b ++ c)
      assoc [] b c = refl
      assoc (x ∷ a) b c = ap (λ l. x ∷ l) (assoc a b c)

pub since : (before after : InboxOf) (letters : List Letter) → after.taken ≡ before.taken ++ letters → taken_since before after ≡ letters
since before after letters is = ap (drop (length before.taken)) is ∙ drop-append_seam before.taken letters

one_message : (letter : Letter) (run : RunOf) → after_messages (letter ∷ []) run ≡ after_message letter run
unfolding after_messages
one_message letter run = refl

pub message_next : (letters : List Letter) (letter : Letter) (old now next : RunOf) → now ≡ after_messages letters old → next ≡ after_message letter now → next ≡ after_messages (letters ++ letter ∷ []) old
message_next letters letter old now next is step =
    step ∙ ap (after_message letter) is ∙ sym (messages_append letters (letter ∷ []) old ∙ one_message letter (after_messages letters old))

pub no_messages : (run : RunOf) → run ≡ after_messages [] run
unfolding after_messages
no_messages run = refl

-- ---- the clauses

module _ (budget : ℕ) (before after : InboxOf) (letters : List Letter) where
  pub stopped : after ≡ record before { taken = before.taken ++ letters; empties = counted before.empties } → length letters ≤ budget → HasTaken budget (length letters) true before after
  stopped is within =
      let all = since before after letters (ap (λ (m : InboxOf). m.taken) is) in
      record {
        taken = is ∙ ap (λ (ls : List Letter). record before { taken = before.taken ++ ls; empties = counted before.empties }) (sym all);
        exact = ap length all;
        within = within;
        enough = λ none. absurd cc;
      }

  pub filled : after ≡ taken_more before letters → length letters ≡ budget → HasTaken budget budget false before after
  filled is count =
      let all = since before after letters (ap (λ (m : InboxOf). m.taken) is) in
      record {
        taken = is ∙ ap (λ (ls : List Letter). record before { taken = before.taken ++ ls; empties = before.empties }) (sym all);
        exact = ap length all ∙ count;
        within = omega arith;
        enough = λ none. refl;
      }

-- the last message that was taken is among them
pub last_among : (letters : List Letter) (letter : Letter) → IsAnnounce letter → HasAnnounce (letters ++ letter ∷ [])
last_among letters letter is = (letter, at letters, is) where
  at : (letters : List Letter) → Contains (letters ++ letter ∷ []) letter
  at [] = (0, omega arith, refl)
  at (first ∷ letters) = let rest = at letters in (suc rest.0, (let below = rest.1 in omega (arith, below)), rest.2)
