-- What `next` does with what it finds in front of what is held.
use Rattle.std.proofs.Common.{◌≡◌, ℕ, ◌+◌, ◌<◌, ◌≤◌, ⊎_elim, List, [], length, take, Some, None, refl, sym, ap, ◌∙◌, arith}
use Rattle.std.proofs.Math.Seq.{drop-length, take-length}
use Rattle.rcp_model.specs.Messages.{message_size, message_octets}
use Rattle.rcp_model.proofs.ReadingLemmas.{message_size-Some}
use Rattle.bgp_msg.specs.Cutting.{HoldsOne, IsInFront, after_next}
use Rattle.bgp_msg.proofs.Holding.{compared}

-- where no whole message stands, nothing is handed out
pub unchanged : (held : List ℕ) → message_size held ≡ None → held ≡ after_next held
unchanged held none = rw (none, after_next) refl

-- all that is held is a message, and is handed out
pub record Hands (held : List ℕ) (kind : ℕ) (body : List ℕ) : Type 0 where
  pub whole : message_size held ≡ Some (length held)
  pub message : held ≡ message_octets kind body
  pub empty : [] ≡ after_next held
  pub count : length held ≡ 19 + length body

module _ (held : List ℕ) (one : HoldsOne held) (kind : ℕ) (body : List ℕ) (front : IsInFront held kind body) where
  exact : length held ≡ 19 + length body
  exact =
      let there = message_size-Some held (19 + length body) front.size in
      ⊎_elim (λ (bare : length held < 20). omega (arith, there.within))
      (λ (more : 20 ≤ length held). omega (arith, (one (omega arith)).1, there.within, there.is_length)) (compared 20 (length held))

  pub Hands-front : Hands held kind body
  Hands-front =
      let size : message_size held ≡ Some (length held) = front.size ∙ ap Some (sym exact) in
      record {
        whole = size;
        message = sym (take-length held) ∙ ap (λ (n : ℕ). take n held) exact ∙ front.message;
        empty = rw (size, after_next) (sym (drop-length held));
        count = exact;
      }
