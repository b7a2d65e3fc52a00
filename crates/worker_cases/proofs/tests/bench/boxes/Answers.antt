use Rattle.std.proofs.Common.{◌≡◌, ℕ, ◌+◌, List, [], ◌∷◌, ◌++◌, length, length-append, ap, arith}
use Rattle.std.specs.Prelude.{All}
use Rattle.std.proofs.lemmas.List.Elements.{All-same, All-push}
use Rattle.mailbox.specs.declared.ends.Sender.{Sender}
use Rattle.mailbox.specs.Boxes.{sent}
use Rattle.rcp_model.specs.declared.offer.Offer.{Offer}
use Rattle.worker_cases.proofs.tests.bench.boxes.Goals as goal

abbrev IsUnused : Sender Offer → Type 0
IsUnused sender = sent sender ≡ []

one_more : (old new : List (Sender Offer)) (sender : Sender Offer) (n : ℕ) → new ≡ old ++ sender ∷ [] → (length old ≡ n) × All IsUnused old → IsUnused sender → (length new ≡ n + 1) × All IsUnused new
one_more old new sender n items before unused =
    (omega (arith, simp length-append at (ap length items), before.0), All-same IsUnused new (old ++ sender ∷ []) items (All-push IsUnused old sender before.1 unused))

pub loop-slot-preserved : goal.loop-slot-preserved
loop-slot-preserved g c = one_more _ _ _ _ c.in_ok-push.ensures.items c.loop-slot.invariant c.in_ok-sender.ensures
