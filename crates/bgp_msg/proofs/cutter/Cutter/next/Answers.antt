-- What is found in front of what is held decides, and only a whole message is taken away.
use Rattle.std.proofs.Common.{◌≡◌, ◌+◌, ℕ, List, Option, None, length, drop, refl, sym, ap, ◌∙◌, subst}
use Rattle.std.specs.Prelude.{MatchOption, IfSome}
use Rattle.rcp_model.specs.Messages.{message_size, message_octets}
use Rattle.rcp_model.specs.Sessions.{fault_in_front}
use Rattle.bgp_msg.specs.declared.framing.Message.{Message}
use Rattle.bgp_msg.specs.Cutting.{HoldsOne, IsInFront}
use Rattle.bgp_msg.specs.HeaderFields.{IsLengthOf}
use Rattle.bgp_msg.proofs.Handing.{unchanged, Hands-front}
use Rattle.bgp_msg.proofs.Holding.{waits_not}
use Rattle.bgp_msg.proofs.cutter.Cutter.next.Goals as goal

-- what stands in front of octets
abbrev Stands : List ℕ → Option Message → Type 0
Stands octets found = MatchOption found
    ((message_size octets ≡ None) × (fault_in_front octets ≡ None))
    (λ message. IsInFront octets message.kind message.body.now)

pub returns-in-Ok-None : goal.returns-in-Ok-None
returns-in-Ok-None c =
    let same = c.split_at.ensures.front ∙ c.self.view_is in
    let given = subst (λ (held : List ℕ). Stands held None) same (subst (Stands c.split_at.result.0.now) c.in-Ok-None.field-0-is c.in-Ok-None.ensures.given) in
    ((refl, λ _. tt, c.self.view_is ∙ unchanged c.args.self.now given.0), record { given = waits_not c.args.self.now given.0 given.1; lengths = tt; after = tt })

pub returns-in-Err : goal.returns-in-Err
returns-in-Err c =
    let same = c.split_at.ensures.front ∙ c.self.view_is in
    let found = c.in-Err.ensures.given in
    ((refl, λ _. tt, c.self.view_is ∙ unchanged c.args.self.now (ap message_size (sym same) ∙ found.0)), record { given = (ap fault_in_front (sym same) ∙ found.1, found.2); lengths = tt; after = tt })

pub returns : goal.returns
returns c =
    let same = c.split_at.ensures.front ∙ c.self.view_is in
    let kind = c.in-Ok-Some.message.kind in
    let front = subst (λ (held : List ℕ). IsInFront held kind c.in-Ok-Some.message.body.now) same (subst (Stands c.split_at.result.0.now) c.in-Ok-Some.field-0-is c.in-Ok-Some.ensures.given) in
    let lengths = subst (λ (found : Option Message). IfSome found (λ m. IsLengthOf m.kind (19 + length m.body.now))) c.in-Ok-Some.field-0-is c.in-Ok-Some.ensures.lengths in
    let h = Hands-front c.args.self.now (subst HoldsOne c.self.view_is c.self.invariant.1) kind c.in-Ok-Some.message.body.now front in
    let body = c.split_at-3.ensures.back ∙ ap (drop 19) (c.split_at-2.ensures.front ∙ c.self.view_is ∙ h.message) in
    ((refl, λ _. tt, h.empty), record { given = (h.whole, h.message ∙ ap (message_octets kind) (sym body)); lengths = subst (IsLengthOf kind) (ap (λ (octets : List ℕ). 19 + length octets) (sym body)) lengths; after = tt })
