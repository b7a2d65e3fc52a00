use Rattle.std.proofs.Common.{ℕ, sym, ap, ◌∙◌}
use Rattle.bgp_msg.specs.Opened.{fault_but_identifier}
use Rattle.rcp_model.specs.Sessions.{slot_by_identifier}
use Rattle.session_core.proofs.OpenLemmas.{accepted, unknown, unknown-behind, faulted-early, faulted-known, none-of, some-of}
use Rattle.session_core.proofs.opening.read_peer_open.Goals as goal
use Rattle.session_core.proofs.opening.read_peer_open.Goals.{else-is_none-via-then-is_none+else-is_of_parameters, else-is_none-via-else-is_none}

pub returns-then-is_of_parameters : goal.returns-then-is_of_parameters
returns-then-is_of_parameters c =
    let place = sym (ap (slot_by_identifier c.args.roster.now.members) c.identifier_of.ensures) in
    let why = ap (λ (n : ℕ). fault_but_identifier n c.args.body.now) (sym c.as_number.ensures.value) ∙ c.in-Err.ensures.0 in (
      unknown-behind c.args.roster.now c.args.body.now _ why
          (sym c.is_of_parameters.ensures ∙ c.if-is_of_parameters.true)
          (place ∙ sym c.slot_of_bgp-known.ensures.place ∙ none-of _ c.if-is_none.ensures),
      tt,
    )

pub returns-in-Err : goal.returns-in-Err
returns-in-Err c =
    let place = sym (ap (slot_by_identifier c.args.roster.now.members) c.identifier_of.ensures) in
    let why = ap (λ (n : ℕ). fault_but_identifier n c.args.body.now) (sym c.as_number.ensures.value) ∙ c.in-Err.ensures.0 in (
      elim c.else-is_none.branch [
        | else-is_none-via-then-is_none+else-is_of_parameters w ↦ faulted-early c.args.roster.now c.args.body.now _ why (sym w.is_of_parameters.ensures ∙ w.if-is_of_parameters.false)
        | else-is_none-via-else-is_none w ↦
            let there = some-of c.slot_of_bgp-known.result w.if-is_none.ensures in
            faulted-known c.args.roster.now c.args.body.now _ why there.0 (place ∙ sym c.slot_of_bgp-known.ensures.place ∙ there.1)
      ],
      c.in-Err.ensures.1,
    )

pub returns-in-Some : goal.returns-in-Some
returns-in-Some c =
    let place = sym (ap (slot_by_identifier c.args.roster.now.members) c.identifier_of.ensures) in
    let none = ap (λ (n : ℕ). fault_but_identifier n c.args.body.now) (sym c.as_number.ensures.value) ∙ c.in-Ok.ensures.0 in
    let there = place ∙ sym c.slot_of_bgp-known.ensures.place ∙ c.in-Some.is in
    (accepted c.args.roster.now c.args.body.now _ none there, there, ap (λ f. f.hold) c.in-Ok.ensures.1)

pub returns-in-None : goal.returns-in-None
returns-in-None c =
    let place = sym (ap (slot_by_identifier c.args.roster.now.members) c.identifier_of.ensures) in
    let none = ap (λ (n : ℕ). fault_but_identifier n c.args.body.now) (sym c.as_number.ensures.value) ∙ c.in-Ok.ensures.0 in
    (unknown c.args.roster.now c.args.body.now none (place ∙ sym c.slot_of_bgp-known.ensures.place ∙ c.in-None.is), tt)
