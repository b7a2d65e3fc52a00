use Rattle.std.proofs.Common.{sym, ap, subst, ◌∙◌}
use Rattle.std.specs.Prelude.{IfOk}
use Rattle.rcp_model.specs.Messages.{message_octets}
use Rattle.rcp_model.specs.Sessions.{Step, handle, read_at}
use Rattle.session_core.specs.declared.state.Reading.{Reading}
use Rattle.session_core.specs.declared.table.Rule.{Rule}
use Rattle.session_core.specs.Rules.{in_open_sent, in_open_confirm, in_established}
use Rattle.session_core.specs.Shown.{reading_phase, peering_of}
use Rattle.session_core.specs.Steps.{Takes}
use Rattle.session_core.proofs.RuleLemmas.{rules-open_sent, rules-open_confirm, rules-established}
use Rattle.session_core.proofs.handling.handle.Goals as goal

pub returns-in-OpenSent : goal.returns-in-OpenSent
unfolding handle
returns-in-OpenSent c =
    let kind = c.args.message.kind in
    let is = ap (λ (s : Reading). handle c.args.roster.now c.args.now (message_octets c.args.message.kind c.args.message.body.now) (reading_phase s)) c.in-OpenSent.is
    ∙ sym (rules-open_sent c.args.roster.now c.in-OpenSent.since c.args.message.body.now kind)
    ∙ ap (λ (r : Rule). in_open_sent c.args.roster.now c.in-OpenSent.since c.args.message.body.now r) (sym c.find_rule-rule.ensures) in
    subst (λ (s : Step). IfOk c.in_open_sent.result (λ next. Takes s c.args.actions.now next c.in_open_sent.new.actions)) (sym is) c.in_open_sent.ensures

pub returns-in-OpenConfirm : goal.returns-in-OpenConfirm
unfolding handle
returns-in-OpenConfirm c =
    let kind = c.args.message.kind in
    let is = ap (λ (s : Reading). handle c.args.roster.now c.args.now (message_octets c.args.message.kind c.args.message.body.now) (reading_phase s)) c.in-OpenConfirm.is
    ∙ sym (rules-open_confirm (read_at c.args.now (peering_of c.in-OpenConfirm.peering)) c.args.message.body.now kind)
    ∙ ap (λ (r : Rule). in_open_confirm (read_at c.args.now (peering_of c.in-OpenConfirm.peering)) c.args.message.body.now r) (sym c.find_rule-rule-in-OpenConfirm.ensures) in
    subst (λ (s : Step). IfOk c.in_open_confirm.result (λ next. Takes s c.args.actions.now next c.in_open_confirm.new.actions)) (sym is) c.in_open_confirm.ensures

pub returns-in-Established : goal.returns-in-Established
unfolding handle
returns-in-Established c =
    let kind = c.args.message.kind in
    let is = ap (λ (s : Reading). handle c.args.roster.now c.args.now (message_octets c.args.message.kind c.args.message.body.now) (reading_phase s)) c.in-Established.is
    ∙ sym (rules-established (read_at c.args.now (peering_of c.in-Established.peering)) c.args.message.body.now c.args.roster.now kind)
    ∙ ap (λ (r : Rule). in_established c.args.roster.now (read_at c.args.now (peering_of c.in-Established.peering)) c.args.message.body.now r) (sym c.find_rule-rule-in-Established.ensures) in
    subst (λ (s : Step). IfOk c.in_established.result (λ next. Takes s c.args.actions.now next c.in_established.new.actions)) (sym is) c.in_established.ensures
