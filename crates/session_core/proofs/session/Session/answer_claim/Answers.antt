use Rattle.std.proofs.Common.{refl, sym, ap}
use Rattle.session_core.specs.Held.{Held}
use Rattle.session_core.proofs.AnswerLemmas.{no-claim}
use Rattle.session_core.proofs.CountLemmas.{unclaimed-handles, unseated-handles}
use Rattle.session_core.proofs.session.Session.answer_claim.Goals as goal

pub returns-in_default : goal.returns-in_default
returns-in_default c = record {
  answered = no-claim c.args.roster.now c.args.free c.self.inside.state c.args.self.now c.args.actions.now (ap (λ (h : Held). h.state.phase) c.self.view_is) c.in_default.not-Claiming c.requires;
  handled = sym (unclaimed-handles c.args.roster.now c.args.free c.args.self.now.state.latest c.args.self.now.state.kept c.self.inside.state c.args.self.now.state.phase (ap (λ (h : Held). h.state.phase) c.self.view_is) c.in_default.not-Claiming);
  spent = refl;
}

pub returns-in_ok-give_up-in-Claiming-clause-handled : goal.returns-in_ok-give_up-in-Claiming-clause-handled
returns-in_ok-give_up-in-Claiming-clause-handled c =
    sym (unseated-handles c.args.roster.now c.args.free c.args.self.now.state.latest c.args.self.now.state.kept c.args.self.now.state.phase c.if-free.false)
