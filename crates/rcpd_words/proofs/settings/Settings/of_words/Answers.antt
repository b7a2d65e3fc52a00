use Rattle.std.proofs.Common.{sym}
use Rattle.rcpd_words.proofs.WordLemmas.{no_values, no_bgp, no_link_state, no_sessions}
use Rattle.rcpd_words.proofs.settings.Settings.of_words.Goals as goal

pub returns-in_err-values : goal.returns-in_err-values
returns-in_err-values c = rw c.from_residual.ensures (no_values _ c.in_err-values.ensures)

pub returns-in_err-bgp : goal.returns-in_err-bgp
returns-in_err-bgp c = rw c.from_residual-in_err-bgp.ensures (no_bgp _ _ _ _ c.in_ok-values.ensures (sym c.in_err-bgp.ensures))

pub returns-in_err-link_state : goal.returns-in_err-link_state
returns-in_err-link_state c = rw c.from_residual-in_err-link_state.ensures (no_link_state _ _ _ _ c.in_ok-values.ensures (sym c.in_err-link_state.ensures))

pub returns-in_err-sessions : goal.returns-in_err-sessions
returns-in_err-sessions c = rw c.from_residual-in_err-sessions.ensures (no_sessions _ _ _ _ c.in_ok-values.ensures (sym c.in_err-sessions.ensures))
