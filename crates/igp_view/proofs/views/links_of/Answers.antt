use Rattle.std.proofs.Common.{sym, subst, ◌∙◌}
use Rattle.igp_view.specs.Igp.{AreRosterLinks}
use Rattle.igp_view.proofs.RosterLemmas.{roster_links}
use Rattle.igp_view.proofs.views.links_of.Goals as goal

pub returns-clause-form : goal.returns-clause-form
returns-clause-form c = subst AreRosterLinks (sym (c.in_ok-from_slice.ensures.items ∙ c.links.ensures)) (roster_links c.args.roster.now c.len-form.ensures.form)
