use Rattle.adj_ribs.proofs.AnnounceLemmas.{live_in, joined_refused, bases_refused, numbers_back, live_first, joined_made, bases_made, change_is}
use Rattle.std.proofs.Common.{refl}
use Rattle.adj_ribs.proofs.ribs.AdjRibs.announce.Goals as goal

pub release-requires : goal.release-requires
release-requires c =
    let s = c.self.inside in
    let i = c.in_ok-number in
    live_in s.routes c.intern.new.self s.announcements s.table c.self.invariant i.number c.args.route i.ensures.kept i.ensures.own i.ensures.once

pub invariant_of-self-in_default : goal.invariant_of-self-in_default
invariant_of-self-in_default c =
    let s = c.self.inside in
    let i = c.in_ok-number in
    joined_refused s.routes c.intern.new.self s.announcements s.table c.self.invariant i.number c.args.route i.ensures.kept i.ensures.own i.ensures.once
    c.release.new.self c.replace.new.self s.table c.release.ensures c.in_default.ensures.err refl

pub returns-in_default-clause-err : goal.returns-in_default-clause-err
returns-in_default-clause-err c =
    let s = c.self.inside in
    let i = c.in_ok-number in
    bases_refused s.routes c.intern.new.self s.announcements s.table c.self.invariant i.number c.args.route i.ensures.kept i.ensures.own i.ensures.once
    c.release.new.self c.replace.new.self s.table c.release.ensures c.in_default.ensures.err refl c.args.self.now c.self.view_is

pub release-requires-in_default-open : goal.release-requires-in_default-open
release-requires-in_default-open c =
    let s = c.self.inside in
    let i = c.in_ok-number in
    live_in s.routes c.intern.new.self s.announcements s.table c.self.invariant i.number c.args.route i.ensures.kept i.ensures.own i.ensures.once

pub invariant_of-self-in_default-open : goal.invariant_of-self-in_default-open
invariant_of-self-in_default-open c =
    let s = c.self.inside in
    let i = c.in_ok-number in
    joined_refused s.routes c.intern.new.self s.announcements s.table c.self.invariant i.number c.args.route i.ensures.kept i.ensures.own i.ensures.once
    c.release-in_default-open.new.self c.take.new.self c.open.new.self c.release-in_default-open.ensures
    (numbers_back s.routes c.intern.new.self s.announcements s.table c.self.invariant i.number c.args.route i.ensures.kept i.ensures.own i.ensures.once
    c.replace.new.self c.take.new.self c.args.slot c.args.p c.in-Ok.ensures.set c.take.ensures.taken c.in_default-open.ensures.new) c.in_default-open.ensures.err

pub returns-in_default-open-clause-err : goal.returns-in_default-open-clause-err
returns-in_default-open-clause-err c =
    let s = c.self.inside in
    let i = c.in_ok-number in
    bases_refused s.routes c.intern.new.self s.announcements s.table c.self.invariant i.number c.args.route i.ensures.kept i.ensures.own i.ensures.once
    c.release-in_default-open.new.self c.take.new.self c.open.new.self c.release-in_default-open.ensures
    (numbers_back s.routes c.intern.new.self s.announcements s.table c.self.invariant i.number c.args.route i.ensures.kept i.ensures.own i.ensures.once
    c.replace.new.self c.take.new.self c.args.slot c.args.p c.in-Ok.ensures.set c.take.ensures.taken c.in_default-open.ensures.new) c.in_default-open.ensures.err
    c.args.self.now c.self.view_is

pub release-requires-2 : goal.release-requires-2
release-requires-2 c =
    let s = c.self.inside in
    let i = c.in_ok-number in
    live_first s.routes c.intern.new.self s.announcements s.table c.self.invariant i.number c.args.route i.ensures.kept i.ensures.own i.ensures.once c.args.slot c.args.p
    c.in-Ok.before c.in-Ok.ensures.before

pub invariant_of-self-2 : goal.invariant_of-self-2
invariant_of-self-2 c =
    let s = c.self.inside in
    let i = c.in_ok-number in
    joined_made s.routes c.intern.new.self s.announcements s.table c.self.invariant i.number c.args.route i.ensures.kept i.ensures.own i.ensures.once c.args.slot c.args.p
    c.in-Ok.before c.in-Ok.ensures.before c.release-2.new.routes c.replace.new.self c.open.new.self c.release-2.ensures c.in-Ok.ensures.set c.in-Ok-open.ensures.ok

pub returns-clause-changed : goal.returns-clause-changed
returns-clause-changed c =
    let s = c.self.inside in
    let i = c.in_ok-number in
    change_is s.routes c.intern.new.self s.announcements s.table c.self.invariant i.number c.args.route i.ensures.kept i.ensures.own i.ensures.once c.args.slot c.args.p
    c.ne.result c.in-Ok.before c.in-Ok.ensures.before c.ne.ensures c.args.self.now c.self.view_is

pub returns-clause-after : goal.returns-clause-after
returns-clause-after c =
    let s = c.self.inside in
    let i = c.in_ok-number in
    bases_made s.routes c.intern.new.self s.announcements s.table c.self.invariant i.number c.args.route i.ensures.kept i.ensures.own i.ensures.once c.args.slot c.args.p
    c.in-Ok.before c.in-Ok.ensures.before c.release-2.new.routes c.replace.new.self c.open.new.self c.release-2.ensures c.in-Ok.ensures.set c.in-Ok-open.ensures.ok
    c.args.self.now c.self.view_is
