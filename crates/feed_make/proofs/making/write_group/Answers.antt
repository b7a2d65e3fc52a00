use Rattle.std.proofs.Common.{◌≡◌, ℕ, List, [], ◌++◌, ◌+◌, get_or, refl, sym, ap, subst, ◌∙◌, append-nil, arith}
use Rattle.std.proofs.lemmas.Result.{err_from_is_err_and}
use Rattle.rcp_base.specs.Feed.{record_octets}
use Rattle.feed_make.specs.Draws.{DrawsOf}
use Rattle.outside.specs.Told.{behind}
use Rattle.feed_make.specs.Writes.{Writes, WritesPart}
use Rattle.feed_make.specs.Routes.{group_place, first_of, second_of, third_of}
use Rattle.feed_make.specs.Feeds.{announced_by}
use Rattle.feed_make.proofs.Networks.{draw-below}
use Rattle.feed_make.proofs.Writing.{stops_early, stops_later, then_writes}
use Rattle.feed_make.proofs.making.write_group.Goals as goal

announced : ℕ → ℕ → ℕ → ℕ → List ℕ
announced number group place router = record_octets (announced_by number group place router)

pub write_announcement-requires-clause-router : goal.write_announcement-requires-clause-router
write_announcement-requires-clause-router g c =
    let number = c.args.draws.now.number in
    omega (arith, ap (λ (rs : List ℕ). get_or rs 0 0) c.announcers.ensures.routers, draw-below number (group_place c.args.group) 400 (omega arith))

-- the numbers drawn when the second announcement is made, and the third
second_draws : (n place : ℕ) (d0 d1 : DrawsOf) → d1 ≡ record d0 { drawn = d0.drawn + 5 } → d0 ≡ record { number = n; drawn = place + 3 } → d1 ≡ record { number = n; drawn = place + 8 }
second_draws n place d0 d1 is was =
    let five : place + 3 + 5 ≡ place + 8 = omega arith in
    is ∙ ap (λ (d : DrawsOf). record d { drawn = d.drawn + 5 }) was ∙ ap (λ m. record { number = n; drawn = m }) five

third_draws : (n place : ℕ) (d0 d1 : DrawsOf) → d1 ≡ record d0 { drawn = d0.drawn + 5 } → d0 ≡ record { number = n; drawn = place + 8 } → d1 ≡ record { number = n; drawn = place + 13 }
third_draws n place d0 d1 is was =
    let five : place + 8 + 5 ≡ place + 13 = omega arith in
    is ∙ ap (λ (d : DrawsOf). record d { drawn = d.drawn + 5 }) was ∙ ap (λ m. record { number = n; drawn = m }) five

-- what is announced, by the draws and the router that are known
announced_is : (n group place i router : ℕ) (d : DrawsOf) (routers known : List ℕ) → d ≡ record { number = n; drawn = place } → routers ≡ known → get_or known i 0 ≡ router
    → announced d.number group d.drawn (get_or routers i 0) ≡ announced n group place router
announced_is n group place i router d routers known draws are at =
    (λ j. announced (draws j).number group (draws j).drawn (get_or (are j) i 0)) ∙ ap (announced n group place) at

pub returns-in_err-write_announcement-clause-octets : goal.returns-in_err-write_announcement-clause-octets
unfolding announced
returns-in_err-write_announcement-clause-octets g c =
    let p = err_from_is_err_and c.from_residual.result c.from_residual.ensures.1 in
    let e = c.in_err-write_announcement.field-0.0 in
    let n = c.args.draws.now.number in
    let group = c.args.group in
    let place = group_place group in
    let now = g.K.Sink.taken c.write_announcement.new.sink in
    let first_is = announced_is n group (place + 3) 0 (first_of n group) c.announcers.new.draws c.announcers.result _ c.announcers.ensures.after c.announcers.ensures.routers refl in
    rw (p.1, p.2) (stops_early (announced n group (place + 3) (first_of n group)) (announced n group (place + 8) (second_of n group) ++ (announced n group (place + 13) (third_of n group) ++ [])) _ now e
    (subst (λ (o : List ℕ). WritesPart o (g.K.Sink.taken c.args.sink.now) now e) first_is c.in_err-write_announcement.ensures.octets))

pub returns-in_err-write_announcement-2-clause-octets : goal.returns-in_err-write_announcement-2-clause-octets
unfolding announced
returns-in_err-write_announcement-2-clause-octets g c =
    let p = err_from_is_err_and c.from_residual-in_err-write_announcement-2.result c.from_residual-in_err-write_announcement-2.ensures.1 in
    let e = c.in_err-write_announcement-2.field-0.0 in
    let n = c.args.draws.now.number in
    let group = c.args.group in
    let place = group_place group in
    let before = g.K.Sink.taken c.args.sink.now in
    let mid = g.K.Sink.taken c.write_announcement.new.sink in
    let now = g.K.Sink.taken c.write_announcement-2.new.sink in
    let first_is = announced_is n group (place + 3) 0 (first_of n group) c.announcers.new.draws c.announcers.result _ c.announcers.ensures.after c.announcers.ensures.routers refl in
    let draws = second_draws n place c.announcers.new.draws c.write_announcement.new.draws c.in_ok-write_announcement.ensures.after c.announcers.ensures.after in
    let second_is = announced_is n group (place + 8) 1 (second_of n group) c.write_announcement.new.draws c.announcers.result _ draws c.announcers.ensures.routers refl in
    rw (p.1, p.2) (stops_later (announced n group (place + 3) (first_of n group)) (announced n group (place + 8) (second_of n group) ++ (announced n group (place + 13) (third_of n group) ++ [])) before mid now e
    (c.in_ok-write_announcement.ensures.octets ∙ ap (behind before) first_is)
    (stops_early (announced n group (place + 8) (second_of n group)) (announced n group (place + 13) (third_of n group) ++ []) mid now e
    (subst (λ (o : List ℕ). WritesPart o mid now e) second_is c.in_err-write_announcement-2.ensures.octets)))

pub returns-clause-octets : goal.returns-clause-octets
unfolding announced
returns-clause-octets g c =
    let result = c.write_announcement-3.result in
    let n = c.args.draws.now.number in
    let group = c.args.group in
    let place = group_place group in
    let before = g.K.Sink.taken c.args.sink.now in
    let mid = g.K.Sink.taken c.write_announcement.new.sink in
    let next = g.K.Sink.taken c.write_announcement-2.new.sink in
    let now = g.K.Sink.taken c.write_announcement-3.new.sink in
    let first_is = announced_is n group (place + 3) 0 (first_of n group) c.announcers.new.draws c.announcers.result _ c.announcers.ensures.after c.announcers.ensures.routers refl in
    let draws = second_draws n place c.announcers.new.draws c.write_announcement.new.draws c.in_ok-write_announcement.ensures.after c.announcers.ensures.after in
    let second_is = announced_is n group (place + 8) 1 (second_of n group) c.write_announcement.new.draws c.announcers.result _ draws c.announcers.ensures.routers refl in
    let more = third_draws n place c.write_announcement.new.draws c.write_announcement-2.new.draws c.in_ok-write_announcement-2.ensures.after draws in
    let third_is = announced_is n group (place + 13) 2 (third_of n group) c.write_announcement-2.new.draws c.announcers.result _ more c.announcers.ensures.routers refl in
    then_writes (announced n group (place + 3) (first_of n group)) (announced n group (place + 8) (second_of n group) ++ (announced n group (place + 13) (third_of n group) ++ [])) before mid now result
    (c.in_ok-write_announcement.ensures.octets ∙ ap (behind before) first_is)
    (then_writes (announced n group (place + 8) (second_of n group)) (announced n group (place + 13) (third_of n group) ++ []) mid next now result
    (c.in_ok-write_announcement-2.ensures.octets ∙ ap (behind mid) second_is)
    (subst (λ (o : List ℕ). Writes o next now result) (third_is ∙ sym (append-nil (announced n group (place + 13) (third_of n group)))) c.write_announcement-3.ensures.octets))
