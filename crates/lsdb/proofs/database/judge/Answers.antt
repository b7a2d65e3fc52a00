use Rattle.std.proofs.Common.{sym, ap, ◌∙◌}
use Rattle.rcp_model.specs.LinkState.{RouterLsa}
use Rattle.lsdb.proofs.MapOrder.{lookup_is}
use Rattle.lsdb.proofs.Answering.{answer-kept, answer-flushed, answer-dropped, answer-newer}
use Rattle.lsdb.proofs.database.judge.Goals as goal

pub returns-in-Some : goal.returns-in-Some
returns-in-Some c = c.against.ensures ∙
    answer-kept c.args.now c.args.lsa.now c.lsa.inside.router c.args.routers.now.entries c.in-Some.instance.now _ _ (ap (λ (l : RouterLsa). l.key) c.lsa.view_is)
    (sym (lookup_is c.lsa.inside.router c.args.routers.now.entries) ∙ sym c.in-Some.ensures.value) c.header.ensures c.header_at.ensures

pub returns-in-None : goal.returns-in-None
returns-in-None c =
    answer-flushed c.args.now c.args.lsa.now c.lsa.inside.router c.args.routers.now.entries (ap (λ (l : RouterLsa). l.key) c.lsa.view_is)
    (sym (lookup_is c.lsa.inside.router c.args.routers.now.entries) ∙ sym c.in-None.ensures.value) c.lsa.inside.age (ap (λ (l : RouterLsa). l.header.age) c.lsa.view_is) c.if-lsa-ge-MAX_AGE.true

pub returns-in-None-2 : goal.returns-in-None-2
returns-in-None-2 c =
    answer-dropped c.args.now c.args.lsa.now c.lsa.inside.router c.args.routers.now.entries (ap (λ (l : RouterLsa). l.key) c.lsa.view_is)
    (sym (lookup_is c.lsa.inside.router c.args.routers.now.entries) ∙ sym c.in-None.ensures.value) c.lsa.inside.age (ap (λ (l : RouterLsa). l.header.age) c.lsa.view_is) c.if-lsa-ge-MAX_AGE.false
    c.len.result c.len.ensures.len c.if-len-ge-MOST_ROUTERS.true

pub returns-in-None-3 : goal.returns-in-None-3
returns-in-None-3 c =
    answer-newer c.args.now c.args.lsa.now c.lsa.inside.router c.args.routers.now.entries (ap (λ (l : RouterLsa). l.key) c.lsa.view_is)
    (sym (lookup_is c.lsa.inside.router c.args.routers.now.entries) ∙ sym c.in-None.ensures.value) c.lsa.inside.age (ap (λ (l : RouterLsa). l.header.age) c.lsa.view_is) c.if-lsa-ge-MAX_AGE.false
    c.len.result c.len.ensures.len c.if-len-ge-MOST_ROUTERS.false
