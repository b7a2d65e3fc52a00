use Rattle.std.proofs.Common.{◌⊎◌, inl, inr, ◌≡◌, Result, Ok, Err, OnErr, refl, sym, ap, subst, ◌∙◌}
use Rattle.rcp_model.specs.LinkState.{RouterLsa, LinkState, installed}
use Rattle.lsdb.specs.declared.recency.Installed.{Installed}
use Rattle.lsdb.specs.declared.recency.Installed.TheVariants as installed_as
use Rattle.lsdb.specs.Answers.{installation_of}
use Rattle.lsdb.specs.Databases.{Database, Holds}
use Rattle.lsdb.proofs.Installing.{ChangesNothing, kept-removed, kept-changed, newer-place, same-installation, holds-newer, holds-flushed, holds-still}
use Rattle.lsdb.proofs.database.Lsdb.install.Goals as goal

pub invariant_of-self : goal.invariant_of-self
invariant_of-self c =
    kept-changed c.args.lsa.key _ c.self.inside.routers.entries c.keep.new.routers.entries c.in_ok-keep-in-Newer.ensures.ok refl c.self.invariant
    (newer-place c.args.now c.args.lsa c.self.inside.routers.entries c.self.invariant (ap installation_of (sym c.in-Newer.is) ∙ c.judge-answer.ensures))

pub invariant_of-self-in-Flushed-1 : goal.invariant_of-self-in-Flushed-1
invariant_of-self-in-Flushed-1 c = kept-removed c.lsa.inside.router c.self.inside.routers.entries c.remove.new.routers.entries c.remove.ensures c.self.invariant

pub returns-in_ok-keep-in-Newer-clause-answer : goal.returns-in_ok-keep-in-Newer-clause-answer
returns-in_ok-keep-in-Newer-clause-answer c state holds =
    c.judge-answer.ensures
    ∙ same-installation c.args.now c.args.lsa c.self.inside.routers.entries state c.self.invariant (subst (λ (d : Database). Holds d.state state) (sym c.self.view_is) holds)

pub returns-in_ok-keep-in-Newer-clause-after : goal.returns-in_ok-keep-in-Newer-clause-after
returns-in_ok-keep-in-Newer-clause-after c state holds =
    holds-newer c.args.now c.args.lsa c.args.lsa.key c.self.inside.routers.entries c.keep.new.routers.entries state c.self.invariant
    (subst (λ (d : Database). Holds d.state state) (sym c.self.view_is) holds) refl c.in_ok-keep-in-Newer.ensures.ok (ap installation_of (sym c.in-Newer.is) ∙ c.judge-answer.ensures)

pub returns-in-Flushed-clause-answer : goal.returns-in-Flushed-clause-answer
returns-in-Flushed-clause-answer c state holds =
    c.judge-answer.ensures
    ∙ same-installation c.args.now c.args.lsa c.self.inside.routers.entries state c.self.invariant (subst (λ (d : Database). Holds d.state state) (sym c.self.view_is) holds)

pub returns-in-Flushed-clause-after : goal.returns-in-Flushed-clause-after
returns-in-Flushed-clause-after c state holds =
    holds-flushed c.args.now c.args.lsa c.lsa.inside.router c.self.inside.routers.entries c.remove.new.routers.entries state c.self.invariant
    (subst (λ (d : Database). Holds d.state state) (sym c.self.view_is) holds) (ap (λ (l : RouterLsa). l.key) c.lsa.view_is) c.remove.ensures (ap installation_of (sym c.in-Flushed.is) ∙ c.judge-answer.ensures)

pub returns-in-Same : goal.returns-in-Same
returns-in-Same c = record {
  answer = λ state holds. c.judge-answer.ensures ∙ same-installation c.args.now c.args.lsa c.self.inside.routers.entries state c.self.invariant (held c.self.view_is holds);
  after = λ state holds. subst (λ (d : Database). Holds d.state (installed c.args.now c.args.lsa state)) c.self.view_is
      (holds-still c.args.now c.args.lsa c.self.inside.routers.entries state c.self.invariant (held c.self.view_is holds) (installation_of c.judge-answer.result) (still c.judge-answer.result c.in-Same.is) c.judge-answer.ensures);
  moment = refl;
  err = tt;
  no_memory = tt;
} where
  held : {a b : Database} → {state : LinkState} → a ≡ b → Holds b.state state → Holds a.state state
  held {state} is holds = subst (λ (d : Database). Holds d.state state) (sym is) holds

  still : (told : Installed) → (told ≡ installed_as.Same) ⊎ ((told ≡ installed_as.Older) ⊎ (told ≡ installed_as.Dropped)) → ChangesNothing (installation_of told)
  still told (inl is) = rw is tt
  still told (inr (inl is)) = rw is tt
  still told (inr (inr is)) = rw is tt

pub returns-in_err-keep-in-Newer-clause-no_memory : goal.returns-in_err-keep-in-Newer-clause-no_memory
returns-in_err-keep-in-Newer-clause-no_memory c = on_err c.from_residual.result _ (λ state holds.
    sym (same-installation c.args.now c.args.lsa c.self.inside.routers.entries state c.self.invariant (subst (λ (d : Database). Holds d.state state) (sym c.self.view_is) holds))
    ∙ sym (ap installation_of (sym c.in-Newer.is) ∙ c.judge-answer.ensures)) where
      on_err : {T E : Type 0} (r : Result T E) (P : Type 0) → P → OnErr r P
      on_err (Ok x) P p = tt
      on_err (Err e) P p = p
