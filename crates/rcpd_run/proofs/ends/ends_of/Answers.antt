use Rattle.std.proofs.Common.{◌≡◌, ◌<◌, ◌+◌, ◌++◌, ◌∷◌, ℕ, List, [], sym, ap, subst, ◌∙◌, arith}
use Rattle.std.proofs.lemmas.List.{map-append}
use Rattle.session_serve.specs.declared.ends.SessionEnd.{SessionEnd}
use Rattle.session_report.specs.Reports.{place_of}
use Rattle.daemon_jobs.specs.declared.session.Served.{Served}
use Rattle.rcpd_run.proofs.EndsLemmas.{ranked_put, place_fits}
use Rattle.rcpd_run.proofs.ends.ends_of.Goals as goal

pub loop-served-preserved : goal.loop-served-preserved
loop-served-preserved g c =
    let so_far = c.loop-served.invariant in
    let place : c.from.result ≡ place_of c.args.routers c.in-Some.served.end.slot = grind (arith, c.from.ensures, c.place_in.ensures) in
    record {
      iterator = (tt, tt);
      ends =
          c.in_ok-push.ensures.items ∙ ap (λ (l : List SessionEnd). l ++ c.in-Some.served.end ∷ []) so_far.ends
          ∙ sym (map-append (λ (served : Served _). served.end) c.loop-served.yielded (c.in-Some.served ∷ []));
      links = ranked_put c.args.routers _ c.loop-served.yielded c.in-Some.served _ _ place
          (subst (λ (n : ℕ). n < c.args.routers + 1) (sym place) (place_fits c.args.routers c.in-Some.served.end.slot)) so_far.links c.in_ok-push_at.ensures;
    }
