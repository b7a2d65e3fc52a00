use Rattle.std.proofs.Common.{◌≡◌, Option, Some, None, [], Bool, false, refl, sym, ap, subst, ◌∙◌}
use Rattle.std.proofs.lemmas.List.Elements.{All-same, All-push}
use Rattle.outside.specs.Fake.{FakeLink}
use Rattle.outside.specs.Links.{IsFresh}
use Rattle.outside.specs.declared.held_link.HeldLink.{HeldLink}
use Rattle.rcpd_run.proofs.tests.links.Links.with.Goals as goal

abbrev IsUnused : FakeLink → Type 0
IsUnused link = IsFresh link.faults link.ends link.empties (Some link.given) (Some link.taken) (Some link.closed)

or : {A : Type 0} → A → Option A → A
or d None = d
or d (Some x) = x

pub invariant_of-result : goal.invariant_of-result
unfolding or
invariant_of-result c = record {
  fresh =
      All-same P _ _ c.in_ok-push.ensures.items (All-push P _ _ c.args.self.fresh (subst IsUnused (sym (c.new-3.ensures ∙ c.new-link.ensures)) (record {
        faults_none = refl;
        ends_none = refl;
        empties_none = refl;
        given_none = λ octets is. ap (or []) (sym is);
        taken_none = λ octets is. ap (or []) (sym is);
        open_still = λ closed is. ap (or false) (sym is);
      })));
}
  where
    P : HeldLink → Type 0
    P link = IsUnused link.link
