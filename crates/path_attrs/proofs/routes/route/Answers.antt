use Rattle.std.proofs.Common.{◌≡◌, length, [], ltb, sym, ap, ◌∙◌, refl, arith}
use Rattle.std.specs.Prelude.{unwrap_or, sum_by, ◌==◌}
use Rattle.std.specs.Int.{w8, from_be_bytes}
use Rattle.std.specs.List.{list_any}
use Rattle.rcp_model.specs.Attributes.{ORIGIN, NEXT_HOP, MULTI_EXIT_DISC, LOCAL_PREF, value_of, canonical_octets, number_width}
use Rattle.rcp_model.specs.Routes.{number_or, path_of, hops_of, neighbour_of, is_long, route_of}
use Rattle.rcp_model.proofs.CanonicalLemmas.{canonical_octets_again}
use Rattle.rcp_model.proofs.RouteLemmas.{has_route_again}
use Rattle.path_attrs.proofs.Hops.{hops_fit, value_fits, all_short}
use Rattle.path_attrs.proofs.routes.route.Goals as goal

pub hops-requires : goal.hops-requires
hops-requires c =
    let value = rw c.values-values.ensures.values at c.segments-path.ensures.value in
    omega (arith, hops_fit c.segments-path.result.now, value_fits 2 c.args.attrs.now _ value, c.values-values.ensures.kept.short)

pub returns : goal.returns
unfolding route_of
returns c =
    let attrs = c.args.attrs.now in
    let shown = c.values-values.ensures.values in
    let path : c.segments-path.result.now ≡ path_of number_width c.args.attrs.now = sym (rw shown at c.segments-path.ensures.segments) in
    let pref : c.local_pref.result ≡ number_or 100 (value_of LOCAL_PREF c.args.attrs.now) = rw shown at c.local_pref.ensures in
    let hops : c.hops.result ≡ sum_by hops_of (path_of number_width c.args.attrs.now) = rw path at c.hops.ensures in
    let origin : c.origin.result ≡ from_be_bytes w8 (unwrap_or (value_of ORIGIN c.args.attrs.now) []) = rw shown at c.origin.ensures in
    let neighbour : c.neighbour.result ≡ neighbour_of c.args.local_as (path_of number_width c.args.attrs.now) = rw path at c.neighbour.ensures in
    let med : c.multi_exit_disc.result ≡ number_or 0 (value_of MULTI_EXIT_DISC c.args.attrs.now) = rw shown at c.multi_exit_disc.ensures in
    let looped : c.passes.result ≡ list_any (λ segment. list_any (λ n. n == c.args.local_as) segment.numbers) (path_of number_width c.args.attrs.now) = rw path at c.passes.ensures in
    let long : c.is_long.result ≡ is_long (canonical_octets c.args.attrs.now) = c.is_long.ensures ∙ ap (ltb 4068) (c.len.ensures ∙ sym c.deref.ensures.len ∙ ap length (c.deref.ensures.value ∙ c.in_ok-octets.ensures)) in
    let next_hop : c.next_hop.result ≡ number_or 0 (value_of NEXT_HOP c.args.attrs.now) = rw shown at c.next_hop.ensures in
    let octets : c.in_ok-shared.field-0.value ≡ canonical_octets c.args.attrs.now = c.in_ok-shared.ensures ∙ c.deref.ensures.value ∙ c.in_ok-octets.ensures in
    rw (pref, hops, origin, neighbour, med, looped, long, next_hop, octets) refl

pub invariant_of-result : goal.invariant_of-result
invariant_of-result c =
    let octets : c.in_ok-shared.field-0.value ≡ canonical_octets c.args.attrs.now = c.in_ok-shared.ensures ∙ c.deref.ensures.value ∙ c.in_ok-octets.ensures in
    let short = all_short c.args.attrs.now (omega (arith, c.values-values.ensures.kept.short)) in
    record {
      canonical_attrs = rw octets (canonical_octets_again c.args.attrs.now short);
      complete = rw octets (has_route_again c.args.attrs.now short ∙ c.requires);
      long_is = rw octets (c.is_long.ensures ∙ ap (ltb 4068) (c.len.ensures ∙ sym c.deref.ensures.len ∙ ap length (c.deref.ensures.value ∙ c.in_ok-octets.ensures)));
    }
