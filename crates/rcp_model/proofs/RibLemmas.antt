-- The orders of prefixes and of the keys of a routing information base: each is total, and only equal keys tie.
use Rattle.std.proofs.Common.{◌≡◌, ℕ, Bool, ◌&&◌, eqb, refl, ap, ◌∙◌}
use Rattle.std.specs.Cmp.{IsTotalOrder, unsigned_tied}
use Rattle.std.specs.FinMap.{IsAntisymmetric}
use Rattle.std.specs.Ordering.{nat_cmp, eq_by_cmp, is_eq, ordering_then}
use Rattle.std.specs.declared.cmp.Ordering.{Ordering}
use Rattle.std.specs.declared.cmp.Ordering.TheVariants.{Less, Equal, Greater}
use Rattle.std.proofs.lemmas.Cmp.{nat_cmp_total, on_total, then_total}
use Rattle.std.proofs.lemmas.Map.Lookups.{exact_unsigned, exact_pairs}
use Rattle.rcp_base.specs.IpPrefix.{IpPrefix, prefix_cmp}
use Rattle.rcp_model.specs.Ribs.{RibKey, rib_cmp}

pub prefix_total : IsTotalOrder prefix_cmp
prefix_total = then_total (on_total (λ (p : IpPrefix). p.addr) nat_cmp_total) (on_total (λ (p : IpPrefix). p.len) nat_cmp_total)

pub prefix_exact : IsAntisymmetric prefix_cmp
prefix_exact p q tied =
    ap (λ (n : ℕ × ℕ). let r : IpPrefix = record { addr = n.0; len = n.1 } in r) (exact_pairs nat_cmp nat_cmp exact_unsigned exact_unsigned (p.addr, p.len) (q.addr, q.len) tied)

pub rib_total : IsTotalOrder rib_cmp
rib_total = then_total (on_total (λ (k : RibKey). k.0) prefix_total) (on_total (λ (k : RibKey). k.1) nat_cmp_total)

pub rib_exact : IsAntisymmetric rib_cmp
rib_exact a b tied = exact_pairs prefix_cmp nat_cmp prefix_exact exact_unsigned a b tied

-- ---- ties by their parts

tied_then : (first second : Ordering) → is_eq (ordering_then first second) ≡ (is_eq first && is_eq second)
tied_then Less second = refl
tied_then Equal second = refl
tied_then Greater second = refl

pub rib_tied : (a b : RibKey) → eq_by_cmp rib_cmp a b ≡ (eq_by_cmp prefix_cmp a.0 b.0 && eqb a.1 b.1)
rib_tied a b = tied_then (prefix_cmp a.0 b.0) (nat_cmp a.1 b.1) ∙ ap (λ (t : Bool). eq_by_cmp prefix_cmp a.0 b.0 && t) (unsigned_tied a.1 b.1)
