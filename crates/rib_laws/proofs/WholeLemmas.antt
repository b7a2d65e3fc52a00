-- The parts of a server determine the whole, its least pending prefix of a number is that part's, and prefixes may be worked in any order.
use Rattle.std.proofs.Common.{◌≡◌, ℕ, ◌<◌, Bool, true, false, cond, not, ◌&&◌, ◌||◌, ◌↔◌, eqb, List, [], ◌∷◌, map, Option, Some, None, refl, sym, ap, ◌∙◌}
use Rattle.std.specs.FinMap as map_of
use Rattle.std.specs.FinSet as set_of
use Rattle.std.proofs.lemmas.Bool.{and_parts, and_from, eqb-true, eq-eqb}
use Rattle.rcp_base.specs.IpPrefix.{IpPrefix, prefix_cmp}
use Rattle.rcp_base.specs.Maps.{same_prefix, is_among}
use Rattle.rcp_model.specs.Assigned.{IsLeast}
use Rattle.rcp_model.specs.ServerRibs.{Reader, Rib, Ribs, RibEvent, Work, at_prefix, is_up, has_pending, offered, ribs_after, ribs_after_all, part, is_of}
use Rattle.rcp_base.proofs.MapLemmas.{same_prefix-is}
use Rattle.rcp_model.proofs.RibLemmas.{prefix_total}
use Rattle.rib_laws.proofs.RibLookups.{prefix_tied, get-with_each}
use Rattle.rib_laws.proofs.JoinLemmas.{ribs_by_answers}
use Rattle.rib_laws.proofs.PartLemmas.{get-owned, contains-owned}

-- ---- the whole from its parts

and-true : (b : Bool) → (b && true) ≡ b
and-true true = refl
and-true false = refl

module _ (rule : IpPrefix → ℕ) (count : ℕ) (below : (p : IpPrefix) → rule p < count) where
  own : (p : IpPrefix) → is_of rule (rule p) p ≡ true
  own p = eq-eqb (rule p) (rule p) refl

  found : {V : Type 0} (rib : Rib V) (p : IpPrefix) (s : ℕ) → at_prefix (map_of.retain_keys rib (λ key. is_of rule (rule p) key.0)) p s ≡ at_prefix rib p s
  found rib p s = get-owned (is_of rule (rule p)) rib p s ∙ ap (λ b. cond b (map_of.get rib (p, s)) None) (own p)

  waits : (ps : set_of.FinSet prefix_cmp) (p : IpPrefix) → set_of.contains (set_of.retain ps (is_of rule (rule p))) p ≡ set_of.contains ps p
  waits ps p = contains-owned (is_of rule (rule p)) ps p ∙ ap (λ b. set_of.contains ps p && b) (own p) ∙ and-true (set_of.contains ps p)

  pub whole : {V : Type 0} (a b : Ribs V) → ((n : ℕ) → n < count → part (is_of rule n) a ≡ part (is_of rule n) b) → a ≡ b
  whole {V} a b alike =
      let any : IpPrefix = record { addr = 0; len = 0 } in
      let first = alike (rule any) (below any) in
      ribs_by_answers a b
      (λ s. ap (λ (r : Ribs V). is_up r s) first)
      (λ p s. sym (found a.announced p s) ∙ ap (λ (r : Ribs V). at_prefix r.announced p s) (alike (rule p) (below p)) ∙ found b.announced p s)
      (λ p s. sym (found a.given p s) ∙ ap (λ (r : Ribs V). at_prefix r.given p s) (alike (rule p) (below p)) ∙ found b.given p s)
      (λ p. sym (waits a.pending p) ∙ ap (λ (r : Ribs V). has_pending r p) (alike (rule p) (below p)) ∙ waits b.pending p)
      (ap (λ (r : Ribs V). r.edges) first)

-- ---- the least pending prefix of a number

least_alike : (P Q : IpPrefix → Type 0) → ((p : IpPrefix) → P p → Q p) → ((p : IpPrefix) → Q p → P p) → (least : Option IpPrefix) → IsLeast P least → IsLeast Q least
least_alike P Q to from None h = λ q holds. h q (from q holds)
least_alike P Q to from (Some p) h = (to p h.0, λ q holds before. h.1 q (from q holds) before)

pub least_of_part : {V : Type 0} (rule : IpPrefix → ℕ) (number : ℕ) (ribs : Ribs V) (least : Option IpPrefix)
    → IsLeast (λ p. (has_pending ribs p ≡ true) × (rule p ≡ number)) least ↔ IsLeast (λ p. has_pending (part (is_of rule number) ribs) p ≡ true) least
least_of_part rule number ribs least = (
  least_alike (λ p. (has_pending ribs p ≡ true) × (rule p ≡ number)) (λ p. has_pending (part (is_of rule number) ribs) p ≡ true) to from least,
  least_alike (λ p. has_pending (part (is_of rule number) ribs) p ≡ true) (λ p. (has_pending ribs p ≡ true) × (rule p ≡ number)) from to least,
) where
  to : (p : IpPrefix) → (has_pending ribs p ≡ true) × (rule p ≡ number) → has_pending (part (is_of rule number) ribs) p ≡ true
  to p both = contains-owned (is_of rule number) ribs.pending p ∙ and_from (has_pending ribs p) (eqb (rule p) number) both.0 (eq-eqb (rule p) number both.1)

  from : (p : IpPrefix) → has_pending (part (is_of rule number) ribs) p ≡ true → (has_pending ribs p ≡ true) × (rule p ≡ number)
  from p inside =
      let parts = and_parts (has_pending ribs p) (eqb (rule p) number) (sym (contains-owned (is_of rule number) ribs.pending p) ∙ inside) in
      (parts.0, eqb-true (rule p) number parts.1)

-- ---- work in any order

-- a list of prefixes worked: each connected slot has the offers there, and they aren't pending
record Worked {V : Type 0} (reader : Reader V) (prefixes : List IpPrefix) (before now : Ribs V) : Type 0 where
  connected : now.connected ≡ before.connected
  announced : now.announced ≡ before.announced
  edges : now.edges ≡ before.edges
  given : (p : IpPrefix) (s : ℕ) → at_prefix now.given p s ≡ cond (is_among prefixes p && is_up before s) (offered reader before p s) (at_prefix before.given p s)
  pending : (p : IpPrefix) → has_pending now p ≡ (not (is_among prefixes p) && has_pending before p)

abbrev works : {V : Type 0} → List IpPrefix → List (RibEvent V)
works prefixes = map (λ p. Work p) prefixes

given_case : {A : Type 0} (here later up : Bool) (x y z : A) → (here ≡ true → x ≡ y) → cond (later && up) y (cond (here && up) x z) ≡ cond ((here || later) && up) y z
given_case true true true x y z same = refl
given_case true true false x y z same = refl
given_case true false true x y z same = same refl
given_case true false false x y z same = refl
given_case false later up x y z same = refl

pending_case : (here later b : Bool) → (not later && (not here && b)) ≡ (not (here || later) && b)
pending_case true true b = refl
pending_case true false b = refl
pending_case false later b = refl

worked_all : {V : Type 0} (reader : Reader V) (prefixes : List IpPrefix) (ribs : Ribs V) → Worked reader prefixes ribs (ribs_after_all reader (works prefixes) ribs)
unfolding ribs_after ribs_after_all
worked_all reader [] ribs = record { connected = refl; announced = refl; edges = refl; given = λ p s. refl; pending = λ p. refl }
worked_all reader (q ∷ prefixes) ribs =
    let next = ribs_after reader (Work q) ribs in
    let rest = worked_all reader prefixes next in
    record {
      connected = rest.connected;
      announced = rest.announced;
      edges = rest.edges;
      given = λ p s.
          rest.given p s
          ∙ ap (cond (is_among prefixes p && is_up ribs s) (offered reader ribs p s))
          (get-with_each q (offered reader ribs q) (set_of.items ribs.connected) ribs.given (p, s)
          ∙ ap (λ b. cond (same_prefix p q && b) (offered reader ribs q s) (at_prefix ribs.given p s)) (sym (set_of.contains-items ribs.connected s)))
          ∙ given_case (same_prefix p q) (is_among prefixes p) (is_up ribs s) (offered reader ribs q s) (offered reader ribs p s) (at_prefix ribs.given p s)
          (λ e. ap (λ r. offered reader ribs r s) (sym (same_prefix-is p q e)));
      pending = λ p.
          rest.pending p
          ∙ ap (λ b. not (is_among prefixes p) && b) (set_of.contains-remove prefix_total ribs.pending q p ∙ ap (λ b. not b && has_pending ribs p) (prefix_tied p q))
          ∙ pending_case (same_prefix p q) (is_among prefixes p) (has_pending ribs p);
    }

-- the same prefixes in any order, and any number of times each
pub any_order : {V : Type 0} (reader : Reader V) (ps qs : List IpPrefix) (ribs : Ribs V) → ((p : IpPrefix) → is_among ps p ≡ is_among qs p)
    → ribs_after_all reader (map (λ p. Work p) ps) ribs ≡ ribs_after_all reader (map (λ p. Work p) qs) ribs
any_order {V} reader ps qs ribs same =
    let a = worked_all reader ps ribs in
    let b = worked_all reader qs ribs in
    ribs_by_answers (ribs_after_all reader (works ps) ribs) (ribs_after_all reader (works qs) ribs)
    (λ s. ap (λ c. set_of.contains c s) (a.connected ∙ sym b.connected))
    (λ p s. ap (λ (rib : Rib V). at_prefix rib p s) (a.announced ∙ sym b.announced))
    (λ p s. a.given p s ∙ ap (λ t. cond (t && is_up ribs s) (offered reader ribs p s) (at_prefix ribs.given p s)) (same p) ∙ sym (b.given p s))
    (λ p. a.pending p ∙ ap (λ t. not t && has_pending ribs p) (same p) ∙ sym (b.pending p))
    (a.edges ∙ sym b.edges)
