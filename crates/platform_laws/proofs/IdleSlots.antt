-- A slot that isn't connected announces nothing and is given nothing, so its Down and its changes are nothing.
use Rattle.std.proofs.Common.{◌≡◌, ℕ, Bool, true, false, cond, not, ◌&&◌, ◌||◌, eqb, Option, None, is_some, refl, sym, ap, ◌∙◌}
use Rattle.std.specs.FinMap as map_of
use Rattle.std.specs.FinSet as set_of
use Rattle.std.specs.List.{list_any}
use Rattle.std.specs.Ordering.{nat_cmp, eq_by_cmp}
use Rattle.std.specs.Cmp.{unsigned_tied}
use Rattle.std.proofs.lemmas.Cmp.{nat_cmp_total}
use Rattle.std.proofs.lemmas.Bool.{or_parts, eqb-true, false≢true}
use Rattle.rcp_base.specs.IpPrefix.{IpPrefix}
use Rattle.rcp_base.specs.Maps.{same_prefix}
use Rattle.rcp_model.specs.Routes.{RouteFields}
use Rattle.rcp_model.specs.ServerRibs.{Reader, RibEvent, Up, Down, Change, Links, Work, Rib, Ribs, at_prefix, with_value, without_slot, prefixes_of, same_values, is_up, has_pending, offered, ribs_after}
use Rattle.rcp_model.proofs.RibLemmas.{prefix_total}
use Rattle.rib_laws.proofs.RibLookups.{same_test, get-with_value, get-without_slot, get-with_each, has_of_prefixes}
use Rattle.rib_laws.proofs.JoinLemmas.{ribs_by_answers}
use Rattle.platform_laws.specs.Parts.{AreIdle}

-- ---- tests

gone_either : (b : Bool) (o : Option RouteFields) → (b ≡ false → o ≡ None) → cond b None o ≡ None
gone_either true o h = refl
gone_either false o h = h refl

unset : (a b : Bool) (x o : Option RouteFields) → b ≡ false → o ≡ None → cond (a && b) x o ≡ None
unset true true x o off none = absurd (false≢true (sym off))
unset true false x o off none = none
unset false b x o off none = none

kept_up : (gone up : Bool) → gone ≡ false → (not gone && up) ≡ false → up ≡ false
kept_up true up left down = absurd (false≢true (sym left))
kept_up false up left down = down

without-none : (slot s : ℕ) (p : IpPrefix) (rib : Rib RouteFields) → (eqb s slot ≡ false → at_prefix rib p s ≡ None) → at_prefix (without_slot slot rib) p s ≡ None
without-none slot s p rib h = get-without_slot slot rib (p, s) ∙ gone_either (eqb s slot) (map_of.get rib (p, s)) h

-- ---- events

module _ (reader : Reader RouteFields) (ribs : Ribs RouteFields) (h : AreIdle ribs) where
  idle-up : (slot : ℕ) → AreIdle (ribs_after reader (Up slot) ribs)
  unfolding ribs_after
  idle-up slot s p down =
      let was = (or_parts (eq_by_cmp nat_cmp s slot) (is_up ribs s) (sym (set_of.contains-insert nat_cmp_total ribs.connected slot s) ∙ down)).1 in
      ((h s p was).0, without-none slot s p ribs.given (λ other. (h s p was).1))

  idle-down : (slot : ℕ) → AreIdle (ribs_after reader (Down slot) ribs)
  unfolding ribs_after
  idle-down slot s p down =
      let was : eqb s slot ≡ false → is_up ribs s ≡ false = λ other.
      kept_up (eq_by_cmp nat_cmp s slot) (is_up ribs s) (unsigned_tied s slot ∙ other) (sym (set_of.contains-remove nat_cmp_total ribs.connected slot s) ∙ down) in
      (without-none slot s p ribs.announced (λ other. (h s p (was other)).0), without-none slot s p ribs.given (λ other. (h s p (was other)).1))

  other_slot : (s slot : ℕ) → is_up ribs slot ≡ true → is_up ribs s ≡ false → eqb s slot ≡ false
  other_slot s slot up down = at_test (eqb s slot) refl where
    at_test : (b : Bool) → eqb s slot ≡ b → b ≡ false
    at_test true same = absurd (false≢true (sym down ∙ ap (is_up ribs) (eqb-true s slot same) ∙ up))
    at_test false other = refl

  idle-change : (slot : ℕ) (q : IpPrefix) (value : Option RouteFields) → AreIdle (ribs_after reader (Change slot q value) ribs)
  unfolding ribs_after
  idle-change slot q value = at_test (is_up ribs slot) refl (not (same_values reader.same (map_of.get ribs.announced (q, slot)) value)) where
    at_test : (up : Bool) → is_up ribs slot ≡ up → (b : Bool) → AreIdle (cond (up && b) (record ribs { announced = with_value (q, slot) value ribs.announced; pending = set_of.insert ribs.pending q }) ribs)
    at_test true up true = λ s p down. (
      get-with_value (q, slot) value ribs.announced (p, s)
          ∙ unset (same_prefix p q) (eqb s slot) value (map_of.get ribs.announced (p, s)) (other_slot s slot up down) (h s p down).0,
      (h s p down).1,
    )
    at_test true up false = h
    at_test false up b = h

  idle-work : (q : IpPrefix) → AreIdle (ribs_after reader (Work q) ribs)
  unfolding ribs_after
  idle-work q s p down = (
    (h s p down).0,
    get-with_each q (offered reader ribs q) (set_of.items ribs.connected) ribs.given (p, s)
        ∙ unset (same_prefix p q) (list_any (eq_by_cmp nat_cmp s) (set_of.items ribs.connected)) (offered reader ribs q s) (map_of.get ribs.given (p, s))
        (sym (set_of.contains-items ribs.connected s) ∙ down) (h s p down).1,
  )

  pub idle-after : (event : RibEvent RouteFields) → AreIdle (ribs_after reader event ribs)
  unfolding ribs_after
  idle-after (Up slot) = idle-up slot
  idle-after (Down slot) = idle-down slot
  idle-after (Change slot q value) = idle-change slot q value
  idle-after (Links edges) = h
  idle-after (Work q) = idle-work q

  -- ---- what an idle slot does

  pub change-idle : (slot : ℕ) (q : IpPrefix) (value : Option RouteFields) → is_up ribs slot ≡ false → ribs_after reader (Change slot q value) ribs ≡ ribs
  unfolding ribs_after
  change-idle slot q value down =
      ap (λ b. cond (b && not (same_values reader.same (map_of.get ribs.announced (q, slot)) value))
      (record ribs { announced = with_value (q, slot) value ribs.announced; pending = set_of.insert ribs.pending q }) ribs) down

  same_either : (b : Bool) (o : Option RouteFields) → (b ≡ true → o ≡ None) → cond b None o ≡ o
  same_either true o none = sym (none refl)
  same_either false o none = refl

  or-nothing : (b c : Bool) → c ≡ false → (b || c) ≡ b
  or-nothing true c none = refl
  or-nothing false c none = none

  pub down-idle : (slot : ℕ) → is_up ribs slot ≡ false → ribs_after reader (Down slot) ribs ≡ ribs
  unfolding ribs_after
  down-idle slot down = ribs_by_answers (ribs_after reader (Down slot) ribs) ribs
      (λ s. set_of.contains-remove nat_cmp_total ribs.connected slot s ∙ ap (λ b. not b && is_up ribs s) (unsigned_tied s slot)
      ∙ up_test (eqb s slot) (is_up ribs s) (λ same. ap (is_up ribs) (eqb-true s slot same) ∙ down))
      (λ p s. get-without_slot slot ribs.announced (p, s) ∙ same_either (eqb s slot) (map_of.get ribs.announced (p, s)) (λ same. (h s p (ap (is_up ribs) (eqb-true s slot same) ∙ down)).0))
      (λ p s. get-without_slot slot ribs.given (p, s) ∙ same_either (eqb s slot) (map_of.get ribs.given (p, s)) (λ same. (h s p (ap (is_up ribs) (eqb-true s slot same) ∙ down)).1))
      (λ p. set_of.contains-union prefix_total ribs.pending (prefixes_of (λ e. eqb e slot) ribs.announced) p
      ∙ or-nothing (has_pending ribs p) (set_of.contains (prefixes_of (λ e. eqb e slot) ribs.announced) p) (none p))
      refl where
        up_test : (b up : Bool) → (b ≡ true → up ≡ false) → (not b && up) ≡ up
        up_test true up h = sym (h refl)
        up_test false up h = refl

        none : (p : IpPrefix) → set_of.contains (prefixes_of (λ e. eqb e slot) ribs.announced) p ≡ false
        none p = same_test (set_of.contains (prefixes_of (λ e. eqb e slot) ribs.announced) p) false
            (λ inside.
            let has = has_of_prefixes (λ e. eqb e slot) ribs.announced p inside in
            sym (ap is_some (h has.slot p (ap (is_up ribs) (eqb-true has.slot slot has.passes) ∙ down)).0) ∙ has.there)
            (λ no_way. absurd (false≢true no_way))
