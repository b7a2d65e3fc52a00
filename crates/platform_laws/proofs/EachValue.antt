-- What holds of all that is announced holds of all that is given, whatever happens.
use Rattle.std.proofs.Common.{◌≡◌, ℕ, Bool, true, false, cond, eqb, ◌&&◌, List, Option, Some, None, IfSome, sym, subst}
use Rattle.std.specs.FinMap as map_of
use Rattle.std.specs.FinSet as set_of
use Rattle.std.specs.List.{list_any}
use Rattle.std.specs.Ordering.{nat_cmp, eq_by_cmp}
use Rattle.rcp_base.specs.IpPrefix.{IpPrefix}
use Rattle.rcp_base.specs.declared.names.Edge.{Edge}
use Rattle.rcp_base.specs.Maps.{same_prefix}
use Rattle.rcp_model.specs.RouteServer.{slot_cost}
use Rattle.rcp_model.specs.Decision.{choice}
use Rattle.rcp_model.specs.ServerRibs.{Values, Reader, contenders_from, of_other, offer_of, RibEvent, Up, Down, Change, Links, Work, Rib, Ribs, at_prefix, with_value, without_slot, is_up, offered, ribs_after}
use Rattle.rib_laws.proofs.RibLookups.{get-with_value, get-without_slot, get-with_each}
use Rattle.platform_laws.specs.Parts.{Announces, HaveEach}

module _ {V : Type 0} (P : V → Type 0) where
  pub if_cond : (b : Bool) (x y : Option V) → IfSome x P → IfSome y P → IfSome (cond b x y) P
  if_cond true x y h g = h
  if_cond false x y h g = g

  pub if_same : (x y : Option V) → x ≡ y → IfSome x P → IfSome y P
  if_same x y same h = subst (λ o. IfSome o P) same h

  without-each : (slot : ℕ) (rib : Rib V) → ((p : IpPrefix) (s : ℕ) → IfSome (at_prefix rib p s) P) → (p : IpPrefix) (s : ℕ) → IfSome (at_prefix (without_slot slot rib) p s) P
  without-each slot rib h p s =
      if_same (cond (eqb s slot) None (map_of.get rib (p, s))) (at_prefix (without_slot slot rib) p s) (sym (get-without_slot slot rib (p, s)))
      (if_cond (eqb s slot) None (map_of.get rib (p, s)) tt (h p s))

  other-each : (slot : ℕ) (values : Values V) (chosen : Option ℕ) → ((s : ℕ) → IfSome (values s) P) → IfSome (of_other slot values chosen) P
  other-each slot values None h = tt
  other-each slot values (Some chosen) h = if_cond (eqb chosen slot) None (values chosen) tt (h chosen)

  -- what is offered is announced
  pub offer-each : (reader : Reader V) (values : Values V) (edges : List Edge) (s : ℕ) → ((e : ℕ) → IfSome (values e) P) → IfSome (offer_of reader values edges s) P
  unfolding offer_of
  offer-each reader values edges s h =
      other-each s values (choice s (slot_cost edges reader.members s) (contenders_from reader.route values (slot_cost edges reader.members s) 0 reader.members)) h

  each-change : (reader : Reader V) (slot : ℕ) (q : IpPrefix) (value : Option V) (ribs : Ribs V) → IfSome value P → HaveEach P ribs → HaveEach P (ribs_after reader (Change slot q value) ribs)
  unfolding ribs_after
  each-change reader slot q value ribs good h = at_test (is_up ribs slot && _) where
    at_test : (b : Bool) → HaveEach P (cond b (record ribs { announced = with_value (q, slot) value ribs.announced; pending = set_of.insert ribs.pending q }) ribs)
    at_test true = record {
      announced = λ p s.
          if_same (cond (same_prefix p q && eqb s slot) value (map_of.get ribs.announced (p, s))) (at_prefix (with_value (q, slot) value ribs.announced) p s)
          (sym (get-with_value (q, slot) value ribs.announced (p, s)))
          (if_cond (same_prefix p q && eqb s slot) value (map_of.get ribs.announced (p, s)) good (h.announced p s));
      given = h.given;
    }
    at_test false = h

  each-work : (reader : Reader V) (q : IpPrefix) (ribs : Ribs V) → HaveEach P ribs → HaveEach P (ribs_after reader (Work q) ribs)
  unfolding ribs_after
  each-work reader q ribs h = record {
    announced = h.announced;
    given = λ p s.
        let here = same_prefix p q && list_any (eq_by_cmp nat_cmp s) (set_of.items ribs.connected) in
        if_same (cond here (offered reader ribs q s) (map_of.get ribs.given (p, s))) (map_of.get (ribs_after reader (Work q) ribs).given (p, s))
        (sym (get-with_each q (offered reader ribs q) (set_of.items ribs.connected) ribs.given (p, s)))
        (if_cond here (offered reader ribs q s) (map_of.get ribs.given (p, s)) (offer-each reader (at_prefix ribs.announced q) ribs.edges s (h.announced q)) (h.given p s));
  }

  pub each-after : (reader : Reader V) (event : RibEvent V) (ribs : Ribs V) → Announces P event → HaveEach P ribs → HaveEach P (ribs_after reader event ribs)
  unfolding ribs_after
  each-after reader (Up slot) ribs good h = record { announced = h.announced; given = without-each slot ribs.given h.given }
  each-after reader (Down slot) ribs good h = record { announced = without-each slot ribs.announced h.announced; given = without-each slot ribs.given h.given }
  each-after reader (Change slot q value) ribs good h = each-change reader slot q value ribs good h
  each-after reader (Links edges) ribs good h = record { announced = h.announced; given = h.given }
  each-after reader (Work q) ribs good h = each-work reader q ribs h
