-- Parts of a server: an event acts on a part as on the whole, where it concerns the part, and else leaves it.
use Rattle.std.proofs.Common.{◌≡◌, ℕ, Bool, true, false, cond, not, ◌&&◌, ◌||◌, eqb, List, [], ◌∷◌, length, Option, None, is_some, refl, sym, ap, ◌∙◌}
use Rattle.std.specs.Prelude.{filter}
use Rattle.std.specs.FinMap as map_of
use Rattle.std.specs.FinSet as set_of
use Rattle.std.specs.List.{list_any}
use Rattle.std.specs.Ordering.{nat_cmp, eq_by_cmp}
use Rattle.std.proofs.lemmas.Bool.{and_parts, false≢true}
use Rattle.rcp_base.specs.IpPrefix.{IpPrefix, prefix_cmp}
use Rattle.rcp_base.specs.declared.names.Edge.{Edge}
use Rattle.rcp_base.specs.Maps.{same_prefix}
use Rattle.rcp_model.specs.RouteServer.{cost_differs}
use Rattle.rcp_model.specs.ServerRibs.{Reader, Rib, Ribs, RibEvent, Up, Down, Change, Links, Work, same_values, offer_of, at_prefix, with_value, without_slot, prefixes_of, with_each, is_up, has_pending, offered, ribs_after, ribs_after_all, part, concerns}
use Rattle.rcp_base.proofs.MapLemmas.{same_prefix-is}
use Rattle.rcp_model.proofs.RibLemmas.{prefix_total, prefix_exact}
use Rattle.rib_laws.proofs.RibLookups.{same_test, prefix_tied, get-with_value, get-retained, get-without_slot, get-with_each, Has, has_of_prefixes, prefixes_of_has}
use Rattle.rib_laws.proofs.JoinLemmas.{ribs_by_answers}

-- ---- small facts on tests

apart : {A : Type 0} (a b : Bool) (x : Option A) → cond a (cond b None x) None ≡ cond b None (cond a x None)
apart true b x = refl
apart false true x = refl
apart false false x = refl

shared : (a b c : Bool) → ((a || b) && c) ≡ ((a && c) || (b && c))
shared true true true = refl
shared true true false = refl
shared true false true = refl
shared true false false = refl
shared false b c = refl

together : (a b c : Bool) → ((a && b) && c) ≡ (a && (b && c))
together true b c = refl
together false b c = refl

-- a test that says whether this is the one, which the part owns or doesn't
set_owned : {A : Type 0} (same here own : Bool) (x y : Option A) → (same ≡ true → own ≡ true) → cond own (cond (same && here) x y) None ≡ cond (same && here) x (cond own y None)
set_owned true true true x y owns = refl
set_owned true false own x y owns = refl
set_owned true true false x y owns = absurd (false≢true (owns refl))
set_owned false here own x y owns = refl

set_other : {A : Type 0} (same here own : Bool) (x y : Option A) → (same ≡ true → own ≡ false) → cond own (cond (same && here) x y) None ≡ cond own y None
set_other true here true x y other = absurd (false≢true (sym (other refl)))
set_other true here false x y other = refl
set_other false here own x y other = refl

put_owned : (same b own : Bool) → (same ≡ true → own ≡ true) → ((same || b) && own) ≡ (same || (b && own))
put_owned true b own owns = owns refl
put_owned false b own owns = refl

put_other : (same b own : Bool) → (same ≡ true → own ≡ false) → ((same || b) && own) ≡ (b && own)
put_other true true own other = refl
put_other true false own other = other refl
put_other false b own other = refl

gone_other : (same b own : Bool) → (same ≡ true → own ≡ false) → ((not same && b) && own) ≡ (b && own)
gone_other true true own other = sym (other refl)
gone_other true false own other = refl
gone_other false b own other = refl

-- ---- what a part answers

module _ (owns : IpPrefix → Bool) where
  pub get-owned : {V : Type 0} (rib : Rib V) (p : IpPrefix) (slot : ℕ) → at_prefix (map_of.retain_keys rib (λ key. owns key.0)) p slot ≡ cond (owns p) (at_prefix rib p slot) None
  get-owned rib p slot = get-retained (λ key. owns key.0) rib (p, slot)

  pub contains-owned : (ps : set_of.FinSet prefix_cmp) (p : IpPrefix) → set_of.contains (set_of.retain ps owns) p ≡ (set_of.contains ps p && owns p)
  contains-owned ps p = set_of.contains-retain ps owns p (λ x tied. ap owns (sym (prefix_exact p x tied)))

  owned_has : {V : Type 0} (test : ℕ → Bool) (rib : Rib V) (p : IpPrefix) (b : Bool) → owns p ≡ b → Has test (map_of.retain_keys rib (λ key. owns key.0)) p → (set_of.contains (prefixes_of test rib) p && b) ≡ true
  owned_has test rib p true own has =
      ap (λ c. c && true) (prefixes_of_has test rib p (record {
        slot = has.slot;
        passes = has.passes;
        there = ap is_some (sym (get-owned rib p has.slot ∙ ap (λ c. cond c (map_of.get rib (p, has.slot)) None) own)) ∙ has.there;
      }))
  owned_has test rib p false other has =
      absurd (false≢true (ap is_some (sym (get-owned rib p has.slot ∙ ap (λ c. cond c (map_of.get rib (p, has.slot)) None) other)) ∙ has.there))

  pub prefixes-owned : {V : Type 0} (test : ℕ → Bool) (rib : Rib V) (p : IpPrefix)
      → set_of.contains (prefixes_of test (map_of.retain_keys rib (λ key. owns key.0))) p ≡ (set_of.contains (prefixes_of test rib) p && owns p)
  prefixes-owned test rib p =
      same_test (set_of.contains (prefixes_of test (map_of.retain_keys rib (λ key. owns key.0))) p) (set_of.contains (prefixes_of test rib) p && owns p)
      (λ inside. owned_has test rib p (owns p) refl (has_of_prefixes test (map_of.retain_keys rib (λ key. owns key.0)) p inside))
      (λ both.
      let parts = and_parts (set_of.contains (prefixes_of test rib) p) (owns p) both in
      let has = has_of_prefixes test rib p parts.0 in
      prefixes_of_has test (map_of.retain_keys rib (λ key. owns key.0)) p (record {
        slot = has.slot;
        passes = has.passes;
        there = ap is_some (get-owned rib p has.slot ∙ ap (λ c. cond c (map_of.get rib (p, has.slot)) None) parts.1) ∙ has.there;
      }))

  added-owned : {V : Type 0} (test : ℕ → Bool) (ribs : Ribs V) (p : IpPrefix)
      → set_of.contains (set_of.retain (set_of.union ribs.pending (prefixes_of test ribs.announced)) owns) p
      ≡ set_of.contains (set_of.union (set_of.retain ribs.pending owns) (prefixes_of test (map_of.retain_keys ribs.announced (λ key. owns key.0)))) p
  added-owned test ribs p =
      contains-owned (set_of.union ribs.pending (prefixes_of test ribs.announced)) p
      ∙ ap (λ b. b && owns p) (set_of.contains-union prefix_total ribs.pending (prefixes_of test ribs.announced) p)
      ∙ shared (has_pending ribs p) (set_of.contains (prefixes_of test ribs.announced) p) (owns p)
      ∙ (λ i. sym (contains-owned ribs.pending p) i || sym (prefixes-owned test ribs.announced p) i)
      ∙ sym (set_of.contains-union prefix_total (set_of.retain ribs.pending owns) (prefixes_of test (map_of.retain_keys ribs.announced (λ key. owns key.0))) p)

  dropped-owned : {V : Type 0} (slot : ℕ) (rib : Rib V) (p : IpPrefix) (s : ℕ)
      → at_prefix (map_of.retain_keys (without_slot slot rib) (λ key. owns key.0)) p s ≡ at_prefix (without_slot slot (map_of.retain_keys rib (λ key. owns key.0))) p s
  dropped-owned slot rib p s =
      get-owned (without_slot slot rib) p s
      ∙ ap (λ o. cond (owns p) o None) (get-without_slot slot rib (p, s))
      ∙ apart (owns p) (eqb s slot) (map_of.get rib (p, s))
      ∙ ap (cond (eqb s slot) None) (sym (get-owned rib p s))
      ∙ sym (get-without_slot slot (map_of.retain_keys rib (λ key. owns key.0)) (p, s))

  same_owner : (p q : IpPrefix) (b : Bool) → owns q ≡ b → same_prefix p q ≡ true → owns p ≡ b
  same_owner p q b is same = ap owns (same_prefix-is p q same) ∙ is

  -- ---- the events

  part_up : {V : Type 0} (reader : Reader V) (slot : ℕ) (ribs : Ribs V) → part owns (ribs_after reader (Up slot) ribs) ≡ ribs_after reader (Up slot) (part owns ribs)
  unfolding ribs_after
  part_up reader slot ribs = ribs_by_answers (part owns (ribs_after reader (Up slot) ribs)) (ribs_after reader (Up slot) (part owns ribs))
      (λ s. refl) (λ p s. refl) (dropped-owned slot ribs.given) (added-owned (λ e. true) ribs) refl

  part_down : {V : Type 0} (reader : Reader V) (slot : ℕ) (ribs : Ribs V) → part owns (ribs_after reader (Down slot) ribs) ≡ ribs_after reader (Down slot) (part owns ribs)
  unfolding ribs_after
  part_down reader slot ribs = ribs_by_answers (part owns (ribs_after reader (Down slot) ribs)) (ribs_after reader (Down slot) (part owns ribs))
      (λ s. refl) (dropped-owned slot ribs.announced) (dropped-owned slot ribs.given) (added-owned (λ e. eqb e slot) ribs) refl

  part_links : {V : Type 0} (reader : Reader V) (edges : List Edge) (ribs : Ribs V) → part owns (ribs_after reader (Links edges) ribs) ≡ ribs_after reader (Links edges) (part owns ribs)
  unfolding ribs_after
  part_links reader edges ribs = ribs_by_answers (part owns (ribs_after reader (Links edges) ribs)) (ribs_after reader (Links edges) (part owns ribs))
      (λ s. refl) (λ p s. refl) (λ p s. refl) (added-owned (λ e. cost_differs ribs.edges edges reader.members e (length reader.members)) ribs) refl

  set_ribs : {V : Type 0} → ℕ → IpPrefix → Option V → Ribs V → Ribs V
  set_ribs slot q octets ribs = record ribs { announced = with_value (q, slot) octets ribs.announced; pending = set_of.insert ribs.pending q }

  part_set : {V : Type 0} (slot : ℕ) (q : IpPrefix) (octets : Option V) (ribs : Ribs V) → owns q ≡ true → part owns (set_ribs slot q octets ribs) ≡ set_ribs slot q octets (part owns ribs)
  unfolding set_ribs
  part_set slot q octets ribs own = ribs_by_answers (part owns (set_ribs slot q octets ribs)) (set_ribs slot q octets (part owns ribs)) (λ s. refl)
      (λ p s.
      get-owned (with_value (q, slot) octets ribs.announced) p s
      ∙ ap (λ o. cond (owns p) o None) (get-with_value (q, slot) octets ribs.announced (p, s))
      ∙ set_owned (same_prefix p q) (eqb s slot) (owns p) octets (map_of.get ribs.announced (p, s)) (same_owner p q true own)
      ∙ ap (cond (same_prefix p q && eqb s slot) octets) (sym (get-owned ribs.announced p s))
      ∙ sym (get-with_value (q, slot) octets (map_of.retain_keys ribs.announced (λ key. owns key.0)) (p, s)))
      (λ p s. refl)
      (λ p.
      contains-owned (set_of.insert ribs.pending q) p
      ∙ ap (λ b. b && owns p) (set_of.contains-insert prefix_total ribs.pending q p ∙ ap (λ b. b || has_pending ribs p) (prefix_tied p q))
      ∙ put_owned (same_prefix p q) (has_pending ribs p) (owns p) (same_owner p q true own)
      ∙ (λ i. sym (prefix_tied p q) i || sym (contains-owned ribs.pending p) i)
      ∙ sym (set_of.contains-insert prefix_total (set_of.retain ribs.pending owns) q p))
      refl

  part_unset : {V : Type 0} (slot : ℕ) (q : IpPrefix) (octets : Option V) (ribs : Ribs V) → owns q ≡ false → part owns (set_ribs slot q octets ribs) ≡ part owns ribs
  unfolding set_ribs
  part_unset slot q octets ribs other = ribs_by_answers (part owns (set_ribs slot q octets ribs)) (part owns ribs) (λ s. refl)
      (λ p s.
      get-owned (with_value (q, slot) octets ribs.announced) p s
      ∙ ap (λ o. cond (owns p) o None) (get-with_value (q, slot) octets ribs.announced (p, s))
      ∙ set_other (same_prefix p q) (eqb s slot) (owns p) octets (map_of.get ribs.announced (p, s)) (same_owner p q false other)
      ∙ sym (get-owned ribs.announced p s))
      (λ p s. refl)
      (λ p.
      contains-owned (set_of.insert ribs.pending q) p
      ∙ ap (λ b. b && owns p) (set_of.contains-insert prefix_total ribs.pending q p ∙ ap (λ b. b || has_pending ribs p) (prefix_tied p q))
      ∙ put_other (same_prefix p q) (has_pending ribs p) (owns p) (same_owner p q false other)
      ∙ sym (contains-owned ribs.pending p))
      refl

  part_change : {V : Type 0} (reader : Reader V) (slot : ℕ) (q : IpPrefix) (octets : Option V) (ribs : Ribs V)
      → part owns (ribs_after reader (Change slot q octets) ribs) ≡ cond (owns q) (ribs_after reader (Change slot q octets) (part owns ribs)) (part owns ribs)
  unfolding ribs_after set_ribs
  part_change {V} reader slot q octets ribs = at_owner (owns q) refl where
    own_set : owns q ≡ true → (b : Bool) → part owns (cond b (set_ribs slot q octets ribs) ribs) ≡ cond b (set_ribs slot q octets (part owns ribs)) (part owns ribs)
    own_set own true = part_set slot q octets ribs own
    own_set own false = refl

    other_set : owns q ≡ false → (b : Bool) → part owns (cond b (set_ribs slot q octets ribs) ribs) ≡ part owns ribs
    other_set other true = part_unset slot q octets ribs other
    other_set other false = refl

    at_owner : (b : Bool) → owns q ≡ b
        → part owns (cond (is_up ribs slot && not (same_values reader.same (map_of.get ribs.announced (q, slot)) octets)) (set_ribs slot q octets ribs) ribs)
        ≡ cond b (cond (is_up ribs slot && not (same_values reader.same (map_of.get (map_of.retain_keys ribs.announced (λ key. owns key.0)) (q, slot)) octets)) (set_ribs slot q octets (part owns ribs)) (part owns ribs)) (part owns ribs)
    at_owner true own =
        own_set own (is_up ribs slot && not (same_values reader.same (map_of.get ribs.announced (q, slot)) octets))
        ∙ ap (λ (o : Option V). cond (is_up ribs slot && not (same_values reader.same o octets)) (set_ribs slot q octets (part owns ribs)) (part owns ribs))
        (sym (get-owned ribs.announced q slot ∙ ap (λ b. cond b (map_of.get ribs.announced (q, slot)) None) own))
    at_owner false other = other_set other (is_up ribs slot && not (same_values reader.same (map_of.get ribs.announced (q, slot)) octets))

  -- a part offers what the whole does at its own prefixes
  pub offered-owned : {V : Type 0} (reader : Reader V) (ribs : Ribs V) (q : IpPrefix) (s : ℕ) → owns q ≡ true → offered reader (part owns ribs) q s ≡ offered reader ribs q s
  offered-owned reader ribs q s own =
      let same : at_prefix (part owns ribs).announced q ≡ at_prefix ribs.announced q = λ i e. (get-owned ribs.announced q e ∙ ap (λ b. cond b (map_of.get ribs.announced (q, e)) None) own) i in
      ap (λ announced. offer_of reader announced ribs.edges s) same

  part_work : {V : Type 0} (reader : Reader V) (q : IpPrefix) (ribs : Ribs V) → owns q ≡ true → part owns (ribs_after reader (Work q) ribs) ≡ ribs_after reader (Work q) (part owns ribs)
  unfolding ribs_after
  part_work reader q ribs own = ribs_by_answers (part owns (ribs_after reader (Work q) ribs)) (ribs_after reader (Work q) (part owns ribs)) (λ s. refl) (λ p s. refl)
      (λ p s.
      get-owned (with_each q (offered reader ribs q) (set_of.items ribs.connected) ribs.given) p s
      ∙ ap (λ o. cond (owns p) o None) (get-with_each q (offered reader ribs q) (set_of.items ribs.connected) ribs.given (p, s))
      ∙ set_owned (same_prefix p q) (list_any (eq_by_cmp nat_cmp s) (set_of.items ribs.connected)) (owns p) (offered reader ribs q s) (map_of.get ribs.given (p, s)) (same_owner p q true own)
      ∙ (λ i. cond (same_prefix p q && list_any (eq_by_cmp nat_cmp s) (set_of.items ribs.connected)) (sym (offered-owned reader ribs q s own) i) (sym (get-owned ribs.given p s) i))
      ∙ sym (get-with_each q (offered reader (part owns ribs) q) (set_of.items ribs.connected) (map_of.retain_keys ribs.given (λ key. owns key.0)) (p, s)))
      (λ p.
      contains-owned (set_of.remove ribs.pending q) p
      ∙ ap (λ b. b && owns p) (set_of.contains-remove prefix_total ribs.pending q p)
      ∙ together (not (eq_by_cmp prefix_cmp p q)) (has_pending ribs p) (owns p)
      ∙ ap (λ b. not (eq_by_cmp prefix_cmp p q) && b) (sym (contains-owned ribs.pending p))
      ∙ sym (set_of.contains-remove prefix_total (set_of.retain ribs.pending owns) q p))
      refl

  part_unworked : {V : Type 0} (reader : Reader V) (q : IpPrefix) (ribs : Ribs V) → owns q ≡ false → part owns (ribs_after reader (Work q) ribs) ≡ part owns ribs
  unfolding ribs_after
  part_unworked reader q ribs other = ribs_by_answers (part owns (ribs_after reader (Work q) ribs)) (part owns ribs) (λ s. refl) (λ p s. refl)
      (λ p s.
      get-owned (with_each q (offered reader ribs q) (set_of.items ribs.connected) ribs.given) p s
      ∙ ap (λ o. cond (owns p) o None) (get-with_each q (offered reader ribs q) (set_of.items ribs.connected) ribs.given (p, s))
      ∙ set_other (same_prefix p q) (list_any (eq_by_cmp nat_cmp s) (set_of.items ribs.connected)) (owns p) (offered reader ribs q s) (map_of.get ribs.given (p, s)) (same_owner p q false other)
      ∙ sym (get-owned ribs.given p s))
      (λ p.
      contains-owned (set_of.remove ribs.pending q) p
      ∙ ap (λ b. b && owns p) (set_of.contains-remove prefix_total ribs.pending q p ∙ ap (λ b. not b && has_pending ribs p) (prefix_tied p q))
      ∙ gone_other (same_prefix p q) (has_pending ribs p) (owns p) (same_owner p q false other)
      ∙ sym (contains-owned ribs.pending p))
      refl

  pub part_after : {V : Type 0} (reader : Reader V) (event : RibEvent V) (ribs : Ribs V) → part owns (ribs_after reader event ribs) ≡ cond (concerns owns event) (ribs_after reader event (part owns ribs)) (part owns ribs)
  part_after reader (Up slot) ribs = part_up reader slot ribs
  part_after reader (Down slot) ribs = part_down reader slot ribs
  part_after reader (Change slot q octets) ribs = part_change reader slot q octets ribs
  part_after reader (Links edges) ribs = part_links reader edges ribs
  part_after reader (Work q) ribs = at_owner (owns q) refl where
    at_owner : (b : Bool) → owns q ≡ b → part owns (ribs_after reader (Work q) ribs) ≡ cond b (ribs_after reader (Work q) (part owns ribs)) (part owns ribs)
    at_owner true own = part_work reader q ribs own
    at_owner false other = part_unworked reader q ribs other

  pub part_after_all : {V : Type 0} (reader : Reader V) (events : List (RibEvent V)) (ribs : Ribs V) → part owns (ribs_after_all reader events ribs) ≡ ribs_after_all reader (filter (concerns owns) events) (part owns ribs)
  unfolding ribs_after_all
  part_after_all reader [] ribs = refl
  part_after_all reader (event ∷ events) ribs =
      part_after_all reader events (ribs_after reader event ribs)
      ∙ ap (ribs_after_all reader (filter (concerns owns) events)) (part_after reader event ribs)
      ∙ at_test (concerns owns event) where
        at_test : (b : Bool) → ribs_after_all reader (filter (concerns owns) events) (cond b (ribs_after reader event (part owns ribs)) (part owns ribs))
            ≡ ribs_after_all reader (cond b (event ∷ filter (concerns owns) events) (filter (concerns owns) events)) (part owns ribs)
        at_test true = refl
        at_test false = refl
