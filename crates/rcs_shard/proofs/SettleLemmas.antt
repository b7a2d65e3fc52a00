-- Cells that are set at a prefix: one, those of several slots, and all.
use Rattle.std.proofs.Common.{◌≡◌, ℕ, Bool, true, false, cond, not, ◌&&◌, ◌||◌, eqb, Option, Some, None, refl, sym, ap, ◌∙◌, subst}
use Rattle.std.specs.FinMap as map_of
use Rattle.std.specs.FinSet as set_of
use Rattle.std.proofs.lemmas.Bool.{and_parts, eqb-true, false≢true}
use Rattle.rcp_base.specs.IpPrefix.{IpPrefix}
use Rattle.rcp_base.specs.Maps.{same_prefix}
use Rattle.rcp_model.specs.Routes.{RouteFields}
use Rattle.rcp_model.specs.Ribs.{RibKey}
use Rattle.rcp_model.specs.ServerRibs.{Values, same_route, same_values}
use Rattle.rcp_base.proofs.MapLemmas.{same_prefix-is}
use Rattle.rcp_model.proofs.RibLemmas.{rib_total}
use Rattle.rib_laws.proofs.RibLookups.{get-with_value, key_tied}
use Rattle.rib_laws.proofs.PendingLemmas.{route_exact}
use Rattle.adj_ribs.specs.Bases.{Bases, given_at, route_of, after_set}
use Rattle.rcs_shard.specs.Settling.{Settles}

abbrev Same : Option RouteFields → Option RouteFields → Bool
Same a b = same_values same_route a b

same_itself : (a : Option RouteFields) → Same a a ≡ true
same_itself None = refl
same_itself (Some a) = route_exact.itself a

-- ---- no cell

off : {A : Type 0} (b : Bool) (x y : A) → y ≡ cond (b && false) x y
off true x y = refl
off false x y = refl

none_more : (a b t : Bool) → a ≡ (a || (b && false) && t)
none_more true b t = refl
none_more false true t = refl
none_more false false t = refl

pub settled_none : (p : IpPrefix) (values : Values RouteFields) (before : Bases) → Settles p values (λ s. false) before before
settled_none p values before = record {
  given = λ key. off (same_prefix key.0 p) (values key.1) (map_of.get before.given key);
  dirty = λ key. none_more (set_of.contains before.dirty key) (same_prefix key.0 p) (not (Same (map_of.get before.given key) (values key.1)));
  rest = refl;
}

-- ---- the same slots by another test

pub settled_as : (p : IpPrefix) (values : Values RouteFields) (which other : ℕ → Bool) (before now : Bases) → ((s : ℕ) → which s ≡ other s)
    → Settles p values which before now → Settles p values other before now
settled_as p values which other before now same settled = record {
  given = λ key. settled.given key ∙ ap (λ t. cond (same_prefix key.0 p && t) (values key.1) (map_of.get before.given key)) (same key.1);
  dirty = λ key. settled.dirty key
      ∙ ap (λ t. set_of.contains before.dirty key || (same_prefix key.0 p && t) && not (Same (map_of.get before.given key) (values key.1))) (same key.1);
  rest = settled.rest;
}

-- ---- one after another

given_both : {A : Type 0} (k w m : Bool) (x y : A) → cond (k && m) x (cond (k && w) x y) ≡ cond (k && (w || m)) x y
given_both false w m x y = refl
given_both true true true x y = refl
given_both true true false x y = refl
given_both true false m x y = refl

dirty_both : (a k w m : Bool) (old value : Option RouteFields)
    → ((a || (k && w) && not (Same old value)) || (k && m) && not (Same (cond (k && w) value old) value)) ≡ (a || (k && (w || m)) && not (Same old value))
dirty_both true k w m old value = refl
dirty_both false false w m old value = refl
dirty_both false true true m old value = at (not (Same old value)) m (Same value value) (same_itself value) where
  at : (t m s : Bool) → s ≡ true → (t || m && not s) ≡ t
  at true m s is = refl
  at false true s is = ap not is
  at false false s is = refl
dirty_both false true false m old value = refl

pub settled_both : (p : IpPrefix) (values : Values RouteFields) (which more : ℕ → Bool) (before mid now : Bases)
    → Settles p values which before mid → Settles p values more mid now → Settles p values (λ s. which s || more s) before now
settled_both p values which more before mid now first second = record {
  given = λ key. second.given key ∙ ap (cond (same_prefix key.0 p && more key.1) (values key.1)) (first.given key)
      ∙ given_both (same_prefix key.0 p) (which key.1) (more key.1) (values key.1) (map_of.get before.given key);
  dirty = λ key. second.dirty key
      ∙ (λ i. first.dirty key i || (same_prefix key.0 p && more key.1) && not (Same (first.given key i) (values key.1)))
      ∙ dirty_both (set_of.contains before.dirty key) (same_prefix key.0 p) (which key.1) (more key.1) (map_of.get before.given key) (values key.1);
  rest = second.rest ∙ ap (λ (b : Bases). record b { given = now.given; dirty = now.dirty; cell_numbers = now.cell_numbers }) first.rest;
}

-- ---- one cell

module _ (p : IpPrefix) (values : Values RouteFields) (to : ℕ) (from : Option (ℕ × ℕ)) (before : Bases) (is : route_of before p from ≡ values to) where
  -- a key that passes both tests is the cell's
  key_is : (key : RibKey) → (same_prefix key.0 p && eqb key.1 to) ≡ true → key ≡ (p, to)
  key_is key passes =
      let both = and_parts (same_prefix key.0 p) (eqb key.1 to) passes in
      λ i. (same_prefix-is key.0 p both.0 i, eqb-true key.1 to both.1 i)

  given_one : (key : RibKey) (t : Bool) → (same_prefix key.0 p && eqb key.1 to) ≡ t → cond t (route_of before p from) (map_of.get before.given key) ≡ cond t (values key.1) (map_of.get before.given key)
  given_one key true passes = is ∙ ap values (sym (ap (λ (k : RibKey). k.1) (key_is key passes)))
  given_one key false passes = refl

  test_at : (key : RibKey) → (same_prefix key.0 p && eqb key.1 to) ≡ true
      → Same (map_of.get before.given key) (values key.1) ≡ Same (given_at before to p) (route_of before p from)
  test_at key passes = λ i. Same (map_of.get before.given (key_is key passes i)) ((ap values (ap (λ (k : RibKey). k.1) (key_is key passes)) ∙ sym is) i)

  dirty_one : (key : RibKey) (t u : Bool) → (same_prefix key.0 p && eqb key.1 to) ≡ t → Same (given_at before to p) (route_of before p from) ≡ u
      → set_of.contains (cond u before.dirty (set_of.insert before.dirty (p, to))) key
      ≡ (set_of.contains before.dirty key || t && not (Same (map_of.get before.given key) (values key.1)))
  dirty_one key true true passes same = sym (after (set_of.contains before.dirty key) (Same (map_of.get before.given key) (values key.1)) (test_at key passes ∙ same)) where
    after : (a s : Bool) → s ≡ true → (a || not s) ≡ a
    after true s e = refl
    after false s e = ap not e
  dirty_one key false true passes same = after (set_of.contains before.dirty key) where
    after : (a : Bool) → a ≡ (a || false)
    after true = refl
    after false = refl
  dirty_one key true false passes same =
      set_of.contains-insert rib_total before.dirty (p, to) key ∙ ap (λ t. t || set_of.contains before.dirty key) (key_tied key (p, to) ∙ passes)
      ∙ sym (after (set_of.contains before.dirty key) (Same (map_of.get before.given key) (values key.1)) (test_at key passes ∙ same)) where
        after : (a s : Bool) → s ≡ false → (a || not s) ≡ true
        after true s e = refl
        after false s e = ap not e
  dirty_one key false false passes same =
      set_of.contains-insert rib_total before.dirty (p, to) key ∙ ap (λ t. t || set_of.contains before.dirty key) (key_tied key (p, to) ∙ passes)
      ∙ after (set_of.contains before.dirty key) where
        after : (a : Bool) → a ≡ (a || false)
        after true = refl
        after false = refl

  set_one : Settles p values (λ s. eqb s to) before (after_set to p from before)
  set_one = record {
    given = λ key. get-with_value (p, to) (route_of before p from) before.given key ∙ given_one key (same_prefix key.0 p && eqb key.1 to) refl;
    dirty = λ key. dirty_one key (same_prefix key.0 p && eqb key.1 to) (Same (given_at before to p) (route_of before p from)) refl refl;
    rest = refl;
  }

  pub settled_one : (now : Bases) → now ≡ after_set to p from before → Settles p values (λ s. eqb s to) before now
  settled_one now after = subst (λ (b : Bases). Settles p values (λ s. eqb s to) before b) (sym after) set_one

-- ---- tests of slots

pub same_below : (t x : Bool) → t ≡ true → (t && x) ≡ x
same_below true x e = refl
same_below false x e = absurd (false≢true e)
