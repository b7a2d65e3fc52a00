-- What each call does to a shard, and that its parts stay together.
use Rattle.std.proofs.Common.{◌≡◌, ℕ, ◌<◌, ◌≤◌, Bool, true, false, cond, not, ◌&&◌, ◌||◌, ◌⊎◌, eqb, ltb, List, [], ◌∷◌, map, length, Option, Some, None, is_some, IsSome, refl, sym, ap, subst, ◌∙◌, inl, inr, arith}
use Rattle.std.specs.Prelude.{filter, Contains}
use Rattle.std.specs.FinMap as map_of
use Rattle.std.specs.FinSet as set_of
use Rattle.std.specs.List.{list_any}
use Rattle.std.specs.Ordering.{nat_cmp, eq_by_cmp}
use Rattle.std.specs.Cmp.{unsigned_tied}
use Rattle.std.proofs.lemmas.Cmp.{nat_cmp_total}
use Rattle.std.proofs.lemmas.Bool.{false≢true, and_parts, and_from, or_cases, or_left, or_right, eqb-true, lt-ltb}
use Rattle.rcp_base.specs.IpPrefix.{IpPrefix, prefix_cmp}
use Rattle.rcp_base.specs.Maps.{same_prefix}
use Rattle.rcp_base.specs.declared.names.Edge.{Edge}
use Rattle.rcp_base.specs.declared.names.Member.{Member}
use Rattle.rcp_model.specs.Routes.{RouteFields, is_usable}
use Rattle.rcp_model.specs.Ribs.{RibKey, rib_cmp}
use Rattle.rcp_model.specs.Decision.{Contender, tied, choice}
use Rattle.rcp_model.specs.RouteServer.{slot_cost, cost_differs}
use Rattle.rcp_model.specs.ServerRibs.{Values, Rib, same_route, same_values, Up, Down, Change, Links, Work, at_prefix, is_up, with_value, with_each, prefixes_of, of_other, offer_of, ribs_after}
use Rattle.rcp_base.proofs.MapLemmas.{same_prefix-is}
use Rattle.rcp_model.proofs.MemberLemmas.{Contains-filled, Contains-head}
use Rattle.rcp_model.proofs.FilterLemmas.{choice-nil, choice_is_tied, member_of_tied}
use Rattle.rcp_model.proofs.RibLemmas.{prefix_total, rib_total, rib_exact}
use Rattle.rib_laws.proofs.RibLookups.{same_test, prefix_tied, key_tied, get-with_value, get-without_slot, get-with_each, has_of_prefixes}
use Rattle.rib_laws.proofs.PendingLemmas.{route_exact}
use Rattle.cost_rows.specs.Views.{ViewOf}
use Rattle.pending_marks.specs.Marks.{MarksOf, is_marked}
use Rattle.pending_marks.specs.Marks as marks
use Rattle.pending_marks.proofs.FirstLemmas.{tied_self}
use Rattle.adj_ribs.specs.Bases.{Bases, no_bases, announced_at, given_at, is_opened, after_change, after_open, after_drop, after_clear}
use Rattle.rcs_shard.specs.Slots.{SlotsOf, has_slot, flag_at}
use Rattle.rcs_shard.specs.Shards.{ShardOf, differing, acted}
use Rattle.rcs_shard.specs.Joins.{shard_in, IsJoined, ArePlaces}
use Rattle.rcs_shard.specs.Following.{AreMoved}
use Rattle.rcs_shard.specs.Settling.{candidates_at, offers_at, AreSeated, AreClasses, Settles}
use Rattle.rcs_shard.proofs.ContenderLemmas.{candidate_of}

-- ---- the events

module _ (number shards : ℕ) (view : ViewOf) (connected : SlotsOf) (bases : Bases) (pending : MarksOf) where
  abbrev shard : ShardOf
  shard = shard_in number shards view connected bases pending

  pub up_acts : (slot : ℕ) → shard_in number shards view (record connected { inside = set_of.insert connected.inside slot }) (after_clear slot bases)
      (record pending { marked = set_of.union pending.marked (prefixes_of (λ e. true) bases.announced) }) ≡ acted (Up slot) shard
  unfolding ribs_after
  up_acts slot = refl

  pub down_acts : (slot : ℕ) → shard_in number shards view (record connected { inside = set_of.remove connected.inside slot }) (after_clear slot (after_drop slot bases))
      (record pending { marked = set_of.union pending.marked (prefixes_of (λ e. eqb e slot) bases.announced) }) ≡ acted (Down slot) shard
  unfolding ribs_after
  down_acts slot = refl

  pub view_acts : (edges : List Edge) → shard_in number shards (record view { edges = edges }) connected bases
      (record pending { marked = set_of.union pending.marked (prefixes_of (λ e. cost_differs view.edges edges view.members e (length view.members)) bases.announced) })
      ≡ acted (Links edges) shard
  unfolding ribs_after
  view_acts edges = refl

  -- what is announced changes
  changed_test : (slot : ℕ) (p : IpPrefix) (value : Option RouteFields) → set_of.contains connected.inside slot ≡ true → same_values same_route (announced_at bases slot p) value ≡ false
      → (is_up shard.ribs slot && not (same_values same_route (announced_at bases slot p) value)) ≡ true
  changed_test slot p value up differs = and_from (is_up shard.ribs slot) (not (same_values same_route (announced_at bases slot p) value)) up (ap not differs)

  pub change_acts : (slot : ℕ) (p : IpPrefix) (value : Option RouteFields) (numbers : Option ℕ) (opened : set_of.FinSet prefix_cmp) → set_of.contains connected.inside slot ≡ true
      → same_values same_route (announced_at bases slot p) value ≡ false
      → shard_in number shards view connected (after_change slot p value numbers bases) (record pending { opened = opened; marked = set_of.insert pending.marked p })
      ≡ acted (Change slot p value) shard
  unfolding ribs_after
  change_acts slot p value numbers opened up differs =
      ap (λ (t : Bool). let old = shard in record old {
        ribs = cond t (record (old.ribs) { announced = with_value (p, slot) value bases.announced; pending = set_of.insert pending.marked p }) old.ribs;
      }) (sym (changed_test slot p value up differs))

  -- nothing changes where the value is there already
  value_there : (slot : ℕ) (p : IpPrefix) (value : Option RouteFields) → same_values same_route (announced_at bases slot p) value ≡ true → with_value (p, slot) value bases.announced ≡ bases.announced
  value_there slot p value same = map_of.same_map rib_total rib_exact _ _ (λ key. get-with_value (p, slot) value bases.announced key ∙ at key (same_prefix key.0 p && eqb key.1 slot) refl) where
    equal : (a b : Option RouteFields) → same_values same_route a b ≡ true → a ≡ b
    equal None None e = refl
    equal None (Some b) e = absurd (false≢true e)
    equal (Some a) None e = absurd (false≢true e)
    equal (Some a) (Some b) e = ap Some (route_exact.sound a b e)

    at : (key : RibKey) (t : Bool) → (same_prefix key.0 p && eqb key.1 slot) ≡ t → cond t value (map_of.get bases.announced key) ≡ map_of.get bases.announced key
    at key true is =
        let both = and_parts (same_prefix key.0 p) (eqb key.1 slot) is in
        sym (equal (announced_at bases slot p) value same) ∙ (λ i. map_of.get bases.announced (sym (same_prefix-is key.0 p both.0) i, sym (eqb-true key.1 slot both.1) i))
    at key false is = refl

  pub same_acts : (slot : ℕ) (p : IpPrefix) (value : Option RouteFields) (numbers : Option ℕ) (opened : set_of.FinSet prefix_cmp) → same_values same_route (announced_at bases slot p) value ≡ true
      → shard_in number shards view connected (after_change slot p value numbers bases) (record pending { opened = opened }) ≡ acted (Change slot p value) shard
  unfolding ribs_after
  same_acts slot p value numbers opened same =
      (λ i. let old = shard in record old { ribs = record (old.ribs) { announced = value_there slot p value same i } })
      ∙ ap (λ (t : Bool). let old = shard in record old {
        ribs = cond t (record (old.ribs) { announced = with_value (p, slot) value bases.announced; pending = set_of.insert pending.marked p }) old.ribs;
      }) (sym (fails (is_up shard.ribs slot) (same_values same_route (announced_at bases slot p) value) same)) where
        fails : (a b : Bool) → b ≡ true → (a && not b) ≡ false
        fails true b e = ap not e
        fails false b e = refl

-- ---- the parts stay together

module _ (number shards : ℕ) (view : ViewOf) (connected : SlotsOf) (bases : Bases) (pending : MarksOf) (joined : IsJoined number shards view connected bases pending) where
  -- where less is announced and given
  pub joined_less : (less : Bases) → less.members ≡ bases.members → less.opened ≡ bases.opened
      → ((slot : ℕ) (p : IpPrefix) → IsSome (announced_at less slot p) → IsSome (announced_at bases slot p))
      → ((slot : ℕ) (p : IpPrefix) (route : RouteFields) → given_at less slot p ≡ Some route → given_at bases slot p ≡ Some route) → IsJoined number shards view connected less pending
  joined_less less members opened announced given = record {
    some_shard = joined.some_shard;
    slots = joined.slots;
    cells = members ∙ joined.cells;
    connected_are = joined.connected_are;
    seated = λ slot p there. joined.seated slot p (announced slot p there);
    opened = λ slot p there. ap (λ (s : set_of.FinSet prefix_cmp). set_of.contains s p) opened ∙ joined.opened slot p (announced slot p there);
    markable = λ slot p there. joined.markable slot p (announced slot p there);
    marked = λ p on. ap (λ (s : set_of.FinSet prefix_cmp). set_of.contains s p) opened ∙ joined.marked p on;
    usable = λ slot p route is. joined.usable slot p route (given slot p route is);
  }

  -- the cells of a slot are emptied, or its announcements dropped
  kept_some : {A : Type 0} (t : Bool) (o : Option A) → IsSome (cond t None o) → IsSome o
  kept_some true o some = absurd (false≢true some)
  kept_some false o some = some

  kept_value : {A : Type 0} (t : Bool) (o : Option A) (v : A) → cond t None o ≡ Some v → o ≡ Some v
  kept_value true o v is = absurd (none_some is) where
    none_some : None ≡ Some v → ⊥
    none_some e = cc
  kept_value false o v is = is

  pub joined_clear : (slot : ℕ) → IsJoined number shards view connected (after_clear slot bases) pending
  joined_clear slot = joined_less (after_clear slot bases) refl refl (λ s p there. there)
      (λ s p route is. kept_value (eqb s slot) (given_at bases s p) route (sym (get-without_slot slot bases.given (p, s)) ∙ is))

  pub joined_drop : (slot : ℕ) → IsJoined number shards view connected (after_drop slot bases) pending
  joined_drop slot = joined_less (after_drop slot bases) refl refl
      (λ s p there. kept_some (eqb s slot) (announced_at bases s p) (subst (λ (o : Option RouteFields). IsSome o) (get-without_slot slot bases.announced (p, s)) there))
      (λ s p route is. is)

  pub joined_withdraw : (slot : ℕ) (p : IpPrefix) (numbers : Option ℕ) → IsJoined number shards view connected (after_change slot p None numbers bases) pending
  joined_withdraw slot p numbers = joined_less (after_change slot p None numbers bases) refl refl
      (λ s q there. kept_some (same_prefix q p && eqb s slot) (announced_at bases s q) (subst (λ (o : Option RouteFields). IsSome o) (get-with_value (p, slot) None bases.announced (q, s)) there))
      (λ s q route is. is)

  -- prefixes are marked that have cells
  pub joined_marks : (more : MarksOf) → more.opened ≡ pending.opened → ((p : IpPrefix) → is_marked more p ≡ true → is_opened bases p ≡ true) → IsJoined number shards view connected bases more
  joined_marks more opened cells = record {
    markable = λ slot p there. ap (λ (s : set_of.FinSet prefix_cmp). set_of.contains s p) opened ∙ joined.markable slot p there;
    marked = cells;
    some_shard = joined.some_shard;
    slots = joined.slots;
    cells = joined.cells;
    connected_are = joined.connected_are;
    seated = joined.seated;
    opened = joined.opened;
    usable = joined.usable;
  }

  pub joined_mark : (p : IpPrefix) → is_opened bases p ≡ true → IsJoined number shards view connected bases (record pending { marked = set_of.insert pending.marked p })
  joined_mark p opened = joined_marks (record pending { marked = set_of.insert pending.marked p }) refl
      (λ q on. elim (or_cases (eq_by_cmp prefix_cmp q p) (is_marked pending q) (sym (set_of.contains-insert prefix_total pending.marked p q) ∙ on)) [
        | inl here ↦ subst (λ r. is_opened bases r ≡ true) (sym (same_prefix-is q p (sym (prefix_tied q p) ∙ here))) opened
        | inr was ↦ joined.marked q was
      ])

  pub joined_union : (test : ℕ → Bool) → IsJoined number shards view connected bases (record pending { marked = set_of.union pending.marked (prefixes_of test bases.announced) })
  joined_union test = joined_marks (record pending { marked = set_of.union pending.marked (prefixes_of test bases.announced) }) refl
      (λ q on. elim (or_cases (is_marked pending q) (set_of.contains (prefixes_of test bases.announced) q) (sym (set_of.contains-union prefix_total pending.marked (prefixes_of test bases.announced) q) ∙ on)) [
        | inl was ↦ joined.marked q was
        | inr new ↦ let has = has_of_prefixes test bases.announced q new in joined.opened has.slot q has.there
      ])

  pub joined_remove : (p : IpPrefix) → IsJoined number shards view connected bases (record pending { marked = set_of.remove pending.marked p })
  joined_remove p = joined_marks (record pending { marked = set_of.remove pending.marked p }) refl
      (λ q on. joined.marked q (and_parts (not (eq_by_cmp prefix_cmp q p)) (is_marked pending q) (sym (set_of.contains-remove prefix_total pending.marked p q) ∙ on)).1)

  -- a prefix is opened among the marks
  more_opened : (p q : IpPrefix) → marks.is_opened pending q ≡ true → set_of.contains (set_of.insert pending.opened p) q ≡ true
  more_opened p q was = set_of.contains-insert prefix_total pending.opened p q ∙ or_right (eq_by_cmp prefix_cmp q p) (marks.is_opened pending q) was

  pub joined_open : (p : IpPrefix) → IsJoined number shards view connected bases (record pending { opened = set_of.insert pending.opened p })
  joined_open p = record {
    markable = λ slot q there. more_opened p q (joined.markable slot q there);
    some_shard = joined.some_shard;
    slots = joined.slots;
    cells = joined.cells;
    connected_are = joined.connected_are;
    seated = joined.seated;
    opened = joined.opened;
    marked = joined.marked;
    usable = joined.usable;
  }

  -- a slot announces a route at a prefix that is opened
  pub joined_announce : (slot : ℕ) (p : IpPrefix) (value : Option RouteFields) (numbers : Option ℕ) → slot < length view.members → marks.is_opened pending p ≡ true
      → IsJoined number shards view connected (after_open p (after_change slot p value numbers bases)) pending
  joined_announce slot p value numbers member opened = record {
    some_shard = joined.some_shard;
    slots = joined.slots;
    cells = joined.cells;
    connected_are = joined.connected_are;
    seated = λ s q there. elim (at s q there) [ inl new ↦ subst (λ k. k < length view.members) (sym new.1) member | inr was ↦ joined.seated s q was ];
    opened = λ s q there. set_of.contains-insert prefix_total bases.opened p q ∙ elim (at s q there) [
      | inl new ↦ or_left (eq_by_cmp prefix_cmp q p) (is_opened bases q) (prefix_tied q p ∙ new.0)
      | inr was ↦ or_right (eq_by_cmp prefix_cmp q p) (is_opened bases q) (joined.opened s q was)
    ];
    markable = λ s q there. elim (at s q there) [
      | inl new ↦ subst (λ r. marks.is_opened pending r ≡ true) (sym (same_prefix-is q p new.0)) opened
      | inr was ↦ joined.markable s q was
    ];
    marked = λ q on. set_of.contains-insert prefix_total bases.opened p q ∙ or_right (eq_by_cmp prefix_cmp q p) (is_opened bases q) (joined.marked q on);
    usable = joined.usable;
  } where
    by : (s : ℕ) (q : IpPrefix) (t : Bool) → (same_prefix q p && eqb s slot) ≡ t → IsSome (cond t value (announced_at bases s q))
        → ((same_prefix q p ≡ true) × (s ≡ slot)) ⊎ IsSome (announced_at bases s q)
    by s q true is some = let both = and_parts (same_prefix q p) (eqb s slot) is in inl (both.0, eqb-true s slot both.1)
    by s q false is some = inr some

    at : (s : ℕ) (q : IpPrefix) → IsSome (map_of.get (with_value (p, slot) value bases.announced) (q, s)) → ((same_prefix q p ≡ true) × (s ≡ slot)) ⊎ IsSome (announced_at bases s q)
    at s q there = by s q (same_prefix q p && eqb s slot) refl (subst (λ (o : Option RouteFields). IsSome o) (get-with_value (p, slot) value bases.announced (q, s)) there)

  -- a slot is connected, or not any more
  pub joined_insert : (slot : ℕ) → slot < length view.members → IsJoined number shards view (record connected { inside = set_of.insert connected.inside slot }) bases pending
  joined_insert slot member = record {
    connected_are = λ s on. elim (or_cases (eq_by_cmp nat_cmp s slot) (has_slot connected s) (sym (set_of.contains-insert nat_cmp_total connected.inside slot s) ∙ on)) [
      | inl here ↦ let is = eqb-true s slot (sym (unsigned_tied s slot) ∙ here) in omega (arith, joined.slots)
      | inr was ↦ joined.connected_are s was
    ];
    some_shard = joined.some_shard;
    slots = joined.slots;
    cells = joined.cells;
    seated = joined.seated;
    opened = joined.opened;
    markable = joined.markable;
    marked = joined.marked;
    usable = joined.usable;
  }

  pub joined_take_out : (slot : ℕ) → IsJoined number shards view (record connected { inside = set_of.remove connected.inside slot }) bases pending
  joined_take_out slot = record {
    connected_are = λ s on. joined.connected_are s (and_parts (not (eq_by_cmp nat_cmp s slot)) (has_slot connected s) (sym (set_of.contains-remove nat_cmp_total connected.inside slot s) ∙ on)).1;
    some_shard = joined.some_shard;
    slots = joined.slots;
    cells = joined.cells;
    seated = joined.seated;
    opened = joined.opened;
    markable = joined.markable;
    marked = joined.marked;
    usable = joined.usable;
  }

  -- another view of the same members
  pub joined_view : (other : ViewOf) → other.members ≡ view.members → IsJoined number shards other connected bases pending
  joined_view other same = record {
    some_shard = joined.some_shard;
    slots = joined.slots ∙ sym (ap length same);
    cells = joined.cells ∙ sym (ap length same);
    connected_are = joined.connected_are;
    seated = λ s q there. subst (λ (m : List Member). s < length m) (sym same) (joined.seated s q there);
    opened = joined.opened;
    markable = joined.markable;
    marked = joined.marked;
    usable = joined.usable;
  }

-- ---- work

-- a key is among those of slots that pass a test
any_differing : (p : IpPrefix) (test : ℕ → Bool) (slots : List ℕ) (key : RibKey)
    → list_any (eq_by_cmp rib_cmp key) (map (λ s. (p, s)) (filter test slots)) ≡ (same_prefix key.0 p && (list_any (eq_by_cmp nat_cmp key.1) slots && test key.1))
any_differing p test [] key = at (same_prefix key.0 p) where
  at : (b : Bool) → false ≡ (b && false)
  at true = refl
  at false = refl
any_differing p test (s ∷ slots) key = at (test s) refl (any_differing p test slots key) where
  here : (b e a t : Bool) → (e ≡ true → t ≡ true) → ((b && e) || (b && (a && t))) ≡ (b && ((e || a) && t))
  here false e a t is = refl
  here true true a t is = sym (is refl)
  here true false a t is = refl

  gone : (b e a t : Bool) → (e ≡ true → t ≡ false) → (b && (a && t)) ≡ (b && ((e || a) && t))
  gone false e a t is = refl
  gone true false a t is = refl
  gone true true a t is = fails a (is refl) ∙ sym (is refl) where
    fails : (a : Bool) → t ≡ false → (a && t) ≡ false
    fails true e = e
    fails false e = refl

  at_slot : (t : Bool) → test s ≡ t → eq_by_cmp nat_cmp key.1 s ≡ true → test key.1 ≡ t
  at_slot t is tied = ap test (eqb-true key.1 s (sym (unsigned_tied key.1 s) ∙ tied)) ∙ is

  at : (t : Bool) → test s ≡ t
      → list_any (eq_by_cmp rib_cmp key) (map (λ r. (p, r)) (filter test slots)) ≡ (same_prefix key.0 p && (list_any (eq_by_cmp nat_cmp key.1) slots && test key.1))
      → list_any (eq_by_cmp rib_cmp key) (map (λ r. (p, r)) (cond t (s ∷ filter test slots) (filter test slots)))
      ≡ (same_prefix key.0 p && ((eq_by_cmp nat_cmp key.1 s || list_any (eq_by_cmp nat_cmp key.1) slots) && test key.1))
  at true is rest =
      (λ i. (key_tied key (p, s) ∙ ap (λ t. same_prefix key.0 p && t) (sym (unsigned_tied key.1 s))) i || rest i)
      ∙ here (same_prefix key.0 p) (eq_by_cmp nat_cmp key.1 s) (list_any (eq_by_cmp nat_cmp key.1) slots) (test key.1) (at_slot true is)
  at false is rest = rest ∙ gone (same_prefix key.0 p) (eq_by_cmp nat_cmp key.1 s) (list_any (eq_by_cmp nat_cmp key.1) slots) (test key.1) (at_slot false is)

module _ (number shards : ℕ) (view : ViewOf) (connected : SlotsOf) (bases now : Bases) (pending : MarksOf) (joined : IsJoined number shards view connected bases pending) (p : IpPrefix)
    (settled : Settles p (offers_at bases view p) (λ s. ltb s (length view.members) && has_slot connected s) bases now) where
  abbrev offers : Values RouteFields
  offers = offers_at bases view p

  abbrev slots : List ℕ
  slots = set_of.items connected.inside

  -- the slots that were settled are the connected ones
  which : (s : ℕ) → (ltb s (length view.members) && has_slot connected s) ≡ list_any (eq_by_cmp nat_cmp s) slots
  which s = same_test _ _
      (λ both. sym (set_of.contains-items connected.inside s) ∙ (and_parts (ltb s (length view.members)) (has_slot connected s) both).1)
      (λ any. let up = set_of.contains-items connected.inside s ∙ any in let low = joined.connected_are s up in
      and_from (ltb s (length view.members)) (has_slot connected s) (lt-ltb s (length view.members) (omega (arith, joined.slots))) up)

  pub given_is : now.given ≡ with_each p offers slots bases.given
  given_is = map_of.same_map rib_total rib_exact _ _ (λ key.
      settled.given key ∙ ap (λ t. cond (same_prefix key.0 p && t) (offers key.1) (map_of.get bases.given key)) (which key.1)
      ∙ sym (get-with_each p offers slots bases.given key))

  -- the value of a cell that was settled
  value_at : (key : RibKey) → (same_prefix key.0 p && list_any (eq_by_cmp nat_cmp key.1) slots) ≡ true
      → not (same_values same_route (at_prefix bases.given p key.1) (at_prefix (with_each p offers slots bases.given) p key.1))
      ≡ not (same_values same_route (map_of.get bases.given key) (offers key.1))
  value_at key passes =
      let both = and_parts (same_prefix key.0 p) (list_any (eq_by_cmp nat_cmp key.1) slots) passes in
      let key_is : (p, key.1) ≡ key = λ i. (sym (same_prefix-is key.0 p both.0) i, key.1) in
      λ i. not (same_values same_route (map_of.get bases.given (key_is i))
      ((ap (map_of.get (with_each p offers slots bases.given)) key_is ∙ get-with_each p offers slots bases.given key
      ∙ ap (λ t. cond t (offers key.1) (map_of.get bases.given key)) passes) i))

  dirty_at : (key : RibKey) (old b a t u : Bool) → ((b && a) ≡ true → t ≡ u) → (old || (b && a) && u) ≡ (old || (b && (a && t)))
  dirty_at key old false a t u same = refl
  dirty_at key old true false t u same = refl
  dirty_at key old true true t u same = ap (λ x. old || x) (sym (same refl))

  pub dirty_is : now.dirty ≡ set_of.union bases.dirty (set_of.from_list (differing p slots bases.given (with_each p offers slots bases.given)))
  dirty_is = set_of.same_set rib_total rib_exact _ _ (λ key.
      settled.dirty key
      ∙ ap (λ t. set_of.contains bases.dirty key || (same_prefix key.0 p && t) && not (same_values same_route (map_of.get bases.given key) (offers key.1))) (which key.1)
      ∙ dirty_at key (set_of.contains bases.dirty key) (same_prefix key.0 p) (list_any (eq_by_cmp nat_cmp key.1) slots)
      (not (same_values same_route (at_prefix bases.given p key.1) (at_prefix (with_each p offers slots bases.given) p key.1)))
      (not (same_values same_route (map_of.get bases.given key) (offers key.1))) (value_at key)
      ∙ sym (set_of.contains-union rib_total bases.dirty (set_of.from_list (differing p slots bases.given (with_each p offers slots bases.given))) key
      ∙ ap (λ t. set_of.contains bases.dirty key || t)
      (set_of.contains-from_list rib_total (differing p slots bases.given (with_each p offers slots bases.given)) key
      ∙ any_differing p (λ s. not (same_values same_route (at_prefix bases.given p s) (at_prefix (with_each p offers slots bases.given) p s))) slots key)))

  pub work_acts : shard_in number shards view connected now (record pending { marked = set_of.remove pending.marked p })
      ≡ acted (Work p) (shard_in number shards view connected bases pending)
  unfolding ribs_after
  work_acts =
      (λ i. shard_in number shards view connected (settled.rest i) (record pending { marked = set_of.remove pending.marked p }))
      ∙ (λ i. shard_in number shards view connected (record bases { given = given_is i; dirty = dirty_is i; cell_numbers = now.cell_numbers }) (record pending { marked = set_of.remove pending.marked p }))

  -- ---- what is offered can be sent

  of_choice : (slot : ℕ) (chosen : Option ℕ) (route : RouteFields) → ((e : ℕ) → chosen ≡ Some e → (a : Contender) × Contains (candidates_at bases view p slot) a × (a.slot ≡ e))
      → of_other slot (at_prefix bases.announced p) chosen ≡ Some route → is_usable route ≡ true
  of_choice slot None route from is = absurd (none_some is) where
    none_some : None ≡ Some route → ⊥
    none_some e = cc
  of_choice slot (Some e) route from is = at (eqb e slot) is where
    none_some : None ≡ Some route → ⊥
    none_some e = cc

    at : (t : Bool) → cond t None (at_prefix bases.announced p e) ≡ Some route → is_usable route ≡ true
    at true is = absurd (none_some is)
    at false is =
        let found = from e refl in
        let candidate = candidate_of bases view p slot found.0 found.1 in
        let one : Some candidate.route ≡ Some route = sym candidate.is_announced ∙ ap (λ s. announced_at bases s p) found.2 ∙ is in
        let same : candidate.route ≡ route = cc in
        ap is_usable (sym same) ∙ candidate.usable

  chosen_from_list : (slot : ℕ) (cost : ℕ → Option ℕ) (list : List Contender) (e : ℕ) → choice slot cost list ≡ Some e → (a : Contender) × Contains list a × (a.slot ≡ e)
  chosen_from_list slot cost [] e is = absurd (none_some (sym (choice-nil slot cost) ∙ is)) where
    none_some : None ≡ Some e → ⊥
    none_some e = cc
  chosen_from_list slot cost (a ∷ list) e is =
      let found = choice_is_tied slot cost (a ∷ list) (Contains-filled (a ∷ list) a (Contains-head a list)) in
      let one : Some found.0.slot ≡ Some e = sym found.2 ∙ is in
      let same : found.0.slot ≡ e = cc in
      (found.0, (member_of_tied (a ∷ list) found.0 found.1).0, same)

  offer_usable : (slot : ℕ) (route : RouteFields) → offers slot ≡ Some route → is_usable route ≡ true
  unfolding offer_of
  offer_usable slot route is =
      of_choice slot (choice slot (slot_cost view.edges view.members slot) (candidates_at bases view p slot)) route
      (λ e chosen. chosen_from_list slot (slot_cost view.edges view.members slot) (candidates_at bases view p slot) e chosen) is

  usable_now : (s : ℕ) (q : IpPrefix) (route : RouteFields) (t : Bool) → cond t (offers s) (given_at bases s q) ≡ Some route → is_usable route ≡ true
  usable_now s q route true is = offer_usable s route is
  usable_now s q route false is = joined.usable s q route is

  pub joined_work : IsJoined number shards view connected now (record pending { marked = set_of.remove pending.marked p })
  joined_work = record {
    some_shard = joined.some_shard;
    slots = joined.slots;
    cells = ap (λ (b : Bases). b.members) settled.rest ∙ joined.cells;
    connected_are = joined.connected_are;
    seated = λ s q there. joined.seated s q (same_announced s q there);
    opened = λ s q there. ap (λ (b : Bases). is_opened b q) settled.rest ∙ joined.opened s q (same_announced s q there);
    markable = λ s q there. joined.markable s q (same_announced s q there);
    marked = λ q on. ap (λ (b : Bases). is_opened b q) settled.rest
        ∙ joined.marked q (and_parts (not (eq_by_cmp prefix_cmp q p)) (is_marked pending q) (sym (set_of.contains-remove prefix_total pending.marked p q) ∙ on)).1;
    usable = λ s q route is. usable_now s q route (same_prefix q p && (ltb s (length view.members) && has_slot connected s)) (sym (settled.given (q, s)) ∙ is);
  } where
    same_announced : (s : ℕ) (q : IpPrefix) → IsSome (announced_at now s q) → IsSome (announced_at bases s q)
    same_announced s q there = subst (λ (b : Bases). IsSome (announced_at b s q)) settled.rest there

-- ---- a new shard

abbrev nothing_at : Rib RouteFields
nothing_at = map_of.empty

pub joined_first : (number shards : ℕ) (view : ViewOf) (connected : SlotsOf) (bases : Bases) (pending : MarksOf) → 1 ≤ shards → connected ≡ record { members = length view.members; inside = set_of.empty }
    → bases ≡ no_bases (length view.members) → pending ≡ marks.no_marks → IsJoined number shards view connected bases pending
joined_first number shards view connected bases pending some slots_are bases_are marks_are =
    subst (λ (x : SlotsOf × Bases × MarksOf). IsJoined number shards view x.0 x.1 x.2) (λ i. (sym slots_are i, sym bases_are i, sym marks_are i)) (record {
      some_shard = some;
      slots = refl;
      cells = refl;
      connected_are = λ s on. absurd (false≢true (sym (set_of.contains-empty nat_cmp s) ∙ on));
      seated = λ s q there. absurd (false≢true (sym (nothing s q) ∙ there));
      opened = λ s q there. absurd (false≢true (sym (nothing s q) ∙ there));
      markable = λ s q there. absurd (false≢true (sym (nothing s q) ∙ there));
      marked = λ q on. absurd (false≢true (sym (set_of.contains-empty prefix_cmp q) ∙ on));
      usable = λ s q route is. absurd (none_some route (sym (map_of.get-empty rib_cmp (q, s)) ∙ is));
    }) where
      nothing : (s : ℕ) (q : IpPrefix) → is_some (map_of.get nothing_at (q, s)) ≡ false
      nothing s q = ap is_some (map_of.get-empty rib_cmp (q, s))

      none_some : (route : RouteFields) → None ≡ Some route → ⊥
      none_some route e = cc

-- ---- what the calls leave

pub joined_to : (number shards : ℕ) (view : ViewOf) (connected : SlotsOf) (bases : Bases) (pending : MarksOf) (slots : SlotsOf) (now : Bases) (marked : MarksOf)
    → slots ≡ connected → now ≡ bases → marked ≡ pending → IsJoined number shards view connected bases pending → IsJoined number shards view slots now marked
joined_to number shards view connected bases pending slots now marked a b c joined =
    subst (λ (x : SlotsOf × Bases × MarksOf). IsJoined number shards view x.0 x.1 x.2) (λ i. (sym a i, sym b i, sym c i)) joined

module _ (number shards : ℕ) (view : ViewOf) (connected : SlotsOf) (bases : Bases) (pending : MarksOf) (joined : IsJoined number shards view connected bases pending) (slot : ℕ) where
  abbrev all_marked : MarksOf
  all_marked = record pending { marked = set_of.union pending.marked (prefixes_of (λ e. true) bases.announced) }

  abbrev own_marked : MarksOf
  own_marked = record pending { marked = set_of.union pending.marked (prefixes_of (λ e. eqb e slot) bases.announced) }

  pub joined_up : slot < length view.members → IsJoined number shards view (record connected { inside = set_of.insert connected.inside slot }) (after_clear slot bases) all_marked
  joined_up member =
      joined_insert number shards view connected (after_clear slot bases) all_marked
      (joined_clear number shards view connected bases all_marked (joined_union number shards view connected bases pending joined (λ e. true)) slot) slot member

  pub joined_down : IsJoined number shards view (record connected { inside = set_of.remove connected.inside slot }) (after_clear slot (after_drop slot bases)) own_marked
  joined_down =
      joined_take_out number shards view connected (after_clear slot (after_drop slot bases)) own_marked
      (joined_clear number shards view connected (after_drop slot bases) own_marked
      (joined_drop number shards view connected bases own_marked (joined_union number shards view connected bases pending joined (λ e. eqb e slot)) slot) slot) slot

-- the announcements are seated, as the calls on them ask
pub seated_in : (number shards : ℕ) (view : ViewOf) (connected : SlotsOf) (bases : Bases) (pending : MarksOf) → IsJoined number shards view connected bases pending → AreSeated bases bases.members
seated_in number shards view connected bases pending joined = subst (AreSeated bases) (sym joined.cells) joined.seated

-- a slot of the shard is one of the view
pub member_in : (number shards : ℕ) (view : ViewOf) (connected : SlotsOf) (bases : Bases) (pending : MarksOf) (shard : ShardOf) (slot : ℕ) → shard_in number shards view connected bases pending ≡ shard
    → slot < length shard.members → slot < length view.members
member_in number shards view connected bases pending shard slot is member = subst (λ (s : ShardOf). slot < length s.members) (sym is) member

-- ---- whether an announcement changes

same_itself : (a : Option RouteFields) → same_values same_route a a ≡ true
same_itself None = refl
same_itself (Some a) = route_exact.itself a

pub values_same : (a b : Option RouteFields) → same_values same_route a b ≡ true → a ≡ b
values_same None None e = refl
values_same None (Some b) e = absurd (false≢true e)
values_same (Some a) None e = absurd (false≢true e)
values_same (Some a) (Some b) e = ap Some (route_exact.sound a b e)

pub values_differ : (a b : Option RouteFields) → same_values same_route a b ≡ false → a ≡ b → ⊥
values_differ a b e same = false≢true (sym e ∙ ap (same_values same_route a) (sym same) ∙ same_itself a)

pub some_differs : (a : Option RouteFields) → is_some a ≡ true → same_values same_route a None ≡ false
some_differs None some = absurd (false≢true some)
some_differs (Some a) some = refl

pub none_same : (a : Option RouteFields) → is_some a ≡ false → same_values same_route a None ≡ true
none_same None none = refl
none_same (Some a) none = absurd (false≢true (sym none))

-- ---- what a change leaves

pub opened_now : (pending : MarksOf) (p : IpPrefix) → set_of.contains (set_of.insert pending.opened p) p ≡ true
opened_now pending p = set_of.contains-insert prefix_total pending.opened p p ∙ or_left (eq_by_cmp prefix_cmp p p) (marks.is_opened pending p) (tied_self p)

module _ (number shards : ℕ) (view : ViewOf) (connected : SlotsOf) (bases : Bases) (pending : MarksOf) (joined : IsJoined number shards view connected bases pending) (slot : ℕ) (p : IpPrefix) where
  abbrev with_prefix : MarksOf
  with_prefix = record pending { opened = set_of.insert pending.opened p }

  pub joined_announced : (value : Option RouteFields) (numbers : Option ℕ) → slot < length view.members → IsJoined number shards view connected (after_open p (after_change slot p value numbers bases)) with_prefix
  joined_announced value numbers member =
      joined_announce number shards view connected bases with_prefix (joined_open number shards view connected bases pending joined p) slot p value numbers member (opened_now pending p)

  pub joined_announced_marked : (value : Option RouteFields) (numbers : Option ℕ) → slot < length view.members
      → IsJoined number shards view connected (after_open p (after_change slot p value numbers bases)) (record pending { opened = set_of.insert pending.opened p; marked = set_of.insert pending.marked p })
  joined_announced_marked value numbers member =
      joined_mark number shards view connected (after_open p (after_change slot p value numbers bases)) with_prefix (joined_announced value numbers member) p
      (set_of.contains-insert prefix_total bases.opened p p ∙ or_left (eq_by_cmp prefix_cmp p p) (is_opened bases p) (tied_self p))

  pub joined_withdrawn : is_some (announced_at bases slot p) ≡ true → IsJoined number shards view connected (after_change slot p None None bases) (record pending { marked = set_of.insert pending.marked p })
  joined_withdrawn there =
      joined_mark number shards view connected (after_change slot p None None bases) pending (joined_withdraw number shards view connected bases pending joined slot p None) p
      (joined.opened slot p there)

-- ---- another view

-- the marks with the prefixes of those to whom a cost differs in two views
abbrev pub moved_marks : Bases → MarksOf → ViewOf → ViewOf → MarksOf
moved_marks bases pending before now = record pending {
  marked = set_of.union pending.marked (prefixes_of (λ e. cost_differs before.edges now.edges before.members e (length before.members)) bases.announced);
}

pub flagged_marks : (bases : Bases) (pending : MarksOf) (before now : ViewOf) (flags : List Bool) → AreMoved before.edges now.edges before.members flags
    → record pending { marked = set_of.union pending.marked (prefixes_of (flag_at flags) bases.announced) } ≡ moved_marks bases pending before now
flagged_marks bases pending before now flags are = λ i. record pending { marked = set_of.union pending.marked (prefixes_of (λ e. are e i) bases.announced) }

pub same_view : (view other : ViewOf) → other.members ≡ view.members → other ≡ record view { edges = other.edges }
same_view view other same = λ i. record { edges = other.edges; members = same i }

module _ (number shards : ℕ) (view : ViewOf) (connected : SlotsOf) (bases : Bases) (pending : MarksOf) (joined : IsJoined number shards view connected bases pending) (other : ViewOf) (same : other.members ≡ view.members) where
  pub joined_moved : IsJoined number shards other connected bases (moved_marks bases pending view other)
  joined_moved =
      joined_view number shards view connected bases (moved_marks bases pending view other)
      (joined_union number shards view connected bases pending joined (λ e. cost_differs view.edges other.edges view.members e (length view.members))) other same

  pub places_moved : (old new : List ℕ) (list from marks tied : ℕ) → AreClasses other new → ArePlaces view old list from marks tied → ArePlaces other new list from marks tied
  places_moved old new list from marks tied classes places = record {
    classes_are = classes;
    list_is = places.list_is ∙ sym (ap length same);
    from_is = places.from_is ∙ sym (ap length same);
    marks_is = places.marks_is ∙ sym (ap length same);
    tied_is = places.tied_is ∙ sym (ap length same);
  }
