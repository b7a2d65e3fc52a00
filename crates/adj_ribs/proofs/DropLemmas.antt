-- All that a slot announces, or is given, goes.
use Rattle.std.proofs.Common.{◌≡◌, ℕ, ◌<◌, ◌==◌, ◌&&◌, ◌||◌, Bool, true, false, cond, not, eqb, Option, Some, None, is_some, IsSome, IfSome, IfNone, refl, sym, ap, subst, ◌∙◌, arith}
use Rattle.std.specs.FinMap as map_of
use Rattle.std.specs.FinSet as set_of
use Rattle.std.specs.Ordering.{is_lt, is_le}
use Rattle.std.specs.Cmp.{tied_itself}
use Rattle.std.specs.declared.cmp.Ordering.{Ordering}
use Rattle.std.specs.declared.cmp.Ordering.TheVariants.{Less, Equal, Greater}
use Rattle.std.proofs.lemmas.Bool.{eq-eqb, eqb-true, and_parts, and_from}
use Rattle.rcp_base.specs.IpPrefix.{IpPrefix, prefix_cmp}
use Rattle.rcp_model.specs.Ribs.{RibKey, RouteNumbers}
use Rattle.rcp_model.specs.ServerRibs.{Rib, with_value, without_slot}
use Rattle.rcp_base.specs.Maps.{same_prefix}
use Rattle.rcp_model.proofs.RibLemmas.{rib_total, rib_exact, prefix_total, prefix_exact}
use Rattle.rib_laws.proofs.RibLookups.{same_test, get-with_value, get-without_slot, get-retained}
use Rattle.attr_store.specs.Kept.{KeptRoutes, IsLive, HasEachOnce}
use Rattle.route_store.specs.Announcers.{IsAnnouncedBy}
use Rattle.route_store.specs.Next as next
use Rattle.route_store.proofs.DropLemmas.{all_dropped}
use Rattle.out_table.specs.Tables as tables
use Rattle.out_table.specs.Tables.{Table}
use Rattle.adj_ribs.specs.Bases.{Bases, announced_at, after_change, after_drop, after_take, after_clear, after_clean}
use Rattle.adj_ribs.specs.Joins.{routes_of, bases_of, held_by, released_if, IsCounted, AreJoined}
use Rattle.adj_ribs.proofs.UseLemmas.{is_key, key_is, is_key-itself, len_with, there, plus, counted_same, counted_released_if, counted_cells, live_if}
use Rattle.adj_ribs.proofs.RouteLemmas.{Narrows, Carries, routes_without, routes_same, once_narrowed, narrows_live, released_narrows_if, same_in}
use Rattle.adj_ribs.proofs.LookLemmas.{lt_less}
use Rattle.adj_ribs.proofs.JoinLemmas.{announced_by, numbers_by, live_number, live_cell, opened_without}

-- ---- a cell is cleaned

module _ (routes : KeptRoutes) (numbers : RouteNumbers) (table : Table) (slot : ℕ) where
  cleaned_cells : (o : Option IpPrefix) → (tables.cleaned slot o table).cells ≡ table.cells
  cleaned_cells None = refl
  cleaned_cells (Some p) = refl

  cleaned_opened : (o : Option IpPrefix) → (tables.cleaned slot o table).opened ≡ table.opened
  cleaned_opened None = refl
  cleaned_opened (Some p) = refl

  pub joined_cleaned : AreJoined routes numbers table → (o : Option IpPrefix) (table2 : Table) → table2 ≡ tables.cleaned slot o table → AreJoined routes numbers table2
  joined_cleaned joined o table2 is = subst (λ (t : Table). AreJoined routes numbers t) (sym is) (at_prefix o) where
    at_prefix : (o : Option IpPrefix) → AreJoined routes numbers (tables.cleaned slot o table)
    at_prefix None = joined
    at_prefix (Some p) = record { once = joined.once; counted = joined.counted; announced = joined.announced; given = joined.given }

  bases_at : (o : Option IpPrefix) → bases_of routes numbers (tables.cleaned slot o table) ≡ after_take slot o (bases_of routes numbers table)
  unfolding bases_of
  bases_at None = refl
  bases_at (Some p) = refl

  pub bases_cleaned : (o : Option IpPrefix) (table2 : Table) → table2 ≡ tables.cleaned slot o table → (b : Bases) → bases_of routes numbers table ≡ b → bases_of routes numbers table2 ≡ after_take slot o b
  bases_cleaned o table2 is b view = ap (bases_of routes numbers) is ∙ bases_at o ∙ ap (after_take slot o) view

  pub joined_unmarked : AreJoined routes numbers table → (table2 : Table) → table2 ≡ tables.unmarked slot table → AreJoined routes numbers table2
  joined_unmarked joined table2 is = subst (λ (t : Table). AreJoined routes numbers t) (sym is) (record { once = joined.once; counted = joined.counted; announced = joined.announced; given = joined.given })

  unmarked_at : bases_of routes numbers (tables.unmarked slot table) ≡ after_clean slot (bases_of routes numbers table)
  unfolding bases_of
  unmarked_at = refl

  pub bases_unmarked : (table2 : Table) → table2 ≡ tables.unmarked slot table → (b : Bases) → bases_of routes numbers table ≡ b → bases_of routes numbers table2 ≡ after_clean slot b
  bases_unmarked table2 is b view = ap (bases_of routes numbers) is ∙ unmarked_at ∙ ap (after_clean slot) view

-- ---- the announcements of a slot go

without_again : {V : Type 0} (slot : ℕ) (p : IpPrefix) (rib : Rib V) → without_slot slot (with_value (p, slot) None rib) ≡ without_slot slot rib
without_again {V} slot p rib = map_of.same_map rib_total rib_exact _ _ (λ k.
    get-without_slot slot (with_value (p, slot) None rib) k ∙ ap (cond (eqb k.1 slot) None) (get-with_value (p, slot) None rib k)
    ∙ at_test k (is_key k (p, slot)) refl ∙ sym (get-without_slot slot rib k)) where
      at_test : (k : RibKey) (b : Bool) → is_key k (p, slot) ≡ b → cond (eqb k.1 slot) None (cond b None (map_of.get rib k)) ≡ cond (eqb k.1 slot) None (map_of.get rib k)
      at_test k true is =
          let own : eqb k.1 slot ≡ true = eq-eqb k.1 slot (ap (λ (k : RibKey). k.1) (key_is k (p, slot) is)) in
          ap (λ (b : Bool). cond b None None) own ∙ sym (ap (λ (b : Bool). cond b None (map_of.get rib k)) own)
      at_test k false is = refl

pub drop_again : (slot : ℕ) (p : IpPrefix) (b : Bases) → after_drop slot (after_change slot p None None b) ≡ after_drop slot b
drop_again slot p b =
    let announced = without_again slot p b.announced in
    let numbers = without_again slot p b.numbers in
    λ i. record b { announced = announced i; numbers = numbers i }

-- one entry less
pub one_fewer : {V : Type 0} (key : RibKey) (rib : Rib V) → IsSome (map_of.get rib key) → map_of.len (with_value key None rib) < map_of.len rib
one_fewer key rib held =
    let one : there (map_of.get rib key) ≡ 1 = ap (λ (b : Bool). cond b 1 0) held in
    let moved = len_with key None rib in
    omega arith

module _ (routes : KeptRoutes) (numbers : RouteNumbers) (table : Table) (b : Bases) (view : bases_of routes numbers table ≡ b) (slot : ℕ)
    (none : (q : IpPrefix) → next.IsAfter None q → IsAnnouncedBy numbers slot q → ⊥) where
  numbers_left : numbers ≡ without_slot slot numbers
  numbers_left = all_dropped slot numbers none

  announced_left : routes_of routes numbers ≡ without_slot slot (routes_of routes numbers)
  announced_left = ap (routes_of routes) numbers_left ∙ routes_without routes routes numbers slot (λ k m other here. refl)

  pub nothing_left : after_drop slot b ≡ b
  nothing_left =
      let announced : without_slot slot b.announced ≡ b.announced =
      ap (without_slot slot) (sym (announced_by routes numbers table b view)) ∙ sym announced_left ∙ announced_by routes numbers table b view in
      let numbers : without_slot slot b.numbers ≡ b.numbers =
      ap (without_slot slot) (sym (numbers_by routes numbers table b view)) ∙ sym numbers_left ∙ numbers_by routes numbers table b view in
      λ i. record b { announced = announced i; numbers = numbers i }

pub first_some : (numbers : RouteNumbers) (slot : ℕ) (b : Bases) → ((q : IpPrefix) → is_some (map_of.get numbers (q, slot)) ≡ is_some (announced_at b slot q)) → (o : Option IpPrefix)
    → next.IsNext (IsAnnouncedBy numbers slot) None o → IfSome o (λ p. IsSome (announced_at b slot p))
first_some numbers slot b same None least = tt
first_some numbers slot b same (Some p) least = sym (same p) ∙ least.one

pub first_none : (numbers : RouteNumbers) (slot : ℕ) (P : Type 0) → (((q : IpPrefix) → next.IsAfter None q → IsAnnouncedBy numbers slot q → ⊥) → P) → (o : Option IpPrefix)
    → next.IsNext (IsAnnouncedBy numbers slot) None o → IfNone o P
first_none numbers slot P make None none = make none
first_none numbers slot P make (Some p) least = tt

-- ---- the cells of a slot go

-- whether a cell isn't passed yet: it is another slot's, or after the prefix
abbrev pub is_left : ℕ → Option IpPrefix → RibKey → Bool
is_left slot after key = not (key.1 == slot) || tables.is_after after key.0

abbrev pub left : ℕ → Option IpPrefix → RouteNumbers → RouteNumbers
left slot after cells = map_of.retain_keys cells (is_left slot after)

get_left : (slot : ℕ) (after : Option IpPrefix) (cells : RouteNumbers) (k : RibKey) → map_of.get (left slot after cells) k ≡ cond (is_left slot after k) (map_of.get cells k) None
get_left slot after cells k = get-retained (is_left slot after) cells k

or-true : (a : Bool) → (a || true) ≡ true
or-true true = refl
or-true false = refl

left_all : (slot : ℕ) (cells : RouteNumbers) → left slot None cells ≡ cells
left_all slot cells = map_of.same_map rib_total rib_exact _ _ (λ k. get_left slot None cells k ∙ ap (λ (b : Bool). cond b (map_of.get cells k) None) (or-true (not (k.1 == slot))))

-- whether a cell of the slot after the prefix has a number
abbrev pub is_entry : RouteNumbers → ℕ → Option IpPrefix → IpPrefix → Bool
is_entry cells slot after q = tables.is_after after q && is_some (map_of.get cells (q, slot))

none_if : (o : Option ℕ) → is_some o ≡ false → o ≡ None
none_if None e = refl
none_if (Some n) e = absurd (let f = e in cc)

either_none : (b : Bool) (o : Option ℕ) → (b && is_some o) ≡ false → cond b o None ≡ None
either_none true o e = none_if o e
either_none false o e = refl

left_done : (slot : ℕ) (after : Option IpPrefix) (cells : RouteNumbers) → ((q : IpPrefix) → is_entry cells slot after q ≡ false) → left slot after cells ≡ without_slot slot cells
left_done slot after cells none = map_of.same_map rib_total rib_exact _ _ (λ k. get_left slot after cells k ∙ at_test k (k.1 == slot) refl ∙ sym (get-without_slot slot cells k)) where
  at_test : (k : RibKey) (b : Bool) → (k.1 == slot) ≡ b → cond (not b || tables.is_after after k.0) (map_of.get cells k) None ≡ cond b None (map_of.get cells k)
  at_test k true is =
      either_none (tables.is_after after k.0) (map_of.get cells k)
      (ap (λ (s : ℕ). tables.is_after after k.0 && is_some (map_of.get cells (k.0, s))) (eqb-true k.1 slot is) ∙ none k.0)
  at_test k false is = refl

less_later : (after : Option IpPrefix) (p q : IpPrefix) → tables.is_after after p ≡ true → is_lt (prefix_cmp p q) ≡ true → tables.is_after after q ≡ true
less_later None p q first second = refl
less_later (Some a) p q first second = ap is_lt (prefix_total.trans a p q (lt_less (prefix_cmp a p) first) (lt_less (prefix_cmp p q) second))

not_below : (o : Ordering) → is_le o ≡ true → is_lt o ≡ false → o ≡ Equal
not_below Less le lt = absurd (let f = lt in cc)
not_below Equal le lt = refl
not_below Greater le lt = absurd (let f = le in cc)

module _ (slot : ℕ) (after : Option IpPrefix) (cells : RouteNumbers) (p : IpPrefix) (least : tables.IsLeast (is_entry cells slot after) (Some p)) where
  here : tables.is_after after p ≡ true
  here = (and_parts (tables.is_after after p) (is_some (map_of.get cells (p, slot))) least.0).0

  held : is_some (map_of.get cells (p, slot)) ≡ true
  held = (and_parts (tables.is_after after p) (is_some (map_of.get cells (p, slot))) least.0).1

  -- another entry of the slot comes after both or after neither
  both_after : (q : IpPrefix) → is_some (map_of.get cells (q, slot)) ≡ true → is_key (q, slot) (p, slot) ≡ false → is_lt (prefix_cmp p q) ≡ tables.is_after after q
  both_after q entry other = same_test (is_lt (prefix_cmp p q)) (tables.is_after after q) (λ less. less_later after p q here less) (λ later. lt_of (is_lt (prefix_cmp p q)) refl later) where
    lt_of : (b : Bool) → is_lt (prefix_cmp p q) ≡ b → tables.is_after after q ≡ true → b ≡ true
    lt_of true is later = refl
    lt_of false is later =
        let le = least.1 q (and_from (tables.is_after after q) (is_some (map_of.get cells (q, slot))) later entry) in
        let same : p ≡ q = prefix_exact p q (not_below (prefix_cmp p q) le is) in
        let yes : is_key (q, slot) (p, slot) ≡ true = ap (λ (r : IpPrefix). is_key (q, slot) (r, slot)) same ∙ is_key-itself (q, slot) in
        sym other ∙ yes

  left_step : left slot (Some p) cells ≡ with_value (p, slot) None (left slot after cells)
  left_step = map_of.same_map rib_total rib_exact _ _ (λ k.
      get_left slot (Some p) cells k ∙ at_slot k (k.1 == slot) refl
      ∙ sym (ap (cond (is_key k (p, slot)) None) (get_left slot after cells k)) ∙ sym (get-with_value (p, slot) None (left slot after cells) k)) where
        at_entry : (o : Option ℕ) (a b : Bool) → (is_some o ≡ true → a ≡ b) → cond a o None ≡ cond b o None
        at_entry None true true same = refl
        at_entry None true false same = refl
        at_entry None false true same = refl
        at_entry None false false same = refl
        at_entry (Some n) a b same = ap (λ (c : Bool). cond c (Some n) None) (same refl)

        at_key : (k : RibKey) → k.1 ≡ slot → (b : Bool) → is_key k (p, slot) ≡ b
            → cond (is_lt (prefix_cmp p k.0)) (map_of.get cells k) None ≡ cond b None (cond (tables.is_after after k.0) (map_of.get cells k) None)
        at_key k own true is =
            let same : p ≡ k.0 = sym (ap (λ (k : RibKey). k.0) (key_is k (p, slot) is)) in
            let not_less : is_lt (prefix_cmp p k.0) ≡ false = ap (λ (q : IpPrefix). is_lt (prefix_cmp p q)) (sym same) ∙ ap is_lt (tied_itself prefix_total p) in
            ap (λ (b : Bool). cond b (map_of.get cells k) None) not_less
        at_key k own false is =
            at_entry (map_of.get cells k) (is_lt (prefix_cmp p k.0)) (tables.is_after after k.0)
            (λ entry. both_after k.0 (ap (λ (s : ℕ). is_some (map_of.get cells (k.0, s))) (sym own) ∙ entry) (ap (λ (s : ℕ). is_key (k.0, s) (p, slot)) (sym own) ∙ is))

        other_key : (k : RibKey) → (k.1 == slot) ≡ false → is_key k (p, slot) ≡ false
        other_key k is = and-false (same_prefix k.0 p) (eqb k.1 slot) is where
          and-false : (a b : Bool) → b ≡ false → (a && b) ≡ false
          and-false true b e = e
          and-false false b e = refl

        at_slot : (k : RibKey) (b : Bool) → (k.1 == slot) ≡ b
            → cond (not b || is_lt (prefix_cmp p k.0)) (map_of.get cells k) None ≡ cond (is_key k (p, slot)) None (cond (is_left slot after k) (map_of.get cells k) None)
        at_slot k true is =
            at_key k (eqb-true k.1 slot is) (is_key k (p, slot)) refl
            ∙ ap (λ (b : Bool). cond (is_key k (p, slot)) None (cond (not b || tables.is_after after k.0) (map_of.get cells k) None)) (sym is)
        at_slot k false is =
            sym (ap (λ (b : Bool). cond b None (cond (is_left slot after k) (map_of.get cells k) None)) (other_key k is)
            ∙ ap (λ (b : Bool). cond (not b || tables.is_after after k.0) (map_of.get cells k) None) is)

  left_here : map_of.get (left slot after cells) (p, slot) ≡ map_of.get cells (p, slot)
  left_here = get_left slot after cells (p, slot) ∙ ap (λ (b : Bool). cond b (map_of.get cells (p, slot)) None) (ap (λ (b : Bool). not (slot == slot) || b) here ∙ or-true (not (slot == slot)))

  pub fewer_left : map_of.len (left slot (Some p) cells) < map_of.len (left slot after cells)
  fewer_left =
      subst (λ (m : RouteNumbers). map_of.len m < map_of.len (left slot after cells)) (sym left_step)
      (one_fewer (p, slot) (left slot after cells) (ap is_some left_here ∙ held))

-- What holds while the uses of a slot's cells are given back: those up to the prefix are.
pub record IsReleasing (routes routes' : KeptRoutes) (numbers cells : RouteNumbers) (slot : ℕ) (after : Option IpPrefix) : Type 0 where
  pub once : HasEachOnce routes'
  pub narrows : Narrows routes routes'
  pub counted : IsCounted routes' (held_by numbers (left slot after cells))

pub releasing_first : (routes : KeptRoutes) (numbers : RouteNumbers) (table : Table) (slot : ℕ) → AreJoined routes numbers table → IsReleasing routes routes numbers table.cells slot None
releasing_first routes numbers table slot joined = record {
  once = joined.once;
  narrows = λ m live. refl;
  counted = subst (λ (m : RouteNumbers). IsCounted routes (held_by numbers m)) (sym (left_all slot table.cells)) joined.counted;
}

module _ (routes routes' : KeptRoutes) (numbers cells : RouteNumbers) (slot : ℕ) (after : Option IpPrefix) (so_far : IsReleasing routes routes' numbers cells slot after) where
  module _ (p : IpPrefix) (least : tables.IsLeast (is_entry cells slot after) (Some p)) (first : Option ℕ) (first_is : first ≡ map_of.get cells (p, slot)) where
    counted_next : IsCounted routes' (plus (held_by numbers (left slot (Some p) cells)) first)
    counted_next =
        subst (λ (o : Option ℕ). IsCounted routes' (plus (held_by numbers (left slot (Some p) cells)) o)) (left_here slot after cells p least ∙ sym first_is)
        (subst (λ (m : RouteNumbers). IsCounted routes' (plus (held_by numbers m) (map_of.get (left slot after cells) (p, slot)))) (sym (left_step slot after cells p least))
        (counted_cells routes' numbers (left slot after cells) (p, slot) None
        (counted_same routes' (held_by numbers (left slot after cells)) (plus (held_by numbers (left slot after cells)) None) (λ m. omega arith) so_far.counted)))

    pub live_next : IfSome first (IsLive routes')
    live_next = live_if routes' (held_by numbers (left slot (Some p) cells)) first counted_next

    pub releasing_next : (routes2 : KeptRoutes) → routes2 ≡ released_if routes' first → IsReleasing routes routes2 numbers cells slot (Some p)
    releasing_next routes2 out = subst (λ (r : KeptRoutes). IsReleasing routes r numbers cells slot (Some p)) (sym out) (record {
      once = once_narrowed routes' (released_if routes' first) (released_narrows_if routes' first) so_far.once;
      narrows = λ m live.
          let now = released_narrows_if routes' first m live in
          now ∙ so_far.narrows m (narrows_live routes' (released_if routes' first) (released_narrows_if routes' first) m live);
      counted = counted_released_if routes' (held_by numbers (left slot (Some p) cells)) first counted_next;
    })

  module _ (table : Table) (table_cells : table.cells ≡ cells) (joined : AreJoined routes numbers table) (none : (q : IpPrefix) → is_entry cells slot after q ≡ false) where
    counted_end : IsCounted routes' (held_by numbers (without_slot slot table.cells))
    counted_end =
        subst (λ (m : RouteNumbers). IsCounted routes' (held_by numbers (without_slot slot m))) (sym table_cells)
        (subst (λ (m : RouteNumbers). IsCounted routes' (held_by numbers m)) (left_done slot after cells none) so_far.counted)

    carries_end : Carries routes routes'
    carries_end m live later = same_in routes routes' m (so_far.narrows m later)

    pub joined_cleared : (table2 : Table) → table2 ≡ tables.cleared slot table → AreJoined routes' numbers table2
    joined_cleared table2 is = subst (λ (t : Table). AreJoined routes' numbers t) (sym is) (record {
      once = so_far.once;
      counted = counted_end;
      announced = joined.announced;
      given = opened_without table.cells slot table.opened joined.given;
    })

    bases_end : bases_of routes' numbers (tables.cleared slot table) ≡ after_clear slot (bases_of routes numbers table)
    unfolding bases_of
    bases_end =
        let announced = routes_same routes routes' numbers
        (λ k m here. carries_end m (live_number routes numbers table.cells joined.counted k m here) (live_number routes' numbers (without_slot slot table.cells) counted_end k m here)) in
        let given = routes_without routes routes' table.cells slot
        (λ k m other here. carries_end m (live_cell routes numbers table.cells joined.counted k m here)
        (live_cell routes' numbers (without_slot slot table.cells) counted_end k m
        (get-without_slot slot table.cells k ∙ ap (λ (b : Bool). cond b None (map_of.get table.cells k)) other ∙ here))) in
        λ i. record {
          members = table.members;
          announced = announced i;
          given = given i;
          dirty = set_of.retain table.dirty (λ key. not (key.1 == slot));
          opened = table.opened;
          numbers = numbers;
          cell_numbers = without_slot slot table.cells;
        }

    pub bases_cleared : (table2 : Table) → table2 ≡ tables.cleared slot table → (b : Bases) → bases_of routes numbers table ≡ b → bases_of routes' numbers table2 ≡ after_clear slot b
    bases_cleared table2 is b view = ap (bases_of routes' numbers) is ∙ bases_end ∙ ap (after_clear slot) view
