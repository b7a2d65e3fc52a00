-- The text of a table, entry by entry.
use Rattle.std.proofs.Common.{◌≡◌, ℕ, zero, suc, ◌+◌, ◌<◌, ◌≤◌, Bool, true, false, ◌&&◌, ◌||◌, List, [], ◌∷◌, ◌++◌, length, map, drop, Option, Some, None, is_some, IsSome, Result, Ok, Err, refl, sym, ap, subst, ◌∙◌, inl, inr, append_assoc, append-nil, arith, if◌then◌else◌}
use Rattle.std.specs.Prelude.{filter, slice_get, min, codes, OnOk}
use Rattle.std.specs.List.{flat_map}
use Rattle.std.proofs.lemmas.Bool.{cases_Bool, false≢true, and_parts}
use Rattle.rcp_base.specs.IpPrefix.{IpPrefix}
use Rattle.rcp_base.specs.Maps.{get_at, same_prefix, is_before, is_among}
use Rattle.rcp_base.specs.declared.names.Member.{Member}
use Rattle.rcp_base.proofs.MapLemmas.{is_among-include_all, same_prefix-is}
use Rattle.rcp_model.specs.Assigned.{IsLeast, IsAfter}
use Rattle.rcp_model.specs.Rising.{IsRising, IsBelow}
use Rattle.rcp_model.specs.Attributes.{number_width}
use Rattle.rcp_model.specs.Routes.{RouteFields, route_in}
use Rattle.rcp_model.specs.RouteServer.{table_of}
use Rattle.rcp_model.specs.Updates.{Table}
use Rattle.rcp_model.proofs.RisingLemmas.{later_first, rising-filter, rising-include_all}
use Rattle.rib_laws.proofs.RibLookups.{same_test}
use Rattle.feed_meaning.specs.Platform.{Platform}
use Rattle.feed_meaning.specs.Work.{cell_of}
use Rattle.platform_laws.specs.Asked.{given_route, octets_of}
use Rattle.platform_laws.specs.Platforms.{PlatformOf, IsSeen}
use Rattle.platform_core.specs.States.{pending_number}
use Rattle.feed_meaning.specs.OutRecords.{MOST}
use Rattle.rcp_base.specs.Text.{address_text}
use Rattle.platform_laws.proofs.Counts.{pending-counted}
use Rattle.platform_laws.proofs.ShardAnswers.{found_at}
use Rattle.platform_laws.proofs.PendingLists.{all_among}
use Rattle.platform_laws.proofs.RisingLists.{among-filter, rising-same}
use Rattle.replica_law.proofs.PrefixLemmas.{less-before, before-less, before-then}
use Rattle.rcp_run.specs.Tables.{prefixes_in, route_line, entry_line, entries_text, table_text, tables_from}
use Rattle.rcp_run.proofs.AskedLemmas.{given-asked}

-- ---- the prefixes after one

abbrev pub past : Option IpPrefix → IpPrefix → Bool
past None p = true
past (Some q) p = is_before q p

abbrev pub from : Option IpPrefix → List IpPrefix → List IpPrefix
from last ps = filter (past last) ps

after-past : (last : Option IpPrefix) (p : IpPrefix) → IsAfter last p → past last p ≡ true
after-past None p after = refl
after-past (Some q) p after = less-before q p after

past-after : (last : Option IpPrefix) (p : IpPrefix) → past last p ≡ true → IsAfter last p
past-after None p test = tt
past-after (Some q) p test = before-less q p test

past-then : (last : Option IpPrefix) (n p : IpPrefix) → past last n ≡ true → is_before n p ≡ true → past last p ≡ true
past-then None n p first second = refl
past-then (Some q) n p first second = before-then q n p first second

pub all-from : (ps : List IpPrefix) → from None ps ≡ ps
all-from [] = refl
all-from (p ∷ ps) = ap (λ (l : List IpPrefix). p ∷ l) (all-from ps)

both_true : (a b : Bool) → a ≡ true → b ≡ true → (a && b) ≡ true
both_true a b x y = rw (x, y) refl

either_true : (a b : Bool) → b ≡ true → (a || b) ≡ true
either_true true b y = refl
either_true false b y = y

module _ (ps : List IpPrefix) (rising : IsRising ps) (last : Option IpPrefix) where
  -- the least one comes first
  pub first-from : (n : IpPrefix) → IsLeast (λ p. IsAfter last p × (is_among ps p ≡ true)) (Some n) → from last ps ≡ n ∷ from (Some n) ps
  first-from n least = rising-same (from last ps) (n ∷ from (Some n) ps) (rising-filter (past last) ps rising) (below, rising-filter (past (Some n)) ps rising) same where
    below : IsBelow n (from (Some n) ps)
    below = all_among (λ q. is_before n q ≡ true) (from (Some n) ps) (λ q among. (and_parts (is_among ps q) (is_before n q) (sym (among-filter (past (Some n)) ps q) ∙ among)).1)

    onward : (q : IpPrefix) → (is_among ps q && past last q) ≡ true → (same_prefix q n || (is_among ps q && is_before n q)) ≡ true
    onward q test =
        let parts = and_parts (is_among ps q) (past last q) test in
        elim (cases_Bool (same_prefix q n)) [
          | inl same ↦ rw same refl
          | inr other ↦ elim (cases_Bool (is_before q n)) [
            | inl before ↦ absurd (least.1 q (past-after last q parts.1, parts.0) (before-less q n before))
            | inr not_before ↦ either_true (same_prefix q n) (is_among ps q && is_before n q)
                (both_true (is_among ps q) (is_before n q) parts.0 (later_first q.addr n.addr q.len n.len other not_before))
          ]
        ]

    back : (q : IpPrefix) → (same_prefix q n || (is_among ps q && is_before n q)) ≡ true → (is_among ps q && past last q) ≡ true
    back q test = elim (cases_Bool (same_prefix q n)) [
      | inl same ↦
          let is : n ≡ q = sym (same_prefix-is q n same) in
          subst (λ (p : IpPrefix). (is_among ps p && past last p) ≡ true) is (both_true (is_among ps n) (past last n) least.0.1 (after-past last n least.0.0))
      | inr other ↦
          let rest : (is_among ps q && is_before n q) ≡ true = rw other at test in
          let parts = and_parts (is_among ps q) (is_before n q) rest in
          both_true (is_among ps q) (past last q) parts.0 (past-then last n q (after-past last n least.0.0) parts.1)
    ]

    same : (q : IpPrefix) → is_among (from last ps) q ≡ is_among (n ∷ from (Some n) ps) q
    same q =
        among-filter (past last) ps q
        ∙ same_test (is_among ps q && past last q) (same_prefix q n || (is_among ps q && is_before n q)) (onward q) (back q)
        ∙ ap (λ (b : Bool). same_prefix q n || b) (sym (among-filter (past (Some n)) ps q))

  -- there is none
  pub none-from : IsLeast (λ p. IsAfter last p × (is_among ps p ≡ true)) None → from last ps ≡ []
  none-from none = rising-same (from last ps) [] (rising-filter (past last) ps rising) tt (λ q. among-filter (past last) ps q ∙ same_test (is_among ps q && past last q) false
      (λ test. let parts = and_parts (is_among ps q) (past last q) test in absurd (none q (past-after last q parts.1, parts.0))) (λ e. absurd (false≢true e)))

-- ---- the prefixes of a table

pub rising-in : (table : Option Table) → IsRising (prefixes_in table)
rising-in None = tt
rising-in (Some table) = rising-include_all (map (λ cell. cell.0) table) [] tt

or_false : (b : Bool) → (b || false) ≡ b
or_false true = refl
or_false false = refl

found : (table : Table) (p : IpPrefix) → is_among (map (λ (cell : IpPrefix × List ℕ). cell.0) table) p ≡ is_some (get_at same_prefix p table)
found [] p = refl
found (cell ∷ table) p = ap (λ (b : Bool). same_prefix p cell.0 || b) (found table p) ∙ either (same_prefix p cell.0) cell.1 (get_at same_prefix p table) where
  either : (b : Bool) (octets : List ℕ) (rest : Option (List ℕ)) → (b || is_some rest) ≡ is_some (if b then Some octets else rest)
  either true octets rest = refl
  either false octets rest = refl

pub among-in : (table : Option Table) (p : IpPrefix) → is_among (prefixes_in table) p ≡ is_some (cell_of table p)
among-in None p = refl
among-in (Some table) p = is_among-include_all (map (λ (cell : IpPrefix × List ℕ). cell.0) table) [] p ∙ or_false (is_among (map (λ (cell : IpPrefix × List ℕ). cell.0) table) p) ∙ found table p

has_octets : (route : Option RouteFields) → is_some route ≡ is_some (octets_of route)
has_octets None = refl
has_octets (Some route) = refl

least_same : (A B : IpPrefix → Type 0) → ((p : IpPrefix) → A p → B p) → ((p : IpPrefix) → B p → A p) → (o : Option IpPrefix) → IsLeast A o → IsLeast B o
least_same A B to back None least = λ q holds. least q (back q holds)
least_same A B to back (Some n) least = (to n least.0, λ q holds less. least.1 q (back q holds) less)

module _ (platform : Platform) (seen : PlatformOf) (h : IsSeen platform seen) (slot : ℕ) where
  some-given : (p : IpPrefix) → is_some (given_route seen.roster seen.shards p slot) ≡ is_among (prefixes_in (table_of platform.server slot)) p
  some-given p = has_octets (given_route seen.roster seen.shards p slot) ∙ ap is_some (given-asked platform seen h p slot) ∙ sym (among-in (table_of platform.server slot) p)

  -- the next entry is that of the next prefix of the table
  pub least-entry : (last next : Option IpPrefix) → IsLeast (λ p. IsAfter last p × IsSome (given_route seen.roster seen.shards p slot)) next
      → IsLeast (λ p. IsAfter last p × (is_among (prefixes_in (table_of platform.server slot)) p ≡ true)) next
  least-entry last next least = least_same (λ p. IsAfter last p × IsSome (given_route seen.roster seen.shards p slot))
      (λ p. IsAfter last p × (is_among (prefixes_in (table_of platform.server slot)) p ≡ true))
      (λ p holds. (holds.0, sym (some-given p) ∙ holds.1)) (λ p holds. (holds.0, some-given p ∙ holds.1)) next least

-- ---- entries one after another

abbrev pub line_at : ℕ → Option Table → IpPrefix → List ℕ
line_at as_number table p = entry_line as_number p (cell_of table p)

-- what is still to come, after the entry of a prefix
pub entry-added : (as_number : ℕ) (table : Option Table) (last : Option IpPrefix) (n : IpPrefix) (before text more : List ℕ)
    → IsLeast (λ p. IsAfter last p × (is_among (prefixes_in table) p ≡ true)) (Some n)
    → text ++ flat_map (line_at as_number table) (from last (prefixes_in table)) ≡ before ++ entries_text as_number table
    → more ≡ text ++ line_at as_number table n
    → more ++ flat_map (line_at as_number table) (from (Some n) (prefixes_in table)) ≡ before ++ entries_text as_number table
entry-added as_number table last n before text more least so_far is =
    let rest = flat_map (line_at as_number table) (from (Some n) (prefixes_in table)) in
    ap (λ (l : List ℕ). l ++ rest) is ∙ append_assoc text (line_at as_number table n) rest
    ∙ ap (λ (l : List IpPrefix). text ++ flat_map (line_at as_number table) l) (sym (first-from (prefixes_in table) (rising-in table) last n least))
    ∙ so_far

pub entries-done : (as_number : ℕ) (table : Option Table) (last : Option IpPrefix) (before text : List ℕ) → IsLeast (λ p. IsAfter last p × (is_among (prefixes_in table) p ≡ true)) None
    → text ++ flat_map (line_at as_number table) (from last (prefixes_in table)) ≡ before ++ entries_text as_number table → text ≡ before ++ entries_text as_number table
entries-done as_number table last before text none so_far =
    sym (append-nil text)
    ∙ ap (λ (l : List IpPrefix). text ++ flat_map (line_at as_number table) l) (sym (none-from (prefixes_in table) (rising-in table) last none))
    ∙ so_far

pub entries-first : (as_number : ℕ) (table : Option Table) (text : List ℕ) → text ++ flat_map (line_at as_number table) (from None (prefixes_in table)) ≡ text ++ entries_text as_number table
entries-first as_number table text = ap (λ (l : List IpPrefix). text ++ flat_map (line_at as_number table) l) (all-from (prefixes_in table))

-- ---- an entry

-- the line of a route is that of its octets
pub entry-is : (as_number : ℕ) (p : IpPrefix) (route : RouteFields) (cell : Option (List ℕ)) → cell ≡ Some route.attrs → route ≡ route_in number_width as_number route.attrs
    → route_line p route.next_hop route.pref route.attrs ≡ entry_line as_number p cell
entry-is as_number p route cell is fields = (λ i. route_line p (fields i).next_hop (fields i).pref route.attrs) ∙ ap (entry_line as_number p) (sym is)

pub no-entry : (as_number : ℕ) (p : IpPrefix) (text : List ℕ) (cell : Option (List ℕ)) → cell ≡ None → text ≡ text ++ entry_line as_number p cell
no-entry as_number p text cell is = sym (append-nil text) ∙ ap (λ (o : Option (List ℕ)). text ++ entry_line as_number p o) (sym is)

-- the line is put together
pub line-added : (text front path p n h l d w one two final : List ℕ) → front ≡ p ++ (n ++ (h ++ (l ++ (d ++ w)))) → one ≡ text ++ front → two ≡ one ++ path → final ≡ two ++ 10 ∷ []
    → final ≡ text ++ (((((((p ++ n) ++ h) ++ l) ++ d) ++ w) ++ path) ++ 10 ∷ [])
line-added text front path p n h l d w one two final front_is first second third =
    third ∙ ap (λ (x : List ℕ). x ++ 10 ∷ []) (second ∙ ap (λ (x : List ℕ). x ++ path) (first ∙ ap (λ (x : List ℕ). text ++ x) front_is)) ∙ simp append_assoc

-- ---- tables one after another

pub no-table : (as_number router : ℕ) (text : List ℕ) (table : Option Table) → is_some table ≡ false → text ≡ text ++ table_text as_number router table
no-table as_number router text None none = sym (append-nil text)
no-table as_number router text (Some table) none = absurd cc

pub table-added : (as_number router : ℕ) (table : Option Table) (text more final : List ℕ) → is_some table ≡ true → more ≡ text ++ (codes "table " ++ address_text router ++ 10 ∷ [])
    → final ≡ more ++ entries_text as_number table → final ≡ text ++ table_text as_number router table
table-added as_number router None text more final some first rest = absurd cc
table-added as_number router (Some table) text more final some first rest =
    rest ∙ ap (λ (l : List ℕ). l ++ entries_text as_number (Some table)) first ∙ append_assoc text (codes "table " ++ address_text router ++ 10 ∷ []) (entries_text as_number (Some table))

pub member_at : (members : List Member) (n : ℕ) (member : Member) → slice_get members n ≡ Some member → drop n members ≡ member ∷ drop (suc n) members
member_at [] n member is = absurd cc
member_at (first ∷ members) zero member is = let same : first ≡ member = cc in ap (λ (m : Member). m ∷ members) same
member_at (first ∷ members) (suc n) member is = member_at members n member is

pub found-member : (members : List Member) (n : ℕ) → n < length members → (member : Member) × (slice_get members n ≡ Some member)
found-member members n within = found_at members n within

-- the table of a slot was put, and those of the later ones are to come
pub tables-more : (platform : Platform) (n : ℕ) (member : Member) (text more : List ℕ) → slice_get platform.roster.members n ≡ Some member
    → text ++ tables_from platform n (drop n platform.roster.members) ≡ tables_from platform 0 platform.roster.members
    → more ≡ text ++ table_text platform.roster.as_number member.router (table_of platform.server n)
    → more ++ tables_from platform (n + 1) (drop (n + 1) platform.roster.members) ≡ tables_from platform 0 platform.roster.members
tables-more platform n member text more at so_far is =
    let members = platform.roster.members in
    let next : n + 1 ≡ suc n = omega arith in
    let one = table_text platform.roster.as_number member.router (table_of platform.server n) in
    let rest = tables_from platform (suc n) (drop (suc n) platform.roster.members) in
    ap (λ (k : ℕ). more ++ tables_from platform k (drop k members)) next
    ∙ ap (λ (l : List ℕ). l ++ rest) is ∙ append_assoc text one rest
    ∙ ap (λ (l : List Member). text ++ tables_from platform n l) (sym (member_at members n member at))
    ∙ so_far

drop_end : (members : List Member) (n : ℕ) → length members ≤ n → drop n members ≡ []
drop_end [] zero all = refl
drop_end [] (suc n) all = refl
drop_end (member ∷ members) zero all = absurd (omega (arith, all))
drop_end (member ∷ members) (suc n) all = drop_end members n (omega (arith, all))

pub tables-done : (platform : Platform) (n : ℕ) (text : List ℕ) → length platform.roster.members ≤ n
    → text ++ tables_from platform n (drop n platform.roster.members) ≡ tables_from platform 0 platform.roster.members → text ≡ tables_from platform 0 platform.roster.members
tables-done platform n text all so_far =
    sym (append-nil text) ∙ ap (λ (l : List Member). text ++ tables_from platform n l) (sym (drop_end platform.roster.members n all)) ∙ so_far

-- the number of pending prefixes
pub pending-seen : (platform : Platform) (seen : PlatformOf) → IsSeen platform seen → pending_number seen ≡ min (length platform.server.pending) MOST
pending-seen platform seen h = ap (λ (n : ℕ). min n MOST) (sym (pending-counted platform.roster platform.server seen.shards h.shards h.rising))

-- ---- what holds after Ok

pub on_ok : {X E A B : Type 0} (r : Result X E) → (A → B) → OnOk r A → OnOk r B
on_ok (Ok x) f h = f h
on_ok (Err e) f h = h
