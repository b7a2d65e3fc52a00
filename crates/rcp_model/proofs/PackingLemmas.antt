-- Packed UPDATEs: that they carry their cells, in what order the groups stand and how messages are filled.
use Rattle.std.proofs.Common.{◌≡◌, ℕ, suc, ◌<◌, ◌≤◌, Bool, true, false, not, cond, ◌||◌, ◌&&◌, eqb, ltb, List, [], ◌∷◌, ◌++◌, length, map, Option, Some, None, refl, sym, ap, subst, ◌∙◌, inl, inr, arith, length-take, append_assoc, append-nil}
use Rattle.std.specs.Prelude.{filter, flat_map, IfSome, All, AllPairs, IsTrue, slice_index_or}
use Rattle.std.specs.List.{AllByRecursion, list_any}
use Rattle.std.specs.Int.{w32, to_be_bytes}
use Rattle.std.proofs.lemmas.Bool.{cases_Bool, or_left, or_right, or_cases, and_parts, both_ways, not-true, cond-true, leb-true, ltb-true, false≢true}
use Rattle.std.proofs.lemmas.List.{get_or-map, length-map}
use Rattle.std.proofs.lemmas.List.Elements.{All-cons, All-tail, All-map, All-weaker, filter_passes}
use Rattle.std.proofs.lemmas.List.Kept.{AllPairs-cons, AllPairs-filter}
use Rattle.std.proofs.lemmas.Option.{none-some, same_Some}
use Rattle.std.proofs.lemmas.Slice.Eq.{bytes_eq-Decides}
use Rattle.rcp_base.specs.IpPrefix.{IpPrefix, IsPrefix, prefix_octets, octets_for}
use Rattle.rcp_base.specs.Maps.{get_at, put_at, without, same_prefix, is_before, is_among}
use Rattle.rcp_model.specs.Messages.{IsMessage}
use Rattle.rcp_model.specs.Updates.{Table, withdraw_all, announce_all, after_message, after_messages}
use Rattle.rcp_model.specs.Cells.{Cell, IsSendable, AreCells, value_after, Carries}
use Rattle.rcp_model.specs.Packing.{update_of, fits, filled, fill, same_value, each_once, prefixes_with, Group, group_of, values_of, groups, group_updates, packed, StandsBefore, StandInOrder, AreFull, AreFilled}
use Rattle.rcp_base.proofs.MapLemmas.{get_at-put_at_same, get_at-put_at_other, get_at-without_passed, get_at-without_left, prefix_test, same_prefix-is, same_prefix-other}
use Rattle.rcp_model.proofs.UpdateLemmas.{length-update_octets, IsMessage-update_octets, after_message-update_octets, after_messages-append}

-- ---- values

abbrev Value : Type 0
Value = Option (List ℕ)

pub same_value-is : (v w : Value) → same_value v w ≡ true → v ≡ w
same_value-is None None e = refl
same_value-is None (Some b) e = absurd (false≢true e)
same_value-is (Some a) None e = absurd (false≢true e)
same_value-is (Some a) (Some b) e = ap (λ (l : List ℕ). let o : Value = Some l in o) ((bytes_eq-Decides a b).0 e)

pub same_value-itself : (v : Value) → same_value v v ≡ true
same_value-itself None = refl
same_value-itself (Some a) = (bytes_eq-Decides a a).1 refl

cond_same : {A : Type 0} (b : Bool) (x : A) → cond b x x ≡ x
cond_same true x = refl
cond_same false x = refl

cond_or : {A : Type 0} (a b : Bool) (x y : A) → cond b x (cond a x y) ≡ cond (a || b) x y
cond_or true b x y = cond_same b x
cond_or false b x y = refl

-- ---- what one UPDATE does

get_at-withdraw_all : (ps : List IpPrefix) (table : Table) (q : IpPrefix) → get_at same_prefix q (withdraw_all ps table) ≡ cond (is_among ps q) None (get_at same_prefix q table)
get_at-withdraw_all [] table q = refl
get_at-withdraw_all (p ∷ ps) table q =
    get_at-withdraw_all ps (without (same_prefix p) table) q
    ∙ elim (cases_Bool (same_prefix q p)) [
      | inl e ↦ let k : q ≡ p = same_prefix-is q p e in
          rw (e, k, get_at-without_passed same_prefix prefix_test (same_prefix p) p table (prefix_test.itself p)) (cond_same (is_among ps p) None)
      | inr e ↦ rw (e, get_at-without_left same_prefix prefix_test (same_prefix p) q table (same_prefix-other q p e)) refl
    ]

get_at-announce_all : (octets : List ℕ) (ps : List IpPrefix) (table : Table) (q : IpPrefix) → get_at same_prefix q (announce_all octets ps table) ≡ cond (is_among ps q) (Some octets) (get_at same_prefix q table)
get_at-announce_all octets [] table q = refl
get_at-announce_all octets (p ∷ ps) table q =
    get_at-announce_all octets ps (put_at same_prefix p octets table) q
    ∙ elim (cases_Bool (same_prefix q p)) [
      | inl e ↦ let k : q ≡ p = same_prefix-is q p e in
          rw (e, k, get_at-put_at_same same_prefix prefix_test p octets table) (cond_same (is_among ps p) (Some octets))
      | inr e ↦ rw (e, get_at-put_at_other same_prefix prefix_test p q octets table e) refl
    ]

-- prefixes that one UPDATE holds
pub record IsPiece (value : Value) (piece : List IpPrefix) : Type 0 where
  pub each : AllByRecursion IsPrefix piece
  pub short : length (update_of value piece) ≤ 4096

get_at-update : (value : Value) (piece : List IpPrefix) (table : Table) (q : IpPrefix) → IsPiece value piece
    → get_at same_prefix q (after_message (update_of value piece) table) ≡ cond (is_among piece q) value (get_at same_prefix q table)
unfolding update_of
get_at-update None piece table q is = ap (get_at same_prefix q) (after_message-update_octets piece [] [] is.short table is.each tt) ∙ get_at-withdraw_all piece table q
get_at-update (Some octets) piece table q is = ap (get_at same_prefix q) (after_message-update_octets [] octets piece is.short table tt is.each) ∙ get_at-announce_all octets piece table q

whole : (value : Value) (piece : List IpPrefix) → IsPiece value piece → IsMessage (update_of value piece)
unfolding update_of
whole None piece is = IsMessage-update_octets piece [] [] is.short
whole (Some octets) piece is = IsMessage-update_octets [] octets piece is.short

-- ---- what the UPDATEs of one value do

is_among-append : (ps qs : List IpPrefix) (q : IpPrefix) → is_among (ps ++ qs) q ≡ (is_among ps q || is_among qs q)
is_among-append [] qs q = refl
is_among-append (p ∷ ps) qs q = ap (λ b. same_prefix q p || b) (is_among-append ps qs q) ∙ or_assoc (same_prefix q p) (is_among ps q) (is_among qs q) where
  or_assoc : (a b c : Bool) → (a || (b || c)) ≡ ((a || b) || c)
  or_assoc true b c = refl
  or_assoc false b c = refl

get_at-updates : (value : Value) (pieces : List (List IpPrefix)) (table : Table) (q : IpPrefix) → AllByRecursion (IsPiece value) pieces
    → get_at same_prefix q (after_messages (map (update_of value) pieces) table) ≡ cond (is_among (flat_map (λ piece. piece) pieces) q) value (get_at same_prefix q table)
unfolding after_messages
get_at-updates value [] table q each = refl
get_at-updates value (piece ∷ pieces) table q each =
    let rest = flat_map (λ (l : List IpPrefix). l) pieces in
    get_at-updates value pieces (after_message (update_of value piece) table) q each.1
    ∙ ap (cond (is_among rest q) value) (get_at-update value piece table q each.0)
    ∙ cond_or (is_among piece q) (is_among rest q) value (get_at same_prefix q table)
    ∙ ap (λ (b : Bool). cond b value (get_at same_prefix q table)) (sym (is_among-append piece rest q))

whole_each : (value : Value) (pieces : List (List IpPrefix)) → AllByRecursion (IsPiece value) pieces → AllByRecursion IsMessage (map (update_of value) pieces)
whole_each value [] each = tt
whole_each value (piece ∷ pieces) each = (whole value piece each.0, whole_each value pieces each.1)

-- ---- prefixes in pieces

filled-all : (value : Value) (taken ps : List IpPrefix) → flat_map (λ piece. piece) (filled value taken ps) ≡ taken ++ ps
filled-all value taken [] = refl
filled-all value taken (p ∷ ps) =
    elim (cases_Bool (fits value (taken ++ p ∷ []))) [
      | inl e ↦ rw e (filled-all value (taken ++ p ∷ []) ps ∙ append_assoc taken (p ∷ []) ps)
      | inr e ↦ rw e (ap (λ (l : List IpPrefix). taken ++ l) (filled-all value (p ∷ []) ps))
    ]

pub fill-all : (value : Value) (ps : List IpPrefix) → flat_map (λ piece. piece) (fill value ps) ≡ ps
fill-all value [] = refl
fill-all value (p ∷ ps) = filled-all value (p ∷ []) ps

-- a prefix that one UPDATE holds
pub record IsAlone (value : Value) (p : IpPrefix) : Type 0 where
  pub prefix : IsPrefix p
  pub short : length (update_of value (p ∷ [])) ≤ 4096

push_each : (ps : List IpPrefix) (p : IpPrefix) → AllByRecursion IsPrefix ps → IsPrefix p → AllByRecursion IsPrefix (ps ++ p ∷ [])
push_each [] p each is = (is, tt)
push_each (q ∷ ps) p each is = (each.0, push_each ps p each.1 is)

filled-pieces : (value : Value) (taken ps : List IpPrefix) → IsPiece value taken → AllByRecursion (IsAlone value) ps → AllByRecursion (IsPiece value) (filled value taken ps)
filled-pieces value taken [] is each = (is, tt)
filled-pieces value taken (p ∷ ps) is each =
    elim (cases_Bool (fits value (taken ++ p ∷ []))) [
      | inl e ↦ rw e (filled-pieces value (taken ++ p ∷ []) ps (record { each = push_each taken p is.each each.0.prefix; short = leb-true _ _ e }) each.1)
      | inr e ↦ rw e (is, filled-pieces value (p ∷ []) ps (record { each = (each.0.prefix, tt); short = each.0.short }) each.1)
    ]

pub fill-pieces : (value : Value) (ps : List IpPrefix) → AllByRecursion (IsAlone value) ps → AllByRecursion (IsPiece value) (fill value ps)
fill-pieces value [] each = tt
fill-pieces value (p ∷ ps) each = filled-pieces value (p ∷ []) ps (record { each = (each.0.prefix, tt); short = each.0.short }) each.1

-- the first piece goes on from what it has
record Begins (taken : List IpPrefix) (pieces : List (List IpPrefix)) : Type 0 where
  more : List IpPrefix
  others : List (List IpPrefix)
  has : pieces ≡ (taken ++ more) ∷ others

filled-begins : (value : Value) (taken ps : List IpPrefix) → Begins taken (filled value taken ps)
filled-begins value taken [] = record { more = []; others = []; has = ap (λ (l : List IpPrefix). l ∷ []) (sym (append-nil taken)) }
filled-begins value taken (p ∷ ps) =
    elim (cases_Bool (fits value (taken ++ p ∷ []))) [
      | inl e ↦ let rest = filled-begins value (taken ++ p ∷ []) ps in
          record { more = p ∷ rest.more; others = rest.others; has = rw e (rest.has ∙ ap (λ (l : List IpPrefix). l ∷ rest.others) (append_assoc taken (p ∷ []) rest.more)) }
      | inr e ↦ record { more = []; others = filled value (p ∷ []) ps; has = rw e (ap (λ (l : List IpPrefix). l ∷ filled value (p ∷ []) ps) (sym (append-nil taken))) }
    ]

full_one_more : (value : Value) (piece : List IpPrefix) (p : IpPrefix) (pieces : List (List IpPrefix)) → fits value (piece ++ p ∷ []) ≡ false → Begins (p ∷ []) pieces → AreFull value pieces → AreFull value (piece ∷ pieces)
full_one_more value piece p pieces e begins full =
    subst (λ (l : List (List IpPrefix)). AreFull value (piece ∷ l)) (sym begins.has) (e, subst (AreFull value) begins.has full)

filled-full : (value : Value) (taken ps : List IpPrefix) → AreFull value (filled value taken ps)
filled-full value taken [] = tt
filled-full value taken (p ∷ ps) =
    elim (cases_Bool (fits value (taken ++ p ∷ []))) [
      | inl e ↦ rw e (filled-full value (taken ++ p ∷ []) ps)
      | inr e ↦ rw e (full_one_more value taken p (filled value (p ∷ []) ps) e (filled-begins value (p ∷ []) ps) (filled-full value (p ∷ []) ps))
    ]

fill-full : (value : Value) (ps : List IpPrefix) → AreFull value (fill value ps)
fill-full value [] = tt
fill-full value (p ∷ ps) = filled-full value (p ∷ []) ps

shorts : (value : Value) (pieces : List (List IpPrefix)) → AllByRecursion (IsPiece value) pieces → AllByRecursion (λ piece. length (update_of value piece) ≤ 4096) pieces
shorts value [] each = tt
shorts value (piece ∷ pieces) each = (each.0.short, shorts value pieces each.1)

-- ---- each value has its group

any_filter : (u v : Value) → same_value u v ≡ false → (ws : List Value) → list_any (λ w. same_value w v) (filter (λ w. not (same_value u w)) ws) ≡ list_any (λ w. same_value w v) ws
any_filter u v h [] = refl
any_filter u v h (w ∷ ws) =
    elim (cases_Bool (same_value u w)) [
      | inl e ↦ let k : u ≡ w = same_value-is u w e in
          let g : same_value w v ≡ false = rw (← k) h in
          rw (e, g) (any_filter u v h ws)
      | inr e ↦ rw e (ap (λ (b : Bool). same_value w v || b) (any_filter u v h ws))
    ]

pub each_once-any : (v : Value) (vs : List Value) → list_any (λ w. same_value w v) (each_once vs) ≡ list_any (λ w. same_value w v) vs
each_once-any v [] = refl
each_once-any v (u ∷ vs) =
    elim (cases_Bool (same_value u v)) [
      | inl e ↦ rw e refl
      | inr e ↦ rw e (any_filter u v e (each_once vs) ∙ each_once-any v vs)
    ]

found-any : (q : IpPrefix) (cells : List Cell) (v : Value) → get_at same_prefix q cells ≡ Some v → list_any (λ w. same_value w v) (values_of cells) ≡ true
found-any q [] v e = absurd (none-some v e)
found-any q (cell ∷ cells) v e =
    elim (cases_Bool (same_prefix q cell.0)) [
      | inl s ↦ let k : v ≡ cell.1 = sym (same_Some cell.1 v (rw s at e)) in
          let same : same_value cell.1 v ≡ true = rw k (same_value-itself cell.1) in
          or_left _ _ same
      | inr s ↦ let rest : list_any (λ w. same_value w v) (values_of cells) ≡ true = found-any q cells v (rw s at e) in
          or_right _ _ rest
    ]

-- ---- a prefix is in the group of its cell's value alone

abbrev AreDistinct : List Cell → Type 0
AreDistinct [] = Unit {0}
AreDistinct (cell ∷ cells) = (get_at same_prefix cell.0 cells ≡ None) × AreDistinct cells

pub is_before-other : (p q : IpPrefix) → is_before p q ≡ true → same_prefix p q ≡ false
is_before-other p q h =
    elim (cases_Bool (same_prefix p q)) [
      | inl e ↦ let k : q ≡ p = sym (same_prefix-is p q e) in
          let below : is_before p p ≡ true = rw k at h in
          absurd (elim (or_cases (ltb p.addr p.addr) (eqb p.addr p.addr && ltb p.len p.len) below) [
            | inl b ↦ let lt : p.addr < p.addr = ltb-true _ _ b in omega arith
            | inr b ↦ let lt : p.len < p.len = ltb-true _ _ (and_parts (eqb p.addr p.addr) (ltb p.len p.len) b).1 in omega arith
          ])
      | inr e ↦ e
    ]

absent-above : (p : IpPrefix) (cells : List Cell) → All (λ cell. IsTrue (is_before p cell.0)) cells → get_at same_prefix p cells ≡ None
absent-above p [] h = refl
absent-above p (cell ∷ cells) h =
    let other : same_prefix p cell.0 ≡ false = is_before-other p cell.0 (h 0 cell (omega arith)) in
    rw other (absent-above p cells (λ k d lt. h (suc k) d (omega arith)))

abbrev Rise : List Cell → Type 0
Rise cells = AllPairs (λ a b. IsTrue (is_before a.0 b.0)) cells

head_rises : (cell : Cell) (cells : List Cell) → Rise (cell ∷ cells) → All (λ b. IsTrue (is_before cell.0 b.0)) cells
head_rises cell cells h k d lt = h 0 (suc k) d (omega arith) (omega arith)

tail_rises : (cell : Cell) (cells : List Cell) → Rise (cell ∷ cells) → Rise cells
tail_rises cell cells h i j d lt within = h (suc i) (suc j) d (omega arith) (omega arith)

distinct-rising : (cells : List Cell) → Rise cells → AreDistinct cells
distinct-rising [] h = tt
distinct-rising (cell ∷ cells) h = (absent-above cell.0 cells (head_rises cell cells h), distinct-rising cells (tail_rises cell cells h))

absent-with : (w : Value) (cells : List Cell) (q : IpPrefix) → get_at same_prefix q cells ≡ None → is_among (prefixes_with w cells) q ≡ false
absent-with w [] q e = refl
absent-with w (cell ∷ cells) q e =
    elim (cases_Bool (same_prefix q cell.0)) [
      | inl s ↦ absurd (none-some cell.1 (sym (rw s at e)))
      | inr s ↦ let rest = absent-with w cells q (rw s at e) in
          elim (cases_Bool (same_value w cell.1)) [
            | inl v ↦ rw (v, s) rest
            | inr v ↦ rw v rest
          ]
    ]

-- whether what a map has at a prefix is this value
abbrev is_value : Value → Option Value → Bool
is_value w None = false
is_value w (Some v) = same_value w v

among-with : (w : Value) (cells : List Cell) (q : IpPrefix) → AreDistinct cells → is_among (prefixes_with w cells) q ≡ is_value w (get_at same_prefix q cells)
among-with w [] q distinct = refl
among-with w (cell ∷ cells) q distinct =
    elim (cases_Bool (same_prefix q cell.0)) [
      | inl s ↦ let k : q ≡ cell.0 = same_prefix-is q cell.0 s in
          elim (cases_Bool (same_value w cell.1)) [
            | inl v ↦ rw (v, s, v) refl
            | inr v ↦ rw (v, s, v) (absent-with w cells q (rw k distinct.0))
          ]
      | inr s ↦ let rest = among-with w cells q distinct.1 in
          elim (cases_Bool (same_value w cell.1)) [
            | inl v ↦ rw (v, s) rest
            | inr v ↦ rw (v, s) rest
          ]
    ]

-- ---- what all groups do

record CanSend (cells : List Cell) : Type 0 where
  distinct : AreDistinct cells
  pieces : (w : Value) → AllByRecursion (IsPiece w) (fill w (prefixes_with w cells))

one_value : (x : Option Value) (w : Value) (any : Bool) (before : Value)
    → cond any (value_after x (cond (is_value w x) w before)) (cond (is_value w x) w before) ≡ cond (is_value w x || any) (value_after x before) before
one_value None w any before = refl
one_value (Some v) w any before =
    elim (cases_Bool (same_value w v)) [
      | inl e ↦ let k : w ≡ v = same_value-is w v e in rw (e, k) (cond_same any v)
      | inr e ↦ rw e refl
    ]

after_values : (cells : List Cell) → CanSend cells → (ws : List Value) (table : Table) (q : IpPrefix)
    → get_at same_prefix q (after_messages (flat_map group_updates (map (group_of cells) ws)) table)
    ≡ cond (list_any (λ w. is_value w (get_at same_prefix q cells)) ws) (value_after (get_at same_prefix q cells) (get_at same_prefix q table)) (get_at same_prefix q table)
unfolding after_messages
after_values cells can [] table q = refl
after_values cells can (w ∷ ws) table q =
    let x = get_at same_prefix q cells in
    let before = get_at same_prefix q table in
    let any = list_any (λ (v : Value). is_value v x) ws in
    let first = group_updates (group_of cells w) in
    let one : get_at same_prefix q (after_messages first table) ≡ cond (is_value w x) w before =
    get_at-updates w (fill w (prefixes_with w cells)) table q (can.pieces w)
    ∙ ap (λ (l : List IpPrefix). cond (is_among l q) w before) (fill-all w (prefixes_with w cells))
    ∙ ap (λ (b : Bool). cond b w before) (among-with w cells q can.distinct) in
    ap (get_at same_prefix q) (after_messages-append first (flat_map group_updates (map (group_of cells) ws)) table)
    ∙ after_values cells can ws (after_messages first table) q
    ∙ ap (λ (b : Value). cond any (value_after x b) b) one
    ∙ one_value x w any before

all_values : (cells : List Cell) (q : IpPrefix) (before : Value) (x : Option Value) → get_at same_prefix q cells ≡ x
    → cond (list_any (λ w. is_value w x) (each_once (None ∷ values_of cells))) (value_after x before) before ≡ value_after x before
all_values cells q before None e = cond_same _ before
all_values cells q before (Some v) e =
    let there : list_any (λ w. same_value w v) (None ∷ values_of cells) ≡ true = or_right (same_value None v) _ (found-any q cells v e) in
    cond-true _ v before (each_once-any v (None ∷ values_of cells) ∙ there)

append_each : {X : Type 0} (P : X → Type 0) (xs ys : List X) → AllByRecursion P xs → AllByRecursion P ys → AllByRecursion P (xs ++ ys)
append_each P [] ys first second = second
append_each P (x ∷ xs) ys first second = (first.0, append_each P xs ys first.1 second)

whole_groups : (cells : List Cell) → CanSend cells → (ws : List Value) → AllByRecursion IsMessage (flat_map group_updates (map (group_of cells) ws))
whole_groups cells can [] = tt
whole_groups cells can (w ∷ ws) =
    append_each IsMessage (group_updates (group_of cells w)) _ (whole_each w (fill w (prefixes_with w cells)) (can.pieces w)) (whole_groups cells can ws)

-- ---- cells that can be sent

-- a prefix has at most five octets
prefix-short : (p : IpPrefix) → IsPrefix p → length (flat_map prefix_octets (p ∷ [])) ≤ 5
prefix-short p form = subst (λ (l : List ℕ). length l ≤ 5) (sym (append-nil (prefix_octets p))) (omega (arith, form.len, length-take (octets_for p.len) (to_be_bytes w32 p.addr)))

alone-short : (p : IpPrefix) (v : Value) → IsPrefix p → IfSome v (λ octets. length octets ≤ 4068) → length (update_of v (p ∷ [])) ≤ 4096
unfolding update_of
alone-short p None form short = omega (arith, length-update_octets (p ∷ []) [] [], prefix-short p form)
alone-short p (Some octets) form short = omega (arith, length-update_octets [] octets (p ∷ []), prefix-short p form, short)

alone : (cell : Cell) → IsSendable cell → IsAlone cell.1 cell.0
alone cell can = record { prefix = can.prefix; short = alone-short cell.0 cell.1 can.prefix can.short }

alone-with : (w : Value) (cells : List Cell) → AllByRecursion IsSendable cells → AllByRecursion (IsAlone w) (prefixes_with w cells)
alone-with w [] each = tt
alone-with w (cell ∷ cells) each =
    elim (cases_Bool (same_value w cell.1)) [
      | inl e ↦ let k : cell.1 ≡ w = sym (same_value-is w cell.1 e) in
          rw e (subst (λ (v : Value). IsAlone v cell.0) k (alone cell each.0), alone-with w cells each.1)
      | inr e ↦ rw e (alone-with w cells each.1)
    ]

can_send : (cells : List Cell) → AreCells cells → CanSend cells
can_send cells are = record { distinct = distinct-rising cells are.rising; pieces = λ w. fill-pieces w (prefixes_with w cells) (alone-with w cells are.each) }

pub packed-carries : (cells : List Cell) → AreCells cells → Carries (packed cells) cells
unfolding groups packed
packed-carries cells are =
    let can = can_send cells are in
    record {
      whole = whole_groups cells can (each_once (None ∷ values_of cells));
      replayed = λ table q. after_values cells can (each_once (None ∷ values_of cells)) table q ∙ all_values cells q (get_at same_prefix q table) (get_at same_prefix q cells) refl;
    }

filled_groups : (cells : List Cell) → CanSend cells → (ws : List Value) → AllByRecursion AreFilled (map (group_of cells) ws)
filled_groups cells can [] = tt
filled_groups cells can (w ∷ ws) = (
  record {
    all = fill-all w (prefixes_with w cells);
    short = shorts w (fill w (prefixes_with w cells)) (can.pieces w);
    full = fill-full w (prefixes_with w cells);
  },
  filled_groups cells can ws,
)

pub groups-filled : (cells : List Cell) → AreCells cells → AllByRecursion AreFilled (groups cells)
unfolding groups
groups-filled cells are = filled_groups cells (can_send cells are) (each_once (None ∷ values_of cells))

-- ---- the order of the groups

pub same_value-other : (v w : Value) → same_value v w ≡ false → same_value w v ≡ false
same_value-other v w h =
    elim (cases_Bool (same_value w v)) [
      | inl e ↦ let k : w ≡ v = same_value-is w v e in
          absurd (both_ways (same_value v w) h (rw k (same_value-itself v)))
      | inr e ↦ e
    ]

other-with : (v : Value) (cell : Cell) (cells : List Cell) → same_value cell.1 v ≡ false → prefixes_with v (cell ∷ cells) ≡ prefixes_with v cells
other-with v cell cells h = rw (same_value-other cell.1 v h) refl

own-with : (cell : Cell) (cells : List Cell) → prefixes_with cell.1 (cell ∷ cells) ≡ cell.0 ∷ prefixes_with cell.1 cells
own-with cell cells = rw (same_value-itself cell.1) refl

above-with : (p : IpPrefix) (w : Value) (cells : List Cell) → All (λ b. IsTrue (is_before p b.0)) cells → All (λ q. IsTrue (is_before p q)) (prefixes_with w cells)
above-with p w [] h = λ k d lt. absurd (omega arith)
above-with p w (cell ∷ cells) h =
    let rest = above-with p w cells (All-tail (λ (b : Cell). IsTrue (is_before p b.0)) cell cells h) in
    elim (cases_Bool (same_value w cell.1)) [
      | inl e ↦ rw e (All-cons (λ (q : IpPrefix). IsTrue (is_before p q)) cell.0 (prefixes_with w cells) (h 0 cell (omega arith)) rest)
      | inr e ↦ rw e rest
    ]

rising-with : (w : Value) (cells : List Cell) → Rise cells → AllPairs (λ p q. IsTrue (is_before p q)) (prefixes_with w cells)
rising-with w [] h = λ i j d lt within. absurd (omega arith)
rising-with w (cell ∷ cells) h =
    let rest = rising-with w cells (tail_rises cell cells h) in
    elim (cases_Bool (same_value w cell.1)) [
      | inl e ↦ rw e (AllPairs-cons (λ (p q : IpPrefix). IsTrue (is_before p q)) cell.0 (prefixes_with w cells) (above-with cell.0 w cells (head_rises cell cells h)) rest)
      | inr e ↦ rw e rest
    ]

abbrev Before : List Cell → Value → Value → Type 0
Before cells v w = StandsBefore (group_of cells v) (group_of cells w)

before-own : (cell : Cell) (cells : List Cell) → Rise (cell ∷ cells) → (w : Value) → not (same_value cell.1 w) ≡ true → Before (cell ∷ cells) cell.1 w
before-own cell cells h w other = record {
  first = cell.0;
  others = prefixes_with cell.1 cells;
  has = own-with cell cells;
  before = subst (All (λ q. IsTrue (is_before cell.0 q))) (sym (other-with w cell cells (not-true _ other))) (above-with cell.0 w cells (head_rises cell cells h));
}

before-more : (cell : Cell) (cells : List Cell) (v w : Value) → not (same_value cell.1 v) ≡ true → not (same_value cell.1 w) ≡ true → Before cells v w → Before (cell ∷ cells) v w
before-more cell cells v w other another b = record {
  first = b.first;
  others = b.others;
  has = other-with v cell cells (not-true _ other) ∙ b.has;
  before = subst (All (λ q. IsTrue (is_before b.first q))) (sym (other-with w cell cells (not-true _ another))) b.before;
}

by_least : (cells : List Cell) → Rise cells → AllPairs (Before cells) (each_once (values_of cells))
by_least [] h = λ i j d lt within. absurd (omega arith)
by_least (cell ∷ cells) h =
    let test : Value → Bool = λ w. not (same_value cell.1 w) in
    let values = each_once (values_of cells) in
    let passes = filter_passes test values in
    let rest = AllPairs-filter (Before cells) test values (by_least cells (tail_rises cell cells h)) in
    AllPairs-cons (Before (cell ∷ cells)) cell.1 (filter test values)
    (All-weaker (λ (w : Value). test w ≡ true) (Before (cell ∷ cells) cell.1) (before-own cell cells h) (filter test values) passes)
    (λ i j d lt within. before-more cell cells _ _ (passes i d (omega arith)) (passes j d within) (rest i j d lt within))

pub map-pairs : {X Y : Type 0} (R : Y → Y → Type 0) (f : X → Y) (from : Y → X) (xs : List X) → AllPairs (λ a b. R (f a) (f b)) xs → AllPairs R (map f xs)
map-pairs R f from xs h i j d lt within =
    let inside : j < length xs = omega (arith, length-map xs f) in
    subst (λ y. R y (slice_index_or (map f xs) j d)) (sym (get_or-map f xs i (from d) d (omega arith)))
    (subst (λ y. R (f (slice_index_or xs i (from d))) y) (sym (get_or-map f xs j (from d) d inside)) (h i j (from d) lt inside))

pub groups-in_order : (cells : List Cell) → AreCells cells → StandInOrder (groups cells)
unfolding groups
groups-in_order cells are =
    let test : Value → Bool = λ w. not (same_value None w) in
    let values = filter test (each_once (values_of cells)) in
    record {
      withdrawn = prefixes_with None cells;
      announced = map (group_of cells) values;
      has = refl;
      with_octets = All-map (λ (group : Group). same_value None group.0 ≡ false) (group_of cells) values
          (All-weaker (λ (w : Value). test w ≡ true) (λ (w : Value). same_value None w ≡ false) (λ w e. not-true _ e) values (filter_passes test (each_once (values_of cells))));
      rising = All-map (λ (group : Group). AllPairs (λ p q. IsTrue (is_before p q)) group.1) (group_of cells) (None ∷ values) (λ k d lt. rising-with _ cells are.rising);
      by_least = map-pairs StandsBefore (group_of cells) (λ group. group.0) values (AllPairs-filter (Before cells) test (each_once (values_of cells)) (by_least cells are.rising));
    }
