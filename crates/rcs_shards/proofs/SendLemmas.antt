-- What is sent slot by slot, for the cells that are dirty.
use Rattle.std.proofs.Common.{◌≡◌, ℕ, zero, suc, ◌+◌, ◌<◌, ◌≤◌, true, List, [], ◌∷◌, ◌++◌, length, map, take, get_or, Option, refl, sym, ap, ◌∙◌, subst, add-one, arith}
use Rattle.std.specs.Prelude.{All, AllPairs, IsTrue}
use Rattle.std.specs.List.{AllByRecursion, flat_map}
use Rattle.std.proofs.Math.Seq.{take-suc}
use Rattle.std.proofs.lemmas.List.{map-append, get_or_read}
use Rattle.std.proofs.lemmas.List.Elements.{All-from_recursion}
use Rattle.std.proofs.lemmas.List.Kept.{AllPairs-cons}
use Rattle.rcp_base.specs.IpPrefix.{IpPrefix}
use Rattle.rcp_base.specs.Maps.{is_before}
use Rattle.rcp_base.specs.Roster.{RosterOf}
use Rattle.rcp_model.specs.Cells.{Cell, IsSendable}
use Rattle.rcp_model.specs.Rising.{IsBelow, IsRising}
use Rattle.rcp_model.specs.Packing.{Group, update_of, fill, group_updates, groups, packed, AreFilled}
use Rattle.rcp_model.proofs.PackingLemmas.{groups-filled}
use Rattle.rcs_shard.specs.Shards.{ShardOf}
use Rattle.rcs_shards.specs.Dirty.{AreDirty, cells_of}

pub take_past : {X : Type 0} (xs : List X) (n : ℕ) → length xs ≤ n → take n xs ≡ xs
take_past [] zero past = refl
take_past [] (suc n) past = refl
take_past (x ∷ xs) zero past = absurd (omega (arith, past))
take_past (x ∷ xs) (suc n) past = ap (λ l. x ∷ l) (take_past xs n (omega (arith, past)))

-- ---- slot by slot

abbrev pub packed_at : RosterOf → List ShardOf → (ℕ → List IpPrefix) → ℕ → List (List ℕ)
packed_at roster shards prefixes slot = packed (cells_of roster shards slot (prefixes slot))

-- the lists so far are what is packed for so many first slots
abbrev pub Sends : RosterOf → List ShardOf → List ℕ → ℕ → List (List (List ℕ)) → Type 0
Sends roster shards slots count lists =
    (prefixes : ℕ → List IpPrefix) → ((slot : ℕ) → AreDirty roster shards slot (prefixes slot)) → lists ≡ map (packed_at roster shards prefixes) (take count slots)

pub sends-all : (roster : RosterOf) (shards : List ShardOf) (slots : List ℕ) (count : ℕ) (lists : List (List (List ℕ))) → Sends roster shards slots count lists → length slots ≤ count
    → (prefixes : ℕ → List IpPrefix) → ((slot : ℕ) → AreDirty roster shards slot (prefixes slot)) → lists ≡ map (packed_at roster shards prefixes) slots
sends-all roster shards slots count lists sends all prefixes are = sends prefixes are ∙ ap (map (packed_at roster shards prefixes)) (take_past slots count all)

-- a turn of the loop
pub sends-turn : (roster : RosterOf) (shards : List ShardOf) (slots : List ℕ) (count : ℕ) → count < length slots → (lists more : List (List (List ℕ))) → Sends roster shards slots count lists
    → (slot : ℕ) → slot ≡ get_or slots count slot → (messages : List (List ℕ)) → ((ps : List IpPrefix) → AreDirty roster shards slot ps → messages ≡ packed (cells_of roster shards slot ps))
    → more ≡ lists ++ messages ∷ [] → Sends roster shards slots (count + 1) more
sends-turn roster shards slots count low lists more so_far slot read messages is made prefixes are =
    made
    ∙ (λ i. so_far prefixes are i ++ is (prefixes slot) (are slot) i ∷ [])
    ∙ sym (map-append (packed_at roster shards prefixes) (take count slots) (slot ∷ []))
    ∙ ap (map (packed_at roster shards prefixes)) (ap (λ s. take count slots ++ s ∷ []) (get_or_read slots count slot low read 0) ∙ sym (take-suc slots count 0 low) ∙ ap (λ n. take n slots) (sym (add-one count)))

-- ---- no message is too long

cells-below : (f : IpPrefix → Option (List ℕ)) (p : IpPrefix) (ps : List IpPrefix) → IsBelow p ps → AllByRecursion (λ (c : Cell). IsTrue (is_before p c.0)) (map (λ q. (q, f q)) ps)
cells-below f p [] below = tt
cells-below f p (q ∷ ps) below = (below.0, cells-below f p ps below.1)

cells-rise : (f : IpPrefix → Option (List ℕ)) (ps : List IpPrefix) → IsRising ps → AllPairs (λ (a b : Cell). IsTrue (is_before a.0 b.0)) (map (λ q. (q, f q)) ps)
cells-rise f [] rising = λ i j d below within. absurd (omega (arith, below, within))
cells-rise f (p ∷ ps) rising = AllPairs-cons (λ (a b : Cell). IsTrue (is_before a.0 b.0)) (p, f p) (map (λ q. (q, f q)) ps)
    (All-from_recursion (λ (c : Cell). IsTrue (is_before p c.0)) (map (λ q. (q, f q)) ps) (cells-below f p ps rising.0)) (cells-rise f ps rising.1)

abbrev pub IsShort : List ℕ → Type 0
IsShort message = length message ≤ 4096

short_each : (value : Option (List ℕ)) (pieces : List (List IpPrefix)) → AllByRecursion (λ piece. length (update_of value piece) ≤ 4096) pieces → AllByRecursion IsShort (map (update_of value) pieces)
short_each value [] each = tt
short_each value (piece ∷ pieces) each = (each.0, short_each value pieces each.1)

append_each : (xs ys : List (List ℕ)) → AllByRecursion IsShort xs → AllByRecursion IsShort ys → AllByRecursion IsShort (xs ++ ys)
append_each [] ys first second = second
append_each (x ∷ xs) ys first second = (first.0, append_each xs ys first.1 second)

short_groups : (gs : List Group) → AllByRecursion AreFilled gs → AllByRecursion IsShort (flat_map group_updates gs)
short_groups [] each = tt
short_groups (g ∷ gs) each = append_each (group_updates g) (flat_map group_updates gs) (short_each g.0 (fill g.0 g.1) each.0.short) (short_groups gs each.1)

pub packed-short : (roster : RosterOf) (shards : List ShardOf) (slot : ℕ) (ps : List IpPrefix) → IsRising ps → AllByRecursion IsSendable (cells_of roster shards slot ps)
    → AllByRecursion IsShort (packed (cells_of roster shards slot ps))
unfolding packed
packed-short roster shards slot ps rising each =
    short_groups (groups (cells_of roster shards slot ps)) (groups-filled (cells_of roster shards slot ps) (record { rising = cells-rise _ ps rising; each = each }))

pub short-messages : {M : Type 0} (f : M → List ℕ) (ms : List M) → AllByRecursion IsShort (map f ms) → All (λ m. length (f m) ≤ 4096) ms
short-messages f [] each k d low = absurd (omega (arith, low))
short-messages f (m ∷ ms) each zero d low = each.0
short-messages f (m ∷ ms) each (suc k) d low = short-messages f ms each.1 k d (omega (arith, low))
