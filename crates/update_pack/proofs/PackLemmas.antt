-- The groups of the offers so far, and what the messages of all of them are.
use Rattle.std.proofs.Common.{◌≡◌, ℕ, zero, suc, ◌+◌, ◌<◌, ◌≤◌, List, [], ◌∷◌, ◌++◌, length, map, take, get_or, Option, Some, None, refl, sym, ap, subst, ◌∙◌, arith, true}
use Rattle.std.specs.Prelude.{flat_map, IfSome, AllPairs, IsTrue, bytes_eq}
use Rattle.std.specs.List.{AllByRecursion}
use Rattle.std.proofs.lemmas.List.{take_more, take_all, map-append}
use Rattle.std.proofs.lemmas.Slice.Eq.{bytes_eq-Decides}
use Rattle.rcp_base.specs.IpPrefix.{IpPrefix}
use Rattle.rcp_base.specs.Maps.{is_before}
use Rattle.rcp_model.specs.Cells.{Cell, IsSendable, Carries}
use Rattle.rcp_model.specs.Packing.{Group, groups, group_updates, packed, update_of}
use Rattle.rcp_model.proofs.PackingLemmas.{packed-carries, map-pairs}
use Rattle.update_pack.specs.Values.{octet_count}
use Rattle.update_pack.specs.Grouping.{put_in}
use Rattle.update_pack.proofs.FillLemmas.{length-update_of, length-one}
use Rattle.update_pack.proofs.GroupLemmas.{groups-push, groups-none}

pub count_short : (v : Option (List ℕ)) → IfSome v (λ octets. length octets ≤ 4068) → octet_count v ≤ 4068
count_short None short = omega arith
count_short (Some octets) short = short

push_each : (cells : List Cell) (cell : Cell) → AllByRecursion IsSendable cells → IsSendable cell → AllByRecursion IsSendable (cells ++ cell ∷ [])
push_each [] cell each is = (is, tt)
push_each (first ∷ cells) cell each is = (each.0, push_each cells cell each.1 is)

-- each of some values that stand for cells can be sent where all can
pub sendable-at : {X : Type 0} (cell_of : X → Cell) (xs : List X) (i : ℕ) (x : X) → AllByRecursion IsSendable (map cell_of xs) → i < length xs → x ≡ get_or xs i x → IsSendable (cell_of x)
sendable-at cell_of [] i x each within is = absurd (omega (arith, within))
sendable-at cell_of (y ∷ xs) zero x each within is = subst (λ z. IsSendable (cell_of z)) (sym is) each.0
sendable-at cell_of (y ∷ xs) (suc i) x each within is = sendable-at cell_of xs i x each.1 (omega (arith, within)) is

-- the groups of the first i of some values that stand for cells, each of which can be sent
pub record AreGrouped {X : Type 0} (cell_of : X → Cell) (xs : List X) (i : ℕ) (gs : List Group) : Type 0 where
  pub made : gs ≡ groups (map cell_of (take i xs))
  pub sendable : AllByRecursion IsSendable (map cell_of (take i xs))

pub grouped-none : {X : Type 0} (cell_of : X → Cell) (xs : List X) (gs : List Group) → gs ≡ (None, []) ∷ [] → AreGrouped cell_of xs 0 gs
grouped-none cell_of xs gs e = record { made = e ∙ sym groups-none; sendable = tt }

pub grouped-more : {X : Type 0} (cell_of : X → Cell) (xs : List X) (i : ℕ) (gs after : List Group) (x : X) → AreGrouped cell_of xs i gs
    → i < length xs → x ≡ get_or xs i x → IsSendable (cell_of x) → after ≡ put_in (cell_of x).1 (cell_of x).0 gs → AreGrouped cell_of xs (i + 1) after
grouped-more cell_of xs i gs after x grouped within is sendable put =
    let done = map cell_of (take i xs) in
    let cells : map cell_of (take (i + 1) xs) ≡ done ++ cell_of x ∷ [] =
    ap (map cell_of) (take_more xs i x within ∙ ap (λ y. take i xs ++ y ∷ []) (sym is)) ∙ map-append cell_of (take i xs) (x ∷ []) in
    record {
      made = put ∙ ap (put_in (cell_of x).1 (cell_of x).0) grouped.made ∙ sym (groups-push done (cell_of x).0 (cell_of x).1) ∙ ap groups (sym cells);
      sendable = subst (AllByRecursion IsSendable) (sym cells) (push_each done (cell_of x) grouped.sendable sendable);
    }

packed-is : (cells : List Cell) → packed cells ≡ flat_map group_updates (groups cells)
unfolding packed
packed-is cells = refl

-- packed messages carry cells by rising prefix
pub packed-all : {X : Type 0} (cell_of : X → Cell) (xs : List X) → AllByRecursion IsSendable (map cell_of xs) → (from : Cell → X) (messages : List (List ℕ)) → messages ≡ packed (map cell_of xs)
    → AllPairs (λ a b. IsTrue (is_before (cell_of a).0 (cell_of b).0)) xs → Carries messages (map cell_of xs)
packed-all cell_of xs sendable from messages e rising =
    subst (λ l. Carries l (map cell_of xs)) (sym e)
    (packed-carries (map cell_of xs) (record { rising = map-pairs (λ (a b : Cell). IsTrue (is_before a.0 b.0)) cell_of from xs rising; each = sendable }))

module _ {X : Type 0} (cell_of : X → Cell) (xs : List X) (i : ℕ) (gs : List Group) (grouped : AreGrouped cell_of xs i gs) (all : length xs ≤ i) where
  pub grouped-packed : (messages : List (List ℕ)) → messages ≡ flat_map group_updates gs → messages ≡ packed (map cell_of xs)
  grouped-packed messages e =
      e ∙ ap (flat_map group_updates) (grouped.made ∙ ap (λ l. groups (map cell_of l)) (take_all i xs all)) ∙ sym (packed-is (map cell_of xs))

  pub grouped-carries : (from : Cell → X) (messages : List (List ℕ)) → AllPairs (λ a b. IsTrue (is_before (cell_of a).0 (cell_of b).0)) xs
      → messages ≡ flat_map group_updates gs → Carries messages (map cell_of xs)
  grouped-carries from messages rising e =
      packed-all cell_of xs (subst (λ l. AllByRecursion IsSendable (map cell_of l)) (take_all i xs all) grouped.sendable) from messages (grouped-packed messages e) rising

-- ---- one cell

-- the one UPDATE of a cell
pub packed-one : (p : IpPrefix) (v : Option (List ℕ)) → packed ((p, v) ∷ []) ≡ update_of v (p ∷ []) ∷ []
unfolding packed groups
packed-one p None = refl
packed-one p (Some octets) = let same : bytes_eq octets octets ≡ true = (bytes_eq-Decides octets octets).1 refl in rw same refl

-- an UPDATE with one prefix has room for it
pub one-fits : (p : IpPrefix) (v : Option (List ℕ)) → octet_count v ≤ 4068 → length (update_of v (p ∷ [])) ≤ 4096
one-fits p v short = omega (arith, length-update_of v (p ∷ []), length-one p)

-- ---- cells listed one after another

-- the cells of the first i of some values, each of which can be sent
pub record AreListed {X : Type 0} (cell_of : X → Cell) (xs : List X) (i : ℕ) (cells : List Cell) : Type 0 where
  pub listed : cells ≡ map cell_of (take i xs)
  pub sendable : AllByRecursion IsSendable (map cell_of (take i xs))

pub listed-more : {X : Type 0} (cell_of : X → Cell) (xs : List X) (i : ℕ) (cells after : List Cell) (x : X) → AreListed cell_of xs i cells
    → i < length xs → x ≡ get_or xs i x → IsSendable (cell_of x) → after ≡ cells ++ cell_of x ∷ [] → AreListed cell_of xs (i + 1) after
listed-more cell_of xs i cells after x so_far within is sendable made =
    let done = map cell_of (take i xs) in
    let more : map cell_of (take (i + 1) xs) ≡ done ++ cell_of x ∷ [] =
    ap (map cell_of) (take_more xs i x within ∙ ap (λ y. take i xs ++ y ∷ []) (sym is)) ∙ map-append cell_of (take i xs) (x ∷ []) in
    record {
      listed = made ∙ ap (λ l. l ++ cell_of x ∷ []) so_far.listed ∙ sym more;
      sendable = subst (AllByRecursion IsSendable) (sym more) (push_each done (cell_of x) so_far.sendable sendable);
    }

module _ {X : Type 0} (cell_of : X → Cell) (xs : List X) (i : ℕ) (cells : List Cell) (so_far : AreListed cell_of xs i cells) (all : length xs ≤ i) where
  pub listed-all : cells ≡ map cell_of xs
  listed-all = so_far.listed ∙ ap (map cell_of) (take_all i xs all)

  pub sendable-all : AllByRecursion IsSendable (map cell_of xs)
  sendable-all = subst (λ l. AllByRecursion IsSendable (map cell_of l)) (take_all i xs all) so_far.sendable
