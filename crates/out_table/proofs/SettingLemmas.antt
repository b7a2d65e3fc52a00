-- One cell of the columns is written, and marked.
use Rattle.std.proofs.Common.{◌≡◌, ◌≢◌, ℕ, ◌<◌, true, false, List, length, insert, refl, sym, ap, subst, ◌∙◌, ◌⊎◌, inl, inr}
use Rattle.std.proofs.Math.ListN.{set}
use Rattle.std.specs.List.{AllByRecursion}
use Rattle.std.proofs.lemmas.Bool.{cases_eq}
use Rattle.std.proofs.lemmas.List.{get_or-set_same, get_or-set_other, length-set, ext_get_or}
use Rattle.rcp_base.specs.IpPrefix.{IpPrefix}
use Rattle.out_table.specs.Cells.{Cells, no_cells}
use Rattle.out_table.specs.Places.{prefix_in, is_listed, IsRising, IsGap, cells_at, AreKept}
use Rattle.out_table.specs.Columns.{ColumnsOf, SetsAt}
use Rattle.out_table.proofs.RisingLemmas.{gap_room, set_marked, set_listed, set_unchanged}

-- an element that is written twice
set_again : (items : List Cells) (slot : ℕ) (a b : Cells) → set (set items slot a) slot b ≡ set items slot b
set_again items slot a b =
    ext_get_or no_cells (set (set items slot a) slot b) (set items slot b) (length-set (set items slot a) slot b ∙ length-set items slot a ∙ sym (length-set items slot b))
    (λ s less. at s (subst (λ n. s < n) (length-set (set items slot a) slot b ∙ length-set items slot a) less) (cases_eq s slot)) where
      at : (s : ℕ) → s < length items → (s ≡ slot) ⊎ (s ≢ slot) → cells_at s (set (set items slot a) slot b) ≡ cells_at s (set items slot b)
      at s less (inl same) =
          let within : slot < length items = subst (λ n. n < length items) same less in
          ap (λ n. cells_at n (set (set items slot a) slot b)) same
          ∙ get_or-set_same (set items slot a) slot b no_cells (subst (λ n. slot < n) (sym (length-set items slot a)) within)
          ∙ sym (ap (λ n. cells_at n (set items slot b)) same ∙ get_or-set_same items slot b no_cells within)
      at s less (inr other) = get_or-set_other (set items slot a) slot s b no_cells other ∙ get_or-set_other items slot s a no_cells other ∙ sym (get_or-set_other items slot s b no_cells other)

module _ (slot place number : ℕ) (p : IpPrefix) (prefixes : List IpPrefix) (old mid : ColumnsOf) (seat : slot < length old.items) (kept : AreKept (length prefixes) prefixes (cells_at slot old.items)) (within : place < length prefixes) (at : prefix_in prefixes place ≡ p)
    (is : mid ≡ record { members = old.members; items = set old.items slot (record { numbers = set (cells_at slot old.items).numbers place number; dirty = (cells_at slot old.items).dirty }) }) where
  written : cells_at slot mid.items ≡ record { numbers = set (cells_at slot old.items).numbers place number; dirty = (cells_at slot old.items).dirty }
  written = ap (λ (v : ColumnsOf). cells_at slot v.items) is ∙ get_or-set_same old.items slot _ no_cells seat

  pub seat_mid : slot < length mid.items
  seat_mid = subst (λ n. slot < n) (sym (ap (λ (v : ColumnsOf). length v.items) is ∙ length-set old.items slot _)) seat

  pub below_mid : AllByRecursion (λ place. place < length prefixes) (cells_at slot mid.items).dirty
  below_mid = subst (λ (v : Cells). AllByRecursion (λ place. place < length prefixes) v.dirty) (sym written) kept.below

  pub rising_mid : IsRising prefixes (cells_at slot mid.items).dirty
  rising_mid = subst (λ (v : Cells). IsRising prefixes v.dirty) (sym written) kept.rising

  pub members_mid : mid.members ≡ old.members
  members_mid = ap (λ (v : ColumnsOf). v.members) is

  pub room_mid : (gap : ℕ) → IsGap p prefixes (cells_at slot mid.items).dirty gap → length (cells_at slot mid.items).dirty < length (cells_at slot mid.items).numbers
  room_mid gap gap_is = gap_room p prefixes place number gap (cells_at slot old.items) (cells_at slot mid.items) kept within at written gap_is

  pub sets_unchanged : SetsAt slot place number prefixes false old.items mid.items
  sets_unchanged = record {
    cells = cells_at slot mid.items;
    is = ap (λ (v : ColumnsOf). v.items) is ∙ ap (set old.items slot) (sym written);
    sets = set_unchanged prefixes place number (cells_at slot old.items) (cells_at slot mid.items) kept written;
  }

  pub sets_listed : is_listed p prefixes (cells_at slot mid.items).dirty ≡ true → SetsAt slot place number prefixes true old.items mid.items
  sets_listed listed = record {
    cells = cells_at slot mid.items;
    is = ap (λ (v : ColumnsOf). v.items) is ∙ ap (set old.items slot) (sym written);
    sets = set_listed p prefixes place number (cells_at slot old.items) (cells_at slot mid.items) kept at written listed;
  }

  pub sets_marked : (gap : ℕ) (new : ColumnsOf) → IsGap p prefixes (cells_at slot mid.items).dirty gap
      → new ≡ record { members = mid.members; items = set mid.items slot (record { numbers = (cells_at slot mid.items).numbers; dirty = insert (cells_at slot mid.items).dirty gap place }) }
      → SetsAt slot place number prefixes true old.items new.items
  sets_marked gap new gap_is done = record {
    cells = last;
    is = ap (λ (v : ColumnsOf). v.items) done ∙ ap (λ (v : ColumnsOf). set v.items slot last) is ∙ set_again old.items slot _ last;
    sets = set_marked p prefixes place number gap (cells_at slot old.items) (cells_at slot mid.items) last kept within at written gap_is refl;
  } where
    last : Cells
    last = record { numbers = (cells_at slot mid.items).numbers; dirty = insert (cells_at slot mid.items).dirty gap place }
