-- The dirty cells of a slot, read one after another, the least first.
use Rattle.std.proofs.Common.{◌≡◌, ℕ, Bool, true, false, ◌||◌, List, [], ◌∷◌, ◌++◌, map, Option, Some, None, refl, sym, ap, ◌∙◌, subst, ◌⊎◌, inl, inr}
use Rattle.std.specs.List.{AllByRecursion}
use Rattle.std.proofs.lemmas.Bool.{false≢true, or_cases, or_left, or_right}
use Rattle.std.proofs.lemmas.List.{map-append}
use Rattle.rcp_base.specs.IpPrefix.{IpPrefix}
use Rattle.rcp_base.specs.Maps.{same_prefix, is_before, is_among}
use Rattle.rcp_base.specs.Roster.{RosterOf}
use Rattle.rcp_base.proofs.MapLemmas.{same_prefix-is, same_prefix-itself}
use Rattle.rcp_model.specs.Assigned.{IsAfter, IsLeast}
use Rattle.rcp_model.specs.Cells.{Cell, IsSendable}
use Rattle.rcp_model.specs.Packing.{packed}
use Rattle.rcp_model.specs.Rising.{IsBelow, IsRising}
use Rattle.platform_laws.proofs.RisingLists.{rising-same}
use Rattle.rcs_shard.specs.Shards.{ShardOf}
use Rattle.rcs_shards.specs.Dirty.{has_dirty, AreDirty, cells_of}
use Rattle.rcs_shards.specs.Fronts.{IsLeft, IsCell, IsNextCell, AreOffered}
use Rattle.rcs_shards.proofs.LeastLemmas.{less-before, before-less, before-step}
use Rattle.rcs_shards.proofs.FrontLemmas.{from-least}

-- ---- a prefix more

below_all : (ps : List IpPrefix) (p : IpPrefix) → ((q : IpPrefix) → is_among ps q ≡ true → is_before q p ≡ true) → IsRising ps → IsRising (ps ++ p ∷ [])
below_all [] p below rising = (tt, tt)
below_all (q ∷ ps) p below rising = (more ps rising.0, below_all ps p (λ r among. below r (or_right (same_prefix r q) (is_among ps r) among)) rising.1) where
  more : (rs : List IpPrefix) → IsBelow q rs → IsBelow q (rs ++ p ∷ [])
  more [] h = (below q (or_left (same_prefix q q) (is_among ps q) (same_prefix-itself q)), tt)
  more (r ∷ rs) h = (h.0, more rs h.1)

or_false : (b : Bool) → (b || false) ≡ b
or_false true = refl
or_false false = refl

among_push : (ps : List IpPrefix) (p q : IpPrefix) → is_among (ps ++ p ∷ []) q ≡ (is_among ps q || same_prefix q p)
among_push [] p q = or_false (same_prefix q p)
among_push (r ∷ ps) p q = ap (λ b. same_prefix q r || b) (among_push ps p q) ∙ grouped (same_prefix q r) (is_among ps q) (same_prefix q p) where
  grouped : (a b c : Bool) → (a || (b || c)) ≡ ((a || b) || c)
  grouped true b c = refl
  grouped false b c = refl

push_each : (cells : List Cell) (cell : Cell) → AllByRecursion IsSendable cells → IsSendable cell → AllByRecursion IsSendable (cells ++ cell ∷ [])
push_each [] cell each is = (is, tt)
push_each (first ∷ cells) cell each is = (each.0, push_each cells cell each.1 is)

-- the list of the dirty cells is one
dirty-same : (roster : RosterOf) (shards : List ShardOf) (slot : ℕ) (ps qs : List IpPrefix) → AreDirty roster shards slot ps → AreDirty roster shards slot qs → ps ≡ qs
dirty-same roster shards slot ps qs p q = rising-same ps qs p.rising q.rising (λ r. p.exact r ∙ sym (q.exact r))

module _ (roster : RosterOf) (shards : List ShardOf) (slot : ℕ) where
  -- the prefixes so far are those of the dirty cells that aren't after the last one
  pub record AreRead (ps : List IpPrefix) (last : Option IpPrefix) : Type 0 where
    pub rising : IsRising ps
    pub below : (p q : IpPrefix) → is_among ps p ≡ true → IsAfter last q → is_before p q ≡ true
    pub only : (q : IpPrefix) → is_among ps q ≡ true → has_dirty roster shards slot q ≡ true
    pub all : (q : IpPrefix) → has_dirty roster shards slot q ≡ true → (is_among ps q ≡ true) ⊎ IsAfter last q

  read-more : (ps : List IpPrefix) (last : Option IpPrefix) (p : IpPrefix) → AreRead ps last → IsLeast (IsLeft roster shards slot last) (Some p) → AreRead (ps ++ p ∷ []) (Some p)
  read-more ps last p so_far least = record {
    rising = below_all ps p (λ q among. so_far.below q p among least.0.0) so_far.rising;
    below = λ q r among later. elim (split q among) [
      | inl early ↦ before-step q p r (so_far.below q p early least.0.0) (less-before p r later)
      | inr here ↦ subst (λ t. is_before t r ≡ true) (sym (same_prefix-is q p here)) (less-before p r later)
    ];
    only = λ q among. elim (split q among) [
      | inl early ↦ so_far.only q early
      | inr here ↦ ap (has_dirty roster shards slot) (same_prefix-is q p here) ∙ least.0.1
    ];
    all = λ q dirty. elim (so_far.all q dirty) [
      | inl early ↦ inl (among_push ps p q ∙ or_left (is_among ps q) (same_prefix q p) early)
      | inr left ↦ elim (from-least p q (least.1 q (left, dirty))) [
        | inl same ↦ inl (among_push ps p q ∙ or_right (is_among ps q) (same_prefix q p) same)
        | inr later ↦ inr (before-less p q later)
      ]
    ];
  } where
    split : (q : IpPrefix) → is_among (ps ++ p ∷ []) q ≡ true → (is_among ps q ≡ true) ⊎ (same_prefix q p ≡ true)
    split q among = or_cases (is_among ps q) (same_prefix q p) (sym (among_push ps p q) ∙ among)

  read-all : (ps : List IpPrefix) (last : Option IpPrefix) → AreRead ps last → IsLeast (IsLeft roster shards slot last) None → AreDirty roster shards slot ps
  read-all ps last so_far none = record { rising = so_far.rising; exact = λ q. same (is_among ps q) (has_dirty roster shards slot q) (so_far.only q) (dirty_among q) } where
    dirty_among : (q : IpPrefix) → has_dirty roster shards slot q ≡ true → is_among ps q ≡ true
    dirty_among q dirty = elim (so_far.all q dirty) [ inl early ↦ early | inr left ↦ absurd (none q (left, dirty)) ]

    same : (a b : Bool) → (a ≡ true → b ≡ true) → (b ≡ true → a ≡ true) → a ≡ b
    same true b to from = sym (to refl)
    same false true to from = from refl
    same false false to from = refl

  -- ---- the cells

  abbrev prefixes : List Cell → List IpPrefix
  prefixes cells = map (λ (c : Cell). c.0) cells

  -- the cells so far, up to the last prefix
  pub record AreListed (cells : List Cell) (last : Option IpPrefix) : Type 0 where
    pub read : AreRead (prefixes cells) last
    pub values : cells ≡ cells_of roster shards slot (prefixes cells)
    pub sendable : AllByRecursion IsSendable cells

  pub listed-none : AreListed [] None
  listed-none = record {
    read = record { rising = tt; below = λ p q among. absurd (false≢true among); only = λ q among. absurd (false≢true among); all = λ q dirty. inr tt };
    values = refl;
    sendable = tt;
  }

  pub listed-more : (cells more : List Cell) (last now : Option IpPrefix) (cell : Cell) → AreListed cells last → IsNextCell roster shards slot last now (Some cell) → more ≡ cells ++ cell ∷ [] → AreListed more now
  listed-more cells more last now cell so_far next made =
      let pushed : prefixes (cells ++ cell ∷ []) ≡ prefixes cells ++ cell.0 ∷ [] = map-append (λ (c : Cell). c.0) cells (cell ∷ []) in
      subst (λ l. AreListed l now) (sym made) (subst (AreListed (cells ++ cell ∷ [])) (sym next.reached) (record {
        read = subst (λ ps. AreRead ps (Some cell.0)) (sym pushed) (read-more (prefixes cells) last cell.0 so_far.read next.least);
        values = ap (λ l. l ++ cell ∷ []) so_far.values
            ∙ ap (λ l. cells_of roster shards slot (prefixes cells) ++ l) (sym next.is_cell.value)
            ∙ sym (map-append _ (prefixes cells) (cell.0 ∷ []))
            ∙ ap (cells_of roster shards slot) (sym pushed);
        sendable = push_each cells cell so_far.sendable next.is_cell.sendable;
      }))

  pub listed-all : (cells : List Cell) (last now : Option IpPrefix) → AreListed cells last → IsNextCell roster shards slot last now None → AreOffered roster shards slot cells
  listed-all cells last now so_far next = record { dirty = read-all (prefixes cells) last so_far.read next.least; values = so_far.values; sendable = so_far.sendable }

-- what is packed for these cells is packed for the cells of any list of the dirty prefixes
pub packed-offered : (roster : RosterOf) (shards : List ShardOf) (slot : ℕ) (cells : List Cell) → AreOffered roster shards slot cells → (ps : List IpPrefix) → AreDirty roster shards slot ps
    → packed cells ≡ packed (cells_of roster shards slot ps)
packed-offered roster shards slot cells offered ps dirty =
    ap packed (offered.values ∙ ap (cells_of roster shards slot) (dirty-same roster shards slot (map (λ (c : Cell). c.0) cells) ps offered.dirty dirty))
