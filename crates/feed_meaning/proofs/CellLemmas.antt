-- The cells that changed: they can be sent, and say what each changed prefix has now.
use Rattle.std.proofs.Common.{◌≡◌, ℕ, ◌≤◌, true, false, List, [], ◌∷◌, length, Option, Some, None, refl, sym, ap, ◌∙◌, ◌⊎◌, inl, inr, arith}
use Rattle.std.specs.Prelude.{AllPairs, IfSome, IsTrue}
use Rattle.std.specs.List.{AllByRecursion}
use Rattle.std.proofs.lemmas.Bool.{cases_Bool, or_cases, or_parts, both_ways}
use Rattle.std.proofs.lemmas.List.Elements.{All-from_recursion}
use Rattle.std.proofs.lemmas.List.Kept.{AllPairs-cons}
use Rattle.std.proofs.lemmas.Slice.Eq.{bytes_eq-Decides}
use Rattle.rcp_base.specs.IpPrefix.{IpPrefix, IsPrefix}
use Rattle.rcp_base.specs.Maps.{get_at, same_prefix, is_before, is_among}
use Rattle.rcp_model.specs.Rising.{IsBelow, IsRising}
use Rattle.rcp_model.specs.Updates.{Table}
use Rattle.rcp_model.specs.Cells.{Cell, IsSendable, AreCells, value_after}
use Rattle.rcp_model.specs.RouteServer.{same_octets}
use Rattle.rcp_base.proofs.MapLemmas.{same_prefix-is}
use Rattle.rcp_model.proofs.RisingLemmas.{not_among}
use Rattle.feed_meaning.specs.Work.{cell_of, changed_cells}

same_octets-is : (a b : Option (List ℕ)) → same_octets a b ≡ true → a ≡ b
same_octets-is None None e = refl
same_octets-is None (Some b) e = absurd cc
same_octets-is (Some a) None e = absurd cc
same_octets-is (Some a) (Some b) e = ap Some ((bytes_eq-Decides a b).0 e)

-- ---- they can be sent

-- prefixes in form, at which a table leaves room for them
abbrev pub FitsAt : Option Table → IpPrefix → Type 0
FitsAt now p = IsPrefix p × ((octets : List ℕ) → cell_of now p ≡ Some octets → length octets ≤ 4068)

if-fits : (value : Option (List ℕ)) → ((octets : List ℕ) → value ≡ Some octets → length octets ≤ 4068) → IfSome value (λ octets. length octets ≤ 4068)
if-fits None fits = tt
if-fits (Some octets) fits = fits octets refl

below-cells : (p : IpPrefix) (ps : List IpPrefix) (before now : Option Table) → IsBelow p ps → AllByRecursion (λ (c : Cell). IsTrue (is_before p c.0)) (changed_cells ps before now)
below-cells p [] before now below = tt
below-cells p (q ∷ ps) before now below =
    elim (cases_Bool (same_octets (cell_of before q) (cell_of now q))) [
      | inl e ↦ rw e (below-cells p ps before now below.1)
      | inr e ↦ rw e (below.0, below-cells p ps before now below.1)
    ]

cells-rise : (ps : List IpPrefix) (before now : Option Table) → IsRising ps → AllPairs (λ (a b : Cell). IsTrue (is_before a.0 b.0)) (changed_cells ps before now)
cells-rise [] before now rising = λ i j d below within. absurd (omega (arith, below, within))
cells-rise (p ∷ ps) before now rising =
    elim (cases_Bool (same_octets (cell_of before p) (cell_of now p))) [
      | inl e ↦ rw e (cells-rise ps before now rising.1)
      | inr e ↦ rw e (AllPairs-cons (λ (a b : Cell). IsTrue (is_before a.0 b.0)) (p, cell_of now p) (changed_cells ps before now)
          (All-from_recursion (λ (c : Cell). IsTrue (is_before p c.0)) (changed_cells ps before now) (below-cells p ps before now rising.0)) (cells-rise ps before now rising.1))
    ]

cells-sendable : (ps : List IpPrefix) (before now : Option Table) → AllByRecursion (FitsAt now) ps → AllByRecursion IsSendable (changed_cells ps before now)
cells-sendable [] before now fit = tt
cells-sendable (p ∷ ps) before now fit =
    elim (cases_Bool (same_octets (cell_of before p) (cell_of now p))) [
      | inl e ↦ rw e (cells-sendable ps before now fit.1)
      | inr e ↦ rw e (record { prefix = fit.0.0; short = if-fits (cell_of now p) fit.0.1 }, cells-sendable ps before now fit.1)
    ]

pub are-cells : (ps : List IpPrefix) (before now : Option Table) → IsRising ps → AllByRecursion (FitsAt now) ps → AreCells (changed_cells ps before now)
are-cells ps before now rising fit = record { rising = cells-rise ps before now rising; each = cells-sendable ps before now fit }

-- ---- what they say

unchanged-cells : (ps : List IpPrefix) (before now : Option Table) (q : IpPrefix) → is_among ps q ≡ false → get_at same_prefix q (changed_cells ps before now) ≡ None
unchanged-cells [] before now q other = refl
unchanged-cells (p ∷ ps) before now q other =
    let parts = or_parts (same_prefix q p) (is_among ps q) other in
    elim (cases_Bool (same_octets (cell_of before p) (cell_of now p))) [
      | inl e ↦ rw e (unchanged-cells ps before now q parts.1)
      | inr e ↦ rw (e, parts.0) (unchanged-cells ps before now q parts.1)
    ]

-- the first prefix isn't among the later ones
first-alone : (p q : IpPrefix) (ps : List IpPrefix) → IsBelow p ps → same_prefix q p ≡ true → is_among ps q ≡ false
first-alone p q ps below e = ap (is_among ps) (same_prefix-is q p e) ∙ not_among p ps below

-- At each prefix that is among these, or has the same value before and now, the cells and the value before give the value now.
pub cells-give : (ps : List IpPrefix) (before now : Option Table) (q : IpPrefix) → IsRising ps → ((is_among ps q ≡ true) ⊎ (cell_of before q ≡ cell_of now q))
    → value_after (get_at same_prefix q (changed_cells ps before now)) (cell_of before q) ≡ cell_of now q
cells-give [] before now q rising (inl among) = absurd (both_ways false refl among)
cells-give [] before now q rising (inr same) = same
cells-give (p ∷ ps) before now q rising h =
    elim (cases_Bool (same_octets (cell_of before p) (cell_of now p))) [
      | inl e ↦ rw e (cells-give ps before now q rising.1 (
          elim h [
            | inr same ↦ inr same
            | inl among ↦ elim (or_cases (same_prefix q p) (is_among ps q) among) [
              | inl s ↦ inr (ap (cell_of before) (same_prefix-is q p s) ∙ same_octets-is (cell_of before p) (cell_of now p) e ∙ ap (cell_of now) (sym (same_prefix-is q p s)))
              | inr s ↦ inl s
            ]
          ]))
      | inr e ↦ elim (cases_Bool (same_prefix q p)) [
        | inl s ↦ rw (e, s) (ap (cell_of now) (sym (same_prefix-is q p s)))
        | inr s ↦ rw (e, s) (cells-give ps before now q rising.1 (
            elim h [
              | inr same ↦ inr same
              | inl among ↦ elim (or_cases (same_prefix q p) (is_among ps q) among) [
                | inl t ↦ absurd (both_ways (same_prefix q p) s t)
                | inr t ↦ inl t
              ]
            ]))
      ]
    ]
