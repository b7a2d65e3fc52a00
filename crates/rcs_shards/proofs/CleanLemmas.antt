-- Cells that are cleaned.
use Rattle.std.proofs.Common.{◌≡◌, ℕ, zero, suc, ◌+◌, ◌-◌, ◌<◌, ◌≤◌, Bool, true, false, cond, not, ◌&&◌, eqb, Option, Some, None, is_some, refl, sym, ap, ◌∙◌, subst, add-one, arith}
use Rattle.std.specs.FinSet as set_of
use Rattle.std.proofs.lemmas.Bool.{false≢true, and_parts, eqb-true}
use Rattle.std.proofs.lemmas.Bool.Decides.{nat_tests}
use Rattle.rcp_base.specs.IpPrefix.{IpPrefix}
use Rattle.rcp_base.specs.Maps.{same_prefix}
use Rattle.rcp_model.specs.Ribs.{RibKey, rib_cmp}
use Rattle.rcp_model.proofs.RibLemmas.{rib_total, rib_exact}
use Rattle.rib_laws.proofs.RibLookups.{key_tied}
use Rattle.rcs_shard.specs.Shards.{ShardOf, CellSet, IsLeastDirty, is_dirty, without_cells_of, taken}
use Rattle.rcs_shards.specs.Dirty.{cleaned}

-- the shard without the dirty cells of a slot
abbrev pub without_slot : ℕ → ShardOf → ShardOf
without_slot slot shard = record shard { dirty = without_cells_of slot shard.dirty }

inside-without : (slot : ℕ) (dirty : CellSet) (q : RibKey) → set_of.contains (without_cells_of slot dirty) q ≡ (set_of.contains dirty q && not (eqb q.1 slot))
inside-without slot dirty q = set_of.contains-retain dirty (λ (key : RibKey). not (eqb key.1 slot)) q (λ x tied. ap (λ (key : RibKey). not (eqb key.1 slot)) (sym (rib_exact q x tied)))

with_dirty : (shard : ShardOf) (a b : CellSet) → ((q : RibKey) → set_of.contains a q ≡ set_of.contains b q) → record shard { dirty = a } ≡ record shard { dirty = b }
with_dirty shard a b same = ap (λ d. record shard { dirty = d }) (set_of.same_set rib_total rib_exact a b same)

-- ---- slot by slot

-- the cells of so many first slots are clean, others are dirty only where they were, and all else is as before
pub record Cleans (count : ℕ) (before now : ShardOf) : Type 0 where
  pub same : cleaned now ≡ cleaned before
  pub high : (slot : ℕ) (p : IpPrefix) → is_dirty now slot p ≡ true → (count ≤ slot) × (is_dirty before slot p ≡ true)

pub cleans-none : (shard : ShardOf) → Cleans 0 shard shard
cleans-none shard = record { same = refl; high = λ slot p dirty. (omega arith, dirty) }

pub cleans-more : (count : ℕ) (first before now : ShardOf) → Cleans count first before → now ≡ without_slot count before → Cleans (suc count) first now
cleans-more count first before now so_far is = record {
  same = ap cleaned is ∙ so_far.same;
  high = λ slot p dirty.
      let both = and_parts (set_of.contains before.dirty (p, slot)) (not (eqb slot count)) (sym (inside-without count before.dirty (p, slot)) ∙ sym (ap (λ (s : ShardOf). is_dirty s slot p) is) ∙ dirty) in
      let was = so_far.high slot p both.0 in
      (above slot was.0 both.1, was.1);
} where
  above : (slot : ℕ) → count ≤ slot → not (eqb slot count) ≡ true → suc count ≤ slot
  above slot low other = by_order (eqb slot count) refl other where
    by_order : (b : Bool) → eqb slot count ≡ b → not b ≡ true → suc count ≤ slot
    by_order true same h = absurd (false≢true h)
    by_order false apart h = grind (arith, nat_tests)

pub cleans-all : (count : ℕ) (first now : ShardOf) → Cleans count first now → ((slot : ℕ) (p : IpPrefix) → is_dirty first slot p ≡ true → slot < count) → now ≡ cleaned first
cleans-all count first now so_far seated =
    with_dirty now now.dirty set_of.empty (λ (q : RibKey). none (set_of.contains now.dirty q) (λ dirty.
    let was = so_far.high q.1 q.0 dirty in let low = seated q.1 q.0 was.1 in let high = was.0 in omega (arith, low, high)) ∙ sym (set_of.contains-empty rib_cmp q))
    ∙ so_far.same where
      none : (b : Bool) → (b ≡ true → ⊥) → b ≡ false
      none true h = absurd (h refl)
      none false h = refl

-- a turn of the loop
pub cleans-turn : (count : ℕ) (first before now : ShardOf) → Cleans count first before → now ≡ without_slot count before → Cleans (count + 1) first now
cleans-turn count first before now so_far is = subst (λ n. Cleans n first now) (sym (add-one count)) (cleans-more count first before now so_far is)
