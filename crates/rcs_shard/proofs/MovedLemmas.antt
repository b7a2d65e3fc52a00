-- Flags of the slots to which costs differ, found one slot after another.
use Rattle.std.proofs.Common.{◌≡◌, ℕ, zero, suc, ◌+◌, ◌<◌, ◌≤◌, Bool, true, false, cond, not, ◌||◌, eqb, List, length, replicate, None, refl, sym, ap, ◌∙◌, inl, inr, arith}
use Rattle.std.proofs.Math.ListN.{set, length-set}
use Rattle.std.proofs.lemmas.Bool.{eqb-true, eqb-false, cases_lt}
use Rattle.rcp_base.specs.declared.names.Edge.{Edge}
use Rattle.rcp_base.specs.declared.names.Member.{Member}
use Rattle.rcp_model.specs.RouteServer.{router_at, cost_between, slot_cost, same_cost, cost_differs}
use Rattle.cost_rows.proofs.ReachLemmas.{router_past, cost_none_to}
use Rattle.rcs_shard.specs.Slots.{flag_at}
use Rattle.rcs_shard.specs.Following.{AreMoved}
use Rattle.rcs_shard.proofs.SlotLemmas.{flag_set, none_set, length_none}

-- of 512 flags those of the slots below a number are set where a test says so, and no other is
pub record Flagging (test : ℕ → Bool) (count : ℕ) (flags : List Bool) : Type 0 where
  pub long : length flags ≡ 512
  pub below : (slot : ℕ) → slot < count → flag_at flags slot ≡ test slot
  pub above : (slot : ℕ) → count ≤ slot → flag_at flags slot ≡ false

pub flagging_none : (test : ℕ → Bool) (n : ℕ) → n ≡ 512 → Flagging test 0 (replicate n false)
flagging_none test n is = record {
  long = length_none n ∙ is;
  below = λ slot low. absurd (omega arith);
  above = λ slot high. none_set n slot;
}

pub flagging_more : (test : ℕ → Bool) (count : ℕ) (flags : List Bool) (flag : Bool) → count < 512 → flag ≡ test count → Flagging test count flags → Flagging test (count + 1) (set flags count flag)
flagging_more test count flags flag low flag_is flagging = record {
  long = length-set flags count flag ∙ flagging.long;
  below = λ slot low. read slot ∙ at_below slot low (eqb slot count) refl;
  above = λ slot high. read slot ∙ at_above slot high (eqb slot count) refl;
} where
  read : (slot : ℕ) → flag_at (set flags count flag) slot ≡ cond (eqb slot count) flag (flag_at flags slot)
  read slot = flag_set flags count flag slot (let h = flagging.long in omega (arith, h, low))

  at_below : (slot : ℕ) → slot < count + 1 → (t : Bool) → eqb slot count ≡ t → cond (eqb slot count) flag (flag_at flags slot) ≡ test slot
  at_below slot low true is = ap (λ t. cond t flag (flag_at flags slot)) is ∙ flag_is ∙ ap test (sym (eqb-true slot count is))
  at_below slot low false is =
      let other : slot ≡ count → ⊥ = eqb-false slot count is in
      ap (λ t. cond t flag (flag_at flags slot)) is ∙ flagging.below slot (elim (cases_lt slot count) [ inl less ↦ less | inr high ↦ absurd (other (omega (arith, low, high))) ])

  at_above : (slot : ℕ) → count + 1 ≤ slot → (t : Bool) → eqb slot count ≡ t → cond (eqb slot count) flag (flag_at flags slot) ≡ false
  at_above slot high true is = absurd (let same = eqb-true slot count is in omega (arith, high, same))
  at_above slot high false is = ap (λ t. cond t flag (flag_at flags slot)) is ∙ flagging.above slot (omega arith)

-- ---- past the last member no cost differs

cost_nobody : (edges : List Edge) (members : List Member) (from to : ℕ) → length members ≤ to → slot_cost edges members from to ≡ None
unfolding slot_cost
cost_nobody edges members from to past = ap (cost_between edges (router_at members from)) (router_past members to past) ∙ cost_none_to edges (router_at members from)

differs_past : (before after : List Edge) (members : List Member) (to n : ℕ) → length members ≤ to → cost_differs before after members to n ≡ false
differs_past before after members to zero past = refl
differs_past before after members to (suc n) past =
    λ i. not (same_cost (cost_nobody before members n to past i) (cost_nobody after members n to past i)) || differs_past before after members to n past i

pub flagging_all : (before after : List Edge) (members : List Member) (flags : List Bool) → Flagging (λ e. cost_differs before after members e (length members)) (length members) flags → AreMoved before after members flags
flagging_all before after members flags flagging slot = elim (cases_lt slot (length members)) [
  | inl low ↦ flagging.below slot low
  | inr high ↦ flagging.above slot high ∙ sym (differs_past before after members slot (length members) high)
]
