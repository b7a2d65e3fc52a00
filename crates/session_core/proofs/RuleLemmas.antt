-- The tables have the rules of the definition.
use Rattle.std.proofs.Common.{◌≡◌, ℕ, Bool, true, false, ◌==◌, List, [], ◌∷◌, refl, sym, subst, ◌∙◌}
use Rattle.std.specs.Prelude.{if◌then◌else◌}
use Rattle.std.proofs.lemmas.Bool.{eqb-true, eq-eqb}
use Rattle.rcp_base.specs.Roster.{RosterOf}
use Rattle.rcp_model.specs.Sessions.{Established, Up, Peering, step, nothing, telling, opened, updated, notified, refused}
use Rattle.session_core.specs.declared.table.TheConstants.{OPEN_SENT, OPEN_CONFIRM, ESTABLISHED}
use Rattle.session_core.specs.declared.table.Rule.TheVariants.{Take, Obey}
use Rattle.session_core.specs.Rules.{rule_of, in_open_sent, in_open_confirm, in_established}

-- a type is none of these, whichever stands first
record IsOther (kind n : ℕ) : Type 0 where
  pub one : (kind == n) ≡ false
  pub other : (n == kind) ≡ false

true-false : true ≡ false → ⊥
true-false e = cc

by_kind : (P : ℕ → Type 0) → P 1 → P 2 → P 3 → P 4 → ((kind : ℕ) → IsOther kind 1 → IsOther kind 2 → IsOther kind 3 → IsOther kind 4 → P kind) → (kind : ℕ) → P kind
by_kind P p1 p2 p3 p4 others kind = at1 (kind == 1) refl where
  is : (n : ℕ) → P n → (kind == n) ≡ true → P kind
  is n p e = subst P (sym (eqb-true kind n e)) p

  is-other : (n : ℕ) → (kind == n) ≡ false → IsOther kind n
  is-other n e = record { one = e; other = other-way n (n == kind) refl e } where
    other-way : (n : ℕ) (b : Bool) → (n == kind) ≡ b → (kind == n) ≡ false → (n == kind) ≡ false
    other-way n true e f = absurd (true-false (sym (eq-eqb kind n (sym (eqb-true n kind e))) ∙ f))
    other-way n false e f = e

  at4 : IsOther kind 1 → IsOther kind 2 → IsOther kind 3 → (b : Bool) → (kind == 4) ≡ b → P kind
  at4 a b c true e = is 4 p4 e
  at4 a b c false e = others kind a b c (is-other 4 e)

  at3 : IsOther kind 1 → IsOther kind 2 → (b : Bool) → (kind == 3) ≡ b → P kind
  at3 a b true e = is 3 p3 e
  at3 a b false e = at4 a b (is-other 3 e) (kind == 4) refl

  at2 : IsOther kind 1 → (b : Bool) → (kind == 2) ≡ b → P kind
  at2 a true e = is 2 p2 e
  at2 a false e = at3 a (is-other 2 e) (kind == 3) refl

  at1 : (b : Bool) → (kind == 1) ≡ b → P kind
  at1 true e = is 1 p1 e
  at1 false e = at2 (is-other 1 e) (kind == 2) refl

module _ (roster : RosterOf) (since : ℕ) (body : List ℕ) where
  pub rules-open_sent : (kind : ℕ) → in_open_sent roster since body (rule_of OPEN_SENT kind) ≡ (if kind == 1 then opened roster since body else (if kind == 3 then notified body else refused))
  rules-open_sent = by_kind (λ kind. in_open_sent roster since body (rule_of OPEN_SENT kind) ≡ (if kind == 1 then opened roster since body else (if kind == 3 then notified body else refused)))
      refl refl refl refl (λ kind a b c d. rw (a.one, a.other, b.other, c.one, c.other, d.other) refl)

module _ (peering : Peering) (body : List ℕ) where
  pub rules-open_confirm : (kind : ℕ) → in_open_confirm peering body (rule_of OPEN_CONFIRM kind) ≡ (if kind == 4 then step (Established peering) (telling (Up ∷ [])) else (if kind == 3 then notified body else refused))
  rules-open_confirm = by_kind (λ kind. in_open_confirm peering body (rule_of OPEN_CONFIRM kind) ≡ (if kind == 4 then step (Established peering) (telling (Up ∷ [])) else (if kind == 3 then notified body else refused)))
      refl refl refl refl (λ kind a b c d. rw (a.other, b.other, c.one, c.other, d.one, d.other) refl)

  pub rules-established : (roster : RosterOf) (kind : ℕ)
      → in_established roster peering body (rule_of ESTABLISHED kind) ≡ (if kind == 2 then updated roster peering body else (if kind == 4 then step (Established peering) nothing else (if kind == 3 then notified body else refused)))
  rules-established roster = by_kind (λ kind. in_established roster peering body (rule_of ESTABLISHED kind) ≡ (if kind == 2 then updated roster peering body else (if kind == 4 then step (Established peering) nothing else (if kind == 3 then notified body else refused))))
      refl refl refl refl (λ kind a b c d. rw (a.other, b.one, b.other, c.one, c.other, d.one, d.other) refl)

-- which types have a rule
pub taken-open_sent : (kind : ℕ) → rule_of OPEN_SENT kind ≡ Take → kind ≡ 1
taken-open_sent = by_kind (λ kind. rule_of OPEN_SENT kind ≡ Take → kind ≡ 1) (λ e. refl) (λ e. absurd (cc)) (λ e. absurd (cc)) (λ e. absurd (cc))
    (λ kind a b c d. rw (a.other, b.other, c.other, d.other) (λ e. absurd (cc)))

pub obeyed-open_sent : (kind : ℕ) → rule_of OPEN_SENT kind ≡ Obey → kind ≡ 3
obeyed-open_sent = by_kind (λ kind. rule_of OPEN_SENT kind ≡ Obey → kind ≡ 3) (λ e. absurd (cc)) (λ e. absurd (cc)) (λ e. refl) (λ e. absurd (cc))
    (λ kind a b c d. rw (a.other, b.other, c.other, d.other) (λ e. absurd (cc)))

pub obeyed-open_confirm : (kind : ℕ) → rule_of OPEN_CONFIRM kind ≡ Obey → kind ≡ 3
obeyed-open_confirm = by_kind (λ kind. rule_of OPEN_CONFIRM kind ≡ Obey → kind ≡ 3) (λ e. absurd (cc)) (λ e. absurd (cc)) (λ e. refl) (λ e. absurd (cc))
    (λ kind a b c d. rw (a.other, b.other, c.other, d.other) (λ e. absurd (cc)))

pub obeyed-established : (kind : ℕ) → rule_of ESTABLISHED kind ≡ Obey → kind ≡ 3
obeyed-established = by_kind (λ kind. rule_of ESTABLISHED kind ≡ Obey → kind ≡ 3) (λ e. absurd (cc)) (λ e. absurd (cc)) (λ e. refl) (λ e. absurd (cc))
    (λ kind a b c d. rw (a.other, b.other, c.other, d.other) (λ e. absurd (cc)))
