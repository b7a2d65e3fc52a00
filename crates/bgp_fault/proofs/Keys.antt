-- A fault is among the rows exactly where the table has a row of the number that its code and subcode are.
use Rattle.std.proofs.Common.{◌≡◌, ℕ, zero, suc, ◌+◌, ◌*◌, ◌<◌, Bool, true, false, ◌&&◌, eqb, ltb, List, [], ◌∷◌, ◌⊎◌, refl, sym, ap, ◌∙◌, inl, inr, arith}
use Rattle.std.specs.Prelude.{Contains, is_some}
use Rattle.std.proofs.lemmas.Bool.{and_parts, cases_Bool, eqb-true, ltb-true}
use Rattle.std.proofs.lemmas.Bool.Decides.{nat_tests}
use Rattle.case_table.specs.declared.Row.{Row}
use Rattle.case_table.specs.Rows.{row_of}

-- the two octets of a code and a subcode, as a number
abbrev pub key : ℕ × ℕ → ℕ
key p = p.0 * 256 + p.1

-- whether these are the codes of these rows, in order
abbrev pub are_keys : List (ℕ × ℕ) → List Row → Bool
are_keys [] [] = true
are_keys (p ∷ ps) (row ∷ rows) = eqb row.code (key p) && (ltb p.1 256 && are_keys ps rows)
are_keys _ _ = false

-- what the test says of the first row
record First (p : ℕ × ℕ) (ps : List (ℕ × ℕ)) (row : Row) (rows : List Row) : Type 0 where
  code : row.code ≡ key p
  octet : p.1 < 256
  others : are_keys ps rows ≡ true

first_of : (p : ℕ × ℕ) (ps : List (ℕ × ℕ)) (row : Row) (rows : List Row) → are_keys (p ∷ ps) (row ∷ rows) ≡ true → First p ps row rows
first_of p ps row rows h =
    let code = and_parts (eqb row.code (key p)) _ h in
    let octet = and_parts (ltb p.1 256) _ code.1 in
    record { code = eqb-true _ _ code.0; octet = ltb-true _ _ octet.0; others = octet.1 }

-- two pairs of octets have one number only where they are the same
same_pair : (p q : ℕ × ℕ) → p.1 < 256 → q.1 < 256 → key p ≡ key q → p ≡ q
same_pair p q small small' same =
    let high : p.0 ≡ q.0 = omega arith in
    let low : p.1 ≡ q.1 = omega arith in
    ap (λ (n : ℕ). (n, p.1)) high ∙ ap (λ (n : ℕ). (q.0, n)) low

-- a pair of a list with one more in front is that one, or of the list
in_front : (p : ℕ × ℕ) (ps : List (ℕ × ℕ)) (q : ℕ × ℕ) → Contains (p ∷ ps) q → (p ≡ q) ⊎ Contains ps q
in_front p ps q (zero, lt, same) = inl same
in_front p ps q (suc k, lt, same) = inr (k, omega arith, same)

pub found : (ps : List (ℕ × ℕ)) (rows : List Row) → are_keys ps rows ≡ true → (q : ℕ × ℕ) → Contains ps q → is_some (row_of rows (key q)) ≡ true
found [] rows h q at = absurd (omega (arith, at.1))
found (p ∷ ps) [] h q at = absurd cc
found (p ∷ ps) (row ∷ rows) h q at =
    let one = first_of p ps row rows h in
    elim (cases_Bool (eqb row.code (key q))) [
      | inl same ↦ rw same refl
      | inr other ↦
          elim (in_front p ps q at) [
            | inl is_first ↦
                let same : row.code ≡ key q = one.code ∙ ap key is_first in
                let yes : eqb row.code (key q) ≡ true = grind (arith, nat_tests) in
                absurd cc
            | inr rest ↦ rw other (found ps rows one.others q rest)
          ]
    ]

pub contained : (ps : List (ℕ × ℕ)) (rows : List Row) → are_keys ps rows ≡ true → (q : ℕ × ℕ) → q.1 < 256 → is_some (row_of rows (key q)) ≡ true → Contains ps q
contained [] [] h q small some = absurd cc
contained [] (row ∷ rows) h q small some = absurd cc
contained (p ∷ ps) [] h q small some = absurd cc
contained (p ∷ ps) (row ∷ rows) h q small some =
    let one = first_of p ps row rows h in
    elim (cases_Bool (eqb row.code (key q))) [
      | inl same ↦ (0, omega arith, same_pair p q one.octet small (sym one.code ∙ eqb-true _ _ same))
      | inr other ↦
          let rest = contained ps rows one.others q small (rw other at some) in
          (suc rest.0, omega (arith, rest.1), rest.2)
    ]
