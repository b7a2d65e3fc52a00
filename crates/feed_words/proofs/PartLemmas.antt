-- Reading the parts of a line one after another, as a loop does.
use Rattle.std.proofs.Common.{◌≡◌, ℕ, zero, suc, ◌-◌, ◌<◌, Bool, true, false, cond, List, [], ◌∷◌, Result, Ok, refl, sym, ap, ◌∙◌, arith}
use Rattle.std.specs.Prelude.{bytes_eq, codes}
use Rattle.line_words.specs.declared.stop.WordFault.{WordFault}
use Rattle.line_words.specs.declared.stop.Why.TheVariants as why
use Rattle.line_words.specs.declared.stop.Stop.{Stop}
use Rattle.line_words.specs.declared.stop.Stop.TheVariants as stop
use Rattle.line_words.specs.Reading.{Fails, faulty}
use Rattle.feed_words.specs.Parts.{parts_within}

abbrev Part : Type 0
Part = List ℕ → List (List ℕ) → Result (List ℕ × List (List ℕ)) WordFault

pub part_fails : (e : Stop) (part : Part) (n : ℕ) (out : List ℕ) (ws : List (List ℕ)) (total : Result (List ℕ) WordFault) → 0 < n → Fails e (part out ws) → parts_within part n out ws ≡ total → Fails e total
unfolding parts_within
part_fails stop.NoMemory part n out ws total some h so_far = tt
part_fails (stop.Fault f) part zero out ws total some h so_far = absurd (omega arith)
part_fails (stop.Fault f) part (suc n) out ws total some h so_far = sym so_far ∙ rw h refl

pub last_part : (part : Part) (n : ℕ) (out o : List ℕ) (ws : List (List ℕ)) (total : Result (List ℕ) WordFault) → 0 < n → part out ws ≡ Ok (o, []) → parts_within part n out ws ≡ total → total ≡ Ok o
unfolding parts_within
last_part part zero out o ws total some h so_far = absurd (omega arith)
last_part part (suc n) out o ws total some h so_far = sym so_far ∙ rw h refl

pub next_part : (part : Part) (n : ℕ) (out o : List ℕ) (ws : List (List ℕ)) (w : List ℕ) (rest : List (List ℕ)) (total : Result (List ℕ) WordFault) → 0 < n → part out ws ≡ Ok (o, w ∷ rest) → bytes_eq w (codes ";") ≡ true
    → parts_within part n out ws ≡ total → parts_within part (n - 1) o rest ≡ total
unfolding parts_within
next_part part zero out o ws w rest total some h e so_far = absurd (omega arith)
next_part part (suc n) out o ws w rest total some h e so_far =
    let one : parts_within part (suc n) out ws ≡ parts_within part n o rest = rw h (ap (λ (b : Bool). cond b (parts_within part n o rest) (faulty (w ∷ rest) why.Word)) e) in
    let less : suc n - 1 ≡ n = omega arith in
    ap (λ (m : ℕ). parts_within part m o rest) less ∙ sym one ∙ so_far

pub other_word : (part : Part) (n : ℕ) (out o : List ℕ) (ws : List (List ℕ)) (w : List ℕ) (rest : List (List ℕ)) (total : Result (List ℕ) WordFault) → 0 < n → part out ws ≡ Ok (o, w ∷ rest) → bytes_eq w (codes ";") ≡ false
    → parts_within part n out ws ≡ total → total ≡ faulty (w ∷ rest) why.Word
unfolding parts_within
other_word part zero out o ws w rest total some h e so_far = absurd (omega arith)
other_word part (suc n) out o ws w rest total some h e so_far = sym so_far ∙ rw h (ap (λ (b : Bool). cond b (parts_within part n o rest) (faulty (w ∷ rest) why.Word)) e)

pub too_many : (part : Part) (n : ℕ) (out : List ℕ) (ws : List (List ℕ)) (total : Result (List ℕ) WordFault) → n ≡ 0 → parts_within part n out ws ≡ total → total ≡ faulty ws why.Long
unfolding parts_within
too_many part zero out ws total none so_far = sym so_far
too_many part (suc n) out ws total none so_far = absurd (omega arith)
