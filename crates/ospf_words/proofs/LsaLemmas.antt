-- Reading LSAs one after another, as a loop does.
use Rattle.std.proofs.Common.{◌≡◌, ℕ, zero, suc, ◌+◌, ◌-◌, ◌<◌, true, false, List, Result, Ok, refl, sym, ap, ◌∙◌, arith}
use Rattle.line_words.specs.declared.stop.WordFault.{WordFault}
use Rattle.line_words.specs.declared.stop.Why.TheVariants as why
use Rattle.line_words.specs.declared.stop.Stop.{Stop}
use Rattle.line_words.specs.declared.stop.Stop.TheVariants as stop
use Rattle.line_words.specs.Reading.{Fails, faulty}
use Rattle.ospf_words.specs.Lsas.{begins_lsa, lsa, lsas_within}

abbrev Lsas : Type 0
Lsas = Result ((List ℕ × ℕ) × List (List ℕ)) WordFault

pub no_lsa : (n count : ℕ) (out : List ℕ) (ws : List (List ℕ)) (total : Lsas) → 0 < n → begins_lsa ws ≡ false → lsas_within n count out ws ≡ total → total ≡ Ok ((out, count), ws)
unfolding lsas_within
no_lsa zero count out ws total some e so_far = absurd (omega arith)
no_lsa (suc n) count out ws total some e so_far = sym so_far ∙ rw e refl

pub lsa_fails : (e : Stop) (n count : ℕ) (out : List ℕ) (ws : List (List ℕ)) (total : Lsas) → 0 < n → begins_lsa ws ≡ true → Fails e (lsa out ws) → lsas_within n count out ws ≡ total → Fails e total
unfolding lsas_within
lsa_fails stop.NoMemory n count out ws total some b h so_far = tt
lsa_fails (stop.Fault f) zero count out ws total some b h so_far = absurd (omega arith)
lsa_fails (stop.Fault f) (suc n) count out ws total some b h so_far = sym so_far ∙ rw (b, h) refl

pub next_lsa : (n count : ℕ) (out o : List ℕ) (ws rest : List (List ℕ)) (total : Lsas) → 0 < n → begins_lsa ws ≡ true → lsa out ws ≡ Ok (o, rest) → lsas_within n count out ws ≡ total → lsas_within (n - 1) (count + 1) o rest ≡ total
unfolding lsas_within
next_lsa zero count out o ws rest total some b h so_far = absurd (omega arith)
next_lsa (suc n) count out o ws rest total some b h so_far =
    let one : lsas_within (suc n) count out ws ≡ lsas_within n (count + 1) o rest = rw (b, h) refl in
    let less : suc n - 1 ≡ n = omega arith in
    ap (λ (m : ℕ). lsas_within m (count + 1) o rest) less ∙ sym one ∙ so_far

pub too_many : (n count : ℕ) (out : List ℕ) (ws : List (List ℕ)) (total : Lsas) → n ≡ 0 → lsas_within n count out ws ≡ total → total ≡ faulty ws why.Long
unfolding lsas_within
too_many zero count out ws total none so_far = sym so_far
too_many (suc n) count out ws total none so_far = absurd (omega arith)
