-- The lines of a report, one by one.
use Rattle.std.proofs.Common.{◌≡◌, ℕ, zero, suc, ◌+◌, ◌<◌, false, true, List, [], ◌∷◌, ◌++◌, length, take, drop, get_or, Some, slice_get, refl, sym, ap, ◌∙◌, arith, append_assoc, append-nil}
use Rattle.std.specs.Prelude.{◌==◌}
use Rattle.std.specs.List.{flat_map}
use Rattle.std.proofs.lemmas.Bool.{eq-eqb, ne_eqb}
use Rattle.std.proofs.lemmas.List.{take_more}
use Rattle.std.proofs.lemmas.Grind.{flat_map-append}
use Rattle.rcp_base.specs.Text.{address_text}
use Rattle.rcp_base.specs.declared.names.Member.{Member}
use Rattle.session_serve.specs.declared.ends.SessionEnd.{SessionEnd}
use Rattle.session_report.specs.Reports.{end_line, place_of, line_at, lines_at, lines_from, report_of}

-- ---- the ends at one place

next_line : (routers place : ℕ) (router : List ℕ) (ends : List SessionEnd) (i : ℕ) (end : SessionEnd) → end ≡ get_or ends i end → i < length ends
    → lines_at routers place router (take (i + 1) ends) ≡ lines_at routers place router (take i ends) ++ line_at routers place router end
next_line routers place router ends i end is within =
    let line = line_at routers place router in
    ap (flat_map line) (take_more ends i end within)
    ∙ flat_map-append line (take i ends) (get_or ends i end ∷ [])
    ∙ ap (λ (l : List ℕ). flat_map line (take i ends) ++ l) (append-nil (line (get_or ends i end)) ∙ ap line (sym is))

pub line_here : (routers place : ℕ) (router : List ℕ) (ends : List SessionEnd) (i : ℕ) (end : SessionEnd) (first before after : List ℕ) → end ≡ get_or ends i end → i < length ends
    → before ≡ first ++ lines_at routers place router (take i ends) → after ≡ before ++ end_line router end → place_of routers end.slot ≡ place
    → after ≡ first ++ lines_at routers place router (take (i + 1) ends)
line_here routers place router ends i end first before after is within so_far put here =
    let test : (place_of routers end.slot == place) ≡ true = eq-eqb _ _ here in
    let line : line_at routers place router end ≡ end_line router end = rw test refl in
    put ∙ (λ j. so_far j ++ (sym line) j)
    ∙ append_assoc first (lines_at routers place router (take i ends)) (line_at routers place router end)
    ∙ ap (λ (l : List ℕ). first ++ l) (sym (next_line routers place router ends i end is within))

pub no_line_here : (routers place : ℕ) (router : List ℕ) (ends : List SessionEnd) (i : ℕ) (end : SessionEnd) (first before : List ℕ) → end ≡ get_or ends i end → i < length ends
    → before ≡ first ++ lines_at routers place router (take i ends) → (place_of routers end.slot ≡ place → ⊥)
    → before ≡ first ++ lines_at routers place router (take (i + 1) ends)
no_line_here routers place router ends i end first before is within so_far other =
    let test : (place_of routers end.slot == place) ≡ false = ne_eqb _ _ other in
    let line : line_at routers place router end ≡ [] = rw test refl in
    so_far ∙ ap (λ (l : List ℕ). first ++ l) (sym (next_line routers place router ends i end is within
    ∙ ap (λ (l : List ℕ). lines_at routers place router (take i ends) ++ l) line ∙ append-nil (lines_at routers place router (take i ends))))

-- ---- the places

pub member_at : (members : List Member) (n : ℕ) (member : Member) → slice_get members n ≡ Some member → drop n members ≡ member ∷ drop (suc n) members
member_at [] n member is = absurd cc
member_at (first ∷ members) zero member is = let same : first ≡ member = cc in ap (λ (m : Member). m ∷ members) same
member_at (first ∷ members) (suc n) member is = member_at members n member is

pub next_place : (members : List Member) (ends : List SessionEnd) (n : ℕ) (member : Member) (text more : List ℕ) → slice_get members n ≡ Some member
    → text ++ lines_from (length members) n (drop n members) ends ≡ report_of members ends
    → more ≡ text ++ lines_at (length members) n (address_text member.router) ends
    → more ++ lines_from (length members) (n + 1) (drop (n + 1) members) ends ≡ report_of members ends
next_place members ends n member text more at so_far put =
    let next : n + 1 ≡ suc n = omega arith in
    let one = lines_at (length members) n (address_text member.router) ends in
    let rest = lines_from (length members) (suc n) (drop (suc n) members) ends in
    ap (λ (k : ℕ). more ++ lines_from (length members) k (drop k members) ends) next
    ∙ ap (λ (l : List ℕ). l ++ rest) put ∙ append_assoc text one rest
    ∙ ap (λ (l : List Member). text ++ lines_from (length members) n l ends) (sym (member_at members n member at))
    ∙ so_far
