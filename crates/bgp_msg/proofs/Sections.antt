-- The sections of an UPDATE, split off one after another.
use Rattle.std.proofs.Common.{◌≡◌, ℕ, true, false, ◌&&◌, List, Some, None, refl, sym, ap, ◌∙◌}
use Rattle.std.proofs.lemmas.Bool.{and_left, and_right}
use Rattle.rcp_model.specs.Updates.{Sections, section, after_section, has_section, sections_of}

none_unless : (body : List ℕ) → (has_section body && has_section (after_section body)) ≡ false → sections_of body ≡ None
unfolding sections_of
none_unless body e = rw e refl

-- the first length passes the body
pub no_first_section : (body : List ℕ) → has_section body ≡ false → sections_of body ≡ None
no_first_section body e = none_unless body (and_left (has_section body) (has_section (after_section body)) e)

-- the second one does
pub no_second_section : (body rest : List ℕ) → rest ≡ after_section body → has_section rest ≡ false → sections_of body ≡ None
no_second_section body rest behind e =
    none_unless body (and_right (has_section body) (has_section (after_section body)) (ap has_section (sym behind) ∙ e))

abbrev sections_from : List ℕ → List ℕ → Sections
sections_from first rest = record { withdrawn = first; attributes = section rest; nlri = after_section rest }

-- neither does
pub both_sections : (body rest withdrawn attrs nlri : List ℕ) → has_section body ≡ true → withdrawn ≡ section body → rest ≡ after_section body
    → has_section rest ≡ true → attrs ≡ section rest → nlri ≡ after_section rest
    → sections_of body ≡ Some (record { withdrawn = withdrawn; attributes = attrs; nlri = nlri })
unfolding sections_of
both_sections body rest withdrawn attrs nlri first is_first behind second is_second is_last =
    let again : has_section (after_section body) ≡ true = ap has_section (sym behind) ∙ second in
    rw (first, again, is_first, is_second, is_last, behind) refl
