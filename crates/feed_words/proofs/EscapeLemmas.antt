-- A text with escapes, octet by octet.
use Rattle.std.proofs.Common.{◌≡◌, ℕ, ◌+◌, ◌<◌, ◌≤◌, List, ◌++◌, length, drop, get_or, Option, Some, None, sym, ap, ◌∙◌, add-one, drop-cons}
use Rattle.std.specs.Prelude.{option_to_list}
use Rattle.std.proofs.lemmas.List.{drop_all}
use Rattle.feed_words.specs.declared.roster_text.Escape.{Escape}
use Rattle.feed_words.specs.Texts.{escape_step, at_end, unescaped_onto}

abbrev goes_on : List ℕ → List ℕ → Option (Escape × Option ℕ) → Option (List ℕ)
goes_on cs out step = elim step [
  | None ↦ None
  | Some next ↦ unescaped_onto cs next.0 (out ++ option_to_list next.1)
]

step_at : (text : List ℕ) (i : ℕ) (state : Escape) (out : List ℕ) → i < length text → unescaped_onto (drop i text) state out ≡ goes_on (drop (i + 1) text) out (escape_step state (get_or text i 0))
unfolding unescaped_onto
step_at text i state out lt =
    ap (λ (cs : List ℕ). unescaped_onto cs state out) (drop-cons text i 0 lt)
    ∙ ap (λ (n : ℕ). goes_on (drop n text) out (escape_step state (get_or text i 0))) (sym (add-one i))

pub step_none : (text : List ℕ) (i : ℕ) (state : Escape) (out : List ℕ) → i < length text → escape_step state (get_or text i 0) ≡ None → unescaped_onto (drop i text) state out ≡ None
step_none text i state out lt e = step_at text i state out lt ∙ ap (goes_on (drop (i + 1) text) out) e

pub step_some : (text : List ℕ) (i : ℕ) (state next : Escape) (octet : Option ℕ) (out : List ℕ) → i < length text → escape_step state (get_or text i 0) ≡ Some (next, octet)
    → unescaped_onto (drop i text) state out ≡ unescaped_onto (drop (i + 1) text) next (out ++ option_to_list octet)
step_some text i state next octet out lt e = step_at text i state out lt ∙ ap (goes_on (drop (i + 1) text) out) e

pub no_more : (text : List ℕ) (i : ℕ) (state : Escape) (out : List ℕ) → length text ≤ i → unescaped_onto (drop i text) state out ≡ at_end state out
unfolding unescaped_onto
no_more text i state out le = ap (λ (cs : List ℕ). unescaped_onto cs state out) (drop_all i text le)
