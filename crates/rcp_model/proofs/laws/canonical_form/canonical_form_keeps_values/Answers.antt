use Rattle.std.proofs.Common.{◌≡◌, List, ℕ, Option, Some, None, unwrap_or, refl, sym, ◌∙◌, ne_eqb}
use Rattle.rcp_model.specs.Attributes.{default_pref, LOCAL_PREF, value_of}
use Rattle.rcp_model.proofs.CanonicalLemmas.{canonical-rising, value_of-canonical, pref-canonical, pref_or}
use Rattle.rcp_model.proofs.laws.canonical_form.canonical_form_keeps_values.Goals as goal

as_unwrapped : (o : Option (List ℕ)) → pref_or o ≡ Some (unwrap_or o default_pref.value)
as_unwrapped None = refl
as_unwrapped (Some value) = refl

pub returns : goal.returns
returns c = record {
  rising = canonical-rising;
  values = λ list kind recognised other. value_of-canonical kind list recognised (ne_eqb LOCAL_PREF kind (λ e. other (sym e)));
  preference = λ list. pref-canonical list ∙ as_unwrapped (value_of LOCAL_PREF list);
}
