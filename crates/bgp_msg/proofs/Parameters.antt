-- The parameters of an OPEN, walked from the front.
use Rattle.std.proofs.Common.{◌≡◌, ◌≢◌, ℕ, ◌<◌, ◌≤◌, false, not, eqb, List, [], ◌∷◌, length, take, drop, Option, Some, None, refl, sym, ap, ◌∙◌}
use Rattle.std.specs.Prelude.{slice_index}
use Rattle.std.specs.List.{list_any}
use Rattle.std.proofs.lemmas.Bool.{ne_eqb}
use Rattle.std.proofs.lemmas.List.{get_or-take}
use Rattle.rcp_base.specs.Cut.{cut}
use Rattle.rcp_base.specs.Checks.{first_failing}
use Rattle.rcp_model.specs.Messages.{FaultOf, fault}
use Rattle.rcp_model.specs.Opens.{parameter_size}
use Rattle.rcp_base.proofs.CutLemmas.{cut-front, cut-stop}
use Rattle.bgp_msg.specs.Opened.{parameters_fault}

abbrev fault_of_cut : List (List ℕ) × List ℕ → Option FaultOf
fault_of_cut pieces =
    first_failing ((list_any (λ piece. not (eqb (slice_index piece 0) 2)) pieces.0, fault 2 4 []) ∷ (not (eqb (length pieces.1) 0), fault 2 0 []) ∷ [])

module _ (octets : List ℕ) (n : ℕ) (size : parameter_size octets ≡ Some n) (positive : 0 < n) (within : n ≤ length octets) where
  front : cut parameter_size octets ≡ (take n octets ∷ (cut parameter_size (drop n octets)).0, (cut parameter_size (drop n octets)).1)
  front = cut-front parameter_size n octets size positive within

  kind_of : slice_index (take n octets) 0 ≡ slice_index octets 0
  kind_of = get_or-take n octets 0 0 positive

  -- after capabilities in front comes the fault of what follows them
  pub parameters_fault-front : slice_index octets 0 ≡ 2 → parameters_fault octets ≡ parameters_fault (drop n octets)
  parameters_fault-front capabilities =
      let kind : slice_index (take n octets) 0 ≡ 2 = kind_of ∙ capabilities in
      ap fault_of_cut front ∙ rw kind refl

  -- another parameter is a fault
  pub parameters_fault-unknown : slice_index octets 0 ≢ 2 → parameters_fault octets ≡ Some (fault 2 4 [])
  parameters_fault-unknown other =
      let kind : eqb (slice_index (take n octets) 0) 2 ≡ false = ne_eqb _ _ (λ e. other (sym kind_of ∙ e)) in
      ap fault_of_cut front ∙ rw kind refl

-- one that runs past the end is a fault
pub parameters_fault-partial : (octets : List ℕ) → parameter_size octets ≡ None → eqb (length octets) 0 ≡ false → parameters_fault octets ≡ Some (fault 2 0 [])
parameters_fault-partial octets none more = ap fault_of_cut (cut-stop parameter_size octets none) ∙ rw more refl
