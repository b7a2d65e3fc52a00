-- Candidates one member after another.
use Rattle.std.proofs.Common.{◌≡◌, ℕ, zero, suc, ◌+◌, ◌<◌, ◌≤◌, List, [], ◌∷◌, ◌++◌, length, get_or, drop, Option, Some, None, slice_get, option_map, refl, sym, ap, ◌∙◌, arith, add-one, append_assoc, append-nil}
use Rattle.std.proofs.Math.Seq.{drop-cons}
use Rattle.std.proofs.Math.ListN.{drop_of_length-le}
use Rattle.rcp_base.specs.declared.names.Member.{Member}
use Rattle.rcp_model.specs.Decision.{Contender}
use Rattle.rcp_model.specs.RouteServer.{Domain, Announced, announcement_contender, cons_some, candidates_from}

abbrev pub domain_of : ℕ → List Member → Domain
domain_of as_number members = record { as_number = as_number; members = members }

-- a member at each place below the number of them
pub member_at : (members : List Member) (place : ℕ) → place < length members → (m : Member) × (slice_get members place ≡ Some m) × (m ≡ get_or members place m)
member_at [] place within = absurd (omega arith)
member_at (m ∷ members) zero within = (m, refl, refl)
member_at (m ∷ members) (suc place) within = member_at members place (omega arith)

module _ (domain : Domain) (announced : Announced) (cost_to : ℕ → Option ℕ) (members : List Member) (place : ℕ) (within : place < length members)
    (found : Option Contender) (is : (id : ℕ) → option_map (λ (m : Member). m.bgp_id) (slice_get members place) ≡ Some id → found ≡ announcement_contender domain place id (announced place) (cost_to place)) where
  rest : candidates_from domain announced cost_to place (drop place members) ≡ cons_some found (candidates_from domain announced cost_to (suc place) (drop (suc place) members))
  rest =
      let at = member_at members place within in
      ap (candidates_from domain announced cost_to place) (drop-cons members place at.0 within)
      ∙ ap (λ (x : Member). cons_some (announcement_contender domain place x.bgp_id (announced place) (cost_to place)) (candidates_from domain announced cost_to (suc place) (drop (suc place) members))) (sym at.2)
      ∙ ap (λ (o : Option Contender). cons_some o (candidates_from domain announced cost_to (suc place) (drop (suc place) members))) (sym (is at.0.bgp_id (ap (option_map (λ (m : Member). m.bgp_id)) at.1)))

  pub passed_none : (list all : List Contender) → found ≡ None → list ++ candidates_from domain announced cost_to place (drop place members) ≡ all
      → list ++ candidates_from domain announced cost_to (place + 1) (drop (place + 1) members) ≡ all
  passed_none list all none before =
      rw add-one (ap (λ (l : List Contender). list ++ l) (sym (rest ∙ ap (λ (o : Option Contender). cons_some o (candidates_from domain announced cost_to (suc place) (drop (suc place) members))) none)) ∙ before)

  pub passed_some : (list next all : List Contender) (c : Contender) → found ≡ Some c → next ≡ list ++ c ∷ [] → list ++ candidates_from domain announced cost_to place (drop place members) ≡ all
      → next ++ candidates_from domain announced cost_to (place + 1) (drop (place + 1) members) ≡ all
  passed_some list next all c some next_is before =
      rw (next_is, add-one) (append_assoc list (c ∷ []) (candidates_from domain announced cost_to (suc place) (drop (suc place) members))
      ∙ ap (λ (l : List Contender). list ++ l) (sym (rest ∙ ap (λ (o : Option Contender). cons_some o (candidates_from domain announced cost_to (suc place) (drop (suc place) members))) some)) ∙ before)

pub passed_all : (domain : Domain) (announced : Announced) (cost_to : ℕ → Option ℕ) (members : List Member) (place : ℕ) (list all : List Contender) → length members ≤ place
    → list ++ candidates_from domain announced cost_to place (drop place members) ≡ all → list ≡ all
passed_all domain announced cost_to members place list all done before =
    let none : drop place members ≡ [] = drop_of_length-le members done in
    sym (append-nil list) ∙ rw none at before
