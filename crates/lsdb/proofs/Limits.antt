-- How many routers the edges name, and what they cost.
use Rattle.std.proofs.Common.{◌≡◌, ℕ, ◌+◌, ◌≤◌, true, ◌⊎◌, List, [], ◌∷◌, ◌++◌, length, filter, All, Contains, Option, Some, None, is_some, inl, inr, refl, subst, arith}
use Rattle.std.proofs.lemmas.Bool.{false≢true}
use Rattle.std.proofs.lemmas.List.Sorted.{Contains-permutation, IsPermutation-sym}
use Rattle.std.specs.List.Sorted.{IsPermutation}
use Rattle.std.specs.Map.{keys_of}
use Rattle.std.proofs.Math.ListN.{length-append}
use Rattle.std.proofs.lemmas.List.Elements.{All-contains, Contains-append_left, Contains-append_right, Contains-append_cases}
use Rattle.std.proofs.lemmas.Map.Entries.{length-keys_of}
use Rattle.rcp_base.specs.Maps.{get_at}
use Rattle.rcp_base.specs.declared.names.Edge.{Edge}
use Rattle.rcp_model.specs.LinkState.{Kept, same_number}
use Rattle.rcp_model.specs.Graphs.{routers_in}
use Rattle.rcp_model.proofs.GraphLemmas.{All-from_members, routers_at, routers_within}
use Rattle.rcp_model.proofs.MemberLemmas.{Contains-cases, Contains-none, member_of_filter}
use Rattle.lsdb.specs.Databases.{IsKept}
use Rattle.lsdb.specs.Links.{links_in, is_two_way, IsCheap, AreEdges}
use Rattle.lsdb.proofs.MapOrder.{get_key}
use Rattle.lsdb.proofs.LeastLinks.{metric_of}
use Rattle.lsdb.proofs.Learned.{metric, told-found}

pub cheap-append : (edges : List Edge) (edge : Edge) → All IsCheap edges → IsCheap edge → All IsCheap (edges ++ edge ∷ [])
cheap-append edges edge all cheap = All-from_members IsCheap (edges ++ edge ∷ []) (λ other member. elim (Contains-append_cases edges (edge ∷ []) other member) [
  | inl before ↦ All-contains IsCheap edges other all before
  | inr last ↦ elim (Contains-cases edge [] other last) [ inl same ↦ subst IsCheap same cheap | inr none ↦ absurd (Contains-none other none) ]
])

pub cheap-permutation : (xs ys : List Edge) → IsPermutation xs ys → All IsCheap xs → All IsCheap ys
cheap-permutation xs ys permutation all = All-from_members IsCheap ys (λ edge member. All-contains IsCheap xs edge all (Contains-permutation ys xs edge (IsPermutation-sym xs ys permutation) member))

-- the router of a metric has an instance
has_instance : (routers : List (ℕ × Kept)) (from to cost : ℕ) → metric routers from to ≡ Some cost → Contains (keys_of routers) from
has_instance routers from to cost there = by_found (get_at same_number from routers) refl there where
  by_found : (found : Option Kept) → get_at same_number from routers ≡ found → metric_of from to found ≡ Some cost → Contains (keys_of routers) from
  by_found None is there = absurd cc
  by_found (Some kept) is there = get_key from kept routers is

has_instance_back : (routers : List (ℕ × Kept)) (from to : ℕ) → is_some (metric routers from to) ≡ true → Contains (keys_of routers) from
has_instance_back routers from to back = by_metric (metric routers from to) refl back where
  by_metric : (found : Option ℕ) → metric routers from to ≡ found → is_some found ≡ true → Contains (keys_of routers) from
  by_metric None is back = absurd (false≢true back)
  by_metric (Some cost) is back = has_instance routers from to cost is

module _ (routers : List (ℕ × Kept)) (links fixed found : List Edge) (edges : AreEdges links fixed found) where
  pub few-routers : IsKept routers → IsPermutation (links_in routers) links → length (routers_in found) ≤ 2048 + length (routers_in fixed)
  few-routers kept collected =
      let within = routers_within found (keys_of routers ++ routers_in fixed) (λ edge member. named edge (Contains-append_cases (filter (is_two_way links) links) fixed edge ((edges.members edge).0 member))) in
      omega (arith, within, length-append (keys_of routers) (routers_in fixed), length-keys_of routers, kept.few) where
        named : (edge : Edge) → Contains (filter (is_two_way links) links) edge ⊎ Contains fixed edge → Contains (keys_of routers ++ routers_in fixed) edge.from × Contains (keys_of routers ++ routers_in fixed) edge.to
        named edge (inl listed) =
            let told = told-found routers links kept collected edge listed in (
              Contains-append_left (keys_of routers) (routers_in fixed) edge.from (has_instance routers edge.from edge.to edge.cost told.there),
              Contains-append_left (keys_of routers) (routers_in fixed) edge.to (has_instance_back routers edge.to edge.from told.back),
            )
        named edge (inr more) =
            let ends = routers_at fixed edge more in (
              Contains-append_right (keys_of routers) (routers_in fixed) edge.from ends.0,
              Contains-append_right (keys_of routers) (routers_in fixed) edge.to ends.1,
            )

  pub cheap-edges : All IsCheap links → All IsCheap fixed → All IsCheap found
  cheap-edges low fixed_low = All-from_members IsCheap found (λ edge member. elim (Contains-append_cases (filter (is_two_way links) links) fixed edge ((edges.members edge).0 member)) [
    | inl listed ↦ All-contains IsCheap links edge low (member_of_filter (is_two_way links) links edge listed).0
    | inr more ↦ All-contains IsCheap fixed edge fixed_low more
  ])
