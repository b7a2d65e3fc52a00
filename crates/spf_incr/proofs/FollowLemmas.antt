-- Rows brought over a graph one after another, and the pairs whose cost changed.
use Rattle.std.proofs.Common.{◌≡◌, ℕ, ◌+◌, ◌<◌, ◌≤◌, List, [], ◌++◌, length, set, Contains, Option, Some, refl, sym, ap, subst, ◌∙◌, inl, inr, arith, length-set}
use Rattle.std.specs.List.Sorted.{IsStrictlyIncreasing}
use Rattle.std.proofs.lemmas.List.Kept.{AllPairs-from_increasing}
use Rattle.rcp_base.specs.declared.names.Member.{Member}
use Rattle.rcp_model.proofs.MemberLemmas.{Contains-none}
use Rattle.rcp_base.specs.declared.names.Edge.{Edge}
use Rattle.rcp_model.specs.RouteServer.{router_at}
use Rattle.cost_rows.specs.Engines.{AreChanges}
use Rattle.cost_rows.specs.Search.{IsFound}
use Rattle.spf_incr.specs.Changes.{changed_pairs}
use Rattle.spf_incr.specs.Tables.{row_at, costs_by, AreRows}
use Rattle.spf_incr.proofs.PairLemmas.{row-set, row-set_here, changes_step}
use Rattle.spf_incr.proofs.TableLemmas.{slot_within, same_router, last_cases}

-- the rows of the first members are over the graph, and the others as they were
pub record Following (after : List Edge) (names : List ℕ) (members : List Member) (start rows : List (List (Option ℕ))) (pairs : List (ℕ × ℕ)) (n : ℕ) : Type 0 where
  pub count : length rows ≡ length members
  pub done : (slot root : ℕ) → slot < n → router_at members slot ≡ Some root → IsFound after names root (row_at rows slot)
  pub rest : (slot : ℕ) → n ≤ slot → row_at rows slot ≡ row_at start slot
  pub changes : AreChanges (costs_by names start) (costs_by names rows) pairs

pub following_starts : (after : List Edge) (names : List ℕ) (members : List Member) (start : List (List (Option ℕ))) → length start ≡ length members → Following after names members start start [] 0
following_starts after names members start count = record {
  count = count;
  done = λ slot root less seat. absurd (omega arith);
  rest = λ slot at_least. refl;
  changes = record {
    rising = λ i j d less within. absurd (omega arith);
    exact = λ slot router. (λ member. absurd (Contains-none (slot, router) member), λ differs. absurd (differs refl));
  };
}

pub following_step : (after : List Edge) (names : List ℕ) (members : List Member) (start rows : List (List (Option ℕ))) (pairs : List (ℕ × ℕ)) (n root : ℕ) (new : List (Option ℕ)) → IsStrictlyIncreasing names → n < length members → router_at members n ≡ Some root
    → length (row_at rows n) ≡ length names → IsFound after names root new → Following after names members start rows pairs n
    → Following after names members start (set rows n new) (pairs ++ changed_pairs n names (row_at rows n) new) (n + 1)
following_step after names members start rows pairs n root new rising less seat same found following = record {
  count = length-set rows n new ∙ following.count;
  done = λ slot other before seat'. elim (last_cases slot n before) [
    | inl earlier ↦ rw (row-set rows n slot new (λ is. let h : slot < n = earlier in omega arith)) (following.done slot other earlier seat')
    | inr last ↦
        let here : row_at (set rows n new) slot ≡ new = subst (λ k. row_at (set rows n new) k ≡ new) (sym last) (row-set_here rows n new within) in
        let is : root ≡ other = same_router (router_at members n) root other seat (subst (λ k. router_at members k ≡ Some other) last seat') in
        rw here (subst (λ r. IsFound after names r new) is found)
  ];
  rest = λ slot at_least. row-set rows n slot new (λ is. let h : n + 1 ≤ slot = at_least in omega arith) ∙ following.rest slot (omega arith);
  changes = changes_step names start rows pairs n new rising (AllPairs-from_increasing names rising) following.rest within same found.places following.changes;
} where
  within : n < length rows
  within = let count = following.count in omega arith

pub following_ends : (after : List Edge) (names : List ℕ) (members : List Member) (start rows : List (List (Option ℕ))) (pairs : List (ℕ × ℕ)) (n : ℕ) → length members ≤ n → ((slot root : ℕ) → router_at members slot ≡ Some root → Contains names root)
    → Following after names members start rows pairs n → AreRows after names members rows
following_ends after names members start rows pairs n at_least named following = record {
  count = following.count;
  named = named;
  exact = λ slot root seat. following.done slot root (let h = slot_within members slot root seat in omega arith) seat;
}

pub following_next : (after : List Edge) (names : List ℕ) (members : List Member) (start rows next : List (List (Option ℕ))) (pairs more : List (ℕ × ℕ)) (n root : ℕ) (old new : List (Option ℕ)) → IsStrictlyIncreasing names → n < length members → router_at members n ≡ Some root
    → row_at rows n ≡ old → length old ≡ length names → IsFound after names root new → next ≡ set rows n new → more ≡ pairs ++ changed_pairs n names old new → Following after names members start rows pairs n
    → Following after names members start next more (n + 1)
following_next after names members start rows next pairs more n root old new rising less seat here same found is is' following =
    let step = following_step after names members start rows pairs n root new rising less seat (ap length here ∙ same) found following in
    subst (λ next. Following after names members start next more (n + 1)) (sym is)
    (subst (λ more. Following after names members start (set rows n new) more (n + 1)) (sym (is' ∙ ap (λ row. pairs ++ changed_pairs n names row new) (sym here))) step)
