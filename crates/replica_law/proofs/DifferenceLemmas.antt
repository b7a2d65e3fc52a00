-- The first difference, kind by kind, and the answers.
use Rattle.std.proofs.Common.{◌≡◌, ◌≢◌, ℕ, zero, suc, ◌+◌, ◌<◌, ◌≤◌, Bool, true, false, cond, ◌&&◌, ◌||◌, ◌==◌, nat_lt, ◌⊎◌, ◌↔◌, List, [], ◌∷◌, ◌++◌, length, get_or, map, take, Contains, AllPairs, Option, Some, None, IsSome, IsNone, IfSome, MatchOption, option_and_then, refl, sym, ap, subst, ◌∙◌, inl, inr, arith, eqb, eq-eqb, eqb-true}
use Rattle.std.specs.List.Sorted.{IsStrictlyIncreasing}
use Rattle.std.proofs.lemmas.Bool.{false≢true, cases_Bool, ltb-true, eqb-false}
use Rattle.std.proofs.lemmas.Bool.Decides.{nat_tests}
use Rattle.std.proofs.lemmas.Option.{same_Some, none-some}
use Rattle.std.proofs.lemmas.List.Kept.{AllPairs-from_increasing}
use Rattle.rcp_base.specs.IpPrefix.{IpPrefix}
use Rattle.rcp_base.specs.Maps.{is_before}
use Rattle.rcp_base.specs.declared.names.Edge.{Edge}
use Rattle.rcp_base.specs.declared.names.Member.{Member}
use Rattle.rcp_model.specs.Costs.{IsTwoWay, edge_cost, is_reached}
use Rattle.rcp_model.proofs.MemberLemmas.{Contains-none}
use Rattle.rcp_model.proofs.WalkLemmas.{Walk-edge}
use Rattle.cost_rows.proofs.EndLemmas.{map_member, member_of_map}
use Rattle.replica_law.specs.declared.difference.Difference.{Difference}
use Rattle.replica_law.specs.declared.difference.Difference.TheVariants.{As, Member as MemberOf, Identity, LinkCost, RouteOf}
use Rattle.replica_law.specs.declared.difference.PartitionAnswer.{PartitionAnswer}
use Rattle.replica_law.specs.Replicas.{Replica, slot_of, identifier_of, route_from, is_with, IsAlike, IsAssigned, IsDifference, comes_before, IsFirstDifference, HaveEqualTables, IsLeastOfPartition, IsAnswer, AreAnswers}
use Rattle.replica_law.specs.Steps.{IsLeastIn, ArePartition, IsFirstApart, IsMemberDifference, IsIdentityDifference, IsLinkDifference, IsNetworkDifference, IsRouteDifference, HaveSameIdentifiers, HaveSameLinks, AreLeastOfRoster}
use Rattle.replica_law.proofs.CostLemmas.{IsLink, edge_cost_there, reached_on, link_walk}
use Rattle.replica_law.proofs.PartitionLemmas.{reached-self, reached-back, least-shift, least-itself}
use Rattle.replica_law.proofs.LawLemmas.{replica_law}
use Rattle.replica_law.proofs.PrefixLemmas.{two_keys}
use Rattle.replica_law.proofs.RankLemmas.{more_cases}

-- ---- where no difference of a kind stands

no_as : (first second : Replica) (l a b : ℕ) → first.domain.as_number ≡ second.domain.as_number → IsDifference first second l (As a b) → ⊥
no_as first second l a b same stands = stands.2 (sym stands.0 ∙ same ∙ stands.1)

no_member : (first second : Replica) (l u : ℕ) (a b : Bool) → is_with first l u ≡ is_with second l u → IsDifference first second l (MemberOf u a b) → ⊥
no_member first second l u a b same stands = stands.2 (sym stands.0 ∙ same ∙ stands.1)

no_identity : (first second : Replica) (l u : ℕ) (a b : Option ℕ) → identifier_of first.domain.members u ≡ identifier_of second.domain.members u → IsDifference first second l (Identity u a b) → ⊥
no_identity first second l u a b same stands = stands.3 (sym stands.1 ∙ same ∙ stands.2)

no_link : (first second : Replica) (l u v : ℕ) (a b : Option ℕ) → edge_cost first.edges u v ≡ edge_cost second.edges u v → IsDifference first second l (LinkCost u v a b) → ⊥
no_link first second l u v a b same stands = stands.4 (sym stands.2 ∙ same ∙ stands.3)

no_route : (first second : Replica) (l u : ℕ) (p : IpPrefix) (a b : Option (List ℕ)) → route_from first u p ≡ route_from second u p → IsDifference first second l (RouteOf u p a b) → ⊥
no_route first second l u p a b same stands = stands.3 (sym stands.1 ∙ same ∙ stands.2)

-- where a partition is alike, there is no difference
pub alike_has_none : (first second : Replica) (l : ℕ) → IsAlike first second l → (d : Difference) → IsDifference first second l d → ⊥
alike_has_none first second l alike (As a b) stands = no_as first second l a b alike.as_number stands
alike_has_none first second l alike (MemberOf u a b) stands = no_member first second l u a b (alike.partition u) stands
alike_has_none first second l alike (Identity u a b) stands = no_identity first second l u a b (alike.identities u stands.0) stands
alike_has_none first second l alike (LinkCost u v a b) stands = no_link first second l u v a b (alike.links u v stands.0 stands.1) stands
alike_has_none first second l alike (RouteOf u p a b) stands = no_route first second l u p a b (alike.routes u p stands.0) stands

-- ---- the order

not_before : (t : Bool) → (t ≡ true → ⊥) → t ≡ false
not_before true none = absurd (none refl)
not_before false none = refl

below : (w u : ℕ) → nat_lt w u ≡ true → w < u
below w u test = ltb-true w u test

-- ---- the first difference of each kind

pub as_first : (first second : Replica) (l : ℕ) → first.domain.as_number ≢ second.domain.as_number → IsFirstDifference first second l (As first.domain.as_number second.domain.as_number)
as_first first second l apart = record {
  stands = (refl, refl, apart);
  none_before = λ other stands. none other;
} where
  none : (other : Difference) → comes_before other (As first.domain.as_number second.domain.as_number) ≡ false
  none (As a b) = refl
  none (MemberOf u a b) = refl
  none (Identity u a b) = refl
  none (LinkCost u v a b) = refl
  none (RouteOf u p a b) = refl

pub member_first : (first second : Replica) (l : ℕ) (d : Difference) → first.domain.as_number ≡ second.domain.as_number → IsMemberDifference first.edges second.edges l d → IsFirstDifference first second l d
member_first first second l d same_as is = subst (IsFirstDifference first second l) (sym is.1) record {
  stands = (refl, refl, is.2.apart);
  none_before = λ other stands. none other stands;
} where
  u : ℕ
  u = is.0

  none : (other : Difference) → IsDifference first second l other → comes_before other (MemberOf is.0 (is_with first l is.0) (is_with second l is.0)) ≡ false
  none (As a b) stands = absurd (no_as first second l a b same_as stands)
  none (MemberOf w a b) stands = not_before (nat_lt w is.0) (λ test. no_member first second l w a b (is.2.lower_same w tt (below w is.0 test)) stands)
  none (Identity w a b) stands = refl
  none (LinkCost w v a b) stands = refl
  none (RouteOf w p a b) stands = refl

module _ (first second : Replica) (l : ℕ) (routers : List ℕ) (same_as : first.domain.as_number ≡ second.domain.as_number) (members : (u : ℕ) → is_with first l u ≡ is_with second l u)
    (partition : ArePartition first.edges l routers) where
  pub identity_first : (d : Difference) → IsIdentityDifference first.domain.members second.domain.members routers d → IsFirstDifference first second l d
  identity_first d is = subst (IsFirstDifference first second l) (sym is.1) record {
    stands = ((partition.exact is.0).0 is.2.inside, refl, refl, is.2.apart);
    none_before = λ other stands. none other stands;
  } where
    none : (other : Difference) → IsDifference first second l other → comes_before other (Identity is.0 (identifier_of first.domain.members is.0) (identifier_of second.domain.members is.0)) ≡ false
    none (As a b) stands = absurd (no_as first second l a b same_as stands)
    none (MemberOf w a b) stands = absurd (no_member first second l w a b (members w) stands)
    none (Identity w a b) stands =
        not_before (nat_lt w is.0) (λ test. no_identity first second l w a b (is.2.lower_same w ((partition.exact w).1 stands.0) (below w is.0 test)) stands)
    none (LinkCost w v a b) stands = refl
    none (RouteOf w p a b) stands = refl

  -- the end of an edge in either network is in the partition
  link_inside : (u v : ℕ) → is_with first l u ≡ true → edge_cost first.edges u v ≢ edge_cost second.edges u v → is_with first l v ≡ true
  link_inside u v inside apart = at_costs (edge_cost first.edges u v) (edge_cost second.edges u v) refl refl where
    at_costs : (a b : Option ℕ) → edge_cost first.edges u v ≡ a → edge_cost second.edges u v ≡ b → is_with first l v ≡ true
    at_costs None None none other = absurd (apart (none ∙ sym other))
    at_costs (Some m) b some other = reached_on first.edges l u v m inside (link_walk first.edges u v m (edge_cost_there first.edges u v m some))
    at_costs None (Some n) none some = members v ∙ reached_on second.edges l u v n (sym (members u) ∙ inside) (link_walk second.edges u v n (edge_cost_there second.edges u v n some))

  module _ (identities : HaveSameIdentifiers first.domain.members second.domain.members routers) where
    pub link_first : (d : Difference) → IsLinkDifference first.edges second.edges routers d → IsFirstDifference first second l d
    link_first d is = subst (IsFirstDifference first second l) (sym is.2) record {
      stands = let inside = (partition.exact is.0).0 is.3.inside in (inside, link_inside is.0 is.1 inside is.3.apart, refl, refl, is.3.apart);
      none_before = λ other stands. none other stands;
    } where
      none : (other : Difference) → IsDifference first second l other → comes_before other (LinkCost is.0 is.1 (edge_cost first.edges is.0 is.1) (edge_cost second.edges is.0 is.1)) ≡ false
      none (As a b) stands = absurd (no_as first second l a b same_as stands)
      none (MemberOf w a b) stands = absurd (no_member first second l w a b (members w) stands)
      none (Identity w a b) stands = absurd (no_identity first second l w a b (identities w ((partition.exact w).1 stands.0)) stands)
      none (LinkCost w x a b) stands = not_before (nat_lt w is.0 || w == is.0 && nat_lt x is.1) (λ test. elim (two_keys w is.0 (nat_lt x is.1) test) [
        | inl less ↦ no_link first second l w x a b (is.3.lower_same w x ((partition.exact w).1 stands.0) less) stands
        | inr same ↦ no_link first second l w x a b (subst (λ k. edge_cost first.edges k x ≡ edge_cost second.edges k x) (sym same.0) (is.3.nearer_same x (below x is.1 same.1))) stands
      ])
      none (RouteOf w p a b) stands = refl

    module _ (links : HaveSameLinks first.edges second.edges routers) where
      pub route_first : (d : Difference) → IsRouteDifference (route_from first) (route_from second) routers d → IsFirstDifference first second l d
      route_first d is = subst (IsFirstDifference first second l) (sym is.2) record {
        stands = ((partition.exact is.0).0 is.3.inside, refl, refl, is.3.apart);
        none_before = λ other stands. none other stands;
      } where
        none : (other : Difference) → IsDifference first second l other → comes_before other (RouteOf is.0 is.1 (route_from first is.0 is.1) (route_from second is.0 is.1)) ≡ false
        none (As a b) stands = absurd (no_as first second l a b same_as stands)
        none (MemberOf w a b) stands = absurd (no_member first second l w a b (members w) stands)
        none (Identity w a b) stands = absurd (no_identity first second l w a b (identities w ((partition.exact w).1 stands.0)) stands)
        none (LinkCost w x a b) stands = absurd (no_link first second l w x a b (links w x ((partition.exact w).1 stands.0)) stands)
        none (RouteOf w q a b) stands = not_before (nat_lt w is.0 || w == is.0 && is_before q is.1) (λ test. elim (two_keys w is.0 (is_before q is.1) test) [
          | inl less ↦ no_route first second l w q a b (is.3.lower_same w q ((partition.exact w).1 stands.0) less) stands
          | inr same ↦ no_route first second l w q a b (subst (λ k. route_from first k q ≡ route_from second k q) (sym same.0) (is.3.earlier_same q same.1)) stands
        ])

      pub all_alike : ((u : ℕ) (p : IpPrefix) → Contains routers u → route_from first u p ≡ route_from second u p) → IsAlike first second l
      all_alike routes = record {
        as_number = same_as;
        partition = members;
        identities = λ u inside. identities u ((partition.exact u).1 inside);
        links = λ u v inside there. links u v ((partition.exact u).1 inside);
        routes = λ u p inside. routes u p ((partition.exact u).1 inside);
      }

-- ---- the answers

pub answer_is : (first second : Replica) (l : ℕ) (found : Option Difference) → IsAssigned first → IsAssigned second → MatchOption found (IsAlike first second l) (IsFirstDifference first second l)
    → IsAnswer first second (record { least = l; difference = found })
answer_is first second l None law other alike = record {
  same = (λ none. alike, λ is. refl);
  tables = λ none. replica_law first second law other l alike;
  difference = tt;
}
answer_is first second l (Some d) law other is_first = record {
  same = (λ none. absurd (false≢true (sym none)), λ alike. absurd (alike_has_none first second l alike d is_first.stands));
  tables = λ none. absurd (false≢true (sym none));
  difference = is_first;
}

-- answers so far: those of the first least routers
pub record AreAnswersTo (first second : Replica) (leasts : List ℕ) (answers : List PartitionAnswer) : Type 0 where
  pub of_each : map (λ (a : PartitionAnswer). a.least) answers ≡ leasts
  pub right : (answer : PartitionAnswer) → Contains answers answer → IsAnswer first second answer

pub answers_none : (first second : Replica) (leasts : List ℕ) (answers : List PartitionAnswer) → leasts ≡ [] → answers ≡ [] → AreAnswersTo first second leasts answers
answers_none first second leasts answers none empty = record {
  of_each = ap (map (λ (a : PartitionAnswer). a.least)) empty ∙ sym none;
  right = λ answer member. absurd (Contains-none answer (subst (λ (l : List PartitionAnswer). Contains l answer) empty member));
}

map_more : (answers : List PartitionAnswer) (answer : PartitionAnswer) → map (λ (a : PartitionAnswer). a.least) (answers ++ answer ∷ []) ≡ map (λ (a : PartitionAnswer). a.least) answers ++ answer.least ∷ []
map_more [] answer = refl
map_more (a ∷ answers) answer = ap (λ l. a.least ∷ l) (map_more answers answer)

pub answers_more : (first second : Replica) (leasts more_leasts : List ℕ) (l : ℕ) (answers more : List PartitionAnswer) (answer : PartitionAnswer) → AreAnswersTo first second leasts answers
    → more_leasts ≡ leasts ++ l ∷ [] → answer.least ≡ l → IsAnswer first second answer → more ≡ answers ++ answer ∷ [] → AreAnswersTo first second more_leasts more
answers_more first second leasts more_leasts l answers more answer before leasts_are same right is = record {
  of_each = ap (map (λ (a : PartitionAnswer). a.least)) is ∙ map_more answers answer ∙ ap (λ ls. ls ++ answer.least ∷ []) before.of_each ∙ ap (λ k. leasts ++ k ∷ []) same ∙ sym leasts_are;
  right = λ other member. elim (more_cases answers answer other (subst (λ (l : List PartitionAnswer). Contains l other) is member)) [
    | inl earlier ↦ before.right other earlier
    | inr last ↦ subst (IsAnswer first second) last right
  ];
}

pairs-unmap : (answers : List PartitionAnswer) → AllPairs (λ m n. m < n) (map (λ (a : PartitionAnswer). a.least) answers) → AllPairs (λ (a b : PartitionAnswer). a.least < b.least) answers
pairs-unmap answers rising i j d less within =
    let first = read answers i d in
    let second = read answers j d in
    let both = rising i j d.least less (omega (arith, within, length-same answers)) in
    omega (arith, first, second, both) where
      read : (answers : List PartitionAnswer) (k : ℕ) (d : PartitionAnswer) → get_or (map (λ (a : PartitionAnswer). a.least) answers) k d.least ≡ (get_or answers k d).least
      read [] k d = refl
      read (a ∷ answers) zero d = refl
      read (a ∷ answers) (suc k) d = read answers k d

      length-same : (answers : List PartitionAnswer) → length (map (λ (a : PartitionAnswer). a.least) answers) ≡ length answers
      length-same [] = refl
      length-same (a ∷ answers) = ap suc (length-same answers)

pub answers_all : (first second : Replica) (leasts : List ℕ) (answers : List PartitionAnswer) → IsTwoWay first.edges → IsStrictlyIncreasing leasts → AreLeastOfRoster first.edges first.domain.members leasts
    → AreAnswersTo first second leasts answers → AreAnswers first second answers
answers_all first second leasts answers both rising are so_far = record {
  rising = pairs-unmap answers (subst (AllPairs (λ m n. m < n)) (sym so_far.of_each) (AllPairs-from_increasing leasts rising));
  each = λ l. (λ is. there l is, λ found. back l found);
  right = so_far.right;
} where
  there : (l : ℕ) → IsLeastOfPartition first l → (answer : PartitionAnswer) × Contains answers answer × (answer.least ≡ l)
  there l is =
      let own : IsLeastIn first.edges l l = record { inside = reached-self first.edges l; none_lower = is.none_lower } in
      let member = (are l).1 (is.router, is.in_roster, least-shift first.edges both l is.router l is.inside own) in
      let from = member_of_map (λ (a : PartitionAnswer). a.least) answers l (subst (λ (ls : List ℕ). Contains ls l) (sym so_far.of_each) member) in
      (from.0, from.1, from.2)

  back : (l : ℕ) → (answer : PartitionAnswer) × Contains answers answer × (answer.least ≡ l) → IsLeastOfPartition first l
  back l found =
      let listed = map_member (λ (a : PartitionAnswer). a.least) answers found.0 found.1 in
      let member : Contains leasts l = subst (λ (ls : List ℕ). Contains ls l) so_far.of_each (subst (Contains (map (λ (a : PartitionAnswer). a.least) answers)) found.2 listed) in
      let is = (are l).0 member in
      let own = least-shift first.edges both is.0 l l is.2.inside is.2 in
      record {
        router = is.0;
        in_roster = is.1;
        inside = reached-back first.edges both is.0 l is.2.inside;
        none_lower = own.none_lower;
      }

-- ---- as a comparison finds them

pub network_first : (first second : Replica) (l : ℕ) (routers : List ℕ) → first.domain.as_number ≡ second.domain.as_number → ((u : ℕ) → is_with first l u ≡ is_with second l u) → ArePartition first.edges l routers
    → (d : Difference) → IsNetworkDifference first.domain.members second.domain.members first.edges second.edges routers d → IsFirstDifference first second l d
network_first first second l routers same members partition d (inl is) = identity_first first second l routers same members partition d is
network_first first second l routers same members partition d (inr is) = link_first first second l routers same members partition is.0 d is.1

pub route_or_alike : (first second : Replica) (l : ℕ) (routers : List ℕ) → first.domain.as_number ≡ second.domain.as_number → ((u : ℕ) → is_with first l u ≡ is_with second l u) → ArePartition first.edges l routers
    → HaveSameIdentifiers first.domain.members second.domain.members routers → HaveSameLinks first.edges second.edges routers → (found : Option Difference)
    → MatchOption found ((u : ℕ) (p : IpPrefix) → Contains routers u → route_from first u p ≡ route_from second u p) (IsRouteDifference (route_from first) (route_from second) routers)
    → MatchOption found (IsAlike first second l) (IsFirstDifference first second l)
route_or_alike first second l routers same members partition identities links None routes = all_alike first second l routers same members partition identities links routes
route_or_alike first second l routers same members partition identities links (Some d) is = route_first first second l routers same members partition identities links d is

-- the listed routers are the least of their partitions
pub least_listed : (edges : List Edge) (members : List Member) (leasts : List ℕ) (n l : ℕ) → IsTwoWay edges → AreLeastOfRoster edges members leasts → n < length leasts → l ≡ get_or leasts n l → IsLeastIn edges l l
least_listed edges members leasts n l both are within is = let from = (are l).0 (n, within, sym is) in least-itself edges both from.0 l from.2
