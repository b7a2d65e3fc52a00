-- A search: what an edge that is gone over leaves of its state, how it begins and how it ends.
use Rattle.std.proofs.Common.{◌≡◌, ◌≢◌, ℕ, zero, suc, ◌+◌, ◌*◌, ◌^◌, ◌<◌, ◌≤◌, Bool, true, false, cond, ◌==◌, ◌⊎◌, List, [], ◌∷◌, length, get_or, set, Contains, IsPermutation, Option, Some, None, IfSome, slice_get, sum_by, refl, sym, ap, subst, ◌∙◌, inl, inr, arith, eqb-true, eqb, eq-eqb, ne_eqb, length-set, take, ◌++◌, drop, drop-cons, add-one}
use Rattle.std.specs.Option.{option_eq}
use Rattle.std.proofs.lemmas.Bool.{false≢true, eqb-false}
use Rattle.std.proofs.lemmas.List.Elements.{All-from_get_or, All-contains}
use Rattle.std.proofs.lemmas.List.{take_all, take-append-le}
use Rattle.std.proofs.lemmas.List.Sums.{sum_by-cons, sum_by-set, sum_by-le}
use Rattle.std.proofs.lemmas.List.Sorted.{Contains-permutation, length_permutation, IsPermutation-sym}
use Rattle.std.proofs.lemmas.Option.{slice_get_within, get_or_from_slice_get}
use Rattle.rcp_model.proofs.MemberLemmas.{Contains-head, Contains-tail, Contains-cases, Contains-none, filter_member, member_of_filter}
use Rattle.rcp_model.proofs.WalkLemmas.{Within, Walk-then, Walk-edge, IsCost-unique, IsCost-from_settled, cost_is}
use Rattle.rcp_base.specs.declared.names.Edge.{Edge}
use Rattle.rcp_model.specs.Costs.{Walk, stay, cost}
use Rattle.rcp_model.specs.Graphs.{IsGraph, edges_from}
use Rattle.cost_rows.specs.Search.{found_at, counted, found_count, weight, nothing_found, Waiting, waits, left, IsSearch, IsLowered, IsRelaxed, IsFound, AreNames}
use Rattle.cost_rows.proofs.NameLemmas.{apart, found-place, found-set}

-- ---- numbers

some_within : (o : Option ℕ) (n : ℕ) → Within o n → (m : ℕ) × (o ≡ Some m) × (m ≤ n)
some_within None n h = absurd h
some_within (Some m) n h = (m, refl, h)

same_some : (m n : ℕ) (o : Option ℕ) → o ≡ Some m → o ≡ Some n → m ≡ n
same_some m n o h k = cc

above : (m k : ℕ) → (k ≤ m → ⊥) → m < k
above m k never = omega arith

decided : (a b : ℕ) → (a ≡ b) ⊎ (a ≢ b)
decided a b = at_test (a == b) (eqb-true a b) (eqb-false a b) where
  at_test : (t : Bool) → (t ≡ true → a ≡ b) → (t ≡ false → a ≢ b) → (a ≡ b) ⊎ (a ≢ b)
  at_test true same other = inl (same refl)
  at_test false same other = inr (other refl)

-- no more costs are found than there are places, so that sums fit
found_count-le : (least : List (Option ℕ)) → found_count least ≤ length least
found_count-le least = omega (arith, sum_by-le counted 1 least (All-from_get_or (λ o. counted o ≤ 1) least None (λ i within. at_most_one (get_or least i None)))) where
  at_most_one : (o : Option ℕ) → counted o ≤ 1
  at_most_one None = omega arith
  at_most_one (Some n) = omega arith

pub sum_fits : (edges : List Edge) (names : List ℕ) (root : ℕ) (least : List (Option ℕ)) (waiting : List Waiting) (open_edges : List Edge) (router cost more : ℕ) → AreNames edges names
    → IsSearch edges names root least waiting open_edges → found_at names least router ≡ Some cost → more ≤ 65535 → cost + more < 2 ^ 32
sum_fits edges names root least waiting open_edges router cost more are search found cheap =
    let bound = search.bound router cost found in
    let few = are.few in
    let places = search.places in
    omega (arith, bound, found_count-le least, few, places, cheap)

-- ---- an edge gone over

module _ (edges : List Edge) (names : List ℕ) (root : ℕ) (are : AreNames edges names) (least : List (Option ℕ)) (waiting : List Waiting) (edge : Edge) (rest : List Edge) (cost : ℕ)
    (member : Contains edges edge) (cheap : edge.cost ≤ 65535) (found : found_at names least edge.from ≡ Some cost) (search : IsSearch edges names root least waiting (edge ∷ rest)) where
  pub record After (new_least : List (Option ℕ)) (new_waiting : List Waiting) : Type 0 where
    pub searched : IsSearch edges names root new_least new_waiting rest
    pub still : found_at names new_least edge.from ≡ Some cost
    pub falls : left new_least new_waiting ≤ left least waiting

  kept : Within (found_at names least edge.to) (cost + edge.cost) → After least waiting
  kept within = record {
    searched = record {
      places = search.places;
      own = search.own;
      walks = search.walks;
      bound = search.bound;
      named = search.named;
      settled = λ e n inside at. elim (search.settled e n inside at) [
        | inl opened ↦ elim (Contains-cases edge rest e opened) [
          | inl same ↦ inr (inr (settled_one e n same at))
          | inr later ↦ inl later
        ]
        | inr other ↦ inr other
      ];
    };
    still = found;
    falls = omega arith;
  } where
    settled_one : (e : Edge) (n : ℕ) → edge ≡ e → found_at names least e.from ≡ Some n → Within (found_at names least e.to) (n + e.cost)
    settled_one e n same at =
        let is : cost ≡ n = same_some cost n (found_at names least edge.from) found (ap (λ (x : Edge). found_at names least x.from) same ∙ at) in
        subst (λ k. Within (found_at names least e.to) (k + e.cost)) is (subst (λ (x : Edge). Within (found_at names least x.to) (cost + x.cost)) same within)

  module _ (new_least : List (Option ℕ)) (new_waiting : List Waiting) (low : IsLowered names edge cost least waiting new_least new_waiting) where
    new_at : (v : ℕ) → found_at names new_least v ≡ cond (edge.to == v) (Some (cost + edge.cost)) (found_at names least v)
    new_at v = ap (λ xs. found_at names xs v) low.costs ∙ found-set names least low.place edge.to (Some (cost + edge.cost)) v (apart names are.rising) search.places low.at_place

    new_to : found_at names new_least edge.to ≡ Some (cost + edge.cost)
    new_to = new_at edge.to ∙ rw (eq-eqb edge.to edge.to refl) refl

    new_same : (v : ℕ) → edge.to ≢ v → found_at names new_least v ≡ found_at names least v
    new_same v other = new_at v ∙ rw (ne_eqb edge.to v other) refl

    -- the end had no cost as low
    not_end : (v n : ℕ) → found_at names least v ≡ Some n → n ≤ cost + edge.cost → edge.to ≢ v
    not_end v n at le same =
        low.lower (subst (λ o. Within o (cost + edge.cost)) (sym at ∙ ap (found_at names least) (sym same) ∙ found-place names least low.place edge.to (apart names are.rising) search.places low.at_place) le)

    within : low.place < length least
    within = let h = slice_get_within names low.place edge.to low.at_place in let places = search.places in omega arith

    fits : cost + edge.cost < 2 ^ 32
    fits = sum_fits edges names root least waiting (edge ∷ rest) edge.from cost edge.cost are search found cheap

    low_walks : (v : ℕ) → IfSome (found_at names new_least v) (Walk edges root v)
    low_walks v = elim (decided edge.to v) [
      | inl same ↦ subst (λ w. IfSome (found_at names new_least w) (Walk edges root w)) same (subst (λ o. IfSome o (Walk edges root edge.to)) (sym new_to)
          (Walk-then (subst (λ o. IfSome o (Walk edges root edge.from)) found (search.walks edge.from)) (Walk-edge edges edge member)))
      | inr other ↦ subst (λ o. IfSome o (Walk edges root v)) (sym (new_same v other)) (search.walks v)
    ]

    counted_new : found_count new_least + counted (get_or least low.place None) ≡ found_count least + 1
    counted_new = rw low.costs (sum_by-set counted least low.place (Some (cost + edge.cost)) None within)

    low_bound : (v n : ℕ) → found_at names new_least v ≡ Some n → n + 65535 ≤ 65535 * found_count new_least
    low_bound v n at = elim (decided edge.to v) [
      | inl same ↦
          let is : cost + edge.cost ≡ n = same_some (cost + edge.cost) n (found_at names new_least edge.to) new_to (ap (found_at names new_least) same ∙ at) in
          at_end (get_or least low.place None) (found-place names least low.place edge.to (apart names are.rising) search.places low.at_place) low.lower counted_new n is
      | inr other ↦ let bound = search.bound v n (sym (new_same v other) ∙ at) in no_fewer (get_or least low.place None) counted_new n bound
    ] where
      no_fewer : (o : Option ℕ) → found_count new_least + counted o ≡ found_count least + 1 → (n : ℕ) → n + 65535 ≤ 65535 * found_count least → n + 65535 ≤ 65535 * found_count new_least
      no_fewer None count n bound = omega arith
      no_fewer (Some k) count n bound = omega arith

      at_end : (o : Option ℕ) → found_at names least edge.to ≡ o → (Within o (cost + edge.cost) → ⊥) → found_count new_least + counted o ≡ found_count least + 1 → (n : ℕ) → cost + edge.cost ≡ n → n + 65535 ≤ 65535 * found_count new_least
      at_end None at low count n is = let bound = search.bound edge.from cost found in omega (arith, bound, cheap)
      at_end (Some k) at low count n is = let bound = search.bound edge.to k at in let less : cost + edge.cost < k = above (cost + edge.cost) k low in omega (arith, bound, less)

    in_new : (w : Waiting) → Contains waiting w → Contains new_waiting w
    in_new w inside = Contains-permutation (waits edge.to (cost + edge.cost) ∷ waiting) new_waiting w low.waiting_too (Contains-tail (waits edge.to (cost + edge.cost)) waiting w inside)

    low_named : (router c : ℕ) → Contains new_waiting (waits router c) → Contains names router
    low_named router c inside = elim (Contains-cases (waits edge.to (cost + edge.cost)) waiting (waits router c)
        (Contains-permutation new_waiting (waits edge.to (cost + edge.cost) ∷ waiting) (waits router c) (IsPermutation-sym _ new_waiting low.waiting_too) inside)) [
          | inl same ↦ subst (Contains names) (ap (λ (w : Waiting). w.1) same) (are.ends edge member).1
          | inr later ↦ search.named router c later
        ]

    low_settled : (e : Edge) (n : ℕ) → Contains edges e → found_at names new_least e.from ≡ Some n
        → Contains rest e ⊎ (Contains new_waiting (waits e.from n) ⊎ Within (found_at names new_least e.to) (n + e.cost))
    low_settled e n inside at = elim (decided edge.to e.from) [
      | inl same ↦
          let is : cost + edge.cost ≡ n = same_some (cost + edge.cost) n (found_at names new_least edge.to) new_to (ap (found_at names new_least) same ∙ at) in
          inr (inl (Contains-permutation (waits edge.to (cost + edge.cost) ∷ waiting) new_waiting (waits e.from n) low.waiting_too
          (subst (λ k. Contains (waits edge.to (cost + edge.cost) ∷ waiting) (waits k n)) same
          (subst (λ k. Contains (waits edge.to (cost + edge.cost) ∷ waiting) (waits edge.to k)) is (Contains-head (waits edge.to (cost + edge.cost)) waiting)))))
      | inr other ↦
          let before = sym (new_same e.from other) ∙ at in
          elim (search.settled e n inside before) [
            | inl opened ↦ elim (Contains-cases edge rest e opened) [
              | inl same ↦ inr (inr (the_edge e n same before))
              | inr later ↦ inl later
            ]
            | inr more ↦ elim more [
              | inl waiting_one ↦ inr (inl (in_new (waits e.from n) waiting_one))
              | inr settled ↦ inr (inr (still_settled e n settled))
            ]
          ]
    ] where
      the_edge : (e : Edge) (n : ℕ) → edge ≡ e → found_at names least e.from ≡ Some n → Within (found_at names new_least e.to) (n + e.cost)
      the_edge e n same at =
          let is : cost ≡ n = same_some cost n (found_at names least edge.from) found (ap (λ (x : Edge). found_at names least x.from) same ∙ at) in
          subst (λ k. Within (found_at names new_least e.to) (k + e.cost)) is (subst (λ (x : Edge). Within (found_at names new_least x.to) (cost + x.cost)) same
          (subst (λ o. Within o (cost + edge.cost)) (sym new_to) (omega arith)))

      still_settled : (e : Edge) (n : ℕ) → Within (found_at names least e.to) (n + e.cost) → Within (found_at names new_least e.to) (n + e.cost)
      still_settled e n settled = elim (decided edge.to e.to) [
        | inl same ↦
            let old = some_within (found_at names least e.to) (n + e.cost) settled in
            let less : cost + edge.cost < old.0 = above (cost + edge.cost) old.0 (λ le. not_end e.to old.0 old.1 le same) in
            subst (λ o. Within o (n + e.cost)) (sym (ap (found_at names new_least) (sym same) ∙ new_to)) (omega arith)
        | inr other ↦ subst (λ o. Within o (n + e.cost)) (sym (new_same e.to other)) settled
      ]

    lowered : After new_least new_waiting
    lowered = record {
      searched = record {
        places = ap length low.costs ∙ length-set least low.place (Some (cost + edge.cost)) ∙ search.places;
        own = new_same root (not_end root 0 search.own (omega arith)) ∙ search.own;
        walks = low_walks;
        bound = low_bound;
        named = low_named;
        settled = low_settled;
      };
      still = new_same edge.from (not_end edge.from cost found (omega arith)) ∙ found;
      falls = falls (get_or least low.place None) low.lower (rw low.costs (sum_by-set weight least low.place (Some (cost + edge.cost)) None within)) (length_permutation (waits edge.to (cost + edge.cost) ∷ waiting) new_waiting low.waiting_too);
    } where
      falls : (o : Option ℕ) → (Within o (cost + edge.cost) → ⊥) → sum_by weight new_least + weight o ≡ sum_by weight least + (cost + edge.cost) → length new_waiting ≡ length (waits edge.to (cost + edge.cost) ∷ waiting)
          → left new_least new_waiting ≤ left least waiting
      falls None low sums lengths = let h = fits in omega (arith, h)
      falls (Some k) low sums lengths = let less : cost + edge.cost < k = above (cost + edge.cost) k low in omega arith

  pub relaxed : (new_least : List (Option ℕ)) (new_waiting : List Waiting) → IsRelaxed names edge cost least waiting new_least new_waiting → After new_least new_waiting
  relaxed new_least new_waiting h = elim h [
    | inl same ↦ subst (λ xs. After xs new_waiting) (sym same.1) (subst (λ ws. After least ws) (sym same.2) (kept same.0))
    | inr low ↦ lowered new_least new_waiting low
  ]

-- ---- all edges from a router

pub edge_at : (edges : List Edge) (router i : ℕ) (items : List Edge) (e : Edge) → items ≡ edges_from router edges → i < length items → e ≡ get_or items i e → Contains edges e × (e.from ≡ router)
edge_at edges router i items e is within read =
    let inside : Contains (edges_from router edges) e = subst (λ xs. Contains xs e) is (i, within, sym read) in
    let found = member_of_filter (λ (edge : Edge). edge.from == router) edges e inside in
    (found.0, eqb-true e.from router found.1)

pub edge_cheap : (edges : List Edge) (e : Edge) → IsGraph edges → Contains edges e → e.cost ≤ 65535
edge_cheap edges e graph member = All-contains (λ (edge : Edge). edge.cost ≤ 65535) edges e graph.cheap member

pub edge_fits : (edges : List Edge) (names : List ℕ) (root router cost i : ℕ) (least : List (Option ℕ)) (waiting : List Waiting) (items : List Edge) (e : Edge) → AreNames edges names → IsGraph edges → items ≡ edges_from router edges
    → i < length items → e ≡ get_or items i e → found_at names least router ≡ Some cost → IsSearch edges names root least waiting (drop i items) → cost + e.cost < 2 ^ 32
edge_fits edges names root router cost i least waiting items e are graph is within read found search =
    sum_fits edges names root least waiting (drop i items) router cost e.cost are search found (edge_cheap edges e graph (edge_at edges router i items e is within read).0)

pub edge_done : (edges : List Edge) (names : List ℕ) (root router cost i : ℕ) (least : List (Option ℕ)) (waiting : List Waiting) (items : List Edge) (e : Edge) → AreNames edges names → IsGraph edges → items ≡ edges_from router edges
    → i < length items → e ≡ get_or items i e → found_at names least router ≡ Some cost → IsSearch edges names root least waiting (drop i items)
    → (new_least : List (Option ℕ)) (new_waiting : List Waiting) → IsRelaxed names e cost least waiting new_least new_waiting
    → IsSearch edges names root new_least new_waiting (drop (i + 1) items) × (found_at names new_least router ≡ Some cost) × (left new_least new_waiting ≤ left least waiting)
edge_done edges names root router cost i least waiting items e are graph is within read found search new_least new_waiting step =
    let at = edge_at edges router i items e is within read in
    let front : drop i items ≡ e ∷ drop (i + 1) items = rw add-one (drop-cons items i e within ∙ ap (λ x. x ∷ drop (suc i) items) (sym read)) in
    let after = relaxed edges names root are least waiting e (drop (i + 1) items) cost at.0 (edge_cheap edges e graph at.0) (ap (found_at names least) at.1 ∙ found)
    (subst (λ rest. IsSearch edges names root least waiting rest) front search) new_least new_waiting step in
    (after.searched, ap (found_at names new_least) (sym at.1) ∙ after.still, after.falls)

-- ---- a router taken out

taken : (waiting left_over : List Waiting) (w : Waiting) → IsPermutation waiting (w ∷ left_over) → (other : Waiting) → Contains waiting other → (w ≡ other) ⊎ Contains left_over other
taken waiting left_over w moved other inside = Contains-cases w left_over other (Contains-permutation waiting (w ∷ left_over) other moved inside)

remains : (waiting left_over : List Waiting) (w : Waiting) → IsPermutation waiting (w ∷ left_over) → (other : Waiting) → Contains left_over other → Contains waiting other
remains waiting left_over w moved other inside = Contains-permutation (w ∷ left_over) waiting other (IsPermutation-sym waiting (w ∷ left_over) moved) (Contains-tail w left_over other inside)

module _ (edges : List Edge) (names : List ℕ) (root : ℕ) (least : List (Option ℕ)) (waiting left_over : List Waiting) (router cost : ℕ)
    (search : IsSearch edges names root least waiting []) (moved : IsPermutation waiting (waits router cost ∷ left_over)) where
  pub taken_named : Contains names router
  taken_named = search.named router cost (Contains-permutation (waits router cost ∷ left_over) waiting (waits router cost) (IsPermutation-sym waiting (waits router cost ∷ left_over) moved) (Contains-head (waits router cost) left_over))

  pub taken_falls : left least left_over < left least waiting
  taken_falls = let lengths = length_permutation waiting (waits router cost ∷ left_over) moved in omega arith

  -- one whose cost is still that one: its edges are open
  pub taken_current : IsSearch edges names root least left_over (edges_from router edges)
  taken_current = record {
    places = search.places;
    own = search.own;
    walks = search.walks;
    bound = search.bound;
    named = λ r c inside. search.named r c (remains waiting left_over (waits router cost) moved (waits r c) inside);
    settled = λ e n inside at. elim (search.settled e n inside at) [
      | inl opened ↦ absurd (Contains-none e opened)
      | inr more ↦ elim more [
        | inl waiting_one ↦ elim (taken waiting left_over (waits router cost) moved (waits e.from n) waiting_one) [
          | inl same ↦ inl (filter_member (λ (edge : Edge). edge.from == router) edges e inside (eq-eqb e.from router (sym (ap (λ (w : Waiting). w.1) same))))
          | inr later ↦ inr (inl later)
        ]
        | inr settled ↦ inr (inr settled)
      ]
    ];
  }

  -- one whose cost is another by now: it waits with that one too
  pub taken_stale : (found_at names least router ≡ Some cost → ⊥) → IsSearch edges names root least left_over []
  taken_stale other = record {
    places = search.places;
    own = search.own;
    walks = search.walks;
    bound = search.bound;
    named = λ r c inside. search.named r c (remains waiting left_over (waits router cost) moved (waits r c) inside);
    settled = λ e n inside at. elim (search.settled e n inside at) [
      | inl opened ↦ inl opened
      | inr more ↦ elim more [
        | inl waiting_one ↦ elim (taken waiting left_over (waits router cost) moved (waits e.from n) waiting_one) [
          | inl same ↦ absurd (other (ap (found_at names least) (ap (λ (w : Waiting). w.1) same) ∙ at ∙ ap Some (sym (ap (λ (w : Waiting). w.0.0) same))))
          | inr later ↦ inr (inl later)
        ]
        | inr settled ↦ inr (inr settled)
      ]
    ];
  }

-- what `==` of a cost says
pub same_cost : (o : Option ℕ) (n : ℕ) → option_eq eqb o (Some n) ≡ true → o ≡ Some n
same_cost None n h = absurd (false≢true h)
same_cost (Some m) n h = ap Some (eqb-true m n h)

pub other_cost : (o : Option ℕ) (n : ℕ) → option_eq eqb o (Some n) ≡ false → o ≡ Some n → ⊥
other_cost None n h same = cc
other_cost (Some m) n h same = eqb-false m n h (same_some m n (Some m) refl same)

-- ---- the beginning and the end

abbrev pub first_costs : List ℕ → ℕ → List (Option ℕ)
first_costs names place = set (nothing_found names) place (Some 0)

length-nothing : (names : List ℕ) → length (nothing_found names) ≡ length names
length-nothing [] = refl
length-nothing (name ∷ names) = ap suc (length-nothing names)

found-nothing : (names others : List ℕ) (v : ℕ) → found_at names (nothing_found others) v ≡ None
found-nothing [] others v = refl
found-nothing (name ∷ names) [] v = refl
found-nothing (name ∷ names) (other ∷ others) v = by_test (name == v) (found-nothing names others v) where
  by_test : (t : Bool) → found_at names (nothing_found others) v ≡ None → cond t None (found_at names (nothing_found others) v) ≡ None
  by_test true rest = refl
  by_test false rest = rest

get_or-nothing : (names : List ℕ) (i : ℕ) → get_or (nothing_found names) i None ≡ None
get_or-nothing [] i = refl
get_or-nothing (name ∷ names) zero = refl
get_or-nothing (name ∷ names) (suc i) = get_or-nothing names i

count-nothing : (names : List ℕ) → sum_by counted (nothing_found names) ≡ 0
count-nothing [] = refl
count-nothing (name ∷ names) = sum_by-cons counted None (nothing_found names) ∙ rw (count-nothing names) refl

pub search_begins : (edges : List Edge) (names : List ℕ) (root place : ℕ) (waiting : List Waiting) → AreNames edges names → slice_get names place ≡ Some root → IsPermutation (waits root 0 ∷ []) waiting
    → IsSearch edges names root (first_costs names place) waiting []
search_begins edges names root place waiting are at moved = record {
  places = length-set (nothing_found names) place (Some 0) ∙ length-nothing names;
  own = at_first root ∙ rw (eq-eqb root root refl) refl;
  walks = λ v. elim (decided root v) [
    | inl same ↦
        let is : found_at names (first_costs names place) v ≡ Some 0 = at_first v ∙ rw (eq-eqb root v same) refl in
        rw is (subst (λ w. Walk edges root w 0) same (stay root))
    | inr other ↦ nothing_there v (at_first v ∙ rw (ne_eqb root v other) refl)
  ];
  bound = λ v n found. elim (decided root v) [
    | inl same ↦ let is : 0 ≡ n = same_some 0 n (found_at names (first_costs names place) v) (at_first v ∙ rw (eq-eqb root v same) refl) found in let c = count in omega arith
    | inr other ↦ absurd (none_some n (sym (at_first v ∙ rw (ne_eqb root v other) refl) ∙ found))
  ];
  named = λ r c inside. subst (Contains names) (ap (λ (w : Waiting). w.1) (only (waits r c) inside)) named_root;
  settled = λ e n inside found. elim (decided root e.from) [
    | inl same ↦
        let is : 0 ≡ n = same_some 0 n (found_at names (first_costs names place) e.from) (at_first e.from ∙ rw (eq-eqb root e.from same) refl) found in
        inr (inl (Contains-permutation (waits root 0 ∷ []) waiting (waits e.from n) moved (subst (λ k. Contains (waits root 0 ∷ []) (waits k n)) same (subst (λ k. Contains (waits root 0 ∷ []) (waits root k)) is (Contains-head (waits root 0) [])))))
    | inr other ↦ absurd (none_some n (sym (at_first e.from ∙ rw (ne_eqb root e.from other) refl) ∙ found))
  ];
} where
  none_some : (n : ℕ) → None ≡ Some n → ⊥
  none_some n e = cc

  nothing_there : (v : ℕ) → found_at names (first_costs names place) v ≡ None → IfSome (found_at names (first_costs names place) v) (Walk edges root v)
  nothing_there v is = rw is tt

  within : place < length (nothing_found names)
  within = let n = length-nothing names in let h = slice_get_within names place root at in omega arith

  at_first : (v : ℕ) → found_at names (first_costs names place) v ≡ cond (root == v) (Some 0) None
  at_first v = found-set names (nothing_found names) place root (Some 0) v (apart names are.rising) (length-nothing names) at
      ∙ ap (cond (root == v) (Some 0)) (found-nothing names names v)

  count : found_count (first_costs names place) ≡ 1
  count = let sums = sum_by-set counted (nothing_found names) place (Some 0) None within in
      let nothing = count-nothing names in
      let there : counted (get_or (nothing_found names) place None) ≡ 0 = ap counted (get_or-nothing names place) in
      omega (arith, sums, nothing, there)

  named_root : Contains names root
  named_root = (place, slice_get_within names place root at, get_or_from_slice_get names place root root at)

  only : (w : Waiting) → Contains waiting w → waits root 0 ≡ w
  only w inside = elim (Contains-cases (waits root 0) [] w (Contains-permutation waiting (waits root 0 ∷ []) w (IsPermutation-sym (waits root 0 ∷ []) waiting moved) inside)) [
    | inl same ↦ same
    | inr rest ↦ absurd (Contains-none w rest)
  ]

pub search_begun : (edges : List Edge) (names : List ℕ) (root place : ℕ) (nothing least : List (Option ℕ)) (empty waiting : List Waiting) → AreNames edges names → slice_get names place ≡ Some root
    → nothing ≡ nothing_found names → least ≡ set nothing place (Some 0) → empty ≡ [] → IsPermutation (waits root 0 ∷ empty) waiting → IsSearch edges names root least waiting []
search_begun edges names root place nothing least empty waiting are at none first nobody moved =
    rw (first, none) (search_begins edges names root place waiting are at (subst (λ ws. IsPermutation (waits root 0 ∷ ws) waiting) nobody moved))

-- where nothing waits the costs are the least
pub search_ends : (edges : List Edge) (names : List ℕ) (root : ℕ) (least : List (Option ℕ)) (waiting : List Waiting) → length waiting ≡ 0 → IsSearch edges names root least waiting [] → IsFound edges names root least
search_ends edges names root least waiting empty search = record {
  places = search.places;
  exact = λ v. IsCost-unique edges root v (found_at names least v) (cost edges root v)
      (IsCost-from_settled edges root (found_at names least) search.walks search.own (λ edge n inside at. elim (search.settled edge n inside at) [
        | inl opened ↦ absurd (Contains-none edge opened)
        | inr more ↦ elim more [ inl waiting_one ↦ absurd (omega arith) | inr settled ↦ settled ]
      ]) v) (cost_is edges root v);
}

-- a slice that was written whole
pub whole : {X : Type 0} (new old : List X) (n : ℕ) → length new ≡ n → take n (new ++ drop (length new) old) ≡ new
whole new old n same = take-append-le n new (drop (length new) old) (omega arith) ∙ take_all n new (omega arith)
