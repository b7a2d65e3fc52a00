-- The links of a feed and how far sequence numbers rose, after each change.
use Rattle.std.proofs.Common.{◌≡◌, ℕ, zero, suc, ◌+◌, ◌*◌, ◌-◌, ◌%◌, ◌<◌, ◌≤◌, ◌||◌, Bool, true, false, cond, eqb, List, [], ◌∷◌, ◌++◌, length, get_or, map, drop, replicate, refl, sym, ap, subst, ◌∙◌, inl, inr, ◌⊎◌, arith, length-append, get_or-set_same, get_or-set_other}
use Rattle.std.specs.Prelude.{◌≢◌}
use Rattle.std.proofs.Math.ListN.{set, length-set, get_or-append}
use Rattle.std.proofs.lemmas.Bool.{cases_eq, cases_lt, eqb-true, eqb-false, eq-eqb, ne_eqb}
use Rattle.std.proofs.lemmas.List.{get_or-append_right}
use Rattle.rcp_model.specs.LinkState.{RouterLink}
use Rattle.feed_make.specs.Numbers.{numbers_from}
use Rattle.feed_make.specs.Draws.{draw, next, state_after}
use Rattle.feed_make.specs.Networks.{Link, ring_link, other_link, first_links, change_place, changed, no_link, link_at, with_cost, links_after, changed_link, rises, all_rises, point_to_point, content_of}
use Rattle.feed_make.proofs.Ranges.{length-map-numbers, get_or-map-numbers, filled_by_all}

-- a draw is below its bound
pub draw-below : (number place below : ℕ) → 0 < below → draw number place below < below
unfolding draw
draw-below number place below some = search arith

-- ---- links

-- two routers that are members, and not one
pub record IsLink (link : Link) : Type 0 where
  pub from_one : link.from < 400
  pub to_one : link.to < 400
  pub two : link.from ≡ link.to → ⊥

is_ring : (number i : ℕ) → i < 400 → IsLink (ring_link number i)
is_ring number i less = record { from_one = less; to_one = omega arith; two = λ e. omega arith }

is_other : (number k : ℕ) → IsLink (other_link number k)
is_other number k =
    let from_below = draw-below number (400 + 3 * k) 400 (omega arith) in
    let step_below = draw-below number (400 + 3 * k + 1) 399 (omega arith) in
    record { from_one = from_below; to_one = omega arith; two = λ e. omega (arith, from_below, step_below) }

ring_links : ℕ → List Link
ring_links number = map (ring_link number) (numbers_from 0 400)

pub length-first : (number : ℕ) → length (first_links number) ≡ 900
length-first number =
    length-append (map (ring_link number) (numbers_from 0 400)) (map (other_link number) (numbers_from 0 500))
    ∙ (λ i. length-map-numbers (ring_link number) 0 400 i + length-map-numbers (other_link number) 0 500 i)

first_is_link : (number i : ℕ) → i < 900 → IsLink (link_at (first_links number) i)
first_is_link number i less =
    let ring = map (ring_link number) (numbers_from 0 400) in
    let others = map (other_link number) (numbers_from 0 500) in
    let long = length-map-numbers (ring_link number) 0 400 in
    elim (cases_lt i 400) [
      | inl below ↦
          subst IsLink
          (sym (get_or-append ring others no_link i (omega (arith, long)) ∙ get_or-map-numbers (ring_link number) 0 400 i i no_link below (omega arith)))
          (is_ring number i below)
      | inr above ↦
          subst IsLink
          (sym (get_or-append_right ring others 400 i no_link long above ∙ get_or-map-numbers (other_link number) 0 500 (i - 400) (i - 400) no_link (omega arith) (omega arith)))
          (is_other number (i - 400))
    ]

pub length-links : (number k : ℕ) → length (links_after number k) ≡ 900
length-links number zero = length-first number
length-links number (suc k) = length-set (links_after number k) (changed number k) _ ∙ length-links number k

pub changed-below : (number k : ℕ) → changed number k < 900
changed-below number k = draw-below number (change_place k) 900 (omega arith)

-- a link with another cost has the same routers
with_cost_at : (links : List Link) (i cost j : ℕ) → i < length links → (j ≡ i) ⊎ (j ≡ i → ⊥) → IsLink (link_at links j) → IsLink (link_at (with_cost links i cost) j)
with_cost_at links i cost j within (inl same) is =
    let one : link_at (with_cost links i cost) j ≡ record (link_at links i) { cost = cost } =
    ap (link_at (with_cost links i cost)) same ∙ get_or-set_same links i _ no_link within in
    let was : IsLink (link_at links i) = subst (λ n. IsLink (link_at links n)) same is in
    subst IsLink (sym one) (record { from_one = was.from_one; to_one = was.to_one; two = was.two })
with_cost_at links i cost j within (inr other) is = subst IsLink (sym (get_or-set_other links i j _ no_link other)) is

pub each_is_link : (number k i : ℕ) → i < 900 → IsLink (link_at (links_after number k) i)
each_is_link number zero i less = first_is_link number i less
each_is_link number (suc k) i less =
    with_cost_at (links_after number k) (changed number k) _ i (omega (arith, length-links number k, changed-below number k)) (cases_eq i (changed number k)) (each_is_link number k i less)

-- the changed link has the routers that it had
pub changed_was : (number k : ℕ) → changed_link number k ≡ record (link_at (links_after number k) (changed number k)) { cost = (changed_link number k).cost }
changed_was number k =
    let one = get_or-set_same (links_after number k) (changed number k) (record (link_at (links_after number k) (changed number k)) { cost = 1 + draw number (change_place k + 1) 100 }) no_link
    (omega (arith, length-links number k, changed-below number k)) in
    one ∙ ap (λ cost. record (link_at (links_after number k) (changed number k)) { cost = cost }) (sym (ap (λ (l : Link). l.cost) one))

-- ---- sequence numbers

pub rises-few : (number router k : ℕ) → rises number router k ≤ k
rises-few number router zero = omega arith
rises-few number router (suc k) = at_test ((eqb (changed_link number k).from router) || (eqb (changed_link number k).to router)) (rises-few number router k) where
  at_test : (b : Bool) → rises number router k ≤ k → rises number router k + cond b 1 0 ≤ suc k
  at_test true few = omega (arith, few)
  at_test false few = omega (arith, few)

pub length-rises : (number k : ℕ) → length (all_rises number k) ≡ 400
length-rises number k = length-map-numbers (λ router. rises number router k) 0 400

pub rises-at : (number k router d : ℕ) → router < 400 → get_or (all_rises number k) router d ≡ rises number router k
rises-at number k router d less = get_or-map-numbers (λ router. rises number router k) 0 400 router router d less (omega arith)

-- none rose before the first change
pub no_rises : (number : ℕ) (zeros : List ℕ) → length zeros ≡ 400 → ((i : ℕ) → i < 400 → get_or zeros i 0 ≡ 0) → zeros ≡ all_rises number 0
no_rises number zeros long each = filled_by_all (λ router. rises number router 0) zeros 400 0 long each

-- those of two routers rise
pub two_rise : (number k from to a b : ℕ) → from ≡ (changed_link number k).from → to ≡ (changed_link number k).to → from < 400 → to < 400 → (from ≡ to → ⊥)
    → a ≡ rises number from k + 1 → b ≡ rises number to k + 1 → set (set (all_rises number k) from a) to b ≡ all_rises number (suc k)
two_rise number k from to a b is_from is_to from_one to_one two is_a is_b =
    filled_by_all (λ router. rises number router (suc k)) (set (set (all_rises number k) from a) to b) 400 0
    (length-set (set (all_rises number k) from a) to b ∙ length-set (all_rises number k) from a ∙ length-rises number k)
    (λ router less. at_router router less (cases_eq router to) (cases_eq router from)) where
      rise : (router : ℕ) (x y : Bool) → eqb from router ≡ x → eqb to router ≡ y → rises number router (suc k) ≡ rises number router k + cond (x || y) 1 0
      rise router x y is_x is_y =
          ap (λ c. rises number router k + cond c 1 0)
          ((λ i. eqb (sym is_from i) router || eqb (sym is_to i) router) ∙ (λ i. is_x i || is_y i))

      or-true : (x : Bool) → (x || true) ≡ true
      or-true true = refl
      or-true false = refl

      at_router : (router : ℕ) → router < 400 → (router ≡ to) ⊎ (router ≡ to → ⊥) → (router ≡ from) ⊎ (router ≡ from → ⊥)
          → get_or (set (set (all_rises number k) from a) to b) router 0 ≡ rises number router (suc k)
      at_router router less (inl at_to) from_or =
          ap (λ r. get_or (set (set (all_rises number k) from a) to b) r 0) at_to
          ∙ get_or-set_same (set (all_rises number k) from a) to b 0 (omega (arith, length-set (all_rises number k) from a, length-rises number k))
          ∙ is_b ∙ ap (λ r. rises number r k + 1) (sym at_to)
          ∙ sym (rise router (eqb from router) true refl (eq-eqb to router (sym at_to)) ∙ ap (λ c. rises number router k + cond c 1 0) (or-true (eqb from router)))
      at_router router less (inr not_to) (inl at_from) =
          get_or-set_other (set (all_rises number k) from a) to router b 0 not_to
          ∙ ap (λ r. get_or (set (all_rises number k) from a) r 0) at_from
          ∙ get_or-set_same (all_rises number k) from a 0 (omega (arith, length-rises number k))
          ∙ is_a ∙ ap (λ r. rises number r k + 1) (sym at_from)
          ∙ sym (rise router true (eqb to router) (eq-eqb from router (sym at_from)) refl)
      at_router router less (inr not_to) (inr not_from) =
          get_or-set_other (set (all_rises number k) from a) to router b 0 not_to
          ∙ get_or-set_other (all_rises number k) from router a 0 not_from
          ∙ rises-at number k router 0 less
          ∙ omega arith
          ∙ sym (rise router false false (ne_eqb from router (λ e. not_from (sym e))) (ne_eqb to router (λ e. not_to (sym e))))

-- ---- the links of a router

pub content-few : (router : ℕ) (links : List Link) → length (content_of router links) ≤ length links
content-few router [] = omega arith
content-few router (link ∷ links) = at_test (eqb link.from router) (eqb link.to router) (content-few router links) where
  at_test : (a b : Bool) → length (content_of router links) ≤ length links
      → length (cond a (point_to_point link.to link.cost ∷ content_of router links) (cond b (point_to_point link.from link.cost ∷ content_of router links) (content_of router links))) ≤ suc (length links)
  at_test true b few = omega (arith, few)
  at_test false true few = omega (arith, few)
  at_test false false few = omega (arith, few)

pub content-append : (router : ℕ) (links more : List Link) → content_of router (links ++ more) ≡ content_of router links ++ content_of router more
content-append router [] more = refl
content-append router (link ∷ links) more = at_test (eqb link.from router) (eqb link.to router) (content-append router links more) where
  at_test : (a b : Bool) → content_of router (links ++ more) ≡ content_of router links ++ content_of router more
      → cond a (point_to_point link.to link.cost ∷ content_of router (links ++ more)) (cond b (point_to_point link.from link.cost ∷ content_of router (links ++ more)) (content_of router (links ++ more)))
      ≡ cond a (point_to_point link.to link.cost ∷ content_of router links) (cond b (point_to_point link.from link.cost ∷ content_of router links) (content_of router links)) ++ content_of router more
  at_test true b same = ap (λ (xs : List RouterLink). point_to_point link.to link.cost ∷ xs) same
  at_test false true same = ap (λ (xs : List RouterLink). point_to_point link.from link.cost ∷ xs) same
  at_test false false same = same

pub changed_is_link : (number k : ℕ) → IsLink (changed_link number k)
changed_is_link number k = each_is_link number (suc k) (changed number k) (changed-below number k)
