-- A link is given another cost: what is read of the network, and how it is afterwards.
use Rattle.std.proofs.Common.{◌≡◌, ℕ, suc, ◌+◌, ◌<◌, ◌≤◌, List, length, get_or, sym, ap, subst, ◌∙◌, inl, inr, ◌⊎◌, add-one, arith, get_or-set_same, get_or-set_other}
use Rattle.std.proofs.Math.ListN.{set, length-set}
use Rattle.std.proofs.lemmas.Bool.{cases_eq}
use Rattle.std.proofs.lemmas.List.{get_or_default}
use Rattle.feed_make.specs.Draws.{DrawsOf, draw}
use Rattle.feed_make.specs.Networks.{Link, NetworkOf, change_place, changed, changed_link, link_at, links_after, no_link, all_rises, rises}
use Rattle.feed_make.proofs.Networks.{IsLink, each_is_link, changed-below, changed_was, length-links, length-rises, rises-at, rises-few, two_rise}

module _ (number k : ℕ) (net : NetworkOf) (draws : DrawsOf) (view : ◌≡◌ {A = NetworkOf} (record { number = number; changes = k }) net) (feed : draws.number ≡ net.number) (drawn : draws.drawn ≡ change_place net.changes) where
  numbers : draws ≡ record { number = number; drawn = change_place k }
  numbers =
      (λ i. record { number = feed i; drawn = drawn i })
      ∙ ap (λ (n : NetworkOf). record { number = n.number; drawn = change_place n.changes }) (sym view)

  pub place_is : (drew place : ℕ) → place ≡ drew → drew ≡ draw draws.number draws.drawn 900 → place ≡ changed number k
  place_is drew place is value = is ∙ value ∙ ap (λ (d : DrawsOf). draw d.number d.drawn 900) numbers

  pub cost_is : (next : DrawsOf) (cost : ℕ) → next ≡ record draws { drawn = draws.drawn + 1 } → cost ≡ draw next.number next.drawn 100 → cost ≡ draw number (change_place k + 1) 100
  cost_is next cost after value = value ∙ ap (λ (d : DrawsOf). draw d.number d.drawn 100) (after ∙ ap (λ (d : DrawsOf). record d { drawn = d.drawn + 1 }) numbers)

-- the link that was drawn
pub old_is : (number k place : ℕ) (links : List Link) (old : Link) → links ≡ links_after number k → place ≡ changed number k → old ≡ get_or links place old
    → old ≡ link_at (links_after number k) (changed number k)
old_is number k place links old are at read =
    read ∙ (λ i. get_or (are i) (at i) old)
    ∙ get_or_default (links_after number k) (changed number k) old no_link (omega (arith, length-links number k, changed-below number k))

pub old_is_link : (number k : ℕ) (old : Link) → old ≡ link_at (links_after number k) (changed number k) → IsLink old
old_is_link number k old is = subst IsLink (sym is) (each_is_link number k (changed number k) (changed-below number k))

-- its routers are those of the link afterwards
pub from_is : (number k : ℕ) (old : Link) → old ≡ link_at (links_after number k) (changed number k) → old.from ≡ (changed_link number k).from
from_is number k old is = ap (λ (l : Link). l.from) is ∙ sym (ap (λ (l : Link). l.from) (changed_was number k))

pub to_is : (number k : ℕ) (old : Link) → old ≡ link_at (links_after number k) (changed number k) → old.to ≡ (changed_link number k).to
to_is number k old is = ap (λ (l : Link). l.to) is ∙ sym (ap (λ (l : Link). l.to) (changed_was number k))

-- no sequence number rose more often than links changed
pub rose_few : (number k router : ℕ) (rs : List ℕ) → rs ≡ all_rises number k → router < 400 → get_or rs router 0 ≤ k
rose_few number k router rs are member = omega (arith, ap (λ (l : List ℕ). get_or l router 0) are, rises-at number k router 0 member, rises-few number router k)

pub rose_few_then : (number k from to : ℕ) (rs : List ℕ) → rs ≡ all_rises number k → from < 400 → to < 400 → (from ≡ to → ⊥) → get_or (set rs from (get_or rs from 0 + 1)) to 0 ≤ k
rose_few_then number k from to rs are from_one to_one two =
    omega (arith, get_or-set_other rs from to (get_or rs from 0 + 1) 0 (λ e. two (sym e)), rose_few number k to rs are to_one)

-- those of the link's routers rise
pub rise : (number k from to : ℕ) (rs : List ℕ) → rs ≡ all_rises number k → from ≡ (changed_link number k).from → to ≡ (changed_link number k).to → from < 400 → to < 400 → (from ≡ to → ⊥)
    → set (set rs from (get_or rs from 0 + 1)) to (get_or (set rs from (get_or rs from 0 + 1)) to 0 + 1) ≡ all_rises number (k + 1)
rise number k from to rs are is_from is_to from_one to_one two =
    let all = all_rises number k in
    let a = get_or (all_rises number k) from 0 + 1 in
    let b = get_or (set (all_rises number k) from (get_or (all_rises number k) from 0 + 1)) to 0 + 1 in
    let is_a : get_or (all_rises number k) from 0 + 1 ≡ rises number from k + 1 = ap (λ n. n + 1) (rises-at number k from 0 from_one) in
    let is_b : get_or (set (all_rises number k) from (get_or (all_rises number k) from 0 + 1)) to 0 + 1 ≡ rises number to k + 1 =
    ap (λ n. n + 1) (get_or-set_other (all_rises number k) from to (get_or (all_rises number k) from 0 + 1) 0 (λ e. two (sym e)) ∙ rises-at number k to 0 to_one) in
    ap (λ (l : List ℕ). set (set l from (get_or l from 0 + 1)) to (get_or (set l from (get_or l from 0 + 1)) to 0 + 1)) are
    ∙ two_rise number k from to a b is_from is_to from_one to_one two is_a is_b
    ∙ ap (all_rises number) (sym (add-one k))

-- and the links are those after the change
pub links_are : (number k place : ℕ) (links : List Link) (old new : Link) → links ≡ links_after number k → place ≡ changed number k → old ≡ link_at (links_after number k) (changed number k)
    → new ≡ record old { cost = 1 + draw number (change_place k + 1) 100 } → set links place new ≡ links_after number (k + 1)
links_are number k place links old new are at is made =
    let cost = 1 + draw number (change_place k + 1) 100 in
    (λ i. set (are i) (at i) ((made ∙ ap (λ (l : Link). record l { cost = cost }) is) i))
    ∙ ap (links_after number) (sym (add-one k))
