-- Link states that a database holds, after an LSA and after a time.
use Rattle.std.proofs.Common.{ap₂, ◌≡◌, ◌≢◌, ℕ, ◌+◌, ◌<◌, ◌≤◌, Bool, true, false, cond, ◌==◌, ◌↔◌, List, length, filter, Option, Some, None, IfSome, is_some, nat_lt, leb, not, nat_cmp, refl, sym, ap, subst, ◌∙◌, arith, eqb-true, eq-eqb}
use Rattle.std.specs.BTreeMap.{is_at}
use Rattle.std.specs.Map.{keys_of, lookup}
use Rattle.std.specs.List.Sorted.{IsStrictlySortedBy}
use Rattle.std.proofs.lemmas.Bool.{false≢true, leb-false}
use Rattle.std.specs.Prelude.{⊤}
use Rattle.std.proofs.lemmas.Map.Entries.{option_filter}
use Rattle.rcp_base.specs.Maps.{get_at, put_at, without}
use Rattle.rcp_model.specs.LinkState.{RouterLsa, Kept, LinkState, same_number, header_at, capped, against, Installation, Newer, Same, Older, Flushed, Dropped, answer_to, kept_after, installation, installed, aged}
use Rattle.rcp_base.proofs.MapLemmas.{get_at-put_at_same, get_at-put_at_other, get_at-without_passed, get_at-without_left}
use Rattle.lsdb.specs.Databases.{IsKept, IsOnce, Changes, Holds}
use Rattle.lsdb.proofs.MapOrder.{number_test, lookup_is, is_eq-number, once-rising, once-put, once-filter, get-filter, same-length, filter-less}
use Rattle.lsdb.proofs.Answering.{state_of}

-- by what the tree answers
pub changed : (key : ℕ) (value : Option Kept) (old new : List (ℕ × Kept))
    → ((k : ℕ) → lookup (is_at (nat_cmp k)) new ≡ cond (is_at (nat_cmp key) k) value (lookup (is_at (nat_cmp k)) old))
    → (k : ℕ) → get_at same_number k new ≡ cond (key == k) value (get_at same_number k old)
changed key value old new updates k = sym (lookup_is k new) ∙ updates k ∙ rw (is_eq-number key k, lookup_is k old) refl

own-changed : (key : ℕ) (value : Option Kept) (old new : List (ℕ × Kept)) → Changes key value old new → IfSome value (λ kept. kept.lsa.key ≡ key)
    → ((k : ℕ) → IfSome (get_at same_number k old) (λ kept. kept.lsa.key ≡ k)) → (k : ℕ) → IfSome (get_at same_number k new) (λ kept. kept.lsa.key ≡ k)
own-changed key value old new change is own k = rw (change.at k) (at_test (key == k) refl) where
  at_test : (t : Bool) → (key == k) ≡ t → IfSome (cond t value (get_at same_number k old)) (λ kept. kept.lsa.key ≡ k)
  at_test true same = subst (λ j. IfSome value (λ kept. kept.lsa.key ≡ j)) (eqb-true key k same) is
  at_test false other = own k

pub kept-changed : (key : ℕ) (value : Option Kept) (old new : List (ℕ × Kept)) → Changes key value old new → IfSome value (λ kept. kept.lsa.key ≡ key) → IsKept old
    → length old + cond (is_some value) 1 0 ≤ 2048 + cond (is_some (get_at same_number key old)) 1 0 → IsKept new
kept-changed key value old new change is kept place = record { rising = change.rising; own = own-changed key value old new change is kept.own; few = omega (arith, change.count, place) }

pub kept-removed : (key : ℕ) (old new : List (ℕ × Kept)) → Changes key None old new → IsKept old → IsKept new
kept-removed key old new change kept = kept-changed key None old new change tt kept (omega (arith, kept.few))

-- there is a place for an instance that is put in
pub newer-place : (now : ℕ) (lsa : RouterLsa) (routers : List (ℕ × Kept)) → IsKept routers → Newer ≡ installation now lsa (state_of routers) → length routers + 1 ≤ 2048 + cond (is_some (get_at same_number lsa.key routers)) 1 0
unfolding installation answer_to
newer-place now lsa routers kept newer = by_found (get_at same_number lsa.key routers) refl where
  by_found : (found : Option Kept) → get_at same_number lsa.key routers ≡ found → length routers + 1 ≤ 2048 + cond (is_some found) 1 0
  by_found (Some instance) is = omega (arith, kept.few)
  by_found None is = at_tests (leb 3600 lsa.header.age) (leb 2048 (length routers)) refl (newer ∙ rw is refl) where
    at_tests : (old full : Bool) → leb 2048 (length routers) ≡ full → Newer ≡ cond old Flushed (cond full Dropped Newer) → length routers + 1 ≤ 2048
    at_tests true full is newer = absurd cc
    at_tests false true is newer = absurd cc
    at_tests false false is newer = let h = leb-false 2048 (length routers) is in omega (arith, h)

turned : (j k : ℕ) → (j == k) ≡ false → (k == j) ≡ false
turned j k other = at_test (k == j) refl where
  at_test : (t : Bool) → (k == j) ≡ t → (k == j) ≡ false
  at_test true same = absurd (false≢true (sym other ∙ eq-eqb j k (sym (eqb-true k j same))))
  at_test false differs = differs

-- what becomes of an LSA by what is kept and by how many routers there are, and the link state after each answer
abbrev answer_by : ℕ → RouterLsa → Option Kept → ℕ → Installation
answer_by now lsa found count = elim found [
  | Some kept ↦ against (capped lsa.header) (header_at now kept)
  | None ↦ cond (leb 3600 lsa.header.age) Flushed (cond (leb 2048 count) Dropped Newer)
]

abbrev pub state_after : ℕ → RouterLsa → LinkState → Installation → LinkState
state_after now lsa state answer = record {
  routers = elim answer [
    | Newer ↦ put_at same_number lsa.key (record { lsa = lsa; since = now }) state.routers
    | Flushed ↦ without (same_number lsa.key) state.routers
    | Same ↦ state.routers
    | Older ↦ state.routers
    | Dropped ↦ state.routers
  ];
}

-- what is kept holds itself
pub holds-itself : (routers : List (ℕ × Kept)) → IsKept routers → Holds (state_of routers) (state_of routers)
holds-itself routers kept = record { same = λ router. refl; once = once-rising routers kept.rising }

-- what becomes of an LSA is the same for each link state that is held
pub same-installation : (now : ℕ) (lsa : RouterLsa) (routers : List (ℕ × Kept)) (state : LinkState) → IsKept routers → Holds (state_of routers) state → installation now lsa (state_of routers) ≡ installation now lsa state
unfolding installation answer_to
same-installation now lsa routers state kept holds =
    let count : length routers ≡ length state.routers = same-length routers state.routers (once-rising routers kept.rising) holds.once holds.same in
    ap₂ (answer_by now lsa) (holds.same lsa.key) count

module _ (now : ℕ) (lsa : RouterLsa) (key : ℕ) (old new : List (ℕ × Kept)) (state : LinkState) (kept : IsKept old) (holds : Holds (state_of old) state) (is : key ≡ lsa.key) where
  at_key : (value : Option Kept) → Changes key value old new → (k : ℕ) → get_at same_number k new ≡ cond (lsa.key == k) value (get_at same_number k state.routers)
  at_key value change k = change.at k ∙ rw (is, holds.same k) refl

  pub holds-newer : Changes key (Some (record { lsa = lsa; since = now })) old new → Newer ≡ installation now lsa (state_of old) → Holds (state_of new) (installed now lsa state)
  unfolding installation installed kept_after
  holds-newer change newer =
      let answer : installation now lsa state ≡ Newer = sym (same-installation now lsa old state kept holds) ∙ sym newer in
      let value : Kept = record { lsa = lsa; since = now } in
      subst (λ a. Holds (state_of new) (state_after now lsa state a)) (sym answer) (record { same = λ k. at_key (Some value) change k ∙ put k value (lsa.key == k) refl; once = once-put lsa.key value state.routers holds.once }) where
        put : (k : ℕ) (value : Kept) (t : Bool) → (lsa.key == k) ≡ t → cond t (Some value) (get_at same_number k state.routers) ≡ get_at same_number k (put_at same_number lsa.key value state.routers)
        put k value true same =
            sym (subst (λ j. get_at same_number j (put_at same_number lsa.key value state.routers) ≡ Some value) (eqb-true lsa.key k same) (get_at-put_at_same same_number number_test lsa.key value state.routers))
        put k value false other = sym (get_at-put_at_other same_number number_test lsa.key k value state.routers (turned lsa.key k other))

  pub holds-flushed : Changes key None old new → Flushed ≡ installation now lsa (state_of old) → Holds (state_of new) (installed now lsa state)
  unfolding installation installed kept_after
  holds-flushed change flushed =
      let answer : installation now lsa state ≡ Flushed = sym (same-installation now lsa old state kept holds) ∙ sym flushed in
      subst (λ a. Holds (state_of new) (state_after now lsa state a)) (sym answer) (record { same = λ k. at_key None change k ∙ removed k (lsa.key == k) refl; once = once-filter (λ entry. not (same_number lsa.key entry.0)) state.routers holds.once }) where
        removed : (k : ℕ) (t : Bool) → (lsa.key == k) ≡ t → cond t None (get_at same_number k state.routers) ≡ get_at same_number k (without (same_number lsa.key) state.routers)
        removed k true same = sym (get_at-without_passed same_number number_test (same_number lsa.key) k state.routers same)
        removed k false other = sym (get_at-without_left same_number number_test (same_number lsa.key) k state.routers other)

-- an answer that changes nothing
abbrev pub ChangesNothing : Installation → Type 0
ChangesNothing answer = elim answer [ Newer ↦ ⊥ | Flushed ↦ ⊥ | Same ↦ ⊤ | Older ↦ ⊤ | Dropped ↦ ⊤ ]

pub holds-still : (now : ℕ) (lsa : RouterLsa) (routers : List (ℕ × Kept)) (state : LinkState) → IsKept routers → Holds (state_of routers) state → (answer : Installation) → ChangesNothing answer
    → answer ≡ installation now lsa (state_of routers) → Holds (state_of routers) (installed now lsa state)
unfolding installation installed kept_after
holds-still now lsa routers state kept holds answer still is = by_answer answer still (sym (same-installation now lsa routers state kept holds) ∙ sym is) where
  by_answer : (answer : Installation) → ChangesNothing answer → installation now lsa state ≡ answer → Holds (state_of routers) (installed now lsa state)
  by_answer Newer still is = absurd still
  by_answer Flushed still is = absurd still
  by_answer Same still is = subst (λ a. Holds (state_of routers) (state_after now lsa state a)) (sym is) holds
  by_answer Older still is = subst (λ a. Holds (state_of routers) (state_after now lsa state a)) (sym is) holds
  by_answer Dropped still is = subst (λ a. Holds (state_of routers) (state_after now lsa state a)) (sym is) holds

-- ---- times

-- whether an instance is left at a time
abbrev pub is_young : ℕ → Kept → Bool
is_young now kept = nat_lt (header_at now kept).age 3600

module _ (now : ℕ) (old new : List (ℕ × Kept)) (kept : IsKept old) (left : new ≡ filter (λ entry. nat_lt (header_at now entry.1).age 3600) old) where
  pub holds-aged : (state : LinkState) → Holds (state_of old) state → Holds (state_of new) (aged now state)
  unfolding aged
  holds-aged state holds = record {
    same = λ k. rw left (get-filter k (is_young now) old (once-rising old kept.rising) ∙ ap (option_filter (is_young now)) (holds.same k) ∙ sym (get-filter k (is_young now) state.routers holds.once));
    once = once-filter (λ entry. is_young now entry.1) state.routers holds.once;
  }

  pub went-aged : (state : LinkState) → Holds (state_of old) state → (length new < length old) ↔ (aged now state ≢ state)
  unfolding aged
  went-aged state holds =
      let held = holds-aged state holds in
      let before : length old ≡ length state.routers = same-length old state.routers (once-rising old kept.rising) holds.once holds.same in
      let once-new : IsOnce new = rw left (once-filter (λ entry. is_young now entry.1) old (once-rising old kept.rising)) in
      let after : length new ≡ length (aged now state).routers = same-length new (aged now state).routers once-new held.once held.same in (
        λ less same. omega (arith, before, after, ap (λ (s : LinkState). length s.routers) same),
        λ other. let less = filter-less (λ entry. is_young now entry.1) state.routers (λ same. other (ap state_of same)) in omega (arith, before, after, less),
      )

  pub kept-aged : IsStrictlySortedBy nat_cmp (keys_of new) → length new ≤ length old → IsKept new
  kept-aged rising few = record {
    rising = rising;
    own = λ k. rw (left, get-filter k (is_young now) old (once-rising old kept.rising)) (filtered k (get_at same_number k old) (kept.own k));
    few = omega (arith, few, kept.few);
  } where
    filtered : (k : ℕ) (found : Option Kept) → IfSome found (λ kept. kept.lsa.key ≡ k) → IfSome (option_filter (is_young now) found) (λ kept. kept.lsa.key ≡ k)
    filtered k None own = own
    filtered k (Some instance) own = at_test (is_young now instance) where
      at_test : (t : Bool) → IfSome (cond t (Some instance) None) (λ kept. kept.lsa.key ≡ k)
      at_test true = own
      at_test false = tt

-- ---- what a call on the tree says

pub changes-kept : (key router : ℕ) (value : Kept) (old new : List (ℕ × Kept)) → key ≡ router → (found : Option Kept) → found ≡ lookup (is_at (nat_cmp key)) old
    → ((k : ℕ) → lookup (is_at (nat_cmp k)) new ≡ cond (is_at (nat_cmp key) k) (Some value) (lookup (is_at (nat_cmp k)) old))
    → length new ≡ length old + cond (is_some found) 0 1 → IsStrictlySortedBy nat_cmp (keys_of new) → Changes router (Some value) old new
changes-kept key router value old new is found found-is updates count rising = rw (← is) (record {
  at = changed key (Some value) old new updates;
  count = counted (get_at same_number key old) (subst (λ (f : Option Kept). length new ≡ length old + cond (is_some f) 0 1) (found-is ∙ lookup_is key old) count);
  rising = rising;
}) where
  counted : (found : Option Kept) → length new ≡ length old + cond (is_some found) 0 1 → length new + cond (is_some found) 1 0 ≡ length old + 1
  counted None count = omega (arith, count)
  counted (Some there) count = omega (arith, count)

pub changes-removed : (key : ℕ) (old new : List (ℕ × Kept)) (found : Option Kept) → found ≡ lookup (is_at (nat_cmp key)) old
    → ((k : ℕ) → lookup (is_at (nat_cmp k)) new ≡ cond (is_at (nat_cmp key) k) None (lookup (is_at (nat_cmp k)) old))
    → length new + cond (is_some found) 1 0 ≡ length old → IsStrictlySortedBy nat_cmp (keys_of new) → Changes key None old new
changes-removed key old new found found-is updates count rising = record {
  at = changed key None old new updates;
  count = let more = subst (λ (f : Option Kept). length new + cond (is_some f) 1 0 ≡ length old) (found-is ∙ lookup_is key old) count in omega (arith, more);
  rising = rising;
}
