-- Kept instances stand under their own routers, each router once, and an LSA changes its own router alone.
use Rattle.std.proofs.Common.{◌≡◌, ◌≢◌, ℕ, suc, ◌<◌, ◌≤◌, Bool, true, false, cond, not, eqb, leb, ltb, List, [], ◌∷◌, length, filter, Contains, Option, Some, None, refl, sym, ap, subst, inl, inr, arith}
use Rattle.std.specs.Prelude.{◌↔◌, All, AllPairs}
use Rattle.std.proofs.lemmas.Bool.{cases_Bool, both_ways, eqb-true, eq-eqb, ltb-true, lt-ltb, leb-false}
use Rattle.std.proofs.lemmas.List.Elements.{All-cons, All-head, All-tail, All-filter}
use Rattle.std.proofs.lemmas.List.Kept.{AllPairs-cons, AllPairs-filter}
use Rattle.rcp_base.specs.Maps.{get_at, put_at, without}
use Rattle.rcp_base.proofs.MapLemmas.{get_at-put_at_other, get_at-without_left}
use Rattle.rcp_model.specs.LinkState.{RouterLsa, Kept, LinkState, same_number, kept_of, header_at, max_age, most_routers, Installation, Newer, Same, Older, Flushed, Dropped, against, capped, answer_to, kept_after, installed, aged}
use Rattle.rcp_model.specs.LinkStateUpdates.{installed_all}
use Rattle.rcp_model.proofs.MemberLemmas.{filter_member, member_of_filter}
use Rattle.rcp_model.proofs.ServerLemmas.{number_test}
use Rattle.model_laws.specs.LinkStates.{AreKeptByRouter}

abbrev Entries : Type 0
Entries = List (ℕ × Kept)

abbrev Apart : ℕ × Kept → ℕ × Kept → Type 0
Apart a b = a.0 ≢ b.0

-- ---- a further entry

all-put : (P : ℕ × Kept → Type 0) (key : ℕ) (value : Kept) (entries : Entries) → P (key, value) → All P entries → All P (put_at same_number key value entries)
all-put P key value [] own each = All-cons P (key, value) [] own each
all-put P key value (e ∷ entries) own each =
    elim (cases_Bool (eqb key e.0)) [
      | inl t ↦ rw t (All-cons P (key, value) entries own (All-tail P e entries each))
      | inr f ↦ rw f (All-cons P e (put_at same_number key value entries) (All-head P e entries each) (all-put P key value entries own (All-tail P e entries each)))
    ]

apart-put : (key : ℕ) (value : Kept) (entries : Entries) → AllPairs Apart entries → AllPairs Apart (put_at same_number key value entries)
apart-put key value [] h = λ i j d lt within. absurd (omega arith)
apart-put key value (e ∷ entries) h =
    let first : All (Apart e) entries = λ k d lt. h 0 (suc k) d (omega arith) (omega arith) in
    let later : AllPairs Apart entries = λ i j d lt within. h (suc i) (suc j) d (omega arith) (omega arith) in
    elim (cases_Bool (eqb key e.0)) [
      | inl t ↦ rw t (AllPairs-cons Apart (key, value) entries (subst (λ (k : ℕ). All (λ (b : ℕ × Kept). k ≢ b.0) entries) (sym (eqb-true key e.0 t)) first) later)
      | inr f ↦ rw f (AllPairs-cons Apart e (put_at same_number key value entries)
          (all-put (Apart e) key value entries (λ same. both_ways (eqb key e.0) f (eq-eqb key e.0 (sym same))) first)
          (apart-put key value entries later))
    ]

-- an entry in the place of another adds none, and a new one adds one
length-put_again : (key : ℕ) (value old : Kept) (entries : Entries) → get_at same_number key entries ≡ Some old → length (put_at same_number key value entries) ≡ length entries
length-put_again key value old [] is = absurd cc
length-put_again key value old (e ∷ entries) is =
    elim (cases_Bool (eqb key e.0)) [
      | inl t ↦ rw t refl
      | inr f ↦ rw f (ap suc (length-put_again key value old entries (rw f at is)))
    ]

length-put : (key : ℕ) (value : Kept) (entries : Entries) → length (put_at same_number key value entries) ≤ suc (length entries)
length-put key value [] = omega arith
length-put key value (e ∷ entries) =
    elim (cases_Bool (eqb key e.0)) [
      | inl t ↦ rw t (omega arith)
      | inr f ↦ rw f (omega (arith, length-put key value entries))
    ]

length-without : (test : ℕ × Kept → Bool) (entries : Entries) → length (filter test entries) ≤ length entries
length-without test [] = omega arith
length-without test (e ∷ entries) =
    elim (cases_Bool (test e)) [
      | inl t ↦ rw t (omega (arith, length-without test entries))
      | inr f ↦ rw f (omega (arith, length-without test entries))
    ]

-- ---- a link state

left : (test : ℕ × Kept → Bool) (entries : Entries) → AreKeptByRouter (record { routers = entries }) → AreKeptByRouter (record { routers = filter test entries })
left test entries are = record {
  own = All-filter test (λ (entry : ℕ × Kept). entry.0 ≡ entry.1.lsa.key) entries are.own;
  once = AllPairs-filter Apart test entries are.once;
  few = omega (arith, are.few, length-without test entries);
}

-- a newer instance either takes the place of another, or there is room for it
room : (now : ℕ) (lsa : RouterLsa) (entries : Entries) → length entries ≤ most_routers → answer_to same_number most_routers now lsa entries ≡ Newer
    → (value : Kept) → length (put_at same_number lsa.key value entries) ≤ most_routers
unfolding answer_to
room now lsa entries few newer value = at_place (get_at same_number lsa.key entries) refl newer where
  at_new : (b c : Bool) → leb most_routers (length entries) ≡ c → cond b Flushed (cond c Dropped Newer) ≡ Newer → c ≡ false
  at_new true c e is = absurd cc
  at_new false true e is = absurd cc
  at_new false false e is = refl

  at_place : (o : Option Kept) → get_at same_number lsa.key entries ≡ o
      → elim o [
        | Some instance ↦ against (capped lsa.header) (header_at now instance)
        | None ↦ cond (leb max_age lsa.header.age) Flushed (cond (leb most_routers (length entries)) Dropped Newer)
      ] ≡ Newer
      → length (put_at same_number lsa.key value entries) ≤ most_routers
  at_place (Some old) e is = rw (length-put_again lsa.key value old entries e) few
  at_place None e is =
      let open_ = at_new (leb max_age lsa.header.age) (leb most_routers (length entries)) refl is in
      omega (arith, leb-false most_routers (length entries) open_, length-put lsa.key value entries)

-- the entries after this answer
abbrev entries_after : ℕ → RouterLsa → Entries → Installation → Entries
entries_after now lsa entries answer = elim answer [
  | Newer ↦ put_at same_number lsa.key (record { lsa = lsa; since = now }) entries
  | Flushed ↦ without (same_number lsa.key) entries
  | Same ↦ entries
  | Older ↦ entries
  | Dropped ↦ entries
]

pub kept-lsa : (now : ℕ) (lsa : RouterLsa) (state : LinkState) → AreKeptByRouter state → AreKeptByRouter (installed now lsa state)
unfolding installed kept_after
kept-lsa now lsa state are = by (answer_to same_number most_routers now lsa state.routers) refl where
  by : (a : Installation) → answer_to same_number most_routers now lsa state.routers ≡ a → AreKeptByRouter (record { routers = entries_after now lsa state.routers a })
  by Newer e = record {
    own = all-put (λ (entry : ℕ × Kept). entry.0 ≡ entry.1.lsa.key) lsa.key (record { lsa = lsa; since = now }) state.routers refl are.own;
    once = apart-put lsa.key (record { lsa = lsa; since = now }) state.routers are.once;
    few = room now lsa state.routers are.few e (record { lsa = lsa; since = now });
  }
  by Flushed e = left (λ entry. not (same_number lsa.key entry.0)) state.routers are
  by Same e = are
  by Older e = are
  by Dropped e = are

pub kept-lsas : (now : ℕ) (lsas : List RouterLsa) (state : LinkState) → AreKeptByRouter state → AreKeptByRouter (installed_all now lsas state)
unfolding installed_all
kept-lsas now [] state are = are
kept-lsas now (lsa ∷ lsas) state are = kept-lsas now lsas (installed now lsa state) (kept-lsa now lsa state are)

pub kept-time : (now : ℕ) (state : LinkState) → AreKeptByRouter state → AreKeptByRouter (aged now state)
unfolding aged
kept-time now state are = left (λ entry. ltb (header_at now entry.1).age max_age) state.routers are

pub kept-start : AreKeptByRouter (record { routers = [] })
kept-start = record { own = λ k d lt. absurd (omega arith); once = λ i j d lt within. absurd (omega arith); few = omega arith }

-- ---- what is left

pub young_left : (now : ℕ) (state : LinkState) (entry : ℕ × Kept)
    → Contains (aged now state).routers entry ↔ (Contains state.routers entry × ((header_at now entry.1).age < max_age))
unfolding aged
young_left now state entry = (
  λ member. let found = member_of_filter (λ (e : ℕ × Kept). ltb (header_at now e.1).age max_age) state.routers entry member in (found.0, ltb-true _ _ found.1),
  λ is. filter_member (λ (e : ℕ × Kept). ltb (header_at now e.1).age max_age) state.routers entry is.0 (lt-ltb _ _ is.1),
)

pub others_left : (now : ℕ) (lsa : RouterLsa) (state : LinkState) (router : ℕ) → router ≢ lsa.key → kept_of router (installed now lsa state) ≡ kept_of router state
unfolding installed kept_after
others_left now lsa state router other = by (answer_to same_number most_routers now lsa state.routers) where
  apart : (a b : ℕ) → a ≢ b → eqb a b ≡ false
  apart a b differs = elim (cases_Bool (eqb a b)) [ inl t ↦ absurd (differs (eqb-true a b t)) | inr f ↦ f ]

  by : (a : Installation) → get_at same_number router (entries_after now lsa state.routers a) ≡ get_at same_number router state.routers
  by Newer = get_at-put_at_other same_number number_test lsa.key router (record { lsa = lsa; since = now }) state.routers (apart router lsa.key other)
  by Flushed = get_at-without_left same_number number_test (same_number lsa.key) router state.routers (apart lsa.key router (λ same. other (sym same)))
  by Same = refl
  by Older = refl
  by Dropped = refl
