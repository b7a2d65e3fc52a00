-- What is kept at a time is young then: to let the same time come again changes nothing.
use Rattle.std.proofs.Common.{◌≡◌, ◌≢◌, ℕ, ◌+◌, ◌-◌, ◌<◌, ◌≤◌, Bool, true, false, cond, not, ◌&&◌, ◌==◌, nat_lt, nat_le, List, [], ◌∷◌, ◌++◌, length, filter, min, Option, Some, None, ◌⊎◌, inl, inr, refl, sym, ap, ap₂, subst, ◌∙◌, arith}
use Rattle.std.proofs.lemmas.Bool.{false≢true}
use Rattle.std.proofs.lemmas.Bool.Decides.{nat_tests}
use Rattle.rcp_base.specs.Maps.{get_at, put_at, without}
use Rattle.rcp_model.specs.LinkState.{LsaHeader, RouterLsa, Kept, LinkState, Installation, Newer, Same, Older, Flushed, Dropped, same_number, most_routers, capped, header_at, is_more_recent, against, answer_to, kept_after, kept_young, installed, aged}
use Rattle.rcp_model.specs.LinkStateUpdates.{ReadLsa, lsas_of_packets, faultless_lsas, installed_all, after_packets}
use Rattle.rcp_model.proofs.PacketLemmas.{after_packets-append}
use Rattle.igp_view.specs.Streams.{Stream, packets_of, stream_after, state_after}
use Rattle.igp_view.proofs.StreamLemmas.{packets_twice}

module _ (now : ℕ) where
  -- each of the instances that are kept is young
  abbrev AreYoung : List (ℕ × Kept) → Type 0
  AreYoung [] = Unit {0}
  AreYoung (entry ∷ entries) = (nat_lt (header_at now entry.1).age 3600 ≡ true) × AreYoung entries

  young-filter : (p : ℕ × Kept → Bool) (entries : List (ℕ × Kept)) → AreYoung entries → AreYoung (filter p entries)
  young-filter p [] young = tt
  young-filter p (entry ∷ entries) young = at_test (p entry) (young-filter p entries young.1) where
    at_test : (t : Bool) → AreYoung (filter p entries) → AreYoung (cond t (entry ∷ filter p entries) (filter p entries))
    at_test true rest = (young.0, rest)
    at_test false rest = rest

  young-aged : (entries : List (ℕ × Kept)) → AreYoung (kept_young now entries)
  young-aged [] = tt
  young-aged (entry ∷ entries) = at_test (nat_lt (header_at now entry.1).age 3600) refl (young-aged entries) where
    at_test : (t : Bool) → nat_lt (header_at now entry.1).age 3600 ≡ t → AreYoung (kept_young now entries) → AreYoung (cond t (entry ∷ kept_young now entries) (kept_young now entries))
    at_test true is rest = (is, rest)
    at_test false is rest = rest

  aged-young : (entries : List (ℕ × Kept)) → AreYoung entries → kept_young now entries ≡ entries
  aged-young [] young = refl
  aged-young (entry ∷ entries) young = rw young.0 (ap (λ (l : List (ℕ × Kept)). entry ∷ l) (aged-young entries young.1))

  young-put : (key : ℕ) (value : Kept) (entries : List (ℕ × Kept)) → nat_lt (header_at now value).age 3600 ≡ true → AreYoung entries → AreYoung (put_at same_number key value entries)
  young-put key value [] is young = (is, tt)
  young-put key value (entry ∷ entries) is young = at_test (key == entry.0) (young-put key value entries is young.1) where
    at_test : (t : Bool) → AreYoung (put_at same_number key value entries) → AreYoung (cond t ((key, value) ∷ entries) (entry ∷ put_at same_number key value entries))
    at_test true rest = (is, young.1)
    at_test false rest = (young.0, rest)

  -- a newer instance is young
  newer-against : (new old : LsaHeader) → against new old ≡ Newer → new.age ≢ 3600
  newer-against new old newer same = at_tests (is_more_recent old new) (is_more_recent new old) (new.age == 3600) (grind (arith, nat_tests)) newer where
    at_tests : (a b c : Bool) → c ≡ true → cond a Older (cond b (cond c Flushed Newer) Same) ≡ Newer → ⊥
    at_tests true b c is newer = cc
    at_tests false true true is newer = cc
    at_tests false true false is newer = false≢true is
    at_tests false false c is newer = cc

  newer_is_young : (lsa : RouterLsa) (entries : List (ℕ × Kept)) → answer_to same_number most_routers now lsa entries ≡ Newer → lsa.header.age < 3600
  unfolding answer_to
  newer_is_young lsa entries newer = at_kept (get_at same_number lsa.key entries) newer where
    at_kept : (o : Option Kept) → elim o [ Some instance ↦ against (capped lsa.header) (header_at now instance) | None ↦ cond (nat_le 3600 lsa.header.age) Flushed (cond (nat_le most_routers (length entries)) Dropped Newer) ] ≡ Newer → lsa.header.age < 3600
    at_kept None newer = at_test (nat_le 3600 lsa.header.age) refl newer where
      at_test : (t : Bool) → nat_le 3600 lsa.header.age ≡ t → cond t Flushed (cond (nat_le most_routers (length entries)) Dropped Newer) ≡ Newer → lsa.header.age < 3600
      at_test true is newer = cc
      at_test false is newer = grind (arith, nat_tests)
    at_kept (Some instance) newer = let other = newer-against (capped lsa.header) (header_at now instance) newer in below lsa.header.age other where
      below : (age : ℕ) → min age 3600 ≢ 3600 → age < 3600
      below age other = grind arith

  young-installed : (lsa : RouterLsa) (entries : List (ℕ × Kept)) → AreYoung entries → AreYoung (kept_after same_number most_routers now lsa entries)
  unfolding kept_after
  young-installed lsa entries young = at_answer (answer_to same_number most_routers now lsa entries) refl where
    fresh : (age : ℕ) → age < 3600 → nat_lt (min (age + (now - now)) 3600) 3600 ≡ true
    fresh age less = grind (arith, nat_tests)

    at_answer : (answer : Installation) → answer_to same_number most_routers now lsa entries ≡ answer
        → AreYoung (elim answer [
          | Newer ↦ put_at same_number lsa.key (record { lsa = lsa; since = now }) entries
          | Flushed ↦ without (same_number lsa.key) entries
          | Same ↦ entries
          | Older ↦ entries
          | Dropped ↦ entries
        ])
    at_answer Newer is = young-put lsa.key (record { lsa = lsa; since = now }) entries (fresh lsa.header.age (newer_is_young lsa entries is)) young
    at_answer Flushed is = young-filter (λ (entry : ℕ × Kept). not (same_number lsa.key entry.0)) entries young
    at_answer Same is = young
    at_answer Older is = young
    at_answer Dropped is = young

  pub young-all : (lsas : List RouterLsa) (state : LinkState) → AreYoung state.routers → AreYoung (installed_all now lsas state).routers
  unfolding installed_all installed
  young-all [] state young = young
  young-all (lsa ∷ lsas) state young = young-all lsas (installed now lsa state) (young-installed lsa state.routers young)

  pub aged-again : (state : LinkState) → AreYoung state.routers → aged now state ≡ state
  unfolding aged
  aged-again state young = ap (λ (l : List (ℕ × Kept)). record { routers = l }) (aged-young state.routers young)

  aged_is_young : (state : LinkState) → AreYoung (aged now state).routers
  unfolding aged
  aged_is_young state = young-aged state.routers

  young_or_fewer : (entries : List (ℕ × Kept)) → AreYoung entries ⊎ (length (kept_young now entries) < length entries)
  young_or_fewer [] = inl tt
  young_or_fewer (entry ∷ entries) = at_test (nat_lt (header_at now entry.1).age 3600) refl (young_or_fewer entries) where
    no_more : AreYoung entries ⊎ (length (kept_young now entries) < length entries) → length (kept_young now entries) ≤ length entries
    no_more (inl young) = let same = ap length (aged-young entries young) in omega arith
    no_more (inr less) = omega arith

    at_test : (t : Bool) → nat_lt (header_at now entry.1).age 3600 ≡ t → AreYoung entries ⊎ (length (kept_young now entries) < length entries)
        → AreYoung (entry ∷ entries) ⊎ (length (cond t (entry ∷ kept_young now entries) (kept_young now entries)) < length (entry ∷ entries))
    at_test true is (inl young) = inl (is, young)
    at_test true is (inr less) = inr (omega arith)
    at_test false is rest = let le = no_more rest in inr (omega arith)

  -- a time changes the link state or not
  pub aged_or_not : (state : LinkState) → (aged now state ≡ state) ⊎ (aged now state ≢ state)
  unfolding aged
  aged_or_not state = elim (young_or_fewer state.routers) [
    | inl young ↦ inl (ap (λ (l : List (ℕ × Kept)). record { routers = l }) (aged-young state.routers young))
    | inr less ↦ inr (λ same. absurd (let e = ap (λ (s : LinkState). length s.routers) same in omega arith))
  ]

  pub state_twice : (area : ℕ) (stream : Stream) (first second : List ℕ) (state : LinkState)
      → state_after area now (stream_after stream first) second (state_after area now stream first state) ≡ state_after area now stream (first ++ second) state
  state_twice area stream first second state =
      ap (after_packets area now (packets_of (stream_after stream first) second))
      (aged-again (state_after area now stream first state) (young-all (faultless_lsas (lsas_of_packets area (packets_of stream first))) (aged now state) (aged_is_young state)))
      ∙ sym (after_packets-append area now (packets_of stream first) (packets_of (stream_after stream first) second) (aged now state))
      ∙ ap (λ (packets : List (List ℕ)). after_packets area now packets (aged now state)) (sym (packets_twice stream first second))
