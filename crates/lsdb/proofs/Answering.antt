-- What becomes of an LSA, by what is found at its router.
use Rattle.std.proofs.Common.{◌≡◌, ℕ, ◌+◌, ◌<◌, ◌≤◌, true, false, leb, List, length, min, Some, None, refl, ap, ap₂, subst, ◌∙◌, arith, le-leb}
use Rattle.std.proofs.lemmas.Bool.{lt-leb}
use Rattle.rcp_base.specs.Maps.{get_at}
use Rattle.rcp_model.specs.LinkState.{LsaHeader, RouterLsa, Kept, LinkState, same_number, Newer, Flushed, Dropped, capped, header_at, against, answer_to, installation}
use Rattle.lsdb.specs.Databases.{header_after}

abbrev pub state_of : List (ℕ × Kept) → LinkState
state_of routers = record { routers = routers }

header-now : (lsa : RouterLsa) → header_after 0 lsa ≡ capped lsa.header
header-now lsa = let same : lsa.header.age + 0 ≡ lsa.header.age = omega arith in ap (λ (age : ℕ). let header : LsaHeader = record { sequence = lsa.header.sequence; checksum = lsa.header.checksum; age = min age 3600 } in header) same

module _ (now : ℕ) (lsa : RouterLsa) (router : ℕ) (routers : List (ℕ × Kept)) where
  pub answer-kept : (kept : Kept) (new old : LsaHeader) → router ≡ lsa.key → get_at same_number router routers ≡ Some kept → new ≡ header_after 0 lsa → old ≡ header_at now kept
      → against new old ≡ installation now lsa (state_of routers)
  unfolding installation answer_to
  answer-kept kept new old is found new-is old-is =
      let here : get_at same_number lsa.key routers ≡ Some kept = subst (λ k. get_at same_number k routers ≡ Some kept) is found in
      rw here (ap₂ against (new-is ∙ header-now lsa) old-is)

  module _ (is : router ≡ lsa.key) (found : get_at same_number router routers ≡ None) (age : ℕ) (age_is : age ≡ lsa.header.age) where
    here : get_at same_number lsa.key routers ≡ None
    here = subst (λ k. get_at same_number k routers ≡ None) is found

    pub answer-flushed : 3600 ≤ age → Flushed ≡ installation now lsa (state_of routers)
    unfolding installation answer_to
    answer-flushed old = let test : leb 3600 lsa.header.age ≡ true = le-leb 3600 lsa.header.age (omega arith) in rw (here, test) refl

    pub answer-dropped : age < 3600 → (count : ℕ) → count ≡ length routers → 2048 ≤ count → Dropped ≡ installation now lsa (state_of routers)
    unfolding installation answer_to
    answer-dropped young count count_is full =
        let test : leb 3600 lsa.header.age ≡ false = lt-leb 3600 lsa.header.age (omega arith) in
        let no_place : leb 2048 (length routers) ≡ true = le-leb 2048 (length routers) (omega arith) in
        rw (here, test, no_place) refl

    pub answer-newer : age < 3600 → (count : ℕ) → count ≡ length routers → count < 2048 → Newer ≡ installation now lsa (state_of routers)
    unfolding installation answer_to
    answer-newer young count count_is place =
        let test : leb 3600 lsa.header.age ≡ false = lt-leb 3600 lsa.header.age (omega arith) in
        let has_place : leb 2048 (length routers) ≡ false = lt-leb 2048 (length routers) (omega arith) in
        rw (here, test, has_place) refl
