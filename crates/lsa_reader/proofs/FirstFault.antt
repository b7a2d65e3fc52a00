-- Which of the four checks is the first that fails.
use Rattle.std.proofs.Common.{◌≡◌, ◌≢◌, ◌<◌, ◌≤◌, ◌∙◌, ◌∷◌, [], inl, inr, subst, IsErrAnd, ◌||◌, ◌⊎◌, ℕ, Bool, true, false, not, List, Option, Some, None, is_none, Result, Ok, Err, eqb, ltb, length, drop, ap, sym, refl, arith}
use Rattle.std.proofs.lemmas.Bool.{lt-ltb, le-ltb, eq-eqb}
use Rattle.std.proofs.lemmas.Bool.Decides.{nat_tests}
use Rattle.std.proofs.Common.{ℤ, ◌^◌}
use Rattle.std.proofs.lemmas.Int.{of_z-to_z}
use Rattle.std.specs.Int.{w32, cast_signed, cast_unsigned}
use Rattle.std.specs.Option.{unwrap_or}
use Rattle.rcp_model.specs.LinkState.{RouterLink, RouterLsa}
use Rattle.rcp_model.specs.declared.lsa_fault.LsaFault.{LsaFault}
use Rattle.rcp_model.specs.declared.lsa_fault.LsaFault.TheVariants.{Short, Checksum, Links, Owner}
use Rattle.lsa_reader.specs.declared.lsa.LsaRefusal.{LsaRefusal}
use Rattle.lsa_reader.specs.declared.lsa.LsaRefusal.TheVariants.{Fault, NoMemory}
use Rattle.std.specs.Option.{ok_or}
use Rattle.rcp_base.specs.Checks.{first_failing, unless}
use Rattle.rcp_model.specs.RouterLsas.{has_zero_sums, summed, age_field, sequence_field, checksum_field, links_in, link_count, link_state_id, advertising_router, lsa_of, lsa_checks, lsa_at}
use Rattle.lsa_reader.specs.Answers.{Refuses, Gives}
use Rattle.lsa_reader.specs.Room.{HasLink, TakesRoom}

-- the answer by what each check says
abbrev judged : Bool → Bool → Bool → Bool → RouterLsa → Result RouterLsa LsaFault
judged short sums links owner lsa =
    unless (first_failing ((short, Short) ∷ (sums, Checksum) ∷ (links, Links) ∷ (owner, Owner) ∷ [])) lsa

abbrev is_short : List ℕ → Bool
is_short octets = ltb (length octets) 24

abbrev is_unsummed : List ℕ → Bool
is_unsummed octets = not (has_zero_sums (summed octets)) || eqb (checksum_field octets) 0

abbrev is_unfilled : List ℕ → Bool
is_unfilled octets = is_none (links_in (link_count octets) (drop 24 octets))

abbrev is_foreign : List ℕ → Bool
is_foreign octets = not (eqb (link_state_id octets) (advertising_router octets))

lsa_at-judged : (octets : List ℕ) → lsa_at octets ≡ judged (is_short octets) (is_unsummed octets) (is_unfilled octets) (is_foreign octets) (lsa_of octets)
unfolding lsa_at lsa_checks
lsa_at-judged octets = refl

judged-short : (a b c d : Bool) (lsa : RouterLsa) → a ≡ true → judged a b c d lsa ≡ Err Short
judged-short a b c d lsa e = ap (λ x. judged x b c d lsa) e

judged-checksum : (a b c d : Bool) (lsa : RouterLsa) → a ≡ false → b ≡ true → judged a b c d lsa ≡ Err Checksum
judged-checksum a b c d lsa e f = ap (λ x. judged x b c d lsa) e ∙ ap (λ x. judged false x c d lsa) f

judged-links : (a b c d : Bool) (lsa : RouterLsa) → a ≡ false → b ≡ false → c ≡ true → judged a b c d lsa ≡ Err Links
judged-links a b c d lsa e f g =
    ap (λ x. judged x b c d lsa) e ∙ ap (λ x. judged false x c d lsa) f ∙ ap (λ x. judged false false x d lsa) g

judged-owner : (a b c d : Bool) (lsa : RouterLsa) → a ≡ false → b ≡ false → c ≡ false → d ≡ true → judged a b c d lsa ≡ Err Owner
judged-owner a b c d lsa e f g h =
    ap (λ x. judged x b c d lsa) e ∙ ap (λ x. judged false x c d lsa) f ∙ ap (λ x. judged false false x d lsa) g
    ∙ ap (λ x. judged false false false x lsa) h

judged-ok : (a b c d : Bool) (lsa : RouterLsa) → a ≡ false → b ≡ false → c ≡ false → d ≡ false → judged a b c d lsa ≡ Ok lsa
judged-ok a b c d lsa e f g h =
    ap (λ x. judged x b c d lsa) e ∙ ap (λ x. judged false x c d lsa) f ∙ ap (λ x. judged false false x d lsa) g
    ∙ ap (λ x. judged false false false x lsa) h

-- the answer by what the octets are

unsummed : (sums : Bool) (checksum : ℕ) → (sums ≡ false) ⊎ (checksum ≡ 0) → (not sums || eqb checksum 0) ≡ true
unsummed sums checksum e = grind (arith, nat_tests)

summed_well : (sums : Bool) (checksum : ℕ) → sums ≡ true → checksum ≢ 0 → (not sums || eqb checksum 0) ≡ false
summed_well sums checksum e f = grind (arith, nat_tests)

differs : (a b : ℕ) → a ≢ b → eqb a b ≡ false
differs a b ne = grind (arith, nat_tests)

pub lsa_at-short : (octets : List ℕ) → length octets < 24 → lsa_at octets ≡ Err Short
lsa_at-short octets less = lsa_at-judged octets ∙ judged-short _ _ _ _ _ (lt-ltb _ _ less)

pub lsa_at-checksum : (octets : List ℕ) → 24 ≤ length octets →
    (has_zero_sums (summed octets) ≡ false) ⊎ (checksum_field octets ≡ 0) → lsa_at octets ≡ Err Checksum
lsa_at-checksum octets long e = lsa_at-judged octets ∙ judged-checksum _ _ _ _ _ (le-ltb _ _ long) (unsummed _ _ e)

-- the first two checks are passed
pub record IsSummed (octets : List ℕ) : Type 0 where
  pub long : 24 ≤ length octets
  pub sums : has_zero_sums (summed octets) ≡ true
  pub checksum : checksum_field octets ≢ 0

pub lsa_at-links : (octets : List ℕ) → IsSummed octets → links_in (link_count octets) (drop 24 octets) ≡ None → lsa_at octets ≡ Err Links
lsa_at-links octets s e =
    lsa_at-judged octets ∙ judged-links _ _ _ _ _ (le-ltb _ _ s.long) (summed_well _ _ s.sums s.checksum) (ap is_none e)

pub lsa_at-owner : (octets : List ℕ) (links : List RouterLink) → IsSummed octets →
    links_in (link_count octets) (drop 24 octets) ≡ Some links → link_state_id octets ≢ advertising_router octets → lsa_at octets ≡ Err Owner
lsa_at-owner octets links s e f =
    lsa_at-judged octets
    ∙ judged-owner _ _ _ _ _ (le-ltb _ _ s.long) (summed_well _ _ s.sums s.checksum) (ap is_none e) (ap not (differs _ _ f))

pub lsa_at-ok : (octets : List ℕ) (links : List RouterLink) → IsSummed octets →
    links_in (link_count octets) (drop 24 octets) ≡ Some links → link_state_id octets ≡ advertising_router octets →
    lsa_at octets ≡ Ok (record {
      key = advertising_router octets;
      header = record { sequence = sequence_field octets; checksum = checksum_field octets; age = age_field octets };
      content = links;
    })
lsa_at-ok octets links s e f =
    lsa_at-judged octets
    ∙ judged-ok _ _ _ _ _ (le-ltb _ _ s.long) (summed_well _ _ s.sums s.checksum) (ap is_none e) (ap not (eq-eqb _ _ f))
    ∙ ap (λ found. let lsa : RouterLsa = record {
      key = advertising_router octets;
      header = record { sequence = sequence_field octets; checksum = checksum_field octets; age = age_field octets };
      content = unwrap_or found [];
    } in Ok lsa) e

-- no other check is the first that fails
not_first : (links owner : Bool) (lsa : RouterLsa) → (judged false false links owner lsa ≢ Err Short) × (judged false false links owner lsa ≢ Err Checksum)
not_first true owner lsa = (λ e. cc, λ e. cc)
not_first false true lsa = (λ e. cc, λ e. cc)
not_first false false lsa = (λ e. cc, λ e. cc)

pub takes_room : (octets rest : List ℕ) (count : ℕ) → IsSummed octets → count ≡ link_count octets → rest ≡ drop 24 octets → HasLink count rest → TakesRoom octets
takes_room octets rest count s is_count is_rest link =
    let judged_so = lsa_at-judged octets ∙ ap (λ x. judged x (is_unsummed octets) (is_unfilled octets) (is_foreign octets) (lsa_of octets)) (le-ltb _ _ s.long)
    ∙ ap (λ x. judged false x (is_unfilled octets) (is_foreign octets) (lsa_of octets)) (summed_well _ _ s.sums s.checksum) in
    let not = not_first (is_unfilled octets) (is_foreign octets) (lsa_of octets) in
    record {
      long = λ e. not.0 (sym judged_so ∙ e);
      summed = λ e. not.1 (sym judged_so ∙ e);
      link = subst (λ n. HasLink n (drop 24 octets)) is_count (subst (HasLink count) is_rest link);
    }

-- what the reader of the links refuses is refused of the LSA
pub Refuses-links : (octets : List ℕ) → IsSummed octets → (e : LsaRefusal) →
    Refuses e (ok_or (links_in (link_count octets) (drop 24 octets)) Links) → Refuses e (lsa_at octets)
Refuses-links octets s NoMemory h = tt
Refuses-links octets s (Fault f) h = only_none (links_in (link_count octets) (drop 24 octets)) refl h
  where
    only_none : (found : Option (List RouterLink)) → links_in (link_count octets) (drop 24 octets) ≡ found → ok_or found Links ≡ Err f → lsa_at octets ≡ Err f
    only_none None e h = lsa_at-links octets s e ∙ cc
    only_none (Some links) e h = cc

-- ---- from what the code computed to the octets

pub IsSummed-from_code : (octets rest : List ℕ) (sums : Bool) (checksum : ℕ) → 24 ≤ length octets → sums ≡ true →
    sums ≡ has_zero_sums rest → rest ≡ drop 2 octets → checksum ≡ checksum_field octets → (checksum ≡ 0 → ⊥) → IsSummed octets
IsSummed-from_code octets rest sums checksum long is_true is_sums is_rest is_checksum not_zero =
    record {
      long = long;
      sums = ap has_zero_sums (sym is_rest) ∙ sym is_sums ∙ is_true;
      checksum = λ zero. not_zero (is_checksum ∙ zero);
    }

pub unsummed-from_code : (octets rest : List ℕ) (sums : Bool) (checksum : ℕ) →
    sums ≡ has_zero_sums rest → rest ≡ drop 2 octets → checksum ≡ checksum_field octets →
    (sums ≡ false) ⊎ ((sums ≡ true) × (checksum ≡ 0)) → (has_zero_sums (summed octets) ≡ false) ⊎ (checksum_field octets ≡ 0)
unsummed-from_code octets rest sums checksum is_sums is_rest is_checksum (inl failed) = inl (ap has_zero_sums (sym is_rest) ∙ sym is_sums ∙ failed)
unsummed-from_code octets rest sums checksum is_sums is_rest is_checksum (inr zero) = inr (sym is_checksum ∙ zero.1)

some_from_ok : (found : Option (List RouterLink)) (links : List RouterLink) → ok_or found Links ≡ Ok links → found ≡ Some links
some_from_ok None links e = cc
some_from_ok (Some others) links e = cc

pub links_found : (octets rest : List ℕ) (count : ℕ) (links : List RouterLink) → count ≡ link_count octets → rest ≡ drop 24 octets →
    ok_or (links_in count rest) Links ≡ Ok links → links_in (link_count octets) (drop 24 octets) ≡ Some links
links_found octets rest count links is_count is_rest e =
    ap (λ n. links_in n (drop 24 octets)) (sym is_count) ∙ ap (λ xs. links_in count xs) (sym is_rest) ∙ some_from_ok (links_in count rest) links e

refused_alike : (f : LsaRefusal) (a b : Result (List RouterLink) LsaFault) → a ≡ b → Refuses f a → Refuses f b
refused_alike (Fault f) a b e h = sym e ∙ h
refused_alike NoMemory a b e h = tt

pub links_refused : (octets rest : List ℕ) (count : ℕ) (f : LsaRefusal) → IsSummed octets → count ≡ link_count octets → rest ≡ drop 24 octets →
    Refuses f (ok_or (links_in count rest) Links) → Refuses f (lsa_at octets)
links_refused octets rest count f s is_count is_rest h =
    Refuses-links octets s f
    (refused_alike f (ok_or (links_in count rest) Links) (ok_or (links_in (link_count octets) (drop 24 octets)) Links)
    (ap (λ n. ok_or (links_in n rest) Links) is_count ∙ ap (λ xs. ok_or (links_in (link_count octets) xs) Links) is_rest) h)

pub error_same : {X : Type 0} (r : Result X LsaRefusal) (e f : LsaRefusal) → IsErrAnd r (λ g. g ≡ e) → r ≡ Err f → e ≡ f
error_same (Ok x) e f h is = elim h [ ]
error_same (Err g) e f h is = let same : g ≡ f = cc in sym h ∙ same

pub Gives-err : {X Y : Type 0} (view : X → Y) (r : Result X LsaRefusal) (e : LsaRefusal) (said : Result Y LsaFault) →
    IsErrAnd r (λ f. f ≡ e) → Refuses e said → Gives view r said
Gives-err view (Ok x) e said h refused = elim h [ ]
Gives-err {Y = Y} view (Err f) e said h refused = let P : LsaRefusal → Type 0 = λ g. Refuses {Y = Y} g said in subst P (sym h) refused

-- an LSA from equal parts, its sequence number out of 32 bits
pub lsa_from_parts : (router router' age age' checksum checksum' bits bits' : ℕ) (sequence : ℤ) (links : List RouterLink) →
    router ≡ router' → age ≡ age' → checksum ≡ checksum' → bits ≡ bits' → bits < 2 ^ 32 → sequence ≡ cast_signed w32 bits →
    (let a : RouterLsa = record { key = router'; header = record { sequence = cast_signed w32 bits'; checksum = checksum'; age = age' }; content = links } in
    let b : RouterLsa = record { key = router; header = record { sequence = cast_signed w32 (cast_unsigned w32 sequence); checksum = checksum; age = age }; content = links } in
    let said : Result RouterLsa LsaFault = Ok a in said ≡ Ok b)
lsa_from_parts router router' age age' checksum checksum' bits bits' sequence links e f g h fits q =
    let same : cast_signed w32 bits' ≡ cast_signed w32 (cast_unsigned w32 sequence) =
    ap (cast_signed w32) (sym h) ∙ ap (cast_signed w32) (sym (of_z-to_z w32 bits fits)) ∙ ap (λ z. cast_signed w32 (cast_unsigned w32 z)) (sym q) in
    ap (λ n. let a : RouterLsa = record { key = n; header = record { sequence = cast_signed w32 bits'; checksum = checksum'; age = age' }; content = links } in Ok a) (sym e)
    ∙ ap (λ n. let a : RouterLsa = record { key = router; header = record { sequence = cast_signed w32 bits'; checksum = checksum'; age = n }; content = links } in Ok a) (sym f)
    ∙ ap (λ n. let a : RouterLsa = record { key = router; header = record { sequence = cast_signed w32 bits'; checksum = n; age = age }; content = links } in Ok a) (sym g)
    ∙ ap (λ z. let a : RouterLsa = record { key = router; header = record { sequence = z; checksum = checksum; age = age }; content = links } in Ok a) same
