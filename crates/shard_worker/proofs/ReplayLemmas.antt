-- What offers replay to.
use Rattle.std.proofs.Common.{◌≡◌, ℕ, ◌<◌, ◌≤◌, Bool, true, false, cond, ◌&&◌, ◌||◌, eqb, List, [], ◌∷◌, ◌++◌, map, Option, None, refl, sym, ap, ◌∙◌, arith}
use Rattle.std.specs.List.{AllByRecursion}
use Rattle.std.proofs.lemmas.Bool.{eq-eqb, ne_eqb}
use Rattle.std.proofs.lemmas.Bool.Decides.{nat_tests}
use Rattle.rcp_base.specs.IpPrefix.{IpPrefix}
use Rattle.rcp_base.specs.Maps.{same_prefix, is_among}
use Rattle.rcp_base.proofs.MapLemmas.{same_prefix-is}
use Rattle.rcp_model.specs.Routes.{OfferFields}
use Rattle.platform_laws.specs.Asked.{octets_of}
use Rattle.rcs_shard.specs.Shards.{ShardOf, given_at}
use Rattle.shard_worker.specs.Offers.{offer_at, replayed_from, replayed}

-- those of a list that goes on come after those before
pub replayed_after : (last : Option (List ℕ)) (g : ℕ) (p : IpPrefix) (first later : List OfferFields)
    → replayed_from last g p (first ++ later) ≡ replayed_from (replayed_from last g p first) g p later
replayed_after last g p [] later = refl
replayed_after last g p (o ∷ first) later = replayed_after (cond (eqb o.generation g && same_prefix o.prefix p) o.attrs last) g p first later

-- where all have a lower generation there is nothing
pub nothing_of : (g past : ℕ) (p : IpPrefix) (offers : List OfferFields) → past < g → AllByRecursion (λ o. o.generation ≤ past) offers → replayed g p offers ≡ None
nothing_of g past p [] above all = refl
nothing_of g past p (o ∷ offers) above all =
    let low = all.0 in
    let differs : o.generation ≡ g → ⊥ = λ same. omega (arith, same, low, above) in
    ap (λ b. replayed_from (cond (b && same_prefix o.prefix p) o.attrs None) g p offers) (ne_eqb o.generation g differs)
    ∙ nothing_of g past p offers above all.1

turned : (a b : IpPrefix) → same_prefix a b ≡ same_prefix b a
turned a b = λ i. swap a.addr b.addr i && swap a.len b.len i where
  swap : (m n : ℕ) → eqb m n ≡ eqb n m
  swap m n = grind (arith, nat_tests)

either_way : {X : Type 0} (b : Bool) (x : X) → cond b x x ≡ x
either_way true x = refl
either_way false x = refl

-- a slot's offers of these prefixes come to what it is given there
pub offers_give : (shard : ShardOf) (g slot : ℕ) (p : IpPrefix) (ps : List IpPrefix) (last : Option (List ℕ))
    → replayed_from last g p (map (offer_at shard g slot) ps) ≡ cond (is_among ps p) (octets_of (given_at shard slot p)) last
offers_give shard g slot p [] last = refl
offers_give shard g slot p (q ∷ ps) last =
    ap (λ b. replayed_from (cond (b && same_prefix q p) (octets_of (given_at shard slot q)) last) g p (map (offer_at shard g slot) ps)) (eq-eqb g g refl)
    ∙ at_test (same_prefix q p) refl (offers_give shard g slot p ps (octets_of (given_at shard slot q))) (offers_give shard g slot p ps last) where
      at_test : (b : Bool) → same_prefix q p ≡ b
          → replayed_from (octets_of (given_at shard slot q)) g p (map (offer_at shard g slot) ps) ≡ cond (is_among ps p) (octets_of (given_at shard slot p)) (octets_of (given_at shard slot q))
          → replayed_from last g p (map (offer_at shard g slot) ps) ≡ cond (is_among ps p) (octets_of (given_at shard slot p)) last
          → replayed_from (cond (same_prefix q p) (octets_of (given_at shard slot q)) last) g p (map (offer_at shard g slot) ps)
          ≡ cond (same_prefix p q || is_among ps p) (octets_of (given_at shard slot p)) last
      at_test true same set kept =
          ap (λ b. replayed_from (cond b (octets_of (given_at shard slot q)) last) g p (map (offer_at shard g slot) ps)) same
          ∙ set
          ∙ ap (λ r. cond (is_among ps p) (octets_of (given_at shard slot p)) (octets_of (given_at shard slot r))) (same_prefix-is q p same)
          ∙ either_way (is_among ps p) (octets_of (given_at shard slot p))
          ∙ sym (ap (λ b. cond (b || is_among ps p) (octets_of (given_at shard slot p)) last) (turned p q ∙ same))
      at_test false other set kept =
          ap (λ b. replayed_from (cond b (octets_of (given_at shard slot q)) last) g p (map (offer_at shard g slot) ps)) other
          ∙ kept
          ∙ sym (ap (λ b. cond (b || is_among ps p) (octets_of (given_at shard slot p)) last) (turned p q ∙ other))

pub all_append : {X : Type 0} (P : X → Type 0) (xs ys : List X) → AllByRecursion P xs → AllByRecursion P ys → AllByRecursion P (xs ++ ys)
all_append P [] ys first later = later
all_append P (x ∷ xs) ys first later = (first.0, all_append P xs ys first.1 later)

pub all_weaker : {X : Type 0} (P Q : X → Type 0) (xs : List X) → ((x : X) → P x → Q x) → AllByRecursion P xs → AllByRecursion Q xs
all_weaker P Q [] weaker all = tt
all_weaker P Q (x ∷ xs) weaker all = (weaker x all.0, all_weaker P Q xs weaker all.1)

pub all_of_offers : (shard : ShardOf) (g slot : ℕ) (ps : List IpPrefix) → AllByRecursion (λ (o : OfferFields). o.generation ≤ g) (map (offer_at shard g slot) ps)
all_of_offers shard g slot [] = tt
all_of_offers shard g slot (p ∷ ps) = (omega arith, all_of_offers shard g slot ps)
