-- Offers that are put to a slot, one after another.
use Rattle.std.proofs.Common.{◌≡◌, ℕ, zero, suc, ◌+◌, ◌≤◌, true, List, [], ◌∷◌, ◌++◌, map, length, take, drop, Some, None, refl, sym, ap, subst, ◌∙◌, append-nil, arith}
use Rattle.rcp_base.specs.IpPrefix.{IpPrefix}
use Rattle.rcp_model.specs.Routes.{OfferFields}
use Rattle.rcs_shard.specs.Shards.{ShardOf, is_dirty, IsLeastDirty, taken}
use Rattle.shard_worker.specs.Offers.{dirty_of, offer_at}
use Rattle.shard_worker.specs.Ends.{PortOf}
use Rattle.shard_worker.specs.Turns.{HasPut}
use Rattle.shard_worker.proofs.DirtyLemmas.{dirty_first, others_stay}

-- ---- lists

take_next : {X : Type 0} (xs : List X) (k : ℕ) (x : X) (rest : List X) → drop k xs ≡ x ∷ rest → take (suc k) xs ≡ take k xs ++ x ∷ []
take_next [] zero x rest is = absurd cc
take_next [] (suc k) x rest is = absurd cc
take_next (y ∷ xs) zero x rest is = let same : y ≡ x = cc in ap (λ z. z ∷ []) same
take_next (y ∷ xs) (suc k) x rest is = ap (λ zs. y ∷ zs) (take_next xs k x rest is)

drop_next : {X : Type 0} (xs : List X) (k : ℕ) (x : X) (rest : List X) → drop k xs ≡ x ∷ rest → drop (suc k) xs ≡ rest
drop_next [] zero x rest is = absurd cc
drop_next [] (suc k) x rest is = absurd cc
drop_next (y ∷ xs) zero x rest is = let same : xs ≡ rest = cc in same
drop_next (y ∷ xs) (suc k) x rest is = drop_next xs k x rest is

snoc_map : {X Y : Type 0} (f : X → Y) (ys : List Y) (xs : List X) (x : X) → (ys ++ map f xs) ++ f x ∷ [] ≡ ys ++ map f (xs ++ x ∷ [])
snoc_map f [] [] x = refl
snoc_map f [] (z ∷ xs) x = ap (λ l. f z ∷ l) (snoc_map f [] xs x)
snoc_map f (y ∷ ys) xs x = ap (λ l. y ∷ l) (snoc_map f ys xs x)

-- ---- one port

-- nothing is put yet
pub put_none : (generation slot : ℕ) (shard : ShardOf) (port : PortOf) → HasPut generation slot 0 shard shard port port
put_none generation slot shard port = record {
  shard = refl;
  port = ap (λ (put : List OfferFields). record port { put = put; refusals = port.refusals }) (sym (append-nil port.put));
  rest = refl;
  others = λ other differs. refl;
}

-- the port after one offer more
abbrev pub put_one : PortOf → OfferFields → PortOf
put_one port o = record port { put = port.put ++ o ∷ [] }

module _ (generation slot count : ℕ) (before now : ShardOf) (old new : PortOf) (h : HasPut generation slot count before now old new) where
  same_offer : (p : IpPrefix) → offer_at now generation slot p ≡ offer_at before generation slot p
  same_offer p = ap (λ (s : ShardOf). offer_at s generation slot p) h.shard

  pub put_next : (p : IpPrefix) → IsLeastDirty now slot (Some p)
      → HasPut generation slot (suc count) before (taken slot (Some p) now) old (put_one new (offer_at now generation slot p))
  put_next p least =
      let first : drop count (dirty_of before slot) ≡ p ∷ dirty_of (taken slot (Some p) now) slot = sym h.rest ∙ dirty_first now slot p least in
      let more : take (suc count) (dirty_of before slot) ≡ take count (dirty_of before slot) ++ p ∷ [] = take_next (dirty_of before slot) count p (dirty_of (taken slot (Some p) now) slot) first in
      record {
        shard = ap (λ (s : ShardOf). record s { dirty = (taken slot (Some p) now).dirty }) h.shard;
        port =
            (λ i. put_one (h.port i) (same_offer p i))
            ∙ ap (λ (put : List OfferFields). record old { put = put; refusals = new.refusals })
            (snoc_map (offer_at before generation slot) old.put (take count (dirty_of before slot)) p ∙ ap (λ ps. old.put ++ map (offer_at before generation slot) ps) (sym more));
        rest = sym (drop_next (dirty_of before slot) count p (dirty_of (taken slot (Some p) now) slot) first);
        others = λ other differs. others_stay now slot p other differs ∙ h.others other differs;
      }

  -- a refusal more is no other port
  pub put_refused : (refusals : ℕ) → HasPut generation slot count before now old (record new { refusals = refusals })
  put_refused refusals = record {
    shard = h.shard;
    port = ap (λ (port : PortOf). record port { refusals = refusals }) h.port;
    rest = h.rest;
    others = h.others;
  }

-- the same where the shard and the port are given otherwise
pub put_as : (generation slot count : ℕ) (before now now' : ShardOf) (old new new' : PortOf) → now' ≡ now → new' ≡ new
    → HasPut generation slot count before now old new → HasPut generation slot count before now' old new'
put_as generation slot count before now now' old new new' shard port h =
    subst (λ (s : ShardOf). HasPut generation slot count before s old new') (sym shard) (subst (λ (q : PortOf). HasPut generation slot count before now old q) (sym port) h)

pub fewer_left : (shard : ShardOf) (slot : ℕ) (p : IpPrefix) → IsLeastDirty shard slot (Some p) → length (dirty_of (taken slot (Some p) shard) slot) + 1 ≤ length (dirty_of shard slot)
fewer_left shard slot p least = let more = ap length (dirty_first shard slot p least) in omega (arith, more)

pub none_left : (shard : ShardOf) (slot : ℕ) (p : IpPrefix) → IsLeastDirty shard slot None → is_dirty shard slot p ≡ true → ⊥
none_left shard slot p none dirty = none p dirty
