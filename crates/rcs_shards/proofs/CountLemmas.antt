-- Counts of all shards, added up as far as they go.
use Rattle.std.proofs.Common.{◌≡◌, ℕ, zero, suc, ◌+◌, ◌<◌, ◌≤◌, List, [], ◌∷◌, ◌++◌, length, take, get_or, refl, sym, ap, ◌∙◌, add-one, arith}
use Rattle.std.specs.Prelude.{min}
use Rattle.std.proofs.Math.Seq.{take-suc}
use Rattle.std.proofs.lemmas.List.{map-append}
use Rattle.feed_meaning.specs.OutRecords.{MOST}
use Rattle.rcp_model.specs.Routes.{RouteFields}
use Rattle.rcp_model.specs.ServerRibs.{Ribs}
use Rattle.platform_laws.specs.Asked.{sum_over}
use Rattle.rcs_shard.specs.Shards.{ShardOf}
use Rattle.rcs_shards.specs.Dirty.{ribs_in}

module _ (f : Ribs RouteFields → ℕ) where
  sum-append : (xs ys : List (Ribs RouteFields)) → sum_over f (xs ++ ys) ≡ sum_over f xs + sum_over f ys
  sum-append [] ys = omega arith
  sum-append (x ∷ xs) ys = let rest = sum-append xs ys in omega (arith, rest)

  capped : (a b : ℕ) → min (min a MOST + b) MOST ≡ min (a + b) MOST
  capped a b = omega arith

  pub count-turn : (shards : List ShardOf) (i : ℕ) (s : ShardOf) → i < length shards → s ≡ get_or shards i s → (count more sum : ℕ)
      → count ≡ min (sum_over f (ribs_in (take i shards))) MOST → more ≡ f s.ribs → sum ≡ min (count + more) MOST → sum ≡ min (sum_over f (ribs_in (take (i + 1) shards))) MOST
  count-turn shards i s low read count more sum so_far this is =
      let next : sum_over f (ribs_in (take (i + 1) shards)) ≡ sum_over f (ribs_in (take i shards)) + (f s.ribs + 0) =
      ap (λ k. sum_over f (ribs_in (take k shards))) (add-one i)
      ∙ ap (λ l. sum_over f (ribs_in l)) (take-suc shards i s low ∙ ap (λ t. take i shards ++ t ∷ []) (sym read))
      ∙ ap (sum_over f) (map-append (λ (t : ShardOf). t.ribs) (take i shards) (s ∷ []))
      ∙ sum-append (ribs_in (take i shards)) (s.ribs ∷ []) in
      is
      ∙ (λ k. min (so_far k + this k) MOST)
      ∙ capped (sum_over f (ribs_in (take i shards))) (f s.ribs)
      ∙ ap (λ n. min n MOST) (omega (arith, next))

  pub count-all : (shards : List ShardOf) (i count : ℕ) → count ≡ min (sum_over f (ribs_in (take i shards))) MOST → length shards ≤ i → count ≡ min (sum_over f (ribs_in shards)) MOST
  count-all shards i count so_far all = so_far ∙ ap (λ l. min (sum_over f (ribs_in l)) MOST) (take_past shards i all) where
    take_past : (xs : List ShardOf) (n : ℕ) → length xs ≤ n → take n xs ≡ xs
    take_past [] zero past = refl
    take_past [] (suc n) past = refl
    take_past (x ∷ xs) zero past = absurd (omega (arith, past))
    take_past (x ∷ xs) (suc n) past = ap (λ l. x ∷ l) (take_past xs n (omega (arith, past)))
