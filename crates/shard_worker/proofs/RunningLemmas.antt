-- What a message in place does to a running shard with a place for each slot's generation.
use Rattle.std.proofs.Common.{◌≡◌, ℕ, ◌<◌, ◌≤◌, true, false, cond, not, ◌&&◌, eqb, ltb, List, [], ◌∷◌, map, length, take, get_or, refl, sym, ap, subst, ◌∙◌, arith}
use Rattle.std.specs.List.{list_all}
use Rattle.std.specs.Cmp.Lexicographic.{pointwise_decides}
use Rattle.std.proofs.Math.ListN.{set}
use Rattle.std.proofs.Math.Seq.{take-set-lt}
use Rattle.std.proofs.lemmas.List.{get_or-take}
use Rattle.std.proofs.lemmas.Bool.{and_parts, and_from, eqb-true, eq-eqb, lt-ltb}
use Rattle.rcp_base.specs.declared.names.Member.{Member}
use Rattle.rcp_model.specs.ServerRibs.{Up}
use Rattle.rcp_model.specs.declared.rcs_mail.ShardMail.TheVariants as mail
use Rattle.rcs_shard.specs.Shards.{ShardOf, is_connected, acted}
use Rattle.shard_worker.specs.Runs.{RunOf, run_in, is_own, same_member, same_members, after_message}

-- ---- members

decided : (a b : Member) → (same_member a b ≡ true → a ≡ b) × (a ≡ b → same_member a b ≡ true)
decided a b = (
  λ same.
      let both = and_parts (eqb a.router b.router) (eqb a.bgp_id b.bgp_id) same in
      λ i. record { router = eqb-true a.router b.router both.0 i; bgp_id = eqb-true a.bgp_id b.bgp_id both.1 i },
  λ same. subst (λ (m : Member). same_member a m ≡ true) same (and_from (eqb a.router a.router) (eqb a.bgp_id a.bgp_id) (eq-eqb a.router a.router refl) (eq-eqb a.bgp_id a.bgp_id refl)),
)

pub members_equal : (members others : List Member) → same_members members others ≡ true → members ≡ others
members_equal members others = (pointwise_decides decided members others).0

-- ---- generations

-- as many zeros as there are members
pub zeros : {X : Type 0} (xs : List X) (generations : List ℕ) → length xs ≤ length generations → list_all (λ g. eqb g 0) generations ≡ true → take (length xs) generations ≡ map (λ _. 0) xs
zeros [] generations fits all = refl
zeros (x ∷ xs) [] fits all = absurd (omega arith)
zeros (x ∷ xs) (g ∷ generations) fits all =
    let both = and_parts (eqb g 0) (list_all (λ h. eqb h 0) generations) all in
    let shorter : length xs ≤ length generations = omega arith in
    λ i. eqb-true g 0 both.0 i ∷ zeros xs generations shorter both.1 i

-- Up in place
pub up_in_place : (shard : ShardOf) (generations : List ℕ) (sender slot generation : ℕ) (run : RunOf) → run_in shard generations ≡ run
    → is_own shard sender slot ≡ true → is_connected shard slot ≡ false → get_or generations slot 0 < generation
    → run_in (acted (Up slot) shard) (set generations slot generation) ≡ after_message (sender, mail.Up slot generation) run
up_in_place shard generations sender slot generation run is own down above =
    let below : slot < length shard.members = below_of (length shard.members) (and_parts (eqb sender slot) (ltb slot (length shard.members)) own).1 in
    let last = get_or-take (length shard.members) generations slot 0 below in
    let new : ltb (get_or (take (length shard.members) generations) slot 0) generation ≡ true = ap (λ n. ltb n generation) last ∙ lt-ltb (get_or generations slot 0) generation above in
    ap (λ g. record { shard = acted (Up slot) shard; generations = g }) (take-set-lt (length shard.members) generations slot generation below)
    ∙ sym (ap (λ b. cond b (record { shard = acted (Up slot) shard; generations = set (take (length shard.members) generations) slot generation }) (run_in shard generations))
    (λ i. own i && (not (down i) && new i)))
    ∙ ap (after_message (sender, mail.Up slot generation)) is where
      below_of : (n : ℕ) → ltb slot n ≡ true → slot < n
      below_of n e = grind (arith, e)
