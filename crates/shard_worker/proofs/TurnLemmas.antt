-- What a turn leaves.
use Rattle.std.proofs.Common.{◌≡◌, ℕ, zero, suc, List, [], ◌∷◌, ◌++◌, length, take, drop, Result, Ok, Err, OnErr, refl, sym, ap, subst, ◌∙◌, arith}
use Rattle.rcs_shard.specs.Shards.{ShardOf}
use Rattle.shard_worker.specs.Runs.{Letter, RunOf, started, after_messages, pending_of, worked_off}
use Rattle.shard_worker.specs.Ends.{InboxOf, PortOf}
use Rattle.shard_worker.specs.Workers.{AreAlike, IsWorker}
use Rattle.shard_worker.specs.Turns.{taken_since, AreOffered, HasLost, HasAnnounce}
use Rattle.shard_worker.proofs.StartLemmas.{alike_then, alike_messages, alike_prefixes, messages_append}
use Rattle.shard_worker.proofs.KeptLemmas.{kept_messages, kept_work, kept_offers}
use Rattle.shard_worker.proofs.MailLemmas.{since, last_among}

-- a list that was lent as a slice is what was written to the slice
pub written_back : {X : Type 0} (n : ℕ) (xs ys : List X) → length xs ≡ n → length ys ≡ n → take n (xs ++ drop (length xs) ys) ≡ xs
written_back zero [] ys new old = refl
written_back zero (x ∷ xs) ys new old = absurd (omega arith)
written_back (suc n) [] ys new old = absurd (omega arith)
written_back (suc n) (x ∷ xs) [] new old = absurd (omega arith)
written_back (suc n) (x ∷ xs) (y ∷ ys) new old = ap (λ l. x ∷ l) (written_back n xs ys (omega arith) (omega arith))

pub on_err : {X E : Type 0} (P : Type 0) (r : Result X E) → P → OnErr r P
on_err P (Ok x) p = tt
on_err P (Err e) p = p

-- a turn that took messages and worked
module _ (budget : ℕ) (before after : InboxOf) (old : List PortOf) (run taken worked : RunOf)
    (messages : taken ≡ after_messages (taken_since before after) run) (work : worked ≡ worked_off budget taken) where
  work_is : worked ≡ worked_off budget (after_messages (taken_since before after) run)
  work_is = work ∙ ap (worked_off budget) messages

  pub worked_of : IsWorker run old → IsWorker worked old
  worked_of h =
      subst (λ (r : RunOf). IsWorker r old) (sym work_is) (kept_work budget (after_messages (taken_since before after) run) old (kept_messages (taken_since before after) run old h))

  -- and that put offers, not all perhaps
  module _ (new : List PortOf) (put : RunOf) (generations : put.generations ≡ worked.generations) (offers : AreOffered worked put.shard old new) where
    offered_of : AreOffered (worked_off budget (after_messages (taken_since before after) run)) put.shard old new
    offered_of = subst (λ (r : RunOf). AreOffered r put.shard old new) work_is offers

    generations_of : put.generations ≡ (after_messages (taken_since before after) run).generations
    generations_of = generations ∙ ap (λ (r : RunOf). r.generations) work_is

    pub worker_of : IsWorker run old → IsWorker put new
    worker_of h =
        let kept = kept_offers worked put.shard old new offers (worked_of h) in
        let same : record worked { shard = put.shard } ≡ put = λ i. record { shard = put.shard; generations = sym generations i } in
        subst (λ (r : RunOf). IsWorker r new) same kept

    alike_done : AreAlike put (after_messages (taken_since before after) run)
    alike_done =
        let all = after_messages (taken_since before after) run in
        let shard = offered_of.shard in
        alike_then put (worked_off budget all) all
        (record {
          number = ap (λ (s : ShardOf). s.number) shard;
          shards = ap (λ (s : ShardOf). s.shards) shard;
          members = ap (λ (s : ShardOf). s.members) shard;
          connected = ap (λ (s : ShardOf). s.ribs.connected) shard;
          announced = ap (λ (s : ShardOf). s.ribs.announced) shard;
          edges = ap (λ (s : ShardOf). s.ribs.edges) shard;
          generations = generations_of;
        })
        (alike_prefixes (take budget (pending_of all.shard)) all)

    -- the shard is what was taken before it, and in it
    pub run_of : after.taken ≡ before.taken ++ taken_since before after → (start : ShardOf) → AreAlike run (after_messages before.taken (started start)) → AreAlike put (after_messages after.taken (started start))
    run_of all start h =
        subst (λ (r : RunOf). AreAlike put r)
        (sym (ap (λ (letters : List Letter). after_messages letters (started start)) all ∙ messages_append before.taken (taken_since before after) (started start)))
        (alike_then put (after_messages (taken_since before after) run) (after_messages (taken_since before after) (after_messages before.taken (started start))) alike_done
        (alike_messages (taken_since before after) run (after_messages before.taken (started start)) h))

-- a turn whose last announcement is lost
module _ (budget : ℕ) (before after : InboxOf) (run now : RunOf) (lost : HasLost budget before after run now) where
  pub worker_lost : (ports : List PortOf) → IsWorker run ports → IsWorker now ports
  worker_lost ports h = subst (λ (r : RunOf). IsWorker r ports) (sym lost.done) (kept_messages lost.earlier run ports h)

  pub announce_lost : HasAnnounce (taken_since before after)
  announce_lost =
      subst HasAnnounce (sym (since before after (lost.earlier ++ lost.lost ∷ []) (ap (λ (m : InboxOf). m.taken) lost.taken))) (last_among lost.earlier lost.lost lost.announces)
