use Rattle.std.proofs.Common.{◌≡◌, ℕ, List, length, map, take, drop, ◌++◌, sym, ap, subst, ◌∙◌, inl, inr}
use Rattle.std.proofs.lemmas.List.{length-map}
use Rattle.mailbox.specs.declared.ends.Sender.{Sender}
use Rattle.rcp_model.specs.Routes.{OfferFields}
use Rattle.shard_worker.specs.Runs.{RunOf, pending_of, after_messages, worked_off}
use Rattle.shard_worker.specs.Ends.{InboxOf, inbox_of, port_of}
use Rattle.shard_worker.specs.Workers.{WorkerOf, IsRunOf, IsWorker}
use Rattle.shard_worker.specs.Turns.{AreOffered, HasAnnounce, taken_since}
use Rattle.shard_worker.proofs.TurnLemmas.{written_back, on_err, worked_of, worker_of, run_of, worker_lost, announce_lost}
use Rattle.shard_worker.proofs.worker.Worker.turn.Goals as goal

-- the worker after offers were put through a slice of its senders
put_by : (n budget : ℕ) (before after : InboxOf) (items lent written : List (Sender OfferFields)) (run taken worked put : RunOf)
    → lent ≡ items → length lent ≡ n → IsWorker run (map port_of items)
    → taken ≡ after_messages (taken_since before after) run → worked ≡ worked_off budget taken → put.generations ≡ worked.generations
    → AreOffered worked put.shard (map port_of lent) (map port_of written)
    → IsWorker put (map port_of (take n (written ++ drop (length written) items)))
put_by n budget before after items lent written run taken worked put same count h messages work generations offers =
    let news = length-map written port_of in
    let olds = length-map lent port_of in
    let all : length items ≡ n = ap length (sym same) ∙ count in
    let as_many : length written ≡ n = sym news ∙ offers.ports ∙ olds ∙ count in
    subst (λ (senders : List (Sender OfferFields)). IsWorker put (map port_of senders)) (sym (written_back n written items as_many all))
    (worker_of budget before after (map port_of items) run taken worked messages work (map port_of written) put generations
    (subst (λ (senders : List (Sender OfferFields)). AreOffered worked put.shard (map port_of senders) (map port_of written)) same offers) h)

pub invariant_of-self : goal.invariant_of-self
invariant_of-self g c =
    worker_lost c.args.budget (inbox_of c.self.inside.mail) (inbox_of c.take_mail.new.mail) c.self.inside.running c.take_mail.new.running c.in_err-count.ensures.lost
    (map port_of c.self.inside.offers.items) c.self.invariant

pub returns-in_err-count-clause-current : goal.returns-in_err-count-clause-current
returns-in_err-count-clause-current g c =
    (worker_lost c.args.budget (inbox_of c.self.inside.mail) (inbox_of c.take_mail.new.mail) c.self.inside.running c.take_mail.new.running c.in_err-count.ensures.lost
    (map port_of c.self.inside.offers.items) c.self.invariant).current

pub returns-in_err-count-clause-cause : goal.returns-in_err-count-clause-cause
returns-in_err-count-clause-cause g c =
    let after = inbox_of c.take_mail.new.mail in
    let lost = announce_lost c.args.budget (inbox_of c.self.inside.mail) after c.self.inside.running c.take_mail.new.running c.in_err-count.ensures.lost in
    on_err _ c.from_residual.result (inr (inl (subst (λ (worker : WorkerOf). HasAnnounce (taken_since worker.inbox after)) c.self.view_is lost)))

pub put_offers-requires : goal.put_offers-requires
put_offers-requires g c =
    let h = worked_of c.args.budget (inbox_of c.self.inside.mail) (inbox_of c.take_mail.new.mail) (map port_of c.self.inside.offers.items)
    c.self.inside.running c.take_mail.new.running c.work-worked.new.self c.in_ok-count.ensures.done c.work-worked.ensures.done c.self.invariant in
    ap length c.deref_mut.ensures.value ∙ sym (length-map c.self.inside.offers.items port_of) ∙ h.each_member

pub invariant_of-self-in_err-offered : goal.invariant_of-self-in_err-offered
invariant_of-self-in_err-offered g c =
    put_by c.self.inside.offers.len c.args.budget (inbox_of c.self.inside.mail) (inbox_of c.take_mail.new.mail) c.self.inside.offers.items c.deref_mut.result.now c.put_offers.new.senders
    c.self.inside.running c.take_mail.new.running c.work-worked.new.self c.put_offers.new.running c.deref_mut.ensures.value c.deref_mut.ensures.len c.self.invariant
    c.in_ok-count.ensures.done c.work-worked.ensures.done c.put_offers.ensures.generations c.put_offers.ensures.offered

pub returns-in_err-offered-clause-current : goal.returns-in_err-offered-clause-current
returns-in_err-offered-clause-current g c =
    (put_by c.self.inside.offers.len c.args.budget (inbox_of c.self.inside.mail) (inbox_of c.take_mail.new.mail) c.self.inside.offers.items c.deref_mut.result.now c.put_offers.new.senders
    c.self.inside.running c.take_mail.new.running c.work-worked.new.self c.put_offers.new.running c.deref_mut.ensures.value c.deref_mut.ensures.len c.self.invariant
    c.in_ok-count.ensures.done c.work-worked.ensures.done c.put_offers.ensures.generations c.put_offers.ensures.offered).current

pub invariant_of-self-2 : goal.invariant_of-self-2
invariant_of-self-2 g c =
    put_by c.self.inside.offers.len c.args.budget (inbox_of c.self.inside.mail) (inbox_of c.take_mail.new.mail) c.self.inside.offers.items c.deref_mut.result.now c.put_offers.new.senders
    c.self.inside.running c.take_mail.new.running c.work-worked.new.self c.put_offers.new.running c.deref_mut.ensures.value c.deref_mut.ensures.len c.self.invariant
    c.in_ok-count.ensures.done c.work-worked.ensures.done c.put_offers.ensures.generations c.put_offers.ensures.offered

pub returns-clause-run : goal.returns-clause-run
returns-clause-run g c start h =
    run_of c.args.budget (inbox_of c.self.inside.mail) (inbox_of c.take_mail.new.mail) (map port_of c.deref_mut.result.now)
    c.self.inside.running c.take_mail.new.running c.work-worked.new.self c.in_ok-count.ensures.done c.work-worked.ensures.done
    (map port_of c.put_offers.new.senders) c.put_offers.new.running c.put_offers.ensures.generations c.put_offers.ensures.offered
    (ap (λ (m : InboxOf). m.taken) c.in_ok-count.ensures.taken.taken) start (subst (λ (worker : WorkerOf). IsRunOf start worker) (sym c.self.view_is) h)

pub returns-clause-current : goal.returns-clause-current
returns-clause-current g c =
    (put_by c.self.inside.offers.len c.args.budget (inbox_of c.self.inside.mail) (inbox_of c.take_mail.new.mail) c.self.inside.offers.items c.deref_mut.result.now c.put_offers.new.senders
    c.self.inside.running c.take_mail.new.running c.work-worked.new.self c.put_offers.new.running c.deref_mut.ensures.value c.deref_mut.ensures.len c.self.invariant
    c.in_ok-count.ensures.done c.work-worked.ensures.done c.put_offers.ensures.generations c.put_offers.ensures.offered).current

pub returns-clause-enough : goal.returns-clause-enough
returns-clause-enough g c =
    let shard = c.put_offers.ensures.offered.shard in
    elim c.work-worked.ensures.enough [ inl all ↦ inl all | inr none ↦ inr (ap pending_of shard ∙ none) ]
