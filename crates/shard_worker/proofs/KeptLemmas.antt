-- What each worker keeps stays so with every message, with work and with offers.
use Rattle.std.proofs.Common.{◌≡◌, ℕ, zero, suc, ◌<◌, ◌≤◌, Bool, true, false, cond, not, ◌&&◌, ◌||◌, ◌⊎◌, eqb, ltb, List, [], ◌∷◌, map, length, get_or, take, drop, Option, Some, None, refl, sym, ap, subst, ◌∙◌, inl, inr, arith}
use Rattle.std.specs.Prelude.{slice_get, All}
use Rattle.mailbox.specs.declared.ends.Sender.{Sender}
use Rattle.mailbox.specs.Boxes.{sent}
use Rattle.std.specs.List.{AllByRecursion}
use Rattle.std.proofs.Math.ListN.{set}
use Rattle.std.proofs.lemmas.Bool.{and_parts, or_cases, eqb-true, eq-eqb, false≢true}
use Rattle.std.proofs.lemmas.Bool.Decides.{nat_tests}
use Rattle.rcp_base.specs.IpPrefix.{IpPrefix}
use Rattle.rcp_base.specs.Maps.{same_prefix, is_among}
use Rattle.rcp_base.specs.declared.names.Edge.{Edge}
use Rattle.rcp_model.specs.Routes.{RouteFields, OfferFields}
use Rattle.rcp_model.specs.ServerRibs.{RibEvent, Up, Down, Change, Links, Work, AreSettled, route_reader}
use Rattle.rcp_model.specs.declared.rcs_mail.ShardMail.{ShardMail}
use Rattle.rcp_model.specs.declared.rcs_mail.ShardMail.TheVariants as mail
use Rattle.rib_laws.proofs.SettledLemmas.{settled_after}
use Rattle.cost_rows.specs.Views.{ViewOf}
use Rattle.platform_laws.specs.Asked.{octets_of}
use Rattle.rcp_base.specs.declared.names.Member.{Member}
use Rattle.rcp_model.specs.Ribs.{rib_cmp}
use Rattle.std.specs.FinMap as map_of
use Rattle.std.specs.FinSet as set_of
use Rattle.std.specs.Ordering.{nat_cmp}
use Rattle.rcs_shard.specs.Shards.{ShardOf, new_shard, is_connected, is_dirty, given_at, acted}
use Rattle.shard_worker.specs.Runs.{Letter, RunOf, generation_of, started, is_own, is_in_place, event_of, generations_after, after_message, after_messages, after_work, worked_off, pending_of}
use Rattle.shard_worker.specs.Offers.{dirty_of, offer_at, replayed}
use Rattle.shard_worker.specs.Ends.{PortOf, port_of}
use Rattle.shard_worker.specs.Workers.{IsIdle, IsWorker}
use Rattle.shard_worker.specs.Turns.{IsOfferedAt, AreOffered}
use Rattle.shard_worker.proofs.ReplayLemmas.{replayed_after, nothing_of, offers_give, all_append, all_weaker, all_of_offers}
use Rattle.shard_worker.proofs.EventLemmas.{up_connected, up_given, up_dirty, down_connected, down_given, down_dirty, change_connected, change_given, links_connected, links_given, work_connected, work_clean}
use Rattle.shard_worker.proofs.OfferingLemmas.{some_is, length_set, dirty_among}

-- ---- an event that leaves the slots, and the cells that are clean

-- a run of the same members and generations whose connected slots are as before, and whose clean cells were clean and have the route that they had
record Leaves (run next : RunOf) : Type 0 where
  pub members : next.shard.members ≡ run.shard.members
  pub generations : next.generations ≡ run.generations
  pub connected : (s : ℕ) → is_connected next.shard s ≡ is_connected run.shard s
  pub clean : (s : ℕ) (p : IpPrefix) → is_dirty next.shard s p ≡ false → (is_dirty run.shard s p ≡ false) × (given_at next.shard s p ≡ given_at run.shard s p)

kept_where : (run next : RunOf) (ports : List PortOf) → Leaves run next → AreSettled (route_reader next.shard.members) next.shard.ribs → IsWorker run ports → IsWorker next ports
kept_where run next ports leaves settled h = record {
  each_member = h.each_member ∙ ap length (sym leaves.members);
  generations = ap length leaves.generations ∙ h.generations ∙ ap length (sym leaves.members);
  members = λ s up. subst (λ (n : ℕ). s < n) (ap length (sym leaves.members)) (h.members s (sym (leaves.connected s) ∙ up));
  past = λ s port there. subst (λ (gs : List ℕ). AllByRecursion (λ (o : OfferFields). o.generation ≤ get_or gs s 0) port.put) (sym leaves.generations) (h.past s port there);
  current = record {
    settled = settled;
    offered = λ s port p there up quiet.
        let both = leaves.clean s p quiet in
        ap (λ (gs : List ℕ). replayed (get_or gs s 0) p port.put) leaves.generations
        ∙ h.current.offered s port p there (sym (leaves.connected s) ∙ up) both.0
        ∙ ap octets_of (sym both.1);
  };
}

-- the server after an event is settled where it was before
settled_next : (shard : ShardOf) (event : RibEvent RouteFields) → AreSettled (route_reader shard.members) shard.ribs → AreSettled (route_reader (acted event shard).members) (acted event shard).ribs
settled_next shard event h = settled_after (route_reader shard.members) event shard.ribs h

-- ---- sessions

module _ (run : RunOf) (ports : List PortOf) (slot : ℕ) (h : IsWorker run ports) where
  or_out : (b c : Bool) → b ≡ false → (b || c) ≡ c
  or_out true c is = absurd (false≢true (sym is))
  or_out false c is = refl

  and_out : (b c : Bool) → b ≡ false → (c && not b) ≡ c
  and_out true c is = absurd (false≢true (sym is))
  and_out false true is = refl
  and_out false false is = refl

  cond_out : {X : Type 0} (b : Bool) (x y : X) → b ≡ false → cond b x y ≡ y
  cond_out true x y is = absurd (false≢true (sym is))
  cond_out false x y is = refl

  module _ (generation : ℕ) (within : slot < length run.shard.members) (above : generation_of run slot < generation) where
    abbrev risen : RunOf
    risen = record { shard = acted (Up slot) run.shard; generations = set run.generations slot generation }

    at_same : generation_of risen slot ≡ generation
    at_same = get_set (run.generations) slot (subst (λ (n : ℕ). slot < n) (sym h.generations) within) where
      get_set : (gs : List ℕ) (k : ℕ) → k < length gs → get_or (set gs k generation) k 0 ≡ generation
      get_set [] k short = absurd (omega arith)
      get_set (g ∷ gs) zero short = refl
      get_set (g ∷ gs) (suc k) short = get_set gs k (omega arith)

    at_other : (s : ℕ) → (s ≡ slot → ⊥) → generation_of risen s ≡ generation_of run s
    at_other s differs = get_set run.generations slot s differs where
      get_set : (gs : List ℕ) (k j : ℕ) → (j ≡ k → ⊥) → get_or (set gs k generation) j 0 ≡ get_or gs j 0
      get_set [] k j differs = refl
      get_set (g ∷ gs) zero zero differs = absurd (differs refl)
      get_set (g ∷ gs) zero (suc j) differs = refl
      get_set (g ∷ gs) (suc k) zero differs = refl
      get_set (g ∷ gs) (suc k) (suc j) differs = get_set gs k j (λ same. differs (ap suc same))

    rises : (s : ℕ) → generation_of run s ≤ generation_of risen s
    rises s = at_test (eqb s slot) refl where
      at_test : (b : Bool) → eqb s slot ≡ b → generation_of run s ≤ generation_of risen s
      at_test true is =
          let same : s ≡ slot = eqb-true s slot is in
          subst (λ (j : ℕ). generation_of run j ≤ generation_of risen j) (sym same) (let new = at_same in omega (arith, new, above))
      at_test false is = let old = at_other s (λ same. false≢true (sym is ∙ eq-eqb s slot same)) in omega (arith, old)

    pub kept_up : IsWorker risen ports
    kept_up = record {
      each_member = h.each_member;
      generations = length_set run.generations slot generation ∙ h.generations;
      members = λ s up. by_either s (or_cases (eqb s slot) (is_connected run.shard s) (sym (up_connected run.shard slot s) ∙ up));
      past = λ s port there. all_weaker (λ (o : OfferFields). o.generation ≤ generation_of run s) (λ (o : OfferFields). o.generation ≤ generation_of risen s) port.put
          (λ o low. let more = rises s in omega (arith, low, more)) (h.past s port there);
      current = record {
        settled = settled_next run.shard (Up slot) h.current.settled;
        offered = λ s port p there up quiet. at_test s port p there up quiet (eqb s slot) refl;
      };
    } where
      by_either : (s : ℕ) → (eqb s slot ≡ true) ⊎ (is_connected run.shard s ≡ true) → s < length run.shard.members
      by_either s (inl same) = subst (λ (j : ℕ). j < length run.shard.members) (sym (eqb-true s slot same)) within
      by_either s (inr up) = h.members s up

      at_test : (s : ℕ) (port : PortOf) (p : IpPrefix) → slice_get ports s ≡ Some port → is_connected (acted (Up slot) run.shard) s ≡ true → is_dirty (acted (Up slot) run.shard) s p ≡ false
          → (b : Bool) → eqb s slot ≡ b → replayed (generation_of risen s) p port.put ≡ octets_of (given_at (acted (Up slot) run.shard) s p)
      at_test s port p there up quiet true is =
          let same : s ≡ slot = eqb-true s slot is in
          ap (λ (g : ℕ). replayed g p port.put) (ap (generation_of risen) same ∙ at_same)
          ∙ nothing_of generation (generation_of run slot) p port.put above (subst (λ (j : ℕ). AllByRecursion (λ (o : OfferFields). o.generation ≤ generation_of run j) port.put) same (h.past s port there))
          ∙ ap octets_of (sym (up_given run.shard slot s p ∙ ap (λ b. cond b None (given_at run.shard s p)) is))
      at_test s port p there up quiet false is =
          ap (λ (g : ℕ). replayed g p port.put) (at_other s (λ same. false≢true (sym is ∙ eq-eqb s slot same)))
          ∙ h.current.offered s port p there (sym (or_out (eqb s slot) (is_connected run.shard s) is) ∙ sym (up_connected run.shard slot s) ∙ up)
          (sym (and_out (eqb s slot) (is_dirty run.shard s p) is) ∙ sym (up_dirty run.shard slot s p) ∙ quiet)
          ∙ ap octets_of (sym (up_given run.shard slot s p ∙ cond_out (eqb s slot) None (given_at run.shard s p) is))

  abbrev lowered : RunOf
  lowered = record run { shard = acted (Down slot) run.shard }

  pub kept_down : IsWorker lowered ports
  kept_down = record {
    each_member = h.each_member;
    generations = h.generations;
    members = λ s up. h.members s (stays s up).1;
    past = h.past;
    current = record {
      settled = settled_next run.shard (Down slot) h.current.settled;
      offered = λ s port p there up quiet.
          let other = other_of (eqb s slot) (stays s up).0 in
          h.current.offered s port p there (stays s up).1 (sym (and_out (eqb s slot) (is_dirty run.shard s p) other) ∙ sym (down_dirty run.shard slot s p) ∙ quiet)
          ∙ ap octets_of (sym (down_given run.shard slot s p ∙ cond_out (eqb s slot) None (given_at run.shard s p) other));
    };
  } where
    stays : (s : ℕ) → is_connected (acted (Down slot) run.shard) s ≡ true → (not (eqb s slot) ≡ true) × (is_connected run.shard s ≡ true)
    stays s up = and_parts (not (eqb s slot)) (is_connected run.shard s) (sym (down_connected run.shard slot s) ∙ up)

    other_of : (b : Bool) → not b ≡ true → b ≡ false
    other_of true is = absurd (false≢true is)
    other_of false is = refl

  pub kept_change : (p : IpPrefix) (value : Option RouteFields) → IsWorker (record run { shard = acted (Change slot p value) run.shard }) ports
  kept_change p value = kept_where run (record run { shard = acted (Change slot p value) run.shard }) ports (record {
    members = refl;
    generations = refl;
    connected = change_connected run.shard slot p value;
    clean = λ s q quiet. (quiet, change_given run.shard slot p value s q);
  }) (settled_next run.shard (Change slot p value) h.current.settled) h

pub kept_links : (run : RunOf) (ports : List PortOf) (edges : List Edge) → IsWorker run ports → IsWorker (record run { shard = acted (Links edges) run.shard }) ports
kept_links run ports edges h = kept_where run (record run { shard = acted (Links edges) run.shard }) ports (record {
  members = refl;
  generations = refl;
  connected = links_connected run.shard edges;
  clean = λ s q quiet. (quiet, links_given run.shard edges s q);
}) (settled_next run.shard (Links edges) h.current.settled) h

-- ---- messages

below_of : (s n : ℕ) → ltb s n ≡ true → s < n
below_of s n is = grind (arith, nat_tests)

in_place : (run : RunOf) (ports : List PortOf) (sender : ℕ) (message : ShardMail ViewOf) → IsWorker run ports → is_in_place run (sender, message) ≡ true
    → IsWorker (record { shard = acted (event_of message) run.shard; generations = generations_after message run.generations }) ports
in_place run ports sender (mail.Up slot generation) h is =
    let both = and_parts (is_own run.shard sender slot) (not (is_connected run.shard slot) && ltb (generation_of run slot) generation) is in
    let own = and_parts (eqb sender slot) (ltb slot (length run.shard.members)) both.0 in
    let fresh = and_parts (not (is_connected run.shard slot)) (ltb (generation_of run slot) generation) both.1 in
    kept_up run ports slot h generation (below_of slot (length run.shard.members) own.1) (below_of (generation_of run slot) generation fresh.1)
in_place run ports sender (mail.Announce slot p route) h is = kept_change run ports slot h p (Some route)
in_place run ports sender (mail.Withdraw slot p) h is = kept_change run ports slot h p None
in_place run ports sender (mail.Down slot) h is = kept_down run ports slot h
in_place run ports sender (mail.View view) h is = kept_links run ports view.value.edges h

pub kept_message : (run : RunOf) (ports : List PortOf) (letter : Letter) → IsWorker run ports → IsWorker (after_message letter run) ports
kept_message run ports (sender, message) h = at_test (is_in_place run (sender, message)) refl where
  at_test : (b : Bool) → is_in_place run (sender, message) ≡ b
      → IsWorker (cond b (record { shard = acted (event_of message) run.shard; generations = generations_after message run.generations }) run) ports
  at_test true is = in_place run ports sender message h is
  at_test false is = h

pub kept_messages : (letters : List Letter) (run : RunOf) (ports : List PortOf) → IsWorker run ports → IsWorker (after_messages letters run) ports
unfolding after_messages
kept_messages [] run ports h = h
kept_messages (letter ∷ letters) run ports h = kept_messages letters (after_message letter run) ports (kept_message run ports letter h)

-- ---- work

kept_prefixes : (ps : List IpPrefix) (run : RunOf) (ports : List PortOf) → IsWorker run ports → IsWorker (record run { shard = after_work ps run.shard }) ports
unfolding after_work
kept_prefixes [] run ports h = h
kept_prefixes (p ∷ ps) run ports h =
    kept_prefixes ps (record run { shard = acted (Work p) run.shard }) ports (kept_where run (record run { shard = acted (Work p) run.shard }) ports (record {
      members = refl;
      generations = refl;
      connected = work_connected run.shard p;
      clean = work_clean run.shard p;
    }) (settled_next run.shard (Work p) h.current.settled) h)

pub kept_work : (count : ℕ) (run : RunOf) (ports : List PortOf) → IsWorker run ports → IsWorker (worked_off count run) ports
kept_work count run ports h = kept_prefixes (take count (pending_of run.shard)) run ports h

-- ---- offers

among_split : (ps : List IpPrefix) (count : ℕ) (p : IpPrefix) → is_among ps p ≡ (is_among (take count ps) p || is_among (drop count ps) p)
among_split ps zero p = refl
among_split [] (suc count) p = refl
among_split (q ∷ ps) (suc count) p = ap (λ b. same_prefix p q || b) (among_split ps count p) ∙ grouped (same_prefix p q) (is_among (take count ps) p) (is_among (drop count ps) p) where
  grouped : (a b c : Bool) → (a || (b || c)) ≡ ((a || b) || c)
  grouped true b c = refl
  grouped false b c = refl

module _ (run : RunOf) (after : ShardOf) (old new : List PortOf) (offered : AreOffered run after old new) (h : IsWorker run old) where
  before_at : (s : ℕ) (now : PortOf) → slice_get new s ≡ Some now → (before : PortOf) × (slice_get old s ≡ Some before)
  before_at s now there = found old new s now (sym offered.ports) there where
    found : (old new : List PortOf) (s : ℕ) (now : PortOf) → length old ≡ length new → slice_get new s ≡ Some now → (before : PortOf) × (slice_get old s ≡ Some before)
    found [] [] s now same there = absurd cc
    found [] (n ∷ new) s now same there = absurd (omega arith)
    found (b ∷ old) [] s now same there = absurd (omega arith)
    found (b ∷ old) (n ∷ new) zero now same there = (b, refl)
    found (b ∷ old) (n ∷ new) (suc s) now same there = found old new s now (omega arith) there

  up_same : (s : ℕ) → is_connected after s ≡ is_connected run.shard s
  up_same s = ap (λ (shard : ShardOf). is_connected shard s) offered.shard

  given_same : (s : ℕ) (p : IpPrefix) → given_at after s p ≡ given_at run.shard s p
  given_same s p = ap (λ (shard : ShardOf). given_at shard s p) offered.shard

  replay_now : (s : ℕ) (p : IpPrefix) (before now : PortOf) → slice_get old s ≡ Some before → IsOfferedAt run after s before now
      → is_connected run.shard s ≡ true → is_dirty after s p ≡ false → replayed (generation_of run s) p now.put ≡ octets_of (given_at run.shard s p)
  replay_now s p before now there at up quiet =
      ap (λ (port : PortOf). replayed (generation_of run s) p port.put) at.1
      ∙ replayed_after None (generation_of run s) p before.put (map (offer_at run.shard (generation_of run s) s) (take at.0 (dirty_of run.shard s)))
      ∙ offers_give run.shard (generation_of run s) s p (take at.0 (dirty_of run.shard s)) (replayed (generation_of run s) p before.put)
      ∙ at_test (is_among (take at.0 (dirty_of run.shard s)) p) refl where
        left : is_among (drop at.0 (dirty_of run.shard s)) p ≡ false
        left = ap (λ ps. is_among ps p) (sym at.2) ∙ sym (dirty_among after s p) ∙ quiet

        at_test : (b : Bool) → is_among (take at.0 (dirty_of run.shard s)) p ≡ b
            → cond b (octets_of (given_at run.shard s p)) (replayed (generation_of run s) p before.put) ≡ octets_of (given_at run.shard s p)
        at_test true is = refl
        at_test false is =
            h.current.offered s before p there up
            (dirty_among run.shard s p ∙ among_split (dirty_of run.shard s) at.0 p ∙ (λ i. is i || left i))

  past_now : (s : ℕ) (before now : PortOf) → slice_get old s ≡ Some before → IsOfferedAt run after s before now → AllByRecursion (λ (o : OfferFields). o.generation ≤ generation_of run s) now.put
  past_now s before now there at =
      subst (λ (port : PortOf). AllByRecursion (λ (o : OfferFields). o.generation ≤ generation_of run s) port.put) (sym at.1)
      (all_append (λ (o : OfferFields). o.generation ≤ generation_of run s) before.put (map (offer_at run.shard (generation_of run s) s) (take at.0 (dirty_of run.shard s)))
      (h.past s before there) (all_of_offers run.shard (generation_of run s) s (take at.0 (dirty_of run.shard s))))

  same_members : after.members ≡ run.shard.members
  same_members = ap (λ (shard : ShardOf). shard.members) offered.shard

  pub kept_offers : IsWorker (record run { shard = after }) new
  kept_offers = record {
    each_member = offered.ports ∙ h.each_member ∙ ap length (sym same_members);
    generations = h.generations ∙ ap length (sym same_members);
    members = λ s up. subst (λ (n : ℕ). s < n) (ap length (sym same_members)) (h.members s (sym (up_same s) ∙ up));
    past = λ s now there. let was = before_at s now there in past_now s was.0 now was.1 (offered.each s was.0 now was.1 there);
    current = record {
      settled = subst (λ (shard : ShardOf). AreSettled (route_reader shard.members) shard.ribs) (sym offered.shard) h.current.settled;
      offered = λ s now p there up quiet.
          let was = before_at s now there in
          replay_now s p was.0 now was.1 (offered.each s was.0 now was.1 there) (sym (up_same s) ∙ up) quiet
          ∙ ap octets_of (sym (given_same s p));
    };
  }

-- ---- the beginning

no_offers : (senders : List (Sender OfferFields)) → All (λ sender. sent sender ≡ []) senders → (s : ℕ) (port : PortOf) → slice_get (map port_of senders) s ≡ Some port → port.put ≡ []
no_offers [] all s port there = absurd cc
no_offers (sender ∷ senders) all zero port there = ap (λ (q : PortOf). q.put) (sym (some_is (port_of sender) port there)) ∙ all 0 sender (omega arith)
no_offers (sender ∷ senders) all (suc s) port there = no_offers senders (λ k d below. all (suc k) d (omega arith)) s port there

length_ports : (senders : List (Sender OfferFields)) → length (map port_of senders) ≡ length senders
length_ports [] = refl
length_ports (sender ∷ senders) = ap suc (length_ports senders)

no_generations : {X : Type 0} (xs : List X) → length {A = ℕ} (map (λ x. 0) xs) ≡ length xs
no_generations [] = refl
no_generations (x ∷ xs) = ap suc (no_generations xs)

pub kept_first : (shard : ShardOf) (senders : List (Sender OfferFields)) → IsIdle shard → length senders ≡ length shard.members → All (λ sender. sent sender ≡ []) senders
    → IsWorker (started shard) (map port_of senders)
kept_first shard senders idle each nothing = record {
  each_member = length_ports senders ∙ each;
  generations = no_generations shard.members;
  members = λ s up. absurd (false≢true (sym (idle.down s) ∙ up));
  past = λ s port there. subst (λ (put : List OfferFields). AllByRecursion (λ (o : OfferFields). o.generation ≤ generation_of (started shard) s) put) (sym (no_offers senders nothing s port there)) tt;
  current = record {
    settled = λ s p up. absurd (false≢true (sym (idle.down s) ∙ up));
    offered = λ s port p there up. absurd (false≢true (sym (idle.down s) ∙ up));
  };
}

-- a new shard has no session
pub idle_new : (number shards : ℕ) (members : List Member) (edges : List Edge) → IsIdle (new_shard number shards members edges)
idle_new number shards members edges = record {
  down = λ slot. set_of.contains-empty nat_cmp slot;
  silent = λ slot p. map_of.get-empty rib_cmp (p, slot);
}
