-- Offers that are put slot by slot.
use Rattle.std.proofs.Common.{◌≡◌, ℕ, zero, suc, ◌+◌, ◌-◌, ◌<◌, ◌≤◌, ◌⊎◌, true, List, [], ◌∷◌, ◌++◌, map, length, get_or, take, drop, Some, refl, sym, ap, subst, ◌∙◌, append-nil, add-one, inl, inr, length-append, arith}
use Rattle.std.specs.Prelude.{slice_get}
use Rattle.std.proofs.Math.ListN.{set}
use Rattle.std.proofs.lemmas.List.{length-map, map-set}
use Rattle.std.proofs.lemmas.List.Sums.{sum_by-set}
use Rattle.std.proofs.lemmas.Option.{slice_get_within, get_or_from_slice_get}
use Rattle.rcp_base.specs.IpPrefix.{IpPrefix}
use Rattle.rcp_base.specs.Maps.{is_among}
use Rattle.rcp_model.specs.Routes.{OfferFields}
use Rattle.platform_laws.proofs.RisingLists.{among-rising_of}
use Rattle.mailbox.specs.declared.ends.Sender.{Sender}
use Rattle.mailbox.specs.Boxes.{counted}
use Rattle.rcs_shard.specs.Shards.{ShardOf, is_connected, is_dirty}
use Rattle.shard_worker.specs.Runs.{RunOf, generation_of}
use Rattle.shard_worker.specs.Offers.{dirty_prefixes, dirty_of, offer_at}
use Rattle.shard_worker.specs.Ends.{PortOf, port_of}
use Rattle.shard_worker.specs.Turns.{IsOfferedTo, IsOfferedAt, AreOffered, StopsWhereFull, put_count}
use Rattle.shard_worker.proofs.DirtyLemmas.{dirty_at}

-- ---- places of a list

pub get_set_same : {X : Type 0} (xs : List X) (k : ℕ) (x : X) → k < length xs → slice_get (set xs k x) k ≡ Some x
get_set_same [] k x within = absurd (omega arith)
get_set_same (y ∷ xs) zero x within = refl
get_set_same (y ∷ xs) (suc k) x within = get_set_same xs k x (omega arith)

pub get_set_other : {X : Type 0} (xs : List X) (k j : ℕ) (x : X) → (j ≡ k → ⊥) → slice_get (set xs k x) j ≡ slice_get xs j
get_set_other [] k j x differs = refl
get_set_other (y ∷ xs) zero zero x differs = absurd (differs refl)
get_set_other (y ∷ xs) zero (suc j) x differs = refl
get_set_other (y ∷ xs) (suc k) zero x differs = refl
get_set_other (y ∷ xs) (suc k) (suc j) x differs = get_set_other xs k j x (λ same. differs (ap suc same))

pub length_set : {X : Type 0} (xs : List X) (k : ℕ) (x : X) → length (set xs k x) ≡ length xs
length_set [] k x = refl
length_set (y ∷ xs) zero x = refl
length_set (y ∷ xs) (suc k) x = ap suc (length_set xs k x)

pub some_is : {X : Type 0} (x y : X) → Some x ≡ Some y → x ≡ y
some_is x y same = cc

-- ---- dirty cells

pub dirty_among : (shard : ShardOf) (slot : ℕ) (p : IpPrefix) → is_dirty shard slot p ≡ is_among (dirty_of shard slot) p
dirty_among shard slot p = sym (among-rising_of (dirty_prefixes shard slot) p ∙ dirty_at shard slot p)

pub dirty_same : (a b : ShardOf) (slot : ℕ) (p : IpPrefix) → dirty_of a slot ≡ dirty_of b slot → is_dirty a slot p ≡ is_dirty b slot p
dirty_same a b slot p same = dirty_among a slot p ∙ ap (λ ps. is_among ps p) same ∙ sym (dirty_among b slot p)

-- ---- the slots below a number are done, and the others are as before

pub record IsOffering (slot : ℕ) (start now : RunOf) (old new : List PortOf) : Type 0 where
  pub generations : now.generations ≡ start.generations
  pub shard : now.shard ≡ record start.shard { dirty = now.shard.dirty }
  pub ports : length new ≡ length old
  pub done : (k : ℕ) (before after : PortOf) → k < slot → slice_get old k ≡ Some before → slice_get new k ≡ Some after → IsOfferedAt start now.shard k before after
  pub rest : (k : ℕ) → slot ≤ k → dirty_of now.shard k ≡ dirty_of start.shard k
  pub same : (k : ℕ) → slot ≤ k → slice_get new k ≡ slice_get old k

-- where a connected slot below a number has a dirty cell left, its mailbox was full
abbrev pub StopsBelow : ℕ → ShardOf → List PortOf → List PortOf → Type 0
StopsBelow slot shard old new = (k : ℕ) (before after : PortOf) (p : IpPrefix) → k < slot → slice_get old k ≡ Some before → slice_get new k ≡ Some after
    → is_connected shard k ≡ true → is_dirty shard k p ≡ true → after.refusals ≡ counted before.refusals

pub offering_none : (start : RunOf) (ports : List PortOf) → IsOffering 0 start start ports ports
offering_none start ports = record {
  generations = refl;
  shard = refl;
  ports = refl;
  done = λ k before after below. absurd (omega arith);
  rest = λ k above. refl;
  same = λ k above. refl;
}

-- nothing is put to a slot
untouched : (start : RunOf) (now : ShardOf) (k : ℕ) (port : PortOf) → dirty_of now k ≡ dirty_of start.shard k → IsOfferedAt start now k port port
untouched start now k port same = (
  0,
  ap (λ (put : List OfferFields). record port { put = put; refusals = port.refusals }) (sym (append-nil port.put)),
  same,
  λ down. refl,
)

pub offering_all : (slot : ℕ) (start now : RunOf) (old new : List PortOf) → IsOffering slot start now old new → AreOffered start now.shard old new
offering_all slot start now old new h = record {
  shard = h.shard;
  ports = h.ports;
  each = λ k before after was is. at_order k before after was is (order k slot);
} where
  order : (k n : ℕ) → (k < n) ⊎ (n ≤ k)
  order k n = grind arith

  at_order : (k : ℕ) (before after : PortOf) → slice_get old k ≡ Some before → slice_get new k ≡ Some after → (k < slot) ⊎ (slot ≤ k) → IsOfferedAt start now.shard k before after
  at_order k before after was is (inl below) = h.done k before after below was is
  at_order k before after was is (inr above) =
      subst (λ (port : PortOf). IsOfferedAt start now.shard k before port) (some_is before after (sym was ∙ sym (h.same k above) ∙ is)) (untouched start now.shard k before (h.rest k above))

module _ (slot : ℕ) (start now next : RunOf) (old new : List PortOf) (before after : PortOf)
    (h : IsOffering slot start now old new) (there : slice_get new slot ≡ Some before) (within : slot < length new)
    (generations : next.generations ≡ now.generations) (put : IsOfferedTo now slot next.shard before after) where
  shards : next.shard ≡ record start.shard { dirty = next.shard.dirty }
  shards = put.1.shard ∙ ap (λ (s : ShardOf). record s { dirty = next.shard.dirty }) h.shard

  here : IsOfferedAt start next.shard slot before after
  here =
      let dirty : dirty_of now.shard slot ≡ dirty_of start.shard slot = h.rest slot (omega arith) in
      let offer : (p : IpPrefix) → offer_at now.shard (generation_of now slot) slot p ≡ offer_at start.shard (generation_of start slot) slot p =
      λ p. (λ i. offer_at (h.shard i) (get_or (h.generations i) slot 0) slot p) in (
        put.0,
        put.1.port
            ∙ ap (λ (ps : List OfferFields). record before { put = before.put ++ ps; refusals = after.refusals })
            ((λ i. map (λ p. offer p i) (take put.0 (dirty i)))),
        put.1.rest ∙ ap (drop put.0) dirty,
        λ down. put.2 (ap (λ (s : ShardOf). is_connected s slot) h.shard ∙ down),
      )

  pub offering_step : IsOffering (suc slot) start next old (set new slot after)
  offering_step = record {
    generations = generations ∙ h.generations;
    shard = shards;
    ports = length_set new slot after ∙ h.ports;
    done = λ k first last below was is. at_order k first last was is (order k slot below);
    rest = λ k above. put.1.others k (λ same. omega (arith, same, above)) ∙ h.rest k (omega (arith, above));
    same = λ k above. get_set_other new slot k after (λ same. omega (arith, same, above)) ∙ h.same k (omega (arith, above));
  } where
    order : (k n : ℕ) → k < suc n → (k < n) ⊎ (k ≡ n)
    order k n below = grind arith

    at_order : (k : ℕ) (first last : PortOf) → slice_get old k ≡ Some first → slice_get (set new slot after) k ≡ Some last → (k < slot) ⊎ (k ≡ slot) → IsOfferedAt start next.shard k first last
    at_order k first last was is (inl below) =
        let differs : k ≡ slot → ⊥ = λ same. omega (arith, same, below) in
        let found = h.done k first last below was (sym (get_set_other new slot k after differs) ∙ is) in (
          found.0,
          found.1,
          put.1.others k differs ∙ found.2,
          found.3,
        )
    at_order k first last was is (inr same) =
        let first_is : before ≡ first = some_is before first (sym there ∙ h.same slot (omega arith) ∙ ap (slice_get old) (sym same) ∙ was) in
        let last_is : after ≡ last = some_is after last (sym (get_set_same new slot after within) ∙ ap (slice_get (set new slot after)) (sym same) ∙ is) in
        subst (λ (j : ℕ). IsOfferedAt start next.shard j first last) (sym same)
        (subst (λ (port : PortOf). IsOfferedAt start next.shard slot port last) first_is (subst (λ (port : PortOf). IsOfferedAt start next.shard slot before port) last_is here))

  pub stops_step : StopsBelow slot now.shard old new
      → ((p : IpPrefix) → is_connected next.shard slot ≡ true → is_dirty next.shard slot p ≡ true → after.refusals ≡ counted before.refusals)
      → StopsBelow (suc slot) next.shard old (set new slot after)
  stops_step stops full k first last p below was is up dirty = at_order (order k slot below) where
    order : (k n : ℕ) → k < suc n → (k < n) ⊎ (k ≡ n)
    order k n below = grind arith

    at_order : (k < slot) ⊎ (k ≡ slot) → last.refusals ≡ counted first.refusals
    at_order (inl below) =
        let differs : k ≡ slot → ⊥ = λ same. omega (arith, same, below) in
        stops k first last p below was (sym (get_set_other new slot k after differs) ∙ is) (sym (ap (λ (s : ShardOf). is_connected s k) put.1.shard) ∙ up)
        (sym (dirty_same next.shard now.shard k p (put.1.others k differs)) ∙ dirty)
    at_order (inr same) =
        let first_is : before ≡ first = some_is before first (sym there ∙ h.same slot (omega arith) ∙ ap (slice_get old) (sym same) ∙ was) in
        let last_is : after ≡ last = some_is after last (sym (get_set_same new slot after within) ∙ ap (slice_get (set new slot after)) (sym same) ∙ is) in
        ap (λ (port : PortOf). port.refusals) (sym last_is)
        ∙ full p (ap (λ (j : ℕ). is_connected next.shard j) (sym same) ∙ up) (ap (λ (j : ℕ). is_dirty next.shard j p) (sym same) ∙ dirty)
        ∙ ap (λ (port : PortOf). counted port.refusals) first_is

-- ---- the same over the senders

there_of : {X Y : Type 0} (f : X → Y) (xs : List X) (k : ℕ) (x : X) → k < length xs → x ≡ get_or xs k x → slice_get (map f xs) k ≡ Some (f x)
there_of f [] k x within is = absurd (omega arith)
there_of f (y ∷ xs) zero x within is = ap (λ z. Some (f z)) (sym is)
there_of f (y ∷ xs) (suc k) x within is = there_of f xs k x (omega arith) is

module _ (slot place : ℕ) (start now next : RunOf) (old senders : List (Sender OfferFields)) (sender sender' : Sender OfferFields)
    (h : IsOffering slot start now (map port_of old) (map port_of senders)) (at : place ≡ slot) (is : sender ≡ get_or senders place sender)
    (below : slot < length start.shard.members) (each : length old ≡ length start.shard.members)
    (generations : next.generations ≡ now.generations) (put : IsOfferedTo now slot next.shard (port_of sender) (port_of sender')) where
  within : slot < length senders
  within =
      let news = length-map senders port_of in
      let olds = length-map old port_of in
      omega (arith, news, olds, h.ports, each, below)

  there : slice_get (map port_of senders) slot ≡ Some (port_of sender)
  there = there_of port_of senders slot sender within (is ∙ ap (λ (k : ℕ). get_or senders k sender) at)

  within_ports : slot < length (map port_of senders)
  within_ports = let news = length-map senders port_of in omega (arith, news, within)

  new_ports : set (map port_of senders) slot (port_of sender') ≡ map port_of (set senders place sender')
  new_ports = sym (map-set port_of senders slot sender') ∙ ap (λ (k : ℕ). map port_of (set senders k sender')) (sym at)

  pub sender_step : IsOffering (slot + 1) start next (map port_of old) (map port_of (set senders place sender'))
  sender_step =
      subst (λ (n : ℕ). IsOffering n start next (map port_of old) (map port_of (set senders place sender'))) (sym (add-one slot))
      (subst (λ (ports : List PortOf). IsOffering (suc slot) start next (map port_of old) ports) new_ports
      (offering_step slot start now next (map port_of old) (map port_of senders) (port_of sender) (port_of sender') h there within_ports generations put))

  pub sender_stops : StopsBelow slot now.shard (map port_of old) (map port_of senders)
      → ((p : IpPrefix) → is_connected next.shard slot ≡ true → is_dirty next.shard slot p ≡ true → (port_of sender').refusals ≡ counted (port_of sender).refusals)
      → StopsBelow (slot + 1) next.shard (map port_of old) (map port_of (set senders place sender'))
  sender_stops stops full =
      subst (λ (n : ℕ). StopsBelow n next.shard (map port_of old) (map port_of (set senders place sender'))) (sym (add-one slot))
      (subst (λ (ports : List PortOf). StopsBelow (suc slot) next.shard (map port_of old) ports) new_ports
      (stops_step slot start now next (map port_of old) (map port_of senders) (port_of sender) (port_of sender') h there within_ports generations put stops full))

  counts : (ports : List PortOf) (k : ℕ) (before after : PortOf) → slice_get ports k ≡ Some before → put_count (set ports k after) + length before.put ≡ put_count ports + length after.put
  counts ports k before after was =
      let changed = sum_by-set (λ (q : PortOf). length q.put) ports k after before (slice_get_within ports k before was) in
      let found = ap (λ (q : PortOf). length q.put) (get_or_from_slice_get ports k before before was) in
      omega (arith, changed, found)

  -- so many more were put
  pub sender_counts : put_count (map port_of (set senders place sender')) ≡ put_count (map port_of senders) + (length (port_of sender').put - length (port_of sender).put)
  sender_counts =
      let all = ap put_count new_ports in
      let one = counts (map port_of senders) slot (port_of sender) (port_of sender') there in
      let longer = ap (λ (q : PortOf). length q.put) put.1.port ∙ length-append (port_of sender).put (map (offer_at now.shard (generation_of now slot) slot) (take put.0 (dirty_of now.shard slot))) in
      omega (arith, all, one, longer)

pub stops_all : (slot : ℕ) (shard : ShardOf) (old : List (Sender OfferFields)) (new : List PortOf) → length old ≤ slot → StopsBelow slot shard (map port_of old) new → StopsWhereFull shard (map port_of old) new
stops_all slot shard old new all stops k before after p was is up dirty =
    let within = slice_get_within (map port_of old) k before was in
    let olds = length-map old port_of in
    stops k before after p (omega (arith, within, olds, all)) was is up dirty
