-- What a shard has of connected slots, announcements and link state depends on the messages alone.
use Rattle.std.proofs.Common.{◌≡◌, ℕ, Bool, true, false, cond, not, ◌&&◌, eqb, ltb, List, [], ◌∷◌, ◌++◌, length, get_or, Option, Some, None, refl, sym, ap, ◌∙◌}
use Rattle.std.specs.FinSet as set_of
use Rattle.std.proofs.Math.ListN.{set}
use Rattle.std.proofs.lemmas.Bool.{false≢true}
use Rattle.std.specs.Ordering.{nat_cmp}
use Rattle.rcp_base.specs.IpPrefix.{IpPrefix, shard_of_prefix}
use Rattle.rcp_model.specs.Routes.{RouteFields}
use Rattle.rcp_model.specs.ServerRibs.{Change, Work, at_prefix, is_up, same_values, same_route, with_value, without_slot, ribs_after}
use Rattle.rcp_model.specs.declared.rcs_mail.ShardMail.{ShardMail}
use Rattle.rcp_model.specs.declared.rcs_mail.ShardMail.TheVariants as mail
use Rattle.cost_rows.specs.Views.{ViewOf}
use Rattle.rcs_shard.specs.Shards.{acted}
use Rattle.shard_worker.specs.Runs.{Letter, RunOf, is_in_place, same_members, event_of, generations_after, after_message, after_messages, after_work}
use Rattle.shard_worker.specs.Workers.{AreAlike}

-- ---- runs alike but for what is given, pending and dirty

pub alike_itself : (run : RunOf) → AreAlike run run
alike_itself run = record { number = refl; shards = refl; members = refl; connected = refl; announced = refl; edges = refl; generations = refl }

pub alike_then : (a b c : RunOf) → AreAlike a b → AreAlike b c → AreAlike a c
alike_then a b c h g = record {
  number = h.number ∙ g.number;
  shards = h.shards ∙ g.shards;
  members = h.members ∙ g.members;
  connected = h.connected ∙ g.connected;
  announced = h.announced ∙ g.announced;
  edges = h.edges ∙ g.edges;
  generations = h.generations ∙ g.generations;
}

-- ---- one message

module _ (a b : RunOf) (h : AreAlike a b) where
  same_place : (sender : ℕ) (message : ShardMail ViewOf) → is_in_place a (sender, message) ≡ is_in_place b (sender, message)
  same_place sender (mail.Up slot generation) =
      λ i. (eqb sender slot && ltb slot (length (h.members i))) && (not (set_of.contains (h.connected i) slot) && ltb (get_or (h.generations i) slot 0) generation)
  same_place sender (mail.Announce slot p route) =
      λ i. ((eqb sender slot && ltb slot (length (h.members i))) && set_of.contains (h.connected i) slot) && eqb (shard_of_prefix p (h.shards i)) (h.number i)
  same_place sender (mail.Withdraw slot p) =
      λ i. ((eqb sender slot && ltb slot (length (h.members i))) && set_of.contains (h.connected i) slot) && eqb (shard_of_prefix p (h.shards i)) (h.number i)
  same_place sender (mail.Down slot) = λ i. (eqb sender slot && ltb slot (length (h.members i))) && set_of.contains (h.connected i) slot
  same_place sender (mail.View view) = λ i. eqb sender (length (h.members i)) && same_members view.value.members (h.members i)

  change : (slot : ℕ) (p : IpPrefix) (value : Option RouteFields)
      → AreAlike (record a { shard = acted (Change slot p value) a.shard }) (record b { shard = acted (Change slot p value) b.shard })
  unfolding ribs_after
  change slot p value = at_tests
      (is_up a.shard.ribs slot && not (same_values same_route (at_prefix a.shard.ribs.announced p slot) value))
      (is_up b.shard.ribs slot && not (same_values same_route (at_prefix b.shard.ribs.announced p slot) value))
      (λ i. set_of.contains (h.connected i) slot && not (same_values same_route (at_prefix (h.announced i) p slot) value)) where
        at_tests : (t u : Bool) → t ≡ u
            → AreAlike (record a { shard = record a.shard { ribs = cond t (record a.shard.ribs { announced = with_value (p, slot) value a.shard.ribs.announced; pending = set_of.insert a.shard.ribs.pending p }) a.shard.ribs; dirty = a.shard.dirty } })
            (record b { shard = record b.shard { ribs = cond u (record b.shard.ribs { announced = with_value (p, slot) value b.shard.ribs.announced; pending = set_of.insert b.shard.ribs.pending p }) b.shard.ribs; dirty = b.shard.dirty } })
        at_tests true true same = record {
          number = h.number;
          shards = h.shards;
          members = h.members;
          connected = h.connected;
          announced = ap (with_value (p, slot) value) h.announced;
          edges = h.edges;
          generations = h.generations;
        }
        at_tests true false same = absurd (false≢true (sym same))
        at_tests false true same = absurd (false≢true same)
        at_tests false false same = record {
          number = h.number;
          shards = h.shards;
          members = h.members;
          connected = h.connected;
          announced = h.announced;
          edges = h.edges;
          generations = h.generations;
        }

  after : (message : ShardMail ViewOf) → AreAlike (record { shard = acted (event_of message) a.shard; generations = generations_after message a.generations })
      (record { shard = acted (event_of message) b.shard; generations = generations_after message b.generations })
  unfolding ribs_after
  after (mail.Up slot generation) = record {
    number = h.number;
    shards = h.shards;
    members = h.members;
    connected = ap (λ (s : set_of.FinSet nat_cmp). set_of.insert s slot) h.connected;
    announced = h.announced;
    edges = h.edges;
    generations = ap (λ (gs : List ℕ). set gs slot generation) h.generations;
  }
  after (mail.Announce slot p route) = change slot p (Some route)
  after (mail.Withdraw slot p) = change slot p None
  after (mail.Down slot) = record {
    number = h.number;
    shards = h.shards;
    members = h.members;
    connected = ap (λ (s : set_of.FinSet nat_cmp). set_of.remove s slot) h.connected;
    announced = ap (without_slot slot) h.announced;
    edges = h.edges;
    generations = h.generations;
  }
  after (mail.View view) = record {
    number = h.number;
    shards = h.shards;
    members = h.members;
    connected = h.connected;
    announced = h.announced;
    edges = refl;
    generations = h.generations;
  }

  at_place : (sender : ℕ) (message : ShardMail ViewOf) (t u : Bool) → t ≡ u
      → AreAlike (cond t (record { shard = acted (event_of message) a.shard; generations = generations_after message a.generations }) a)
      (cond u (record { shard = acted (event_of message) b.shard; generations = generations_after message b.generations }) b)
  at_place sender message true true same = after message
  at_place sender message true false same = absurd (false≢true (sym same))
  at_place sender message false true same = absurd (false≢true same)
  at_place sender message false false same = h

  pub alike_message : (letter : Letter) → AreAlike (after_message letter a) (after_message letter b)
  alike_message (sender, message) = at_place sender message (is_in_place a (sender, message)) (is_in_place b (sender, message)) (same_place sender message)

-- ---- messages, and work

pub alike_messages : (letters : List Letter) (a b : RunOf) → AreAlike a b → AreAlike (after_messages letters a) (after_messages letters b)
unfolding after_messages
alike_messages [] a b h = h
alike_messages (letter ∷ letters) a b h = alike_messages letters (after_message letter a) (after_message letter b) (alike_message a b h letter)

pub messages_append : (first later : List Letter) (run : RunOf) → after_messages (first ++ later) run ≡ after_messages later (after_messages first run)
unfolding after_messages
messages_append [] later run = refl
messages_append (letter ∷ first) later run = messages_append first later (after_message letter run)

pub alike_prefixes : (ps : List IpPrefix) (run : RunOf) → AreAlike (record run { shard = after_work ps run.shard }) run
unfolding after_work ribs_after
alike_prefixes [] run = alike_itself run
alike_prefixes (p ∷ ps) run = alike_then (record run { shard = after_work ps (acted (Work p) run.shard) }) (record run { shard = acted (Work p) run.shard }) run
    (alike_prefixes ps (record run { shard = acted (Work p) run.shard }))
    (record { number = refl; shards = refl; members = refl; connected = refl; announced = refl; edges = refl; generations = refl })
