-- What the messages of the sessions and of the viewer do to a running shard, and what its work does.
use Rattle.std.specs.Prelude.{ℕ, Bool, not, ◌&&◌, ◌==◌, nat_lt, List, [], ◌∷◌, map, take, length, slice_index, slice_set, Some, None, if◌then◌else◌, refl}
use Rattle.std.specs.Coded.{Coded, code_by, coded×, coded_ℕ, coded_list}
use Rattle.std.specs.Cmp.Lexicographic.{pointwise}
use Rattle.rcp_base.specs.IpPrefix.{IpPrefix, shard_of_prefix}
use Rattle.rcp_base.specs.declared.names.Member.{Member}
use Rattle.rcp_model.specs.Routes.{RouteFields}
use Rattle.rcp_model.specs.ServerRibs.{RibEvent, Up, Down, Change, Links, Work}
use Rattle.rcp_model.specs.declared.rcs_mail.ShardMail.{ShardMail}
use Rattle.rcp_model.specs.declared.rcs_mail.ShardMail.TheVariants as mail
use Rattle.cost_rows.specs.Views.{ViewOf}
use Rattle.platform_laws.specs.Asked.{rising_of}
use Rattle.rcs_shard.specs.Shards.{ShardOf, is_connected, acted, shard_code}

-- a message, with the number of its sender
abbrev pub Letter : Type 0
Letter = ℕ × ShardMail ViewOf

-- A running shard, and by slot the generation of the slot's last session: 0 before the first one.
pub record RunOf : Type 0 where
  pub shard : ShardOf
  pub generations : List ℕ

-- the run of a shard with generations, of which the first belong to its slots
abbrev pub run_in : ShardOf → List ℕ → RunOf
run_in shard generations = record { shard = shard; generations = take (length shard.members) generations }

abbrev pub generation_of : RunOf → ℕ → ℕ
generation_of run slot = slice_index run.generations slot

-- before the first message
abbrev pub started : ShardOf → RunOf
started shard = record { shard = shard; generations = map (λ member. 0) shard.members }

-- ---- which messages are in place

-- the slot is a member's, and the sender's number is the slot
abbrev pub is_own : ShardOf → ℕ → ℕ → Bool
is_own shard sender slot = sender == slot && nat_lt slot (length shard.members)

-- the slot is connected besides
abbrev pub is_served : ShardOf → ℕ → ℕ → Bool
is_served shard sender slot = is_own shard sender slot && is_connected shard slot

-- the prefix is one of the shard's
abbrev pub is_owned : ShardOf → IpPrefix → Bool
is_owned shard p = shard_of_prefix p shard.shards == shard.number

-- the same routers and BGP Identifiers in the same order
abbrev pub same_member : Member → Member → Bool
same_member a b = a.router == b.router && a.bgp_id == b.bgp_id

abbrev pub same_members : List Member → List Member → Bool
same_members members others = pointwise same_member members others

-- A session's messages come from its own slot, Up where the slot isn't connected and with a generation above its last one, the others
-- where it is connected, and a prefix is one of the shard's. A view comes from the viewer, whose number is the one after
-- the last slot's, and has the shard's members.
abbrev pub is_in_place : RunOf → Letter → Bool
is_in_place run (sender, mail.Up slot generation) = is_own run.shard sender slot && (not (is_connected run.shard slot) && nat_lt (generation_of run slot) generation)
is_in_place run (sender, mail.Announce slot p route) = is_served run.shard sender slot && is_owned run.shard p
is_in_place run (sender, mail.Withdraw slot p) = is_served run.shard sender slot && is_owned run.shard p
is_in_place run (sender, mail.Down slot) = is_served run.shard sender slot
is_in_place run (sender, mail.View view) = sender == length run.shard.members && same_members view.value.members run.shard.members

-- ---- what they do

-- the event that a message is to the shard's server
abbrev pub event_of : ShardMail ViewOf → RibEvent RouteFields
event_of (mail.Up slot generation) = Up slot
event_of (mail.Announce slot p route) = Change slot p (Some route)
event_of (mail.Withdraw slot p) = Change slot p None
event_of (mail.Down slot) = Down slot
event_of (mail.View view) = Links view.value.edges

abbrev pub generations_after : ShardMail ViewOf → List ℕ → List ℕ
generations_after (mail.Up slot generation) generations = slice_set generations slot generation
generations_after message generations = generations

-- a message out of place changes nothing
abbrev pub after_message : Letter → RunOf → RunOf
after_message letter run =
    if is_in_place run letter
    then record { shard = acted (event_of letter.1) run.shard; generations = generations_after letter.1 run.generations }
    else run

-- the messages of a list, one after another
unfoldable pub after_messages : List Letter → RunOf → RunOf
after_messages [] run = run
after_messages (letter ∷ letters) run = after_messages letters (after_message letter run)

-- ---- work

-- the pending prefixes, rising
abbrev pub pending_of : ShardOf → List IpPrefix
pending_of shard = rising_of shard.ribs.pending

-- these prefixes are worked, one after another
unfoldable pub after_work : List IpPrefix → ShardOf → ShardOf
after_work [] shard = shard
after_work (p ∷ ps) shard = after_work ps (acted (Work p) shard)

-- so many of the pending prefixes are worked, the least first, or all
abbrev pub worked_off : ℕ → RunOf → RunOf
worked_off count run = record run { shard = after_work (take count (pending_of run.shard)) run.shard }

-- ---- how a running shard is stored, as a value of a type needs

abbrev pub run_code : Coded RunOf
run_code = code_by (ShardOf × List ℕ) (coded× shard_code (coded_list coded_ℕ)) (λ run. (run.shard, run.generations))
    (λ d. record { shard = d.0; generations = d.1 }) (λ _. refl)
