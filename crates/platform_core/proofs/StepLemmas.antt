-- What a record does to what is seen of a platform, kind by kind.
use Rattle.std.proofs.Common.{◌≡◌, ℕ, ◌+◌, ◌<◌, min, true, cond, List, [], ◌∷◌, ◌++◌, length, map, Option, Some, None, ◌^◌, refl, sym, ap, subst, ◌∙◌, arith, append-nil}
use Rattle.std.specs.Int.{w64, to_be_bytes}
use Rattle.std.specs.List.{flat_map}
use Rattle.rcp_base.specs.declared.kinds.Kind.{Kind}
use Rattle.rcp_base.specs.declared.kinds.Kind.TheVariants as kind
use Rattle.rcp_base.specs.Feed.{FeedRecord, OutRecord, is_time, moment_of}
use Rattle.rcp_model.specs.LinkState.{LinkState}
use Rattle.rcp_base.specs.declared.names.Edge.{Edge}
use Rattle.rcp_model.specs.Sessions.{SessionState, Octets, answer, seat_of}
use Rattle.igp_view.specs.Igp.{IgpOf}
use Rattle.feed_meaning.specs.OutRecords.{MOST, SUMMARY}
use Rattle.feed_meaning.specs.Platform.{Connections}
use Rattle.feed_meaning.specs.SessionTurns.{Turn, turns_of, ready_turn, octets_turn, claim_turn, slot_named, connection_at, turn_output}
use Rattle.feed_meaning.specs.Work.{shard_in, count_in}
use Rattle.platform_laws.specs.Parts.{shards_after_all}
use Rattle.platform_laws.specs.Platforms.{PlatformOf}
use Rattle.platform_laws.specs.Turns.{sessions_alone, turns_of_record, shard_events, seen_after_turn, seen_after_turns, noted_at}
use Rattle.platform_laws.specs.Links.{IsLinkedBy, seen_after_links, output_of_links}
use Rattle.platform_laws.specs.Asked.{all_pending, connected_count, announced_count}
use Rattle.platform_laws.specs.Work.{slice_of, updates_of_work, updates_to_all, seen_worked, summary_of, seen_after_work, output_of_work}
use Rattle.platform_laws.specs.Records.{seen_turned, seen_linked}
use Rattle.rcs_shards.specs.Servers.{ServerOf, worked, least_pending}
use Rattle.platform_core.specs.Turns.{at_time, turns_at, sessions_after}
use Rattle.platform_core.specs.States.{is_of_sessions, Steps}
use Rattle.platform_core.specs.Following.{seen_of, Links}
use Rattle.platform_core.proofs.CarryLemmas.{carried_none, carried_append}

-- ---- turns

turned_is : (turns : List Turn) (seen : PlatformOf)
    → seen_after_turns turns seen ≡ record seen { sessions = sessions_after turns seen.sessions; shards = shards_after_all seen.roster (flat_map shard_events turns) seen.shards }
turned_is [] seen = λ i. record seen { shards = carried_none seen.roster seen.shards i }
turned_is (turn ∷ turns) seen =
    turned_is turns (seen_after_turn turn seen)
    ∙ (λ i. record seen { sessions = sessions_after (turn ∷ turns) seen.sessions; shards = sym (carried_append seen.roster (shard_events turn) (flat_map shard_events turns) seen.shards) i })

-- they depend on the roster, the sessions and the time alone
same-turns : (seen : PlatformOf) (number : ℕ) (body : List ℕ) (k : Kind) → turns_of (sessions_alone seen) number body k ≡ turns_of (at_time seen.roster seen.time seen.sessions) number body k
same-turns seen number body kind.Ready = by_slot (slot_named seen.roster body) where
  by_slot : (found : Option ℕ) → ready_turn (sessions_alone seen) number found ≡ ready_turn (at_time seen.roster seen.time seen.sessions) number found
  by_slot None = refl
  by_slot (Some slot) = refl
same-turns seen number body kind.Raw = refl
same-turns seen number body kind.Octets = each (connection_at seen.sessions number) where
  by_claim : (e : ℕ × SessionState) (claim : Option ℕ)
      → claim_turn (sessions_alone seen) e.0 (seat_of e.1.phase) (answer seen.roster (Octets body seen.time) e.1) claim
      ≡ claim_turn (at_time seen.roster seen.time seen.sessions) e.0 (seat_of e.1.phase) (answer seen.roster (Octets body seen.time) e.1) claim
  by_claim e None = refl
  by_claim e (Some slot) = refl

  each : (es : Connections) → map (octets_turn (sessions_alone seen) body) es ≡ map (octets_turn (at_time seen.roster seen.time seen.sessions) body) es
  each [] = refl
  each (e ∷ es) = λ i. by_claim e (answer seen.roster (Octets body seen.time) e.1).does.claim i ∷ each es i
same-turns seen number body kind.Closed = refl
same-turns seen number body kind.Time = refl
same-turns seen number body kind.Roster = refl
same-turns seen number body kind.Links = refl
same-turns seen number body kind.Slice = refl
same-turns seen number body kind.Drain = refl
same-turns seen number body kind.Finish = refl

turns_are : (seen : PlatformOf) (item : FeedRecord) → turns_of_record seen item ≡ turns_at seen.roster seen.time seen.sessions item
turns_are seen item = same-turns seen item.source item.body item.kind

-- the platform after the turns of a record, at its time
module _ (server after : ServerOf) (sessions next : Connections) (time now : ℕ) (igp : IgpOf) (updates : ℕ) (item : FeedRecord)
    (roster : after.roster ≡ server.roster) (now_is : now ≡ cond (is_time item.kind) (moment_of item.body) time)
    (sessions_are : next ≡ sessions_after (turns_at server.roster time sessions item) sessions)
    (shards_are : after.shards ≡ shards_after_all server.roster (flat_map shard_events (turns_at server.roster time sessions item)) server.shards) where
  pub turned : seen_turned (seen_of server sessions time igp updates) item ≡ seen_of after next now igp updates
  turned =
      ap (λ (ts : List Turn). seen_after_turns ts (noted_at item (seen_of server sessions time igp updates))) (turns_are (seen_of server sessions time igp updates) item)
      ∙ turned_is (turns_at server.roster time sessions item) (noted_at item (seen_of server sessions time igp updates))
      ∙ (λ i. record (seen_of server sessions time igp updates) { roster = sym roster i; sessions = sym sessions_are i; time = sym now_is i; shards = sym shards_are i })

-- ---- the records of the sessions

-- the other stages do nothing
record IsPlain (k : Kind) : Type 0 where
  timeless : (n m : ℕ) → cond (is_time k) n m ≡ m
  linked : (seen : PlatformOf) (body : List ℕ) (state : LinkState) (edges : List Edge) → IsLinkedBy seen body k state edges
  after : (seen : PlatformOf) (body : List ℕ) (state : LinkState) (edges : List Edge) → seen_after_work (seen_after_links seen body k state edges) body k ≡ seen
  no_links : (seen : PlatformOf) (body : List ℕ) → output_of_links seen body k ≡ []
  no_work : (seen : PlatformOf) (body : List ℕ) → output_of_work seen body k ≡ []

plain : (k : Kind) → is_of_sessions k ≡ true → IsPlain k
plain kind.Roster is = record { timeless = λ n m. refl; linked = λ s b t e. tt; after = λ s b t e. refl; no_links = λ s b. refl; no_work = λ s b. refl }
plain kind.Ready is = record { timeless = λ n m. refl; linked = λ s b t e. tt; after = λ s b t e. refl; no_links = λ s b. refl; no_work = λ s b. refl }
plain kind.Raw is = record { timeless = λ n m. refl; linked = λ s b t e. tt; after = λ s b t e. refl; no_links = λ s b. refl; no_work = λ s b. refl }
plain kind.Octets is = record { timeless = λ n m. refl; linked = λ s b t e. tt; after = λ s b t e. refl; no_links = λ s b. refl; no_work = λ s b. refl }
plain kind.Closed is = record { timeless = λ n m. refl; linked = λ s b t e. tt; after = λ s b t e. refl; no_links = λ s b. refl; no_work = λ s b. refl }
plain kind.Finish is = record { timeless = λ n m. refl; linked = λ s b t e. tt; after = λ s b t e. refl; no_links = λ s b. refl; no_work = λ s b. refl }
plain kind.Time is = absurd cc
plain kind.Links is = absurd cc
plain kind.Slice is = absurd cc
plain kind.Drain is = absurd cc

pub step_turns : (server after : ServerOf) (sessions next : Connections) (time : ℕ) (igp : IgpOf) (updates : ℕ) (item : FeedRecord) (out : List OutRecord) → is_of_sessions item.kind ≡ true
    → after.roster ≡ server.roster → next ≡ sessions_after (turns_at server.roster time sessions item) sessions
    → after.shards ≡ shards_after_all server.roster (flat_map shard_events (turns_at server.roster time sessions item)) server.shards
    → out ≡ flat_map turn_output (turns_at server.roster time sessions item)
    → Steps (seen_of server sessions time igp updates) (seen_of after next time igp updates) item out
step_turns server after sessions next time igp updates item out is roster sessions_are shards_are out_is =
    let p = plain item.kind is in
    let old = seen_of server sessions time igp updates in
    let done = turned server after sessions next time time igp updates item roster (sym (p.timeless (moment_of item.body) time)) sessions_are shards_are in
    record {
      state = igp.database.state;
      edges = [];
      linked = p.linked (seen_turned old item) item.body igp.database.state [];
      after = sym (p.after (seen_turned old item) item.body igp.database.state [] ∙ done);
      output = out_is ∙ ap (flat_map turn_output) (sym (turns_are old item)) ∙ sym (append-nil (flat_map turn_output (turns_of_record old item)))
          ∙ sym (append-nil (flat_map turn_output (turns_of_record old item) ++ []))
          ∙ (λ i. flat_map turn_output (turns_of_record old item) ++ sym (p.no_links (seen_turned old item) item.body) i ++ sym (p.no_work (seen_linked old item igp.database.state []) item.body) i);
    }

-- ---- the other records

pub step_time : (server between after : ServerOf) (sessions next : Connections) (time : ℕ) (igp then : IgpOf) (updates : ℕ) (source : ℕ) (body : List ℕ) (out : List OutRecord)
    → (let item : FeedRecord = record { kind = kind.Time; source = source; body = body } in
    between.roster ≡ server.roster → next ≡ sessions_after (turns_at server.roster time sessions item) sessions
    → between.shards ≡ shards_after_all server.roster (flat_map shard_events (turns_at server.roster time sessions item)) server.shards
    → out ≡ flat_map turn_output (turns_at server.roster time sessions item)
    → Links body kind.Time (moment_of body) igp then between after []
    → Steps (seen_of server sessions time igp updates) (seen_of after next (moment_of body) then updates) item out)
step_time server between after sessions next time igp then updates source body out roster sessions_are shards_are out_is links =
    let item : FeedRecord = record { kind = kind.Time; source = source; body = body } in
    let old = seen_of server sessions time igp updates in
    let seen = seen_of between next (moment_of body) igp updates in
    let done = turned server between sessions next time (moment_of body) igp updates item roster refl sessions_are shards_are in
    record {
      state = links.state;
      edges = links.edges;
      linked = subst (λ (s : PlatformOf). IsLinkedBy s body kind.Time links.state links.edges) (sym done) (links.linked seen refl);
      after = links.after_is seen ∙ ap (λ (s : PlatformOf). seen_after_links s body kind.Time links.state links.edges) (sym done);
      output = out_is ∙ ap (flat_map turn_output) (sym (turns_are old item)) ∙ sym (append-nil (flat_map turn_output (turns_of_record old item)))
          ∙ sym (append-nil (flat_map turn_output (turns_of_record old item) ++ []));
    }

pub step_links : (server after : ServerOf) (sessions : Connections) (time : ℕ) (igp then : IgpOf) (updates : ℕ) (source : ℕ) (body : List ℕ) (out : List OutRecord)
    → Links body kind.Links time igp then server after out
    → Steps (seen_of server sessions time igp updates) (seen_of after sessions time then updates) (record { kind = kind.Links; source = source; body = body }) out
step_links server after sessions time igp then updates source body out links =
    let seen = seen_of server sessions time igp updates in
    record {
      state = links.state;
      edges = links.edges;
      linked = links.linked seen refl;
      after = links.after_is seen;
      output = links.output seen ∙ sym (append-nil (output_of_links seen body kind.Links));
    }

pub step_slice : (server after : ServerOf) (sessions : Connections) (time : ℕ) (igp : IgpOf) (updates more : ℕ) (source : ℕ) (body : List ℕ) (out : List OutRecord)
    → after ≡ worked (least_pending (shard_in body) (count_in body) server) server
    → out ≡ updates_to_all server.roster (least_pending (shard_in body) (count_in body) server) server.shards after.shards sessions
    → more ≡ min (updates + length out) MOST
    → Steps (seen_of server sessions time igp updates) (seen_of after sessions time igp more) (record { kind = kind.Slice; source = source; body = body }) out
step_slice server after sessions time igp updates more source body out after_is out_is more_is =
    let seen = seen_of server sessions time igp updates in
    let out_are : out ≡ updates_of_work (slice_of seen body) seen = out_is ∙ ap (λ (s : ServerOf). updates_to_all server.roster (least_pending (shard_in body) (count_in body) server) server.shards s.shards sessions) after_is in
    record {
      state = igp.database.state;
      edges = [];
      linked = tt;
      after = λ i. record seen {
        roster = ap (λ (s : ServerOf). s.roster) after_is i;
        shards = ap (λ (s : ServerOf). s.shards) after_is i;
        updates = (more_is ∙ ap (λ (l : List OutRecord). min (updates + length l) MOST) out_are) i;
      };
      output = out_are;
    }

pub step_drain : (server after : ServerOf) (sessions : Connections) (time : ℕ) (igp : IgpOf) (updates more : ℕ) (item : FeedRecord) (worked_out out : List OutRecord) → item.kind ≡ kind.Drain
    → after ≡ worked (all_pending server.shards) server
    → worked_out ≡ updates_to_all server.roster (all_pending server.shards) server.shards after.shards sessions
    → more ≡ min (updates + length worked_out) MOST
    → out ≡ worked_out ++ summary_of (seen_of after sessions time igp more) ∷ []
    → Steps (seen_of server sessions time igp updates) (seen_of after sessions time igp more) item out
step_drain server after sessions time igp updates more item worked_out out is after_is worked_is more_is out_is =
    let seen = seen_of server sessions time igp updates in
    let new = seen_of after sessions time igp more in
    let prefixes = all_pending server.shards in
    let worked_are : worked_out ≡ updates_of_work prefixes seen = worked_is ∙ ap (λ (s : ServerOf). updates_to_all server.roster prefixes server.shards s.shards sessions) after_is in
    let new_is : new ≡ seen_worked prefixes seen = (λ i. record seen {
      roster = ap (λ (s : ServerOf). s.roster) after_is i;
      shards = ap (λ (s : ServerOf). s.shards) after_is i;
      updates = (more_is ∙ ap (λ (l : List OutRecord). min (updates + length l) MOST) worked_are) i;
    }) in
    subst (λ (k : Kind). Steps seen new (record { kind = k; source = item.source; body = item.body }) out) (sym is) (record {
      state = igp.database.state;
      edges = [];
      linked = tt;
      after = new_is;
      output = out_is ∙ (λ i. worked_are i ++ summary_of (new_is i) ∷ []);
    })

-- what is seen, by the parts
pub steps_by : (old before new after : PlatformOf) (item : FeedRecord) (out : List OutRecord) → old ≡ before → new ≡ after → Steps old new item out → Steps before after item out
steps_by old before new after item out old_is new_is steps = subst (λ (s : PlatformOf). Steps s after item out) old_is (subst (λ (s : PlatformOf). Steps old s item out) new_is steps)

-- the summary, of counts that 64 bits hold
pub summary_is : (seen : PlatformOf) (routers prefixes updates : ℕ) → routers < 2 ^ 64 → routers ≡ connected_count seen.shards → prefixes ≡ min (announced_count seen.shards) MOST
    → updates < 2 ^ 64 → updates ≡ seen.updates
    → (let out : OutRecord = record { kind = SUMMARY; connection = 0; body = to_be_bytes w64 routers ++ (to_be_bytes w64 prefixes ++ to_be_bytes w64 updates) } in out ≡ summary_of seen)
summary_is seen routers prefixes updates few routers_are prefixes_are less updates_are =
    let first : routers ≡ min (connected_count seen.shards) MOST = omega (arith, few, routers_are) in
    let last : updates ≡ min seen.updates MOST = omega (arith, less, updates_are) in
    λ i. record { kind = SUMMARY; connection = 0; body = to_be_bytes w64 (first i) ++ (to_be_bytes w64 (prefixes_are i) ++ to_be_bytes w64 (last i)) }
