-- What contracts see of a platform: what can be asked of it, and whether memory was wanting.
use Rattle.std.specs.Prelude.{◌≡◌, ℕ, Bool, true, false, List, [], ◌∷◌, ◌++◌, min, Option, IsSome, refl}
use Rattle.std.specs.Coded.{Coded, code_by, coded×, coded_ℕ, coded_bool, coded_list}
use Rattle.rcp_base.specs.IpPrefix.{IpPrefix}
use Rattle.rcp_base.specs.declared.kinds.Kind.{Kind}
use Rattle.rcp_base.specs.declared.kinds.Kind.TheVariants as kind
use Rattle.rcp_base.specs.Feed.{FeedRecord, OutRecord}
use Rattle.rcp_base.specs.Roster.{RosterOf}
use Rattle.rcp_base.specs.declared.names.Edge.{Edge}
use Rattle.rcp_model.specs.Assigned.{IsLeast, IsAfter}
use Rattle.rcp_model.specs.LinkState.{LinkState}
use Rattle.rcp_model.specs.Routes.{RouteFields}
use Rattle.rcp_model.specs.ServerRibs.{Ribs, ribs_code}
use Rattle.attr_store.specs.Kept.{fields_code}
use Rattle.feed_meaning.specs.LinkStream.{LinkStream}
use Rattle.feed_meaning.specs.Platform.{Connections}
use Rattle.feed_meaning.specs.OutRecords.{MOST}
use Rattle.platform_laws.specs.Platforms.{PlatformOf}
use Rattle.platform_laws.specs.Asked.{given_route, pending_count, all_pending}
use Rattle.platform_laws.specs.Work.{seen_worked, updates_of_work, summary_of}
use Rattle.platform_laws.specs.Records.{IsLinkedAt, seen_after, output_of}
use Rattle.rcs_shards.specs.Servers.{roster_code}
use Rattle.platform_core.specs.Codes.{sessions_code, stream_code, link_state_code}

-- A platform, and whether it is spent: then what is seen of it says nothing.
pub record StateOf : Type 0 where
  pub seen : PlatformOf
  pub spent : Bool

-- ---- what is asked

-- the least prefix after the given one at which a slot is given a route
abbrev pub IsNextGiven : PlatformOf → ℕ → Option IpPrefix → Option IpPrefix → Type 0
IsNextGiven seen slot previous next = IsLeast (λ p. IsAfter previous p × IsSome (given_route seen.roster seen.shards p slot)) next

-- the number of pending prefixes, as 64 bits hold it
abbrev pub pending_number : PlatformOf → ℕ
pending_number seen = min (pending_count seen.shards) MOST

-- ---- a record

-- it comes to one session, or opens one, or does nothing
abbrev pub is_of_sessions : Kind → Bool
is_of_sessions kind.Time = false
is_of_sessions kind.Links = false
is_of_sessions kind.Slice = false
is_of_sessions kind.Drain = false
is_of_sessions k = true

-- A record leads from one platform to another and puts this out. The link state and the edges are those to which the record leads.
pub record Steps (old new : PlatformOf) (item : FeedRecord) (out : List OutRecord) : Type 0 where
  pub state : LinkState
  pub edges : List Edge
  pub linked : IsLinkedAt old item state edges
  pub after : new ≡ seen_after old item state edges
  pub output : out ≡ output_of old item state edges

-- ---- a drain

abbrev pub drain_record : FeedRecord
drain_record = record { kind = kind.Drain; source = 0; body = [] }

-- the platform after all pending prefixes were worked, and what is put out for it: the UPDATEs, and a summary
abbrev pub drained : PlatformOf → PlatformOf
drained seen = seen_worked (all_pending seen.shards) seen

abbrev pub drained_output : PlatformOf → List OutRecord
drained_output seen = updates_of_work (all_pending seen.shards) seen ++ summary_of (drained seen) ∷ []

-- ---- how it is stored

abbrev pub seen_code : Coded PlatformOf
seen_code = code_by (RosterOf × (Connections × (ℕ × (LinkStream × (LinkState × (List (Ribs RouteFields) × ℕ))))))
    (coded× roster_code (coded× sessions_code (coded× coded_ℕ (coded× stream_code (coded× link_state_code (coded× (coded_list (ribs_code fields_code)) coded_ℕ))))))
    (λ s. (s.roster, (s.sessions, (s.time, (s.stream, (s.link_state, (s.shards, s.updates)))))))
    (λ d. record { roster = d.0; sessions = d.1.0; time = d.1.1.0; stream = d.1.1.1.0; link_state = d.1.1.1.1.0; shards = d.1.1.1.1.1.0; updates = d.1.1.1.1.1.1 })
    (λ _. refl)

abbrev pub state_code : Coded StateOf
state_code = code_by (PlatformOf × Bool) (coded× seen_code coded_bool) (λ s. (s.seen, s.spent)) (λ d. record { seen = d.0; spent = d.1 }) (λ _. refl)
