-- The definitions at work: small networks whose outcome is known, as values that the definitions compute.
use Rattle.std.specs.Prelude.{ℕ, List, [], ◌∷◌, ◌++◌}
use Rattle.rcp_base.specs.declared.names.Member.{Member}
use Rattle.rcp_base.specs.declared.kinds.Kind.TheVariants.{Ready, Octets, Drain}
use Rattle.rcp_base.specs.Feed.{FeedRecord, OutRecord}
use Rattle.rcp_base.specs.declared.names.Edge.{Edge}
use Rattle.rcp_model.specs.Messages.{marker}
use Rattle.rcp_base.specs.Roster.{RosterOf}

-- routers 10.0.0.1, 10.0.0.2 and 10.0.0.3, whose BGP Identifiers are their router IDs
abbrev pub A : ℕ
A = 167772161

abbrev pub B : ℕ
B = 167772162

abbrev pub C : ℕ
C = 167772163

abbrev pub member : ℕ → Member
member router = record { router = router; bgp_id = router }

abbrev pub link : ℕ → ℕ → ℕ → List Edge
link a b cost = record { from = a; to = b; cost = cost } ∷ record { from = b; to = a; cost = cost } ∷ []

-- three routers in a row
abbrev pub linked : RosterOf
linked = record {
  as_number = 65000;
  id = 167772414;
  shards = 2;
  hold = 90;
  area = 0;
  members = member A ∷ member B ∷ member C ∷ [];
  links = link A B 10 ++ link B C 10;
}

abbrev pub ready : ℕ → ℕ → FeedRecord
ready number router = record { kind = Ready; source = number; body = 10 ∷ 0 ∷ 0 ∷ router ∷ [] }

abbrev pub heard_on : ℕ → List ℕ → FeedRecord
heard_on number octets = record { kind = Octets; source = number; body = octets }

abbrev pub drain_record : FeedRecord
drain_record = record { kind = Drain; source = 0; body = [] }

-- the announcement of 203.0.113.0/24 by path 65001, with the next hop 10.0.0.N
abbrev pub announcement_by : ℕ → List ℕ
announcement_by n = marker ++ (0 ∷ 52 ∷ 2 ∷ 0 ∷ 0 ∷ 0 ∷ 25 ∷ 64 ∷ 1 ∷ 1 ∷ 0 ∷ 64 ∷ 2 ∷ 4 ∷ 2 ∷ 1 ∷ 253 ∷ 233 ∷ 64 ∷ 3 ∷ 4 ∷ 10 ∷ 0 ∷ 0 ∷ []) ++ n ∷ 64 ∷ 5 ∷ 4 ∷ 0 ∷ 0 ∷ 0 ∷ 100 ∷ 24 ∷ 203 ∷ 0 ∷ 113 ∷ []

abbrev pub tie : List FeedRecord
tie = ready 1 1 ∷ ready 2 2 ∷ ready 3 3 ∷ heard_on 1 (announcement_by 1) ∷ heard_on 3 (announcement_by 3) ∷ drain_record ∷ []

abbrev pub tie_output : List OutRecord
tie_output = record { kind = 66; connection = 2; body = announcement_by 1 } ∷ record { kind = 83; connection = 0; body = 0 ∷ 0 ∷ 0 ∷ 0 ∷ 0 ∷ 0 ∷ 0 ∷ 3 ∷ 0 ∷ 0 ∷ 0 ∷ 0 ∷ 0 ∷ 0 ∷ 0 ∷ 1 ∷ 0 ∷ 0 ∷ 0 ∷ 0 ∷ 0 ∷ 0 ∷ 0 ∷ 1 ∷ [] } ∷ []
