-- Link state (RFC 2328 sections 12.1, 13.1 and 14): which instance of a router LSA is kept.
use Rattle.std.specs.Prelude.{ℕ, ◌+◌, ◌-◌, Bool, true, false, not, ◌&&◌, ◌==◌, List, length, filter, min, Option, Some, None, nat_lt, nat_le, if◌then◌else◌, ℤ, int_lt}
use Rattle.rcp_base.specs.Maps.{get_at, put_at, without}

-- MaxAge and MaxAgeDiff (appendix B), in seconds
abbrev pub max_age : ℕ
max_age = 3600

abbrev pub max_age_diff : ℕ
max_age_diff = 900

-- how many routers may have a kept instance
abbrev pub most_routers : ℕ
most_routers = 2048

-- what distinguishes instances of one LSA; the age in seconds
pub record LsaHeader : Type 0 where
  pub sequence : ℤ
  pub checksum : ℕ
  pub age : ℕ

-- a link of a router LSA (section 12.4.1)
pub record RouterLink : Type 0 where
  pub id : ℕ
  pub kind : ℕ
  pub metric : ℕ

-- An LSA: the key by which it is kept, its header, and what it says.
pub record LsaOf (K C : Type 0) : Type 0 where
  pub key : K
  pub header : LsaHeader
  pub content : C

-- a router LSA is kept by its router, and says the router's links
abbrev pub RouterLsa : Type 0
RouterLsa = LsaOf ℕ (List RouterLink)

-- an instance that is kept, and the time of its installation in seconds
pub record KeptOf (K C : Type 0) : Type 0 where
  pub lsa : LsaOf K C
  pub since : ℕ

abbrev pub Kept : Type 0
Kept = KeptOf ℕ (List RouterLink)

-- what is kept, by router
pub record LinkState : Type 0 where
  pub routers : List (ℕ × Kept)

abbrev pub same_number : ℕ → ℕ → Bool
same_number m n = m == n

abbrev pub kept_of : ℕ → LinkState → Option Kept
kept_of router state = get_at same_number router state.routers

-- an age above MaxAge counts as MaxAge
abbrev pub capped : LsaHeader → LsaHeader
capped header = record header { age = min header.age max_age }

-- the header of a kept instance at a time: it has aged since its installation
abbrev pub header_at : {K C : Type 0} → ℕ → KeptOf K C → LsaHeader
header_at now kept = let header = kept.lsa.header in capped (record header { age = header.age + (now - kept.since) })

-- whether ages differ by more than MaxAgeDiff, the first being the lesser
abbrev pub is_much_younger : ℕ → ℕ → Bool
is_much_younger a b = nat_lt (a + max_age_diff) b

-- Whether the first is the more recent instance (section 13.1): by sequence number, then by checksum, then the one of MaxAge, then the much younger one.
abbrev pub is_more_recent : LsaHeader → LsaHeader → Bool
is_more_recent a b =
    if int_lt b.sequence a.sequence then true else (
    if int_lt a.sequence b.sequence then false else (
    if nat_lt b.checksum a.checksum then true else (
    if nat_lt a.checksum b.checksum then false else (
    if a.age == max_age && not (b.age == max_age) then true else (
    if b.age == max_age && not (a.age == max_age) then false else
    is_much_younger a.age b.age)))))

-- what becomes of an instance that comes
pub data Installation : Type 0 where
  Newer : Installation
  Same : Installation
  Older : Installation
  Flushed : Installation
  Dropped : Installation

-- the answer where an instance is kept
abbrev pub against : LsaHeader → LsaHeader → Installation
against new old =
    if is_more_recent old new then Older else (
    if is_more_recent new old then (if new.age == max_age then Flushed else Newer) else Same)

-- The answer to an LSA at a time, where these instances are kept, by keys that this test compares, and so many may be.
unfoldable pub answer_to : {K C : Type 0} → (K → K → Bool) → ℕ → ℕ → LsaOf K C → List (K × KeptOf K C) → Installation
answer_to same most now lsa kept = elim (get_at same lsa.key kept) [
  | Some instance ↦ against (capped lsa.header) (header_at now instance)
  | None ↦
      if nat_le max_age lsa.header.age then Flushed else (
      if nat_le most (length kept) then Dropped else Newer)
]

-- what is kept after it: a newer instance from that time on, after a flush none
unfoldable pub kept_after : {K C : Type 0} → (K → K → Bool) → ℕ → ℕ → LsaOf K C → List (K × KeptOf K C) → List (K × KeptOf K C)
kept_after same most now lsa kept = elim (answer_to same most now lsa kept) [
  | Newer ↦ put_at same lsa.key (record { lsa = lsa; since = now }) kept
  | Flushed ↦ without (same lsa.key) kept
  | Same ↦ kept
  | Older ↦ kept
  | Dropped ↦ kept
]

-- a time removes each instance whose age reaches MaxAge (section 14)
abbrev pub kept_young : {K C : Type 0} → ℕ → List (K × KeptOf K C) → List (K × KeptOf K C)
kept_young now kept = filter (λ entry. nat_lt (header_at now entry.1).age max_age) kept

-- ---- the link state

-- the answer to a router LSA at a time, and the link state after it
unfoldable pub installation : ℕ → RouterLsa → LinkState → Installation
installation now lsa state = answer_to same_number most_routers now lsa state.routers

unfoldable pub installed : ℕ → RouterLsa → LinkState → LinkState
installed now lsa state = record state { routers = kept_after same_number most_routers now lsa state.routers }

-- the link state once a time has come
unfoldable pub aged : ℕ → LinkState → LinkState
aged now state = record state { routers = kept_young now state.routers }
