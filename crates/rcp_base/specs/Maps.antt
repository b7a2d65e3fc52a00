-- Finite maps as lists of entries, at most one for each key, and sets of prefixes as rising lists.
use Rattle.std.specs.Prelude.{Bool, not, ◌&&◌, ◌||◌, ◌==◌, List, [], ◌∷◌, filter, Option, Some, None, nat_lt, if◌then◌else◌}
use Rattle.std.specs.List.{list_any}
use Rattle.rcp_base.specs.IpPrefix.{IpPrefix}

-- ---- maps, for a test of equal keys

-- the value at a key
abbrev pub get_at : {K V : Type 0} → (K → K → Bool) → K → List (K × V) → Option V
get_at same key [] = None
get_at same key (entry ∷ entries) = if same key entry.0 then Some entry.1 else get_at same key entries

-- the map with this value at the key, in the place of the one before
abbrev pub put_at : {K V : Type 0} → (K → K → Bool) → K → V → List (K × V) → List (K × V)
put_at same key value [] = (key, value) ∷ []
put_at same key value (entry ∷ entries) = if same key entry.0 then (key, value) ∷ entries else entry ∷ put_at same key value entries

-- the map with nothing at the keys that pass the test
abbrev pub without : {K V : Type 0} → (K → Bool) → List (K × V) → List (K × V)
without test entries = filter (λ entry. not (test entry.0)) entries

-- the map with this value at the key, or with nothing there
abbrev pub set_at : {K V : Type 0} → (K → K → Bool) → K → Option V → List (K × V) → List (K × V)
set_at same key None entries = without (same key) entries
set_at same key (Some value) entries = put_at same key value entries

-- ---- prefixes

abbrev pub same_prefix : IpPrefix → IpPrefix → Bool
same_prefix p q = p.addr == q.addr && p.len == q.len

-- by address, then by length
abbrev pub is_before : IpPrefix → IpPrefix → Bool
is_before p q = nat_lt p.addr q.addr || p.addr == q.addr && nat_lt p.len q.len

-- a rising list with one prefix more, once
abbrev pub include : IpPrefix → List IpPrefix → List IpPrefix
include p [] = p ∷ []
include p (q ∷ qs) = if same_prefix p q then q ∷ qs else (if is_before p q then p ∷ q ∷ qs else q ∷ include p qs)

abbrev pub include_all : List IpPrefix → List IpPrefix → List IpPrefix
include_all [] qs = qs
include_all (p ∷ ps) qs = include_all ps (include p qs)

abbrev pub is_among : List IpPrefix → IpPrefix → Bool
is_among ps p = list_any (same_prefix p) ps
