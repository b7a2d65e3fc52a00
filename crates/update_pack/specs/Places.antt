-- What is known of the places of groups while offers are grouped.
use Rattle.std.specs.Prelude.{◌≡◌, ◌≢◌, ℕ, zero, suc, ◌<◌, AllPairs, List, [], length, Option, Some, None, slice_index_or, bytes_eq, Bool}
use denote.Ref.{Bor}
use Rattle.std.specs.HashMap.{HashMap, get}
use Rattle.rcp_model.specs.Packing.{Group}
use Rattle.update_pack.specs.declared.key.OctetsKey.{OctetsKey}
use Rattle.update_pack.specs.Values.{octets_at}
use Rattle.update_pack.specs.Grouping.{place_of}

-- equal keys have equal octets
abbrev pub same_key : OctetsKey → OctetsKey → Bool
same_key a b = bytes_eq a.0.now b.0.now

-- The group of the withdrawn prefixes stands first, and the map has exactly the places of the others.
pub record ArePlaces {S : Type 0} (places : HashMap OctetsKey ℕ S) (groups : List Group) : Type 0 where
  pub withdrawn : place_of None groups ≡ Some 0
  pub announced : (key : OctetsKey) → get same_key places key ≡ place_of (Some key.0.now) groups

-- a group stands there, the first of its value
pub record IsAPlace (place : ℕ) (groups : List Group) : Type 0 where
  pub within : place < length groups
  pub first : place_of (slice_index_or groups place (None, [])).0 groups ≡ Some place

-- no two numbers have the same octets
abbrev pub AreDistinct : List (Bor (List ℕ)) → Type 0
AreDistinct octets = AllPairs (λ a b. a.now ≢ b.now) octets

-- the place that stands for a number: none where it is 0
abbrev pub place_at : ℕ → Option ℕ
place_at zero = None
place_at (suc place) = Some (suc place)

-- The group of the withdrawn prefixes stands first, and each number has the place of the group of its octets.
pub record AreNumbered (places : List ℕ) (octets : List (Bor (List ℕ))) (groups : List Group) : Type 0 where
  pub withdrawn : place_of None groups ≡ Some 0
  pub long : length places ≡ length octets
  pub announced : (n : ℕ) → n < length octets → place_of (Some (octets_at octets n)) groups ≡ place_at (slice_index_or places n 0)
