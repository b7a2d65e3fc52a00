-- The cells of a router's table that changed, and what it is for UPDATEs to carry them.
use Rattle.std.specs.Prelude.{◌≡◌, ℕ, ◌≤◌, List, length, Option, Some, None, IfSome, AllPairs, IsTrue}
use Rattle.std.specs.List.{AllByRecursion}
use Rattle.rcp_base.specs.IpPrefix.{IpPrefix, IsPrefix}
use Rattle.rcp_base.specs.Maps.{get_at, same_prefix, is_before}
use Rattle.rcp_model.specs.Messages.{IsMessage}
use Rattle.rcp_model.specs.Updates.{Table, after_messages}

-- a prefix, and the attribute octets that its cell has now, or none
abbrev pub Cell : Type 0
Cell = IpPrefix × Option (List ℕ)

-- a cell that an UPDATE of at most 4,096 octets can carry
pub record IsSendable (cell : Cell) : Type 0 where
  pub prefix : IsPrefix cell.0
  pub short : IfSome cell.1 (λ octets. length octets ≤ 4068)

-- cells by rising prefix, each of which can be sent
pub record AreCells (cells : List Cell) : Type 0 where
  pub rising : AllPairs (λ a b. IsTrue (is_before a.0 b.0)) cells
  pub each : AllByRecursion IsSendable cells

-- what a router has at a prefix where it had this before: the cell's value where there is a cell of the prefix
abbrev pub value_after : Option (Option (List ℕ)) → Option (List ℕ) → Option (List ℕ)
value_after None before = before
value_after (Some value) before = value

-- The messages are whole, and replayed after any table they give each cell its value and leave the other prefixes.
pub record Carries (messages : List (List ℕ)) (cells : List Cell) : Type 0 where
  pub whole : AllByRecursion IsMessage messages
  pub replayed : (table : Table) (q : IpPrefix) →
      get_at same_prefix q (after_messages messages table) ≡ value_after (get_at same_prefix q cells) (get_at same_prefix q table)

-- a rule that says by which messages cells are sent, for all cells that can be
abbrev pub CarriesAll : (List Cell → List (List ℕ)) → Type 0
CarriesAll rule = (cells : List Cell) → AreCells cells → Carries (rule cells) cells
