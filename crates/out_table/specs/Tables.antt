-- The cells of all slots as finite maps and sets, and what each call does to them.
use Rattle.std.specs.Prelude.{◌≡◌, ℕ, Bool, true, false, not, ◌==◌, Option, Some, None, if◌then◌else◌, refl}
use Rattle.std.specs.Coded.{Coded, code_by, coded×, coded_ℕ}
use Rattle.std.specs.FinMap as map_of
use Rattle.std.specs.FinSet as set_of
use Rattle.std.specs.Ordering.{is_lt, is_le}
use Rattle.rcp_base.specs.IpPrefix.{IpPrefix, prefix_cmp}
use Rattle.rcp_model.specs.Ribs.{RibKey, rib_cmp, RouteNumbers, route_numbers_code, prefix_code}
use Rattle.out_table.specs.Cells.{is_same}

-- the opened prefixes, the number of the route in each cell that has one, and the dirty cells
pub record Table : Type 0 where
  pub members : ℕ
  pub opened : set_of.FinSet prefix_cmp
  pub cells : RouteNumbers
  pub dirty : set_of.FinSet rib_cmp

abbrev pub table_code : Coded Table
table_code =
    code_by (ℕ × (set_of.FinSet prefix_cmp × (RouteNumbers × set_of.FinSet rib_cmp)))
    (coded× coded_ℕ (coded× (set_of.code prefix_code) (coded× route_numbers_code (set_of.code (coded× prefix_code coded_ℕ)))))
    (λ t. (t.members, (t.opened, (t.cells, t.dirty)))) (λ p. record { members = p.0; opened = p.1.0; cells = p.1.1.0; dirty = p.1.1.1 }) (λ _. refl)

-- nothing is opened
abbrev pub new_table : ℕ → Table
new_table members = record { members = members; opened = set_of.empty; cells = map_of.empty; dirty = set_of.empty }

-- the number in a cell
abbrev pub cell : Table → ℕ → IpPrefix → Option ℕ
cell t slot p = map_of.get t.cells (p, slot)

abbrev pub is_opened : Table → IpPrefix → Bool
is_opened t p = set_of.contains t.opened p

abbrev pub is_dirty : Table → ℕ → IpPrefix → Bool
is_dirty t slot p = set_of.contains t.dirty (p, slot)

-- one prefix more is opened: its cells have no route and are clean
abbrev pub opened : IpPrefix → Table → Table
opened p t = record t { opened = set_of.insert t.opened p }

-- a number at a key, or none there
abbrev pub with_number : RibKey → Option ℕ → RouteNumbers → RouteNumbers
with_number key None cells = map_of.remove cells key
with_number key (Some number) cells = map_of.insert cells key number

-- the cell has the value. It is dirty where the value is another one than before, and else as dirty as it was.
abbrev pub after_set : ℕ → IpPrefix → Option ℕ → Table → Table
after_set slot p value t =
    record t {
      cells = with_number (p, slot) value t.cells;
      dirty = (if is_same (cell t slot p) value then t.dirty else set_of.insert t.dirty (p, slot));
    }

-- the cell at the prefix is clean, where there is one
abbrev pub cleaned : ℕ → Option IpPrefix → Table → Table
cleaned slot None t = t
cleaned slot (Some p) t = record t { dirty = set_of.remove t.dirty (p, slot) }

-- the cells of a slot are clean
abbrev pub unmarked : ℕ → Table → Table
unmarked slot t = record t { dirty = set_of.retain t.dirty (λ key. not (key.1 == slot)) }

-- the cells of a slot have no route and are clean
abbrev pub cleared : ℕ → Table → Table
cleared slot t =
    record t {
      cells = map_of.retain_keys t.cells (λ key. not (key.1 == slot));
      dirty = set_of.retain t.dirty (λ key. not (key.1 == slot));
    }

-- the least prefix that passes the test: none exactly where none passes
abbrev pub IsLeast : (IpPrefix → Bool) → Option IpPrefix → Type 0
IsLeast test None = (q : IpPrefix) → test q ≡ false
IsLeast test (Some p) = (test p ≡ true) × ((q : IpPrefix) → test q ≡ true → is_le (prefix_cmp p q) ≡ true)

-- whether a prefix comes after the given one, where one is given
abbrev pub is_after : Option IpPrefix → IpPrefix → Bool
is_after None q = true
is_after (Some p) q = is_lt (prefix_cmp p q)
