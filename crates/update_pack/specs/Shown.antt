-- What clauses see of offers, cells and groups.
use Rattle.std.specs.Prelude.{ℕ, List, map, option_map}
use denote.Ref.{Bor}
use Rattle.rcp_model.specs.Routes.{OfferFields}
use Rattle.rcp_model.specs.Cells.{Cell}
use Rattle.rcp_model.specs.Packing.{Group as GroupOf}
use Rattle.update_pack.specs.declared.group.Group.{Group}
use Rattle.update_pack.specs.declared.offered.OfferedCell.{OfferedCell}
use Rattle.update_pack.specs.declared.numbered.NumberedCell.{NumberedCell}
use Rattle.update_pack.specs.Values.{value_in, octets_at}

abbrev pub cell_of : OfferFields → Cell
cell_of offer = (offer.prefix, offer.attrs)

abbrev pub offered_cell : OfferedCell → Cell
offered_cell cell = (cell.prefix, value_in cell.attrs)

-- the cell whose attribute octets are those of its number
abbrev pub numbered_cell : List (Bor (List ℕ)) → NumberedCell → Cell
numbered_cell octets cell = (cell.prefix, option_map (octets_at octets) cell.number)

abbrev pub group_in : Group → GroupOf
group_in group = (value_in group.attrs, group.prefixes.items)

abbrev pub groups_in : List Group → List GroupOf
groups_in groups = map group_in groups
