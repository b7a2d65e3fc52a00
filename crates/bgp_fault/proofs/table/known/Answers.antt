use Rattle.std.proofs.Common.{◌≡◌, ℕ, ◌+◌, ◌*◌, List, Option, Some, None, refl, sym, ap, ◌∙◌, Bor}
use Rattle.std.specs.Prelude.{is_some}
use Rattle.std.specs.Option.{option_copied}
use Rattle.case_table.specs.declared.Row.{Row}
use Rattle.case_table.specs.Rows.{row_of}
use Rattle.bgp_fault.specs.Faults.{fault_rows}
use Rattle.bgp_fault.specs.declared.table.TheConstants.{ROWS}
use Rattle.bgp_fault.proofs.Keys.{found, contained}
use Rattle.bgp_fault.proofs.table.known.Goals as goal
use Rattle.bgp_fault.proofs.table.known.Goals.{After-is_some}

is_some-copied : (o : Option (Bor Row)) → is_some o ≡ is_some (option_copied o)
is_some-copied None = refl
is_some-copied (Some row) = refl

-- the answer is whether the table has a row of the number
asks : (c : After-is_some) → c.is_some.result ≡ is_some (row_of ROWS (c.args.code * 256 + c.args.sub))
asks c =
    c.is_some.ensures
    ∙ is_some-copied c.find.result
    ∙ ap is_some c.find.ensures.row
    ∙ ap (λ (rows : List Row). is_some (row_of rows c.from_be_bytes.result)) c.rows.ensures.table
    ∙ ap (λ (n : ℕ). is_some (row_of ROWS n)) c.from_be_bytes.ensures

pub returns : goal.returns
returns c = (
  λ yes. contained fault_rows ROWS refl (c.args.code, c.args.sub) c.ranges.sub.fits (sym (asks c) ∙ yes),
  λ among. asks c ∙ found fault_rows ROWS refl (c.args.code, c.args.sub) among,
)
