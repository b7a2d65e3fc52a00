-- What a table's rule says of a message.
use Rattle.std.specs.Prelude.{ℕ, ◌==◌, List, [], ◌∷◌, Option, Some, None, if◌then◌else◌}
use Rattle.case_table.specs.declared.Row.{Row}
use Rattle.case_table.specs.Rows.{row_of}
use Rattle.rcp_base.specs.Roster.{RosterOf}
use Rattle.rcp_model.specs.Sessions.{Established, Up, Step, Peering, step, nothing, telling, opened, updated, notified, refused}
use Rattle.session_core.specs.declared.table.Rule.{Rule}
use Rattle.session_core.specs.declared.table.Rule.TheVariants.{Take, Note, Obey, Refuse}

abbrev pub rule_named : ℕ → Rule
rule_named number = if number == 1 then Take else (if number == 2 then Note else (if number == 3 then Obey else Refuse))

abbrev pub rule_in : Option Row → Rule
rule_in None = Refuse
rule_in (Some row) = rule_named row.first

abbrev pub rule_of : List Row → ℕ → Rule
rule_of rows kind = rule_in (row_of rows kind)

-- what each state does by its rule
abbrev pub in_open_sent : RosterOf → ℕ → List ℕ → Rule → Step
in_open_sent roster since body Take = opened roster since body
in_open_sent roster since body Obey = notified body
in_open_sent roster since body Note = refused
in_open_sent roster since body Refuse = refused

abbrev pub in_open_confirm : Peering → List ℕ → Rule → Step
in_open_confirm peering body Take = step (Established peering) (telling (Up ∷ []))
in_open_confirm peering body Obey = notified body
in_open_confirm peering body Note = refused
in_open_confirm peering body Refuse = refused

abbrev pub in_established : RosterOf → Peering → List ℕ → Rule → Step
in_established roster peering body Take = updated roster peering body
in_established roster peering body Note = step (Established peering) nothing
in_established roster peering body Obey = notified body
in_established roster peering body Refuse = refused
