use Rattle.std.proofs.Common.{◌≡◌, ℕ, List, Some, IfErr, sym, subst}
use Rattle.rcp_run.specs.Making.{IsUnmade}
use Rattle.rcp_words.specs.declared.command.Report.{Report}
use Rattle.rcp_run.proofs.report.report_of.Goals as goal

pub returns-in-Tables-clause-unmade : goal.returns-in-Tables-clause-unmade
returns-in-Tables-clause-unmade g c =
    subst (λ (r : Report). IfErr c.tables.result (λ status. (octets : List ℕ) → g.S.Source.left c.args.source.now ≡ Some octets → IsUnmade r octets status (g.S.Source.left c.tables.new.source)))
    (sym c.in-Tables.is) c.tables.ensures.unmade

pub returns-in-Agree-clause-unmade : goal.returns-in-Agree-clause-unmade
returns-in-Agree-clause-unmade g c =
    subst (λ (r : Report). IfErr c.agreement.result (λ status. (octets : List ℕ) → g.S.Source.left c.args.source.now ≡ Some octets → IsUnmade r octets status (g.S.Source.left c.agreement.new.source)))
    (sym c.in-Agree.is) c.agreement.ensures.unmade

pub returns-in-Path-clause-unmade : goal.returns-in-Path-clause-unmade
returns-in-Path-clause-unmade g c =
    subst (λ (r : Report). IfErr c.path.result (λ status. (octets : List ℕ) → g.S.Source.left c.args.source.now ≡ Some octets → IsUnmade r octets status (g.S.Source.left c.path.new.source)))
    (sym c.in-Path.is) c.path.ensures.unmade
