use Rattle.std.proofs.Common.{rules, sym, refl}
use Rattle.std.proofs.lemmas.List.Sorted.{answers_always}
use Rattle.case_table.specs.declared.Row.{Row}
use Rattle.case_table.proofs.Search.{equal_is, found_is, none_has, row_of-none}
use Rattle.case_table.proofs.Table.find.Goals as goal

pub returns-in-Ok-clause-found : goal.returns-in-Ok-clause-found
returns-in-Ok-clause-found g c =
    let at = c.in-Ok.ensures.position (λ (row : Row). row.code) (answers_always _ _ _ (λ f a r f' h. search rules)) in
    equal_is _ _ (at _)

pub returns-in-Ok-clause-row : goal.returns-in-Ok-clause-row
returns-in-Ok-clause-row g c =
    let at = c.in-Ok.ensures.position (λ (row : Row). row.code) (answers_always _ _ _ (λ f a r f' h. search rules)) in
    rw (← c.self.view_is) (sym (found_is c.self.inside.rows c.args.code c.in-Ok.place _ c.self.invariant c.in-Ok.ensures.bound (at _)))

pub returns-in-Ok-clause-none : goal.returns-in-Ok-clause-none
returns-in-Ok-clause-none g c =
    let at = c.in-Ok.ensures.position (λ (row : Row). row.code) (answers_always _ _ _ (λ f a r f' h. search rules)) in
    let any : Row = record { code = 0; first = 0; second = 0 } in
    rw (← c.self.view_is) (λ e. absurd cc, λ all. absurd (all c.in-Ok.place any c.in-Ok.ensures.bound (equal_is _ _ (at any))))

pub returns-in-Err-clause-none : goal.returns-in-Err-clause-none
returns-in-Err-clause-none g c =
    let parted = c.in-Err.ensures.position (λ (row : Row). row.code) (answers_always _ _ _ (λ f a r f' h. search rules)) in
    rw (← c.self.view_is) (λ e. none_has c.self.inside.rows c.args.code _ c.self.invariant parted, λ e. refl)

pub returns-in-Err-clause-row : goal.returns-in-Err-clause-row
returns-in-Err-clause-row g c =
    let parted = c.in-Err.ensures.position (λ (row : Row). row.code) (answers_always _ _ _ (λ f a r f' h. search rules)) in
    rw (← c.self.view_is) (sym (row_of-none _ _ (none_has c.self.inside.rows c.args.code _ c.self.invariant parted)))
