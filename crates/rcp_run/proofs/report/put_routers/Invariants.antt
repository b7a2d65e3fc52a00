-- The routers so far, and a space before each one but the first.
use Rattle.std.proofs.Common.{◌≡◌, ◌++◌, ◌∷◌, take}
use Rattle.std.specs.List.{flat_map}
use Rattle.rcp_base.specs.Text.{address_text}
use Rattle.rcp_run.proofs.report.put_routers.Given as goal

abbrev pub invariant-loop-router : goal.invariant-loop-router
invariant-loop-router l = l.line.items ≡ (l.fn.line.items ++ address_text l.fn.first) ++ flat_map (λ router. 32 ∷ address_text router) (take l.router-index l.others)
