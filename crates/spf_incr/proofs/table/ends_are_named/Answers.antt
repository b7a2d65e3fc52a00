use Rattle.std.proofs.Common.{◌≡◌, Bool, true, false, refl, sym, ◌∙◌}
use Rattle.std.specs.Bool.{OnTrue}
use Rattle.spf_incr.proofs.RowLemmas.{named_by}
use Rattle.spf_incr.proofs.table.ends_are_named.Goals as goal

on_true : {A : Type 0} (b : Bool) → (b ≡ true → A) → OnTrue b A
on_true true f = f refl
on_true false f = tt

pub returns-then-is_ok : goal.returns-then-is_ok
returns-then-is_ok c = on_true c.is_ok-then-is_ok.result (λ named. (
  named_by c.args.names.now c.args.edge.now.from c.binary_search.result c.binary_search.ensures.position c.requires (sym c.is_ok.ensures.value ∙ c.if-is_ok.true),
  named_by c.args.names.now c.args.edge.now.to c.binary_search-then-is_ok.result c.binary_search-then-is_ok.ensures.position c.requires (sym c.is_ok-then-is_ok.ensures.value ∙ named),
))
