use Rattle.std.proofs.Common.{Result, Ok, Err, IfOk, ◌∙◌}
use Rattle.spf_incr.proofs.TableLemmas.{named_from}
use Rattle.spf_incr.proofs.table.names_with.Goals as goal

weaker : {T E : Type 0} {P Q : T → Type 0} (r : Result T E) → ((x : T) → P x → Q x) → IfOk r P → IfOk r Q
weaker (Ok x) f p = f x p
weaker (Err e) f p = tt

pub returns-clause-named : goal.returns-clause-named
returns-clause-named c =
    weaker c.names_of.result (λ names more. named_from c.args.members.now c.as_slice.result.now names.items (c.as_slice.ensures.value ∙ c.in_ok-routers.ensures) more) c.names_of.ensures.more
