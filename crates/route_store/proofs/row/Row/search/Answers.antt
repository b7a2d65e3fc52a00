use Rattle.std.proofs.Common.{rules}
use Rattle.std.proofs.lemmas.List.Sorted.{answers_always}
use Rattle.route_store.proofs.RowLemmas.{searched}
use Rattle.route_store.proofs.row.Row.search.Goals as goal

-- the closure gives an announcement's slot, and the slice is the row's
pub returns : goal.returns
returns c =
    let facts = c.binary_search_by_key.ensures in
    let by_key = facts.position (λ a. a.0) (answers_always _ _ _ (λ f a r g called. search rules)) in
    rw (← c.self.view_is, ← c.deref.ensures.value) (searched _ (rw c.deref.ensures.value c.self.invariant) c.args.slot _ facts.bound by_key)
