use Rattle.std.proofs.Common.{◌∙◌, rules}
use Rattle.std.proofs.lemmas.List.Sorted.{answers_always}
use Rattle.platform_core.specs.declared.sessions.Connection.{Connection}
use Rattle.platform_core.proofs.SearchLemmas.{searched}
use Rattle.platform_core.proofs.sessions.place_of.Goals as goal

pub returns : goal.returns
returns c =
    c.ok.ensures.value
    ∙ searched c.args.number c.args.connections.now c.binary_search_by_key.result c.requires c.binary_search_by_key.ensures.bound
    (c.binary_search_by_key.ensures.position (λ (x : Connection). x.number) (answers_always _ _ _ (λ f a r g h. search rules)))
