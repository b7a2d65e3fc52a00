use Rattle.std.proofs.Common.{◌∙◌, ◌∷◌, ◌++◌, [], ap}
use Rattle.seats.proofs.Fresh.{all_offered, new_offered}
use Rattle.session_run.proofs.tests.book_of.Goals as goal

pub new-requires-2-clause-seats : goal.new-requires-2-clause-seats
new-requires-2-clause-seats g c =
    all_offered _ _ c.new.result
    (new_offered _ _ c.args.shards.items c.args.offers c.requires.unused c.requires.mailboxes c.requires.receiver c.new.result c.new.ensures)
    c.push.new.self.items (c.in_ok-push.ensures.items ∙ ap (λ xs. xs ++ c.new.result ∷ []) c.new-seats.ensures.items)
