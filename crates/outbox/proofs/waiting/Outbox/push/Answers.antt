use Rattle.std.proofs.Common.{◌∙◌, List, ℕ, ap, map, take}
use Rattle.std.specs.List.{concat}
use Rattle.std.proofs.lemmas.List.{map-append}
use Rattle.outbox.specs.Outs.{front}
use Rattle.outbox.proofs.Writing.{front-pushed}
use Rattle.outbox.proofs.waiting.Outbox.push.Goals as goal

pub returns-clause-same_front : goal.returns-clause-same_front
returns-clause-same_front c =
    let s = c.self.inside in
    ap (λ ms. take s.written (concat (map (λ m. m.items) ms))) c.in_ok-append.ensures.items
    ∙ ap (λ (ms : List (List ℕ)). take s.written (concat ms)) (map-append (λ m. m.items) s.waiting.items c.from_vec-more.result.items)
    ∙ front-pushed s.written (map (λ m. m.items) s.waiting.items) (map (λ m. m.items) c.from_vec-more.result.items) c.self.invariant
    ∙ ap front c.self.view_is
