-- What one more read gave goes after what was given before.
use Rattle.std.proofs.Common.{◌≡◌, ◌+◌, ◌++◌, ◌∙◌, ℕ, List, Some, length, ap, sym, take, drop}
use Rattle.std.proofs.Math.Seq.{take-add}
use Rattle.std.proofs.lemmas.List.{take_at}
use Rattle.outside.proofs.mem_link.MemLinkLink.read.Goals as goal

given_more : (octets given front : List ℕ) (place count : ℕ) →
    take place octets ≡ given → front ≡ take count (drop place octets) →
    take (place + count) octets ≡ given ++ front
given_more octets given front place count is_given is_front =
    take-add place count octets ∙ (ap (λ xs. xs ++ take count (drop place octets)) is_given ∙ ap (λ xs. given ++ xs) (sym is_front))

pub returns-clause-given : goal.returns-clause-given
returns-clause-given c =
    let count = c.min-count.result in
    let rest = c.rest_of-left.ensures.rest ∙ ap (drop c.self.inside.place) c.deref.ensures.value in
    let front : c.copy_from_slice.new.self ≡ take count (drop c.self.inside.place c.self.inside.octets.items) =
    c.copy_from_slice.ensures.after ∙ (c.split_at.ensures.front ∙ ap (take count) rest) in
    let as_long : length c.copy_from_slice.new.self ≡ count = c.copy_from_slice.ensures.len ∙ c.split_at_mut-front.ensures.front_len in
    let read : take count (c.copy_from_slice.new.self ++ c.split_at_mut-front.result.1.now) ≡ c.copy_from_slice.new.self =
    take_at c.copy_from_slice.new.self c.split_at_mut-front.result.1.now count as_long in
    ap Some
    (given_more c.self.inside.octets.items c.args.self.now.given c.copy_from_slice.new.self c.self.inside.place count
    (ap (λ v. v.given) c.self.view_is) front
    ∙ ap (λ xs. c.args.self.now.given ++ xs) (sym read))
