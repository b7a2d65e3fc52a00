use Rattle.std.proofs.Common.{◌≡◌, ◌<◌, ◌+◌, ◌∙◌, ◌++◌, ℕ, List, Option, length, take, ap, sym, arith}
use Rattle.std.proofs.Math.Seq.{take-append-add}
use Rattle.std.proofs.lemmas.List.{length-append}
use Rattle.std.proofs.lemmas.List.Elements.{All-from_get_or}
use Rattle.outside.specs.Told.{in_front, in_front-append}
use Rattle.feed_format.proofs.taking.read_exactly.Goals as goal

take_behind : (front rest : List ℕ) (done count : ℕ) → length front ≡ done → take (done + count) (front ++ rest) ≡ front ++ take count rest
take_behind front rest done count long = ap (λ (n : ℕ). take (n + count) (front ++ rest)) (sym long) ∙ take-append-add front rest count

-- what one more read gives stands after what was read before
one_more : (start now then : Option (List ℕ)) (buf front rest : List ℕ) (done count : ℕ) → length front ≡ done → front ≡ take done buf
    → start ≡ in_front (take done buf) now → now ≡ in_front (take count rest) then → start ≡ in_front (take (done + count) (front ++ rest)) then
one_more start now then buf front rest done count long is so_far next =
    so_far
    ∙ ap (λ octets. in_front octets now) (sym is)
    ∙ ap (in_front front) next
    ∙ in_front-append front (take count rest) then
    ∙ ap (λ octets. in_front octets then) (sym (take_behind front rest done count long))

pub loop-done-preserved : goal.loop-done-preserved
loop-done-preserved g c =
    let so_far = c.loop-done.invariant in
    let call = c.in-Ok.ensures in
    let halves = c.split_at_mut-rest in (
      omega (arith, so_far.0, call.within, halves.ensures.front_len, length-append halves.result.0.now c.read.new.buf),
      one_more _ _ _ c.loop-done.buf _ _ _ _ halves.ensures.front_len halves.ensures.front so_far.1 call.given,
      omega (arith, so_far.2, call.never_falls),
      All-from_get_or (λ octet. octet < 256) (halves.result.0.now ++ c.read.new.buf) 0 (λ i lt. omega (arith, c.type_inv.buf i)),
    )
