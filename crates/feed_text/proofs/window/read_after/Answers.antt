use Rattle.std.proofs.Common.{◌≡◌, ◌+◌, ◌∙◌, ◌++◌, ℕ, List, Option, length, take, ap, sym}
use Rattle.std.proofs.Math.Seq.{take-append-add}
use Rattle.std.proofs.lemmas.List.{take_at}
use Rattle.outside.specs.Told.{in_front, in_front-append}
use Rattle.feed_text.proofs.window.read_after.Goals as goal

-- what was read stands after the octets in front
read_behind : (old front buf : List ℕ) (left left1 : Option (List ℕ)) (count more : ℕ) → front ≡ take count old → length front ≡ count → left ≡ in_front (take more buf) left1
    → in_front (take count old) left ≡ in_front (take (count + more) (front ++ buf)) left1
read_behind old front buf left left1 count more is long given =
    let both : take (count + more) (front ++ buf) ≡ front ++ take more buf = ap (λ (n : ℕ). take (n + more) (front ++ buf)) (sym long) ∙ take-append-add front buf more in
    ap (λ (o : List ℕ). in_front o left) (sym is) ∙ ap (in_front front) given ∙ in_front-append front (take more buf) left1 ∙ ap (λ (o : List ℕ). in_front o left1) (sym both)

front_kept : (old front buf : List ℕ) (count : ℕ) → front ≡ take count old → length front ≡ count → take count (front ++ buf) ≡ take count old
front_kept old front buf count is long = take_at front buf count long ∙ is

pub returns-in-Ok-clause-given : goal.returns-in-Ok-clause-given
returns-in-Ok-clause-given g c =
    let halves = c.split_at_mut-free in
    read_behind c.args.octets.now halves.result.0.now c.read.new.buf _ _ c.args.count c.in-Ok.more halves.ensures.front halves.ensures.front_len c.in-Ok.ensures.given
