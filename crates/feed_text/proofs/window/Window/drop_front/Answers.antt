use Rattle.std.proofs.Common.{◌≡◌, ◌≤◌, ◌+◌, ◌-◌, ◌∙◌, ℕ, List, take, drop, length, ap, sym, subst, arith}
use Rattle.std.proofs.lemmas.List.{length-take, drop-drop, drop-take}
use Rattle.feed_text.specs.Windows.{Held}
use Rattle.feed_text.proofs.window.Window.drop_front.Goals as goal

later_front : (xs : List ℕ) (start end count : ℕ) → count ≤ end - start → take (end - (start + count)) (drop (start + count) xs) ≡ drop count (take (end - start) (drop start xs))
later_front xs start end count le =
    let long : count + (end - (start + count)) ≡ end - start = omega (arith, le) in
    ap (take (end - (start + count))) (sym (drop-drop count start xs)) ∙ sym (drop-take count (end - (start + count)) (drop start xs)) ∙ ap (λ (n : ℕ). drop count (take n (drop start xs))) long

abbrev held : List ℕ → ℕ → Held
held octets size = record { octets = octets; size = size }

dropped : (xs : List ℕ) (start end count : ℕ) (window : Held) → held (take (end - start) (drop start xs)) (length xs) ≡ window → count ≤ length window.octets
    → held (take (end - (start + count)) (drop (start + count) xs)) (length xs) ≡ held (drop count window.octets) window.size
dropped xs start end count window is le =
    let within : count ≤ length (take (end - start) (drop start xs)) = subst (λ (w : Held). count ≤ length w.octets) (sym is) le in
    subst (λ (w : Held). held (take (end - (start + count)) (drop (start + count) xs)) (length xs) ≡ held (drop count w.octets) w.size) is
    (ap (λ (octets : List ℕ). held octets (length xs)) (later_front xs start end count (omega (arith, within, length-take (end - start) (drop start xs)))))

pub returns : goal.returns
returns c = dropped c.self.inside.octets.items c.self.inside.start c.self.inside.end c.args.count c.args.self.now c.self.view_is c.requires
