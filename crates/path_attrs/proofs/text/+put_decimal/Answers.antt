use Rattle.std.proofs.Common.{ℕ, ◌+◌, ◌%◌, ◌/◌, List, [], ◌∷◌, ◌++◌, sym, ap, ◌∙◌, arith, append_assoc}
use Rattle.std.specs.Fmt.{decimal}
use Rattle.std.proofs.lemmas.Fmt.{decimal_digit, decimal_step}
use Rattle.path_attrs.proofs.text.+put_decimal.Goals as goal

pub returns-then-number-lt10 : goal.returns-then-number-lt10
returns-then-number-lt10 t c = c.in_ok-push.ensures.items ∙ ap (λ (digits : List ℕ). c.args.text.now.items ++ digits) (sym (decimal_digit c.args.number c.if-number-lt10.true))

pub returns : goal.returns
returns t c =
    let last = (48 + c.args.number % 10) ∷ [] in
    c.in_ok-push-2.ensures.items ∙ ap (λ (text : List ℕ). text ++ last) c.in_ok-put_decimal.ensures
    ∙ append_assoc c.args.text.now.items (decimal (c.args.number / 10)) last
    ∙ ap (λ (digits : List ℕ). c.args.text.now.items ++ digits) (sym (decimal_step c.args.number c.if-number-lt10.false (omega arith)))
