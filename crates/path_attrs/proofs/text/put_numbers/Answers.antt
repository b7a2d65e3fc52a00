use Rattle.std.proofs.Common.{ℕ, List, ◌∷◌, ◌++◌, map, sym, ap, ◌∙◌}
use Rattle.std.specs.Fmt.{decimal}
use Rattle.std.specs.List.{flat_map, join_with_byte}
use Rattle.rcp_model.specs.Attributes.{numbers_in, number_width}
use Rattle.path_attrs.proofs.Texting.{numbers-few, append-nil, added, joined}
use Rattle.path_attrs.proofs.text.put_numbers.Goals as goal

pub returns-in_default : goal.returns-in_default
returns-in_default c =
    append-nil c.args.text.now.items
    ∙ ap (λ (ns : List ℕ). c.args.text.now.items ++ join_with_byte c.args.between (map decimal ns)) (sym (numbers-few c.args.octets.now c.in_default.ensures.none))

pub loop-number-init : goal.loop-number-init
loop-number-init c =
    let text = c.args.text.now.items in
    let others = map decimal (numbers_in number_width c.in-Some.rest.now) in
    added text c.put_decimal.new.text.items (decimal c.in-Some.first) (flat_map (λ (t : List ℕ). c.args.between ∷ t) others) c.in_ok-put_decimal.ensures
    ∙ ap (λ (t : List ℕ). text ++ t) (sym (joined c.args.between (decimal c.in-Some.first) others))
    ∙ ap (λ (ns : List ℕ). text ++ join_with_byte c.args.between (map decimal ns)) (sym c.in-Some.ensures.are_read)

pub returns : goal.returns
returns c =
    append-nil c.loop-number.text.items
    ∙ ap (λ (ns : List ℕ). c.loop-number.text.items ++ flat_map (λ (t : List ℕ). c.args.between ∷ t) (map decimal ns))
    (sym (numbers-few c.loop-number.rest.now c.in_default-split_number.ensures.none))
    ∙ c.loop-number.invariant
