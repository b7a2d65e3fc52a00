use Rattle.std.proofs.Common.{sym, ◌∙◌}
use Rattle.rcpd_words.proofs.WordLemmas.{last_option, some_left, none_left, ordered, none_first, none_second, none_third, more_words}
use Rattle.rcpd_words.proofs.options.values_of.Goals as goal

pub returns-in_err-one : goal.returns-in_err-one
returns-in_err-one c = rw c.from_residual.ensures (none_first _ c.in_err-one.ensures)

pub returns-in_err-two : goal.returns-in_err-two
returns-in_err-two c = rw c.from_residual-in_err-two.ensures
    (none_second (c.in_ok-one.one.name, c.in_ok-one.one.value.now) _ _ c.in_ok-one.ensures c.in_err-two.ensures)

pub returns-in_err-three : goal.returns-in_err-three
returns-in_err-three c = rw c.from_residual-in_err-three.ensures
    (none_third (c.in_ok-one.one.name, c.in_ok-one.one.value.now) (c.in_ok-two.two.name, c.in_ok-two.two.value.now) _ _ _
    (record { first = c.in_ok-one.ensures; second = c.in_ok-two.ensures }) c.in_err-three.ensures)

pub returns-then-not-is_empty : goal.returns-then-not-is_empty
returns-then-not-is_empty c = more_words (c.in_ok-one.one.name, c.in_ok-one.one.value.now) (c.in_ok-two.two.name, c.in_ok-two.two.value.now)
    (c.in_ok-three.three.name, c.in_ok-three.three.value.now) _ _ _ _ (record { first = c.in_ok-one.ensures; second = c.in_ok-two.ensures }) c.in_ok-three.ensures (some_left _ (sym c.is_empty.ensures ∙ c.if-not-is_empty.true))

pub returns : goal.returns
returns c =
    let none = none_left c.in_ok-three.rest.now (sym c.is_empty.ensures ∙ c.if-not-is_empty.false) in
    ordered c.in_order.result (c.in_ok-one.one.name, c.in_ok-one.one.value.now) (c.in_ok-two.two.name, c.in_ok-two.two.value.now)
    (c.in_ok-three.three.name, c.in_ok-three.three.value.now) _
    (record {
      after_one = _;
      after_two = _;
      first = c.in_ok-one.ensures;
      second = c.in_ok-two.ensures;
      third = last_option (c.in_ok-three.three.name, c.in_ok-three.three.value.now) _ _ c.in_ok-three.ensures none;
    }) c.in_order.ensures
