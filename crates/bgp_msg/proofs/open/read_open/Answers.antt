-- Each check is that of the definition, in its order.
use Rattle.std.proofs.Common.{◌∙◌, sym, ap, length}
use Rattle.bgp_msg.specs.Opened.{parameters_fault}
use Rattle.bgp_msg.proofs.OpenFaults.{version_fault, as_fault, hold_fault, length_fault, parameters_left}
use Rattle.bgp_msg.proofs.open.read_open.Goals as goal

pub returns-then-body-ne-VERSION : goal.returns-then-body-ne-VERSION
returns-then-body-ne-VERSION c =
    rw (c.open_error.ensures, c.from.ensures) (version_fault c.args.local_as c.args.body.now c.if-body-ne-VERSION.true, tt)

pub returns-then-from-local_as : goal.returns-then-from-local_as
returns-then-from-local_as c =
    let version = c.if-body-ne-VERSION.false in
    rw c.open_error-then-from-local_as.ensures
    (as_fault c.args.local_as c.args.body.now version _ c.offer_of-offer.ensures (λ e. c.if-from-local_as.true (c.from-2.ensures ∙ e)), tt)

pub returns-then-is_short_hold : goal.returns-then-is_short_hold
returns-then-is_short_hold c =
    let version = c.if-body-ne-VERSION.false in
    let same = sym c.from-2.ensures ∙ c.if-from-local_as.false in
    let short = sym c.is_short_hold.ensures ∙ c.if-is_short_hold.true in
    rw c.open_error-then-is_short_hold.ensures
    (hold_fault c.args.local_as c.args.body.now version _ c.offer_of-offer.ensures same short, tt)

pub returns-then-from-parameters : goal.returns-then-from-parameters
returns-then-from-parameters c =
    let version = c.if-body-ne-VERSION.false in
    let same = sym c.from-2.ensures ∙ c.if-from-local_as.false in
    let long = sym c.is_short_hold.ensures ∙ c.if-is_short_hold.false in
    rw c.open_error-then-from-parameters.ensures (
      length_fault c.args.local_as c.args.body.now version _ c.offer_of-offer.ensures same long
          (λ e. c.if-from-parameters.true (c.from-3.ensures ∙ e ∙ ap length (sym c.split_at.ensures.back))),
      tt,
    )

pub returns-in-Err : goal.returns-in-Err
returns-in-Err c =
    let version = c.if-body-ne-VERSION.false in
    let same = sym c.from-2.ensures ∙ c.if-from-local_as.false in
    let long = sym c.is_short_hold.ensures ∙ c.if-is_short_hold.false in
    let told = sym c.from-3.ensures ∙ c.if-from-parameters.false ∙ ap length c.split_at.ensures.back in
    let left = parameters_left c.args.local_as c.args.body.now version _ c.offer_of-offer.ensures same long told in
    (left ∙ ap parameters_fault (sym c.split_at.ensures.back) ∙ c.in-Err.ensures.0, c.in-Err.ensures.1)

pub returns : goal.returns
returns c =
    let version = c.if-body-ne-VERSION.false in
    let same = sym c.from-2.ensures ∙ c.if-from-local_as.false in
    let long = sym c.is_short_hold.ensures ∙ c.if-is_short_hold.false in
    let told = sym c.from-3.ensures ∙ c.if-from-parameters.false ∙ ap length c.split_at.ensures.back in
    let left = parameters_left c.args.local_as c.args.body.now version _ c.offer_of-offer.ensures same long told in
    (left ∙ ap parameters_fault (sym c.split_at.ensures.back) ∙ c.in_default.ensures, c.offer_of-offer.ensures)
