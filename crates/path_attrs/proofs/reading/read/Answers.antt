use Rattle.std.proofs.Common.{◌≡◌, refl, sym, ap, ◌∙◌, arith}
use Rattle.std.proofs.lemmas.Result.{err_from_is_err_and}
use Rattle.rcp_model.specs.Attributes.{attributes_in, canonical_octets, missing_fault, number_width}
use Rattle.rcp_model.specs.Routes.{route_of}
use Rattle.path_attrs.proofs.Again.{canonical_octets-sent_on, route_of-sent_on}
use Rattle.path_attrs.proofs.Cutting.{IsBytes}
use Rattle.path_attrs.proofs.Faultless.{sent_on-kept}
use Rattle.path_attrs.proofs.Judging.{attributes_fault-list, attributes_fault-missing}
use Rattle.path_attrs.proofs.Refusing.{IfFault-map}
use Rattle.path_attrs.proofs.Values.{missing_fault-sent_on}
use Rattle.path_attrs.proofs.reading.read.Goals as goal
use Rattle.path_attrs.proofs.reading.read.Goals.{then-nlri+in_ok-need_all, else-nlri}

pub returns-in_err-read_list-clause-first_fault : goal.returns-in_err-read_list-clause-first_fault
returns-in_err-read_list-clause-first_fault c =
    let p = err_from_is_err_and c.from_residual.result c.from_residual.ensures.1 in
    rw (p.1, p.2) (IfFault-map c.in_err-read_list.field-0.0 _ _ (λ fault is. attributes_fault-list c.args.nlri c.args.bytes.now _ is) c.in_err-read_list.ensures.fault)

pub new-attrs-requires : goal.new-attrs-requires
new-attrs-requires c =
    let bytes : IsBytes c.args.bytes.now = λ k. omega (arith, c.type_inv.bytes k) in
    rw c.in_ok-read_list.ensures.values (sent_on-kept c.args.bytes.now bytes c.requires c.in_ok-read_list.ensures.faultless)

pub returns-in_err-need_all-clause-first_fault : goal.returns-in_err-need_all-clause-first_fault
returns-in_err-need_all-clause-first_fault c =
    let p = err_from_is_err_and c.from_residual-in_err-need_all.result c.from_residual-in_err-need_all.ensures.1 in
    let same : missing_fault c.new-attrs.result ≡ missing_fault (attributes_in c.args.bytes.now) = ap missing_fault (c.new-attrs.ensures ∙ c.in_ok-read_list.ensures.values) ∙ missing_fault-sent_on (attributes_in c.args.bytes.now) in
    let all = attributes_fault-missing c.args.nlri c.args.bytes.now c.in_ok-read_list.ensures.faultless in
    rw (p.1, p.2) (all ∙ rw c.if-nlri.true (sym same ∙ (c.in_err-need_all.ensures.missing c.args.bytes.now).0))

pub returns-in_err-need_all-clause-within : goal.returns-in_err-need_all-clause-within
returns-in_err-need_all-clause-within c =
    let p = err_from_is_err_and c.from_residual-in_err-need_all.result c.from_residual-in_err-need_all.ensures.1 in
    rw (p.1, p.2) (c.in_err-need_all.ensures.missing c.args.bytes.now).1

pub returns-clause-faultless : goal.returns-clause-faultless
returns-clause-faultless c =
    let same : missing_fault c.new-attrs.result ≡ missing_fault (attributes_in c.args.bytes.now) = ap missing_fault (c.new-attrs.ensures ∙ c.in_ok-read_list.ensures.values) ∙ missing_fault-sent_on (attributes_in c.args.bytes.now) in
    let all = attributes_fault-missing c.args.nlri c.args.bytes.now c.in_ok-read_list.ensures.faultless in
    elim c.if-nlri.branch [
      | then-nlri+in_ok-need_all w ↦ all ∙ rw w.if-nlri.true (sym same ∙ w.in_ok-need_all.ensures.complete)
      | else-nlri w ↦ all ∙ rw w.if-nlri.false refl
    ]

pub returns-clause-octets : goal.returns-clause-octets
returns-clause-octets c =
    ap canonical_octets (c.new-attrs.ensures ∙ c.in_ok-read_list.ensures.values) ∙ canonical_octets-sent_on (attributes_in c.args.bytes.now)

pub returns-clause-route : goal.returns-clause-route
returns-clause-route c = λ local_as.
    ap (route_of number_width local_as) (c.new-attrs.ensures ∙ c.in_ok-read_list.ensures.values) ∙ route_of-sent_on number_width local_as (attributes_in c.args.bytes.now)
