-- Each check is that of the definition, in its order.
use Rattle.std.proofs.Common.{◌∙◌, sym}
use Rattle.bgp_msg.proofs.HeaderFaults.{marker_fault, length_fault, type_fault, bounds_fault, no_fault, IsLengthOf-faultless}
use Rattle.bgp_msg.proofs.header.read_header.Goals as goal

pub returns-then-not-has_marker-clause-fault : goal.returns-then-not-has_marker-clause-fault
returns-then-not-has_marker-clause-fault c =
    rw c.header_error.ensures (marker_fault c.args.octets.now (sym c.has_marker.ensures ∙ c.if-not-has_marker.true), tt)

pub returns-then-is_outside-clause-fault : goal.returns-then-is_outside-clause-fault
returns-then-is_outside-clause-fault c =
    let marked = sym c.has_marker.ensures ∙ c.if-not-has_marker.false in
    let outside = sym c.is_outside.ensures ∙ c.if-is_outside.true in
    rw c.header_error-then-is_outside.ensures (length_fault c.args.octets.now marked _ _ c.header_of-header.ensures outside, tt)

pub returns-then-is_unknown-clause-fault : goal.returns-then-is_unknown-clause-fault
returns-then-is_unknown-clause-fault c =
    let marked = sym c.has_marker.ensures ∙ c.if-not-has_marker.false in
    let within = sym c.is_outside.ensures ∙ c.if-is_outside.false in
    let unknown = sym c.is_unknown.ensures ∙ c.if-is_unknown.true in
    rw c.header_error-then-is_unknown.ensures (type_fault c.args.octets.now marked _ _ c.header_of-header.ensures within unknown, tt)

pub returns-then-has_other_length-clause-fault : goal.returns-then-has_other_length-clause-fault
returns-then-has_other_length-clause-fault c =
    let marked = sym c.has_marker.ensures ∙ c.if-not-has_marker.false in
    let within = sym c.is_outside.ensures ∙ c.if-is_outside.false in
    let known = sym c.is_unknown.ensures ∙ c.if-is_unknown.false in
    let outside = sym c.has_other_length.ensures ∙ c.if-has_other_length.true in
    rw c.header_error-then-has_other_length.ensures (bounds_fault c.args.octets.now marked _ _ c.header_of-header.ensures within known outside, tt)

pub returns-clause-faultless : goal.returns-clause-faultless
returns-clause-faultless c =
    let marked = sym c.has_marker.ensures ∙ c.if-not-has_marker.false in
    let within = sym c.is_outside.ensures ∙ c.if-is_outside.false in
    let known = sym c.is_unknown.ensures ∙ c.if-is_unknown.false in
    let inside = sym c.has_other_length.ensures ∙ c.if-has_other_length.false in
    no_fault c.args.octets.now marked _ _ c.header_of-header.ensures within known inside

pub returns-clause-lengths : goal.returns-clause-lengths
returns-clause-lengths c =
    let marked = sym c.has_marker.ensures ∙ c.if-not-has_marker.false in
    let within = sym c.is_outside.ensures ∙ c.if-is_outside.false in
    let known = sym c.is_unknown.ensures ∙ c.if-is_unknown.false in
    let inside = sym c.has_other_length.ensures ∙ c.if-has_other_length.false in
    IsLengthOf-faultless c.args.octets.now _ _ c.header_of-header.ensures (no_fault c.args.octets.now marked _ _ c.header_of-header.ensures within known inside)
