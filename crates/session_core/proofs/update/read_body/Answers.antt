use Rattle.std.proofs.Common.{◌≡◌, Bool, not, ap, sym, subst, ◌∙◌, Some, arith}
use Rattle.rcp_model.specs.Attributes.{attributes_fault, number_width}
use Rattle.bgp_fault.specs.declared.Fault.{Fault}
use Rattle.bgp_fault.specs.Faults.{IsWithin}
use Rattle.path_attrs.specs.declared.refusal.AttrRefusal.{AttrRefusal}
use Rattle.path_attrs.specs.Refusals.{fault_in, IfFault}
use Rattle.session_core.proofs.UpdateLemmas.{no_sections, by_attributes, by_withdrawn, by_nlri, no_fault, room_within, bare_told}
use Rattle.session_core.proofs.update.read_body.Goals as goal

pub returns-in-Err-clause-first_fault : goal.returns-in-Err-clause-first_fault
returns-in-Err-clause-first_fault c = record {
  first = no_sections c.args.body.now c.in-Err.ensures.sections.0 ∙ ap (λ (f : Fault). Some (fault_in c.args.body.now f)) (sym c.in-Err.ensures.sections.1);
  told = bare_told (record { fault = c.in-Err.fault; octets = c.args.body }) 3 1 c.in-Err.ensures.sections.1;
}

pub returns-in-Err-Fault-clause-first_fault : goal.returns-in-Err-Fault-clause-first_fault
returns-in-Err-Fault-clause-first_fault c =
    let attrs = c.in-Ok.sections.attrs.now in
    let first : attributes_fault number_width (not c.is_empty.result) attrs ≡ Some (fault_in attrs c.in-Err-Fault.fault) =
    subst (λ (r : AttrRefusal). IfFault r (λ f. attributes_fault number_width (not c.is_empty.result) attrs ≡ Some (fault_in attrs f))) c.in-Err-Fault.field-0-is c.in-Err-Fault.ensures.first_fault in
    let within : IsWithin attrs c.in-Err-Fault.fault.extra = subst (λ (r : AttrRefusal). IfFault r (λ f. IsWithin attrs f.extra)) c.in-Err-Fault.field-0-is c.in-Err-Fault.ensures.within in
    record {
      first = by_attributes c.args.body.now _ c.in-Ok.ensures.sections (fault_in attrs c.in-Err-Fault.fault) (ap (λ (b : Bool). attributes_fault number_width (not b) attrs) (sym c.is_empty.ensures) ∙ first);
      told = record { within = within; room = room_within attrs c.in-Err-Fault.fault.extra within (omega (arith, c.in-Ok.ensures.lengths, c.requires)) };
    }

pub returns-in-Err-check_prefixes-clause-first_fault : goal.returns-in-Err-check_prefixes-clause-first_fault
returns-in-Err-check_prefixes-clause-first_fault c = record {
  first = by_withdrawn c.args.body.now _ c.in-Ok.ensures.sections
      (ap (λ (b : Bool). attributes_fault number_width (not b) c.in-Ok.sections.attrs.now) (sym c.is_empty.ensures) ∙ c.in-Ok-read.ensures.faultless)
      (fault_in c.in-Ok.sections.withdrawn.now c.in-Err-check_prefixes.fault) c.in-Err-check_prefixes.ensures.0;
  told = bare_told (record { fault = c.in-Err-check_prefixes.fault; octets = c.in-Ok.sections.withdrawn }) 3 10 c.in-Err-check_prefixes.ensures.1;
}

pub returns-in-Err-check_prefixes-2-clause-first_fault : goal.returns-in-Err-check_prefixes-2-clause-first_fault
returns-in-Err-check_prefixes-2-clause-first_fault c = record {
  first = by_nlri c.args.body.now _ c.in-Ok.ensures.sections
      (ap (λ (b : Bool). attributes_fault number_width (not b) c.in-Ok.sections.attrs.now) (sym c.is_empty.ensures) ∙ c.in-Ok-read.ensures.faultless)
      (fault_in c.in-Ok.sections.nlri.now c.in-Err-check_prefixes-2.fault) c.in_default.ensures c.in-Err-check_prefixes-2.ensures.0;
  told = bare_told (record { fault = c.in-Err-check_prefixes-2.fault; octets = c.in-Ok.sections.nlri }) 3 10 c.in-Err-check_prefixes-2.ensures.1;
}

pub returns-clause-faultless : goal.returns-clause-faultless
returns-clause-faultless c =
    no_fault c.args.body.now _ c.in-Ok.ensures.sections
    (ap (λ (b : Bool). attributes_fault number_width (not b) c.in-Ok.sections.attrs.now) (sym c.is_empty.ensures) ∙ c.in-Ok-read.ensures.faultless)
    c.in_default.ensures c.in_default-check_prefixes.ensures

pub returns-clause-read : goal.returns-clause-read
returns-clause-read c = record {
  octets = c.in-Ok.sections.attrs.now;
  sections = c.in-Ok.ensures.sections;
  same_route = c.in-Ok-read.ensures.route;
}
