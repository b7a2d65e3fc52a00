-- A refusal that says more.
use Rattle.bgp_fault.specs.declared.Fault.{Fault}
use Rattle.path_attrs.specs.Refusals.{IfFault}
use Rattle.path_attrs.specs.declared.refusal.AttrRefusal.{AttrRefusal}
use Rattle.path_attrs.specs.declared.refusal.AttrRefusal.TheVariants as refusals

pub IfFault-map : (refusal : AttrRefusal) (P Q : Fault → Type 0) → ((fault : Fault) → P fault → Q fault) → IfFault refusal P → IfFault refusal Q
IfFault-map (refusals.Fault fault) P Q step is = step fault is
IfFault-map refusals.NoMemory P Q step is = tt
