use Rattle.std.proofs.Common.{refl}
use Rattle.rcp_model.specs.Messages.{header_fault, message_size}
use Rattle.rcp_model.specs.Attributes.{attribute_size, segment_size, number_size, attribute_fault, list_fault, attributes_fault, canonical, attribute_octets}
use Rattle.rcp_model.specs.Updates.{sections_of, prefix_size, update_fault, changes_of}
use Rattle.rcp_model.specs.Sessions.{handle, handle_all, course_of, answer, answers, begun_established}
use Rattle.meaning_cases.proofs.fault_cases.well_known_attributes_are_asked_for.Goals as goal

pub returns : goal.returns
unfolding header_fault message_size attribute_size segment_size number_size attribute_fault list_fault attributes_fault canonical attribute_octets sections_of prefix_size update_fault changes_of handle handle_all course_of answer answers begun_established
returns c = record { unrecognised = refl; no_origin = refl; no_path = refl; no_next_hop = refl }
