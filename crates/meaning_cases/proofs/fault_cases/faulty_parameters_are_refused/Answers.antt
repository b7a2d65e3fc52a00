use Rattle.std.proofs.Common.{refl}
use Rattle.rcp_model.specs.Messages.{header_fault, message_size}
use Rattle.rcp_model.specs.Opens.{parameter_size, open_fault}
use Rattle.rcp_model.specs.Sessions.{handle, handle_all, course_of, answer, answers, begun}
use Rattle.meaning_cases.proofs.fault_cases.faulty_parameters_are_refused.Goals as goal

pub returns : goal.returns
unfolding header_fault message_size parameter_size open_fault handle handle_all course_of answer answers begun
returns c = record { length = refl; past_the_end = refl; unknown = refl; front_first = refl; end_before_type = refl }
