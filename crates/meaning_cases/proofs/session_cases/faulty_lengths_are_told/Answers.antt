use Rattle.std.proofs.Common.{refl}
use Rattle.rcp_model.specs.Messages.{header_fault, message_size}
use Rattle.rcp_model.specs.Opens.{parameter_size, open_fault}
use Rattle.rcp_model.specs.Sessions.{handle, handle_all, course_of, tick, answer, answers, begun, begun_established}
use Rattle.meaning_cases.proofs.session_cases.faulty_lengths_are_told.Goals as goal

pub returns : goal.returns
unfolding header_fault message_size parameter_size open_fault handle handle_all course_of tick answer answers begun begun_established
returns c = record { short = refl; long = refl; body = refl; early = refl }
