use Rattle.std.proofs.Common.{refl}
use Rattle.rcp_model.specs.Messages.{header_fault, message_size}
use Rattle.rcp_model.specs.Opens.{parameter_size, open_fault}
use Rattle.rcp_model.specs.Sessions.{handle, handle_all, course_of, answer, answers, begun}
use Rattle.meaning_cases.proofs.fault_cases.each_state_takes_its_messages.Goals as goal

pub returns : goal.returns
unfolding header_fault message_size parameter_size open_fault handle handle_all course_of answer answers begun
returns c = record { keepalive = refl; notified = refl; second_open = refl; early_update = refl; notified_later = refl }
