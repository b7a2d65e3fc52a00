use Rattle.std.proofs.Common.{refl}
use Rattle.rcp_model.specs.Messages.{header_fault, message_size}
use Rattle.rcp_model.specs.Sessions.{handle, handle_all, course_of, answer, answers, begun}
use Rattle.meaning_cases.proofs.fault_cases.faulty_headers_are_told.Goals as goal

pub returns : goal.returns
unfolding header_fault message_size handle handle_all course_of answer answers begun
returns c = record { marker = refl; low_type = refl; high_type = refl }
