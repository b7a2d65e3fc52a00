-- Cases that the definitions compute.
use Rattle.std.proofs.Common.{◌≡◌, [], refl}
use Rattle.rcp_model.specs.Messages.{header_fault, message_size}
use Rattle.rcp_model.specs.Opens.{parameter_size, open_fault}
use Rattle.rcp_model.specs.Attributes.{attribute_size, segment_size, number_size, attribute_fault, list_fault, attributes_fault, canonical, attribute_octets}
use Rattle.rcp_model.specs.Routes.{route_of}
use Rattle.rcp_model.specs.Updates.{sections_of, prefix_size, update_fault, changes_of, update_octets, after_message, after_messages, replay}
use Rattle.rcp_model.specs.LinkState.{aged}
use Rattle.rcp_model.specs.Edges.{edges_of}
use Rattle.rcp_model.specs.Costs.{cost_through}
use Rattle.rcp_model.specs.Decision.{tied, choice}
use Rattle.rcp_model.specs.RouteServer.{slot_cost, candidates, choice_of, offer, after, after_all}
use Rattle.rcp_model.specs.Sessions.{handle, handle_all, course_of, tick, answer, answers, begun, begun_established}
use Rattle.feed_meaning.specs.Platform.{fresh}
use Rattle.rcp_model.specs.Packing.{update_of, groups, packed}
use Rattle.feed_meaning.specs.Runs.{act, platform_after, all_output}
use Rattle.meaning_cases.specs.Examples.{A, B, link, linked, tie, tie_output}
use Rattle.meaning_cases.specs.Cases.{starred, lower_exit, lower_exit_output, loop, loop_output, withdrawn_and_announced, withdrawn_and_announced_output, lone, alone, alone_output, longest, longest_output, overlong, overlong_output, lone_link_state, faulty, faulty_output}
use Rattle.meaning_cases.specs.SessionFeeds.{session_loss, session_loss_output, timers, timers_output, seat_taken, seat_taken_output, in_pieces, faulty_header, faulty_header_output, refused_and_again, refused_and_again_output}

pub tie_is : all_output (fresh linked) tie ≡ tie_output
unfolding header_fault message_size attribute_size segment_size number_size attribute_fault list_fault attributes_fault canonical attribute_octets route_of sections_of prefix_size update_fault changes_of update_octets after_message after_messages replay cost_through tied choice slot_cost candidates choice_of offer after after_all parameter_size open_fault handle handle_all course_of tick answer answers begun begun_established edges_of aged update_of groups packed act platform_after all_output
tie_is = refl

pub lower_exit_is : all_output (fresh starred) lower_exit ≡ lower_exit_output
unfolding header_fault message_size attribute_size segment_size number_size attribute_fault list_fault attributes_fault canonical attribute_octets route_of sections_of prefix_size update_fault changes_of update_octets after_message after_messages replay cost_through tied choice slot_cost candidates choice_of offer after after_all parameter_size open_fault handle handle_all course_of tick answer answers begun begun_established edges_of aged update_of groups packed act platform_after all_output
lower_exit_is = refl

pub loop_is : all_output (fresh linked) loop ≡ loop_output
unfolding header_fault message_size attribute_size segment_size number_size attribute_fault list_fault attributes_fault canonical attribute_octets route_of sections_of prefix_size update_fault changes_of update_octets after_message after_messages replay cost_through tied choice slot_cost candidates choice_of offer after after_all parameter_size open_fault handle handle_all course_of tick answer answers begun begun_established edges_of aged update_of groups packed act platform_after all_output
loop_is = refl

pub withdrawn_and_announced_is : all_output (fresh linked) withdrawn_and_announced ≡ withdrawn_and_announced_output
unfolding header_fault message_size attribute_size segment_size number_size attribute_fault list_fault attributes_fault canonical attribute_octets route_of sections_of prefix_size update_fault changes_of update_octets after_message after_messages replay cost_through tied choice slot_cost candidates choice_of offer after after_all parameter_size open_fault handle handle_all course_of tick answer answers begun begun_established edges_of aged update_of groups packed act platform_after all_output
withdrawn_and_announced_is = refl

pub alone_is : all_output (fresh lone) alone ≡ alone_output
unfolding header_fault message_size attribute_size segment_size number_size attribute_fault list_fault attributes_fault canonical attribute_octets route_of sections_of prefix_size update_fault changes_of update_octets after_message after_messages replay cost_through tied choice slot_cost candidates choice_of offer after after_all parameter_size open_fault handle handle_all course_of tick answer answers begun begun_established edges_of aged update_of groups packed act platform_after all_output
alone_is = refl

pub longest_is : all_output (fresh linked) longest ≡ longest_output
unfolding header_fault message_size attribute_size segment_size number_size attribute_fault list_fault attributes_fault canonical attribute_octets route_of sections_of prefix_size update_fault changes_of update_octets after_message after_messages replay cost_through tied choice slot_cost candidates choice_of offer after after_all parameter_size open_fault handle handle_all course_of tick answer answers begun begun_established edges_of aged update_of groups packed act platform_after all_output
longest_is = refl

pub overlong_is : all_output (fresh linked) overlong ≡ overlong_output
unfolding header_fault message_size attribute_size segment_size number_size attribute_fault list_fault attributes_fault canonical attribute_octets route_of sections_of prefix_size update_fault changes_of update_octets after_message after_messages replay cost_through tied choice slot_cost candidates choice_of offer after after_all parameter_size open_fault handle handle_all course_of tick answer answers begun begun_established edges_of aged update_of groups packed act platform_after all_output
overlong_is = refl

pub lone_edges_are : edges_of lone_link_state [] ≡ link A B 10
unfolding edges_of
lone_edges_are = refl

pub faulty_is : all_output (fresh linked) faulty ≡ faulty_output
unfolding header_fault message_size attribute_size segment_size number_size attribute_fault list_fault attributes_fault canonical attribute_octets route_of sections_of prefix_size update_fault changes_of update_octets after_message after_messages replay cost_through tied choice slot_cost candidates choice_of offer after after_all parameter_size open_fault handle handle_all course_of tick answer answers begun begun_established edges_of aged update_of groups packed act platform_after all_output
faulty_is = refl

pub session_loss_is : all_output (fresh linked) session_loss ≡ session_loss_output
unfolding header_fault message_size attribute_size segment_size number_size attribute_fault list_fault attributes_fault canonical attribute_octets route_of sections_of prefix_size update_fault changes_of update_octets after_message after_messages replay cost_through tied choice slot_cost candidates choice_of offer after after_all parameter_size open_fault handle handle_all course_of tick answer answers begun begun_established edges_of aged update_of groups packed act platform_after all_output
session_loss_is = refl

pub timers_is : all_output (fresh linked) timers ≡ timers_output
unfolding header_fault message_size attribute_size segment_size number_size attribute_fault list_fault attributes_fault canonical attribute_octets route_of sections_of prefix_size update_fault changes_of update_octets after_message after_messages replay cost_through tied choice slot_cost candidates choice_of offer after after_all parameter_size open_fault handle handle_all course_of tick answer answers begun begun_established edges_of aged update_of groups packed act platform_after all_output
timers_is = refl

pub seat_taken_is : all_output (fresh linked) seat_taken ≡ seat_taken_output
unfolding header_fault message_size attribute_size segment_size number_size attribute_fault list_fault attributes_fault canonical attribute_octets route_of sections_of prefix_size update_fault changes_of update_octets after_message after_messages replay cost_through tied choice slot_cost candidates choice_of offer after after_all parameter_size open_fault handle handle_all course_of tick answer answers begun begun_established edges_of aged update_of groups packed act platform_after all_output
seat_taken_is = refl

pub in_pieces_is : all_output (fresh linked) in_pieces ≡ tie_output
unfolding header_fault message_size attribute_size segment_size number_size attribute_fault list_fault attributes_fault canonical attribute_octets route_of sections_of prefix_size update_fault changes_of update_octets after_message after_messages replay cost_through tied choice slot_cost candidates choice_of offer after after_all parameter_size open_fault handle handle_all course_of tick answer answers begun begun_established edges_of aged update_of groups packed act platform_after all_output
in_pieces_is = refl

pub faulty_header_is : all_output (fresh linked) faulty_header ≡ faulty_header_output
unfolding header_fault message_size attribute_size segment_size number_size attribute_fault list_fault attributes_fault canonical attribute_octets route_of sections_of prefix_size update_fault changes_of update_octets after_message after_messages replay cost_through tied choice slot_cost candidates choice_of offer after after_all parameter_size open_fault handle handle_all course_of tick answer answers begun begun_established edges_of aged update_of groups packed act platform_after all_output
faulty_header_is = refl

pub refused_and_again_is : all_output (fresh linked) refused_and_again ≡ refused_and_again_output
unfolding header_fault message_size attribute_size segment_size number_size attribute_fault list_fault attributes_fault canonical attribute_octets route_of sections_of prefix_size update_fault changes_of update_octets after_message after_messages replay cost_through tied choice slot_cost candidates choice_of offer after after_all parameter_size open_fault handle handle_all course_of tick answer answers begun begun_established edges_of aged update_of groups packed act platform_after all_output
refused_and_again_is = refl
