use Rattle.std.proofs.Common.{refl}
use Rattle.rcp_model.specs.Messages.{header_fault, message_size}
use Rattle.rcp_model.specs.Opens.{parameter_size, open_fault}
use Rattle.rcp_model.specs.Attributes.{attribute_size, segment_size, number_size, attribute_fault, list_fault, attributes_fault, canonical, attribute_octets}
use Rattle.rcp_model.specs.Routes.{route_of}
use Rattle.rcp_model.specs.Updates.{sections_of, prefix_size, update_fault, changes_of, update_octets, after_message, after_messages, replay}
use Rattle.rcp_model.specs.LinkState.{aged}
use Rattle.rcp_model.specs.Edges.{edges_of}
use Rattle.rcp_model.specs.Costs.{cost_through}
use Rattle.rcp_model.specs.Decision.{tied, choice}
use Rattle.rcp_model.specs.RouteServer.{slot_cost, candidates, choice_of, offer, after, after_all}
use Rattle.rcp_model.specs.Sessions.{handle, handle_all, course_of, tick, answer, answers, begun, begun_established}
use Rattle.rcp_model.specs.Packing.{update_of, groups, packed}
use Rattle.feed_meaning.specs.Runs.{act, platform_after, all_output}
use Rattle.rcp_model.specs.LinkState.{answer_to, kept_after, installation, installed}
use Rattle.rcp_base.specs.OspfPackets.{packet_size}
use Rattle.rcp_model.specs.RouterLsas.{lsa_checks, lsa_at}
use Rattle.rcp_model.specs.LinkStateUpdates.{lsas_of_packet, installed_all}
use Rattle.meaning_cases.proofs.link_state_feeds.router_without_links_is_offered_nothing.Goals as goal

pub returns : goal.returns
unfolding header_fault message_size attribute_size segment_size number_size attribute_fault list_fault attributes_fault canonical attribute_octets route_of sections_of prefix_size update_fault changes_of update_octets after_message after_messages replay cost_through tied choice slot_cost candidates choice_of offer after after_all parameter_size open_fault handle handle_all course_of tick answer answers begun begun_established edges_of aged update_of groups packed act platform_after all_output answer_to kept_after installation installed lsa_checks lsa_at packet_size lsas_of_packet installed_all
returns c = refl
