use Rattle.rib_laws.proofs.PartLemmas.{part_after, part_after_all}
use Rattle.rib_laws.proofs.parts.an_event_acts_on_the_parts_it_concerns.Goals as goal

pub returns : goal.returns
returns c = record {
  octets = λ owns. part_after owns;
  octets_all = λ owns. part_after_all owns;
  routes = λ owns. part_after owns;
  routes_all = λ owns. part_after_all owns;
}
