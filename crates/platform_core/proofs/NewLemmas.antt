-- A platform to which nothing happened.
use Rattle.std.proofs.Common.{◌≡◌, ℕ, zero, suc, false, List, [], length, Some, refl, sym, ap, subst, ◌∙◌, arith}
use Rattle.std.specs.Prelude.{replicate}
use Rattle.rcp_base.specs.declared.names.Edge.{Edge}
use Rattle.rcp_base.specs.Roster.{RosterOf}
use Rattle.rcp_model.specs.Costs.{IsTwoWay}
use Rattle.rcp_model.specs.Edges.{edges_of}
use Rattle.rcp_model.specs.LinkState.{aged}
use Rattle.rcp_model.specs.Routes.{RouteFields}
use Rattle.rcp_model.specs.ServerRibs.{empty_ribs}
use Rattle.rib_laws.proofs.TwoWayLemmas.{edges-two_way}
use Rattle.lsdb.specs.Databases.{Holds, empty}
use Rattle.ospf_packet.specs.Framing.{at_start}
use Rattle.igp_view.specs.Igp.{IgpOf, AreEdgesOf}
use Rattle.platform_laws.specs.Records.{new_platform}
use Rattle.platform_laws.proofs.RecordSteps.{first-edges}
use Rattle.rcs_shards.specs.Servers.{new_server, edges_in}
use Rattle.platform_core.specs.Open.{OpenOf}
use Rattle.platform_core.specs.Following.{AllHave, IsYoung, seen_of}
use Rattle.platform_core.specs.Joins.{IsJoined}
use Rattle.platform_core.proofs.LinkLemmas.{young_by}

abbrev pub first_igp : RosterOf → IgpOf
first_igp roster = record { area = roster.area; members = roster.members; links = roster.links; database = empty; stream = Some at_start; edges = edges_of empty.state roster.links; changes = 0; spent = false }

none_two_way : IsTwoWay []
none_two_way edge contained = absurd (omega (arith, contained.1))

new_two_way : (edges : List Edge) (n : ℕ) → IsTwoWay edges → IsTwoWay (edges_in (replicate n (empty_ribs {V = RouteFields} edges)))
new_two_way edges zero two_way = none_two_way
new_two_way edges (suc n) two_way = two_way

new_have : (edges : List Edge) (n : ℕ) → AllHave edges (replicate n (empty_ribs {V = RouteFields} edges))
new_have edges zero = tt
new_have edges (suc n) = (refl, new_have edges n)

new_young : Holds empty.state empty.state → IsYoung 0 empty.state
unfolding aged
new_young held = young_by 0 empty.state empty.state held refl

pub joined_first : (roster : RosterOf) (edges : List Edge) (igp : IgpOf) (opened : OpenOf) → igp ≡ first_igp roster → edges ≡ igp.edges → IsTwoWay roster.links
    → AreEdgesOf igp.database.state igp.links igp.edges → Holds igp.database.state igp.database.state → opened ≡ record { sessions = []; members = length roster.members; spent = false }
    → IsJoined false (new_server roster edges) opened 0 igp
joined_first roster edges igp opened igp_is edges_is links edges_are held opened_is = record {
  two_way = new_two_way edges roster.shards (subst IsTwoWay (sym (edges_is ∙ ap (λ (i : IgpOf). i.edges) igp_is)) (edges-two_way empty.state roster.links links));
  links = links;
  whole = λ fresh. ap (λ (o : OpenOf). o.spent) opened_is;
  seats = λ fresh. ap (λ (o : OpenOf). o.members) opened_is;
  followed = λ fresh. record {
    unspent = ap (λ (i : IgpOf). i.spent) igp_is;
    area = ap (λ (i : IgpOf). i.area) igp_is;
    members = ap (λ (i : IgpOf). i.members) igp_is;
    links = ap (λ (i : IgpOf). i.links) igp_is;
    time_is = ap (λ (i : IgpOf). i.database.moment) igp_is;
    young = subst (λ (i : IgpOf). IsYoung 0 i.database.state) (sym igp_is) (new_young (subst (λ (i : IgpOf). Holds i.database.state i.database.state) igp_is held));
    held = held;
    edges_are = edges_are;
    shards_have = subst (λ (l : List Edge). AllHave l (new_server roster edges).shards) edges_is (new_have edges roster.shards);
  };
}

pub seen_first : (roster : RosterOf) (edges : List Edge) (igp : IgpOf) (opened : OpenOf) → igp ≡ first_igp roster → edges ≡ igp.edges → opened ≡ record { sessions = []; members = length roster.members; spent = false }
    → seen_of (new_server roster edges) opened.sessions 0 igp 0 ≡ new_platform roster
seen_first roster edges igp opened igp_is edges_is opened_is =
    (λ i. seen_of (new_server roster ((edges_is ∙ ap (λ (j : IgpOf). j.edges) igp_is ∙ first-edges roster) i)) (ap (λ (o : OpenOf). o.sessions) opened_is i) 0 (igp_is i) 0)
