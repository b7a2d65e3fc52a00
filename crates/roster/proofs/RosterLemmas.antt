-- The roster of what is named.
use Rattle.std.proofs.Common.{◌≡◌, List, ap, ◌∙◌}
use Rattle.rcp_base.specs.declared.names.Member.{Member}
use Rattle.rcp_base.specs.Roster.{Named, RosterOf}
use Rattle.rcp_base.specs.declared.names.Edge.{Edge}
use Rattle.roster.specs.Drafts.{settled}
use Rattle.roster.specs.declared.rosters.Settings.{Settings}

abbrev pub of_parts : Settings → List Member → List Edge → RosterOf
of_parts settings members links = record {
  as_number = settings.as_number;
  id = settings.id;
  shards = settings.shards;
  hold = settings.hold;
  area = settings.area;
  members = members;
  links = links;
}

pub of_named : (settings : Settings) (named : Named) (members : List Member) (links : List Edge) → members ≡ named.members → links ≡ named.links
    → of_parts settings members links ≡ settled settings named
of_named settings named members links e f =
    ap (λ (ms : List Member). of_parts settings ms links) e
    ∙ ap (λ (ls : List Edge). of_parts settings named.members ls) f
