-- What a generated feed comes to by the definitions: its roster, the records after it, and its end.
use Rattle.std.specs.Prelude.{ℕ, [], map, Some}
use Rattle.rcp_base.specs.declared.names.Member.{Member}
use Rattle.rcp_base.specs.Roster.{RosterOf}
use Rattle.feed_meaning.specs.WholeFeeds.{FeedMeaning, Finished}
use Rattle.feed_make.specs.Numbers.{numbers_from}
use Rattle.feed_make.specs.Networks.{id_of}
use Rattle.feed_make.specs.Feeds.{following}

-- a router's router ID is its BGP Identifier
abbrev pub made_member : ℕ → Member
made_member router = record { router = id_of router; bgp_id = id_of router }

-- AS 65000, with the identifier 10.255.255.254, and no links of its own
abbrev pub made_roster : RosterOf
made_roster = record {
  as_number = 65000;
  id = 184549374;
  shards = 8;
  hold = 90;
  area = 0;
  members = map made_member (numbers_from 0 400);
  links = [];
}

-- it ends at its Z, and nothing is left
abbrev pub made_meaning : ℕ → FeedMeaning
made_meaning number = record { roster = Some made_roster; items = following number; end = Finished; left = [] }
