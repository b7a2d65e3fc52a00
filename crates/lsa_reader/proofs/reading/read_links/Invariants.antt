-- The links so far, in front of those that are left, are all; where some were read, the first one is whole.
use Rattle.std.proofs.Common.{◌≡◌, ◌-◌, ◌<◌, IsSome}
use Rattle.rcp_model.specs.RouterLsas.{links_in, link_at}
use Rattle.lsa_reader.proofs.LinkLists.{with_front}
use Rattle.lsa_reader.proofs.reading.read_links.Given as goal

abbrev pub invariant-loop-read : goal.invariant-loop-read
invariant-loop-read l = record {
  links : with_front l.links.items (links_in (l.count - l._read) l.rest) ≡ links_in l.count l.bytes;
  at_first : l._read ≡ 0 → l.rest ≡ l.bytes;
  later : 0 < l._read → IsSome (link_at l.bytes);
}
