use Rattle.std.proofs.Common.{◌≡◌, rules}
use Rattle.replica_law.specs.Replicas.{slot_of}
use Rattle.replica_law.proofs.RosterLemmas.{found_within}
use Rattle.replica_law.proofs.seats.Seats.slot.Goals as goal

pub returns-clause-within : goal.returns-clause-within
returns-clause-within c = let is : c.copied.result ≡ slot_of c.args.self.now c.args.router = search rules in found_within c.args.self.now c.args.router c.copied.result is
