use Rattle.path_attrs.proofs.Paths.{segments-few, segments-broken, segments-front}
use Rattle.path_attrs.proofs.path.next_segment.Goals as goal

pub returns-in_default-clause-none : goal.returns-in_default-clause-none
returns-in_default-clause-none c = segments-few c.args.octets.now c.in_default.len_below

pub returns-then-octets-len-clause-none : goal.returns-then-octets-len-clause-none
returns-then-octets-len-clause-none c = segments-broken c.args.octets.now c.in-len2-up.len_at_least (rw c.from.ensures at c.if-octets-len.true)

pub returns-clause-front : goal.returns-clause-front
returns-clause-front c =
    segments-front c.args.octets.now c.split_at.result.0.now c.split_at.result.1.now c.in-len2-up.len_at_least (rw c.from.ensures at c.if-octets-len.false)
    (rw c.from.ensures at c.split_at.ensures.front) (rw c.from.ensures at c.split_at.ensures.back)
