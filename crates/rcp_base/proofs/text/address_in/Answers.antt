use Rattle.rcp_base.proofs.AddressLemmas.{address_by_splits}
use Rattle.rcp_base.proofs.text.address_in.Goals as goal

pub returns : goal.returns
returns c = address_by_splits c.args.text.now c.in_ok-a.a.now c.in_ok-a.rest.now c.in_ok-b.b.now c.in_ok-b.rest.now c.in_ok-c.c.now c.in_ok-c.d.now c.address_of_four.result c.in_ok-a.ensures c.in_ok-b.ensures c.in_ok-c.ensures c.address_of_four.ensures
