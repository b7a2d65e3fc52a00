-- An UPDATE of a value has the sections of that value.
use Rattle.rcp_model.specs.Packing.{update_of}
use Rattle.update_pack.proofs.filling.write_piece.Goals as goal

pub update_message-requires : goal.update_message-requires
unfolding update_of
update_message-requires c = rw c.in-None.is at c.requires

pub update_message-requires-in-Some : goal.update_message-requires-in-Some
unfolding update_of
update_message-requires-in-Some c = rw c.in-Some.is at c.requires

pub returns-in-None : goal.returns-in-None
unfolding update_of
returns-in-None c = rw c.in-None.is c.update_message.ensures

pub returns-in-Some : goal.returns-in-Some
unfolding update_of
returns-in-Some c = rw c.in-Some.is c.update_message-in-Some.ensures
