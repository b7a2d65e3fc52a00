use Rattle.bgp_msg.proofs.Cuts.{messages_so_far, told_all, comes, same_for_both}
use Rattle.bgp_msg.proofs.streams.any_cut.Goals as goal

pub returns : goal.returns
returns c = record {
  so_far = λ pieces left calls held reads. messages_so_far pieces calls held left reads;
  messages = λ pieces left calls held reads end. (comes pieces calls held left reads end).messages;
  told = λ pieces left calls held reads. told_all pieces calls held left reads;
  fault = λ pieces left calls held reads end. (comes pieces calls held left reads end).fault;
  same = same_for_both;
}
