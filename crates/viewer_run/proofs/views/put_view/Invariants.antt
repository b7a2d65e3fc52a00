use Rattle.std.proofs.Common.{◌≡◌}
use Rattle.mailbox.specs.Boxes.{sent, IsSameSender}
use Rattle.rcp_model.specs.declared.rcs_mail.ShardMail.TheVariants as mail
use Rattle.viewer_run.proofs.views.put_view.Given as goal

abbrev pub invariant-loop : goal.invariant-loop
invariant-loop g l = IsSameSender l.fn.sender l.sender × (sent l.sender ≡ sent l.fn.sender) × (l.message ≡ mail.View l.fn.view)
