-- One sender more was taken back, and one less is left.
use Rattle.std.proofs.Common.{◌≡◌, ◌∷◌, ◌++◌, ◌∙◌, [], suc, map, All, ap, sym, subst, arith, append_assoc}
use Rattle.mailbox.specs.declared.ends.Sender.{Sender}
use Rattle.mailbox.specs.Boxes.{finished, IsOf, entry}
use Rattle.mailbox.proofs.making.finish.Goals as goal

pub loop-sender-preserved : goal.loop-sender-preserved
loop-sender-preserved g c =
    let before = c.loop-sender.invariant in
    let back = c.give_back.ensures in
    let was = c.loop-sender.receiver in
    let rest = c.pop_front.new.self.items in
    let items : c.loop-sender.rest.items ≡ c.in-Some.sender ∷ rest = c.in-Some.ensures.items in
    let of : All (λ (s : Sender g.row.M.Denot). IsOf was s) (c.in-Some.sender ∷ rest) = subst (λ xs. All (λ s. IsOf was s) xs) items before.of in
    record {
      of = λ k d within. of (suc k) d (omega arith) ∙ sym back.same.0.mailbox;
      lists =
          ap (λ xs. xs ++ map entry rest) back.finished
          ∙ (append_assoc (finished was) (entry c.in-Some.sender ∷ []) (map entry rest)
          ∙ (ap (λ xs. finished was ++ map entry xs) (sym items) ∙ before.lists));
      same = record {
        mailbox = back.same.0.mailbox ∙ before.same.mailbox;
        senders = back.same.0.senders ∙ before.same.senders;
        room = back.same.0.room ∙ before.same.room;
      };
      taken = back.same.1 ∙ before.taken;
      empties = back.same.2 ∙ before.empties;
    }
