use Rattle.std.proofs.Common.{◌≡◌, ◌≤◌, ◌<◌, ◌+◌, ◌∙◌, ◌++◌, ℕ, List, Option, length, take, ap, sym, arith}
use Rattle.std.proofs.Math.Seq.{take-append-add}
use Rattle.std.proofs.lemmas.List.{take-take, length-take, length-append}
use Rattle.outside.specs.Told.{behind, behind-append}
use Rattle.rcp_base.specs.Feed.{OutRecord, out_octets}
use Rattle.feed_format.specs.Writing.{WritesLess}
use Rattle.feed_format.proofs.writing.write_out.Goals as goal

header_less : (octets header : List ℕ) (before now : Option (List ℕ)) (n : ℕ) → header ≡ take 9 octets → 9 ≤ length octets → n < length header → now ≡ behind before (take n header) → WritesLess octets before now
header_less octets header before now n is long less front =
    let nine : length header ≡ 9 = ap length is ∙ omega (arith, length-take 9 octets) in
    record {
      count = n;
      fewer = omega (arith, nine);
      taken = front ∙ ap (λ (t : List ℕ). behind before (take n t)) is ∙ ap (behind before) (take-take n 9 octets (omega (arith, nine)));
    }

body_less : (header body : List ℕ) (before mid now : Option (List ℕ)) (n : ℕ) → mid ≡ behind before header → now ≡ behind mid (take n body) → n < length body → WritesLess (header ++ body) before now
body_less header body before mid now n first second less = record {
  count = length header + n;
  fewer = omega (arith, length-append header body);
  taken = second ∙ ap (λ (t : Option (List ℕ)). behind t (take n body)) first ∙ behind-append before header (take n body) ∙ ap (behind before) (sym (take-append-add header body n));
}

pub returns-in-Err-clause-less : goal.returns-in-Err-clause-less
returns-in-Err-clause-less g c =
    header_less (out_octets c.args.out.now) c.header_of.result _ _ c.in-Err.field-0-0 c.header_of.ensures (omega arith) c.in-Err.ensures.part c.in-Err.ensures.front

pub returns-in-Err-write_all-clause-less : goal.returns-in-Err-write_all-clause-less
returns-in-Err-write_all-clause-less g c =
    let body : c.deref.result.now ≡ c.args.out.now.body = c.deref.ensures.value ∙ ap (λ (out : OutRecord). out.body) c.out.view_is in
    let call = c.in-Err-write_all.ensures in
    body_less (take 9 (out_octets c.args.out.now)) c.args.out.now.body _ _ _ c.in-Err-write_all.field-0-0
    (rw c.header_of.ensures at c.in_default.ensures.all) (rw body at call.front) (rw body at call.part)
