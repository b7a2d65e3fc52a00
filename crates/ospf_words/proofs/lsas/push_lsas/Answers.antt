use Rattle.std.proofs.Common.{◌≡◌, ◌-◌, ◌+◌, ◌^◌, ℕ, sym, ap, ◌∙◌, arith}
use Rattle.std.proofs.lemmas.Result.{err_from_is_err_and}
use Rattle.line_words.specs.Words.{words_of}
use Rattle.ospf_words.specs.Lsas.{lsas_within}
use Rattle.ospf_words.proofs.LsaLemmas.{no_lsa, lsa_fails, next_lsa, too_many}
use Rattle.ospf_words.proofs.lsas.push_lsas.Goals as goal

pub returns-then-not-begins_lsa : goal.returns-then-not-begins_lsa
returns-then-not-begins_lsa c =
    no_lsa (2 ^ 20 - c.loop-count.count) c.loop-count.count c.loop-count.out.items (words_of c.loop-count.rest.now) _ (omega arith) (sym c.if-not-begins_lsa.ensures) c.loop-count.invariant

pub returns-in_err-rest : goal.returns-in_err-rest
returns-in_err-rest c =
    let p = err_from_is_err_and c.from_residual.result c.from_residual.ensures.1 in
    rw (p.1, p.2) (lsa_fails c.in_err-rest.field-0.0 (2 ^ 20 - c.loop-count.count) c.loop-count.count c.loop-count.out.items (words_of c.loop-count.rest.now) _ (omega arith) (sym c.if-not-begins_lsa.ensures) c.in_err-rest.ensures c.loop-count.invariant)

pub loop-count-preserved : goal.loop-count-preserved
loop-count-preserved c =
    let less : 2 ^ 20 - (c.loop-count.count + 1) ≡ 2 ^ 20 - c.loop-count.count - 1 = omega arith in
    ap (λ (n : ℕ). lsas_within n (c.loop-count.count + 1) c.lsa.new.out.items (words_of c.in_ok-rest.rest.now)) less
    ∙ next_lsa (2 ^ 20 - c.loop-count.count) c.loop-count.count c.loop-count.out.items c.lsa.new.out.items (words_of c.loop-count.rest.now) (words_of c.in_ok-rest.rest.now) _ (omega arith) (sym c.if-not-begins_lsa.ensures) c.in_ok-rest.ensures c.loop-count.invariant

pub returns : goal.returns
returns c = rw c.fault.ensures (too_many (2 ^ 20 - c.loop-count.count) c.loop-count.count c.loop-count.out.items (words_of c.loop-count.rest.now) _ (omega arith) c.loop-count.invariant)
