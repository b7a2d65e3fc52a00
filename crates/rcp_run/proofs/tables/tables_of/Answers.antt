use Rattle.std.proofs.Common.{◌≡◌, ℕ, [], ◌∷◌, ◌++◌, length, min, ap, ◌∙◌, arith, codes}
use Rattle.std.specs.Fmt.{decimal}
use Rattle.feed_meaning.specs.OutRecords.{MOST}
use Rattle.rcp_run.specs.Tables.{tables_from}
use Rattle.rcp_base.specs.Roster.{RosterOf}
use Rattle.rcp_run.proofs.TableLemmas.{found-member, tables-more, tables-done, pending-seen}
use Rattle.rcp_run.proofs.tables.tables_of.Goals as goal

pub loop-number-preserved : goal.loop-number-preserved
loop-number-preserved c = λ platform h.
    let count = ap (λ (r : RosterOf). length r.members) h.roster in
    let found = found-member platform.roster.members c.loop-number.number (omega (arith, c.loop-number-test.true, c.members-number-end.ensures.count, count)) in
    tables-more platform c.loop-number.number found.0 c.loop-number.text.items c.put_table.new.text.items found.1 (c.loop-number.invariant platform h) (c.in_ok-put_table.ensures platform found.0 h found.1)

pub returns : goal.returns
returns c = λ platform h.
    let count = ap (λ (r : RosterOf). length r.members) h.roster in
    let line : c.as_bytes.result.now ≡ codes "pending " ++ decimal c.pending.result ++ 10 ∷ [] = c.as_bytes.ensures.value ∙ c.in_ok-line.ensures.ok in
    let number : c.pending.result ≡ min (length platform.server.pending) MOST = c.pending.ensures ∙ pending-seen platform c.args.platform.now.seen h in
    c.in_ok-extend_from_slice.ensures.items
    ∙ (λ i. tables-done platform c.loop-number.number c.loop-number.text.items (omega (arith, c.loop-number-test.false, c.members-number-end.ensures.count, count)) (c.loop-number.invariant platform h) i
    ++ line i)
    ∙ ap (λ (n : ℕ). tables_from platform 0 platform.roster.members ++ (codes "pending " ++ decimal n ++ 10 ∷ [])) number
