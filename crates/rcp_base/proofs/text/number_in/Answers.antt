use Rattle.std.proofs.Common.{sym, ◌∙◌}
use Rattle.rcp_base.proofs.TextLemmas.{number_from_parse, number_text_is_utf8, ok_gives, none_gives}
use Rattle.rcp_base.proofs.text.number_in.Goals as goal

pub returns-in_err-ok : goal.returns-in_err-ok
returns-in_err-ok c =
    let test = sym c.if-not-is_numeral.ensures in
    none_gives _ _ c.from_utf8.result (sym c.ok.ensures.value ∙ c.in_err-ok.was) c.from_utf8.ensures.cases (λ e h. absurd (h.0 (number_text_is_utf8 c.args.text.now test)))

pub returns : goal.returns
returns c =
    let test = sym c.if-not-is_numeral.ensures in
    let same = ok_gives _ _ c.from_utf8.result c.in_ok-ok.field-0 (sym c.ok.ensures.value ∙ c.in_ok-ok.was) c.from_utf8.ensures.cases in
    c.ok-2.ensures.value ∙ number_from_parse c.args.text.now c.parse.result test (rw same.0 at c.parse.ensures.value.0)
