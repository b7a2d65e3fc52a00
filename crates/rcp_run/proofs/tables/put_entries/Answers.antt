use Rattle.std.proofs.Common.{Some, None}
use Rattle.rcp_model.specs.RouteServer.{table_of}
use Rattle.rcp_run.proofs.TableLemmas.{entries-first, entry-added, entries-done, least-entry}
use Rattle.rcp_run.proofs.tables.put_entries.Goals as goal

pub loop-prefix-init : goal.loop-prefix-init
loop-prefix-init c = record {
  in_form = tt;
  text = λ platform h. entries-first platform.roster.as_number (table_of platform.server c.args.slot) c.args.text.now.items;
}

pub loop-prefix-preserved : goal.loop-prefix-preserved
loop-prefix-preserved c = record {
  in_form = c.in_ok-put_entry.ensures.in_form;
  text = λ platform h.
      entry-added platform.roster.as_number (table_of platform.server c.args.slot) c.loop-prefix.last c.in-Some.prefix c.args.text.now.items c.loop-prefix.text.items c.put_entry.new.text.items
      (least-entry platform c.args.platform.now.seen h c.args.slot c.loop-prefix.last (Some c.in-Some.prefix) c.in-Some.ensures)
      (c.loop-prefix.invariant.text platform h) (c.in_ok-put_entry.ensures.entry platform h);
}

pub returns : goal.returns
returns c = λ platform h.
    entries-done platform.roster.as_number (table_of platform.server c.args.slot) c.loop-prefix.last c.args.text.now.items c.loop-prefix.text.items
    (least-entry platform c.args.platform.now.seen h c.args.slot c.loop-prefix.last None c.in_default.ensures) (c.loop-prefix.invariant.text platform h)
