use Rattle.std.proofs.Common.{◌≡◌, List, Result, Ok, Err, OnOk, OnErr, sym, subst}
use Rattle.rcp_base.specs.declared.names.Edge.{Edge}
use Rattle.rcp_model.specs.Graphs.{IsGraph}
use Rattle.rcp_model.proofs.GraphLemmas.{graph-include}
use Rattle.cost_rows.proofs.graph.Graph.add.Goals as goal

-- whether the edge was put in or not
either_way : {T E : Type 0} (outcome : Result T E) (new old included : List Edge) → OnOk outcome (new ≡ included) → OnErr outcome (new ≡ old) → IsGraph old → IsGraph included → IsGraph new
either_way (Ok x) new old included ok err before after = subst IsGraph (sym ok) after
either_way (Err e) new old included ok err before after = subst IsGraph (sym err) before

pub invariant_of-self : goal.invariant_of-self
invariant_of-self c =
    either_way c.include.result c.include.new.edges.items c.self.inside.edges.items _ c.include.ensures.ok c.include.ensures.err c.self.invariant
    (graph-include c.args.edge c.self.inside.edges.items c.self.invariant (rw (← c.self.view_is) at c.requires.few) c.requires.cheap)
