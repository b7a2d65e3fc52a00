use Rattle.std.proofs.Common.{[], ◌∷◌, ◌++◌, ap, ◌∙◌, Vec, Global}
use Rattle.daemon_parts.proofs.MeshLemmas.{pushed}
use Rattle.daemon_parts.proofs.rows.push_at.Goals as goal

pub returns : goal.returns
returns g c = pushed c.args.rows.now.items c.args.place _ c.push.new.self c.args.value c.requires
    (c.in_ok-push.ensures.items ∙ ap (λ (row : Vec _ Global). row.items ++ c.args.value ∷ []) c.index_mut.ensures.value)
