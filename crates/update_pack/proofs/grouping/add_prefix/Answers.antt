-- A prefix more in one group, and the others stay.
use Rattle.std.proofs.Common.{◌≡◌, ◌++◌, ◌∷◌, [], ap, ◌∙◌, get_or, List}
use Rattle.std.proofs.lemmas.List.{get_or_default}
use Rattle.rcp_base.specs.IpPrefix.{IpPrefix}
use Rattle.rcp_model.specs.Packing.{Group as GroupOf}
use Rattle.update_pack.specs.declared.group.Group.{Group}
use Rattle.update_pack.specs.Values.{value_in}
use Rattle.update_pack.proofs.PlaceLemmas.{set-add_at}
use Rattle.update_pack.proofs.grouping.add_prefix.Goals as goal

pub returns : goal.returns
returns c =
    let items = c.args.groups.now.items in
    let old = c.index_mut-group.result.now in
    set-add_at items c.args.place _ c.args.prefix c.requires
    (λ d.
    let same : old ≡ get_or items c.args.place d = c.index_mut-group.ensures.value ∙ get_or_default items c.args.place old d c.requires in
    ap (λ (l : List IpPrefix). let g : GroupOf = (value_in old.attrs, l) in g) c.in_ok-push.ensures.items
    ∙ ap (λ (h : Group). let g : GroupOf = (value_in h.attrs, h.prefixes.items ++ c.args.prefix ∷ []) in g) same)
