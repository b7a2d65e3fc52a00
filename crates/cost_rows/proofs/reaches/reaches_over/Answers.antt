use Rattle.std.proofs.Common.{Contains, get_or, subst, sym}
use Rattle.std.proofs.lemmas.List.Elements.{Contains-get_or}
use Rattle.cost_rows.proofs.reaches.reaches_over.Goals as goal

pub places_of-requires-clause-named : goal.places_of-requires-clause-named
places_of-requires-clause-named c =
    rw (c.as_slice-2.ensures.value, c.as_slice-3.ensures.value) (λ k d within.
    c.in_ok-names.ensures.more (get_or c.in_ok-routers.routers.items k d)
    (subst (λ xs. Contains xs (get_or c.in_ok-routers.routers.items k d)) (sym c.as_slice.ensures.value) (Contains-get_or c.in_ok-routers.routers.items k d within)))
