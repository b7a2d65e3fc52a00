-- The one UPDATE is that of the cell.
use Rattle.std.proofs.Common.{ℕ, List, [], ◌∷◌, ◌++◌, map, Vec, Global, sym, ap, ◌∙◌}
use Rattle.update_pack.specs.Values.{value_in}
use Rattle.update_pack.proofs.PackLemmas.{count_short, packed-one, one-fits}
use Rattle.update_pack.proofs.cells.pack_one.Goals as goal

pub write_piece-requires : goal.write_piece-requires
write_piece-requires c = one-fits c.args.cell.now.prefix (value_in c.args.cell.now.attrs) (count_short (value_in c.args.cell.now.attrs) c.requires.short)

pub returns : goal.returns
returns c =
    ap (map (λ (m : Vec ℕ Global). m.items)) c.in_ok-push.ensures.items
    ∙ ap (λ (l : List (Vec ℕ Global)). map (λ (m : Vec ℕ Global). m.items) (l ++ c.in_ok-write_piece.field-0 ∷ [])) c.in_ok-messages.ensures.items
    ∙ ap (λ octets. octets ∷ []) c.in_ok-write_piece.ensures
    ∙ sym (packed-one c.args.cell.now.prefix (value_in c.args.cell.now.attrs))
