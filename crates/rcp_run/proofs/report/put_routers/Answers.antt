use Rattle.std.proofs.Common.{◌≡◌, ℕ, List, [], ◌∷◌, ◌++◌, map, refl, sym, ap, ◌∙◌, append_assoc}
use Rattle.std.specs.List.{flat_map}
use Rattle.rcp_base.specs.Text.{address_text}
use Rattle.path_attrs.proofs.Texting.{joined}
use Rattle.replica_law.proofs.TextLemmas.{pieces_all}
use Rattle.rcp_run.proofs.report.put_routers.Goals as goal

-- a router with a space before it
abbrev spaced : ℕ → List ℕ
spaced router = 32 ∷ address_text router

pieces_of_texts : (routers : List ℕ) → flat_map (λ (t : List ℕ). 32 ∷ t) (map address_text routers) ≡ flat_map spaced routers
pieces_of_texts [] = refl
pieces_of_texts (router ∷ routers) = ap (λ (l : List ℕ). spaced router ++ l) (pieces_of_texts routers)

pub returns : goal.returns
returns c =
    let others = c.args.others.now in
    pieces_all spaced (c.args.line.now.items ++ address_text c.args.first) c.loop-router.line.items c.args.others.now c.loop-router.router-index c.loop-router.invariant c.loop-router-test.false
    ∙ append_assoc c.args.line.now.items (address_text c.args.first) (flat_map spaced others)
    ∙ ap (λ (l : List ℕ). c.args.line.now.items ++ l) (sym (joined 32 (address_text c.args.first) (map address_text others) ∙ ap (λ (l : List ℕ). address_text c.args.first ++ l) (pieces_of_texts others)))
