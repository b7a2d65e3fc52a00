-- The links of routers, collected one router after another.
use Rattle.std.proofs.Common.{◌≡◌, ℕ, List, [], ◌∷◌, ◌++◌, refl, sym, ap, ◌∙◌, append-nil}
use Rattle.rcp_base.specs.declared.names.Edge.{Edge}
use Rattle.rcp_model.specs.LinkState.{RouterLink, Kept}
use Rattle.lsdb.specs.Links.{links_in, links_from}

append-assoc : (xs ys zs : List Edge) → (xs ++ ys) ++ zs ≡ xs ++ (ys ++ zs)
append-assoc [] ys zs = refl
append-assoc (x ∷ xs) ys zs = ap (λ l. x ∷ l) (append-assoc xs ys zs)

pub links-more : (found more : List Edge) (router : ℕ) (kept : Kept) (links : List RouterLink) (rest left all : List (ℕ × Kept)) → left ≡ (router, kept) ∷ rest → links ≡ kept.lsa.content
    → more ≡ found ++ links_from router links → found ++ links_in left ≡ links_in all → more ++ links_in rest ≡ links_in all
links-more found more router kept links rest left all left-is links-are more-is so_far =
    rw (more-is, links-are) (append-assoc found (links_from router kept.lsa.content) (links_in rest) ∙ ap (λ l. found ++ links_in l) (sym left-is) ∙ so_far)

pub links-all : (found : List Edge) (left all : List (ℕ × Kept)) → left ≡ [] → found ++ links_in left ≡ links_in all → links_in all ≡ found
links-all found left all end so_far = sym so_far ∙ ap (λ l. found ++ links_in l) end ∙ append-nil found
