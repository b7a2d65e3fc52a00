-- Lists of edges that are compared, and edges of a link state that others hold too.
use Rattle.std.proofs.Common.{◌≡◌, ℕ, true, ◌&&◌, ◌==◌, List, [], ◌∷◌, length, refl, sym, ap, subst, ◌∙◌, arith}
use Rattle.std.specs.Cmp.Lexicographic.{pointwise, pointwise_decides}
use Rattle.std.proofs.lemmas.Bool.Decides.{nat_tests}
use Rattle.rcp_base.specs.declared.names.Edge.{Edge}
use Rattle.rcp_model.specs.LinkState.{RouterLsa, LinkState, aged}
use Rattle.rcp_model.specs.LinkStateUpdates.{ReadLsa, faultless_lsas, installed_all}
use Rattle.rcp_model.proofs.GraphLemmas.{same-edge}
use Rattle.lsdb.specs.Databases.{Database, Holds}
use Rattle.lsdb.proofs.Sorting.{equal_edge}
use Rattle.igp_view.specs.Reading.{Installs}
use Rattle.igp_view.specs.Igp.{AreEdgesOf}

numbers-equal : (a b c d e f : ℕ) → (a == d && (b == e && c == f)) ≡ (a == d && b == e && c == f)
numbers-equal a b c d e f = grind (arith, nat_tests)

itself : (a b c : ℕ) → (a == a && (b == b && c == c)) ≡ true
itself a b c = grind (arith, nat_tests)

pub decided : (a b : Edge) → (equal_edge a b ≡ true → a ≡ b) × (a ≡ b → equal_edge a b ≡ true)
decided a b = (
  λ equal. same-edge a b (sym (numbers-equal a.from a.to a.cost b.from b.to b.cost) ∙ equal),
  λ same. subst (λ (e : Edge). equal_edge a e ≡ true) same (itself a.from a.to a.cost),
)

pub equal_edges : (first second : List Edge) → pointwise equal_edge first second ≡ true → first ≡ second
equal_edges first second = (pointwise_decides decided first second).0

pub edges_equal : (first second : List Edge) → first ≡ second → pointwise equal_edge first second ≡ true
edges_equal first second = (pointwise_decides decided first second).1

-- a state that another holds, which held itself: what holds the other is held too
pub edges_stay : (old new : LinkState) (links edges : List Edge) → Holds new old → AreEdgesOf old links edges → AreEdgesOf new links edges
edges_stay old new links edges held are state holds = are state (record { same = λ router. sym (held.same router) ∙ holds.same router; once = holds.once })

none_of_length : {X : Type 0} (xs : List X) → length xs ≡ 0 → xs ≡ []
none_of_length [] is = refl
none_of_length (x ∷ xs) is = absurd (omega arith)

-- where no instance went and none was installed, the edges stay
pub edges_fresh : (old middle new : Database) (links edges : List Edge) (read : List ReadLsa) (now : ℕ) → Holds old.state old.state → AreEdgesOf old.state links edges → aged now old.state ≡ old.state
    → ((state : LinkState) → Holds old.state state → Holds middle.state (aged now state)) → Installs read middle new → length (faultless_lsas read) ≡ 0 → AreEdgesOf new.state links edges
unfolding installed_all
edges_fresh old middle new links edges read now itself are stays after installs none =
    edges_stay old.state new.state links edges
    (subst (λ (lsas : List RouterLsa). Holds new.state (installed_all middle.moment lsas old.state)) (none_of_length (faultless_lsas read) none)
    (installs.state old.state (subst (Holds middle.state) stays (after old.state itself)))) are
