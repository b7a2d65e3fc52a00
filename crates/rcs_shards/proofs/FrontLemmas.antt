-- The next dirty cell of each shard, and the least of them.
use Rattle.std.proofs.Common.{◌≡◌, ◌≢◌, ℕ, ◌+◌, ◌<◌, ◌≤◌, Bool, true, false, ◌&&◌, ◌||◌, eqb, ltb, List, [], ◌∷◌, map, length, get_or, Option, Some, None, refl, sym, ap, ◌∙◌, subst, arith, ◌⊎◌, inl, inr}
use Rattle.std.proofs.Math.ListN.{set}
use Rattle.std.specs.Prelude.{Contains, slice_get, IfSome, option_map}
use Rattle.std.specs.declared.cmp.Ordering.TheVariants.{Less}
use Rattle.std.proofs.lemmas.Bool.{false≢true, cases_eq}
use Rattle.std.proofs.lemmas.Bool.Decides.{nat_tests}
use Rattle.std.proofs.lemmas.List.{length-set, get_or-set_same, get_or-set_other, get_or_default}
use Rattle.std.proofs.lemmas.Option.{slice_get-get_or, slice_get-map}
use denote.Ref.{Bor}
use Rattle.rcp_base.specs.IpPrefix.{IpPrefix, prefix_cmp}
use Rattle.rcp_base.specs.Maps.{same_prefix, is_before}
use Rattle.rcp_base.proofs.MapLemmas.{same_prefix-is}
use Rattle.rcp_base.specs.Roster.{RosterOf}
use Rattle.rcp_model.specs.Assigned.{IsAfter, IsLeast}
use Rattle.rcp_model.specs.Cells.{Cell, IsSendable}
use Rattle.rcp_model.specs.Routes.{RouteFields, is_usable}
use Rattle.platform_laws.specs.Parts.{shard_number}
use Rattle.platform_laws.specs.Asked.{given_in, octets_of}
use Rattle.rcs_shard.specs.Shards.{ShardOf, IsNextDirty, is_dirty, given_at}
use Rattle.rcs_shards.specs.Dirty.{dirty_in, has_dirty, cells_of, IsDirtyAt, AreReady, AreBusy}
use Rattle.rcs_shards.specs.Fronts.{route_of, given_there, IsLeft, IsLeftAt, IsGivenAt, IsFront, AreLeast, AreFronts, IsCell, IsNextCell}
use Rattle.rcs_shards.specs.Least.{lesser_of, HasSome}
use Rattle.rcs_shards.proofs.LeastLemmas.{HasBelow, less-before, before-less, before-step, before-over, least-same, least-none, least-turn, least-all}

-- ---- the order

-- the one of two prefixes that isn't the other and isn't before it is after it
pub before-other : (p q : IpPrefix) → same_prefix q p ≡ false → is_before q p ≡ false → is_before p q ≡ true
before-other p q other early = later q.addr p.addr q.len p.len other early where
  later : (a b k l : ℕ) → (eqb a b && eqb k l) ≡ false → (ltb a b || eqb a b && ltb k l) ≡ false → (ltb b a || eqb b a && ltb l k) ≡ true
  later a b k l h g = grind (arith, nat_tests)

-- what isn't before the one is it, or after it
pub from-least : (p q : IpPrefix) → (prefix_cmp q p ≡ Less → ⊥) → (same_prefix q p ≡ true) ⊎ (is_before p q ≡ true)
from-least p q least = by_test (same_prefix q p) refl where
  not_before : (b : Bool) → is_before q p ≡ b → b ≡ false
  not_before true is = absurd (least (before-less q p is))
  not_before false is = refl

  by_test : (b : Bool) → same_prefix q p ≡ b → (b ≡ true) ⊎ (is_before p q ≡ true)
  by_test true same = inl refl
  by_test false other = inr (before-other p q other (not_before (is_before q p) refl))

-- after one that is after the given one
pub after-step : (after : Option IpPrefix) (p q : IpPrefix) → IsAfter after p → is_before p q ≡ true → IsAfter after q
after-step None p q is before = tt
after-step (Some o) p q is before = before-less o q (before-step o p q (less-before o p is) before)

-- ---- one shard's next cell

pub front-at : (shards : List ShardOf) (slot place : ℕ) (after : Option IpPrefix) (shard : ShardOf) (prefix : Option IpPrefix) (route : Option (Bor RouteFields)) → place < length shards → shard ≡ get_or shards place shard
    → IsNextDirty shard slot after prefix → IfSome prefix (λ p. route_of route ≡ given_at shard slot p) → IfSome route (λ r. is_usable r.now ≡ true) → IsFront shards slot after place prefix route
front-at shards slot place after shard prefix route low read next given usable = record {
  least = subst (λ (o : Option ShardOf). IsLeast (λ p. IsAfter after p × (dirty_in o slot p ≡ true)) prefix) (sym here) next;
  given = by_case prefix given;
} where
  here : slice_get shards place ≡ Some shard
  here = slice_get-get_or shards place shard low ∙ ap (λ s. Some s) (sym read)

  by_case : (o : Option IpPrefix) → IfSome o (λ p. route_of route ≡ given_at shard slot p) → IfSome o (λ p. IsGivenAt shards slot place p route)
  by_case None given = tt
  by_case (Some p) given = record { given = given ∙ ap (λ o. given_there o slot p) (sym here); usable = usable }

-- ---- the next cells of the shards at some places

-- so many first places have theirs
pub record Fronts (shards : List ShardOf) (busy : List ℕ) (slot count : ℕ) (prefixes : List (Option IpPrefix)) (routes : List (Option (Bor RouteFields))) : Type 0 where
  pub long : length prefixes ≡ length shards
  pub routes_long : length routes ≡ length shards
  pub each : (k : ℕ) → k < count → IsFront shards slot None (get_or busy k 0) (get_or prefixes (get_or busy k 0) None) (get_or routes (get_or busy k 0) None)

pub fronts-none : (shards : List ShardOf) (busy : List ℕ) (slot : ℕ) (prefixes : List (Option IpPrefix)) (routes : List (Option (Bor RouteFields))) → length prefixes ≡ length shards → length routes ≡ length shards
    → Fronts shards busy slot 0 prefixes routes
fronts-none shards busy slot prefixes routes long routes_long = record { long = long; routes_long = routes_long; each = λ k low. absurd (omega (arith, low)) }

module _ (shards : List ShardOf) (slot : ℕ) (after : Option IpPrefix) (prefixes : List (Option IpPrefix)) (routes : List (Option (Bor RouteFields))) (long : length prefixes ≡ length shards) (routes_long : length routes ≡ length shards)
    (n : ℕ) (low : n < length shards) (prefix : Option IpPrefix) (route : Option (Bor RouteFields)) where
  -- a cell written at a place stands there, and those elsewhere stay
  put-here : (m : ℕ) → m ≡ n → IsFront shards slot after n prefix route → IsFront shards slot after m (get_or (set prefixes n prefix) m None) (get_or (set routes n route) m None)
  put-here m same is =
      subst (λ (k : ℕ). IsFront shards slot after k (get_or (set prefixes n prefix) k None) (get_or (set routes n route) k None)) (sym same)
      (subst (λ p. IsFront shards slot after n p (get_or (set routes n route) n None)) (sym (get_or-set_same prefixes n prefix None (subst (λ k. n < k) (sym long) low)))
      (subst (IsFront shards slot after n prefix) (sym (get_or-set_same routes n route None (subst (λ k. n < k) (sym routes_long) low))) is))

  put-other : (m : ℕ) → m ≢ n → IsFront shards slot after m (get_or prefixes m None) (get_or routes m None) → IsFront shards slot after m (get_or (set prefixes n prefix) m None) (get_or (set routes n route) m None)
  put-other m other is =
      subst (λ p. IsFront shards slot after m p (get_or (set routes n route) m None)) (sym (get_or-set_other prefixes n m prefix None other))
      (subst (IsFront shards slot after m (get_or prefixes m None)) (sym (get_or-set_other routes n m route None other)) is)

pub fronts-more : (shards : List ShardOf) (busy : List ℕ) (slot count place : ℕ) (prefixes : List (Option IpPrefix)) (routes : List (Option (Bor RouteFields))) (prefix : Option IpPrefix) (route : Option (Bor RouteFields))
    → Fronts shards busy slot count prefixes routes → place ≡ get_or busy count 0 → place < length shards → IsFront shards slot None place prefix route
    → Fronts shards busy slot (count + 1) (set prefixes place prefix) (set routes place route)
fronts-more shards busy slot count place prefixes routes prefix route so_far at low is = record {
  long = length-set prefixes place prefix ∙ so_far.long;
  routes_long = length-set routes place route ∙ so_far.routes_long;
  each = λ k below. by_place k below (cases_eq (get_or busy k 0) place);
} where
  by_place : (k : ℕ) → k < count + 1 → (get_or busy k 0 ≡ place) ⊎ (get_or busy k 0 ≢ place)
      → IsFront shards slot None (get_or busy k 0) (get_or (set prefixes place prefix) (get_or busy k 0) None) (get_or (set routes place route) (get_or busy k 0) None)
  by_place k below (inl same) = put-here shards slot None prefixes routes so_far.long so_far.routes_long place low prefix route (get_or busy k 0) same is
  by_place k below (inr other) =
      let earlier : k ≢ count = λ same. other (ap (λ n. get_or busy n 0) same ∙ sym at) in
      put-other shards slot None prefixes routes so_far.long so_far.routes_long place low prefix route (get_or busy k 0) other (so_far.each k (omega (arith, below)))

pub fronts-all : (shards : List ShardOf) (busy : List ℕ) (slot count : ℕ) (prefixes : List (Option IpPrefix)) (routes : List (Option (Bor RouteFields))) → Fronts shards busy slot count prefixes routes → length busy ≤ count
    → AreFronts shards busy slot None prefixes routes
fronts-all shards busy slot count prefixes routes so_far all = record {
  long = so_far.long;
  routes_long = so_far.routes_long;
  each = λ n has.
      let low = has.1 in
      let here : get_or busy has.0 0 ≡ n = get_or_default busy has.0 0 n has.1 ∙ has.2 in
      subst (λ (m : ℕ). IsFront shards slot None m (get_or prefixes m None) (get_or routes m None)) here (so_far.each has.0 (omega (arith, low, all)));
}

-- ---- the least of them

-- what is known of the least so far, whichever shards the prefixes are of
abbrev pub LeastSoFar : List ℕ → List (Option IpPrefix) → ℕ → Option IpPrefix → Type 0
LeastSoFar busy prefixes count found =
    (shards : List ShardOf) (slot : ℕ) (after : Option IpPrefix) → AreLeast shards busy slot after prefixes → IsLeast (HasBelow (IsLeftAt shards slot after) busy count) found

pub so_far-none : (busy : List ℕ) (prefixes : List (Option IpPrefix)) → LeastSoFar busy prefixes 0 None
so_far-none busy prefixes shards slot after are = least-none (IsLeftAt shards slot after) busy

pub so_far-more : (busy : List ℕ) (prefixes : List (Option IpPrefix)) (count place : ℕ) (found prefix more : Option IpPrefix) → LeastSoFar busy prefixes count found → count < length busy → place ≡ get_or busy count 0
    → prefix ≡ get_or prefixes place None → more ≡ lesser_of found prefix → LeastSoFar busy prefixes (count + 1) more
so_far-more busy prefixes count place found prefix more so_far low at read is shards slot after are =
    let here : place ≡ get_or busy count place = at ∙ get_or_default busy count 0 place low in
    least-turn (IsLeftAt shards slot after) busy count place low here found prefix more (so_far shards slot after are)
    (subst (IsLeast (IsLeftAt shards slot after place)) (sym read) (are place (count, low, sym here))) is

pub so_far-all : (busy : List ℕ) (prefixes : List (Option IpPrefix)) (count : ℕ) (found : Option IpPrefix) → LeastSoFar busy prefixes count found → length busy ≤ count
    → (shards : List ShardOf) (slot : ℕ) (after : Option IpPrefix) → AreLeast shards busy slot after prefixes → IsLeast (HasSome (IsLeftAt shards slot after) busy) found
so_far-all busy prefixes count found so_far all shards slot after are = least-all (IsLeftAt shards slot after) busy count found all (so_far shards slot after are)

-- the prefixes of the next cells are the least ones
pub are-least : (shards : List ShardOf) (busy : List ℕ) (slot : ℕ) (after : Option IpPrefix) (prefixes read : List (Option IpPrefix)) (routes : List (Option (Bor RouteFields))) → AreFronts shards busy slot after prefixes routes
    → read ≡ prefixes → AreLeast shards busy slot after read
are-least shards busy slot after prefixes read routes are same = subst (AreLeast shards busy slot after) (sym same) (λ n has. (are.each n has).least)

-- ---- the cell that is read

module _ (roster : RosterOf) (shards : List ShardOf) (ready : AreReady roster shards) (slot : ℕ) where
  own_number : (n : ℕ) (p : IpPrefix) → IsDirtyAt shards slot n p → shard_number roster p ≡ n
  own_number n p = by_found (slice_get shards n) refl where
    by_found : (o : Option ShardOf) → slice_get shards n ≡ o → dirty_in o slot p ≡ true → shard_number roster p ≡ n
    by_found None none dirty = absurd (false≢true dirty)
    by_found (Some s) here dirty = (ready.each n s here).own slot p dirty

  dirty_over : (n : ℕ) (p : IpPrefix) → IsDirtyAt shards slot n p → has_dirty roster shards slot p ≡ true
  dirty_over n p dirty = ap (λ k. dirty_in (slice_get shards k) slot p) (own_number n p dirty) ∙ dirty

  module _ (busy : List ℕ) (are_busy : AreBusy roster shards busy) (after : Option IpPrefix) where
    pub least-busy : (found : Option IpPrefix) → IsLeast (HasSome (IsLeftAt shards slot after) busy) found → IsLeast (IsLeft roster shards slot after) found
    least-busy found least = least-same (HasSome (IsLeftAt shards slot after) busy) (IsLeft roster shards slot after) found to from least where
      to : (p : IpPrefix) → HasSome (IsLeftAt shards slot after) busy p → IsLeft roster shards slot after p
      to p has = (has.3.0, dirty_over has.1 p has.3.1)

      from : (p : IpPrefix) → IsLeft roster shards slot after p → HasSome (IsLeftAt shards slot after) busy p
      from p left = let place = are_busy.listed slot p left.1 in (place.0, shard_number roster p, slice_get-get_or busy place.0 (shard_number roster p) place.1 ∙ ap (λ n. Some n) place.2, left)

    module _ (prefixes : List (Option IpPrefix)) (routes : List (Option (Bor RouteFields))) (are : AreFronts shards busy slot after prefixes routes) (p : IpPrefix) (least : IsLeast (IsLeft roster shards slot after) (Some p))
        (n : ℕ) (at : n ≡ shard_number roster p) where
      p_left : IsLeftAt shards slot after n p
      p_left = (least.0.0, ap (λ k. dirty_in (slice_get shards k) slot p) at ∙ least.0.1)

      front_at : IsFront shards slot after n (get_or prefixes n None) (get_or routes n None)
      front_at = are.each n (subst (Contains busy) (sym at) (are_busy.listed slot p least.0.1))

      -- the shard of the least prefix has a next cell
      pub some-front : (o : Option IpPrefix) → o ≡ get_or prefixes n None → o ≡ None → ⊥
      some-front o read none = (subst (IsLeast (IsLeftAt shards slot after n)) (sym read ∙ none) front_at.least) p p_left

      module _ (q : IpPrefix) (route : Option (Bor RouteFields)) (read : Some q ≡ get_or prefixes n None) (route_read : route ≡ get_or routes n None) where
        at_n : IsFront shards slot after n (Some q) route
        at_n = subst (λ r. IsFront shards slot after n (Some q) r) (sym route_read) (subst (λ o. IsFront shards slot after n o (get_or routes n None)) (sym read) front_at)

        pub usable-route : IfSome route (λ r. is_usable r.now ≡ true)
        usable-route = at_n.given.usable

        q_number : shard_number roster q ≡ n
        q_number = own_number n q at_n.least.0.1

        -- it is the least of all
        pub least-here : IsLeast (IsLeft roster shards slot after) (Some q)
        least-here = ((at_n.least.0.0, dirty_over n q at_n.least.0.1), λ r left before. least.1 r left (before-less r p (before-over r q p (less-before r q before) not_before))) where
          by_test : (b : Bool) → is_before p q ≡ b → b ≡ false
          by_test true lower = absurd (at_n.least.1 p p_left (before-less p q lower))
          by_test false higher = refl

          not_before : is_before p q ≡ false
          not_before = by_test (is_before p q) refl

        is_cell : (cell : Cell) → cell ≡ (q, octets_of (route_of route)) → IsSendable cell → IsCell roster shards slot cell
        is_cell cell is sendable = record {
          value =
              ap (λ k. cells_of roster shards slot (k ∷ [])) (ap (λ (c : Cell). c.0) is)
              ∙ ap (λ (o : Option RouteFields). (q, octets_of o) ∷ []) (ap (λ k. given_in (slice_get (map (λ (s : ShardOf). s.ribs) shards) k) q slot) q_number ∙ given_same (slice_get shards n) refl ∙ sym at_n.given.given)
              ∙ ap (λ (c : Cell). c ∷ []) (sym is);
          sendable = sendable;
        } where
          by_case : (o : Option ShardOf) → given_in (option_map (λ (s : ShardOf). s.ribs) o) q slot ≡ given_there o slot q
          by_case None = refl
          by_case (Some s) = refl

          given_same : (o : Option ShardOf) → slice_get shards n ≡ o → given_in (slice_get (map (λ (s : ShardOf). s.ribs) shards) n) q slot ≡ given_there (slice_get shards n) slot q
          given_same o here = ap (λ r. given_in r q slot) (slice_get-map (λ (s : ShardOf). s.ribs) shards n) ∙ by_case (slice_get shards n)

        -- it is the next cell to be read
        pub next-cell : (cell : Cell) (now : Option IpPrefix) → cell ≡ (q, octets_of (route_of route)) → IsSendable cell → now ≡ Some q → IsNextCell roster shards slot after now (Some cell)
        next-cell cell now is sendable reached =
            let same : cell.0 ≡ q = ap (λ (c : Cell). c.0) is in
            record {
              least = subst (λ k. IsLeast (IsLeft roster shards slot after) (Some k)) (sym same) least-here;
              is_cell = is_cell cell is sendable;
              reached = reached ∙ ap (λ k. Some k) (sym same);
            }

        -- the other shards' next cells stay: they are after it
        pub fronts-after : (prefix : Option IpPrefix) (r : Option (Bor RouteFields)) → n < length shards → IsFront shards slot (Some q) n prefix r → AreFronts shards busy slot (Some q) (set prefixes n prefix) (set routes n r)
        fronts-after prefix r low is = record {
          long = length-set prefixes n prefix ∙ are.long;
          routes_long = length-set routes n r ∙ are.routes_long;
          each = λ m has. at_place m has (cases_eq m n);
        } where
          later : (m : ℕ) → (m ≡ n → ⊥) → (o : Option IpPrefix) (given : Option (Bor RouteFields)) → IsFront shards slot after m o given → IsFront shards slot (Some q) m o given
          later m other o given front = record { least = least-same (IsLeftAt shards slot after m) (IsLeftAt shards slot (Some q) m) o to from front.least; given = front.given } where
            to : (k : IpPrefix) → IsLeftAt shards slot after m k → IsLeftAt shards slot (Some q) m k
            to k left = (
              elim (from-least q k (least-here.1 k (left.0, dirty_over m k left.1))) [
                | inl same ↦ absurd (other (sym (own_number m k left.1) ∙ ap (shard_number roster) (same_prefix-is k q same) ∙ q_number))
                | inr after_q ↦ before-less q k after_q
              ],
              left.1,
            )

            from : (k : IpPrefix) → IsLeftAt shards slot (Some q) m k → IsLeftAt shards slot after m k
            from k left = (after-step after q k at_n.least.0.0 (less-before q k left.0), left.1)

          at_place : (m : ℕ) → Contains busy m → (m ≡ n) ⊎ (m ≢ n) → IsFront shards slot (Some q) m (get_or (set prefixes n prefix) m None) (get_or (set routes n r) m None)
          at_place m has (inl same) = put-here shards slot (Some q) prefixes routes are.long are.routes_long n low prefix r m same is
          at_place m has (inr other) = put-other shards slot (Some q) prefixes routes are.long are.routes_long n low prefix r m other (later m other (get_or prefixes m None) (get_or routes m None) (are.each m has))

-- nothing is left to be read
pub no-next : (roster : RosterOf) (shards : List ShardOf) (slot : ℕ) (after now : Option IpPrefix) → IsLeast (IsLeft roster shards slot after) None → IsNextCell roster shards slot after now None
no-next roster shards slot after now none = record { least = none; is_cell = tt; reached = tt }
