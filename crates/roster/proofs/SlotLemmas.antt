-- The slot of a router: where a walk of the members from the front finds it.
use Rattle.std.proofs.Common.{◌≡◌, ◌≢◌, ℕ, suc, ◌+◌, ◌<◌, ◌≤◌, lt-ltb, le-ltb, Bool, true, false, not, cond, eqb, nat_lt, List, [], ◌∷◌, length, get_or, slice_get, position, AllPairs, Option, Some, None, option_map, refl, sym, ap, ◌∙◌, arith}
use Rattle.std.specs.List.{prefix_len, position_or_len}
use Rattle.std.proofs.lemmas.Bool.{eq-eqb, ne_eqb, ltb-true, ltb-false}
use Rattle.std.proofs.lemmas.List.Sums.{position_or_len_is}
use Rattle.std.proofs.lemmas.Option.{get_or_from_slice_get}
use Rattle.rcp_base.specs.Roster.{slot_from}
use Rattle.rcp_base.specs.declared.names.Member.{Member}

step : (k n : ℕ) → cond (nat_lt (1 + k) (suc n)) (Some (1 + k)) None ≡ option_map (λ m. m + 1) (cond (nat_lt k n) (Some k) None)
step k n = by (nat_lt k n) refl
  where
    by : (t : Bool) → nat_lt k n ≡ t → cond (nat_lt (1 + k) (suc n)) (Some (1 + k)) None ≡ option_map (λ m. m + 1) (cond (nat_lt k n) (Some k) None)
    by true e = let h : k < n = ltb-true k n e in rw (e, lt-ltb (1 + k) (suc n) (omega arith)) (ap Some (omega arith))
    by false e = let h : n ≤ k = ltb-false k n e in rw (e, le-ltb (1 + k) (suc n) (omega arith)) refl

-- what `position` is of one more at the front
place-cons : {X : Type 0} (p : X → Bool) (x : X) (xs : List X) → position p (x ∷ xs) ≡ cond (p x) (Some 0) (option_map (λ n. n + 1) (position p xs))
place-cons p x xs = by (p x) refl
  where
    by : (t : Bool) → p x ≡ t → position p (x ∷ xs) ≡ cond (p x) (Some 0) (option_map (λ n. n + 1) (position p xs))
    by true e = rw e (ap (λ t. cond t (Some 0) None) (lt-ltb 0 (suc (length xs)) (omega arith)))
    by false e = rw e (step (prefix_len (λ x. not (p x)) xs) (length xs))

moved : (slot : ℕ) (here : Bool) (o : Option ℕ) → cond here (Some slot) (option_map (λ n. slot + 1 + n) o) ≡ option_map (λ n. slot + n) (cond here (Some 0) (option_map (λ n. n + 1) o))
moved slot true o = ap Some (omega arith)
moved slot false None = refl
moved slot false (Some n) = ap Some (omega arith)

slot-place : (members : List Member) (slot router : ℕ) → slot_from slot members router ≡ option_map (λ n. slot + n) (position (λ m. eqb m.router router) members)
slot-place [] slot router = refl
slot-place (m ∷ members) slot router =
    ap (λ o. cond (eqb m.router router) (Some slot) o) (slot-place members (slot + 1) router)
    ∙ moved slot (eqb m.router router) (position (λ m. eqb m.router router) members)
    ∙ ap (option_map (λ n. slot + n)) (sym (place-cons (λ (m : Member). eqb m.router router) m members))

same-some : (o : Option ℕ) → option_map (λ n. 0 + n) o ≡ o
same-some None = refl
same-some (Some n) = ap Some (omega arith)

pub first-slot : (members : List Member) (router : ℕ) → slot_from 0 members router ≡ position (λ m. eqb m.router router) members
first-slot members router = slot-place members 0 router ∙ same-some (position (λ m. eqb m.router router) members)

-- a member whose name no other has is the first of that name
pub own_place : (name : Member → ℕ) (members : List Member) (slot : ℕ) (m : Member) → AllPairs (λ a b. name a ≢ name b) members → slot < length members
    → slice_get members slot ≡ Some m → position (λ x. eqb (name x) (name m)) members ≡ Some slot
own_place name members slot m apart within e =
    let p : Member → Bool = λ x. eqb (name x) (name m) in
    let here : get_or members slot m ≡ m = get_or_from_slice_get members slot m m e in
    let is : position_or_len p members ≡ slot =
    position_or_len_is p members slot m (omega arith)
    (λ k before. ne_eqb (name (get_or members k m)) (name m) (λ same. apart k slot m before within (same ∙ ap name (sym here))))
    (λ h. eq-eqb (name (get_or members slot m)) (name m) (ap name here)) in
    ap (λ n. cond (nat_lt n (length members)) (Some n) None) is ∙ ap (λ t. cond t (Some slot) None) (lt-ltb slot (length members) within)
