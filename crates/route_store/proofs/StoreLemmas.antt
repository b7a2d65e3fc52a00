-- What the parts of a store say of its map, and how they stay joined.
use Rattle.std.proofs.Common.{◌≡◌, ◌≢◌, ℕ, Bool, true, false, cond, not, [], ◌∷◌, Option, Some, None, is_some, IsSome, IfSome, IsTrue, refl, sym, ap, subst, ◌∙◌}
use Rattle.std.specs.BTreeMap as tree
use Rattle.std.specs.BTreeMap.{IsOrdered}
use Rattle.std.specs.Cmp.{Equal-is}
use Rattle.std.specs.FinMap as map_of
use Rattle.std.specs.Option.{option_eq}
use Rattle.std.specs.Ordering.{eq_by_cmp}
use Rattle.std.specs.Prelude.{nat_eq}
use Rattle.std.proofs.lemmas.Bool.{eq-eqb, ne_eqb, both_ways}
use Rattle.rcp_base.specs.IpPrefix.{IpPrefix, prefix_cmp}
use Rattle.rcp_model.specs.Ribs.{RibKey, rib_cmp}
use Rattle.rcp_model.proofs.RibLemmas.{rib_exact}
use Rattle.route_store.specs.Announcers.{IsAnnounced, IsAnnouncedBy}
use Rattle.route_store.specs.Next.{IsNext}
use Rattle.route_store.specs.Rows.{Row, Rows, Seats, number_in, number_of, number_at, Puts, SameNumbers, numbers_in, IsFilled, has_seat, SeatsThen, SameSeats, IsStore}
use Rattle.route_store.proofs.NumberLemmas.{get_number}

-- the same prefixes have the same next one
pub next_same : (P Q : IpPrefix → Type 0) → ((q : IpPrefix) → P q → Q q) → ((q : IpPrefix) → Q q → P q) → (after result : Option IpPrefix) → IsNext P after result → IsNext Q after result
next_same P Q f g after None none = λ q later there. none q later (g q there)
next_same P Q f g after (Some p) least = record { one = f p least.one; later = least.later; least = λ q later there. least.least q later (g q there) }

module _ (rows : Rows) (ordered : IsOrdered prefix_cmp rows) where
  number_seen : (key : RibKey) → IsSome (number_at rows key) → IsSome (map_of.get (numbers_in rows) key)
  number_seen key there = subst IsSome (sym (get_number rows ordered key)) there

  number_kept : (key : RibKey) → IsSome (map_of.get (numbers_in rows) key) → IsSome (number_at rows key)
  number_kept key there = subst IsSome (get_number rows ordered key) there

  -- a prefix with a row is announced, and no other
  pub row_announced : IsFilled rows → (q : IpPrefix) → IsSome (tree.get prefix_cmp rows q) → IsAnnounced (numbers_in rows) q
  row_announced filled q there = at_row (tree.get prefix_cmp rows q) refl (filled q) there where
    at_row : (o : Option Row) → tree.get prefix_cmp rows q ≡ o → IfSome o (λ row. row ≢ []) → IsSome o → IsAnnounced (numbers_in rows) q
    at_row None e full there = absurd cc
    at_row (Some []) e full there = absurd (full refl)
    at_row (Some (a ∷ row)) e full there =
        let head : number_in (a ∷ row) a.0 ≡ Some a.1 = rw (eq-eqb a.0 a.0 refl) refl in
        (a.0, number_seen (q, a.0) (subst IsSome (sym (ap (λ (o : Option Row). number_of o a.0) e ∙ head)) refl))

  pub announced_row : (q : IpPrefix) → IsAnnounced (numbers_in rows) q → IsSome (tree.get prefix_cmp rows q)
  announced_row q one = at_row (tree.get prefix_cmp rows q) (number_kept (q, one.0) one.1) where
    at_row : (o : Option Row) → IsSome (number_of o one.0) → IsSome o
    at_row None there = absurd cc
    at_row (Some row) there = refl

module _ (rows : Rows) (seats : Seats) (store : IsStore rows seats) (slot : ℕ) (q : IpPrefix) where
  pub seat_announced : IsTrue (has_seat seats (q, slot)) → IsAnnouncedBy (numbers_in rows) slot q
  seat_announced there = number_seen rows store.ordered (q, slot) (subst (λ (b : Bool). IsTrue b) (store.seated (q, slot)) there)

  pub announced_seat : IsAnnouncedBy (numbers_in rows) slot q → IsTrue (has_seat seats (q, slot))
  announced_seat there = subst (λ (b : Bool). IsTrue b) (sym (store.seated (q, slot))) (number_kept rows store.ordered (q, slot) there)

-- ---- changes of the prefixes of one slot

pub is_key : (q key : RibKey) → eq_by_cmp rib_cmp q key ≡ true → q ≡ key
is_key q key e = rib_exact q key ((Equal-is (rib_cmp q key)).0 e)

-- a prefix that is there stays
pub seat_there : (seats : Seats) (key : RibKey) → has_seat seats key ≡ true → SeatsThen seats seats key true
seat_there seats key there q = at_test (eq_by_cmp rib_cmp q key) refl where
  at_test : (b : Bool) → eq_by_cmp rib_cmp q key ≡ b → has_seat seats q ≡ cond b true (has_seat seats q)
  at_test true is = ap (has_seat seats) (is_key q key is) ∙ there
  at_test false is = refl

pub none_is : (o : Option ℕ) → false ≡ is_some o → o ≡ None
none_is None is = refl
none_is (Some n) is = absurd cc

-- what was put where there was nothing is taken out again
pub numbers_undone : (old mid new : Rows) (key : RibKey) (value : Option ℕ) → Puts old mid key value → Puts mid new key None → number_at old key ≡ None → SameNumbers old new
numbers_undone old mid new key value put taken none q = taken q ∙ ap (cond (eq_by_cmp rib_cmp q key) None) (put q) ∙ at_test (eq_by_cmp rib_cmp q key) refl where
  at_test : (b : Bool) → eq_by_cmp rib_cmp q key ≡ b → cond b None (cond b value (number_at old q)) ≡ number_at old q
  at_test true is = sym (ap (number_at old) (is_key q key is) ∙ none)
  at_test false is = refl

-- ---- the store stays joined

either : (b : Bool) (x y : Option ℕ) → cond b (is_some x) (is_some y) ≡ is_some (cond b x y)
either true x y = refl
either false x y = refl

module _ (rows : Rows) (seats : Seats) (store : IsStore rows seats) (rows' : Rows) (seats' : Seats) (ordered : IsOrdered prefix_cmp rows') (filled : IsFilled rows') where
  pub store_put : (key : RibKey) (value : Option ℕ) → Puts rows rows' key value → SeatsThen seats seats' key (is_some value) → IsStore rows' seats'
  store_put key value puts changed = record {
    ordered = ordered;
    filled = filled;
    seated = λ q. changed q ∙ ap (cond (eq_by_cmp rib_cmp q key) (is_some value)) (store.seated q)
        ∙ either (eq_by_cmp rib_cmp q key) value (number_at rows q) ∙ sym (ap is_some (puts q));
  }

  pub store_same : SameNumbers rows rows' → SameSeats seats seats' → IsStore rows' seats'
  store_same numbers same = record {
    ordered = ordered;
    filled = filled;
    seated = λ q. same q ∙ store.seated q ∙ sym (ap is_some (numbers q));
  }

-- another number than before, or the first
pub differs : (o : Option ℕ) (n : ℕ) (b : Bool) → b ≡ not (option_eq nat_eq o (Some n)) → (v : Option ℕ) → o ≡ v → (IsTrue b → v ≡ Some n → ⊥) × (v ≢ Some n → IsTrue b)
differs None n b e v is = (λ t same. let f = is in cc, λ other. e)
differs (Some m) n b e v is = (
  λ t same.
      let at : m ≡ n = let f = is in cc in
      let yes = eq-eqb m n at in
      both_ways b (e ∙ ap not yes) t,
  λ other. e ∙ ap not (ne_eqb m n (λ at. other (sym is ∙ ap (λ (x : ℕ). Some x) at))),
)
