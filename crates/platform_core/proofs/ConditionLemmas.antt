-- Open connections whose numbers are below one.
use Rattle.std.proofs.Common.{◌≡◌, ℕ, ◌<◌, Bool, true, false, nat_lt, ◌&&◌, List, [], ◌∷◌, refl, arith}
use Rattle.std.specs.List.{list_all, AllByRecursion}
use Rattle.std.specs.Cmp.Derive.{both_true}
use Rattle.std.proofs.lemmas.Bool.Decides.{nat_tests}
use Rattle.platform_core.specs.declared.sessions.Connection.{Connection}
use Rattle.platform_core.specs.Open.{sessions_in}

module _ (n : ℕ) where
  abbrev pub is_below : Connection → Bool
  is_below c = nat_lt c.number n

  pub below_all : (cs : List Connection) → list_all is_below cs ≡ true → AllByRecursion (λ entry. entry.0 < n) (sessions_in cs)
  below_all [] e = tt
  below_all (c ∷ cs) e = parts (nat_lt c.number n) refl e (below_all cs) where
    parts : (b : Bool) → nat_lt c.number n ≡ b → (b && list_all is_below cs) ≡ true
        → (list_all is_below cs ≡ true → AllByRecursion (λ entry. entry.0 < n) (sessions_in cs)) → AllByRecursion (λ entry. entry.0 < n) (sessions_in (c ∷ cs))
    parts true is e rest = (grind (arith, nat_tests), rest e)
    parts false is e rest = absurd cc

  pub all_below : (cs : List Connection) → AllByRecursion (λ entry. entry.0 < n) (sessions_in cs) → list_all is_below cs ≡ true
  all_below [] h = refl
  all_below (c ∷ cs) h = both_true (let l = h.0 in grind (arith, nat_tests)) (all_below cs h.1)
