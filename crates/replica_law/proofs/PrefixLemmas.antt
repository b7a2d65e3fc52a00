-- The prefixes that are announced in either platform, in order.
use Rattle.std.proofs.Common.{◌≡◌, ◌≢◌, ℕ, ◌+◌, ◌-◌, ◌*◌, ◌^◌, ◌<◌, ◌≤◌, Bool, true, false, cond, not, ◌&&◌, ◌||◌, ◌==◌, nat_lt, ◌⊎◌, List, [], ◌∷◌, ◌++◌, length, get_or, Contains, AllPairs, Option, Some, None, MatchOption, IfSome, Ordering, Less, refl, sym, ap, subst, ◌∙◌, inl, inr, arith, eqb, eqb-true}
use Rattle.std.specs.Ordering.{is_lt}
use Rattle.std.proofs.lemmas.Bool.{false≢true, cases_Bool, ltb-true}
use Rattle.std.proofs.lemmas.Bool.Decides.{nat_tests}
use Rattle.std.proofs.lemmas.List.Quantifiers.{all_pairs_push}
use Rattle.rcp_base.specs.IpPrefix.{IpPrefix, IsPrefix, prefix_cmp}
use Rattle.rcp_base.specs.Maps.{is_before, same_prefix}
use Rattle.rcp_base.proofs.MapLemmas.{same_prefix-is}
use Rattle.rcp_base.proofs.PrefixLemmas.{before-cmp}
use Rattle.rcp_model.specs.Assigned.{IsLeast, IsAfter, IsAnnounced}
use Rattle.rcp_model.specs.RouteServer.{Announced}
use Rattle.rcp_model.proofs.MemberLemmas.{Contains-none}
use Rattle.replica_law.specs.Steps.{lower_prefix, IsAnnouncedIn, ArePrefixes}
use Rattle.replica_law.proofs.PartitionLemmas.{get_or_again}
use Rattle.replica_law.proofs.RankLemmas.{more_cases, more_before, more_last}

-- ---- the order

pub less-before : (p q : IpPrefix) → prefix_cmp p q ≡ Less → is_before p q ≡ true
less-before p q less = before-cmp p q ∙ ap is_lt less

pub before-less : (p q : IpPrefix) → is_before p q ≡ true → prefix_cmp p q ≡ Less
before-less p q before = of_test (prefix_cmp p q) (sym (before-cmp p q) ∙ before) where
  of_test : (o : Ordering) → is_lt o ≡ true → o ≡ Less
  of_test o test = grind (arith, nat_tests)

pub before-then : (p q r : IpPrefix) → is_before p q ≡ true → is_before q r ≡ true → is_before p r ≡ true
before-then p q r first second = numbers p.addr p.len q.addr q.len r.addr r.len first second where
  numbers : (a k b l c m : ℕ) → (nat_lt a b || a == b && nat_lt k l) ≡ true → (nat_lt b c || b == c && nat_lt l m) ≡ true → (nat_lt a c || a == c && nat_lt k m) ≡ true
  numbers a k b l c m first second = grind (arith, nat_tests)

before-past : (p q r : IpPrefix) → is_before p q ≡ true → is_before r q ≡ false → is_before p r ≡ true
before-past p q r first second = numbers p.addr p.len q.addr q.len r.addr r.len first second where
  numbers : (a k b l c m : ℕ) → (nat_lt a b || a == b && nat_lt k l) ≡ true → (nat_lt c b || c == b && nat_lt m l) ≡ false → (nat_lt a c || a == c && nat_lt k m) ≡ true
  numbers a k b l c m first second = grind (arith, nat_tests)

order : (p q : IpPrefix) → (is_before p q ≡ true) ⊎ ((p ≡ q) ⊎ (is_before q p ≡ true))
order p q = elim (cases_Bool (is_before p q)) [
  | inl before ↦ inl before
  | inr not_before ↦ elim (cases_Bool (same_prefix p q)) [
    | inl same ↦ inr (inl (same_prefix-is p q same))
    | inr other ↦ inr (inr (numbers p.addr p.len q.addr q.len not_before other))
  ]
] where
  numbers : (a k b l : ℕ) → (nat_lt a b || a == b && nat_lt k l) ≡ false → (a == b && k == l) ≡ false → (nat_lt b a || b == a && nat_lt l k) ≡ true
  numbers a k b l not_before other = grind (arith, nat_tests)

pub before-itself : (p : IpPrefix) → is_before p p ≡ true → ⊥
before-itself p before = numbers p.addr p.len before where
  numbers : (a k : ℕ) → (nat_lt a a || a == a && nat_lt k k) ≡ true → ⊥
  numbers a k before = grind (arith, nat_tests)

-- by two keys: a lower first one, or the same one and a lower second one
pub two_keys : (w u : ℕ) (t : Bool) → (nat_lt w u || w == u && t) ≡ true → (w < u) ⊎ ((w ≡ u) × (t ≡ true))
two_keys w u t test = at_tests (cases_Bool (nat_lt w u)) (cases_Bool (eqb w u)) where
  at_tests : (nat_lt w u ≡ true) ⊎ (nat_lt w u ≡ false) → (eqb w u ≡ true) ⊎ (eqb w u ≡ false) → (w < u) ⊎ ((w ≡ u) × (t ≡ true))
  at_tests (inl less) same = inl (ltb-true w u less)
  at_tests (inr not_less) (inl same) = inr (eqb-true w u same, rw (not_less, same) at test)
  at_tests (inr not_less) (inr other) = absurd (false≢true (rw (not_less, other) at test))

-- ---- the lower one of two least prefixes

pub next_lower : (After A B : IpPrefix → Type 0) (x y : Option IpPrefix) → IsLeast (λ p. After p × A p) x → IsLeast (λ p. After p × B p) y → IsLeast (λ p. After p × (A p ⊎ B p)) (lower_prefix x y)
next_lower After A B None None first second = λ q holds. elim holds.1 [ inl here ↦ first q (holds.0, here) | inr there ↦ second q (holds.0, there) ]
next_lower After A B None (Some b) first second = (
  (second.0.0, inr second.0.1),
  λ q holds less. elim holds.1 [ inl here ↦ first q (holds.0, here) | inr there ↦ second.1 q (holds.0, there) less ],
)
next_lower After A B (Some a) None first second = (
  (first.0.0, inl first.0.1),
  λ q holds less. elim holds.1 [ inl here ↦ first.1 q (holds.0, here) less | inr there ↦ second q (holds.0, there) ],
)
next_lower After A B (Some a) (Some b) first second = at_test (is_before b a) refl where
  at_test : (t : Bool) → is_before b a ≡ t → IsLeast (λ p. After p × (A p ⊎ B p)) (cond t (Some b) (Some a))
  at_test true before = (
    (second.0.0, inr second.0.1),
    λ q holds less. elim holds.1 [
      | inl here ↦ first.1 q (holds.0, here) (before-less q a (before-then q b a (less-before q b less) before))
      | inr there ↦ second.1 q (holds.0, there) less
    ],
  )
  at_test false not_before = (
    (first.0.0, inl first.0.1),
    λ q holds less. elim holds.1 [
      | inl here ↦ first.1 q (holds.0, here) less
      | inr there ↦ second.1 q (holds.0, there) (before-less q b (before-past q a b (less-before q a less) not_before))
    ],
  )

-- ---- the list so far

-- in order up to the last one; what is announced is in it or comes after
pub record ArePrefixesTo (A B : IpPrefix → Announced) (last : Option IpPrefix) (items : List IpPrefix) : Type 0 where
  pub rising : AllPairs (λ p q. is_before p q ≡ true) items
  pub before_next : (n : IpPrefix) → IsAfter last n → (q : IpPrefix) → Contains items q → is_before q n ≡ true
  pub each : (q : IpPrefix) → IsAnnouncedIn A B q → Contains items q ⊎ IsAfter last q

pub prefixes_none : (A B : IpPrefix → Announced) (items : List IpPrefix) → items ≡ [] → ArePrefixesTo A B None items
prefixes_none A B items empty = record {
  rising = λ i j d less within. absurd (omega (arith, within, ap length empty));
  before_next = λ n after q member. absurd (Contains-none q (subst (λ (l : List IpPrefix). Contains l q) empty member));
  each = λ q announced. inr tt;
}

pub prefixes_more : (A B : IpPrefix → Announced) (last : Option IpPrefix) (n : IpPrefix) (items more : List IpPrefix) → ArePrefixesTo A B last items → IsLeast (λ p. IsAfter last p × IsAnnouncedIn A B p) (Some n)
    → more ≡ items ++ n ∷ [] → ArePrefixesTo A B (Some n) more
prefixes_more A B last n items more before least is = record {
  rising = subst (AllPairs (λ p q. is_before p q ≡ true)) (sym is)
      (all_pairs_push (λ p q. is_before p q ≡ true) items n before.rising (λ k d within. before.before_next n least.0.0 (get_or items k d) (k, within, again items k d)));
  before_next = λ m after q member. elim (more_cases items n q (subst (λ (l : List IpPrefix). Contains l q) is member)) [
    | inl earlier ↦ before-then q n m (before.before_next n least.0.0 q earlier) (less-before n m after)
    | inr same ↦ subst (λ p. is_before p m ≡ true) same (less-before n m after)
  ];
  each = λ q announced. elim (before.each q announced) [
    | inl member ↦ inl (subst (λ (l : List IpPrefix). Contains l q) (sym is) (more_before items n q member))
    | inr after ↦ elim (order q n) [
      | inl earlier ↦ absurd (least.1 q (after, announced) (before-less q n earlier))
      | inr rest ↦ elim rest [
        | inl same ↦ inl (subst (λ (l : List IpPrefix). Contains l q) (sym is) (subst (Contains (items ++ n ∷ [])) (sym same) (more_last items n)))
        | inr later ↦ inr (before-less n q later)
      ]
    ]
  ];
} where
  again : (xs : List IpPrefix) (k : ℕ) (d : IpPrefix) → get_or xs k (get_or xs k d) ≡ get_or xs k d
  again xs k d = get_or_again xs k d

pub prefixes_all : (A B : IpPrefix → Announced) (last : Option IpPrefix) (items : List IpPrefix) → ArePrefixesTo A B last items → IsLeast (λ p. IsAfter last p × IsAnnouncedIn A B p) None → ArePrefixes A B items
prefixes_all A B last items before none = record {
  rising = before.rising;
  each = λ q announced. elim (before.each q announced) [ inl member ↦ member | inr after ↦ absurd (none q (after, announced)) ];
}

-- ---- how many prefixes there can be after one

abbrev pub left_after : Option IpPrefix → ℕ
left_after None = 2 ^ 40
left_after (Some p) = 2 ^ 39 - (p.addr * 64 + p.len)

pub fewer_after : (last : Option IpPrefix) (n : IpPrefix) → IfSome last IsPrefix → IsPrefix n → IsAfter last n → left_after (Some n) < left_after last
fewer_after None n form next after = omega (arith, next.addr, next.len)
fewer_after (Some p) n form next after = numbers p.addr p.len n.addr n.len form.len next.len next.addr (less-before p n after) where
  numbers : (a k b l : ℕ) → k ≤ 32 → l ≤ 32 → b < 2 ^ 32 → (nat_lt a b || a == b && nat_lt k l) ≡ true → 2 ^ 39 - (b * 64 + l) < 2 ^ 39 - (a * 64 + k)
  numbers a k b l low high within before = elim (two_keys a b (nat_lt k l) before) [
    | inl less ↦ omega (arith, less, low, high, within)
    | inr same ↦ let ends = ltb-true k l same.1 in let addr = same.0 in omega (arith, addr, ends, low, high, within)
  ]
