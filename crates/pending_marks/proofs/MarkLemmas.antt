-- What the marks are once one of them is set, and the least of them.
use Rattle.std.proofs.Common.{◌≡◌, ℕ, zero, suc, ◌+◌, ◌-◌, ◌≤◌, Bool, true, false, cond, not, ◌&&◌, ◌||◌, List, [], ◌∷◌, length, Option, Some, None, is_some, IsSome, IfSome, unwrap_or, MatchOption, find, refl, sym, ap, subst, ◌∙◌, arith}
use Rattle.std.specs.BTreeMap as tree
use Rattle.std.specs.FinSet as set_of
use Rattle.std.specs.List.{list_any}
use Rattle.std.specs.List.Sorted.{IsStrictlySortedBy}
use Rattle.std.specs.Map.{keys_of, lookup}
use Rattle.std.specs.Option.{option_map}
use Rattle.std.specs.Ordering.{is_le, eq_by_cmp, ordering_reverse}
use Rattle.std.specs.Cmp.{eq_by_cmp_equiv}
use Rattle.std.specs.declared.cmp.Ordering.{Ordering}
use Rattle.std.specs.declared.cmp.Ordering.TheVariants.{Less, Equal, Greater}
use Rattle.std.proofs.lemmas.Bool.{false≢true, and_parts}
use Rattle.rcp_base.specs.IpPrefix.{IpPrefix, prefix_cmp}
use Rattle.rcp_model.specs.Assigned.{IsLeast}
use Rattle.rcp_model.proofs.RibLemmas.{prefix_total, prefix_exact}
use Rattle.pending_marks.specs.Marks.{MarksOf, no_marks, Flags, Flag, flag_of, flags_from, first_in, opened_in, marked_in, is_opened, is_marked, IsBelowAll, AreMarks}
use Rattle.pending_marks.proofs.FirstLemmas.{tied_same, IsFirst, first_is}

-- ---- what is opened and marked

any_key : (q : IpPrefix) (flags : List Flag) → list_any (eq_by_cmp prefix_cmp q) (keys_of flags) ≡ is_some (lookup (eq_by_cmp prefix_cmp q) flags)
any_key q [] = refl
any_key q (e ∷ flags) = let rest = any_key q flags in
    elim (eq_by_cmp prefix_cmp q e.0) as (λ t. (t || list_any (eq_by_cmp prefix_cmp q) (keys_of flags)) ≡ is_some (cond t (Some e.1) (lookup (eq_by_cmp prefix_cmp q) flags))) [ true ↦ refl | false ↦ rest ]

pub opened_is : (flags : Flags) (q : IpPrefix) → set_of.contains (opened_in flags) q ≡ is_some (tree.get prefix_cmp flags q)
opened_is flags q = set_of.contains-from_list prefix_total (keys_of flags.entries) q ∙ any_key q flags.entries

set_is_there : (o : Option Bool) → (is_some o && unwrap_or o false) ≡ unwrap_or o false
set_is_there None = refl
set_is_there (Some b) = refl

pub marked_is : (flags : Flags) (q : IpPrefix) → set_of.contains (marked_in flags) q ≡ flag_of flags q
marked_is flags q =
    set_of.contains-retain (opened_in flags) (flag_of flags) q (λ x tied. ap (flag_of flags) (sym (prefix_exact q x tied)))
    ∙ ap (λ (b : Bool). b && flag_of flags q) (opened_is flags q) ∙ set_is_there (tree.get prefix_cmp flags q)

-- ---- one flag is set

abbrev pub IsSet : Flags → Flags → IpPrefix → Bool → Type 0
IsSet old new p value = (q : IpPrefix) → tree.get prefix_cmp new q ≡ cond (eq_by_cmp prefix_cmp p q) (Some value) (tree.get prefix_cmp old q)

module _ (old new : Flags) (p : IpPrefix) (value : Bool) (set : IsSet old new p value) where
  pub flag_then : (q : IpPrefix) (t : Bool) → eq_by_cmp prefix_cmp p q ≡ t → flag_of new q ≡ cond t value (flag_of old q)
  flag_then q true is = ap (λ (o : Option Bool). unwrap_or o false) (set q ∙ ap (λ (t : Bool). cond t (Some value) (tree.get prefix_cmp old q)) is)
  flag_then q false is = ap (λ (o : Option Bool). unwrap_or o false) (set q ∙ ap (λ (t : Bool). cond t (Some value) (tree.get prefix_cmp old q)) is)

  pub opened_same : IsSome (tree.get prefix_cmp old p) → opened_in new ≡ opened_in old
  opened_same there =
      set_of.same_set prefix_total prefix_exact (opened_in new) (opened_in old) (λ q. opened_is new q ∙ ap is_some (set q) ∙ at q (eq_by_cmp prefix_cmp p q) refl ∙ sym (opened_is old q)) where
        at : (q : IpPrefix) (t : Bool) → eq_by_cmp prefix_cmp p q ≡ t → is_some (cond t (Some value) (tree.get prefix_cmp old q)) ≡ is_some (tree.get prefix_cmp old q)
        at q true tied = sym (subst (λ (r : IpPrefix). IsSome (tree.get prefix_cmp old r)) (tied_same p q tied) there)
        at q false apart = refl

  pub turn : (q : IpPrefix) → eq_by_cmp prefix_cmp q p ≡ eq_by_cmp prefix_cmp p q
  turn q = (eq_by_cmp_equiv prefix_total).symm q p

  pub marked_more : value ≡ true → marked_in new ≡ set_of.insert (marked_in old) p
  marked_more is =
      set_of.same_set prefix_total prefix_exact (marked_in new) (set_of.insert (marked_in old) p)
      (λ q. marked_is new q ∙ at q (eq_by_cmp prefix_cmp p q) refl
      ∙ sym (set_of.contains-insert prefix_total (marked_in old) p q ∙ (λ i. turn q i || marked_is old q i))) where
        at : (q : IpPrefix) (t : Bool) → eq_by_cmp prefix_cmp p q ≡ t → flag_of new q ≡ (eq_by_cmp prefix_cmp p q || flag_of old q)
        at q true tied = flag_then q true tied ∙ is ∙ sym (ap (λ (t : Bool). t || flag_of old q) tied)
        at q false apart = flag_then q false apart ∙ sym (ap (λ (t : Bool). t || flag_of old q) apart)

  pub marked_less : value ≡ false → marked_in new ≡ set_of.remove (marked_in old) p
  marked_less is =
      set_of.same_set prefix_total prefix_exact (marked_in new) (set_of.remove (marked_in old) p)
      (λ q. marked_is new q ∙ at q (eq_by_cmp prefix_cmp p q) refl
      ∙ sym (set_of.contains-remove prefix_total (marked_in old) p q ∙ (λ i. not (turn q i) && marked_is old q i))) where
        at : (q : IpPrefix) (t : Bool) → eq_by_cmp prefix_cmp p q ≡ t → flag_of new q ≡ (not (eq_by_cmp prefix_cmp p q) && flag_of old q)
        at q true tied = flag_then q true tied ∙ is ∙ sym (ap (λ (t : Bool). not t && flag_of old q) tied)
        at q false apart = flag_then q false apart ∙ sym (ap (λ (t : Bool). not t && flag_of old q) apart)

  -- a flag that is set afterwards was set, or is the new one
  pub set_before : (q : IpPrefix) → flag_of new q ≡ true → eq_by_cmp prefix_cmp p q ≡ false → flag_of old q ≡ true
  set_before q on apart = sym (flag_then q false apart) ∙ on

  pub not_cleared : value ≡ false → (q : IpPrefix) → flag_of new q ≡ true → eq_by_cmp prefix_cmp p q ≡ false
  not_cleared is q on = at (eq_by_cmp prefix_cmp p q) refl where
    at : (t : Bool) → eq_by_cmp prefix_cmp p q ≡ t → t ≡ false
    at true tied = absurd (false≢true (sym (flag_then q true tied ∙ is) ∙ on))
    at false apart = refl

-- ---- how many

len_within : (ks : List IpPrefix) (s : set_of.FinSet prefix_cmp) → ((q : IpPrefix) → set_of.contains s q ≡ true → list_any (eq_by_cmp prefix_cmp q) ks ≡ true) → set_of.len s ≤ length ks
len_within [] s within =
    let none = set_of.same_set prefix_total prefix_exact s set_of.empty (λ q. false_by (set_of.contains s q) (within q) ∙ sym (set_of.contains-empty prefix_cmp q)) in
    let is : set_of.len s ≡ 0 = ap (λ (s : set_of.FinSet prefix_cmp). set_of.len s) none ∙ set_of.len-empty prefix_cmp in
    omega arith where
      false_by : (b : Bool) → (b ≡ true → false ≡ true) → b ≡ false
      false_by true h = sym (h refl)
      false_by false h = refl
len_within (k ∷ ks) s within =
    let less = len_within ks (set_of.remove s k) (λ q there. at q (and_parts (not (eq_by_cmp prefix_cmp q k)) (set_of.contains s q) (sym (set_of.contains-remove prefix_total s k q) ∙ there))) in
    count (set_of.contains s k) (set_of.len s) (set_of.len (set_of.remove s k)) (length ks) (set_of.len-remove prefix_total s k) less where
      at : (q : IpPrefix) → (not (eq_by_cmp prefix_cmp q k) ≡ true) × (set_of.contains s q ≡ true) → list_any (eq_by_cmp prefix_cmp q) ks ≡ true
      at q both = by_test (eq_by_cmp prefix_cmp q k) both.0 (within q both.1) where
        by_test : (t : Bool) → not t ≡ true → (t || list_any (eq_by_cmp prefix_cmp q) ks) ≡ true → list_any (eq_by_cmp prefix_cmp q) ks ≡ true
        by_test true h any = absurd (false≢true h)
        by_test false h any = any

      count : (t : Bool) (a b n : ℕ) → b ≡ cond t (a - 1) a → b ≤ n → a ≤ suc n
      count true a b n e h = omega arith
      count false a b n e h = omega arith

length_keys : (flags : List Flag) → length (keys_of flags) ≡ length flags
length_keys [] = refl
length_keys (e ∷ flags) = ap suc (length_keys flags)

pub marked_within : (flags : Flags) → set_of.len (marked_in flags) ≤ length flags.entries
marked_within flags =
    let within = len_within (keys_of flags.entries) (marked_in flags)
    (λ q there. any_key q flags.entries ∙ there_by (tree.get prefix_cmp flags q) (sym (marked_is flags q) ∙ there)) in
    let keys = length_keys flags.entries in
    omega arith where
      there_by : (o : Option Bool) → unwrap_or o false ≡ true → is_some o ≡ true
      there_by None on = absurd (false≢true on)
      there_by (Some b) on = refl

-- ---- the least one

not_below : (p q : IpPrefix) (o : Ordering) → prefix_cmp p q ≡ o → (prefix_cmp q p ≡ Less → ⊥) → (is_le o && not false) ≡ true
not_below p q Less is not_less = refl
not_below p q Equal is not_less = refl
not_below p q Greater is not_less = absurd (not_less (prefix_total.antisymm q p ∙ ap ordering_reverse is))

pub least_marked : (flags : Flags) (l : IpPrefix) → tree.IsOrdered prefix_cmp flags → IsBelowAll (Some l) flags → IsLeast (λ q. set_of.contains (marked_in flags) q ≡ true) (first_in l flags.entries)
least_marked flags l ordered below =
    from_first (find (λ (flag : Flag). flag.1) (flags_from l flags.entries)) (first_is (λ q. is_le (prefix_cmp l q) && not false) flags.entries ordered) where
      low : (q : IpPrefix) → set_of.contains (marked_in flags) q ≡ true → (is_le (prefix_cmp l q) && not false) ≡ true
      low q on = not_below l q (prefix_cmp l q) refl (below q (sym (marked_is flags q) ∙ on))

      from_first : (found : Option Flag) → IsFirst (λ q. is_le (prefix_cmp l q) && not false) flags.entries found → IsLeast (λ q. set_of.contains (marked_in flags) q ≡ true) (option_map (λ (flag : Flag). flag.0) found)
      from_first None first = λ q on. first q (low q on) (sym (marked_is flags q) ∙ on)
      from_first (Some f) first = (marked_is flags f.0 ∙ first.1, λ q on. first.2 q (low q on) (sym (marked_is flags q) ∙ on))

-- ---- the marks before and after

abbrev pub marks_in : Flags → MarksOf
marks_in flags = record { opened = opened_in flags; marked = marked_in flags }

-- a prefix that is there already
inserted_again : (s : set_of.FinSet prefix_cmp) (p : IpPrefix) → set_of.contains s p ≡ true → s ≡ set_of.insert s p
inserted_again s p there =
    set_of.same_set prefix_total prefix_exact s (set_of.insert s p) (λ q. at q (eq_by_cmp prefix_cmp q p) refl ∙ sym (set_of.contains-insert prefix_total s p q)) where
      at : (q : IpPrefix) (t : Bool) → eq_by_cmp prefix_cmp q p ≡ t → set_of.contains s q ≡ (eq_by_cmp prefix_cmp q p || set_of.contains s q)
      at q true tied = ap (set_of.contains s) (tied_same q p tied) ∙ there ∙ sym (ap (λ (t : Bool). t || set_of.contains s q) tied)
      at q false apart = sym (ap (λ (t : Bool). t || set_of.contains s q) apart)

pub opened_again : (m : MarksOf) (p : IpPrefix) → is_opened m p ≡ true → m ≡ record m { opened = set_of.insert m.opened p }
opened_again m p there = λ i. record m { opened = inserted_again m.opened p there i }

pub marked_again : (m : MarksOf) (p : IpPrefix) → is_marked m p ≡ true → m ≡ record m { marked = set_of.insert m.marked p }
marked_again m p there = λ i. record m { marked = inserted_again m.marked p there i }

-- no prefix is opened
module _ (flags : Flags) (none : flags.entries ≡ []) where
  no_flag : (q : IpPrefix) → flag_of flags q ≡ false
  no_flag q = ap (λ (es : List Flag). unwrap_or (lookup (eq_by_cmp prefix_cmp q) es) false) none

  none_marked : marked_in flags ≡ set_of.empty
  none_marked = set_of.same_set prefix_total prefix_exact (marked_in flags) set_of.empty (λ q. marked_is flags q ∙ no_flag q ∙ sym (set_of.contains-empty prefix_cmp q))

  pub new_marks : marks_in flags ≡ no_marks
  new_marks = λ i. record { opened = set_of.from_list (keys_of (none i)); marked = none_marked i }

  pub are_new : AreMarks flags 0 None
  unfolding IsStrictlySortedBy
  are_new = record {
    ordered = subst (λ (es : List Flag). IsStrictlySortedBy prefix_cmp (keys_of es)) (sym none) tt;
    counted = sym (ap (λ (s : set_of.FinSet prefix_cmp). set_of.len s) none_marked ∙ set_of.len-empty prefix_cmp);
    below = λ p on. false≢true (sym (no_flag p) ∙ on);
  }

-- a prefix is opened
module _ (old new : Flags) (p : IpPrefix) (set : IsSet old new p false) (absent : tree.get prefix_cmp old p ≡ None) where
  same_flag : (q : IpPrefix) → flag_of new q ≡ flag_of old q
  same_flag q = at (eq_by_cmp prefix_cmp p q) refl where
    at : (t : Bool) → eq_by_cmp prefix_cmp p q ≡ t → flag_of new q ≡ flag_of old q
    at true tied = flag_then old new p false set q true tied ∙ sym (ap (λ (o : Option Bool). unwrap_or o false) (ap (tree.get prefix_cmp old) (sym (tied_same p q tied)) ∙ absent))
    at false apart = flag_then old new p false set q false apart

  same_marked : marked_in new ≡ marked_in old
  same_marked = set_of.same_set prefix_total prefix_exact (marked_in new) (marked_in old) (λ q. marked_is new q ∙ same_flag q ∙ sym (marked_is old q))

  more_opened : opened_in new ≡ set_of.insert (opened_in old) p
  more_opened =
      set_of.same_set prefix_total prefix_exact (opened_in new) (set_of.insert (opened_in old) p)
      (λ q. opened_is new q ∙ ap is_some (set q) ∙ at q (eq_by_cmp prefix_cmp p q)
      ∙ sym (set_of.contains-insert prefix_total (opened_in old) p q ∙ (λ i. turn old new p false set q i || opened_is old q i))) where
        at : (q : IpPrefix) (t : Bool) → is_some (cond t (Some false) (tree.get prefix_cmp old q)) ≡ (t || is_some (tree.get prefix_cmp old q))
        at q true = refl
        at q false = refl

  pub opens : marks_in new ≡ record (marks_in old) { opened = set_of.insert (opened_in old) p }
  opens = λ i. record { opened = more_opened i; marked = same_marked i }

  pub are_opened : (count : ℕ) (low : Option IpPrefix) → tree.IsOrdered prefix_cmp new → AreMarks old count low → AreMarks new count low
  are_opened count low ordered are = record {
    ordered = ordered;
    counted = are.counted ∙ sym (ap (λ (s : set_of.FinSet prefix_cmp). set_of.len s) same_marked);
    below = λ q on. are.below q (sym (same_flag q) ∙ on);
  }

-- a prefix is marked
module _ (old new : Flags) (p : IpPrefix) (set : IsSet old new p true) (there : IsSome (tree.get prefix_cmp old p)) where
  pub marks : marks_in new ≡ record (marks_in old) { marked = set_of.insert (marked_in old) p }
  marks = λ i. record { opened = opened_same old new p true set there i; marked = marked_more old new p true set refl i }

  counts : (count : ℕ) → flag_of old p ≡ false → count ≡ set_of.len (marked_in old) → count + 1 ≡ set_of.len (marked_in new)
  counts count off is =
      ap (λ (n : ℕ). n + 1) is
      ∙ sym (ap (λ (t : Bool). cond t (set_of.len (marked_in old)) (set_of.len (marked_in old) + 1)) (marked_is old p ∙ off))
      ∙ sym (ap (λ (s : set_of.FinSet prefix_cmp). set_of.len s) (marked_more old new p true set refl) ∙ set_of.len-insert prefix_total (marked_in old) p)

  -- where the flag was set already, nothing changes
  pub marks_still : flag_of old p ≡ true → marks_in new ≡ marks_in old
  marks_still on = marks ∙ sym (marked_again (marks_in old) p (marked_is old p ∙ on))

  pub are_still : (count : ℕ) (low : Option IpPrefix) → flag_of old p ≡ true → tree.IsOrdered prefix_cmp new → AreMarks old count low → AreMarks new count low
  are_still count low on ordered are = record {
    ordered = ordered;
    counted = are.counted ∙ ap (λ (m : MarksOf). set_of.len m.marked) (sym (marks_still on));
    below = λ q set'. are.below q (was q set' (eq_by_cmp prefix_cmp p q) refl);
  } where
    was : (q : IpPrefix) → flag_of new q ≡ true → (t : Bool) → eq_by_cmp prefix_cmp p q ≡ t → flag_of old q ≡ true
    was q set' true tied = subst (λ (r : IpPrefix). flag_of old r ≡ true) (tied_same p q tied) on
    was q set' false apart = set_before old new p true set q set' apart

  pub are_marked : (count : ℕ) (low : Option IpPrefix) (l : IpPrefix) → flag_of old p ≡ false → tree.IsOrdered prefix_cmp new → AreMarks old count low
      → IfSome low (λ k. prefix_cmp k l ≡ Less → ⊥) → (prefix_cmp p l ≡ Less → ⊥) → AreMarks new (count + 1) (Some l)
  are_marked count low l off ordered are first second = record {
    ordered = ordered;
    counted = counts count off are.counted;
    below = λ q on. at q on (eq_by_cmp prefix_cmp p q) refl;
  } where
    under : (q k : IpPrefix) (o : Ordering) → prefix_cmp k l ≡ o → (prefix_cmp k l ≡ Less → ⊥) → (prefix_cmp q k ≡ Less → ⊥) → prefix_cmp q l ≡ Less → ⊥
    under q k Less is k_not q_not less = k_not is
    under q k Equal is k_not q_not less = q_not (subst (λ (r : IpPrefix). prefix_cmp q r ≡ Less) (sym (prefix_exact k l is)) less)
    under q k Greater is k_not q_not less = q_not (prefix_total.trans q l k less (prefix_total.antisymm l k ∙ ap ordering_reverse is))

    old_below : (q : IpPrefix) (o : Option IpPrefix) → IfSome o (λ k. prefix_cmp k l ≡ Less → ⊥) → MatchOption o ⊥ (λ k. prefix_cmp q k ≡ Less → ⊥) → prefix_cmp q l ≡ Less → ⊥
    old_below q None above below less = below
    old_below q (Some k) above below less = under q k (prefix_cmp k l) refl above below less

    at : (q : IpPrefix) → flag_of new q ≡ true → (t : Bool) → eq_by_cmp prefix_cmp p q ≡ t → prefix_cmp q l ≡ Less → ⊥
    at q on true tied less = second (subst (λ (r : IpPrefix). prefix_cmp r l ≡ Less) (sym (tied_same p q tied)) less)
    at q on false apart less = old_below q low first (are.below q (set_before old new p true set q on apart)) less

-- a marked prefix more is counted among the opened ones
pub room_for : (flags : Flags) (p : IpPrefix) → IsSome (tree.get prefix_cmp flags p) → flag_of flags p ≡ false → set_of.len (marked_in flags) + 1 ≤ length flags.entries
room_for flags p there off =
    let within = len_within (keys_of flags.entries) (set_of.insert (marked_in flags) p)
    (λ q inside. any_key q flags.entries ∙ at q (eq_by_cmp prefix_cmp q p) refl (sym (set_of.contains-insert prefix_total (marked_in flags) p q) ∙ inside)) in
    let more : set_of.len (set_of.insert (marked_in flags) p) ≡ set_of.len (marked_in flags) + 1 =
    set_of.len-insert prefix_total (marked_in flags) p ∙ ap (λ (t : Bool). cond t (set_of.len (marked_in flags)) (set_of.len (marked_in flags) + 1)) (marked_is flags p ∙ off) in
    let keys = length_keys flags.entries in
    omega arith where
      at : (q : IpPrefix) (t : Bool) → eq_by_cmp prefix_cmp q p ≡ t → (eq_by_cmp prefix_cmp q p || set_of.contains (marked_in flags) q) ≡ true → is_some (tree.get prefix_cmp flags q) ≡ true
      at q true tied inside = subst (λ (r : IpPrefix). IsSome (tree.get prefix_cmp flags r)) (sym (tied_same q p tied)) there
      at q false apart inside = there_of (tree.get prefix_cmp flags q) (sym (marked_is flags q) ∙ sym (ap (λ (t : Bool). t || set_of.contains (marked_in flags) q) apart) ∙ inside) where
        there_of : (o : Option Bool) → unwrap_or o false ≡ true → is_some o ≡ true
        there_of None on = absurd (false≢true on)
        there_of (Some b) on = refl

-- the least marked prefix is taken
module _ (old new : Flags) (p : IpPrefix) (set : IsSet old new p false) (there : IsSome (tree.get prefix_cmp old p)) where
  pub takes : marks_in new ≡ record (marks_in old) { marked = set_of.remove (marked_in old) p }
  takes = λ i. record { opened = opened_same old new p false set there i; marked = marked_less old new p false set refl i }

  pub are_taken : (count : ℕ) (low : Option IpPrefix) → tree.IsOrdered prefix_cmp new → AreMarks old count low → set_of.contains (marked_in old) p ≡ true
      → ((q : IpPrefix) → set_of.contains (marked_in old) q ≡ true → prefix_cmp q p ≡ Less → ⊥) → AreMarks new (count - 1) (Some p)
  are_taken count low ordered are on least = record {
    ordered = ordered;
    counted = ap (λ (n : ℕ). n - 1) are.counted
        ∙ sym (ap (λ (t : Bool). cond t (set_of.len (marked_in old) - 1) (set_of.len (marked_in old))) on)
        ∙ sym (ap (λ (s : set_of.FinSet prefix_cmp). set_of.len s) (marked_less old new p false set refl) ∙ set_of.len-remove prefix_total (marked_in old) p);
    below = λ q up. least q (marked_is old q ∙ set_before old new p false set q up (not_cleared old new p false set refl q up));
  }

pub none_from : (flags : Flags) (p : IpPrefix) → is_some (tree.get prefix_cmp flags p) ≡ false → tree.get prefix_cmp flags p ≡ None
none_from flags p none = at (tree.get prefix_cmp flags p) none where
  at : (o : Option Bool) → is_some o ≡ false → o ≡ None
  at None none = refl
  at (Some b) none = absurd (false≢true (sym none))

pub there_of_marked : (flags : Flags) (p : IpPrefix) → set_of.contains (marked_in flags) p ≡ true → IsSome (tree.get prefix_cmp flags p)
there_of_marked flags p on = at (tree.get prefix_cmp flags p) (sym (marked_is flags p) ∙ on) where
  at : (o : Option Bool) → unwrap_or o false ≡ true → IsSome o
  at None on = absurd (false≢true on)
  at (Some b) on = refl

pub one_marked : (flags : Flags) (p : IpPrefix) → set_of.contains (marked_in flags) p ≡ true → 1 ≤ set_of.len (marked_in flags)
one_marked flags p on = at (set_of.len (marked_in flags)) refl where
  at : (n : ℕ) → set_of.len (marked_in flags) ≡ n → 1 ≤ n
  at zero none =
      absurd (false≢true (sym (set_of.contains-empty prefix_cmp p)
      ∙ sym (ap (λ (s : set_of.FinSet prefix_cmp). set_of.contains s p) (set_of.empty_of_len (marked_in flags) none)) ∙ on))
  at (suc n) some = omega arith
