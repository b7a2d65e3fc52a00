-- What `feed` does: the front of a piece goes after what is held, up to a header, and then up to its message.
use Rattle.std.proofs.Common.{◌≡◌, ℕ, ◌+◌, ◌-◌, ◌<◌, ◌≤◌, ◌⊎◌, inl, inr, ⊎_elim, true, false, List, [], ◌++◌, length, take, drop, min, Some, None, sym, ap, ◌∙◌, subst, arith, length-append, length-drop, length-take-le, append_assoc, append-nil}
use Rattle.std.proofs.Math.Seq.{take-add}
use Rattle.std.proofs.lemmas.Bool.{false≢true}
use Rattle.std.proofs.lemmas.List.{nil_from_length}
use Rattle.rcp_model.specs.Messages.{FaultOf, header_fault, length_field}
use Rattle.rcp_model.proofs.ReadingLemmas.{header_fault-append, length_field-append, faultless_length}
use Rattle.bgp_msg.specs.Cutting.{is_waiting, HoldsOne, Feeds}
use Rattle.bgp_msg.proofs.Holding.{compared, is_waiting-faulty, is_waiting-part, is_waiting-whole, waits-long}

-- the octets of a piece up to a header
pub record Begins (old piece : List ℕ) (count : ℕ) (new : List ℕ) : Type 0 where
  pub one : HoldsOne old
  pub count_is : count ≡ min (19 - length old) (length piece)
  pub new_is : new ≡ old ++ take count piece

module _ (old piece : List ℕ) (count : ℕ) (new : List ℕ) (b : Begins old piece count new) where
  within : count ≤ length piece
  within = omega (arith, b.count_is)

  long_is : length new ≡ length old + count
  long_is = ap length b.new_is ∙ omega (arith, length-append old (take count piece), length-take-le count piece within)

  -- nothing is taken where a header is held
  none_of : 19 ≤ length old → count ≡ 0
  none_of long = omega (arith, b.count_is)

  same : 19 ≤ length old → new ≡ old
  same long = b.new_is ∙ ap (λ (n : ℕ). old ++ take n piece) (none_of long) ∙ append-nil old

  taken_where : is_waiting old ≡ true → count ≡ 0
  taken_where waits = none_of (waits-long old waits)

  -- nothing is taken of a piece that has something only where a header is held
  empty_or : count ≡ 0 → (piece ≡ []) ⊎ (19 ≤ length old)
  empty_or nothing =
      ⊎_elim (λ (short : length old < 19). let none : length piece ≡ 0 = omega (arith, b.count_is) in inl (nil_from_length piece none))
      (λ (long : 19 ≤ length old). inr long) (compared 19 (length old))

  -- ---- less than a header

  pub Feeds-short : length new < 19 → Feeds old piece count new
  Feeds-short short = record {
    within = within;
    taken = b.new_is;
    all = λ _. omega (arith, b.count_is, long_is);
    none = taken_where;
    some = λ nothing. ⊎_elim (λ e. inl e) (λ (long : 19 ≤ length old). absurd (omega (arith, long_is))) (empty_or nothing);
  }

  pub HoldsOne-short : length new < 19 → HoldsOne new
  HoldsOne-short short long = absurd (omega arith)

  -- ---- a faulty header

  module _ (long : 19 ≤ length new) (f : FaultOf) (e : header_fault new ≡ Some f) where
    pub Feeds-faulty : Feeds old piece count new
    Feeds-faulty = record {
      within = within;
      taken = b.new_is;
      all = λ waits_not. absurd (false≢true (sym waits_not ∙ is_waiting-faulty new long f e));
      none = taken_where;
      some = λ nothing. ⊎_elim (λ none. inl none) (λ (held : 19 ≤ length old). inr (is_waiting-faulty old held f (ap header_fault (sym (same held)) ∙ e))) (empty_or nothing);
    }

    pub HoldsOne-faulty : HoldsOne new
    HoldsOne-faulty more =
        ⊎_elim (λ (short : length old < 19). absurd (omega (arith, long_is, b.count_is)))
        (λ (held : 19 ≤ length old). subst HoldsOne (sym (same held)) b.one more) (compared 19 (length old))

  -- ---- a faultless one

  module _ (long : 19 ≤ length new) (faultless : header_fault new ≡ None) (more : ℕ) (all : List ℕ)
      (more_is : more ≡ min (length_field new - length new) (length (drop count piece)))
      (all_is : all ≡ new ++ take more (drop count piece)) where
    more_within : more ≤ length (drop count piece)
    more_within = omega (arith, more_is)

    all_long : length all ≡ length new + more
    all_long = ap length all_is ∙ omega (arith, length-append new (take more (drop count piece)), length-take-le more (drop count piece) more_within)

    all_faultless : header_fault all ≡ None
    all_faultless = ap header_fault all_is ∙ header_fault-append new (take more (drop count piece)) long ∙ faultless

    all_field : length_field all ≡ length_field new
    all_field = ap length_field all_is ∙ length_field-append new (take more (drop count piece)) long

    all_taken : all ≡ old ++ take (count + more) piece
    all_taken =
        all_is
        ∙ ap (λ (xs : List ℕ). xs ++ take more (drop count piece)) b.new_is
        ∙ append_assoc old (take count piece) (take more (drop count piece))
        ∙ ap (λ (xs : List ℕ). old ++ xs) (sym (take-add count more piece))

    old_faultless : 19 ≤ length old → header_fault old ≡ None
    old_faultless held = ap header_fault (sym (same held)) ∙ faultless

    old_field : 19 ≤ length old → length_field old ≡ length_field new
    old_field held = ap length_field (sym (same held))

    -- where all wasn't taken, the message is whole
    rest_taken : is_waiting all ≡ false → count + more ≡ length piece
    rest_taken waits_not =
        ⊎_elim (λ (part : length all < length_field all). omega (arith, all_long, all_field, more_is, length-drop count piece, within, part))
        (λ (whole : length_field all ≤ length all). absurd (false≢true (sym waits_not ∙ is_waiting-whole all (omega (arith, all_long)) all_faultless whole)))
        (compared (length_field all) (length all))

    -- what waited was whole, so that nothing was missing
    nothing_missing : is_waiting old ≡ true → count + more ≡ 0
    nothing_missing waits =
        let held = waits-long old waits in
        ⊎_elim (λ (part : length old < length_field old). absurd (false≢true (sym (is_waiting-part old held (old_faultless held) part) ∙ waits)))
        (λ (whole : length_field old ≤ length old). omega (arith, none_of held, old_field held, ap length (same held), more_is))
        (compared (length_field old) (length old))

    whole_or : count + more ≡ 0 → 19 ≤ length old → (piece ≡ []) ⊎ (is_waiting old ≡ true)
    whole_or nothing held =
        ⊎_elim (λ (part : length old < length_field old).
        let none : length piece ≡ 0 = omega (arith, none_of held, old_field held, ap length (same held), more_is, length-drop count piece, part) in
        inl (nil_from_length piece none))
        (λ (whole : length_field old ≤ length old). inr (is_waiting-whole old held (old_faultless held) whole))
        (compared (length_field old) (length old))

    pub Feeds-on : Feeds old piece (count + more) all
    Feeds-on = record {
      within = omega (arith, within, more_within, length-drop count piece);
      taken = all_taken;
      all = rest_taken;
      none = nothing_missing;
      some = λ nothing. let first : count ≡ 0 = omega arith in ⊎_elim (λ none. inl none) (λ (held : 19 ≤ length old). whole_or nothing held) (empty_or first);
    }

    short_enough : length all ≤ length_field all
    short_enough =
        ⊎_elim (λ (short : length old < 19). omega (arith, faultless_length new faultless, long_is, b.count_is, all_long, all_field, more_is))
        (λ (held : 19 ≤ length old). held_enough held) (compared 19 (length old)) where
          held_enough : 19 ≤ length old → length all ≤ length_field all
          held_enough held =
              ⊎_elim (λ (more_held : length old < 20). omega (arith, faultless_length new faultless, ap length (same held), all_long, all_field, more_is))
              (λ (more_held : 20 ≤ length old). omega (arith, (b.one (omega arith)).1, old_field held, ap length (same held), all_long, all_field, more_is))
              (compared 20 (length old))

    pub HoldsOne-on : HoldsOne all
    HoldsOne-on _ = (all_faultless, short_enough)

    pub all_fits : (count + more) + length old ≤ 4096
    all_fits = omega (arith, short_enough, all_field, faultless_length new faultless, all_long, long_is)

-- ---- the buffer

-- what is copied after the first octets of a buffer
pub begins : (buffer after piece : List ℕ) (len count : ℕ) → length buffer ≡ 4096 → (len ≤ 4096) × HoldsOne (take len buffer)
    → count ≡ min (19 - len) (length piece) → take (len + count) after ≡ take len buffer ++ take count piece
    → Begins (take len buffer) piece count (take (len + count) after)
begins buffer after piece len count room holds is_count filled =
    let long : length (take len buffer) ≡ len = length-take-le len buffer (omega (arith, holds.0)) in
    record { one = holds.1; count_is = omega (arith, long); new_is = filled }

pub record GoesOn (old piece : List ℕ) (count : ℕ) (new : List ℕ) : Type 0 where
  pub feeds : Feeds old piece count new
  pub one : HoldsOne new
  pub fits : count + length old ≤ 4096

-- the second copy, up to the length in the header
pub goes_on : (old piece new rest all : List ℕ) (count goal end more : ℕ) → Begins old piece count new → 19 ≤ length new → header_fault new ≡ None
    → goal ≡ length_field new → end ≡ length new → rest ≡ drop count piece → more ≡ min (goal - end) (length rest) → all ≡ new ++ take more rest
    → GoesOn old piece (count + more) all
goes_on old piece new rest all count goal end more b long faultless goal_is end_is rest_is more_is all_is =
    let m : more ≡ min (length_field new - length new) (length (drop count piece)) = omega (arith, goal_is, end_is, ap length rest_is, more_is) in
    let a : all ≡ new ++ take more (drop count piece) = all_is ∙ ap (λ (xs : List ℕ). new ++ take more xs) rest_is in
    record {
      feeds = Feeds-on old piece count new b long faultless more all m a;
      one = HoldsOne-on old piece count new b long faultless more all m a;
      fits = all_fits old piece count new b long faultless more all m a;
    }
