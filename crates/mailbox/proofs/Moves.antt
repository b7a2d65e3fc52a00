-- Each of the six steps of a mailbox keeps its rule.
use Rattle.std.proofs.Common.{◌≡◌, ◌≢◌, ◌+◌, ◌<◌, ◌≤◌, ◌==◌, ℕ, zero, suc, true, false, true≢false, List, [], ◌∷◌, ◌++◌, map, length, set, sym, refl, ap, ◌∙◌, subst, ◌⊎◌, inl, inr, ⊎_elim, get_or, append_assoc, arith, eq-eqb, if◌then◌else◌, lt_of_not-le}
use Rattle.std.specs.List.{filter}
use Rattle.std.proofs.lemmas.List.{map-append, append-nil, get_or_default, nil_from_length}
use Rattle.std.proofs.lemmas.List.Elements.{filter-append}
use Rattle.std.proofs.lemmas.Bool.Decides.{nat_tests}
use mathlib.Core.Option.{some, some-ne-none, some-injective}
use lib.ListN.{get_elem?}
use Rattle.crossbeam_queue.specs.Fifo.{Pushes, Pops, Forks, Merges, Learns, Held}
use Rattle.crossbeam_queue.proofs.Lists.{at_set, at_index}
use Rattle.mailbox.specs.declared.rule.View.{View}
use Rattle.mailbox.specs.Boxes.{Mail, WasFull}
use Rattle.mailbox.specs.Mail.{part, nobody, new_sender, new_receiver, more, put_one, take_one, Fits, IsMail, Delivered, Learned}

at_end : {A : Type 0} (l : List A) (a b : A) (j : ℕ) → get_elem? (l ++ a ∷ []) j ≡ some b → (get_elem? l j ≡ some b) ⊎ ((j ≡ length l) × (a ≡ b))
at_end [] a b zero e = inr (refl, some-injective a b e)
at_end [] a b (suc j) e = absurd (some-ne-none b (sym e))
at_end (x ∷ xs) a b zero e = inl e
at_end (x ∷ xs) a b (suc j) e = ⊎_elim (λ h. inl h) (λ h. inr (ap suc h.0, h.1)) (at_end xs a b j e)

-- what stands in two lists put together stands in one of them
at_either : {A : Type 0} (l m : List A) (b : A) (j : ℕ) → get_elem? (l ++ m) j ≡ some b → (get_elem? l j ≡ some b) ⊎ ((i : ℕ) × (get_elem? m i ≡ some b))
at_either [] m b j e = inr (j, e)
at_either (x ∷ xs) m b zero e = inl e
at_either (x ∷ xs) m b (suc j) e = at_either xs m b j e

module _ {M : Type 0} where
  part-append : (k : ℕ) (xs ys : List (ℕ × M)) → part k (xs ++ ys) ≡ part k xs ++ part k ys
  part-append k xs ys =
      ap (map (λ (m : ℕ × M). m.1)) (filter-append (λ (m : ℕ × M). m.0 == k) xs ys)
      ∙ map-append (λ (m : ℕ × M). m.1) (filter (λ (m : ℕ × M). m.0 == k) xs) (filter (λ (m : ℕ × M). m.0 == k) ys)

  part_own : (k : ℕ) (m : M) → part k ((k, m) ∷ []) ≡ m ∷ []
  part_own k m = rw (eq-eqb k k refl) refl

  part_other : (n k : ℕ) (m : M) → n ≢ k → part k ((n, m) ∷ []) ≡ []
  part_other n k m apart = let e : (n == k) ≡ false = grind (arith, nat_tests) in rw e refl

  abbrev AllAt : (ℕ → View M → Type 0) → List (View M) → Type 0
  AllAt F views = (pass : ℕ) (v : View M) → get_elem? views pass ≡ some v → F pass v

  all_set : (F : ℕ → View M → Type 0) (views : List (View M)) (pass : ℕ) (w : View M) → F pass w
      → ((j : ℕ) (u : View M) → j ≢ pass → get_elem? views j ≡ some u → F j u) → AllAt F (set views pass w)
  all_set F views pass w mine others j u e =
      ⊎_elim (λ (x : (j ≡ pass) × (w ≡ u)). subst (λ (y : ℕ × View M). F y.0 y.1) (λ i. (sym x.0 i, x.1 i)) mine)
      (λ (x : (j ≢ pass) × (get_elem? views j ≡ some u)). others j u x.0 x.1) (at_set views pass j w u e)

  -- one message more is one more of its own number alone
  part_more : (k : ℕ) (m : M) (all : List (ℕ × M)) → part k (all ++ (k, m) ∷ []) ≡ part k all ++ m ∷ []
  part_more k m all = part-append k all ((k, m) ∷ []) ∙ ap (λ xs. part k all ++ xs) (part_own k m)

  part_same : (n k : ℕ) (m : M) (all : List (ℕ × M)) → n ≢ k → part k (all ++ (n, m) ∷ []) ≡ part k all
  part_same n k m all apart = part-append k all ((n, m) ∷ []) ∙ (ap (λ xs. part k all ++ xs) (part_other n k m apart) ∙ append-nil (part k all))

  -- where the list grows by a message of another number, what a pass knows stays
  fits_more : (reader : ℕ) (seat : ℕ → ℕ) (taken : List (ℕ × M)) (made : ℕ) (all : List (ℕ × M)) (n : ℕ) (m : M) (j : ℕ) (u : View M) →
      seat n ≢ j → Fits reader seat taken made all j u → Fits reader seat taken made (all ++ (n, m) ∷ []) j u
  fits_more reader seat taken made all n m j u apart old = record {
    reading = old.reading;
    holding = λ place k put e.
        let h = old.holding place k put e in
        let other : n ≢ k = λ same. apart (ap seat same ∙ h.0) in
        (h.0, h.1, h.2 ∙ sym (part_same n k m all other));
  }

  one_of : (k j : ℕ) (put other : List M) (place : ℕ) → get_elem? {A = ℕ × List M} ((k, put) ∷ []) place ≡ some (j, other) → (k ≡ j) × (put ≡ other)
  one_of k j put other zero e =
      let same : (k, put) ≡ (j, other) = some-injective (k, put) (j, other) e in
      (ap (λ (x : ℕ × List M). x.0) same, ap (λ (x : ℕ × List M). x.1) same)
  one_of k j put other (suc place) e = absurd (some-ne-none (j, other) (sym e))

  pub begins : IsMail {M = M} [] (new_receiver ∷ [])
  begins = (
    0,
    (λ k. 0),
    [],
    0,
    (λ k le. refl),
    λ pass v e. only pass v e,
  ) where
    only : (pass : ℕ) (v : View M) → get_elem? (new_receiver ∷ []) pass ≡ some v → Fits 0 (λ k. 0) [] 0 [] pass v
    only zero v e = subst (λ (u : View M). Fits 0 (λ k. 0) [] 0 [] zero u) (some-injective new_receiver v e)
        (record { reading = λ _. (refl, refl, refl); holding = λ place k put e'. absurd (some-ne-none (k, put) (sym e')) })
    only (suc pass) v e = absurd (some-ne-none v (sym e))

  -- the sender's own view after a put
  fits_own : (reader : ℕ) (seat : ℕ → ℕ) (taken : List (ℕ × M)) (made : ℕ) (all : List (ℕ × M)) (k : ℕ) (m : M) (put : List M) (j : ℕ) (u : View M) →
      u.held ≡ (k, put) ∷ [] → Fits reader seat taken made all j u → Fits reader seat taken made (all ++ (k, m) ∷ []) j (put_one u (k, m))
  fits_own reader seat taken made all k m put j u is old =
      let mine = old.holding 0 k put (ap (λ l. get_elem? l 0) is) in
      let now : more m u.held ≡ (k, put ++ m ∷ []) ∷ [] = ap (more m) is in
      record {
        reading = old.reading;
        holding = λ place n other e.
            let same = one_of k n (put ++ m ∷ []) other place (ap (λ l. get_elem? l place) (sym now) ∙ e) in (
              ap seat (sym same.0) ∙ mine.0,
              subst (λ x. x < made) same.0 mine.1,
              sym same.1 ∙ (ap (λ l. l ++ m ∷ []) mine.2 ∙ (sym (part_more k m all) ∙ ap (λ x. part x (all ++ (k, m) ∷ [])) same.0)),
            );
      }

  pub puts : (n pass : ℕ) (v : View M) (k : ℕ) (put : List M) (m : M) → v.held ≡ (k, put) ∷ [] → Pushes IsMail n pass v (k, m) (λ w. w ≡ put_one v (k, m))
  puts n pass v k put m is queued views room h at =
      let reader = h.0 in
      let seat = h.1 in
      let taken = h.2 in
      let made = h.3 in
      let all = taken ++ queued in
      let mine = h.5 pass v at in
      let own = mine.holding 0 k put (ap (λ l. get_elem? l 0) is) in
      let whole : all ++ (k, m) ∷ [] ≡ taken ++ (queued ++ (k, m) ∷ []) = append_assoc taken queued ((k, m) ∷ []) in (
        put_one v (k, m),
        (
          reader,
          seat,
          taken,
          made,
          (λ j le. let apart : k ≢ j = λ same. omega arith in
              ap (part j) (sym whole) ∙ (part_same k j m all apart ∙ h.4 j le)),
          subst (λ l. AllAt (Fits reader seat taken made l) (set views pass (put_one v (k, m)))) whole
              (all_set (Fits reader seat taken made (all ++ (k, m) ∷ [])) views pass (put_one v (k, m))
              (fits_own reader seat taken made all k m put pass v is mine)
              (λ j u other e. fits_more reader seat taken made all k m j u (λ same. other (sym (sym own.0 ∙ same))) (h.5 j u e))),
        ),
        refl,
      )

  -- a message of this number stands in the list, so the number was given out
  given_out : (made : ℕ) (taken queued : List (ℕ × M)) (x : ℕ × M) → ((k : ℕ) → made ≤ k → part k (taken ++ x ∷ queued) ≡ []) → x.0 < made
  given_out made taken queued x unused = lt_of_not-le (λ le. never (part x.0 taken) (part x.0 queued) (there ∙ unused x.0 le)) where
    there : part x.0 taken ++ x.1 ∷ part x.0 queued ≡ part x.0 (taken ++ x ∷ queued)
    there = sym (part-append x.0 taken (x ∷ queued) ∙ ap (λ l. part x.0 taken ++ l) (rw (eq-eqb x.0 x.0 refl) refl))

    never : (front back : List M) → front ++ x.1 ∷ back ≡ [] → ⊥
    never [] back e = absurd cc
    never (y ∷ front) back e = absurd cc

  pub takes : (pass : ℕ) (v : View M) → v.reads ≡ true → Pops IsMail pass v (λ x w. (w ≡ take_one v x) × (x.0 < v.made))
  takes pass v reads x queued views h at =
      let reader = h.0 in
      let seat = h.1 in
      let taken = h.2 in
      let made = h.3 in
      let old = h.5 pass v at in
      let mine = old.reading reads in
      let whole : (taken ++ x ∷ []) ++ queued ≡ taken ++ x ∷ queued = append_assoc taken (x ∷ []) queued in (
        take_one v x,
        (
          reader,
          seat,
          taken ++ x ∷ [],
          made,
          (λ k le. ap (part k) whole ∙ h.4 k le),
          subst (λ l. AllAt (Fits reader seat (taken ++ x ∷ []) made l) (set views pass (take_one v x))) (sym whole)
              (all_set (Fits reader seat (taken ++ x ∷ []) made (taken ++ x ∷ queued)) views pass (take_one v x)
              (record { reading = λ _. (mine.0, ap (λ l. l ++ x ∷ []) mine.1, mine.2); holding = old.holding })
              (λ j u other e.
              let theirs = h.5 j u e in
              record { reading = λ r. absurd (other ((theirs.reading r).0 ∙ sym mine.0)); holding = theirs.holding })),
        ),
        (refl, subst (λ n. x.0 < n) (sym mine.2) (given_out made taken queued x h.4)),
      )

  -- where each number keeps its pass, what a pass that doesn't receive knows stays
  pub enrols : (pass : ℕ) (v : View M) → v.reads ≡ true → Forks IsMail pass v (record v { made = v.made + 1 }) (new_sender v.made)
  enrols pass v reads queued views h at =
      let reader = h.0 in
      let seat = h.1 in
      let taken = h.2 in
      let made = h.3 in
      let all = taken ++ queued in
      let old = h.5 pass v at in
      let mine = old.reading reads in
      let left : View M = record v { made = v.made + 1 } in
      let here = set views pass left in
      let seat' : ℕ → ℕ = λ k. if k == v.made then length here else seat k in
      let same : (k : ℕ) → k < made → seat' k ≡ seat k = λ k lt.
      let apart : (k == v.made) ≡ false = grind (arith, nat_tests, mine.2) in rw apart refl in
      let new : seat' v.made ≡ length here = rw (eq-eqb v.made v.made refl) refl in
      let kept : (j : ℕ) (u : View M) → ((place k : ℕ) (put : List M) → get_elem? u.held place ≡ some (k, put) → (seat k ≡ j) × (k < made) × (put ≡ part k all))
      → (place k : ℕ) (put : List M) → get_elem? u.held place ≡ some (k, put) → (seat' k ≡ j) × (k < made + 1) × (put ≡ part k all) =
      λ j u holding place k put e. let was = holding place k put e in (same k was.1 ∙ was.0, omega (arith, was.1), was.2) in
      let all_here : AllAt (Fits reader seat' taken (made + 1) all) here =
      all_set (Fits reader seat' taken (made + 1) all) views pass left
      (record { reading = λ _. (mine.0, mine.1, ap (λ n. n + 1) mine.2); holding = kept pass v old.holding })
      (λ j u other e.
      let theirs = h.5 j u e in
      record { reading = λ r. absurd (other ((theirs.reading r).0 ∙ sym mine.0)); holding = kept j u theirs.holding }) in (
        reader,
        seat',
        taken,
        made + 1,
        (λ k le. h.4 k (omega arith)),
        λ j u e. ⊎_elim (λ was. all_here j u was)
            (λ is. subst (λ w. Fits reader seat' taken (made + 1) all j w) is.1
            (record {
              reading = λ r. absurd (true≢false (sym r));
              holding = λ place k put e'.
                  let one = one_of v.made k [] put place e' in
                  (ap seat' (sym one.0) ∙ (new ∙ sym is.0), omega (arith, one.0, mine.2), sym one.1 ∙ sym (h.4 k (omega (arith, one.0, mine.2))));
            }))
            (at_end here (new_sender v.made) u j e),
      )

  pub retires : (pass : ℕ) (v : View M) (other : ℕ) (u : View M) → v.reads ≡ true → Merges IsMail pass v other u (record v { held = v.held ++ u.held }) nobody
  retires pass v other u reads queued views h at apart at' =
      let reader = h.0 in
      let seat = h.1 in
      let taken = h.2 in
      let made = h.3 in
      let all = taken ++ queued in
      let old = h.5 pass v at in
      let mine = old.reading reads in
      let both : View M = record v { held = v.held ++ u.held } in
      let here = set views pass both in
      let was : get_elem? views other ≡ some u = ⊎_elim (λ x. absurd (apart x.0)) (λ x. x.1) (at_set views pass other both u at') in
      let theirs = h.5 other u was in
      let seat' : ℕ → ℕ = λ k. if seat k == other then pass else seat k in
      let moved : (k : ℕ) → seat k ≡ other → seat' k ≡ pass = λ k is. rw (eq-eqb (seat k) other is) refl in
      let stays : (k j : ℕ) → seat k ≡ j → j ≢ other → seat' k ≡ j = λ k j is differs.
      let no : (seat k == other) ≡ false = grind (arith, nat_tests) in rw no is in
      let now : AllAt (λ j w. j ≢ other → Fits reader seat' taken made all j w) here =
      all_set (λ j w. j ≢ other → Fits reader seat' taken made all j w) views pass both
      (λ differs. record {
        reading = λ _. mine;
        holding = λ place k put e. ⊎_elim
            (λ own. let b = old.holding place k put own in (stays k pass b.0 differs, b.1, b.2))
            (λ own. let b = theirs.holding own.0 k put own.1 in (moved k b.0, b.1, b.2))
            (at_either v.held u.held (k, put) place e);
      })
      (λ j w elsewhere e differs. let b = h.5 j w e in record {
        reading = b.reading;
        holding = λ place k put e'. let c = b.holding place k put e' in (stays k j c.0 differs, c.1, c.2);
      }) in (
        reader,
        seat',
        taken,
        made,
        h.4,
        all_set (Fits reader seat' taken made all) here other nobody
            (record { reading = λ r. absurd (true≢false (sym r)); holding = λ place k put e. absurd (some-ne-none (k, put) (sym e)) })
            (λ j w differs e. now j w e differs),
      )

  pub learns : (pass : ℕ) (v : View M) → Learns IsMail pass v (Learned v)
  learns pass v queued views h at =
      let mine = h.5 pass v at in (
        h.2,
        record {
          known = λ r. sym (mine.reading r).1;
          mail = λ place k put e. (mine.holding place k put e).2;
        },
      )

  -- what a pass learned, by its list
  pub listed : (v : View M) (queued taken : List (ℕ × M)) → Delivered v queued taken → Mail taken queued v.held
  listed v queued taken learned place d within =
      let l : ℕ × List M = get_or v.held place d in
      learned.mail place l.0 l.1 (at_index v.held place l within (get_or_default v.held place d l within))

  pub was_empty : (v : View M) → v.reads ≡ true → Held 0 (Learned v) → Mail v.taken [] v.held
  was_empty v reads held =
      let here = listed v held.0 held.2.0 held.2.1 in
      subst (λ (p : List (ℕ × M) × List (ℕ × M)). Mail p.0 p.1 v.held) (λ i. (held.2.1.known reads i, nil_from_length held.0 held.1 i)) here

  pub was_full : (v : View M) (room k : ℕ) (put : List M) → v.held ≡ (k, put) ∷ [] → Held room (Learned v) → WasFull room k put
  was_full v room k put is held = (held.0, held.2.0, held.1, held.2.1.mail 0 k put (ap (λ l. get_elem? l 0) is))
