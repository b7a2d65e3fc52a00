-- What writes come to, one after another.
use Rattle.std.proofs.Common.{◌≡◌, ℕ, ◌+◌, ◌-◌, ◌<◌, ◌≤◌, true, false, ◌⊎◌, inl, inr, List, [], ◌∷◌, ◌++◌, length, take, drop, filter, map, slice_index_or, refl, sym, ap, ◌∙◌, subst, append_assoc, append-nil, arith, length-append, length-drop, Bool, cond}
use Rattle.std.specs.List.{concat}
use Rattle.std.proofs.lemmas.List.Folds.{concat-append}
use Rattle.std.proofs.lemmas.List.Elements.{filter-append}
use Rattle.std.proofs.lemmas.List.{take-append-le, take-append-drop}
use Rattle.std.proofs.Math.Seq.{take-add}
use Rattle.outside.specs.Told.{behind, behind-append, behind-nil, Rose, raised}
use Rattle.outbox.specs.Wires.{WireOf, HasRisen, HasNotFallen, Wrote}
use Rattle.outbox.specs.Outs.{OutOf, Writes, WritesSome, after_message, front, IsStarted, is_update, updates_in, counted_on, HasMore}

-- ---- counts

pub not_fallen : (a b c : ℕ) → HasNotFallen a b → HasNotFallen b c → HasNotFallen a c
not_fallen a b c first second = omega arith

pub rose-then : (a b c : ℕ) → Rose a b → HasNotFallen b c → Rose a c
rose-then a b c rose second = omega arith

pub then-rose : (a b c : ℕ) → HasNotFallen a b → Rose b c → Rose a c
then-rose a b c first rose = omega arith

pub risen-same : (w : WireOf) → HasRisen w w
risen-same w = record { faults = omega arith; ends = omega arith; empties = omega arith }

pub risen-then : (x y z : WireOf) → HasRisen x y → HasRisen y z → HasRisen x z
risen-then x y z first second = record {
  faults = not_fallen x.faults y.faults z.faults first.faults second.faults;
  ends = not_fallen x.ends y.ends z.ends first.ends second.ends;
  empties = not_fallen x.empties y.empties z.empties first.empties second.empties;
}

more-then : (a b c m n : ℕ) → HasMore a m b → HasMore b n c → HasMore a (m + n) c
more-then a b c m n first second = omega arith

pub updates-append : (xs ys : List (List ℕ)) → updates_in (xs ++ ys) ≡ updates_in xs + updates_in ys
updates-append xs ys = ap length (filter-append is_update xs ys) ∙ length-append (filter is_update xs) (filter is_update ys)

-- ---- one after another

pub wrote-nothing : (w : WireOf) → Wrote [] w w
wrote-nothing w = record { taken = sym (behind-nil w.taken); given = refl; closed = refl; ends = refl; risen = risen-same w }

pub wrote-then : (o1 o2 : List ℕ) (x y z : WireOf) → Wrote o1 x y → Wrote o2 y z → Wrote (o1 ++ o2) x z
wrote-then o1 o2 x y z first second = record {
  taken = second.taken ∙ ap (λ t. behind t o2) first.taken ∙ behind-append x.taken o1 o2;
  given = second.given ∙ first.given;
  closed = second.closed ∙ first.closed;
  ends = second.ends ∙ first.ends;
  risen = risen-then x y z first.risen second.risen;
}

pub writes-then : (g1 g2 : List (List ℕ)) (o1 o2 : List ℕ) (a b c : OutOf) (x y z : WireOf) → Writes g1 o1 a b x y → Writes g2 o2 b c y z → Writes (g1 ++ g2) (o1 ++ o2) a c x z
writes-then g1 g2 o1 o2 a b c x y z first second = record {
  messages = first.messages ∙ ap (λ (ms : List (List ℕ)). g1 ++ ms) second.messages ∙ sym (append_assoc g1 g2 c.waiting);
  wrote = wrote-then o1 o2 x y z first.wrote second.wrote;
  stream =
      sym (append_assoc (front a) o1 o2)
      ∙ ap (λ (xs : List ℕ). xs ++ o2) first.stream
      ∙ append_assoc (concat g1) (front b) o2
      ∙ ap (λ (xs : List ℕ). concat g1 ++ xs) second.stream
      ∙ sym (append_assoc (concat g1) (concat g2) (front c))
      ∙ ap (λ (xs : List ℕ). xs ++ front c) (sym (concat-append g1 g2));
  updates =
      let P : ℕ → Type 0 = λ n. HasMore a.updates n c.updates in
      subst P (sym (updates-append g1 g2)) (more-then a.updates b.updates c.updates (updates_in g1) (updates_in g2) first.updates second.updates);
  to_last_update = omega (arith, first.to_last_update, second.to_last_update, length-append g1 g2);
  failed = λ now. failed-then (second.failed now);
} where
  failed-then : (b.failed ≡ true) ⊎ Rose y.faults z.faults → (a.failed ≡ true) ⊎ Rose x.faults z.faults
  failed-then (inr rose) = inr (then-rose x.faults y.faults z.faults first.wrote.risen.faults rose)
  failed-then (inl was) = at_first (first.failed was) where
    at_first : (a.failed ≡ true) ⊎ Rose x.faults y.faults → (a.failed ≡ true) ⊎ Rose x.faults z.faults
    at_first (inl before) = inl before
    at_first (inr rose) = inr (rose-then x.faults y.faults z.faults rose second.wrote.risen.faults)

pub some-then : (a b c : OutOf) (x y z : WireOf) → WritesSome a b x y → WritesSome b c y z → WritesSome a c x z
some-then a b c x y z first second =
    (first.0 ++ second.0, first.1 ++ second.1, writes-then first.0 second.0 first.1 second.1 a b c x y z first.2 second.2)

-- what is done since a later time is done since an earlier one
pub done-since : {A B : Type 0} {x y : WireOf} {empties : ℕ} → HasRisen x y → A ⊎ (B ⊎ Rose y.empties empties) → A ⊎ (B ⊎ Rose x.empties empties)
done-since risen (inl none) = inl none
done-since risen (inr (inl failed)) = inr (inl failed)
done-since {x = x} {y = y} {empties = empties} risen (inr (inr rose)) = inr (inr (then-rose x.empties y.empties empties risen.empties rose))

pub some-risen : (a b : OutOf) (x y : WireOf) → WritesSome a b x y → HasRisen x y
some-risen a b x y writes = writes.2.wrote.risen

-- ---- one step

-- the link took these octets of the message in front, or none
pub writes-front : (out new : OutOf) (octets : List ℕ) (before after : WireOf) → Wrote octets before after
    → new.waiting ≡ out.waiting → front out ++ octets ≡ front new → new.updates ≡ out.updates → new.to_last_update ≡ out.to_last_update
    → (new.failed ≡ true → (out.failed ≡ true) ⊎ Rose before.faults after.faults)
    → WritesSome out new before after
writes-front out new octets before after wrote waiting stream updates last failed = (
  [],
  octets,
  record {
    messages = sym waiting;
    wrote = wrote;
    stream = stream;
    updates = ap (λ n. counted_on n 0) updates;
    to_last_update = omega (arith, last);
    failed = failed;
  },
)

pub writes-none : (out : OutOf) (before after : WireOf) → Wrote [] before after → WritesSome out out before after
writes-none out before after wrote = writes-front out out [] before after wrote refl (append-nil (front out)) refl refl (λ failed. inl failed)

length_none : (xs : List ℕ) → length xs ≡ 0 → xs ≡ []
length_none [] none = refl
length_none (x ∷ xs) none = absurd (omega arith)

pub first-is : {X : Type 0} (f : X → List ℕ) (ms : List X) (v : X) → 0 < length ms → v ≡ slice_index_or ms 0 v → map f ms ≡ f v ∷ map f (drop 1 ms)
first-is f [] v some is = absurd (omega arith)
first-is f (m ∷ ms) v some is = ap (λ x. f x ∷ map f ms) (sym is)

-- the message in front has no octet left
pub writes-message : (out : OutOf) (message : List ℕ) (others : List (List ℕ)) (w : WireOf) → out.waiting ≡ message ∷ others → out.written ≤ length message → drop out.written message ≡ []
    → WritesSome out (after_message out) w w
writes-message out message others w is within none = (
  take 1 out.waiting,
  [],
  record {
    messages = sym (take-append-drop 1 out.waiting);
    wrote = wrote-nothing w;
    stream = append-nil (front out)
        ∙ ap (λ (ms : List (List ℕ)). take out.written (concat ms)) is
        ∙ take-append-le out.written message (concat others) within
        ∙ sym (append-nil (take out.written message))
        ∙ ap (λ (xs : List ℕ). take out.written message ++ xs) (sym none)
        ∙ take-append-drop out.written message
        ∙ sym (append-nil message)
        ∙ sym (append-nil (message ++ []))
        ∙ ap (λ (ms : List (List ℕ)). concat (take 1 ms) ++ []) (sym is);
    updates = omega arith;
    to_last_update = ap (λ (ms : List (List ℕ)). out.to_last_update - length (take 1 ms)) (sym is);
    failed = λ failed. inl failed;
  },
)

-- so many octets more of the message in front are written
pub front-more : (waiting : List (List ℕ)) (message : List ℕ) (others : List (List ℕ)) (written count : ℕ) → waiting ≡ message ∷ others → count ≤ length (drop written message) → written ≤ length message
    → take written (concat waiting) ++ take count (drop written message) ≡ take (written + count) (concat waiting)
front-more waiting message others written count is within started =
    ap (λ (ms : List (List ℕ)). take written (concat ms) ++ take count (drop written message)) is
    ∙ ap (λ (xs : List ℕ). xs ++ take count (drop written message)) (take-append-le written message (concat others) started)
    ∙ sym (take-add written count message)
    ∙ sym (take-append-le (written + count) message (concat others) (omega (arith, length-drop written message)))
    ∙ ap (λ (ms : List (List ℕ)). take (written + count) (concat ms)) (sym is)

-- ---- the steps of the code, over the vectors that wait

module _ {X : Type 0} (octets_of : X → List ℕ) (ms : List X) where
  abbrev pub seen : ℕ → ℕ → ℕ → Bool → OutOf
  seen written last updates failed = record { waiting = map octets_of ms; written = written; to_last_update = last; updates = updates; failed = failed }

  module _ (v : X) (some : 0 < length ms) (is : v ≡ slice_index_or ms 0 v) (written : ℕ) (started : IsStarted written (map octets_of ms)) where
    begun : written ≤ length (octets_of v)
    begun = subst (IsStarted written) (first-is octets_of ms v some is) started

    pub took : (out : OutOf) (rest : List ℕ) (count last updates : ℕ) (failed : Bool) (before after : WireOf) → seen written last updates failed ≡ out
        → rest ≡ drop written (octets_of v) → count ≤ length rest → Wrote (take count rest) before after
        → WritesSome out (seen (written + count) last updates failed) before after
    took out rest count last updates failed before after seen_is is_rest within wrote =
        subst (λ (o : OutOf). WritesSome o (seen (written + count) last updates failed) before after) seen_is
        (writes-front (seen written last updates failed) (seen (written + count) last updates failed) (take count rest) before after wrote refl
        (ap (λ (xs : List ℕ). take written (concat (map octets_of ms)) ++ take count xs) is_rest
        ∙ front-more (map octets_of ms) (octets_of v) (map octets_of (drop 1 ms)) written count (first-is octets_of ms v some is) (omega (arith, ap length is_rest)) begun)
        refl refl (λ failed. inl failed))

    pub took_all : (out new : OutOf) (rest : List ℕ) (last updates : ℕ) (failed : Bool) (w : WireOf) → seen written last updates failed ≡ out → new ≡ after_message out
        → rest ≡ drop written (octets_of v) → length rest ≡ 0
        → WritesSome out new w w
    took_all out new rest last updates failed w seen_is new_is is_rest none =
        subst (λ (o : OutOf). WritesSome out o w w) (sym new_is)
        (writes-message out (octets_of v) (map octets_of (drop 1 ms)) w
        (ap (λ (o : OutOf). o.waiting) (sym seen_is) ∙ first-is octets_of ms v some is) (omega (arith, begun, ap (λ (o : OutOf). o.written) seen_is))
        (ap (λ n. drop n (octets_of v)) (ap (λ (o : OutOf). o.written) (sym seen_is)) ∙ sym is_rest ∙ length_none rest none))

-- a write that failed changes nothing of the stream
pub took_none : (out seen new : OutOf) (before after : WireOf) → seen ≡ out → new ≡ record seen { failed = true } → Wrote [] before after → Rose before.faults after.faults → WritesSome out new before after
took_none out seen new before after seen_is new_is wrote rose =
    subst (λ (o : OutOf). WritesSome o new before after) seen_is
    (subst (λ (o : OutOf). WritesSome seen o before after) (sym new_is)
    (writes-front seen (record seen { failed = true }) [] before after wrote refl (append-nil (front seen)) refl refl (λ failed. inr rose)))

-- a count that is raised or not doesn't fall
pub raised-or-not : (b : Bool) (old new : ℕ) → new ≡ cond b (raised old) old → HasNotFallen old new
raised-or-not true old new is = omega arith
raised-or-not false old new is = omega arith

-- what is written of the first message is the same, whatever waits after it
pub front-pushed : (written : ℕ) (waiting more : List (List ℕ)) → IsStarted written waiting → take written (concat (waiting ++ more)) ≡ take written (concat waiting)
front-pushed written [] more none = rw (none) refl
front-pushed written (m ∷ ms) more started =
    ap (take written) (concat-append (m ∷ ms) more)
    ∙ take-append-le written (concat (m ∷ ms)) (concat more) (omega (arith, length-append m (concat ms)))
