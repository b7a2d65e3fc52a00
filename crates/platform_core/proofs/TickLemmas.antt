-- The time comes to each session, one after another.
use Rattle.std.proofs.Common.{◌≡◌, ℕ, zero, suc, ◌+◌, ◌<◌, ◌≤◌, Bool, true, false, not, eqb, List, [], ◌∷◌, ◌++◌, length, map, set, get_or, take, drop, filter, Option, Some, None, inl, inr, refl, sym, ap, subst, ◌∙◌, arith, add-one, append_assoc, append-nil}
use Rattle.std.specs.List.{flat_map, AllByRecursion}
use Rattle.std.proofs.Math.ListN.{drop_of_length-le}
use Rattle.std.proofs.lemmas.Bool.{cases_Bool, eqb-true, eq-eqb}
use Rattle.std.proofs.lemmas.List.{map-append, take_all}
use Rattle.rcp_base.specs.Feed.{OutRecord}
use Rattle.rcp_base.specs.Roster.{RosterOf}
use Rattle.rcp_base.specs.Maps.{set_at, without}
use Rattle.rcp_model.specs.LinkState.{same_number}
use Rattle.rcp_model.specs.Routes.{RouteFields}
use Rattle.rcp_model.specs.ServerRibs.{RibEvent}
use Rattle.rcp_model.specs.Sessions.{SessionState, Moment, is_closed, answer}
use Rattle.feed_meaning.specs.Platform.{Connections}
use Rattle.feed_meaning.specs.SessionTurns.{Turn as Defined, simple_turn, if_open, turn_output}
use Rattle.session_core.specs.Shown.{doing_of}
use Rattle.platform_laws.specs.Turns.{shard_events}
use Rattle.platform_core.specs.declared.sessions.Connection.{Connection}
use Rattle.platform_core.specs.declared.turns.Turn.{Turn}
use Rattle.platform_core.specs.Open.{connection_in, sessions_in, AreNumbered, numbers_of, IsWhole, AreSeated, AreOpen}
use Rattle.platform_core.specs.Turns.{events_in, output_in, IsInForm, sessions_after, DoAs, TookTurn, timed_in}
use Rattle.platform_core.proofs.ListMaps.{without_nothing, changed_at, changed_all, all_filter}
use Rattle.platform_core.proofs.ConnectionLemmas.{all_set, all_push, above_none, numbers_set, numbered_filter}
use Rattle.platform_core.proofs.SeatLemmas.{same_seated, same_left}
use Rattle.platform_core.proofs.TurnLemmas.{events_are, output_is}

-- ---- lists

flat-append : {X Y : Type 0} (f : X → List Y) (xs ys : List X) → flat_map f (xs ++ ys) ≡ flat_map f xs ++ flat_map f ys
flat-append f [] ys = refl
flat-append f (x ∷ xs) ys = ap (λ l. f x ++ l) (flat-append f xs ys) ∙ sym (append_assoc (f x) (flat_map f xs) (flat_map f ys))

pub flat-push : {X Y : Type 0} (f : X → List Y) (xs : List X) (x : X) → flat_map f (xs ++ x ∷ []) ≡ flat_map f xs ++ f x
flat-push f xs x = flat-append f xs (x ∷ []) ∙ ap (λ l. flat_map f xs ++ l) (append-nil (f x))

take_next : {X : Type 0} (l : List X) (i : ℕ) (x : X) (rest : List X) → drop i l ≡ x ∷ rest → take (suc i) l ≡ take i l ++ x ∷ []
take_next [] zero x rest is = absurd cc
take_next [] (suc i) x rest is = absurd cc
take_next (y ∷ l) zero x rest is = let same : y ≡ x = cc in ap (λ z. z ∷ []) same
take_next (y ∷ l) (suc i) x rest is = ap (λ m. y ∷ m) (take_next l i x rest is)

-- ---- turns of the code beside those of the definitions

module _ (roster : RosterOf) where
  pub does_more : (ts : List Defined) (t : Defined) (taken : List Turn) (x : Turn) → DoAs roster ts taken → x.number ≡ t.number → x.seat ≡ t.seat
      → doing_of x.actions ≡ t.answer.does → IsInForm roster x → DoAs roster (ts ++ t ∷ []) (taken ++ x ∷ [])
  does_more ts t taken x do_as number seat does form = record {
    events = flat-push events_in taken x ∙ ap (λ (l : List (RibEvent RouteFields)). l ++ events_in x) do_as.events
        ∙ ap (λ (l : List (RibEvent RouteFields)). flat_map shard_events ts ++ l) (events_are x t seat does) ∙ sym (flat-push shard_events ts t);
    output = flat-push output_in taken x ∙ ap (λ (l : List OutRecord). l ++ output_in x) do_as.output
        ∙ ap (λ (l : List OutRecord). flat_map turn_output ts ++ l) (output_is x t number does) ∙ sym (flat-push turn_output ts t);
    form = all_push (IsInForm roster) taken x do_as.form form;
  }

  -- one that does nothing may be left out
  pub does_less : (ts : List Defined) (t : Defined) (taken : List Turn) (x : Turn) → DoAs roster ts taken → x.number ≡ t.number → x.seat ≡ t.seat
      → doing_of x.actions ≡ t.answer.does → events_in x ≡ [] → output_in x ≡ [] → DoAs roster (ts ++ t ∷ []) taken
  does_less ts t taken x do_as number seat does no_events no_output = record {
    events = do_as.events ∙ sym (append-nil (flat_map shard_events ts))
        ∙ ap (λ (l : List (RibEvent RouteFields)). flat_map shard_events ts ++ l) (sym no_events ∙ events_are x t seat does) ∙ sym (flat-push shard_events ts t);
    output = do_as.output ∙ sym (append-nil (flat_map turn_output ts))
        ∙ ap (λ (l : List OutRecord). flat_map turn_output ts ++ l) (sym no_output ∙ output_is x t number does) ∙ sym (flat-push turn_output ts t);
    form = do_as.form;
  }

  module _ (now : ℕ) where
    abbrev time_turn : ℕ × SessionState → Defined
    time_turn e = simple_turn roster (Moment now) e

    -- The first sessions had the time, the others are as they were. What these turns do is what those of the definitions do.
    pub record Ticking (i : ℕ) (before : Connections) (xs : List Connection) (turns : List Turn) : Type 0 where
      pub entries : sessions_in xs ≡ map (timed_in roster now) (take i before) ++ drop i before
      pub do_as : DoAs roster (map time_turn (take i before)) turns

    pub ticking_first : (xs : List Connection) (turns : List Turn) → turns ≡ [] → Ticking 0 (sessions_in xs) xs turns
    ticking_first xs turns none = record {
      entries = refl;
      do_as = subst (DoAs roster []) (sym none) (record { events = refl; output = refl; form = tt });
    }

    turned : (xs ys : List Connection) (held : List Bool) (i : ℕ) (c : Connection) (x : Turn) (before : Connections) → i < length xs → c ≡ get_or xs i c
        → sessions_in xs ≡ map (timed_in roster now) (take i before) ++ drop i before → TookTurn roster (time_turn (connection_in c)) xs ys held i x
        → (take (suc i) before ≡ take i before ++ connection_in c ∷ []) × (sessions_in ys ≡ map (timed_in roster now) (take (suc i) before) ++ drop (suc i) before)
    turned xs ys held i c x before within is entries took =
        let now_is : connection_in took.now ≡ timed_in roster now (connection_in c) =
        ap (λ (n : ℕ). let e : ℕ × SessionState = (n, took.now.session.state) in e) took.number ∙ ap (λ (s : SessionState). let e : ℕ × SessionState = (c.number, s) in e) took.after in
        let at = changed_at connection_in (timed_in roster now) i before xs c took.now within is entries now_is in
        (take_next before i (connection_in c) (drop (suc i) before) at.0, ap sessions_in took.connections ∙ at.1)

    pub ticking_pushed : (xs ys : List Connection) (held : List Bool) (i : ℕ) (c : Connection) (x : Turn) (before : Connections) (turns more : List Turn) → i < length xs → c ≡ get_or xs i c
        → Ticking i before xs turns → TookTurn roster (time_turn (connection_in c)) xs ys held i x → more ≡ turns ++ x ∷ [] → Ticking (i + 1) before ys more
    ticking_pushed xs ys held i c x before turns more within is ticking took pushed =
        let at = turned xs ys held i c x before within is ticking.entries took in
        rw add-one (record {
          entries = at.1;
          do_as = subst (λ (l : List Turn). DoAs roster (map time_turn (take (suc i) before)) l) (sym pushed)
              (subst (λ (ts : List Defined). DoAs roster ts (turns ++ x ∷ [])) (sym (ap (map time_turn) at.0 ∙ map-append time_turn (take i before) (connection_in c ∷ [])))
              (does_more (map time_turn (take i before)) (time_turn (connection_in c)) turns x ticking.do_as took.number_is took.seat_is took.does took.form));
        })

    pub ticking_skipped : (xs ys : List Connection) (held : List Bool) (i : ℕ) (c : Connection) (x : Turn) (before : Connections) (turns : List Turn) → i < length xs → c ≡ get_or xs i c
        → Ticking i before xs turns → TookTurn roster (time_turn (connection_in c)) xs ys held i x → events_in x ≡ [] → output_in x ≡ [] → Ticking (i + 1) before ys turns
    ticking_skipped xs ys held i c x before turns within is ticking took no_events no_output =
        let at = turned xs ys held i c x before within is ticking.entries took in
        rw add-one (record {
          entries = at.1;
          do_as = subst (λ (ts : List Defined). DoAs roster ts turns) (sym (ap (map time_turn) at.0 ∙ map-append time_turn (take i before) (connection_in c ∷ [])))
              (does_less (map time_turn (take i before)) (time_turn (connection_in c)) turns x ticking.do_as took.number_is took.seat_is took.does no_events no_output);
        })

    pub ticking_last : (i : ℕ) (before : Connections) (xs : List Connection) (turns : List Turn) → length xs ≤ i → Ticking i before xs turns
        → (sessions_in xs ≡ map (timed_in roster now) before) × DoAs roster (map time_turn before) turns
    ticking_last i before xs turns done ticking =
        let few : length before ≤ i = changed_all connection_in (timed_in roster now) i before xs done ticking.entries in
        let none : drop i before ≡ [] = drop_of_length-le before few in (
          ticking.entries ∙ rw (take_all i before few, none) (append-nil _),
          subst (λ (l : Connections). DoAs roster (map time_turn l) turns) (take_all i before few) ticking.do_as,
        )

    -- ---- the sessions afterwards

    abbrev pub left_open : Connections → Connections
    left_open es = filter (λ (e : ℕ × SessionState). not (is_closed e.1.phase)) es

    stays : (n : ℕ) (s : SessionState) (es fs : Connections) → AllByRecursion (λ m. n < m) (numbers_of es) → sessions_after (map time_turn es) ((n, s) ∷ fs) ≡ (n, s) ∷ sessions_after (map time_turn es) fs
    stays n s [] fs above = refl
    stays n s (e ∷ es) fs above =
        ap (sessions_after (map time_turn es)) (passed (if_open (answer roster (Moment now) e.1).after)) ∙ stays n s es (set_at same_number e.0 (if_open (answer roster (Moment now) e.1).after) fs) above.1 where
          other : eqb e.0 n ≡ false
          other = elim (cases_Bool (eqb e.0 n)) [
            | inl same ↦ let is : e.0 ≡ n = eqb-true e.0 n same in absurd (omega (arith, is, above.0))
            | inr differ ↦ differ
          ]

          passed : (v : Option SessionState) → set_at same_number e.0 v ((n, s) ∷ fs) ≡ (n, s) ∷ set_at same_number e.0 v fs
          passed None = rw other refl
          passed (Some t) = rw other refl

    passed_all : (es : Connections) → AreNumbered (numbers_of es) → sessions_after (map time_turn es) es ≡ left_open (map (timed_in roster now) es)
    passed_all [] numbered = refl
    passed_all (e ∷ es) numbered = by_phase (is_closed (answer roster (Moment now) e.1).after.phase) refl (passed_all es numbered.1) where
      itself : eqb e.0 e.0 ≡ true
      itself = eq-eqb e.0 e.0 refl

      if-closed : (s : SessionState) → is_closed s.phase ≡ true → set_at same_number e.0 (if_open s) (e ∷ es) ≡ without (same_number e.0) es
      if-closed s closed = rw closed (rw itself refl)

      if-still : (s : SessionState) → is_closed s.phase ≡ false → set_at same_number e.0 (if_open s) (e ∷ es) ≡ (e.0, s) ∷ es
      if-still s still = rw still (rw itself refl)

      by_phase : (b : Bool) → is_closed (answer roster (Moment now) e.1).after.phase ≡ b → sessions_after (map time_turn es) es ≡ left_open (map (timed_in roster now) es)
          → sessions_after (map time_turn (e ∷ es)) (e ∷ es) ≡ left_open (map (timed_in roster now) (e ∷ es))
      by_phase true closed rest =
          let kept : left_open (map (timed_in roster now) (e ∷ es)) ≡ left_open (map (timed_in roster now) es) = rw closed refl in
          let first : set_at same_number e.0 (if_open (answer roster (Moment now) e.1).after) (e ∷ es) ≡ es =
          if-closed (answer roster (Moment now) e.1).after closed ∙ without_nothing same_number e.0 es (above_none e.0 es numbered.0) in
          ap (sessions_after (map time_turn es)) first ∙ rest ∙ sym kept
      by_phase false still rest =
          let kept : left_open (map (timed_in roster now) (e ∷ es)) ≡ (e.0, (answer roster (Moment now) e.1).after) ∷ left_open (map (timed_in roster now) es) = rw still refl in
          ap (sessions_after (map time_turn es)) (if-still (answer roster (Moment now) e.1).after still)
          ∙ stays e.0 (answer roster (Moment now) e.1).after es es numbered.0
          ∙ ap (λ (l : Connections). (e.0, (answer roster (Moment now) e.1).after) ∷ l) rest ∙ sym kept

    left_in : (cs : List Connection) → sessions_in (filter (λ (c : Connection). not (is_closed c.session.state.phase)) cs) ≡ left_open (sessions_in cs)
    left_in [] = refl
    left_in (c ∷ cs) =
        elim (cases_Bool (is_closed c.session.state.phase)) [
          | inl e ↦ rw e (left_in cs)
          | inr e ↦ rw e (ap (λ (l : Connections). connection_in c ∷ l) (left_in cs))
        ]

    pub sessions_passed : (cs ds : List Connection) (es : Connections) → AreNumbered (numbers_of es) → sessions_in cs ≡ map (timed_in roster now) es
        → ds ≡ filter (λ (c : Connection). not (is_closed c.session.state.phase)) cs → sessions_in ds ≡ sessions_after (map time_turn es) es
    sessions_passed cs ds es numbered ticked left = ap sessions_in left ∙ left_in cs ∙ ap left_open ticked ∙ sym (passed_all es numbered)

-- ---- what stays so

pub opened_set : (xs ys : List Connection) (held : List Bool) (i : ℕ) (c now : Connection) → AreOpen xs held → i < length xs → c ≡ get_or xs i c → ys ≡ set xs i now → now.number ≡ c.number → IsWhole now
    → (new : List Bool) → AreSeated (sessions_in ys) new → AreOpen ys new
opened_set xs ys held i c now opened within is set_is number whole new seated = record {
  numbered = subst (λ (l : List Connection). AreNumbered (numbers_of (sessions_in l))) (sym set_is) (subst AreNumbered (sym (numbers_set xs i c now within is number)) opened.numbered);
  whole = subst (AllByRecursion IsWhole) (sym set_is) (all_set IsWhole xs i now opened.whole whole);
  seated = seated;
}

pub opened_left : (xs ys : List Connection) (held : List Bool) → AreOpen xs held → ys ≡ filter (λ (c : Connection). not (is_closed c.session.state.phase)) xs → AreOpen ys held
opened_left xs ys held opened left = subst (λ (l : List Connection). AreOpen l held) (sym left) (record {
  numbered = numbered_filter (λ (c : Connection). not (is_closed c.session.state.phase)) xs opened.numbered;
  whole = all_filter IsWhole (λ (c : Connection). not (is_closed c.session.state.phase)) xs opened.whole;
  seated = same_seated (sessions_in xs) (sessions_in (filter (λ (c : Connection). not (is_closed c.session.state.phase)) xs)) held (same_left xs) opened.seated;
})
