-- The connections whose routers are connected.
use Rattle.std.proofs.Common.{◌≡◌, ◌≢◌, ℕ, zero, suc, ◌+◌, ◌<◌, Bool, true, false, not, List, [], ◌∷◌, ◌++◌, length, map, get_or, take, ◌||◌, append-nil, Option, Some, None, IfSome, refl, sym, ap, subst, ◌∙◌, arith, add-one}
use Rattle.std.specs.List.{All, AllPairs}
use Rattle.std.proofs.lemmas.Bool.{eq-eqb, both_ways}
use Rattle.std.proofs.lemmas.List.{map-append}
use Rattle.std.proofs.lemmas.List.Kept.{AllPairs-cons}
use Rattle.rcp_model.specs.Sessions.{SessionState, Phase, OpenSent, Claiming, OpenConfirm, Established, Closed, seat_of, slot_in}
use Rattle.feed_meaning.specs.Platform.{Connections}
use Rattle.feed_meaning.specs.SessionTurns.{is_slot, is_free}
use Rattle.platform_core.specs.declared.sessions.Connection.{Connection}
use Rattle.platform_core.specs.Open.{connection_in, sessions_in, AreApart, AreWithin, cons_slot, established_in}
use Rattle.platform_core.proofs.SeatLemmas.{seat_at}

abbrev pub numbers_established : Connections → List ℕ
numbers_established es = map (λ (e : ℕ × ℕ). e.0) (established_in es)

abbrev pub slots_established : Connections → List ℕ
slots_established es = map (λ (e : ℕ × ℕ). e.1) (established_in es)

-- ---- one more connection

established-push : (es : Connections) (e : ℕ × SessionState) → established_in (es ++ e ∷ []) ≡ established_in es ++ cons_slot e.0 (slot_in e.1.phase) []
established-push [] e = refl
established-push (x ∷ es) e = at_slot (slot_in x.1.phase) (established-push es e) where
  at_slot : (o : Option ℕ) → established_in (es ++ e ∷ []) ≡ established_in es ++ cons_slot e.0 (slot_in e.1.phase) []
      → cons_slot x.0 o (established_in (es ++ e ∷ [])) ≡ cons_slot x.0 o (established_in es) ++ cons_slot e.0 (slot_in e.1.phase) []
  at_slot None rest = rest
  at_slot (Some slot) rest = ap (λ (l : List (ℕ × ℕ)). (x.0, slot) ∷ l) rest

next_session : (cs : List Connection) (i : ℕ) (c : Connection) → i < length cs → c ≡ get_or cs i c → sessions_in (take (suc i) cs) ≡ sessions_in (take i cs) ++ connection_in c ∷ []
next_session [] i c within is = absurd (omega arith)
next_session (x ∷ cs) zero c within is = ap (λ (d : Connection). connection_in d ∷ []) (sym is)
next_session (x ∷ cs) (suc i) c within is = ap (λ (l : Connections). connection_in x ∷ l) (next_session cs i c (omega arith) is)

pub found_more : (cs : List Connection) (i : ℕ) (c : Connection) (slot : ℕ) → i < length cs → c ≡ get_or cs i c → Some slot ≡ slot_in c.session.state.phase
    → (established_in (sessions_in (take (suc i) cs)) ≡ established_in (sessions_in (take i cs)) ++ (c.number, slot) ∷ [])
found_more cs i c slot within is connected =
    ap established_in (next_session cs i c within is) ∙ established-push (sessions_in (take i cs)) (connection_in c)
    ∙ ap (λ (o : Option ℕ). established_in (sessions_in (take i cs)) ++ cons_slot c.number o []) (sym connected)

pub found_same : (cs : List Connection) (i : ℕ) (c : Connection) → i < length cs → c ≡ get_or cs i c → None ≡ slot_in c.session.state.phase
    → (established_in (sessions_in (take (i + 1) cs)) ≡ established_in (sessions_in (take i cs)))
found_same cs i c within is connected =
    rw add-one (ap established_in (next_session cs i c within is) ∙ established-push (sessions_in (take i cs)) (connection_in c)
    ∙ ap (λ (o : Option ℕ). established_in (sessions_in (take i cs)) ++ cons_slot c.number o []) (sym connected)
    ∙ append-nil (established_in (sessions_in (take i cs))))

pub numbers_more : (cs : List Connection) (i : ℕ) (c : Connection) (slot : ℕ) (numbers more : List ℕ) → i < length cs → c ≡ get_or cs i c → Some slot ≡ slot_in c.session.state.phase
    → numbers ≡ numbers_established (sessions_in (take i cs)) → more ≡ numbers ++ c.number ∷ [] → more ≡ numbers_established (sessions_in (take (i + 1) cs))
numbers_more cs i c slot numbers more within is connected before pushed =
    rw add-one (pushed ∙ ap (λ (l : List ℕ). l ++ c.number ∷ []) before ∙ sym (map-append (λ (e : ℕ × ℕ). e.0) (established_in (sessions_in (take i cs))) ((c.number, slot) ∷ []))
    ∙ ap (map (λ (e : ℕ × ℕ). e.0)) (sym (found_more cs i c slot within is connected)))

pub slots_more : (cs : List Connection) (i : ℕ) (c : Connection) (slot : ℕ) (slots more : List ℕ) → i < length cs → c ≡ get_or cs i c → Some slot ≡ slot_in c.session.state.phase
    → slots ≡ slots_established (sessions_in (take i cs)) → more ≡ slots ++ slot ∷ [] → more ≡ slots_established (sessions_in (take (i + 1) cs))
slots_more cs i c slot slots more within is connected before pushed =
    rw add-one (pushed ∙ ap (λ (l : List ℕ). l ++ slot ∷ []) before ∙ sym (map-append (λ (e : ℕ × ℕ). e.1) (established_in (sessions_in (take i cs))) ((c.number, slot) ∷ []))
    ∙ ap (map (λ (e : ℕ × ℕ). e.1)) (sym (found_more cs i c slot within is connected)))

-- ---- their slots are those of routers, and each is there once

slot_seat : (phase : Phase) (slot : ℕ) → slot_in phase ≡ Some slot → seat_of phase ≡ Some slot
slot_seat (Established peering) slot is = is
slot_seat (OpenSent since) slot is = absurd cc
slot_seat (Claiming since s terms) slot is = absurd cc
slot_seat (OpenConfirm peering) slot is = absurd cc
slot_seat Closed slot is = absurd cc

cons_all : (P : ℕ → Type 0) (x : ℕ) (xs : List ℕ) → P x → All P xs → All P (x ∷ xs)
cons_all P x xs h all zero d less = h
cons_all P x xs h all (suc k) d less = all k d (omega arith)

pub slots_within : (members : ℕ) (es : Connections) → AreWithin members es → All (λ slot. slot < members) (slots_established es)
slots_within members [] within = λ k d less. absurd (omega arith)
slots_within members (e ∷ es) within = at_slot (slot_in e.1.phase) refl (slots_within members es within.1) where
  at_slot : (o : Option ℕ) → slot_in e.1.phase ≡ o → All (λ slot. slot < members) (slots_established es) → All (λ slot. slot < members) (map (λ (x : ℕ × ℕ). x.1) (cons_slot e.0 o (established_in es)))
  at_slot None is rest = rest
  at_slot (Some slot) is rest =
      cons_all (λ s. s < members) slot (slots_established es) (let h : IfSome (Some slot) (λ s. s < members) = subst (λ (o : Option ℕ). IfSome o (λ s. s < members)) (slot_seat e.1.phase slot is) within.0 in h)
      rest

or-parts : (a b : Bool) → not (a || b) ≡ true → (a ≡ false) × (not b ≡ true)
or-parts true b h = absurd cc
or-parts false b h = (refl, h)

others : (slot : ℕ) (es : Connections) → is_free es slot ≡ true → All (λ s. slot ≢ s) (slots_established es)
others slot [] free = λ k d less. absurd (omega arith)
others slot (e ∷ es) free = let parts = or-parts (is_slot slot (seat_at e)) _ free in at_slot parts.0 (slot_in e.1.phase) refl (others slot es parts.1) where
  at_slot : is_slot slot (seat_at e) ≡ false → (o : Option ℕ) → slot_in e.1.phase ≡ o → All (λ s. slot ≢ s) (slots_established es) → All (λ s. slot ≢ s) (map (λ (x : ℕ × ℕ). x.1) (cons_slot e.0 o (established_in es)))
  at_slot other None is rest = rest
  at_slot other (Some s) is rest =
      cons_all (λ t. slot ≢ t) s (slots_established es)
      (λ same. both_ways (is_slot slot (seat_at e)) other (ap (is_slot slot) (slot_seat e.1.phase s is) ∙ eq-eqb s slot (sym same)))
      rest

pub slots_apart : (es : Connections) → AreApart es → AllPairs (λ a b. a ≢ b) (slots_established es)
slots_apart [] apart = λ i j d less within. absurd (omega arith)
slots_apart (e ∷ es) apart = at_slot (slot_in e.1.phase) refl (slots_apart es apart.1) where
  at_slot : (o : Option ℕ) → slot_in e.1.phase ≡ o → AllPairs (λ a b. a ≢ b) (slots_established es) → AllPairs (λ a b. a ≢ b) (map (λ (x : ℕ × ℕ). x.1) (cons_slot e.0 o (established_in es)))
  at_slot None is rest = rest
  at_slot (Some slot) is rest =
      AllPairs-cons (λ a b. a ≢ b) slot (slots_established es)
      (others slot es (apart.0 slot (ap (is_slot slot) (slot_seat e.1.phase slot is) ∙ eq-eqb slot slot refl)))
      rest
