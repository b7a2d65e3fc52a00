-- What a session keeps and reports, whatever comes: octets, and events in form.
use Rattle.std.proofs.Common.{◌≡◌, ℕ, ◌<◌, Bool, true, false, inl, inr, List, [], ◌∷◌, ◌++◌, length, Option, Some, None, refl, sym, subst, drop_at}
use Rattle.std.specs.List.{concat, AllByRecursion}
use Rattle.std.proofs.lemmas.Bool.{cases_Bool, cond_both}
use Rattle.std.proofs.lemmas.List.Elements.{All-append, All-drop, All-nil, All-same}
use Rattle.rcp_model.specs.Messages.{FaultOf, message_size, messages_in, rest_of}
use Rattle.rcp_base.specs.Roster.{RosterOf}
use Rattle.rcp_base.specs.Octets.{AreOctets}
use Rattle.rcp_model.specs.Telling.{BringsOctets, IsTold}
use Rattle.rcp_model.specs.Sessions.{Phase, OpenSent, Claiming, OpenConfirm, Established, Closed, is_closed, reads, SessionState, Doing, nothing, Step, step, handle, handle_all, fault_in_front, with_fault, with_rest, course_of, tick, Input, Octets, Seat, Moment, End, Answer, moment_in, stepped, seat_taken, claim_answered, shut, answer}
use Rattle.rcp_base.proofs.CutLemmas.{cut-All, cut-whole}
use Rattle.rcp_model.proofs.ReadingLemmas.{IsSize-message_size}
use Rattle.rcp_model.proofs.SessionLemmas.{answer-closed, answer-octets, answer-seat, answer-moment, answer-end}
use Rattle.rcp_model.proofs.CourseLemmas.{seated_peering, goes-seated, goes-octets, goes-moment, goes-end}

-- ---- octets that are kept

all-concat : (pieces : List (List ℕ)) → AllByRecursion AreOctets pieces → AreOctets (concat pieces)
all-concat [] each = All-nil (λ o. o < 256)
all-concat (piece ∷ pieces) each = All-append (λ o. o < 256) piece (concat pieces) each.0 (all-concat pieces each.1)

rest-octets : (octets : List ℕ) → AreOctets octets → AreOctets (rest_of octets)
rest-octets octets all =
    let front = concat (messages_in octets) in
    let both : AreOctets (front ++ rest_of octets) = All-same (λ o. o < 256) (front ++ rest_of octets) octets (sym (cut-whole message_size IsSize-message_size octets)) all in
    subst AreOctets (drop_at front (rest_of octets) (length front) refl) (All-drop (λ o. o < 256) (length front) (front ++ rest_of octets) both)

kept-fault : (rest : List ℕ) (found : Option FaultOf) (phase : Phase) (does : Doing) → AreOctets rest → AreOctets (with_fault rest found phase does).kept
kept-fault rest None phase does all = all
kept-fault rest (Some why) phase does all = All-nil (λ o. o < 256)

kept-rest : (rest : List ℕ) (phase : Phase) (does : Doing) (unread : List (List ℕ)) → AreOctets rest → AllByRecursion AreOctets unread → AreOctets (with_rest rest phase does unread).kept
kept-rest rest (OpenSent since) does unread all each = kept-fault rest (fault_in_front rest) (OpenSent since) does all
kept-rest rest (Claiming since slot terms) does unread all each = All-append (λ o. o < 256) (concat unread) rest (all-concat unread each) all
kept-rest rest (OpenConfirm peering) does unread all each = kept-fault rest (fault_in_front rest) (OpenConfirm peering) does all
kept-rest rest (Established peering) does unread all each = kept-fault rest (fault_in_front rest) (Established peering) does all
kept-rest rest Closed does unread all each = All-nil (λ o. o < 256)

kept-stepped : (now : ℕ) (kept : List ℕ) (taken : Step) → AreOctets kept → AreOctets (stepped now kept taken).after.kept
kept-stepped now kept taken all = cond_both (is_closed taken.phase) [] kept AreOctets (λ _. All-nil (λ o. o < 256)) (λ _. all)

-- an answer keeps octets, and reports what is in form
record IsGood (as_number : ℕ) (a : Answer) : Type 0 where
  kept : AreOctets a.after.kept
  told : AllByRecursion (IsTold as_number) a.does.events

module _ (roster : RosterOf) (now : ℕ) where
  unread-octets : (messages : List (List ℕ)) (phase : Phase) → AllByRecursion AreOctets messages → AllByRecursion AreOctets (handle_all roster now messages phase).unread
  unfolding handle_all
  unread-octets [] phase each = tt
  unread-octets (message ∷ messages) phase each =
      elim (cases_Bool (reads phase)) [
        | inl r ↦ rw (r) (unread-octets messages (handle roster now message phase).phase each.1)
        | inr r ↦ rw (r) each
      ]

  kept-course : (octets : List ℕ) (phase : Phase) → AreOctets octets → AreOctets (course_of roster now octets phase).kept
  unfolding course_of
  kept-course octets phase all =
      let handled = handle_all roster now (messages_in octets) phase in
      kept-rest (rest_of octets) handled.phase handled.does handled.unread (rest-octets octets all) (unread-octets (messages_in octets) phase (cut-All message_size IsSize-message_size (λ o. o < 256) octets all))

  good-idle : (octets : List ℕ) (phase : Phase) → AreOctets octets → IsGood roster.as_number (stepped now octets (step phase nothing))
  good-idle octets phase all = record { kept = kept-stepped now octets (step phase nothing) all; told = tt }

  good-claimed : (free : Bool) (octets : List ℕ) (phase : Phase) → AreOctets octets → IsGood roster.as_number (claim_answered roster free now octets phase)
  good-claimed true octets (Claiming since slot terms) all =
      let peering = seated_peering slot terms now in
      record { kept = kept-course octets (OpenConfirm peering) all; told = (goes-seated roster now octets peering all).told }
  good-claimed false octets (Claiming since slot terms) all = record { kept = kept-stepped now octets seat_taken all; told = tt }
  good-claimed true octets (OpenSent since) all = good-idle octets (OpenSent since) all
  good-claimed false octets (OpenSent since) all = good-idle octets (OpenSent since) all
  good-claimed true octets (OpenConfirm peering) all = good-idle octets (OpenConfirm peering) all
  good-claimed false octets (OpenConfirm peering) all = good-idle octets (OpenConfirm peering) all
  good-claimed true octets (Established peering) all = good-idle octets (Established peering) all
  good-claimed false octets (Established peering) all = good-idle octets (Established peering) all
  good-claimed true octets Closed all = good-idle octets Closed all
  good-claimed false octets Closed all = good-idle octets Closed all

module _ (roster : RosterOf) where
  good-open : (input : Input) (session : SessionState) → is_closed session.phase ≡ false → AreOctets session.kept → BringsOctets input → IsGood roster.as_number (answer roster input session)
  good-open (Octets piece now) session open_ kept brings = record {
    kept = subst (λ (a : Answer). AreOctets a.after.kept) (sym (answer-octets roster piece now session open_))
        (kept-course roster (moment_in session now) (session.kept ++ piece) session.phase (All-append (λ o. o < 256) session.kept piece kept brings));
    told = (goes-octets roster piece now session open_ kept brings).told;
  }
  good-open (Seat free now) session open_ kept brings =
      let good = good-claimed roster (moment_in session now) free session.kept session.phase kept in
      let same = sym (answer-seat roster free now session open_) in
      record {
        kept = subst (λ (a : Answer). AreOctets a.after.kept) same good.kept;
        told = subst (λ (a : Answer). AllByRecursion (IsTold roster.as_number) a.does.events) same good.told;
      }
  good-open (Moment now) session open_ kept brings = record {
    kept = subst (λ (a : Answer). AreOctets a.after.kept) (sym (answer-moment roster now session open_)) (kept-stepped (moment_in session now) session.kept (tick (moment_in session now) session.phase) kept);
    told = (goes-moment roster now session open_).told;
  }
  good-open End session open_ kept brings = record {
    kept = subst (λ (a : Answer). AreOctets a.after.kept) (sym (answer-end roster session open_)) (kept-stepped session.latest session.kept shut kept);
    told = (goes-end roster session open_).told;
  }

  good-answer : (input : Input) (session : SessionState) → AreOctets session.kept → BringsOctets input → IsGood roster.as_number (answer roster input session)
  good-answer input session kept brings =
      elim (cases_Bool (is_closed session.phase)) [
        | inl closed ↦ subst (IsGood roster.as_number) (sym (answer-closed roster input session closed)) record { kept = kept; told = tt }
        | inr open_ ↦ good-open input session open_ kept brings
      ]

  pub kept-octets : (input : Input) (session : SessionState) → AreOctets session.kept → BringsOctets input → AreOctets (answer roster input session).after.kept
  kept-octets input session kept brings = (good-answer input session kept brings).kept

  pub told-answer : (input : Input) (session : SessionState) → AreOctets session.kept → BringsOctets input → AllByRecursion (IsTold roster.as_number) (answer roster input session).does.events
  told-answer input session kept brings = (good-answer input session kept brings).told
