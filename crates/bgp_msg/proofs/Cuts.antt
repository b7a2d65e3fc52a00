-- Calls of a cutter, one after another, hand out the messages of the one reading.
use Rattle.std.proofs.Common.{◌≡◌, ◌≢◌, ℕ, ◌<◌, ◌≤◌, inl, inr, ⊎_elim, false, List, [], ◌∷◌, ◌++◌, length, take, drop, Option, Some, None, refl, sym, ap, ◌∙◌, subst, arith, length-append, append_assoc, append-nil}
use Rattle.std.specs.Prelude.{is_some}
use Rattle.std.specs.List.{concat, AllByRecursion}
use Rattle.std.proofs.Math.Seq.{drop-length}
use Rattle.std.proofs.lemmas.Bool.{or_parts}
use Rattle.std.proofs.lemmas.List.{take-append-drop}
use Rattle.std.proofs.lemmas.Option.{none-some}
use Rattle.rcp_model.specs.Messages.{FaultOf, header_fault, message_size, IsMessage, IsRest, IsReading, messages_in, rest_of}
use Rattle.rcp_model.specs.Sessions.{fault_in_front}
use Rattle.rcp_model.proofs.ReadingLemmas.{header_fault-append, message_size-None, IsMessage-seen, IsRest-from, reading_is_one, messages_in-cons, messages_in-concat}
use Rattle.bgp_msg.specs.Cutting.{is_waiting, after_next, Feeds, Call, fed, turned, handed, refused, waited, Run, IsGiven, Reads, IsAtEnd, handed_messages, told_faults}
use Rattle.bgp_msg.proofs.Handing.{unchanged}
use Rattle.bgp_msg.proofs.Holding.{compared, fault_in_front-short, fault_in_front-long}

-- ---- what stays

none-is_some : {A : Type 0} (o : Option A) → is_some o ≡ false → o ≡ None
none-is_some None e = refl
none-is_some (Some a) e = cc

nothing_whole : (held : List ℕ) → is_waiting held ≡ false → message_size held ≡ None
nothing_whole held e = none-is_some (message_size held) (or_parts (is_some (message_size held)) (is_some (fault_in_front held)) e).0

-- a fault that waits is that of a header
pub record IsFaulty (held : List ℕ) (f : FaultOf) : Type 0 where
  pub long : 19 ≤ length held
  pub fault : header_fault held ≡ Some f

IsFaulty-from : (held : List ℕ) (f : FaultOf) → fault_in_front held ≡ Some f → IsFaulty held f
IsFaulty-from held f e =
    ⊎_elim (λ (short : length held < 19). absurd (none-some f (sym (fault_in_front-short held short) ∙ e)))
    (λ (long : 19 ≤ length held). record { long = long; fault = sym (fault_in_front-long held long) ∙ e }) (compared 19 (length held))

module _ (held : List ℕ) (f : FaultOf) (faulty : IsFaulty held f) (more : List ℕ) where
  -- whatever follows it
  still : header_fault (held ++ more) ≡ Some f
  still = header_fault-append held more faulty.long ∙ faulty.fault

  IsRest-faulty : IsRest (held ++ more)
  IsRest-faulty = inr (inl (λ none. none-some f (sym none ∙ still)))

  waits_still : fault_in_front (held ++ more) ≡ Some f
  waits_still = fault_in_front-long (held ++ more) (omega (arith, length-append held more, faulty.long)) ∙ still

nothing_whole-faulty : (held : List ℕ) (f : FaultOf) → IsFaulty held f → message_size held ≡ None
nothing_whole-faulty held f faulty = message_size-None held (inr (inl (λ none. none-some f (sym none ∙ faulty.fault))))

rest_of-rest : (octets : List ℕ) → IsRest octets → rest_of octets ≡ octets
rest_of-rest octets rest =
    let reading : IsReading octets [] octets = record { whole = refl; each = tt; partial = rest } in
    sym (reading_is_one octets [] octets reading).1

-- ---- what is handed out and then what is held and left are the octets that came

pub record Accounts (start : List ℕ) (pieces messages : List (List ℕ)) (faults : List FaultOf) (held : List ℕ) (left : List (List ℕ)) : Type 0 where
  pub octets : start ++ concat pieces ≡ concat messages ++ (held ++ concat left)
  pub each : AllByRecursion IsMessage messages
  pub told : AllByRecursion (λ fault. fault_in_front (rest_of (start ++ concat pieces)) ≡ Some fault) faults

-- the octets that are held and left are the same after a call
again : (start middle : List ℕ) (pieces others messages : List (List ℕ)) (faults : List FaultOf) (held : List ℕ) (left : List (List ℕ))
    → start ++ concat pieces ≡ middle ++ concat others → Accounts middle others messages faults held left → Accounts start pieces messages faults held left
again start middle pieces others messages faults held left same a = record {
  octets = same ∙ a.octets;
  each = a.each;
  told = subst (λ (octets : List ℕ). AllByRecursion (λ fault. fault_in_front (rest_of octets) ≡ Some fault) faults) (sym same) a.told;
}

fed_on : (start piece middle : List ℕ) (pieces others : List (List ℕ)) (count : ℕ) → Feeds start piece count middle → pieces ≡ piece ∷ others
    → start ++ concat pieces ≡ middle ++ concat (drop count piece ∷ others)
fed_on start piece middle pieces others count feeds is =
    ap (λ (ps : List (List ℕ)). start ++ concat ps) is
    ∙ ap (λ (octets : List ℕ). start ++ (octets ++ concat others)) (sym (take-append-drop count piece))
    ∙ ap (λ (octets : List ℕ). start ++ octets) (append_assoc (take count piece) (drop count piece) (concat others))
    ∙ sym (append_assoc start (take count piece) (drop count piece ++ concat others))
    ∙ ap (λ (octets : List ℕ). octets ++ (drop count piece ++ concat others)) (sym feeds.taken)

IsMessage-handed : (start message : List ℕ) → message_size start ≡ Some (length message) → start ≡ message → IsMessage message
IsMessage-handed start message size is =
    IsMessage-seen message [] (ap message_size (append-nil message ∙ sym is) ∙ size)

emptied : (start message middle : List ℕ) → message_size start ≡ Some (length message) → start ≡ message → middle ≡ after_next start → middle ≡ []
emptied start message middle size is next =
    next ∙ rw (size, after_next) (ap (drop (length message)) is ∙ drop-length message)

handed_on : (start message middle : List ℕ) (pieces messages : List (List ℕ)) (faults : List FaultOf) (held : List ℕ) (left : List (List ℕ))
    → message_size start ≡ Some (length message) → start ≡ message → middle ≡ [] → Accounts middle pieces messages faults held left
    → Accounts start pieces (message ∷ messages) faults held left
handed_on start message middle pieces messages faults held left size is nothing a =
    let whole = IsMessage-handed start message size is in
    let later : middle ++ concat pieces ≡ concat pieces = ap (λ (m : List ℕ). m ++ concat pieces) nothing in
    let rest : rest_of (middle ++ concat pieces) ≡ rest_of (start ++ concat pieces) =
    ap rest_of later ∙ sym (messages_in-cons message (concat pieces) whole).1 ∙ ap (λ (m : List ℕ). rest_of (m ++ concat pieces)) (sym is) in
    record {
      octets = ap (λ (m : List ℕ). m ++ concat pieces) is
          ∙ ap (λ (octets : List ℕ). message ++ octets) (sym later ∙ a.octets)
          ∙ sym (append_assoc message (concat messages) (held ++ concat left));
      each = (whole, a.each);
      told = subst (λ (octets : List ℕ). AllByRecursion (λ fault. fault_in_front octets ≡ Some fault) faults) rest a.told;
    }

pub Accounts-run : (start : List ℕ) (pieces : List (List ℕ)) (calls : List Call) (held : List ℕ) (left : List (List ℕ))
    → Run start calls held → IsGiven pieces calls left → Accounts start pieces (handed_messages calls) (told_faults calls) held left
Accounts-run start pieces [] held left run given = record {
  octets = ap (λ (o : List ℕ). o ++ concat pieces) (sym run) ∙ ap (λ (ps : List (List ℕ)). held ++ concat ps) (sym given);
  each = tt;
  told = tt;
}
Accounts-run start pieces (fed piece count ∷ calls) held left run given =
    again start run.0 pieces (drop count piece ∷ given.0) (handed_messages calls) (told_faults calls) held left
    (fed_on start piece run.0 pieces given.0 count run.1 given.1)
    (Accounts-run run.0 (drop count piece ∷ given.0) calls held left run.2 given.2)
Accounts-run start pieces (turned ∷ calls) held left run given =
    again start run.0 pieces given.0 (handed_messages calls) (told_faults calls) held left
    (ap (λ (ps : List (List ℕ)). start ++ concat ps) given.1 ∙ ap (λ (o : List ℕ). o ++ concat given.0) (sym run.1))
    (Accounts-run run.0 given.0 calls held left run.2 given.2)
Accounts-run start pieces (handed message ∷ calls) held left run given =
    handed_on start message run.0 pieces (handed_messages calls) (told_faults calls) held left run.1.0 run.1.1
    (emptied start message run.0 run.1.0 run.1.1 run.1.2)
    (Accounts-run run.0 pieces calls held left run.2 given)
Accounts-run start pieces (refused fault ∷ calls) held left run given =
    let faulty = IsFaulty-from start fault run.1.0 in
    let same : run.0 ≡ start = run.1.1 ∙ sym (unchanged start (nothing_whole-faulty start fault faulty)) in
    let a = again start run.0 pieces pieces (handed_messages calls) (told_faults calls) held left (ap (λ (o : List ℕ). o ++ concat pieces) (sym same)) (Accounts-run run.0 pieces calls held left run.2 given) in
    record {
      octets = a.octets;
      each = a.each;
      told = (ap fault_in_front (rest_of-rest (start ++ concat pieces) (IsRest-faulty start fault faulty (concat pieces))) ∙ waits_still start fault faulty (concat pieces), a.told);
    }
Accounts-run start pieces (waited ∷ calls) held left run given =
    let same : run.0 ≡ start = run.1.1 ∙ sym (unchanged start (nothing_whole start run.1.0)) in
    again start run.0 pieces pieces (handed_messages calls) (told_faults calls) held left (ap (λ (o : List ℕ). o ++ concat pieces) (sym same)) (Accounts-run run.0 pieces calls held left run.2 given)

-- ---- at the end

pub record Comes (pieces : List (List ℕ)) (calls : List Call) (held : List ℕ) : Type 0 where
  pub messages : handed_messages calls ≡ messages_in (concat pieces)
  pub fault : fault_in_front held ≡ fault_in_front (rest_of (concat pieces))

module _ (pieces : List (List ℕ)) (calls : List Call) (held : List ℕ) (left : List (List ℕ)) (reads : Reads pieces calls held left) where
  accounts : Accounts [] pieces (handed_messages calls) (told_faults calls) held left
  accounts = Accounts-run [] pieces calls held left reads.run reads.given

  pub told_all : AllByRecursion (λ fault. fault_in_front (rest_of (concat pieces)) ≡ Some fault) (told_faults calls)
  told_all = accounts.told

  pub messages_so_far : messages_in (concat pieces) ≡ handed_messages calls ++ messages_in (held ++ concat left)
  messages_so_far = ap messages_in accounts.octets ∙ (messages_in-concat (handed_messages calls) (held ++ concat left) accounts.each).0

  from_rest : IsRest (held ++ concat left) → fault_in_front held ≡ fault_in_front (held ++ concat left) → Comes pieces calls held
  from_rest rest same =
      let reading : IsReading (concat pieces) (handed_messages calls) (held ++ concat left) = record { whole = accounts.octets; each = accounts.each; partial = rest } in
      let one = reading_is_one (concat pieces) (handed_messages calls) (held ++ concat left) reading in
      record { messages = one.0; fault = same ∙ ap fault_in_front one.1 }

  at_fault : (o : Option FaultOf) → fault_in_front held ≡ o → o ≢ None → Comes pieces calls held
  at_fault None e some = absurd (some refl)
  at_fault (Some f) e some =
      let faulty = IsFaulty-from held f e in
      from_rest (IsRest-faulty held f faulty (concat left)) (e ∙ sym (waits_still held f faulty (concat left)))

  at_last : concat left ≡ [] → is_waiting held ≡ false → Comes pieces calls held
  at_last none waits_not =
      let all : held ++ concat left ≡ held = ap (λ (o : List ℕ). held ++ o) none ∙ append-nil held in
      from_rest (subst IsRest (sym all) (IsRest-from held (nothing_whole held waits_not))) (ap fault_in_front (sym all))

  pub comes : IsAtEnd held left → Comes pieces calls held
  comes end = ⊎_elim (λ (some : fault_in_front held ≢ None). at_fault (fault_in_front held) refl some) (λ last. at_last last.0 last.1) end

pub same_for_both : (pieces left others left_others : List (List ℕ)) (calls calls_others : List Call) (held held_others : List ℕ)
    → concat pieces ≡ concat others → Reads pieces calls held left → IsAtEnd held left
    → Reads others calls_others held_others left_others → IsAtEnd held_others left_others
    → (handed_messages calls ≡ handed_messages calls_others) × (fault_in_front held ≡ fault_in_front held_others)
same_for_both pieces left others left_others calls calls_others held held_others same reads end reads_others end_others =
    let one = comes pieces calls held left reads end in
    let other = comes others calls_others held_others left_others reads_others end_others in (
      one.messages ∙ ap messages_in same ∙ sym other.messages,
      one.fault ∙ ap (λ (octets : List ℕ). fault_in_front (rest_of octets)) same ∙ sym other.fault,
    )
