-- What is sent for the work, by connection.
use Rattle.std.proofs.Common.{◌≡◌, ℕ, zero, suc, ◌<◌, List, Vec, [], ◌∷◌, ◌++◌, length, map, get_or, Option, Some, None, refl, sym, ap, ◌∙◌, arith, append_assoc, append-nil}
use Rattle.std.specs.Global.{Global}
use Rattle.std.proofs.lemmas.List.{map-append, length-map}
use Rattle.rcp_base.specs.IpPrefix.{IpPrefix}
use Rattle.rcp_base.specs.Feed.{OutRecord}
use Rattle.rcp_model.specs.Sessions.{slot_in}
use Rattle.feed_meaning.specs.OutRecords.{messages_to}
use Rattle.feed_meaning.specs.Platform.{Connections}
use Rattle.platform_laws.specs.Work.{updates_to, updates_to_all}
use Rattle.rcs_shards.specs.Servers.{ServerOf, sent}
use Rattle.platform_core.specs.Open.{cons_slot, established_in}
use Rattle.platform_core.specs.Working.{records_to}
use Rattle.platform_core.proofs.EstablishedLemmas.{numbers_established, slots_established}

-- what each connection is sent, by its number
pub sent_to_all : (prefixes : List IpPrefix) (before now : ServerOf) (sessions : Connections)
    → records_to (numbers_established sessions) (sent prefixes before now (slots_established sessions)) ≡ updates_to_all before.roster prefixes before.shards now.shards sessions
sent_to_all prefixes before now [] = refl
sent_to_all prefixes before now (e ∷ sessions) = at_slot (slot_in e.1.phase) (sent_to_all prefixes before now sessions) where
  at_slot : (o : Option ℕ) → records_to (numbers_established sessions) (sent prefixes before now (slots_established sessions)) ≡ updates_to_all before.roster prefixes before.shards now.shards sessions
      → records_to (map (λ (x : ℕ × ℕ). x.0) (cons_slot e.0 o (established_in sessions))) (sent prefixes before now (map (λ (x : ℕ × ℕ). x.1) (cons_slot e.0 o (established_in sessions))))
      ≡ messages_to e.0 (updates_to before.roster prefixes before.shards now.shards o) ++ updates_to_all before.roster prefixes before.shards now.shards sessions
  at_slot None rest = rest
  at_slot (Some slot) rest = ap (λ (l : List OutRecord). messages_to e.0 (updates_to before.roster prefixes before.shards now.shards (Some slot)) ++ l) rest

pub records-push : (numbers : List ℕ) (lists : List (List (List ℕ))) (messages : List (List ℕ)) (n : ℕ) → length lists < length numbers → n ≡ get_or numbers (length lists) n
    → records_to numbers (lists ++ messages ∷ []) ≡ records_to numbers lists ++ messages_to n messages
records-push [] lists messages n less is = absurd (omega arith)
records-push (m ∷ numbers) [] messages n less is = ap (λ l. l ++ records_to numbers []) (ap (λ k. messages_to k messages) (sym is)) ∙ none numbers where
  none : (ns : List ℕ) → messages_to n messages ++ records_to ns [] ≡ messages_to n messages
  none [] = append-nil (messages_to n messages)
  none (k ∷ ns) = append-nil (messages_to n messages)
records-push (m ∷ numbers) (ms ∷ lists) messages n less is =
    ap (λ l. messages_to m ms ++ l) (records-push numbers lists messages n (omega arith) is) ∙ sym (append_assoc (messages_to m ms) (records_to numbers lists) (messages_to n messages))

pub same_length : (prefixes : List IpPrefix) (before now : ServerOf) (sessions : Connections) (numbers : List ℕ) (lists : List (List (List ℕ))) → numbers ≡ numbers_established sessions
    → lists ≡ sent prefixes before now (slots_established sessions) → length lists ≡ length numbers
same_length prefixes before now sessions numbers lists numbers_are lists_are = ap length lists_are ∙ both (established_in sessions) ∙ sym (ap length numbers_are) where
  both : (es : List (ℕ × ℕ)) → length (sent prefixes before now (map (λ (x : ℕ × ℕ). x.1) es)) ≡ length (map (λ (x : ℕ × ℕ). x.0) es)
  both [] = refl
  both (e ∷ es) = let rest = both es in omega (arith, rest)

-- ---- what is put out so far

abbrev pub Messages : Type 0
Messages = Vec (Vec ℕ Global) Global

abbrev pub octets_in : Messages → List (List ℕ)
octets_in messages = map (λ m. m.items) messages.items

at_least : (numbers : List ℕ) (i : ℕ) → i < length numbers → get_or numbers i 0 ≡ get_or numbers i (get_or numbers i 0)
at_least [] i less = absurd (omega arith)
at_least (n ∷ numbers) zero less = refl
at_least (n ∷ numbers) (suc i) less = at_least numbers i (omega arith)

pub put_more : (numbers : List ℕ) (done : List Messages) (messages : Messages) (place : ℕ) (start before after : List OutRecord) → place ≡ length done → length done < length numbers
    → before ≡ start ++ records_to numbers (map octets_in done) → after ≡ before ++ messages_to (get_or numbers place 0) (octets_in messages)
    → after ≡ start ++ records_to numbers (map octets_in (done ++ messages ∷ []))
put_more numbers done messages place start before after place_is less before_is after_is =
    let len : length (map octets_in done) ≡ length done = length-map done octets_in in
    let at : place ≡ length (map octets_in done) = place_is ∙ sym len in
    let inside : length (map octets_in done) < length numbers = omega (arith, len, less) in
    after_is ∙ ap (λ (l : List OutRecord). l ++ messages_to (get_or numbers place 0) (octets_in messages)) before_is
    ∙ append_assoc start (records_to numbers (map octets_in done)) (messages_to (get_or numbers place 0) (octets_in messages))
    ∙ ap (λ (n : ℕ). start ++ (records_to numbers (map octets_in done) ++ messages_to (get_or numbers n 0) (octets_in messages))) at
    ∙ ap (λ (l : List OutRecord). start ++ l) (sym (records-push numbers (map octets_in done) (octets_in messages) (get_or numbers (length (map octets_in done)) 0) inside (at_least numbers (length (map octets_in done)) inside)))
    ∙ ap (λ (l : List (List (List ℕ))). start ++ records_to numbers l) (sym (map-append octets_in done (messages ∷ [])))

pub put_nothing : (numbers : List ℕ) (start : List OutRecord) → start ≡ start ++ records_to numbers []
put_nothing [] start = sym (append-nil start)
put_nothing (n ∷ numbers) start = sym (append-nil start)

pub sent_by : (prefixes : List IpPrefix) (before now : ServerOf) (sessions : Connections) (numbers slots : List ℕ) (lists : List Messages) → numbers ≡ numbers_established sessions → slots ≡ slots_established sessions
    → map octets_in lists ≡ sent prefixes before now slots → records_to numbers (map octets_in lists) ≡ updates_to_all before.roster prefixes before.shards now.shards sessions
sent_by prefixes before now sessions numbers slots lists numbers_are slots_are lists_are =
    (λ i. records_to (numbers_are i) ((lists_are ∙ ap (sent prefixes before now) slots_are) i)) ∙ sent_to_all prefixes before now sessions
