-- Words stand for one command at most, and a command has one, two or three words.
use Rattle.std.proofs.Common.{◌≡◌, ℕ, suc, ◌≤◌, eqb, true, false, List, [], ◌∷◌, length, map, slice_index, Some, refl, sym, ap, subst, ◌∙◌, inl, inr, arith, codes}
use Rattle.std.specs.Borrow.{Bor}
use Rattle.std.proofs.lemmas.Bool.{eq-eqb, false≢true}
use Rattle.rcp_base.specs.IpPrefix.{IpPrefix}
use Rattle.rcp_words.specs.Words.{number_word, IsBesideThreads, ArePathWords, AreNumberWords, AreThreadsWords, StandForReport, StandFor, StandForNone}
use Rattle.rcp_words.specs.declared.command.Command.{Command}
use Rattle.rcp_words.specs.declared.command.Command.TheVariants as command
use Rattle.rcp_words.specs.declared.command.Report.{Report}
use Rattle.rcp_words.specs.declared.command.Report.TheVariants as report

-- ---- how many words a command has

abbrev count_of : Command → ℕ
count_of command.Replay = 1
count_of (command.Report report.Tables) = 1
count_of (command.Report report.Agree) = 1
count_of (command.Report (report.Path router prefix)) = 3
count_of (command.Make number) = 2
count_of (command.Trial number false) = 2
count_of (command.Trial number true) = 3

word_count : (words : List (List ℕ)) (a : Command) → StandFor words a → length words ≡ count_of a
word_count words command.Replay stand = ap length stand
word_count words (command.Report report.Tables) stand = ap length stand
word_count words (command.Report report.Agree) stand = ap length stand
word_count words (command.Report (report.Path router prefix)) stand = ap length stand.parts
word_count words (command.Make number) stand = ap length stand.parts
word_count words (command.Trial number false) stand = ap length stand.parts
word_count words (command.Trial number true) stand = ap length stand.parts

few_words : (a : Command) → (1 ≤ count_of a) × (count_of a ≤ 3)
few_words command.Replay = (omega arith, omega arith)
few_words (command.Report report.Tables) = (omega arith, omega arith)
few_words (command.Report report.Agree) = (omega arith, omega arith)
few_words (command.Report (report.Path router prefix)) = (omega arith, omega arith)
few_words (command.Make number) = (omega arith, omega arith)
few_words (command.Trial number false) = (omega arith, omega arith)
few_words (command.Trial number true) = (omega arith, omega arith)

as_many : (words : List (Bor (List ℕ))) → length (map (λ (word : Bor (List ℕ)). word.now) words) ≡ length words
as_many [] = refl
as_many (word ∷ words) = ap suc (as_many words)

pub no_command : (words : List (Bor (List ℕ))) → (length words ≡ 1 → ⊥) → (length words ≡ 2 → ⊥) → (length words ≡ 3 → ⊥) → StandForNone (map (λ (word : Bor (List ℕ)). word.now) words)
no_command words not_one not_two not_three = λ a stand.
    let count = sym (as_many words) ∙ word_count (map (λ (word : Bor (List ℕ)). word.now) words) a stand in
    let few = few_words a in
    absurd (omega (arith, count, few.0, few.1, not_one, not_two, not_three))

-- ---- words of which the first letters differ

abbrev first_letter : List (List ℕ) → ℕ
first_letter [] = 0
first_letter (word ∷ words) = slice_index word 0

apart : (words one other : List (List ℕ)) → words ≡ one → words ≡ other → first_letter one ≡ first_letter other
apart words one other a b = ap first_letter (sym a ∙ b)

differ : (m n : ℕ) → m ≡ n → eqb m n ≡ false → ⊥
differ m n e other = false≢true (sym other ∙ eq-eqb m n e)

-- ---- `trial` with `--threads`

beside_same : (first second : List ℕ) (m n : ℕ) → IsBesideThreads first second m → IsBesideThreads first second n → m ≡ n
beside_same first second m n (inl a) (inl b) = cc (a.1, b.1)
beside_same first second m n (inr a) (inr b) = cc (a.1, b.1)
beside_same first second m n (inl a) (inr b) = absurd (no_number m (ap number_word (sym b.0) ∙ a.1)) where
  no_number : (n : ℕ) → number_word (codes "--threads") ≡ Some n → ⊥
  no_number n is = absurd cc
beside_same first second m n (inr a) (inl b) = absurd (no_number m (ap number_word (sym b.0) ∙ a.1)) where
  no_number : (n : ℕ) → number_word (codes "--threads") ≡ Some n → ⊥
  no_number n is = absurd cc

pub no_trial : (first second : List ℕ) → ((n : ℕ) → IsBesideThreads first second n → ⊥) → StandForNone (codes "trial" ∷ first ∷ second ∷ [])
no_trial first second none command.Replay h = absurd (differ 116 114 (ap first_letter h) refl)
no_trial first second none (command.Report report.Tables) h = absurd cc
no_trial first second none (command.Report report.Agree) h = absurd (differ 116 97 (ap first_letter h) refl)
no_trial first second none (command.Report (report.Path router prefix)) h = absurd (differ 116 112 (ap first_letter h.parts) refl)
no_trial first second none (command.Make number) h = absurd (differ 116 109 (ap first_letter h.parts) refl)
no_trial first second none (command.Trial number false) h = absurd cc
no_trial first second none (command.Trial number true) h =
    let one : h.first ≡ first = cc in
    let two : h.second ≡ second = cc in
    none number (subst (λ (w : List ℕ). IsBesideThreads first w number) two (subst (λ (w : List ℕ). IsBesideThreads w h.second number) one h.value))

-- ---- one command at most

path_once : (words : List (List ℕ)) (r s : ℕ) (p q : IpPrefix) → ArePathWords words r p → ArePathWords words s q → report.Path r p ≡ report.Path s q
path_once words r s p q a b =
    let parts : codes "path" ∷ a.first ∷ a.second ∷ [] ≡ codes "path" ∷ b.first ∷ b.second ∷ [] = sym a.parts ∙ b.parts in
    let first : a.first ≡ b.first = cc in
    let second : a.second ≡ b.second = cc in
    let router : r ≡ s = cc (a.address, b.address, first) in
    let prefix : p ≡ q = cc (a.text, b.text, second) in
    λ i. report.Path (router i) (prefix i)

number_once : (name : List ℕ) (words : List (List ℕ)) (m n : ℕ) → AreNumberWords name words m → AreNumberWords name words n → m ≡ n
number_once name words m n a b =
    let parts : name ∷ a.word ∷ [] ≡ name ∷ b.word ∷ [] = sym a.parts ∙ b.parts in
    let word : a.word ≡ b.word = cc in
    cc (a.value, b.value, word)

threads_once : (words : List (List ℕ)) (m n : ℕ) → AreThreadsWords words m → AreThreadsWords words n → m ≡ n
threads_once words m n a b =
    let parts : codes "trial" ∷ a.first ∷ a.second ∷ [] ≡ codes "trial" ∷ b.first ∷ b.second ∷ [] = sym a.parts ∙ b.parts in
    let first : a.first ≡ b.first = cc in
    let second : a.second ≡ b.second = cc in
    beside_same b.first b.second m n
    (subst (λ (w : List ℕ). IsBesideThreads b.first w m) second (subst (λ (w : List ℕ). IsBesideThreads w a.second m) first a.value)) b.value

same_report : (words : List (List ℕ)) (a b : Report) → StandForReport words a → StandForReport words b → a ≡ b
same_report words report.Tables report.Tables h g = refl
same_report words report.Tables report.Agree h g = absurd (differ 116 97 (apart words _ _ h g) refl)
same_report words report.Tables (report.Path s q) h g = absurd (differ 116 112 (apart words _ _ h g.parts) refl)
same_report words report.Agree report.Tables h g = absurd (differ 97 116 (apart words _ _ h g) refl)
same_report words report.Agree report.Agree h g = refl
same_report words report.Agree (report.Path s q) h g = absurd (differ 97 112 (apart words _ _ h g.parts) refl)
same_report words (report.Path r p) report.Tables h g = absurd (differ 112 116 (apart words _ _ h.parts g) refl)
same_report words (report.Path r p) report.Agree h g = absurd (differ 112 97 (apart words _ _ h.parts g) refl)
same_report words (report.Path r p) (report.Path s q) h g = path_once words r s p q h g

no_replay : (words : List (List ℕ)) (a : Report) → words ≡ codes "replay" ∷ [] → StandForReport words a → ⊥
no_replay words report.Tables h g = absurd (differ 114 116 (apart words _ _ h g) refl)
no_replay words report.Agree h g = absurd (differ 114 97 (apart words _ _ h g) refl)
no_replay words (report.Path r p) h g = absurd (differ 114 112 (apart words _ _ h g.parts) refl)

-- two words are no report
no_report : (words : List (List ℕ)) (a : Report) → length words ≡ 2 → StandForReport words a → ⊥
no_report words a two g = let count = word_count words (command.Report a) g in other a count where
  other : (a : Report) → length words ≡ count_of (command.Report a) → ⊥
  other report.Tables count = absurd (omega (arith, two, count))
  other report.Agree count = absurd (omega (arith, two, count))
  other (report.Path r p) count = absurd (omega (arith, two, count))

no_threads : (words : List (List ℕ)) (a : Report) (n : ℕ) → AreThreadsWords words n → StandForReport words a → ⊥
no_threads words report.Tables n h g = absurd (omega (arith, ap length h.parts, ap length g))
no_threads words report.Agree n h g = absurd (omega (arith, ap length h.parts, ap length g))
no_threads words (report.Path r p) n h g = absurd (differ 116 112 (apart words _ _ h.parts g.parts) refl)

same_count : (words : List (List ℕ)) (a b : Command) → StandFor words a → StandFor words b → count_of a ≡ count_of b
same_count words a b h g = sym (word_count words a h) ∙ word_count words b g

pub same_command : (words : List (List ℕ)) (a b : Command) → StandFor words a → StandFor words b → a ≡ b
same_command words command.Replay command.Replay h g = refl
same_command words command.Replay (command.Report b) h g = absurd (no_replay words b h g)
same_command words command.Replay (command.Make n) h g = absurd (differ 114 109 (apart words _ _ h g.parts) refl)
same_command words command.Replay (command.Trial n false) h g = absurd (differ 114 116 (apart words _ _ h g.parts) refl)
same_command words command.Replay (command.Trial n true) h g = absurd (differ 114 116 (apart words _ _ h g.parts) refl)
same_command words (command.Report a) command.Replay h g = absurd (no_replay words a g h)
same_command words (command.Report a) (command.Report b) h g = ap command.Report (same_report words a b h g)
same_command words (command.Report a) (command.Make n) h g = absurd (no_report words a (ap length g.parts) h)
same_command words (command.Report a) (command.Trial n false) h g = absurd (no_report words a (ap length g.parts) h)
same_command words (command.Report a) (command.Trial n true) h g = absurd (no_threads words a n g h)
same_command words (command.Make m) command.Replay h g = absurd (differ 109 114 (apart words _ _ h.parts g) refl)
same_command words (command.Make m) (command.Report b) h g = absurd (no_report words b (ap length h.parts) g)
same_command words (command.Make m) (command.Make n) h g = ap command.Make (number_once (codes "make") words m n h g)
same_command words (command.Make m) (command.Trial n false) h g = absurd (differ 109 116 (apart words _ _ h.parts g.parts) refl)
same_command words (command.Make m) (command.Trial n true) h g = absurd (differ 109 116 (apart words _ _ h.parts g.parts) refl)
same_command words (command.Trial m false) command.Replay h g = absurd (differ 116 114 (apart words _ _ h.parts g) refl)
same_command words (command.Trial m true) command.Replay h g = absurd (differ 116 114 (apart words _ _ h.parts g) refl)
same_command words (command.Trial m false) (command.Report b) h g = absurd (no_report words b (ap length h.parts) g)
same_command words (command.Trial m true) (command.Report b) h g = absurd (no_threads words b m h g)
same_command words (command.Trial m false) (command.Make n) h g = absurd (differ 116 109 (apart words _ _ h.parts g.parts) refl)
same_command words (command.Trial m true) (command.Make n) h g = absurd (differ 116 109 (apart words _ _ h.parts g.parts) refl)
same_command words (command.Trial m false) (command.Trial n false) h g = ap (λ (k : ℕ). command.Trial k false) (number_once (codes "trial") words m n h g)
same_command words (command.Trial m false) (command.Trial n true) h g = absurd (omega (arith, same_count words (command.Trial m false) (command.Trial n true) h g))
same_command words (command.Trial m true) (command.Trial n false) h g = absurd (omega (arith, same_count words (command.Trial m true) (command.Trial n false) h g))
same_command words (command.Trial m true) (command.Trial n true) h g = ap (λ (k : ℕ). command.Trial k true) (threads_once words m n h g)
