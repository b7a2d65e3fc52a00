-- Lists of what came and of what was to be written.
use Rattle.std.proofs.Common.{◌≡◌, ℕ, ◌+◌, Bool, true, List, [], ◌∷◌, ◌++◌, map, refl, sym, ap, ◌∙◌, append_assoc, arith}
use Rattle.std.specs.Prelude.{flat_map}
use Rattle.std.specs.List.{AllByRecursion}
use Rattle.rcp_base.specs.Roster.{RosterOf}
use Rattle.rcp_model.specs.Routes.{OfferFields}
use Rattle.rcp_model.specs.Sessions.{SessionState, Doing, Answer, Input, Octets, Seat, Moment, End, then_also, answer, answers}
use Rattle.rcp_model.proofs.SessionLemmas.{nothing-then, then-nothing, then-assoc}
use Rattle.session_core.specs.Counts.{handled_at}
use Rattle.session_times.specs.Times.{IsTimely, IsCourseOf}
use Rattle.session_serve.specs.Deeds.{Piece, Said, Offered, messages_of, said_in, batches_in, octets_in, handled_by}

pub octets-append : (xs ys : List Input) → octets_in (xs ++ ys) ≡ octets_in xs ++ octets_in ys
octets-append [] ys = refl
octets-append (Octets piece now ∷ xs) ys = ap (λ (o : List ℕ). piece ++ o) (octets-append xs ys) ∙ sym (append_assoc piece (octets_in xs) (octets_in ys))
octets-append (Seat free now ∷ xs) ys = octets-append xs ys
octets-append (Moment now ∷ xs) ys = octets-append xs ys
octets-append (End ∷ xs) ys = octets-append xs ys

pub said-append : (xs ys : List Piece) → said_in (xs ++ ys) ≡ said_in xs ++ said_in ys
said-append [] ys = refl
said-append (Said message ∷ xs) ys = ap (λ (ms : List (List ℕ)). message ∷ ms) (said-append xs ys)
said-append (Offered batch ∷ xs) ys = said-append xs ys

pub batches-append : (xs ys : List Piece) → batches_in (xs ++ ys) ≡ batches_in xs ++ batches_in ys
batches-append [] ys = refl
batches-append (Said message ∷ xs) ys = batches-append xs ys
batches-append (Offered batch ∷ xs) ys = ap (λ (bs : List (List OfferFields)). batch ∷ bs) (batches-append xs ys)

pub said-said : (messages : List (List ℕ)) → said_in (map Said messages) ≡ messages
said-said [] = refl
said-said (message ∷ messages) = ap (λ (ms : List (List ℕ)). message ∷ ms) (said-said messages)

pub said-batches : (messages : List (List ℕ)) → batches_in (map Said messages) ≡ []
said-batches [] = refl
said-batches (message ∷ messages) = said-batches messages

pub said-messages : (messages : List (List ℕ)) → flat_map messages_of (map Said messages) ≡ messages
said-messages [] = refl
said-messages (message ∷ messages) = ap (λ (ms : List (List ℕ)). message ∷ ms) (said-messages messages)

-- ---- answers, one after another

module _ (roster : RosterOf) where
  pub answers-more : (inputs : List Input) (input : Input) (session : SessionState)
      → answers roster (inputs ++ input ∷ []) session
      ≡ record { after = (answer roster input (answers roster inputs session).after).after; does = then_also (answers roster inputs session).does (answer roster input (answers roster inputs session).after).does }
  unfolding answers
  answers-more [] input session =
      let a = answer roster input session in
      ap (λ (d : Doing). let r : Answer = record { after = a.after; does = d } in r) (then-nothing a.does ∙ sym (nothing-then a.does))
  answers-more (first ∷ inputs) input session =
      let a = answer roster first session in
      let rest = answers roster inputs a.after in
      let b = answer roster input rest.after in
      ap (λ (r : Answer). let all : Answer = record { after = r.after; does = then_also a.does r.does } in all) (answers-more inputs input a.after)
      ∙ ap (λ (d : Doing). let all : Answer = record { after = b.after; does = d } in all) (sym (then-assoc a.does rest.does b.does))

  pub handled-more : (inputs : List Input) (input : Input) (session : SessionState)
      → handled_by roster (inputs ++ input ∷ []) session ≡ handled_by roster inputs session + handled_at roster input (answers roster inputs session).after
  unfolding handled_by answers
  handled-more [] input session = omega arith
  handled-more (first ∷ inputs) input session = omega (arith, handled-more inputs input (answer roster first session).after)

-- ---- courses

all-more : (can_give : ℕ → Bool) (inputs : List Input) (input : Input) → AllByRecursion (IsTimely can_give) inputs → IsTimely can_give input → AllByRecursion (IsTimely can_give) (inputs ++ input ∷ [])
all-more can_give [] input each one = (one, tt)
all-more can_give (first ∷ inputs) input each one = (each.0, all-more can_give inputs input each.1 one)

pub course-more : (can_give : ℕ → Bool) (inputs : List Input) (input : Input) (now : ℕ) (rest : List Input) → inputs ≡ Seat true now ∷ rest → IsCourseOf can_give inputs → IsTimely can_give input → IsCourseOf can_give (inputs ++ input ∷ [])
course-more can_give [] input now rest is course one = absurd cc
course-more can_give (Seat free at ∷ inputs) input now rest is course one = (course.0, course.1, all-more can_give inputs input course.2 one)
course-more can_give (Octets piece at ∷ inputs) input now rest is course one = absurd course
course-more can_give (Moment at ∷ inputs) input now rest is course one = absurd course
course-more can_give (End ∷ inputs) input now rest is course one = absurd course
