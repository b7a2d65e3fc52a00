-- The rule of a mailbox: for each sender number, the messages of that number among those that were taken and then those
-- that are queued are exactly what was put under it, in its order.
use Rattle.std.specs.Prelude.{◌≡◌, ◌<◌, ◌≤◌, ◌==◌, ℕ, true, false, List, [], ◌∷◌, ◌++◌, map}
use Rattle.std.specs.List.{filter}
use mathlib.Core.Option.{some}
use lib.ListN.{get_elem?}
use Rattle.mailbox.specs.declared.rule.View.{View}

module _ {M : Type 0} where
  -- the messages of this sender number
  abbrev pub part : ℕ → List (ℕ × M) → List M
  part k messages = map (λ m. m.1) (filter (λ m. m.0 == k) messages)

  -- a view that receives nothing and holds no number
  abbrev pub nobody : View M
  nobody = record { reads = false; taken = []; made = 0; held = [] }

  -- the view of a sender with this number, by which nothing was put
  abbrev pub new_sender : ℕ → View M
  new_sender k = record { reads = false; taken = []; made = 0; held = (k, []) ∷ [] }

  -- the view of a receiver that has taken nothing and given out no number
  abbrev pub new_receiver : View M
  new_receiver = record { reads = true; taken = []; made = 0; held = [] }

  -- one message more under the number of a sender
  abbrev pub more : M → List (ℕ × List M) → List (ℕ × List M)
  more m [] = []
  more m ((k, put) ∷ others) = (k, put ++ m ∷ []) ∷ others

  -- what was put under the number of a sender
  abbrev pub first_list : List (ℕ × List M) → List M
  first_list [] = []
  first_list ((k, put) ∷ others) = put

  abbrev pub put_of : View M → List M
  put_of v = first_list v.held

  abbrev pub put_one : View M → ℕ × M → View M
  put_one v m = record v { held = more m.1 v.held }

  abbrev pub take_one : View M → ℕ × M → View M
  take_one v m = record v { taken = v.taken ++ m ∷ [] }

  -- What one pass knows. One pass receives. A number that a pass holds is its alone; it was given out; and the list beside
  -- it is the number's part of what was taken and then is queued.
  pub record Fits (reader : ℕ) (seat : ℕ → ℕ) (taken : List (ℕ × M)) (made : ℕ) (all : List (ℕ × M)) (pass : ℕ) (v : View M) : Type 0 where
    pub reading : v.reads ≡ true → (pass ≡ reader) × (v.taken ≡ taken) × (v.made ≡ made)
    pub holding : (place k : ℕ) (put : List M) → get_elem? v.held place ≡ some (k, put) → (seat k ≡ pass) × (k < made) × (put ≡ part k all)

  -- The rule. A number that wasn't given out has no messages.
  abbrev pub IsMail : List (ℕ × M) → List (View M) → Type 0
  IsMail queued views =
      (reader : ℕ) × (seat : ℕ → ℕ) × (taken : List (ℕ × M)) × (made : ℕ)
      × ((k : ℕ) → made ≤ k → part k (taken ++ queued) ≡ [])
      × ((pass : ℕ) (v : View M) → get_elem? views pass ≡ some v → Fits reader seat taken made (taken ++ queued) pass v)

  -- What a pass learns where these messages are queued: with those that were taken, they are what was put under each number
  -- that the pass holds. The one that receives knows which were taken.
  pub record Delivered (v : View M) (queued taken : List (ℕ × M)) : Type 0 where
    pub known : v.reads ≡ true → taken ≡ v.taken
    pub mail : (place k : ℕ) (put : List M) → get_elem? v.held place ≡ some (k, put) → put ≡ part k (taken ++ queued)

  abbrev pub Learned : View M → List (ℕ × M) → Type 0
  Learned v queued = (taken : List (ℕ × M)) × Delivered v queued taken
