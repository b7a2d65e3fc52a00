-- Lists from whose front a value is taken.
use Rattle.std.proofs.Common.{◌≡◌, ℕ, suc, ◌+◌, ◌<◌, ◌≤◌, List, [], ◌∷◌, ◌++◌, length, map, get_or, All, sym, ap, subst, ◌∙◌, ◌⊎◌, ◌≢◌, inl, inr, arith, Vec, Global}
use Rattle.std.proofs.lemmas.List.{get_or_append_left, get_or-map, length-append, length-map}
use Rattle.std.proofs.Math.Seq.{get_or-append_seam}
use Rattle.daemon_parts.specs.declared.parts.SeatEnds.{SeatEnds}
use Rattle.mailbox.specs.declared.ends.Sender.{Sender}
use Rattle.mailbox.specs.declared.ends.Receiver.{Receiver}
use Rattle.mailbox.specs.Boxes.{mailbox_of, mailbox_at}
use Rattle.rcp_model.specs.Routes.{OfferFields}
use Rattle.seats.specs.Mails.{Mail}
use Rattle.shard_worker.specs.Ends.{InboxOf, PortOf, inbox_of, port_of}
use Rattle.shard_worker.specs.Workers.{WorkerOf}
use Rattle.daemon_parts.specs.Meshes.{IsMesh}
use Rattle.daemon_parts.specs.Parts.{AreOfSlot, AreWired}
use Rattle.daemon_parts.proofs.MeshLemmas.{items_of, of_slot, row_kept, row_taken}

pub rest_all : {X : Type 0} (P : X → Type 0) (xs rest : List X) (x : X) → xs ≡ x ∷ rest → All P xs → All P rest
rest_all P xs rest x is all k d within = (subst (All P) is all) (suc k) d (omega (arith, within))

pub shorter : {X : Type 0} (n m : ℕ) (xs rest : List X) (x : X) → xs ≡ x ∷ rest → n + length xs ≡ m → n + 1 + length rest ≡ m
shorter n m xs rest x is long = omega (arith, ap length is, long)

pub enough : {X : Type 0} (n m : ℕ) (xs rest : List X) (x : X) → xs ≡ x ∷ rest → n ≤ m + length xs → n ≤ m + 1 + length rest
enough n m xs rest x is long = omega (arith, ap length is, long)

-- ---- what is made of the values of a list, one after another

decided : (m n : ℕ) → (m ≡ n) ⊎ (m ≢ n)
decided m n = grind arith

pub each_at : {A : Type 0} (P : ℕ → A → Type 0) (place : ℕ) (made after : List A) (v : A) → length made ≡ place → after ≡ made ++ v ∷ [] → P place v
    → ((k : ℕ) (a : A) → k < place → P k (get_or made k a)) → (k : ℕ) (a : A) → k < place + 1 → P k (get_or after k a)
each_at {A} P place made after v count grown holds so_far k a below = elim (decided k place) [
  | inl last ↦ subst (λ (n : ℕ). P n (get_or after n a)) (sym last) (subst (P place) (sym here) holds)
  | inr other ↦
      let before : k < place = omega (arith, below, other) in
      subst (P k) (sym (kept before)) (so_far k a before)
]
  where
    here : get_or after place a ≡ v
    here = ap (λ (s : List A). get_or s place a) grown ∙ ap (λ (n : ℕ). get_or (made ++ v ∷ []) n a) (sym count) ∙ get_or-append_seam made v [] a

    kept : k < place → get_or after k a ≡ get_or made k a
    kept before = ap (λ (s : List A). get_or s k a) grown ∙ get_or_append_left made (v ∷ []) a k (subst (λ (n : ℕ). k < n) (sym count) before)

module _ {B : Type 0} (first : List B) (place : ℕ) (now rest : List B) (x : B) where
  pub rest_at : now ≡ x ∷ rest → ((k : ℕ) (d : B) → get_or now k d ≡ get_or first (place + k) d) → (k : ℕ) (d : B) → get_or rest k d ≡ get_or first (place + 1 + k) d
  rest_at is at k d =
      ap (λ (r : List B). get_or r (suc k) d) (sym is) ∙ at (suc k) d ∙ ap (λ (n : ℕ). get_or first n d) (omega arith)

  pub made_at : {A : Type 0} (R : A → B → Type 0) (made after : List A) (v : A) → now ≡ x ∷ rest → ((k : ℕ) (d : B) → get_or now k d ≡ get_or first (place + k) d)
      → length made ≡ place → after ≡ made ++ v ∷ [] → R v x
      → ((k : ℕ) (a : A) (b : B) → k < place → R (get_or made k a) (get_or first k b))
      → (k : ℕ) (a : A) (b : B) → k < place + 1 → R (get_or after k a) (get_or first k b)
  made_at {A} R made after v is at count grown holds so_far k a b below =
      each_at (λ (n : ℕ) (s : A). (d : B) → R s (get_or first n d)) place made after v count grown (λ d. subst (R v) (sym (front d)) holds) (λ n s before d. so_far n s d before) k a below b
    where
      front : (d : B) → get_or first place d ≡ x
      front d = ap (λ (n : ℕ). get_or first n d) (omega arith) ∙ sym (at 0 d) ∙ ap (λ (r : List B). get_or r 0 d) is

-- ---- the rows of a mesh, of which the last is the viewer's

module _ (boxes senders room shards : ℕ) (rows all : List (Vec (Sender Mail) Global)) (last : Vec (Sender Mail) Global) (receivers : List (Receiver Mail)) where
  pub counted_rows : IsMesh boxes senders room (items_of all) receivers → all ≡ rows ++ last ∷ [] → length rows + 1 ≡ senders
  counted_rows mesh is = sym (ap length is ∙ length-append rows (last ∷ [])) ∙ sym (length-map all (λ (r : Vec (Sender Mail) Global). r.items)) ∙ mesh.rows_are

  row_of : all ≡ rows ++ last ∷ [] → (slot : ℕ) (ends : Vec (Sender Mail) Global) → slot < length rows → ends ≡ get_or rows slot last → ends.items ≡ get_or (items_of all) slot []
  row_of is slot ends within are =
      ap (λ (row : Vec (Sender Mail) Global). row.items) are ∙ sym (get_or-map (λ (row : Vec (Sender Mail) Global). row.items) rows slot last [] within) ∙ row_kept rows all last slot is within

  pub seat_ends : IsMesh boxes senders room (items_of all) receivers → all ≡ rows ++ last ∷ [] → boxes ≡ shards → (slot : ℕ) (ends : Vec (Sender Mail) Global) → slot < length rows
      → ends ≡ get_or rows slot last → AreOfSlot slot shards ends.items
  seat_ends mesh is wide slot ends within are =
      let row = of_slot boxes senders room (items_of all) receivers mesh slot (omega (arith, within, counted_rows mesh is)) in
      subst (AreOfSlot slot shards) (sym (row_of is slot ends within are)) (record { count = row.0 ∙ wide; numbers = row.1; unused = row.2 })

  -- the mailbox that a sender puts to
  pub seat_box : IsMesh boxes senders room (items_of all) receivers → all ≡ rows ++ last ∷ [] → (slot shard : ℕ) (ends : Vec (Sender Mail) Global) (sender : Sender Mail) (mail : Receiver Mail)
      → slot < length rows → shard < boxes → ends ≡ get_or rows slot last → mailbox_of (get_or ends.items shard sender) ≡ mailbox_at (get_or receivers shard mail)
  seat_box mesh is slot shard ends sender mail within below are =
      ap (λ (l : List (Sender Mail)). mailbox_of (get_or l shard sender)) (row_of is slot ends within are)
      ∙ (mesh.ends slot shard sender mail (omega (arith, within, counted_rows mesh is)) below).mailbox

  pub viewer_box : IsMesh boxes senders room (items_of all) receivers → all ≡ rows ++ last ∷ [] → (shard : ℕ) (sender : Sender Mail) (mail : Receiver Mail) → shard < boxes
      → mailbox_of (get_or last.items shard sender) ≡ mailbox_at (get_or receivers shard mail)
  viewer_box mesh is shard sender mail below =
      ap (λ (l : List (Sender Mail)). mailbox_of (get_or l shard sender)) (sym (row_taken rows all last is))
      ∙ (mesh.ends (length rows) shard sender mail (omega (arith, counted_rows mesh is)) below).mailbox

  pub viewer_ends : IsMesh boxes senders room (items_of all) receivers → all ≡ rows ++ last ∷ [] → boxes ≡ shards → length last.items ≡ shards
  viewer_ends mesh is wide =
      ap length (sym (row_taken rows all last is)) ∙ mesh.row_is (length rows) (omega (arith, counted_rows mesh is)) ∙ wide

-- ---- the parts fit together

first_of : {X : Type 0} (n : ℕ) (xs : List X) → n < length xs → X
first_of n [] within = absurd (omega (arith, within))
first_of n (x ∷ xs) within = x

module _ (slots shards room : ℕ) (rows : List (Vec (Sender OfferFields) Global)) (receivers : List (Receiver OfferFields)) where
  -- the mailbox that a worker's sender of offers puts to
  pub port_box : IsMesh slots shards room (items_of rows) receivers → (slot shard : ℕ) (port : PortOf) (ports : List PortOf) (receiver : Receiver OfferFields) → slot < slots → shard < shards
      → ((row : Vec (Sender OfferFields) Global) → ports ≡ map port_of (get_or rows shard row).items) → (get_or ports slot port).mailbox ≡ mailbox_at (get_or receivers slot receiver)
  port_box mesh slot shard port ports receiver within below are =
      ap (λ (l : List PortOf). (get_or l slot port).mailbox) (are row)
      ∙ ap (λ (p : PortOf). p.mailbox) (get_or-map port_of (get_or rows shard row).items slot sender port long)
      ∙ ap (λ (l : List (Sender OfferFields)). mailbox_of (get_or l slot sender)) (sym as_items)
      ∙ (mesh.ends shard slot sender receiver below within).mailbox
    where
      many : shard < length rows
      many = omega (arith, below, length-map rows (λ (r : Vec (Sender OfferFields) Global). r.items), mesh.rows_are)

      row : Vec (Sender OfferFields) Global
      row = first_of shard rows many

      as_items : get_or (items_of rows) shard [] ≡ (get_or rows shard row).items
      as_items = get_or-map (λ (r : Vec (Sender OfferFields) Global). r.items) rows shard row [] many

      long : slot < length (get_or rows shard row).items
      long = subst (λ (l : List (Sender OfferFields)). slot < length l) as_items (subst (λ (n : ℕ). slot < n) (sym (mesh.row_is shard below)) within)

      sender : Sender OfferFields
      sender = first_of slot (get_or rows shard row).items long

pub wired : (shards slots boxes senders room boxes' senders' room' : ℕ) (all rows : List (Vec (Sender Mail) Global)) (last : Vec (Sender Mail) Global) (mails : List (Receiver Mail))
    (offers : List (Vec (Sender OfferFields) Global)) (takers : List (Receiver OfferFields)) (workers : List WorkerOf) (seats : List SeatEnds)
    → IsMesh boxes senders room (items_of all) mails → all ≡ rows ++ last ∷ [] → IsMesh boxes' senders' room' (items_of offers) takers
    → boxes ≡ shards → senders ≡ slots + 1 → boxes' ≡ slots → senders' ≡ shards
    → ((shard : ℕ) (worker : WorkerOf) → shard < shards → (get_or workers shard worker).run.shard.number ≡ shard)
    → ((shard : ℕ) (worker : WorkerOf) (mail : Receiver Mail) → shard < shards → (get_or workers shard worker).inbox ≡ inbox_of (get_or mails shard mail))
    → ((shard : ℕ) (worker : WorkerOf) (row : Vec (Sender OfferFields) Global) → shard < shards → (get_or workers shard worker).ports ≡ map port_of (get_or offers shard row).items)
    → ((slot : ℕ) (seat : SeatEnds) (row : Vec (Sender Mail) Global) → slot < slots → (get_or seats slot seat).shards ≡ get_or rows slot row)
    → ((slot : ℕ) (seat : SeatEnds) (receiver : Receiver OfferFields) → slot < slots → (get_or seats slot seat).offers ≡ get_or takers slot receiver)
    → AreWired shards slots workers seats last.items
wired shards slots boxes senders room boxes' senders' room' all rows last mails offers takers workers seats mesh is mesh' wide many wide' many' numbers inboxes ports ends taking = record {
  numbers = numbers;
  from_seats = λ slot shard seat sender worker within below.
      seat_box boxes senders room shards rows all last mails mesh is slot shard (get_or seats slot seat).shards sender (mail shard below) (omega (arith, within, counted, many)) (omega (arith, below, wide))
      (ends slot seat last within)
      ∙ sym (box shard worker below);
  from_viewer = λ shard sender worker below.
      viewer_box boxes senders room shards rows all last mails mesh is shard sender (mail shard below) (omega (arith, below, wide)) ∙ sym (box shard worker below);
  to_seats = λ slot shard seat port worker within below.
      port_box boxes' senders' room' offers takers mesh' slot shard port (get_or workers shard worker).ports (taker slot within) (omega (arith, within, wide')) (omega (arith, below, many'))
      (λ row. ports shard worker row below)
      ∙ sym (ap mailbox_at (taking slot seat (taker slot within) within));
}
  where
    counted : length rows + 1 ≡ senders
    counted = counted_rows boxes senders room shards rows all last mails mesh is

    mail : (shard : ℕ) → shard < shards → Receiver Mail
    mail shard below = first_of shard mails (omega (arith, below, wide, mesh.receivers_are))

    taker : (slot : ℕ) → slot < slots → Receiver OfferFields
    taker slot within = first_of slot takers (omega (arith, within, wide', mesh'.receivers_are))

    box : (shard : ℕ) (worker : WorkerOf) (below : shard < shards) → (get_or workers shard worker).inbox.mailbox ≡ mailbox_at (get_or mails shard (mail shard below))
    box shard worker below = ap (λ (i : InboxOf). i.mailbox) (inboxes shard worker (mail shard below) below)
