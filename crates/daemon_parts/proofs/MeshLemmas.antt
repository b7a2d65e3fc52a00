-- Rows that grow by a column.
use Rattle.std.proofs.Common.{◌≡◌, ◌≢◌, ◌⊎◌, ℕ, ◌+◌, ◌<◌, List, [], ◌∷◌, ◌++◌, length, map, get_or, set, replicate, All, refl, sym, ap, subst, ◌∙◌, arith, inl, inr, Vec, Global}
use Rattle.std.proofs.lemmas.List.{get_or-set_same, get_or-set_other, length-set, length-append, length-map, map-append, map-set, get_or-map, get_or_append_left, get_or-replicate, length-replicate}
use Rattle.std.proofs.lemmas.List.Elements.{All-map}
use Rattle.std.proofs.Math.Seq.{get_or-append_seam}
use Rattle.mailbox.specs.declared.ends.Sender.{Sender}
use Rattle.mailbox.specs.declared.ends.Receiver.{Receiver}
use Rattle.mailbox.specs.Boxes.{IsNew, number_of, sent}
use Rattle.seats.specs.Ends.{SenderOf, sender_of}
use Rattle.daemon_parts.specs.Meshes.{HasColumn, IsIdle, IsMesh}

decided : (m n : ℕ) → (m ≡ n) ⊎ (m ≢ n)
decided m n = grind arith

-- ---- a value more in a row

pub pushed : {T : Type 0} (rows : List (Vec T Global)) (place : ℕ) (d row : Vec T Global) (value : T) → place < length rows
    → row.items ≡ (get_or rows place d).items ++ value ∷ []
    → map (λ (r : Vec T Global). r.items) (set rows place row) ≡ set (map (λ (r : Vec T Global). r.items) rows) place (get_or (map (λ (r : Vec T Global). r.items) rows) place [] ++ value ∷ [])
pushed {T} rows place d row value within is =
    map-set (λ (r : Vec T Global). r.items) rows place row
    ∙ ap (set (map (λ (r : Vec T Global). r.items) rows) place)
    (is ∙ ap (λ (l : List T). l ++ value ∷ []) (sym (at rows place d within)))
  where
    at : (rows : List (Vec T Global)) (place : ℕ) (d : Vec T Global) → place < length rows → get_or (map (λ (r : Vec T Global). r.items) rows) place [] ≡ (get_or rows place d).items
    at rows place d within = get_or-map (λ (r : Vec T Global). r.items) rows place d [] within

-- ---- a column

pub column_begun : {T : Type 0} (rows : List (List T)) → HasColumn [] rows rows
column_begun rows = record { count = refl; longer = λ k d within. absurd (omega (arith, within)); same = λ k past. refl }

longer_by : {T : Type 0} (xs : List T) (x : T) → length (xs ++ x ∷ []) ≡ length xs + 1
longer_by xs x = length-append xs (x ∷ [])

pub column_goes : {T : Type 0} (column : List T) (value : T) (old rows new : List (List T)) → HasColumn column old rows → length column < length rows
    → new ≡ set rows (length column) (get_or rows (length column) [] ++ value ∷ []) → HasColumn (column ++ value ∷ []) old new
column_goes {T} column value old rows new so_far within put = record {
  count = ap length put ∙ length-set rows (length column) _ ∙ so_far.count;
  longer = λ k d below. elim (decided k (length column)) [
    | inl last ↦ subst (λ (n : ℕ). get_or new n [] ≡ get_or old n [] ++ get_or (column ++ value ∷ []) n d ∷ []) (sym last)
        (ap (λ (r : List (List T)). get_or r (length column) []) put ∙ get_or-set_same rows (length column) _ [] within
        ∙ ap (λ (l : List T). l ++ value ∷ []) (so_far.same (length column) (omega arith))
        ∙ ap (λ (v : T). get_or old (length column) [] ++ v ∷ []) (sym (get_or-append_seam column value [] d)))
    | inr other ↦
        let before : k < length column = omega (arith, below, longer_by column value, other) in
        ap (λ (r : List (List T)). get_or r k []) put ∙ get_or-set_other rows (length column) k _ [] other
        ∙ so_far.longer k d before
        ∙ ap (λ (v : T). get_or old k [] ++ v ∷ []) (sym (get_or_append_left column (value ∷ []) d k before))
  ];
  same = λ k past.
      ap (λ (r : List (List T)). get_or r k []) put ∙ get_or-set_other rows (length column) k _ [] (λ e. absurd (omega (arith, e, past, longer_by column value)))
      ∙ so_far.same k (omega (arith, past, longer_by column value));
}

-- ---- a mesh

module _ {M : Type 0} where
  pub mesh_begun : (senders room : ℕ) (rows : List (List (Sender M))) → rows ≡ replicate senders [] → IsMesh 0 senders room rows []
  mesh_begun senders room rows are = record {
    rows_are = ap length are ∙ length-replicate senders [];
    receivers_are = refl;
    row_is = λ k within. ap (λ (r : List (List (Sender M))). length (get_or r k [])) are ∙ ap length (get_or-replicate senders k [] [] within);
    ends = λ k box s r within below. absurd (omega (arith, below));
    idle = λ box r below. absurd (omega (arith, below));
  }

  pub mesh_goes : (boxes senders room : ℕ) (old new : List (List (Sender M))) (receivers after : List (Receiver M)) (column : List (Sender M)) (receiver : Receiver M)
      → IsMesh boxes senders room old receivers → length column ≡ senders
      → ((k : ℕ) (d : Sender M) → k < length column → IsNew receiver k (get_or column k d))
      → IsIdle senders room receiver → HasColumn column old new → after ≡ receivers ++ receiver ∷ [] → IsMesh (boxes + 1) senders room new after
  mesh_goes boxes senders room old new receivers after column receiver mesh wide each idle grown is = record {
    rows_are = grown.count ∙ mesh.rows_are;
    receivers_are = ap length is ∙ longer_by receivers receiver ∙ ap (λ (n : ℕ). n + 1) mesh.receivers_are;
    row_is = λ k within. row_longer column refl k within;
    ends = λ k box s r within below. elim (decided box boxes) [
      | inl last ↦ subst (λ (n : ℕ). IsNew (get_or after n r) k (get_or (get_or new k []) n s)) (sym last)
          (subst (λ (e : Sender M). IsNew (get_or after boxes r) k e) (sym (last_end k s within))
          (subst (λ (e : Receiver M). IsNew e k (get_or column k s)) (sym (last_box r)) (each k s (omega (arith, wide, within)))))
      | inr other ↦
          let before : box < boxes = omega (arith, below, other) in
          subst (λ (e : Sender M). IsNew (get_or after box r) k e) (sym (end_before k box s within before))
          (subst (λ (e : Receiver M). IsNew e k (get_or (get_or old k []) box s)) (sym (box_before box r before)) (mesh.ends k box s r within before))
    ];
    idle = λ box r below. elim (decided box boxes) [
      | inl last ↦ subst (λ (n : ℕ). IsIdle senders room (get_or after n r)) (sym last) (subst (IsIdle senders room) (sym (last_box r)) idle)
      | inr other ↦ let before : box < boxes = omega (arith, below, other) in subst (IsIdle senders room) (sym (box_before box r before)) (mesh.idle box r before)
    ];
  }
    where
      longer_row : (k : ℕ) (s : Sender M) → k < senders → get_or new k [] ≡ get_or old k [] ++ get_or column k s ∷ []
      longer_row k s within = grown.longer k s (omega (arith, wide, within))

      row_longer : (column' : List (Sender M)) → column' ≡ column → (k : ℕ) → k < senders → length (get_or new k []) ≡ boxes + 1
      row_longer [] same k within = absurd (omega (arith, within, wide, ap length same))
      row_longer (s ∷ rest) same k within = ap length (longer_row k s within) ∙ longer_by (get_or old k []) (get_or column k s) ∙ ap (λ (n : ℕ). n + 1) (mesh.row_is k within)

      last_box : (r : Receiver M) → get_or after boxes r ≡ receiver
      last_box r = ap (λ (l : List (Receiver M)). get_or l boxes r) is
          ∙ ap (λ (n : ℕ). get_or (receivers ++ receiver ∷ []) n r) (sym mesh.receivers_are) ∙ get_or-append_seam receivers receiver [] r

      box_before : (box : ℕ) (r : Receiver M) → box < boxes → get_or after box r ≡ get_or receivers box r
      box_before box r before = ap (λ (l : List (Receiver M)). get_or l box r) is
          ∙ get_or_append_left receivers (receiver ∷ []) r box (subst (λ (n : ℕ). box < n) (sym mesh.receivers_are) before)

      last_end : (k : ℕ) (s : Sender M) → k < senders → get_or (get_or new k []) boxes s ≡ get_or column k s
      last_end k s within = ap (λ (l : List (Sender M)). get_or l boxes s) (longer_row k s within)
          ∙ ap (λ (n : ℕ). get_or (get_or old k [] ++ get_or column k s ∷ []) n s) (sym (mesh.row_is k within))
          ∙ get_or-append_seam (get_or old k []) (get_or column k s) [] s

      end_before : (k box : ℕ) (s : Sender M) → k < senders → box < boxes → get_or (get_or new k []) box s ≡ get_or (get_or old k []) box s
      end_before k box s within before = ap (λ (l : List (Sender M)). get_or l box s) (longer_row k s within)
          ∙ get_or_append_left (get_or old k []) (get_or column k s ∷ []) s box (subst (λ (n : ℕ). box < n) (sym (mesh.row_is k within)) before)

-- ---- the rows of a mesh

abbrev pub items_of : {T : Type 0} → List (Vec T Global) → List (List T)
items_of rows = map (λ row. row.items) rows

module _ {M : Type 0} (boxes senders room : ℕ) (rows : List (List (Sender M))) where
  pub new_end : (receivers : List (Receiver M)) → IsMesh boxes senders room rows receivers → (k box : ℕ) (s : Sender M) → k < senders → box < length (get_or rows k [])
      → (number_of (get_or (get_or rows k []) box s) ≡ k) × (sent (get_or (get_or rows k []) box s) ≡ [])
  new_end [] mesh k box s within below = absurd (omega (arith, below, mesh.row_is k within, mesh.receivers_are))
  new_end (r ∷ more) mesh k box s within below = let new = mesh.ends k box s r within (omega (arith, below, mesh.row_is k within)) in (new.number, new.nothing)

  pub of_slot : (receivers : List (Receiver M)) → IsMesh boxes senders room rows receivers → (k : ℕ) → k < senders
      → (length (get_or rows k []) ≡ boxes) × All (λ (s : SenderOf M). s.number ≡ k) (map sender_of (get_or rows k [])) × All (λ (s : SenderOf M). s.sent ≡ []) (map sender_of (get_or rows k []))
  of_slot receivers mesh k within = (
    mesh.row_is k within,
    All-map (λ (s : SenderOf M). s.number ≡ k) sender_of (get_or rows k []) (λ box s below. (new_end receivers mesh k box s within below).0),
    All-map (λ (s : SenderOf M). s.sent ≡ []) sender_of (get_or rows k []) (λ box s below. (new_end receivers mesh k box s within below).1),
  )

pub rows_unused : {M : Type 0} (boxes senders room wide count : ℕ) (rows : List (Vec (Sender M) Global)) (receivers : List (Receiver M)) → IsMesh boxes senders room (items_of rows) receivers
    → boxes ≡ wide → senders ≡ count
    → All (λ (row : Vec (Sender M) Global). (length row.items ≡ wide) × All (λ s. sent s ≡ []) row.items) rows × (length rows ≡ count)
rows_unused {M} boxes senders room wide count rows receivers mesh as_wide as_many = (
  (λ k d within.
      let row : get_or (items_of rows) k [] ≡ (get_or rows k d).items = get_or-map (λ (r : Vec (Sender M) Global). r.items) rows k d [] within in
      let below : k < senders = omega (arith, within, many) in
      subst (λ (l : List (Sender M)). (length l ≡ wide) × All (λ s. sent s ≡ []) l) row
      (mesh.row_is k below ∙ as_wide, (λ box s inside. (new_end boxes senders room (items_of rows) receivers mesh k box s below inside).1))),
  many ∙ as_many,
)
  where
    many : length rows ≡ senders
    many = sym (length-map rows (λ (r : Vec (Sender M) Global). r.items)) ∙ mesh.rows_are

-- the last row is taken away
pub row_kept : {T : Type 0} (rows all : List (Vec T Global)) (last : Vec T Global) (k : ℕ) → all ≡ rows ++ last ∷ [] → k < length rows → get_or (items_of rows) k [] ≡ get_or (items_of all) k []
row_kept {T} rows all last k is within =
    sym (ap (λ (r : List (Vec T Global)). get_or (items_of r) k []) is
    ∙ ap (λ (r : List (List T)). get_or r k []) (map-append (λ (row : Vec T Global). row.items) rows (last ∷ []))
    ∙ get_or_append_left (items_of rows) (last.items ∷ []) [] k (subst (λ (n : ℕ). k < n) (sym (length-map rows (λ (row : Vec T Global). row.items))) within))

pub row_taken : {T : Type 0} (rows all : List (Vec T Global)) (last : Vec T Global) → all ≡ rows ++ last ∷ [] → get_or (items_of all) (length rows) [] ≡ last.items
row_taken {T} rows all last is =
    ap (λ (r : List (Vec T Global)). get_or (items_of r) (length rows) []) is
    ∙ ap (λ (r : List (List T)). get_or r (length rows) []) (map-append (λ (row : Vec T Global). row.items) rows (last ∷ []))
    ∙ ap (λ (n : ℕ). get_or (items_of rows ++ last.items ∷ []) n []) (sym (length-map rows (λ (row : Vec T Global). row.items)))
    ∙ get_or-append_seam (items_of rows) last.items [] []
