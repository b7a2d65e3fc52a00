-- A stream that is read piece by piece.
use Rattle.std.proofs.Common.{◌≡◌, ℕ, ◌+◌, max, Bool, false, ◌||◌, List, [], ◌∷◌, ◌++◌, length, Option, Some, None, Ok, Err, is_some, refl, sym, ap, subst, ◌∙◌, append-nil, arith}
use Rattle.std.specs.List.{AllByRecursion}
use Rattle.std.specs.Option.{option_or}
use Rattle.std.specs.Prelude.{IsTrue}
use Rattle.ospf_packet.specs.Framing.{at_start}
use Rattle.outside.specs.Told.{behind, behind-append, behind-nil}
use Rattle.rcp_model.specs.LinkState.{LinkState}
use Rattle.rcp_model.specs.LinkStateUpdates.{ReadLsa, faultless_lsas, left_out, lsas_of_packet, lsas_of_packets}
use Rattle.lsdb.specs.Databases.{Holds}
use Rattle.igp_view.specs.Igp.{IgpOf, IsOfSameRoster}
use Rattle.igp_view.specs.Streams.{Stream, packets_of, stream_after, lost_by, lsas_by, state_after}
use Rattle.igp_view.proofs.StreamLemmas.{stream_twice, lost_twice, packets_twice}
use Rattle.viewer_run.specs.Pieces.{Piece, octets_of, state_over, latest_over}
use Rattle.viewer_run.specs.Viewing.{at_most, HasTakenPiece, HasServed}

-- ---- one piece more

octets_more : (pieces : List Piece) (piece : Piece) → octets_of (pieces ++ piece ∷ []) ≡ octets_of pieces ++ piece.1
octets_more [] piece = append-nil piece.1
octets_more (first ∷ pieces) piece = ap (λ os. first.1 ++ os) (octets_more pieces piece) ∙ sym (assoc first.1 (octets_of pieces) piece.1) where
  assoc : (a b c : List ℕ) → (a ++ b) ++ c ≡ a ++ (b ++ c)
  assoc [] b c = refl
  assoc (x ∷ a) b c = ap (λ l. x ∷ l) (assoc a b c)

latest_more : (latest : ℕ) (pieces : List Piece) (piece : Piece) → latest_over latest (pieces ++ piece ∷ []) ≡ max piece.0 (latest_over latest pieces)
unfolding latest_over
latest_more latest [] piece = refl
latest_more latest (first ∷ pieces) piece = latest_more (max first.0 latest) pieces piece

stream_first : (first : Piece) (pieces : List Piece) (s : Stream) → stream_after (stream_after s first.1) (octets_of pieces) ≡ stream_after s (octets_of (first ∷ pieces))
stream_first first pieces s = stream_twice s first.1 (octets_of pieces)

-- the state after one piece more is that of the piece after the others, where the stream stands after them
state_more : (area latest : ℕ) (s now : Stream) (pieces : List Piece) (piece : Piece) (state : LinkState) → now ≡ stream_after s (octets_of pieces) → (pieces ≡ [] → now ≡ s)
    → state_over area latest s (pieces ++ piece ∷ []) state ≡ state_after area (max piece.0 (latest_over latest pieces)) now piece.1 (state_over area latest s pieces state)
unfolding state_over latest_over
state_more area latest s now [] piece state is none = ap (λ (r : Stream). state_after area (max piece.0 latest) r piece.1 state) (sym (none refl))
state_more area latest s now (first ∷ pieces) piece state is none =
    state_more area (max first.0 latest) (stream_after s first.1) now pieces piece (state_after area (max first.0 latest) s first.1 state)
    (is ∙ sym (stream_first first pieces s))
    (λ empty. is ∙ ap (stream_after s) (ap (λ (ps : List Piece). octets_of (first ∷ ps)) empty ∙ append-nil first.1))

all_more : (P : Piece → Type 0) (pieces : List Piece) (piece : Piece) → AllByRecursion P pieces → P piece → AllByRecursion P (pieces ++ piece ∷ [])
all_more P [] piece all one = (one, tt)
all_more P (first ∷ pieces) piece all one = (all.0, all_more P pieces piece all.1 one)

-- ---- the LSAs of one piece more

lsas_append : (area : ℕ) (first later : List (List ℕ)) → lsas_of_packets area (first ++ later) ≡ lsas_of_packets area first ++ lsas_of_packets area later
lsas_append area [] later = refl
lsas_append area (packet ∷ first) later = ap (λ l. lsas_of_packet area packet ++ l) (lsas_append area first later) ∙ sym (assoc (lsas_of_packet area packet) (lsas_of_packets area first) (lsas_of_packets area later)) where
  assoc : (a b c : List ReadLsa) → (a ++ b) ++ c ≡ a ++ (b ++ c)
  assoc [] b c = refl
  assoc (x ∷ a) b c = ap (λ l. x ∷ l) (assoc a b c)

lsas_more : (area : ℕ) (s : Stream) (first later : List ℕ) → lsas_by area s (first ++ later) ≡ lsas_by area s first ++ lsas_by area (stream_after s first) later
lsas_more area s first later = ap (lsas_of_packets area) (packets_twice s first later) ∙ lsas_append area (packets_of s first) (packets_of (stream_after s first) later)

count_faultless : (first later : List ReadLsa) → length (faultless_lsas (first ++ later)) ≡ length (faultless_lsas first) + length (faultless_lsas later)
count_faultless [] later = omega arith
count_faultless (Ok lsa ∷ first) later = let rest = count_faultless first later in omega (arith, rest)
count_faultless (Err fault ∷ first) later = count_faultless first later

count_left_out : (first later : List ReadLsa) → length (left_out (first ++ later)) ≡ length (left_out first) + length (left_out later)
count_left_out [] later = omega arith
count_left_out (Ok lsa ∷ first) later = count_left_out first later
count_left_out (Err fault ∷ first) later = let rest = count_left_out first later in omega (arith, rest)

at_most_more : (count whole more : ℕ) → count ≡ at_most whole → at_most (count + more) ≡ at_most (whole + more)
at_most_more count whole more is = omega (arith, is)

some_of : {X : Type 0} (a b : Option X) → is_some (option_or a b) ≡ (is_some a || is_some b)
some_of None b = refl
some_of (Some x) b = refl

-- ---- what is served

start_stays : stream_after (Some at_start) [] ≡ Some at_start
start_stays = refl

pub served_first : (can_give : ℕ → Bool) (given : Option (List ℕ)) (old new : IgpOf) (installed left : ℕ) (lost : Bool) → new ≡ record old { stream = Some at_start }
    → installed ≡ 0 → left ≡ 0 → lost ≡ false → HasServed can_give given given old new installed left lost
unfolding state_over latest_over
served_first can_give given old new installed left lost is none none_left framed = record {
  pieces = [];
  times = tt;
  given = sym (behind-nil given);
  stream = ap (λ (igp : IgpOf). igp.stream) is ∙ sym start_stays;
  time = ap (λ (igp : IgpOf). igp.database.moment) is;
  state = λ state holds. subst (λ (igp : IgpOf). Holds igp.database.state state) (sym is) holds;
  installed_is = none;
  left_is = none_left;
  lost_is = framed;
}

module _ (can_give : ℕ → Bool) (given0 given1 given2 : Option (List ℕ)) (old now next : IgpOf) (installed left installed' left' : ℕ) (lost lost' : Bool)
    (h : HasServed can_give given0 given1 old now installed left lost) (roster : IsOfSameRoster old now) (piece : Piece) where
  pub served_next : IsTrue (can_give piece.0) → HasTakenPiece piece now next → given2 ≡ behind given1 piece.1
      → installed' ≡ at_most (installed + length (faultless_lsas (lsas_by now.area now.stream piece.1)))
      → left' ≡ at_most (left + length (left_out (lsas_by now.area now.stream piece.1)))
      → lost' ≡ (lost || is_some (lost_by now.stream piece.1))
      → HasServed can_give given0 given2 old next installed' left' lost'
  served_next can taken given new_installed new_left new_lost = record {
    pieces = h.pieces ++ piece ∷ [];
    times = all_more (λ (p : Piece). IsTrue (can_give p.0)) h.pieces piece h.times can;
    given = given ∙ ap (λ g. behind g piece.1) h.given ∙ behind-append given0 (octets_of h.pieces) piece.1 ∙ ap (behind given0) (sym (octets_more h.pieces piece));
    stream =
        taken.stream ∙ ap (λ s. stream_after s piece.1) h.stream ∙ stream_twice (Some at_start) (octets_of h.pieces) piece.1
        ∙ ap (stream_after (Some at_start)) (sym (octets_more h.pieces piece));
    time = taken.time ∙ ap (max piece.0) h.time ∙ sym (latest_more old.database.moment h.pieces piece);
    state = λ state holds.
        subst (λ (s : LinkState). Holds next.database.state s)
        ((λ i. state_after (roster.area i) (max piece.0 (h.time i)) now.stream piece.1 (state_over old.area old.database.moment (Some at_start) h.pieces state))
        ∙ sym (state_more old.area old.database.moment (Some at_start) now.stream h.pieces piece state h.stream
        (λ empty. h.stream ∙ ap (λ (ps : List Piece). stream_after (Some at_start) (octets_of ps)) empty ∙ start_stays)))
        (taken.state (state_over old.area old.database.moment (Some at_start) h.pieces state) (h.state state holds));
    installed_is =
        new_installed ∙ at_most_more installed (length (faultless_lsas (lsas_by old.area (Some at_start) (octets_of h.pieces)))) (length (faultless_lsas (lsas_by now.area now.stream piece.1))) h.installed_is
        ∙ ap at_most (sym (ap length (ap faultless_lsas lsas) ∙ count_faultless (lsas_by old.area (Some at_start) (octets_of h.pieces)) (lsas_by now.area now.stream piece.1)));
    left_is =
        new_left ∙ at_most_more left (length (left_out (lsas_by old.area (Some at_start) (octets_of h.pieces)))) (length (left_out (lsas_by now.area now.stream piece.1))) h.left_is
        ∙ ap at_most (sym (ap length (ap left_out lsas) ∙ count_left_out (lsas_by old.area (Some at_start) (octets_of h.pieces)) (lsas_by now.area now.stream piece.1)));
    lost_is =
        new_lost ∙ (λ i. h.lost_is i || is_some (lost_by (h.stream i) piece.1))
        ∙ sym (ap (λ os. is_some (lost_by (Some at_start) os)) (octets_more h.pieces piece) ∙ ap is_some (lost_twice (Some at_start) (octets_of h.pieces) piece.1)
        ∙ some_of (lost_by (Some at_start) (octets_of h.pieces)) (lost_by (stream_after (Some at_start) (octets_of h.pieces)) piece.1));
  } where
    lsas : lsas_by old.area (Some at_start) (octets_of (h.pieces ++ piece ∷ [])) ≡ lsas_by old.area (Some at_start) (octets_of h.pieces) ++ lsas_by now.area now.stream piece.1
    lsas =
        ap (lsas_by old.area (Some at_start)) (octets_more h.pieces piece) ∙ lsas_more old.area (Some at_start) (octets_of h.pieces) piece.1
        ∙ (λ i. lsas_by old.area (Some at_start) (octets_of h.pieces) ++ lsas_by (sym roster.area i) (sym h.stream i) piece.1)
