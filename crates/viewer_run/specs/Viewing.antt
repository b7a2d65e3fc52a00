-- What the viewer reads of a link and puts to the shards.
use Rattle.std.specs.Prelude.{◌≡◌, ℕ, ◌-◌, ◌^◌, ◌<◌, min, max, Bool, true, false, List, [], ◌∷◌, ◌++◌, length, map, Option, Some, None, is_some, IsTrue, slice_index_or}
use Rattle.std.specs.List.{AllByRecursion}
use Rattle.ospf_packet.specs.Framing.{at_start}
use Rattle.outside.specs.Told.{behind}
use Rattle.rcp_base.specs.declared.names.Edge.{Edge}
use Rattle.rcp_model.specs.LinkState.{LinkState}
use Rattle.rcp_model.specs.LinkStateUpdates.{faultless_lsas, left_out}
use Rattle.rcp_model.specs.declared.rcs_mail.ShardMail.{ShardMail}
use Rattle.rcp_model.specs.declared.rcs_mail.ShardMail.TheVariants as mail
use Rattle.cost_rows.specs.Views.{ViewOf}
use Rattle.lsdb.specs.Databases.{Holds}
use Rattle.mailbox.specs.declared.ends.Sender.{Sender}
use Rattle.mailbox.specs.Boxes.{sent, IsSameSender}
use Rattle.igp_view.specs.Igp.{IgpOf}
use Rattle.igp_view.specs.Streams.{stream_after, lost_by, lsas_by, state_after}
use Rattle.viewer_run.specs.declared.stream.StreamWhy.{StreamWhy}
use Rattle.viewer_run.specs.declared.stream.StreamWhy.TheVariants as why
use Rattle.viewer_run.specs.Pieces.{Piece, octets_of, state_over, latest_over}

-- ---- what is put to the shards

-- the view that a message hands on, where it is a View
abbrev pub view_in : ShardMail ViewOf → Option ViewOf
view_in (mail.View view) = Some view.value
view_in message = None

-- these views were put by the sender, in this order, and nothing else
pub record HasPutViews (views : List ViewOf) (old new : Sender (ShardMail ViewOf)) : Type 0 where
  pub same : IsSameSender old new
  pub more : List (ShardMail ViewOf)
  pub sent_is : sent new ≡ sent old ++ more
  pub views_are : map view_in more ≡ map Some views

-- the same views by each of the senders, in the same order
pub record PutToAll (views : List ViewOf) (old new : List (Sender (ShardMail ViewOf))) : Type 0 where
  pub count : length new ≡ length old
  pub each : (k : ℕ) (d : Sender (ShardMail ViewOf)) → k < length old → HasPutViews views (slice_index_or old k d) (slice_index_or new k d)

-- the edges of the last of these views, or those before where there is none
abbrev pub last_edges : List Edge → List ViewOf → List Edge
last_edges edges [] = edges
last_edges edges (view ∷ views) = last_edges view.edges views

-- the view of the edges and the members
abbrev pub view_of : IgpOf → ViewOf
view_of igp = record { edges = igp.edges; members = igp.members }

-- The same views were put to all shards, each of them of the roster's members. Unless memory was refused, the last one has the edges as
-- they are now, or none was put and the edges are as before.
pub record HasShown (refused : Bool) (old new : IgpOf) (before after : List (Sender (ShardMail ViewOf))) : Type 0 where
  pub views : List ViewOf
  pub put : PutToAll views before after
  pub members : AllByRecursion (λ view. view.members ≡ old.members) views
  pub last : refused ≡ false → new.edges ≡ last_edges old.edges views

-- ---- what is read

-- the last value of a count of 64 bits stays
abbrev pub at_most : ℕ → ℕ
at_most count = min count (2 ^ 64 - 1)

-- What a piece brings to a view that reads a stream: the stream goes on, and the link state at that time.
pub record HasTakenPiece (piece : Piece) (old new : IgpOf) : Type 0 where
  pub stream : new.stream ≡ stream_after old.stream piece.1
  pub time : new.database.moment ≡ max piece.0 old.database.moment
  pub state : (state : LinkState) → Holds old.database.state state
      → Holds new.database.state (state_after old.area (max piece.0 old.database.moment) old.stream piece.1 state)

-- Pieces came at times that the clock can give, and their octets are all that the link gave. The stream and the link state are what
-- they leave of a new stream, and the counts are those of the router LSAs in the octets.
pub record HasServed (can_give : ℕ → Bool) (given_before given_after : Option (List ℕ)) (old new : IgpOf) (installed left : ℕ) (lost : Bool) : Type 0 where
  pub pieces : List Piece
  pub times : AllByRecursion (λ piece. IsTrue (can_give piece.0)) pieces
  pub given : given_after ≡ behind given_before (octets_of pieces)
  pub stream : new.stream ≡ stream_after (Some at_start) (octets_of pieces)
  pub time : new.database.moment ≡ latest_over old.database.moment pieces
  pub state : (state : LinkState) → Holds old.database.state state → Holds new.database.state (state_over old.area old.database.moment (Some at_start) pieces state)
  pub installed_is : installed ≡ at_most (length (faultless_lsas (lsas_by old.area (Some at_start) (octets_of pieces))))
  pub left_is : left ≡ at_most (length (left_out (lsas_by old.area (Some at_start) (octets_of pieces))))
  pub lost_is : lost ≡ is_some (lost_by (Some at_start) (octets_of pieces))

-- ---- the end

-- whether memory was refused
abbrev pub ran_out : StreamWhy → Bool
ran_out why.NoMemory = true
ran_out other = false
