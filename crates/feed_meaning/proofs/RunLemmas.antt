-- What a run of records keeps: the octets sent to each connection replay to the table of its slot.
use Rattle.std.proofs.Common.{◌≡◌, ℕ, Bool, true, false, cond, ◌||◌, List, [], ◌∷◌, ◌++◌, Option, Some, refl, sym, ap, ◌∙◌, inl, inr}
use Rattle.std.specs.List.{concat, AllByRecursion}
use Rattle.std.proofs.lemmas.Bool.{cases_Bool}
use Rattle.std.proofs.lemmas.List.{append-nil}
use Rattle.std.proofs.lemmas.List.Folds.{concat-append}
use Rattle.rcp_base.specs.IpPrefix.{IpPrefix}
use Rattle.rcp_base.specs.Maps.{get_at, set_at, same_prefix, is_among}
use Rattle.rcp_model.specs.Messages.{IsMessage, messages_in}
use Rattle.rcp_model.specs.Updates.{Table, after_messages, replay}
use Rattle.rcp_model.specs.Cells.{Cell, Carries, value_after}
use Rattle.rcp_model.specs.RouteServer.{Domain, Server, Work, table_of, announced_at, offer, after, after_all}
use Rattle.rcp_model.proofs.AllLemmas.{all-append}
use Rattle.rcp_base.proofs.MapLemmas.{get_at-set_at_same, get_at-set_at_other, same_prefix-is, same_prefix-other, prefix_test}
use Rattle.rcp_model.proofs.ReadingLemmas.{messages_in-concat}
use Rattle.rcp_model.proofs.ServerLemmas.{worked-table}
use Rattle.rcp_model.proofs.UpdateLemmas.{after_messages-append}
use Rattle.feed_meaning.specs.Work.{work_events}

-- ---- octets that replay to a table

pub record Replays (octets : List ℕ) (table : Table) : Type 0 where
  pub messages : List (List ℕ)
  pub whole : octets ≡ concat messages
  pub each : AllByRecursion IsMessage messages
  pub gives : (p : IpPrefix) → get_at same_prefix p (after_messages messages []) ≡ get_at same_prefix p table

-- whole messages, one after another, are read as these
read-all : (messages : List (List ℕ)) → AllByRecursion IsMessage messages → messages_in (concat messages) ≡ messages
read-all messages each = ap messages_in (sym (append-nil (concat messages))) ∙ (messages_in-concat messages [] each).0 ∙ append-nil messages

pub Replays-replay : (octets : List ℕ) (table : Table) (p : IpPrefix) → Replays octets table → get_at same_prefix p (replay octets) ≡ get_at same_prefix p table
unfolding replay
Replays-replay octets table p h =
    rw (h.whole, read-all h.messages h.each) (h.gives p)

pub Replays-nothing : Replays [] []
unfolding after_messages
Replays-nothing = record { messages = []; whole = refl; each = tt; gives = λ p. refl }

-- Further messages that carry cells, where these give the new table.
pub Replays-carried : (octets : List ℕ) (messages : List (List ℕ)) (cells : List Cell) (table new : Table) → Replays octets table → Carries messages cells
    → ((q : IpPrefix) → value_after (get_at same_prefix q cells) (get_at same_prefix q table) ≡ get_at same_prefix q new)
    → Replays (octets ++ concat messages) new
Replays-carried octets messages cells table new h carries gives = record {
  messages = h.messages ++ messages;
  whole = ap (λ (l : List ℕ). l ++ concat messages) h.whole ∙ sym (concat-append h.messages messages);
  each = all-append IsMessage h.messages messages h.each carries.whole;
  gives = λ q.
      ap (get_at same_prefix q) (after_messages-append h.messages messages [])
      ∙ carries.replayed (after_messages h.messages []) q
      ∙ ap (value_after (get_at same_prefix q cells)) (h.gives q)
      ∙ gives q;
}

-- ---- work on a list of prefixes

-- announcements and edges stay; a slot's table has the offers at these prefixes, and elsewhere what it had
pub record Worked (domain : Domain) (ps : List IpPrefix) (server now : Server) : Type 0 where
  pub announcements : now.announcements ≡ server.announcements
  pub edges : now.edges ≡ server.edges
  pub tables : (slot : ℕ) (table : Table) → table_of server slot ≡ Some table
      → (new : Table) × (table_of now slot ≡ Some new) × ((q : IpPrefix) → get_at same_prefix q new ≡ cond (is_among ps q) (offer domain (announced_at server.announcements q) server.edges slot) (get_at same_prefix q table))

either_way : (b : Bool) (x y : Option (List ℕ)) → x ≡ cond (b || true) x y
either_way true x y = refl
either_way false x y = refl

pub worked-all : (domain : Domain) (ps : List IpPrefix) (server : Server) → Worked domain ps server (after_all domain (work_events ps) server)
unfolding after_all after
worked-all domain [] server = record { announcements = refl; edges = refl; tables = λ slot table is. (table, is, λ q. refl) }
worked-all domain (p ∷ ps) server =
    let next = after domain (Work p) server in
    let rest = worked-all domain ps next in
    record {
      announcements = rest.announcements;
      edges = rest.edges;
      tables = λ slot table is.
          let given = set_at same_prefix p (offer domain (announced_at server.announcements p) server.edges slot) table in
          let more = rest.tables slot given (worked-table domain server.announcements server.edges p slot server.tables table is) in (
            more.0,
            more.1,
            λ q. more.2 q ∙
                elim (cases_Bool (is_among ps q)) [
                  | inl e ↦ rw e (either_way (same_prefix q p) (offer domain (announced_at server.announcements q) server.edges slot) (get_at same_prefix q table))
                  | inr e ↦ rw e (
                      elim (cases_Bool (same_prefix q p)) [
                        | inl s ↦ let k : q ≡ p = same_prefix-is q p s in
                            rw (s, k) (get_at-set_at_same same_prefix prefix_test p (offer domain (announced_at server.announcements p) server.edges slot) table)
                        | inr s ↦ rw s (get_at-set_at_other same_prefix prefix_test p q (offer domain (announced_at server.announcements p) server.edges slot) table s (same_prefix-other q p s))
                      ])
                ],
          );
    }
