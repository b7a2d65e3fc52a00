-- A turn of a session: what is known of it once it was taken, and what its connection is afterwards.
use Rattle.std.proofs.Common.{◌≡◌, ℕ, zero, suc, ◌<◌, Bool, true, false, cond, not, List, [], ◌∷◌, ◌++◌, length, map, set, get_or, Option, Some, None, IfSome, ◌⊎◌, inl, inr, refl, sym, ap, subst, ◌∙◌, arith}
use Rattle.std.specs.List.{position, remove, AllByRecursion}
use Rattle.std.proofs.lemmas.Bool.{eqb-true, both_ways}
use Rattle.std.specs.Prelude.{replicate}
use Rattle.std.proofs.lemmas.List.{map-append, length-replicate}
use Rattle.rcp_base.specs.Feed.{OutRecord}
use Rattle.rcp_base.specs.Octets.{AreOctets}
use Rattle.rcp_base.specs.Roster.{RosterOf}
use Rattle.rcp_base.specs.Maps.{set_at}
use Rattle.rcp_model.specs.LinkState.{same_number}
use Rattle.rcp_model.specs.Routes.{RouteFields}
use Rattle.rcp_model.specs.ServerRibs.{RibEvent}
use Rattle.rcp_model.specs.Sessions.{SessionState, Input, Octets, Seat, Moment, End, Answer, Doing, is_closed, then_also, answer, begun, begun_established, seat_of}
use Rattle.rcp_model.specs.Telling.{BringsOctets, IsTold}
use Rattle.rcp_model.proofs.KeptLemmas.{kept-octets, told-answer}
use Rattle.rcp_model.proofs.ServerLemmas.{number_test}
use Rattle.feed_meaning.specs.Platform.{Connections, Platform}
use Rattle.feed_meaning.specs.OutRecords.{messages_to, end_record}
use Rattle.feed_meaning.specs.SessionTurns.{Turn as Defined, turn, simple_turn, octets_turn, claim_turn, connection_at, if_open, is_slot, is_free, turn_output}
use Rattle.session_core.specs.declared.actions.Actions.{Actions}
use Rattle.session_core.specs.Shown.{doing_of}
use Rattle.session_core.specs.Held.{Answers}
use Rattle.platform_laws.specs.Turns.{events_of_seat, shard_events}
use Rattle.platform_core.specs.declared.sessions.Connection.{Connection}
use Rattle.platform_core.specs.declared.turns.Turn.{Turn}
use Rattle.platform_core.specs.Open.{connection_in, sessions_in, AreNumbered, numbers_of, IsWhole, AreSeated, AreOpen}
use Rattle.platform_core.specs.Turns.{events_in, output_in, IsInForm, at_time, sessions_after, DoAs, TookTurn}
use Rattle.platform_core.proofs.CourseLemmas.{claim_in, octets_follow, time_keeps, end_keeps, seat_given}
use Rattle.platform_core.proofs.SeatLemmas.{seat_at, IsMoved, IsAllowed, moved_seats, keeps_allowed, keeps_member, within_at, same_seated, same_removed}
use Rattle.platform_core.proofs.ListMaps.{IsPlace, place_is, nothing_there, put_new}
use Rattle.platform_core.proofs.ConnectionLemmas.{all_at, all_both, below_none, get_set, settled, entries_settled, numbered_settled, all_settled, numbers_push, place_within, found_at, connected_at, disconnected}

-- ---- lists

pub map_at : {X Y : Type 0} (f : X → Y) (xs : List X) (i : ℕ) (x : X) → i < length xs → x ≡ get_or xs i x → (i < length (map f xs)) × (f x ≡ get_or (map f xs) i (f x))
map_at f [] i x within is = absurd (omega arith)
map_at f (y ∷ xs) zero x within is = (omega arith, ap f is)
map_at f (y ∷ xs) (suc i) x within is = let more = map_at f xs i x (omega arith) is in (omega (arith, more.0), more.1)

pub map_set : {X Y : Type 0} (f : X → Y) (xs : List X) (i : ℕ) (y : X) → map f (set xs i y) ≡ set (map f xs) i (f y)
map_set f [] i y = refl
map_set f (x ∷ xs) zero y = refl
map_set f (x ∷ xs) (suc i) y = ap (λ l. f x ∷ l) (map_set f xs i y)

-- what is read of octets fits one
pub octets_fit : (octets : List ℕ) → ((k : ℕ) → get_or octets k 0 < 256) → AreOctets octets
octets_fit octets fits k d less = subst (λ (n : ℕ). n < 256) (same octets k d less) (fits k) where
  same : (l : List ℕ) (j e : ℕ) → j < length l → get_or l j 0 ≡ get_or l j e
  same [] j e less = absurd (omega arith)
  same (x ∷ l) zero e less = refl
  same (x ∷ l) (suc j) e less = same l j e (omega arith)

-- ---- a turn of the session at a place

pub whole_after : (roster : RosterOf) (input : Input) (c now : Connection) (actions : Actions) → IsWhole c → BringsOctets input
    → Answers (answer roster input c.session.state) c.session now.session actions → IsWhole now
whole_after roster input c now actions whole brings did =
    record { unspent = did.now; kept = subst (λ (s : SessionState). AreOctets s.kept) (sym did.after) (kept-octets roster input c.session.state whole.kept brings) }

seated_at : (xs : List Connection) (held new : List Bool) (i : ℕ) (c now : Connection) → AreOpen xs held → i < length xs → c ≡ get_or xs i c → length new ≡ length held
    → IsMoved (seat_at (connection_in c)) (seat_at (connection_in now)) held new → IsAllowed (sessions_in xs) (seat_at (connection_in c)) (seat_at (connection_in now))
    → IfSome (seat_at (connection_in now)) (λ slot. slot < length held) → AreSeated (sessions_in (set xs i now)) new
seated_at xs held new i c now opened within is len moved allowed member =
    let at = map_at connection_in xs i c within is in
    subst (λ (es : Connections). AreSeated es new) (sym (map_set connection_in xs i now))
    (moved_seats (sessions_in xs) i (connection_in c) (connection_in now) held new at.0 at.1 opened.seated len moved allowed member)

pub seat_within : (xs : List Connection) (held : List Bool) (i : ℕ) (c : Connection) → AreOpen xs held → i < length xs → c ≡ get_or xs i c → IfSome (seat_at (connection_in c)) (λ slot. slot < length held)
seat_within xs held i c opened within is =
    let at = map_at connection_in xs i c within is in within_at (length held) (sessions_in xs) i (connection_in c) opened.seated.within at.0 at.1

-- What the code knows of a turn: the session of the connection at a place did this at an input.
pub record Took (roster : RosterOf) (input : Input) (xs : List Connection) (held new : List Bool) (i : ℕ) (c now : Connection) (taken : Turn) : Type 0 where
  pub opened : AreOpen xs held
  pub brings : BringsOctets input
  pub within : i < length xs
  pub is : c ≡ get_or xs i c
  pub len : length new ≡ length held
  pub members : length held ≡ length roster.members
  pub moved : IsMoved (seat_at (connection_in c)) (seat_at (connection_in now)) held new
  pub keeps : (seat_at (connection_in now) ≡ None) ⊎ (seat_at (connection_in now) ≡ seat_at (connection_in c))
  pub number : now.number ≡ c.number
  pub number_is : taken.number ≡ c.number
  pub seat_is : taken.seat ≡ seat_at (connection_in c)
  pub did : Answers (answer roster input c.session.state) c.session now.session taken.actions

pub took_simple : (roster : RosterOf) (input : Input) (xs : List Connection) (held new : List Bool) (i : ℕ) (c now : Connection) (taken : Turn) → Took roster input xs held new i c now taken
    → TookTurn roster (simple_turn roster input (connection_in c)) xs (set xs i now) new i taken
took_simple roster input xs held new i c now taken t =
    let whole = all_at IsWhole xs i c t.opened.whole t.within t.is in
    let member = seat_within xs held i c t.opened t.within t.is in
    record {
      now = now;
      connections = refl;
      whole = whole_after roster input c now taken.actions whole t.brings t.did;
      number = t.number;
      after = t.did.after;
      seated = seated_at xs held new i c now t.opened t.within t.is t.len t.moved (keeps_allowed (sessions_in xs) (seat_at (connection_in c)) (seat_at (connection_in now)) t.keeps)
          (keeps_member (length held) (seat_at (connection_in c)) (seat_at (connection_in now)) t.keeps member);
      number_is = t.number_is;
      seat_is = t.seat_is;
      does = t.did.does;
      form = record {
        told = subst (λ (d : Doing). AllByRecursion (IsTold roster.as_number) d.events) (sym t.did.does) (told-answer roster input c.session.state whole.kept t.brings);
        within = subst (λ (o : Option ℕ). IfSome o (λ slot. slot < length roster.members)) (sym t.seat_is) (subst (λ (n : ℕ). IfSome (seat_at (connection_in c)) (λ slot. slot < n)) t.members member);
      };
    }

pub time_kept : (roster : RosterOf) (now : ℕ) (c next : Connection) (actions : Actions) → Answers (answer roster (Moment now) c.session.state) c.session next.session actions
    → (seat_at (connection_in next) ≡ None) ⊎ (seat_at (connection_in next) ≡ seat_at (connection_in c))
time_kept roster now c next actions did =
    subst (λ (s : SessionState). (seat_of s.phase ≡ None) ⊎ (seat_of s.phase ≡ seat_of c.session.state.phase)) (sym did.after) (time_keeps roster now c.session.state)

pub end_kept : (roster : RosterOf) (c next : Connection) (actions : Actions) → Answers (answer roster End c.session.state) c.session next.session actions
    → (seat_at (connection_in next) ≡ None) ⊎ (seat_at (connection_in next) ≡ seat_at (connection_in c))
end_kept roster c next actions did =
    subst (λ (s : SessionState). (seat_of s.phase ≡ None) ⊎ (seat_of s.phase ≡ seat_of c.session.state.phase)) (sym did.after) (end_keeps roster c.session.state)

pub octets_kept : (roster : RosterOf) (octets : List ℕ) (now : ℕ) (c next : Connection) (actions : Actions) → Answers (answer roster (Octets octets now) c.session.state) c.session next.session actions
    → (seat_at (connection_in next) ≡ None) ⊎ (seat_at (connection_in next) ≡ seat_at (connection_in c))
octets_kept roster octets now c next actions did =
    subst (λ (s : SessionState). (seat_of s.phase ≡ None) ⊎ (seat_of s.phase ≡ seat_of c.session.state.phase)) (sym did.after) (octets_follow roster octets now c.session.state).seat

-- what is known of the seats, by what the code asked
pub moved_by : (before now asked answered : Option ℕ) (held new : List Bool) → asked ≡ before → answered ≡ now → IsMoved asked answered held new → IsMoved before now held new
moved_by before now asked answered held new before_is now_is moved slot =
    moved slot ∙ (λ i. cond (is_slot slot (now_is i)) true (cond (is_slot slot (before_is i)) false (get_or held slot false)))

pub if_within : (members : ℕ) (seat asked : Option ℕ) → asked ≡ seat → IfSome seat (λ slot. slot < members) → IfSome asked (λ slot. slot < members)
if_within members seat asked is within = subst (λ (o : Option ℕ). IfSome o (λ slot. slot < members)) (sym is) within

-- a roster, where any does
abbrev pub any_roster : RosterOf
any_roster = record { as_number = 0; id = 0; shards = 0; hold = 0; area = 0; members = []; links = [] }

abbrev pub roster_with : ℕ → RosterOf
roster_with n = record any_roster { members = replicate n (record { router = 0; bgp_id = 0 }) }

pub has_members : (n : ℕ) → n ≡ length (roster_with n).members
has_members n = sym (length-replicate n _)

-- octets by which no seat is claimed
pub took_unclaimed : (roster : RosterOf) (time : ℕ) (octets : List ℕ) (xs : List Connection) (held new : List Bool) (i : ℕ) (c now : Connection) (taken : Turn)
    → Took roster (Octets octets time) xs held new i c now taken → taken.actions.claim ≡ None
    → TookTurn roster (octets_turn (at_time roster time (sessions_in xs)) octets (connection_in c)) xs (set xs i now) new i taken
took_unclaimed roster time octets xs held new i c now taken t none =
    let first = answer roster (Octets octets time) c.session.state in
    let unclaimed : first.does.claim ≡ None = ap (λ (d : Doing). d.claim) (sym t.did.does) ∙ none in
    subst (λ (o : Option ℕ). TookTurn roster (claim_turn (at_time roster time (sessions_in xs)) c.number (seat_of c.session.state.phase) first o) xs (set xs i now) new i taken) (sym unclaimed)
    (took_simple roster (Octets octets time) xs held new i c now taken t)

-- a claim that is answered at once
pub record Claimed (roster : RosterOf) (time : ℕ) (octets : List ℕ) (xs : List Connection) (held new : List Bool) (i : ℕ) (c between now : Connection) (slot : ℕ) (free : Bool) (first second : Actions) (taken : Turn) : Type 0 where
  pub opened : AreOpen xs held
  pub brings : AreOctets octets
  pub within : i < length xs
  pub is : c ≡ get_or xs i c
  pub len : length new ≡ length held
  pub members : length held ≡ length roster.members
  pub moved : IsMoved (seat_at (connection_in c)) (seat_at (connection_in now)) held new
  pub number : now.number ≡ c.number
  pub claim : first.claim ≡ Some slot
  pub free_is : free ≡ not (get_or held slot false)
  pub did : Answers (answer roster (Octets octets time) c.session.state) c.session between.session first
  pub then_did : Answers (answer roster (Seat free time) between.session.state) between.session now.session second
  pub number_is : taken.number ≡ c.number
  pub seat_is : taken.seat ≡ cond free (Some slot) None
  pub does : doing_of taken.actions ≡ then_also (doing_of first) (doing_of second)

not-not : (b : Bool) → not (not b) ≡ b
not-not true = refl
not-not false = refl

-- the seat that is claimed is that of a router, and the session waits for it
pub claim_is : (roster : RosterOf) (time : ℕ) (octets : List ℕ) (c between : Connection) (slot : ℕ) (first : Actions) → first.claim ≡ Some slot
    → Answers (answer roster (Octets octets time) c.session.state) c.session between.session first → (slot < length roster.members) × (claim_in between.session.state.phase ≡ Some slot)
claim_is roster time octets c between slot first claim did =
    let one = (octets_follow roster octets time c.session.state).claim slot (ap (λ (d : Doing). d.claim) (sym did.does) ∙ claim) in
    (one.0, ap (λ (s : SessionState). claim_in s.phase) did.after ∙ one.1)

pub slot_claimed : (roster : RosterOf) (time : ℕ) (octets : List ℕ) (c between : Connection) (slot : ℕ) (first : Actions) → first.claim ≡ Some slot
    → Answers (answer roster (Octets octets time) c.session.state) c.session between.session first → slot < length roster.members
slot_claimed roster time octets c between slot first claim did = (claim_is roster time octets c between slot first claim did).0

-- what the seat afterwards may be
pub seat_claimed : (roster : RosterOf) (time slot : ℕ) (free : Bool) (between now : Connection) (second : Actions) → claim_in between.session.state.phase ≡ Some slot
    → Answers (answer roster (Seat free time) between.session.state) between.session now.session second
    → (seat_at (connection_in now) ≡ None) ⊎ ((free ≡ true) × (seat_at (connection_in now) ≡ Some slot))
seat_claimed roster time slot free between now second waits did =
    subst (λ (s : SessionState). (seat_of s.phase ≡ None) ⊎ ((free ≡ true) × (seat_of s.phase ≡ Some slot))) (sym did.after) (seat_given roster free time slot between.session.state waits)

claimed_allowed : (es : Connections) (before now : Option ℕ) (slot : ℕ) (free : Bool) → free ≡ is_free es slot → (now ≡ None) ⊎ ((free ≡ true) × (now ≡ Some slot)) → IsAllowed es before now
claimed_allowed es before now slot free free_is (inl none) s holds = absurd (both_ways (is_slot s now) (ap (is_slot s) none) holds)
claimed_allowed es before now slot free free_is (inr given) s holds =
    let same : slot ≡ s = eqb-true slot s (sym (ap (is_slot s) given.1) ∙ holds) in
    inr (ap (is_free es) (sym same) ∙ sym free_is ∙ given.0)

pub claimed_member : (members : ℕ) (now : Option ℕ) (slot : ℕ) (free : Bool) → slot < members → (now ≡ None) ⊎ ((free ≡ true) × (now ≡ Some slot)) → IfSome now (λ s. s < members)
claimed_member members now slot free less (inl none) = subst (λ (o : Option ℕ). IfSome o (λ s. s < members)) (sym none) tt
claimed_member members now slot free less (inr given) = subst (λ (o : Option ℕ). IfSome o (λ s. s < members)) (sym given.1) less

given_member : (members slot : ℕ) (free : Bool) → slot < members → IfSome (cond free (Some slot) None) (λ s. s < members)
given_member members slot true less = less
given_member members slot false less = tt

pub took_claimed : (roster : RosterOf) (time : ℕ) (octets : List ℕ) (xs : List Connection) (held new : List Bool) (i : ℕ) (c between now : Connection) (slot : ℕ) (free : Bool) (first second : Actions) (taken : Turn)
    → Claimed roster time octets xs held new i c between now slot free first second taken
    → TookTurn roster (octets_turn (at_time roster time (sessions_in xs)) octets (connection_in c)) xs (set xs i now) new i taken
took_claimed roster time octets xs held new i c between now slot free first second taken t =
    let es = sessions_in xs in
    let p = at_time roster time es in
    let one = answer roster (Octets octets time) c.session.state in
    let whole = all_at IsWhole xs i c t.opened.whole t.within t.is in
    let claimed : one.does.claim ≡ Some slot = ap (λ (d : Doing). d.claim) (sym t.did.does) ∙ t.claim in
    let waits = claim_is roster time octets c between slot first t.claim t.did in
    let free_too : free ≡ is_free es slot = t.free_is ∙ ap not (t.opened.seated.known slot) ∙ not-not (is_free es slot) in
    let gives = seat_claimed roster time slot free between now second waits.1 t.then_did in
    let less : slot < length held = subst (λ (n : ℕ). slot < n) (sym t.members) waits.0 in
    let middle = whole_after roster (Octets octets time) c between first whole t.brings t.did in
    let two : Answers (answer roster (Seat (is_free es slot) time) one.after) between.session now.session second =
    subst (λ (s : SessionState). Answers (answer roster (Seat (is_free es slot) time) s) between.session now.session second) t.did.after
    (subst (λ (b : Bool). Answers (answer roster (Seat b time) between.session.state) between.session now.session second) free_too t.then_did) in
    let kept : AreOctets one.after.kept = subst (λ (s : SessionState). AreOctets s.kept) t.did.after middle.kept in
    let does_is : doing_of taken.actions ≡ then_also one.does (answer roster (Seat (is_free es slot) time) one.after).does =
    t.does ∙ ap (λ (d : Doing). then_also d (doing_of second)) t.did.does ∙ ap (then_also one.does) two.does in
    subst (λ (o : Option ℕ). TookTurn roster (claim_turn p c.number (seat_of c.session.state.phase) one o) xs (set xs i now) new i taken) (sym claimed)
    (record {
      now = now;
      connections = refl;
      whole = whole_after roster (Seat free time) between now second middle tt t.then_did;
      number = t.number;
      after = two.after;
      seated = seated_at xs held new i c now t.opened t.within t.is t.len t.moved
          (claimed_allowed es (seat_at (connection_in c)) (seat_at (connection_in now)) slot free free_too gives) (claimed_member (length held) (seat_at (connection_in now)) slot free less gives);
      number_is = t.number_is;
      seat_is = t.seat_is ∙ ap (λ (b : Bool). cond b (Some slot) None) free_too;
      does = does_is;
      form = record {
        told = subst (λ (d : Doing). AllByRecursion (IsTold roster.as_number) d.events) (sym does_is)
            (all_both (IsTold roster.as_number) one.does.events (answer roster (Seat (is_free es slot) time) one.after).does.events
            (told-answer roster (Octets octets time) c.session.state whole.kept t.brings)
            (told-answer roster (Seat (is_free es slot) time) one.after kept tt));
        within = subst (λ (o : Option ℕ). IfSome o (λ s. s < length roster.members)) (sym t.seat_is) (given_member (length roster.members) slot free waits.0);
      };
    })

-- ---- a turn that was taken

-- what a turn does, by the types of the code
pub events_are : (taken : Turn) (turn : Defined) → taken.seat ≡ turn.seat → doing_of taken.actions ≡ turn.answer.does → events_in taken ≡ shard_events turn
events_are taken turn seat does = ap (λ (o : Option ℕ). events_of_seat o (doing_of taken.actions)) seat ∙ ap (events_of_seat turn.seat) does

pub output_is : (taken : Turn) (turn : Defined) → taken.number ≡ turn.number → doing_of taken.actions ≡ turn.answer.does → output_in taken ≡ turn_output turn
output_is taken turn number does =
    ap (λ (n : ℕ). messages_to n (doing_of taken.actions).sent ++ end_record n (doing_of taken.actions).closed) number
    ∙ ap (λ (d : Doing). messages_to turn.number d.sent ++ end_record turn.number d.closed) does

pub does_one : (roster : RosterOf) (turn : Defined) (taken : Turn) → taken.number ≡ turn.number → taken.seat ≡ turn.seat → doing_of taken.actions ≡ turn.answer.does → IsInForm roster taken
    → DoAs roster (turn ∷ []) (taken ∷ [])
does_one roster turn taken number seat does form = record {
  events = ap (λ (l : List (RibEvent RouteFields)). l ++ []) (events_are taken turn seat does);
  output = ap (λ (l : List OutRecord). l ++ []) (output_is taken turn number does);
  form = (form, tt);
}

pub does_nothing : (roster : RosterOf) → DoAs roster [] []
does_nothing roster = record { events = refl; output = refl; form = tt }

-- what the connections are after a turn, where a closed one is taken away
pub record Settled (turn : Defined) (xs zs : List Connection) (held : List Bool) : Type 0 where
  pub sessions : sessions_in zs ≡ set_at same_number turn.number (if_open turn.answer.after) (sessions_in xs)
  pub opened : AreOpen zs held

closed_seated : (xs : List Connection) (i : ℕ) (c : Connection) (held : List Bool) (closed : Bool) → is_closed c.session.state.phase ≡ closed → i < length xs → c ≡ get_or xs i c
    → AreSeated (sessions_in xs) held → AreSeated (sessions_in (settled closed xs i)) held
closed_seated xs i c held true closed within is seated = same_seated (sessions_in xs) (sessions_in (remove xs i)) held (same_removed xs i c within is closed) seated
closed_seated xs i c held false closed within is seated = seated

pub settles : (roster : RosterOf) (turn : Defined) (xs ys zs : List Connection) (held new : List Bool) (i : ℕ) (d : Connection) (taken : Turn)
    → AreOpen xs held → IsPlace (λ x. same_number d.number (connection_in x).0) xs i → d ≡ get_or xs i d → turn.number ≡ d.number
    → TookTurn roster turn xs ys new i taken → ((c : Connection) → c ≡ get_or ys i c → zs ≡ settled (is_closed c.session.state.phase) ys i)
    → Settled turn xs zs new
settles roster turn xs ys zs held new i d taken opened there d_is number took left =
    let place = subst (λ (n : ℕ). IsPlace (λ (x : Connection). same_number n (connection_in x).0) xs i) (sym number) there in
    let now = took.now in
    let within = place_within (λ (x : Connection). same_number turn.number (connection_in x).0) xs i place in
    let at : now ≡ get_or (set xs i now) i now = get_set xs i now now within in
    let here : now ≡ get_or ys i now = at ∙ ap (λ (l : List Connection). get_or l i now) (sym took.connections) in
    let zs_are : zs ≡ settled (is_closed now.session.state.phase) (set xs i now) i = left now here ∙ ap (λ (l : List Connection). settled (is_closed now.session.state.phase) l i) took.connections in
    record {
      sessions =
          ap sessions_in zs_are ∙ entries_settled turn.number xs i now (is_closed now.session.state.phase) opened.numbered within place took.number refl
          ∙ ap (λ (s : SessionState). set_at same_number turn.number (if_open s) (sessions_in xs)) took.after;
      opened = subst (λ (l : List Connection). AreOpen l new) (sym zs_are) (record {
        numbered = numbered_settled xs i d now (is_closed now.session.state.phase) opened.numbered within d_is (took.number ∙ number);
        whole = all_settled IsWhole xs i now (is_closed now.session.state.phase) opened.whole took.whole;
        seated = closed_seated (set xs i now) i now new (is_closed now.session.state.phase) refl (set_less xs i now within) at
            (subst (λ (l : List Connection). AreSeated (sessions_in l) new) took.connections took.seated);
      });
    } where
      set_less : (l : List Connection) (k : ℕ) (y : Connection) → k < length l → k < length (set l k y)
      set_less [] k y less = absurd (omega arith)
      set_less (x ∷ l) zero y less = omega arith
      set_less (x ∷ l) (suc k) y less = omega (arith, set_less l k y (omega arith))

-- the connection of a number, at its place
pub record Found (number : ℕ) (xs : List Connection) (i : ℕ) : Type 0 where
  pub connection : Connection
  pub is : connection ≡ get_or xs i connection
  pub place : IsPlace (λ x. same_number connection.number (connection_in x).0) xs i
  pub within : i < length xs
  pub same : number ≡ connection.number
  pub at : connection_at (sessions_in xs) number ≡ connection_in connection ∷ []

pub found : (number : ℕ) (xs zs : List Connection) (i : ℕ) → zs ≡ xs → Some i ≡ position (λ (x : Connection). same_number number (connection_in x).0) zs → Found number xs i
found number xs zs i read some =
    let place : IsPlace (λ (x : Connection). same_number number (connection_in x).0) xs i = place_is (λ (x : Connection). same_number number (connection_in x).0) xs i
    (ap (position (λ (x : Connection). same_number number (connection_in x).0)) (sym read) ∙ sym some) in
    let within = place_within (λ (x : Connection). same_number number (connection_in x).0) xs i place in
    let one = found_at xs i within in
    let at = connected_at number xs i one.0 place one.1 in
    record {
      connection = one.0;
      is = one.1;
      place = subst (λ (n : ℕ). IsPlace (λ (x : Connection). same_number n (connection_in x).0) xs i) at.0 place;
      within = within;
      same = at.0;
      at = at.1;
    }

pub not_found : (number : ℕ) (xs zs : List Connection) → zs ≡ xs → None ≡ position (λ (x : Connection). same_number number (connection_in x).0) zs → connection_at (sessions_in xs) number ≡ []
not_found number xs zs read none = disconnected number (sessions_in xs) (nothing_there same_number number_test connection_in number xs zs read none)

claim-number : (p : Platform) (n : ℕ) (seat : Option ℕ) (first : Answer) (claim : Option ℕ) → (claim_turn p n seat first claim).number ≡ n
claim-number p n seat first None = refl
claim-number p n seat first (Some slot) = refl

pub octets-number : (p : Platform) (octets : List ℕ) (e : ℕ × SessionState) → (octets_turn p octets e).number ≡ e.0
octets-number p octets e =
    let first = answer p.roster (Octets octets p.moment) e.1 in claim-number p e.0 (seat_of e.1.phase) first first.does.claim

-- ---- how sessions begin

pub begun-still : (roster : RosterOf) (now : ℕ) → is_closed (begun roster now).after.phase ≡ false
unfolding begun
begun-still roster now = refl

pub begun-seat : (roster : RosterOf) (now : ℕ) → seat_of (begun roster now).after.phase ≡ None
unfolding begun
begun-seat roster now = refl

pub established-still : (slot : ℕ) → is_closed (begun_established slot).after.phase ≡ false
unfolding begun_established
established-still slot = refl

pub established-seat : (slot : ℕ) → seat_of (begun_established slot).after.phase ≡ Some slot
unfolding begun_established
established-seat slot = refl

pub no-octets-begun : (roster : RosterOf) (now : ℕ) → AreOctets (begun roster now).after.kept
unfolding begun
no-octets-begun roster now = λ k d within. absurd (omega (arith, within))

pub no-octets-established : (slot : ℕ) → AreOctets (begun_established slot).after.kept
unfolding begun_established
no-octets-established slot = λ k d within. absurd (omega (arith, within))

pub told-begun : (roster : RosterOf) (now : ℕ) → AllByRecursion (IsTold roster.as_number) (begun roster now).does.events
unfolding begun
told-begun roster now = tt

pub told-established : (as_number slot : ℕ) → AllByRecursion (IsTold as_number) (begun_established slot).does.events
unfolding begun_established
told-established as_number slot = (tt, tt)

-- a connection that is opened
pub opened_one : (t : Defined) (cs ds : List Connection) (new : Connection) → AllByRecursion (λ (e : ℕ × SessionState). e.0 < t.number) (sessions_in cs)
    → ds ≡ cs ++ new ∷ [] → new.number ≡ t.number → new.session.state ≡ t.answer.after → is_closed t.answer.after.phase ≡ false
    → sessions_in ds ≡ sessions_after (t ∷ []) (sessions_in cs)
opened_one t cs ds new above more number after still =
    let absent = below_none t.number (sessions_in cs) above in
    let put : set_at same_number t.number (if_open t.answer.after) (sessions_in cs) ≡ sessions_in cs ++ (t.number, t.answer.after) ∷ [] =
    rw still (put_new same_number t.number t.answer.after (sessions_in cs) absent) in
    ap sessions_in more ∙ map-append connection_in cs (new ∷ [])
    ∙ ap (λ (n : ℕ). sessions_in cs ++ (let e : ℕ × SessionState = (n, new.session.state) in e) ∷ []) number
    ∙ ap (λ (s : SessionState). sessions_in cs ++ (let e : ℕ × SessionState = (t.number, s) in e) ∷ []) after
    ∙ sym put

pub numbered_more : (cs ds : List Connection) (new : Connection) → AreNumbered (numbers_of (sessions_in cs)) → AllByRecursion (λ (e : ℕ × SessionState). e.0 < new.number) (sessions_in cs) → ds ≡ cs ++ new ∷ []
    → AreNumbered (numbers_of (sessions_in ds))
numbered_more cs ds new numbered above more =
    subst (λ (l : List ℕ). AreNumbered l)
    (sym (ap (λ (l : List Connection). numbers_of (sessions_in l)) more ∙ ap numbers_of (map-append connection_in cs (new ∷ [])) ∙ map-append (λ (e : ℕ × SessionState). e.0) (sessions_in cs) (connection_in new ∷ [])))
    (numbers_push (numbers_of (sessions_in cs)) new.number numbered (below (sessions_in cs) above)) where
      below : (es : Connections) → AllByRecursion (λ (e : ℕ × SessionState). e.0 < new.number) es → AllByRecursion (λ m. m < new.number) (numbers_of es)
      below [] all = tt
      below (e ∷ es) all = (all.0, below es all.1)
