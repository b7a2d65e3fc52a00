-- The records of a generated feed, kind by kind, are in form and known to its roster.
use Rattle.std.proofs.Common.{◌≡◌, ℕ, zero, suc, ◌+◌, ◌*◌, ◌^◌, ◌<◌, ◌≤◌, false, true, eqb, List, [], ◌∷◌, ◌++◌, length, map, replicate, None, refl, sym, ap, subst, ◌∙◌, arith, length-append, append_assoc}
use Rattle.std.specs.Prelude.{◌==◌, nat_lt, if◌then◌else◌, Some}
use Rattle.std.specs.List.{flat_map, AllByRecursion}
use Rattle.std.specs.Int.{w16, to_be_bytes, from_be_bytes}
use Rattle.std.proofs.lemmas.Bool.{lt-ltb, ne_eqb, eq-eqb}
use Rattle.std.proofs.lemmas.Nat.{from_be_bytes-to_be_bytes_2}
use Rattle.std.proofs.lemmas.List.Elements.{All-nil}
use Rattle.rcp_base.specs.Octets.{AreOctets}
use Rattle.rcp_base.specs.declared.kinds.Kind.{Kind}
use Rattle.rcp_base.specs.declared.kinds.Kind.TheVariants as kinds
use Rattle.rcp_base.specs.declared.kinds.FeedWhy.{FeedWhy}
use Rattle.rcp_base.specs.declared.kinds.FeedWhy.TheVariants as why
use Rattle.rcp_base.specs.Feed.{FeedRecord, FeedState, IsRecord, is_finish, after}
use Rattle.rcp_model.specs.Messages.{message_octets}
use Rattle.rcp_model.proofs.AllLemmas.{all-append}
use Rattle.feed_meaning.specs.WholeFeeds.{kind_fault, roster_fault}
use Rattle.feed_laws.specs.FeedReading.{state_after}
use Rattle.feed_make.specs.Numbers.{numbers_from}
use Rattle.feed_make.specs.Networks.{changed_link}
use Rattle.feed_make.specs.Routes.{group_place, first_of, second_of, third_of, announcement}
use Rattle.feed_make.specs.Feeds.{item, connection, open_message, session_of, packet_octets, lsas, links_item, first_packet, change_packet, announced_by, group_of, drain, slice_body, slices_of, end_of, ends, sessions, packets, groups, slices, changes}
use Rattle.feed_make.proofs.Ranges.{numbers-cons, numbers-none, length-numbers, length-map-numbers}
use Rattle.feed_make.proofs.Networks.{draw-below}
use Rattle.feed_make.proofs.Lengths.{forty_short, two_short, short_announcement}
use Rattle.make_laws.specs.Made.{made_roster}
use Rattle.make_laws.proofs.BodyLemmas.{open-octets, keepalive-octets, announcement-octets, packet-octets, packet-short, slice-octets}
use Rattle.make_laws.proofs.RecordLemmas.{IsPlain, IsAt, IsAt-more, Goes, Goes-append, plain-goes, begun_by, begun-form, begun-step}

-- The roster knows what the record names.
abbrev pub IsKnown : FeedRecord → Type 0
IsKnown r = roster_fault made_roster r ≡ None

pub record IsGood (r : FeedRecord) : Type 0 where
  pub plain : IsPlain r
  pub known : IsKnown r

-- ---- each kind

nonzero : (n : ℕ) → ((n + 1) == 0) ≡ false
nonzero n = ne_eqb (n + 1) 0 (λ e. omega arith)

octets-good : (router : ℕ) (body : List ℕ) → router < 400 → length body ≤ 65536 → AreOctets body → IsGood (item kinds.Octets (connection router) body)
unfolding roster_fault
octets-good router body member short octets = record {
  plain = record {
    form = record { source = omega arith; length = short; octets = octets };
    begins_none = refl;
    timeless = refl;
    rosterless = refl;
    going = refl;
    long = same (length body);
    source = nonzero router;
  };
  known = refl;
} where
  same : (n : ℕ) → (n == n) ≡ true
  same n = eq-eqb n n refl

links-good : (body : List ℕ) → length body ≤ 65536 → AreOctets body → IsGood (item kinds.Links 0 body)
unfolding roster_fault
links-good body short octets = record {
  plain = record {
    form = record { source = omega arith; length = short; octets = octets };
    begins_none = refl;
    timeless = refl;
    rosterless = refl;
    going = refl;
    long = eq-eqb (length body) (length body) refl;
    source = refl;
  };
  known = refl;
}

slice-good : (shard : ℕ) → shard < 8 → IsGood (item kinds.Slice 0 (slice_body shard))
unfolding roster_fault
slice-good shard less = record {
  plain = record {
    form = record { source = omega arith; length = omega arith; octets = slice-octets shard };
    begins_none = refl;
    timeless = refl;
    rosterless = refl;
    going = refl;
    long = refl;
    source = refl;
  };
  known =
      ap (λ n. if nat_lt n 8 then None else Some why.BadShard) (from_be_bytes-to_be_bytes_2 shard (omega arith))
      ∙ (let below : nat_lt shard 8 ≡ true = lt-ltb shard 8 less in rw below refl);
}

drain-good : IsGood drain
unfolding roster_fault
drain-good = record {
  plain = record {
    form = record { source = omega arith; length = omega arith; octets = All-nil (λ o. o < 256) };
    begins_none = refl;
    timeless = refl;
    rosterless = refl;
    going = refl;
    long = refl;
    source = refl;
  };
  known = refl;
}

end-good : (router : ℕ) → router < 400 → IsGood (end_of router)
unfolding roster_fault
end-good router member = record {
  plain = record {
    form = record { source = omega arith; length = omega arith; octets = All-nil (λ o. o < 256) };
    begins_none = refl;
    timeless = refl;
    rosterless = refl;
    going = refl;
    long = refl;
    source = nonzero router;
  };
  known = refl;
}

-- ---- lists of them

each-map : (f : ℕ → FeedRecord) (first count most : ℕ) → first + count ≤ most → ((n : ℕ) → n < most → IsGood (f n)) → AllByRecursion IsGood (map f (numbers_from first count))
each-map f first zero most within good = subst (λ (l : List ℕ). AllByRecursion IsGood (map f l)) (sym (numbers-none first)) tt
each-map f first (suc count) most within good =
    subst (λ (l : List ℕ). AllByRecursion IsGood (map f l)) (sym (numbers-cons first count)) (good first (omega arith), each-map f (first + 1) count most (omega arith) good)

each-flat_map : (f : ℕ → List FeedRecord) (first count most : ℕ) → first + count ≤ most → ((n : ℕ) → n < most → AllByRecursion IsGood (f n)) → AllByRecursion IsGood (flat_map f (numbers_from first count))
each-flat_map f first zero most within good = subst (λ (l : List ℕ). AllByRecursion IsGood (flat_map f l)) (sym (numbers-none first)) tt
each-flat_map f first (suc count) most within good =
    subst (λ (l : List ℕ). AllByRecursion IsGood (flat_map f l)) (sym (numbers-cons first count))
    (all-append IsGood (f first) (flat_map f (numbers_from (first + 1) count)) (good first (omega arith)) (each-flat_map f (first + 1) count most (omega arith) good))

long-flat_map : (f : ℕ → List FeedRecord) (each first count : ℕ) → ((n : ℕ) → length (f n) ≡ each) → length (flat_map f (numbers_from first count)) ≡ each * count
long-flat_map f each first zero long = ap (λ (l : List ℕ). length (flat_map f l)) (numbers-none first) ∙ omega arith
long-flat_map f each first (suc count) long =
    ap (λ (l : List ℕ). length (flat_map f l)) (numbers-cons first count)
    ∙ length-append (f first) (flat_map f (numbers_from (first + 1) count))
    ∙ omega (arith, long first, long-flat_map f each (first + 1) count long, distributes each count) where
      distributes : (a b : ℕ) → a + a * b ≡ a * suc b
      distributes a b = omega arith

packets-good : (number : ℕ) → AllByRecursion IsGood (packets number)
unfolding packets
packets-good number =
    each-map (first_packet number) 0 10 10 (omega arith)
    (λ i less. links-good (packet_octets (lsas number 0 (numbers_from (40 * i) 40))) (packet-short number 0 (numbers_from (40 * i) 40) (forty_short number 0 (40 * i) (length-numbers (40 * i) 40))) (packet-octets number 0 (numbers_from (40 * i) 40)))

announced-good : (number g place router : ℕ) → router < 400 → IsGood (announced_by number g place router)
announced-good number g place router member =
    octets-good router (announcement number place g router) member (omega (arith, short_announcement number place g router)) (announcement-octets number place g router)

group-good : (number g : ℕ) → AllByRecursion IsGood (group_of number g)
group-good number g =
    let first = announced-good number g (group_place g + 3) (first_of number g) (draw-below number (group_place g) 400 (omega arith)) in
    let second = announced-good number g (group_place g + 8) (second_of number g) (omega arith) in
    let third = announced-good number g (group_place g + 13) (third_of number g) (omega arith) in
    (first, (second, (third, tt)))

groups-good : (number : ℕ) → AllByRecursion IsGood (groups number)
unfolding groups
groups-good number = each-flat_map (group_of number) 0 400 400 (omega arith) (λ g less. group-good number g)

slices-good : AllByRecursion IsGood slices
unfolding slices
slices-good =
    all-append IsGood (flat_map slices_of (numbers_from 0 8)) (drain ∷ [])
    (each-flat_map slices_of 0 8 8 (omega arith) (λ shard less. let one = slice-good shard less in (one, (one, (one, (one, tt))))))
    (drain-good, tt)

changes-good : (number : ℕ) → AllByRecursion IsGood (changes number)
unfolding changes
changes-good number =
    all-append IsGood (map (change_packet number) (numbers_from 0 10)) (drain ∷ [])
    (each-map (change_packet number) 0 10 10 (omega arith)
    (λ k less. let from = (changed_link number k).from in let to = (changed_link number k).to in
    links-good (packet_octets (lsas number (suc k) (from ∷ to ∷ []))) (packet-short number (suc k) (from ∷ to ∷ []) (two_short number (suc k) from to)) (packet-octets number (suc k) (from ∷ to ∷ []))))
    (drain-good, tt)

-- ---- all but the sessions and the end

-- the connections that end, and the last work
abbrev pub last_ends : List FeedRecord
last_ends = map end_of (numbers_from 0 3) ++ drain ∷ []

ends-good : AllByRecursion IsGood last_ends
ends-good = all-append IsGood (map end_of (numbers_from 0 3)) (drain ∷ []) (each-map end_of 0 3 3 (omega arith) (λ router less. end-good router (omega arith))) (drain-good, tt)

abbrev pub later : ℕ → List FeedRecord
later number = packets number ++ (groups number ++ (slices ++ (changes number ++ last_ends)))

pub later-good : (number : ℕ) → AllByRecursion IsGood (later number)
later-good number =
    all-append IsGood (packets number) (groups number ++ (slices ++ (changes number ++ last_ends))) (packets-good number)
    (all-append IsGood (groups number) (slices ++ (changes number ++ last_ends)) (groups-good number)
    (all-append IsGood slices (changes number ++ last_ends) slices-good
    (all-append IsGood (changes number) last_ends (changes-good number) ends-good)))

pub later-long : (number : ℕ) → length (later number) ≡ 1258
unfolding packets groups slices changes
later-long number =
    omega (
      arith,
      length-append (packets number) (groups number ++ (slices ++ (changes number ++ last_ends))),
      length-append (groups number) (slices ++ (changes number ++ last_ends)),
      length-append slices (changes number ++ last_ends),
      length-append (changes number) last_ends,
      length-append (flat_map slices_of (numbers_from 0 8)) (drain ∷ []),
      length-append (map (change_packet number) (numbers_from 0 10)) (drain ∷ []),
      length-append (map end_of (numbers_from 0 3)) (drain ∷ []),
      length-map-numbers (first_packet number) 0 10,
      length-map-numbers (change_packet number) 0 10,
      length-map-numbers end_of 0 3,
      long-flat_map (group_of number) 3 0 400 (λ g. refl),
      long-flat_map slices_of 4 0 8 (λ shard. refl),
    )

-- ---- the sessions

abbrev sessions_from : ℕ → ℕ → List FeedRecord
sessions_from first count = flat_map session_of (numbers_from first count)

two-good : (router : ℕ) → router < 400 → AllByRecursion IsGood (item kinds.Octets (connection router) (open_message router) ∷ item kinds.Octets (connection router) (message_octets 4 []) ∷ [])
two-good router member = (
  octets-good router (open_message router) member (omega arith) (open-octets router),
  (octets-good router (message_octets 4 []) member (omega arith) keepalive-octets, tt),
)

pub plain_of : (items : List FeedRecord) → AllByRecursion IsGood items → AllByRecursion IsPlain items
plain_of [] each = tt
plain_of (r ∷ items) each = (each.0.plain, plain_of items each.1)

pub known_of : (items : List FeedRecord) → AllByRecursion IsGood items → AllByRecursion IsKnown items
known_of [] each = tt
known_of (r ∷ items) each = (each.0.known, known_of items each.1)

pub going_of : (items : List FeedRecord) → AllByRecursion IsGood items → AllByRecursion (λ r. is_finish r.kind ≡ false) items
going_of [] each = tt
going_of (r ∷ items) each = (each.0.plain.going, going_of items each.1)

session-goes : (state : FeedState) (router most : ℕ) → router < 400 → IsAt state router most → most + 196635 < 2 ^ 40 → Goes state (session_of router) (router + 1) (most + 196635)
session-goes state router most member at few =
    let begun = begun-step state router most at (omega arith) (omega arith) in
    let each = plain_of (item kinds.Octets (connection router) (open_message router) ∷ item kinds.Octets (connection router) (message_octets 4 []) ∷ []) (two-good router member) in
    let rest = plain-goes (item kinds.Octets (connection router) (open_message router) ∷ item kinds.Octets (connection router) (message_octets 4 []) ∷ [])
    (after state (begun_by (router + 1))) (router + 1) (most + 65545) each begun.1 (omega arith) in
    record {
      faultless = (begun-form (router + 1) (omega arith), begun.0, rest.faultless);
      at = IsAt-more _ (router + 1) (most + 65545 + 65545 * 2) (most + 196635) (omega arith) rest.at;
    }

pub sessions-go : (first count : ℕ) (state : FeedState) (most : ℕ) → first + count ≤ 400 → IsAt state first most → most + 196635 * count < 2 ^ 40
    → Goes state (sessions_from first count) (first + count) (most + 196635 * count)
sessions-go first zero state most within at few =
    subst (λ (l : List ℕ). Goes state (flat_map session_of l) (first + 0) (most + 196635 * 0)) (sym (numbers-none first))
    (record { faultless = tt; at = record { started = at.started; last_is = at.last_is ∙ omega arith; live = omega (arith, at.live); octets = omega (arith, at.octets) } })
sessions-go first (suc count) state most within at few =
    subst (λ (l : List ℕ). Goes state (flat_map session_of l) (first + suc count) (most + 196635 * suc count)) (sym (numbers-cons first count))
    (Goes-append state (session_of first) (sessions_from (first + 1) count) (first + 1) (first + suc count) (most + 196635) (most + 196635 * suc count)
    (session-goes state first most (omega arith) at (omega arith))
    (λ next. let later = sessions-go (first + 1) count (state_after state (session_of first)) (most + 196635) (omega arith) next (omega arith) in
    let last : first + 1 + count ≡ first + suc count = omega arith in
    let all : most + 196635 + 196635 * count ≡ most + 196635 * suc count = omega arith in
    subst (λ n. Goes (state_after state (session_of first)) (sessions_from (first + 1) count) n (most + 196635 * suc count)) last
    (subst (λ n. Goes (state_after state (session_of first)) (sessions_from (first + 1) count) (first + 1 + count) n) all later)))

session-known : (router : ℕ) → router < 400 → AllByRecursion IsKnown (session_of router)
unfolding roster_fault
session-known router member = (refl, (refl, (refl, tt)))

pub sessions-known : (first count : ℕ) → first + count ≤ 400 → AllByRecursion IsKnown (sessions_from first count)
sessions-known first zero within = subst (λ (l : List ℕ). AllByRecursion IsKnown (flat_map session_of l)) (sym (numbers-none first)) tt
sessions-known first (suc count) within =
    subst (λ (l : List ℕ). AllByRecursion IsKnown (flat_map session_of l)) (sym (numbers-cons first count))
    (all-append IsKnown (session_of first) (sessions_from (first + 1) count) (session-known first (omega arith)) (sessions-known (first + 1) count (omega arith)))

abbrev IsGoing : FeedRecord → Type 0
IsGoing r = is_finish r.kind ≡ false

pub sessions-going : (first count : ℕ) → AllByRecursion (λ r. is_finish r.kind ≡ false) (sessions_from first count)
sessions-going first zero = subst (λ (l : List ℕ). AllByRecursion IsGoing (flat_map session_of l)) (sym (numbers-none first)) tt
sessions-going first (suc count) =
    subst (λ (l : List ℕ). AllByRecursion IsGoing (flat_map session_of l)) (sym (numbers-cons first count))
    (all-append IsGoing (session_of first) (sessions_from (first + 1) count) (refl, (refl, (refl, tt))) (sessions-going (first + 1) count))
