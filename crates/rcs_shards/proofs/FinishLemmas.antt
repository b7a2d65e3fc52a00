-- All shards after work, when all cells are clean again, and what was sent.
use Rattle.std.proofs.Common.{◌≡◌, ℕ, Bool, true, false, eqb, List, [], length, map, take, Option, Some, None, refl, sym, ap, ◌∙◌, subst}
use Rattle.std.proofs.Math.ListN.{set}
use Rattle.std.specs.Prelude.{slice_get, option_map}
use Rattle.std.proofs.lemmas.Bool.{false≢true, eq-eqb, eqb-true}
use Rattle.std.proofs.lemmas.List.{length-map, length-set}
use Rattle.std.proofs.lemmas.Option.{slice_get-map, slice_get_within}
use Rattle.std.specs.FinSet as set_of
use Rattle.rcp_base.specs.IpPrefix.{IpPrefix}
use Rattle.rcp_base.specs.Roster.{RosterOf}
use Rattle.cost_rows.specs.Views.{ViewOf}
use Rattle.rcp_model.specs.Rising.{IsRising}
use Rattle.rcp_model.proofs.RisingLemmas.{rising-take}
use Rattle.rcp_model.specs.Routes.{RouteFields}
use Rattle.rcp_model.specs.ServerRibs.{Ribs}
use Rattle.rcp_model.specs.Packing.{packed}
use Rattle.platform_laws.specs.Parts.{shards_after_all, AreSound}
use Rattle.platform_laws.specs.Asked.{rising_of, all_pending}
use Rattle.platform_laws.specs.Work as work
use Rattle.platform_laws.specs.Work.{changed_prefixes, least_of}
use Rattle.platform_laws.proofs.RisingLists.{rising-rising_of}
use Rattle.rcs_shard.specs.Shards.{ShardOf}
use Rattle.rcs_shards.specs.Servers.{ServerOf, connected_in, edges_in, worked, sent, least_pending}
use Rattle.rcs_shards.specs.Dirty.{sliced, sliced_found, sliced_at, ribs_in, cleaned, AreReady, AreDirty, cells_of}
use Rattle.rcs_shards.specs.Joins.{server_of, IsPlaced, ArePlaced, AreTogether}
use Rattle.rcs_shards.proofs.PlaceLemmas.{found-map, map-found, same_found, map_over_map, set-found, set-others}
use Rattle.rcs_shards.proofs.EventLemmas.{sound-edges, sound-again}
use Rattle.rcs_shards.proofs.WorkLemmas.{own_of, worked_on, no_work, take-pending}
use Rattle.rcs_shards.proofs.ChangeLemmas.{all-worked, worked-dirty, worked-ready, sound-worked, found_before, rising-all, own-all, own-least, other-least}

-- what is clean has the same servers
pub ribs-cleaned : (shards : List ShardOf) → ribs_in (map cleaned shards) ≡ ribs_in shards
ribs-cleaned shards = map_over_map cleaned (λ (s : ShardOf). s.ribs) shards

module _ (roster : RosterOf) (view : ViewOf) (count : ℕ) (shards now : List ShardOf) (ps : List IpPrefix) (h : AreTogether roster view count shards)
    (long : length now ≡ length shards)
    (each : (n : ℕ) (s : ShardOf) → slice_get shards n ≡ Some s → slice_get now n ≡ Some (worked_on (own_of roster n ps) s)) where
  pub ready : AreReady roster now
  ready = worked-ready roster shards now ps h.placed h.sound h.seats long each

  pub after_work : ribs_in now ≡ shards_after_all roster (work.works ps) (ribs_in shards)
  after_work = all-worked roster shards now ps h.placed h.sound h.seats long each

  sound_now : AreSound roster (edges_in (ribs_in shards)) (connected_in (ribs_in shards)) (ribs_in now)
  sound_now = subst (AreSound roster (edges_in (ribs_in shards)) (connected_in (ribs_in shards))) (sym after_work)
      (sound-worked roster (edges_in (ribs_in shards)) (connected_in (ribs_in shards)) ps (ribs_in shards) h.sound)

  placed_clean : ArePlaced roster (map cleaned now)
  placed_clean n s is =
      let found = found-map cleaned now n s is in
      let before = found_before roster shards now ps h.placed h.sound h.seats long each n found.0 found.1 in
      let placed = h.placed n before.0 before.1 in
      let parts : cleaned (worked_on (own_of roster n ps) before.0) ≡ s = ap cleaned before.2 ∙ found.2 in
      subst (IsPlaced roster n) parts (record { number_is = placed.number_is; shards_are = placed.shards_are; members_are = placed.members_are; clean = refl })

  clean_now : AreTogether roster view count (map cleaned now)
  clean_now =
      let same_ribs = ribs-cleaned now in
      let sound : AreSound roster (edges_in (ribs_in shards)) (connected_in (ribs_in shards)) (ribs_in (map cleaned now)) =
      subst (AreSound roster (edges_in (ribs_in shards)) (connected_in (ribs_in shards))) (sym same_ribs) sound_now in
      let same = sound-edges roster (edges_in (ribs_in shards)) (connected_in (ribs_in shards)) (ribs_in (map cleaned now)) sound in
      record {
        placed = placed_clean;
        sound = sound-again roster (edges_in (ribs_in shards)) (connected_in (ribs_in shards)) (ribs_in (map cleaned now)) sound;
        seats = λ slot inside. h.seats slot (sym (ap (λ c. set_of.contains c slot) same.1) ∙ inside);
        few = h.few;
        members = h.members;
        edges = h.edges ∙ sym same.0;
        counted = h.counted ∙ ap set_of.len (sym same.1);
      }

  module _ (last : List ShardOf) (clean : last ≡ map cleaned now) where
    pub together-last : AreTogether roster view count last
    together-last = subst (AreTogether roster view count) (sym clean) clean_now

    pub ribs-last : ribs_in last ≡ ribs_in now
    ribs-last = ap ribs_in clean ∙ ribs-cleaned now

    pub worked-last : server_of roster last ≡ worked ps (server_of roster shards)
    worked-last = ap (λ (rs : List (Ribs RouteFields)). let s : ServerOf = record { roster = roster; shards = rs } in s) (ribs-last ∙ after_work)

    pub sent-last : (slots : List ℕ) (lists : List (List (List ℕ))) → IsRising ps
        → ((prefixes : ℕ → List IpPrefix) → ((slot : ℕ) → AreDirty roster now slot (prefixes slot)) → lists ≡ map (λ slot. packed (cells_of roster now slot (prefixes slot))) slots)
        → lists ≡ sent ps (server_of roster shards) (server_of roster last) slots
    sent-last slots lists rising h_sent =
        h_sent (λ slot. changed_prefixes roster ps (ribs_in shards) (ribs_in now) slot) (worked-dirty roster shards now ps h.placed h.sound h.seats long each rising)
        ∙ ap (λ (rs : List (Ribs RouteFields)). let s : ServerOf = record { roster = roster; shards = rs } in sent ps (server_of roster shards) s slots) (sym ribs-last)

-- ---- work on all pending prefixes, and on those of a slice

-- each shard has the work on its own of these prefixes
abbrev pub AreWorked : RosterOf → List ShardOf → List ShardOf → List IpPrefix → Type 0
AreWorked roster shards now ps = (n : ℕ) (s : ShardOf) → slice_get shards n ≡ Some s → slice_get now n ≡ Some (worked_on (own_of roster n ps) s)

-- what is known of a server after work on prefixes, and of what was sent
pub record Works (roster : RosterOf) (view : ViewOf) (count : ℕ) (now last : List ShardOf) (ps : List IpPrefix) (server : ServerOf) (slots : List ℕ) : Type 0 where
  pub ready : AreReady roster now
  pub together : last ≡ map cleaned now → AreTogether roster view count last
  pub after : last ≡ map cleaned now → server_of roster last ≡ worked ps server
  pub sent_is : last ≡ map cleaned now → (lists : List (List (List ℕ)))
      → ((prefixes : ℕ → List IpPrefix) → ((slot : ℕ) → AreDirty roster now slot (prefixes slot)) → lists ≡ map (λ slot. packed (cells_of roster now slot (prefixes slot))) slots)
      → lists ≡ sent ps server (server_of roster last) slots

module _ (roster : RosterOf) (view : ViewOf) (count : ℕ) (shards : List ShardOf) (h : AreTogether roster view count shards) (server : ServerOf) (is : server_of roster shards ≡ server) (now last : List ShardOf) (slots : List ℕ) where
  works : (ps : List IpPrefix) → IsRising ps → length now ≡ length shards → AreWorked roster shards now ps → Works roster view count now last ps server slots
  works ps rising long each = record {
    ready = ready roster view count shards now ps h long each;
    together = λ clean. together-last roster view count shards now ps h long each last clean;
    after = λ clean. worked-last roster view count shards now ps h long each last clean ∙ ap (worked ps) is;
    sent_is = λ clean lists h_sent. sent-last roster view count shards now ps h long each last clean slots lists rising h_sent ∙ ap (λ s. sent ps s (server_of roster last) slots) is;
  }

  all-each : now ≡ map (λ (s : ShardOf). sliced (set_of.len s.ribs.pending) s) shards → AreWorked roster shards now (all_pending (ribs_in shards))
  all-each made n s here =
      ap (λ l. slice_get l n) made
      ∙ map-found (λ (t : ShardOf). sliced (set_of.len t.ribs.pending) t) shards n s here
      ∙ ap (λ qs. Some (worked_on qs s)) (take-pending s.ribs
      ∙ sym (own-all roster (edges_in (ribs_in shards)) (connected_in (ribs_in shards)) (ribs_in shards) h.sound n s.ribs (map-found (λ (t : ShardOf). t.ribs) shards n s here)))

  pub works-all : now ≡ map (λ (s : ShardOf). sliced (set_of.len s.ribs.pending) s) shards → Works roster view count now last (all_pending server.shards) server slots
  works-all made =
      subst (λ rs. Works roster view count now last (all_pending rs) server slots) (ap (λ (t : ServerOf). t.shards) is)
      (works (all_pending (ribs_in shards)) (rising-all (ribs_in shards)) (ap length made ∙ length-map shards (λ (s : ShardOf). sliced (set_of.len s.ribs.pending) s)) (all-each made))

  none-each : AreWorked roster shards shards []
  none-each n s here = here ∙ ap (λ t. Some t) (sym (no_work s))

  one-each : (place most : ℕ) (t : ShardOf) → slice_get shards place ≡ Some t → AreWorked roster shards (set shards place (sliced most t)) (take most (rising_of t.ribs.pending))
  one-each place most t there n s here = by_place (eqb n place) refl where
    sound_place : slice_get (ribs_in shards) place ≡ Some t.ribs
    sound_place = map-found (λ (u : ShardOf). u.ribs) shards place t there

    by_place : (b : Bool) → eqb n place ≡ b → slice_get (set shards place (sliced most t)) n ≡ Some (worked_on (own_of roster n (take most (rising_of t.ribs.pending))) s)
    by_place true same =
        let at : n ≡ place = eqb-true n place same in
        let s_is : t ≡ s = same_found {o = slice_get shards n} t s (ap (slice_get shards) at ∙ there) here in
        ap (slice_get (set shards place (sliced most t))) at
        ∙ set-found shards place (sliced most t) (slice_get_within shards place t there)
        ∙ ap (λ qs. Some (worked_on qs t)) (sym (ap (λ k. own_of roster k (take most (rising_of t.ribs.pending))) at
        ∙ own-least roster (edges_in (ribs_in shards)) (connected_in (ribs_in shards)) (ribs_in shards) h.sound place most t.ribs sound_place))
        ∙ ap (λ u. Some (worked_on (own_of roster n (take most (rising_of t.ribs.pending))) u)) s_is
    by_place false apart =
        let other : n ≡ place → ⊥ = λ e. false≢true (sym apart ∙ eq-eqb n place e) in
        set-others shards place n (sliced most t) other
        ∙ here
        ∙ ap (λ u. Some u) (sym (no_work s))
        ∙ ap (λ qs. Some (worked_on qs s)) (sym (other-least roster (edges_in (ribs_in shards)) (connected_in (ribs_in shards)) (ribs_in shards) h.sound place most t.ribs sound_place n other))

  pub works-least : (place most : ℕ) → now ≡ sliced_at place most shards → Works roster view count now last (least_pending place most server) server slots
  works-least place most made =
      subst (λ rs. Works roster view count now last (least_of (slice_get rs place) most) server slots) (ap (λ (t : ServerOf). t.shards) is) (by_found (slice_get shards place) refl made) where
        by_found : (o : Option ShardOf) → slice_get shards place ≡ o → now ≡ sliced_found place most o shards → Works roster view count now last (least_of (slice_get (ribs_in shards) place) most) server slots
        by_found None none made_none =
            subst (λ o. Works roster view count now last (least_of o most) server slots) (sym (slice_get-map (λ (u : ShardOf). u.ribs) shards place ∙ ap (option_map (λ (u : ShardOf). u.ribs)) none))
            (works [] tt (ap length made_none) (subst (λ l. AreWorked roster shards l []) (sym made_none) none-each))
        by_found (Some t) there made_some =
            subst (λ o. Works roster view count now last (least_of o most) server slots) (sym (map-found (λ (u : ShardOf). u.ribs) shards place t there))
            (works (take most (rising_of t.ribs.pending)) (rising-take most (rising_of t.ribs.pending) (rising-rising_of t.ribs.pending)) (ap length made_some ∙ length-set shards place (sliced most t))
            (subst (λ l. AreWorked roster shards l (take most (rising_of t.ribs.pending))) (sym made_some) (one-each place most t there)))
