-- What a call knows of the shards, and what it leaves.
use Rattle.std.proofs.Common.{◌≡◌, ℕ, zero, suc, ◌+◌, ◌-◌, ◌<◌, ◌≤◌, Bool, true, false, cond, not, ◌⊎◌, List, [], ◌∷◌, ◌++◌, length, map, get_or, replicate, Option, Some, None, inl, inr, refl, sym, ap, ◌∙◌, subst, add-one, arith}
use Rattle.std.proofs.Math.ListN.{set}
use Rattle.std.specs.Prelude.{slice_get, All}
use Rattle.std.specs.FinSet as set_of
use Rattle.std.specs.Int.{from_bool}
use Rattle.std.specs.Ordering.{nat_cmp}
use Rattle.std.proofs.lemmas.Bool.{false≢true}
use Rattle.std.proofs.lemmas.List.{length-map, length-replicate}
use Rattle.std.proofs.lemmas.Option.{slice_get-get_or, slice_get_within}
use Rattle.rcp_base.specs.IpPrefix.{IpPrefix, shard_of_prefix}
use Rattle.rcp_base.specs.Roster.{RosterOf}
use Rattle.rcp_base.specs.declared.names.Edge.{Edge}
use Rattle.cost_rows.specs.Views.{ViewOf}
use Rattle.rcp_model.specs.Routes.{RouteFields}
use Rattle.rcp_model.specs.Telling.{IsRouteOf}
use Rattle.rcp_model.specs.ServerRibs.{RibEvent, Up, Down, Change, Links, Ribs, empty_ribs, is_up, ribs_after, concerns, is_of}
use Rattle.platform_laws.specs.Parts.{roster_reader, shard_number, shards_from, shards_after, AreIdle, AreSound, AreSoundFrom}
use Rattle.platform_laws.specs.Asked.{is_connected}
use Rattle.platform_laws.proofs.AnswerLemmas.{connected-sound}
use Rattle.platform_laws.proofs.IdleSlots.{down-idle, change-idle}
use Rattle.platform_laws.proofs.SoundShards.{sound-at, sound-new}
use Rattle.rcs_shard.specs.Shards.{ShardOf, new_shard}
use Rattle.rcs_shard.specs.Shards as shard
use Rattle.rcs_shard.specs.Following.{AreMoved}
use Rattle.rcs_shards.specs.Servers.{ServerOf, connected_in, edges_in, new_server, acted}
use Rattle.rcs_shards.specs.Dirty.{ribs_in}
use Rattle.rcs_shards.specs.Joins.{server_of, IsPlaced, ArePlaced, AreTogether}
use Rattle.rcs_shards.specs.News.{AreNew}
use Rattle.rcs_shards.proofs.PlaceLemmas.{same_found, map-found, found-map, same_lists}
use Rattle.rcs_shards.proofs.EachLemmas.{length-last}
use Rattle.rcs_shards.proofs.EventLemmas.{low_or_last, all-act, one-acts, placed-map, placed-set, place-kept, together-after, sound-edges, sound-again, len-up, len-down, seats-up, seats-down, few-up}

-- ---- a slot that isn't connected

idle-from : (roster : RosterOf) (edges : List Edge) (connected : set_of.FinSet nat_cmp) (event : RibEvent RouteFields) (slot : ℕ) (number : ℕ) (shards : List (Ribs RouteFields))
    → ((ribs : Ribs RouteFields) → AreIdle ribs → is_up ribs slot ≡ false → ribs_after (roster_reader roster) event ribs ≡ ribs)
    → set_of.contains connected slot ≡ false → AreSoundFrom roster edges connected number shards → shards_from roster event number shards ≡ shards
idle-from roster edges connected event slot number [] idle out h = refl
idle-from roster edges connected event slot number (ribs ∷ shards) idle out h =
    λ i. either_way (concerns (is_of (shard_number roster) number) event) (ribs_after (roster_reader roster) event ribs) ribs (idle ribs h.0.idle (ap (λ c. set_of.contains c slot) h.0.connected_are ∙ out)) i
    ∷ idle-from roster edges connected event slot (suc number) shards idle out h.1 i where
      either_way : (b : Bool) (x y : Ribs RouteFields) → x ≡ y → cond b x y ≡ y
      either_way true x y same = same
      either_way false x y same = refl

module _ (roster : RosterOf) (view : ViewOf) (count : ℕ) (shards : List ShardOf) (h : AreTogether roster view count shards) where
  abbrev edges_now : List Edge
  edges_now = edges_in (ribs_in shards)

  abbrev connected_now : set_of.FinSet nat_cmp
  connected_now = connected_in (ribs_in shards)

  pub connected-is : (slot : ℕ) → is_connected (ribs_in shards) slot ≡ set_of.contains connected_now slot
  connected-is slot = connected-sound roster edges_now connected_now (ribs_in shards) h.sound slot

  idle-server : (event : RibEvent RouteFields) (slot : ℕ) → ((ribs : Ribs RouteFields) → AreIdle ribs → is_up ribs slot ≡ false → ribs_after (roster_reader roster) event ribs ≡ ribs)
      → is_connected (ribs_in shards) slot ≡ false → acted event (server_of roster shards) ≡ server_of roster shards
  idle-server event slot idle down =
      ap (λ (rs : List (Ribs RouteFields)). let s : ServerOf = record { roster = roster; shards = rs } in s)
      (idle-from roster edges_now connected_now event slot 0 (ribs_in shards) idle (sym (connected-is slot) ∙ down) h.sound.each)

  -- ---- the shard of a prefix

  module _ (server : ServerOf) (is : server_of roster shards ≡ server) where
    roster_is : roster ≡ server.roster
    roster_is = ap (λ (s : ServerOf). s.roster) is

    ribs_are : ribs_in shards ≡ server.shards
    ribs_are = ap (λ (s : ServerOf). s.shards) is

    pub down-nothing : (slot : ℕ) → is_connected server.shards slot ≡ false → server ≡ acted (Down slot) server
    down-nothing slot down = sym is ∙ sym (idle-server (Down slot) slot (λ ribs idle out. down-idle (roster_reader roster) ribs idle slot out) (ap (λ rs. is_connected rs slot) ribs_are ∙ down)) ∙ ap (acted (Down slot)) is

    pub change-nothing : (slot : ℕ) (p : IpPrefix) (route : Option RouteFields) → is_connected server.shards slot ≡ false → server ≡ acted (Change slot p route) server
    change-nothing slot p route down = sym is ∙ sym (idle-server (Change slot p route) slot (λ ribs idle out. change-idle (roster_reader roster) ribs idle slot p route out) (ap (λ rs. is_connected rs slot) ribs_are ∙ down)) ∙ ap (acted (Change slot p route)) is

    -- a slot that is a member of the roster is one of each shard, and connected in each or in none
    pub each-member : (slot : ℕ) → slot < length server.roster.members → All (λ (s : ShardOf). slot < length s.members) shards
    each-member slot member k d low =
        let here = slice_get-get_or shards k d low in
        subst (λ m. slot < length m) (ap (λ (r : RosterOf). r.members) (sym roster_is) ∙ sym (h.placed k (get_or shards k d) here).members_are) member

    up-at : (k : ℕ) (s : ShardOf) → slice_get shards k ≡ Some s → (slot : ℕ) → shard.is_connected s slot ≡ is_connected server.shards slot
    up-at k s here slot =
        let sound = sound-at roster edges_now connected_now 0 k (ribs_in shards) s.ribs h.sound.each (map-found (λ (t : ShardOf). t.ribs) shards k s here) in
        ap (λ c. set_of.contains c slot) sound.connected_are ∙ sym (connected-is slot) ∙ ap (λ rs. is_connected rs slot) ribs_are

    pub each-up : (slot : ℕ) → is_connected server.shards slot ≡ true → All (λ (s : ShardOf). shard.is_connected s slot ≡ true) shards
    each-up slot up k d low = up-at k (get_or shards k d) (slice_get-get_or shards k d low) slot ∙ up

    pub each-view : (after : ViewOf) → after.members ≡ server.roster.members → All (λ (s : ShardOf). after.members ≡ s.members) shards
    each-view after members k d low =
        members ∙ ap (λ (r : RosterOf). r.members) (sym roster_is) ∙ sym (h.placed k (get_or shards k d) (slice_get-get_or shards k d low)).members_are

    -- what moves from the view before moves in each shard
    pub each-moved : (after : ViewOf) (flags : List Bool) → AreMoved view.edges after.edges view.members flags → All (λ (s : ShardOf). AreMoved s.ribs.edges after.edges s.members flags) shards
    each-moved after flags moved k d low =
        let s = get_or shards k d in
        let here = slice_get-get_or shards k d low in
        let sound = sound-at roster edges_now connected_now 0 k (ribs_in shards) s.ribs h.sound.each (map-found (λ (t : ShardOf). t.ribs) shards k s here) in
        subst (λ es. AreMoved es after.edges s.members flags) (h.edges ∙ sym sound.edges_are)
        (subst (λ ms. AreMoved view.edges after.edges ms flags) (h.members ∙ sym (h.placed k s here).members_are) moved)

    module _ (p : IpPrefix) (n : ℕ) (at : n ≡ shard_number server.roster p) (low : n < length server.shards) (s : ShardOf) (read : s ≡ get_or shards n s) where
      number_at : n ≡ shard_number roster p
      number_at = at ∙ ap (λ (r : RosterOf). shard_number r p) (sym roster_is)

      within : n < length shards
      within = subst (λ m. n < m) (ap length (sym ribs_are) ∙ length-map shards (λ (t : ShardOf). t.ribs)) low

      here : slice_get shards n ≡ Some s
      here = slice_get-get_or shards n s within ∙ ap (λ t. Some t) (sym read)

      pub own-member : (slot : ℕ) → slot < length server.roster.members → slot < length s.members
      own-member slot member = subst (λ m. slot < length m) (ap (λ (r : RosterOf). r.members) (sym roster_is) ∙ sym (h.placed n s here).members_are) member

      pub own-up : (slot : ℕ) → is_connected server.shards slot ≡ true → shard.is_connected s slot ≡ true
      own-up slot up = up-at n s here slot ∙ up

      pub own-prefix : shard_of_prefix p s.shards ≡ s.number
      own-prefix = ap (shard_of_prefix p) (h.placed n s here).shards_are ∙ sym number_at ∙ sym (h.placed n s here).number_is

      -- what the shard of a prefix has, where it stands
      pub own-found : slice_get server.shards (shard_number server.roster p) ≡ Some s.ribs
      own-found = ap (slice_get server.shards) (sym at) ∙ ap (λ rs. slice_get rs n) (sym ribs_are) ∙ map-found (λ (t : ShardOf). t.ribs) shards n s here

      module _ (slot : ℕ) (route : Option RouteFields) (new : ShardOf) (acts : new ≡ shard.acted (Change slot p route) s) where
        same_place : set shards n new ≡ set shards (shard_number roster p) (shard.acted (Change slot p route) s)
        same_place = λ i. set shards (number_at i) (acts i)

        found_there : slice_get shards (shard_number roster p) ≡ Some s
        found_there = ap (slice_get shards) (sym number_at) ∙ here

        change-ribs : ribs_in (set shards n new) ≡ shards_after roster (Change slot p route) (ribs_in shards)
        change-ribs = ap ribs_in same_place ∙ one-acts roster slot p route shards h.placed s found_there

        pub change-acts : server_of roster (set shards n new) ≡ acted (Change slot p route) server
        change-acts = ap (λ (rs : List (Ribs RouteFields)). let t : ServerOf = record { roster = roster; shards = rs } in t) change-ribs ∙ ap (acted (Change slot p route)) is

        placed_now : ArePlaced roster (set shards n new)
        placed_now = placed-set roster n new shards (subst (IsPlaced roster n) (sym acts) (place-kept roster (Change slot p route) tt n s (h.placed n s here))) h.placed

        pub change-withdrawn : route ≡ None → AreTogether roster view count (set shards n new)
        change-withdrawn none = together-after roster view view count count shards (set shards n new) h (Change slot p None) tt
            (change-ribs ∙ ap (λ o. shards_after roster (Change slot p o) (ribs_in shards)) none) placed_now h.seats h.members h.edges h.counted

        pub change-announced : (r : RouteFields) → route ≡ Some r → IsRouteOf server.roster.as_number r → AreTogether roster view count (set shards n new)
        change-announced r some good = together-after roster view view count count shards (set shards n new) h (Change slot p (Some r)) (subst (λ (o : RosterOf). IsRouteOf o.as_number r) (sym roster_is) good)
            (change-ribs ∙ ap (λ o. shards_after roster (Change slot p o) (ribs_in shards)) some) placed_now h.seats h.members h.edges h.counted

    -- ---- events of all shards

    module _ (now : List ShardOf) where
      pub up-acts : (slot : ℕ) → now ≡ map (shard.acted (Up slot)) shards → server_of roster now ≡ acted (Up slot) server
      up-acts slot acts = ap (λ (rs : List (Ribs RouteFields)). let t : ServerOf = record { roster = roster; shards = rs } in t) (ap ribs_in acts ∙ all-act roster (Up slot) (λ owns. refl) shards h.placed) ∙ ap (acted (Up slot)) is

      pub down-acts : (slot : ℕ) → now ≡ map (shard.acted (Down slot)) shards → server_of roster now ≡ acted (Down slot) server
      down-acts slot acts = ap (λ (rs : List (Ribs RouteFields)). let t : ServerOf = record { roster = roster; shards = rs } in t) (ap ribs_in acts ∙ all-act roster (Down slot) (λ owns. refl) shards h.placed) ∙ ap (acted (Down slot)) is

      pub links-act : (edges : List Edge) → now ≡ map (shard.acted (Links edges)) shards → server_of roster now ≡ acted (Links edges) server
      links-act edges acts = ap (λ (rs : List (Ribs RouteFields)). let t : ServerOf = record { roster = roster; shards = rs } in t) (ap ribs_in acts ∙ all-act roster (Links edges) (λ owns. refl) shards h.placed) ∙ ap (acted (Links edges)) is

      pub up-together : (slot : ℕ) → now ≡ map (shard.acted (Up slot)) shards → slot < length server.roster.members → (later : ℕ)
          → later ≡ cond (is_connected server.shards slot) count (count + 1) → AreTogether roster view later now
      up-together slot acts member later counted = together-after roster view view count later shards now h (Up slot) tt
          (ap ribs_in acts ∙ all-act roster (Up slot) (λ owns. refl) shards h.placed)
          (subst (ArePlaced roster) (sym acts) (placed-map roster (shard.acted (Up slot)) (place-kept roster (Up slot) tt) shards h.placed))
          (seats-up roster connected_now slot h.seats (subst (λ (o : RosterOf). slot < length o.members) (sym roster_is) member))
          h.members h.edges
          (counted ∙ (λ i. cond ((ap (λ rs. is_connected rs slot) (sym ribs_are) ∙ connected-is slot) i) (h.counted i) (h.counted i + 1)) ∙ sym (len-up connected_now slot (set_of.contains connected_now slot) refl))

      up-now : (slot : ℕ) → is_connected server.shards slot ≡ true → set_of.contains connected_now slot ≡ true
      up-now slot up = sym (connected-is slot) ∙ ap (λ rs. is_connected rs slot) ribs_are ∙ up

      pub down-together : (slot : ℕ) → now ≡ map (shard.acted (Down slot)) shards → is_connected server.shards slot ≡ true → (later : ℕ) → later ≡ count - 1 → AreTogether roster view later now
      down-together slot acts up later counted = together-after roster view view count later shards now h (Down slot) tt
          (ap ribs_in acts ∙ all-act roster (Down slot) (λ owns. refl) shards h.placed)
          (subst (ArePlaced roster) (sym acts) (placed-map roster (shard.acted (Down slot)) (place-kept roster (Down slot) tt) shards h.placed))
          (seats-down roster connected_now slot h.seats)
          h.members h.edges
          (counted ∙ ap (λ n. n - 1) h.counted ∙ sym (len-down connected_now slot (up-now slot up)).0)

      pub links-together : (after : ViewOf) → now ≡ map (shard.acted (Links after.edges)) shards → after.members ≡ server.roster.members → AreTogether roster after count now
      links-together after acts members = together-after roster view after count count shards now h (Links after.edges) tt
          (ap ribs_in acts ∙ all-act roster (Links after.edges) (λ owns. refl) shards h.placed)
          (subst (ArePlaced roster) (sym acts) (placed-map roster (shard.acted (Links after.edges)) (place-kept roster (Links after.edges) tt) shards h.placed))
          h.seats (members ∙ ap (λ (o : RosterOf). o.members) (sym roster_is)) refl h.counted

    pub some-up : (slot : ℕ) → is_connected server.shards slot ≡ true → 1 ≤ count
    some-up slot up = let some = (len-down connected_now slot (sym (connected-is slot) ∙ ap (λ rs. is_connected rs slot) ribs_are ∙ up)).1 in let counted = h.counted in omega (arith, some, counted)

  pub few : count ≤ 512
  few = let low = few-up roster connected_now 0 h.seats in let counted = h.counted in let members = h.few in omega (arith, low, counted, members)

-- ---- the first shards

module _ (roster : RosterOf) (view : ViewOf) (shards : List ShardOf) (some : 1 ≤ roster.shards) (few_members : length roster.members ≤ 512) (members : view.members ≡ roster.members) (new : AreNew roster view.edges roster.shards shards) where
  ribs-new : ribs_in shards ≡ replicate roster.shards (empty_ribs view.edges)
  ribs-new = same_lists (ribs_in shards) (replicate roster.shards (empty_ribs view.edges)) (length-map shards (λ (s : ShardOf). s.ribs) ∙ new.long ∙ sym (length-replicate roster.shards (empty_ribs view.edges))) (λ n r is.
      let found = found-map (λ (s : ShardOf). s.ribs) shards n r is in
      let low : n < roster.shards = subst (λ m. n < m) new.long (slice_get_within shards n found.0 found.1) in
      let same : new_shard n roster.shards roster.members view.edges ≡ found.0 = same_found {o = slice_get shards n} (new_shard n roster.shards roster.members view.edges) found.0 (new.each n low) found.1 in
      replicated roster.shards n low (empty_ribs view.edges) ∙ ap (λ x. Some x) (ap (λ (s : ShardOf). s.ribs) same ∙ found.2)) where
        replicated : (m n : ℕ) → n < m → (x : Ribs RouteFields) → slice_get (replicate m x) n ≡ Some x
        replicated zero n low x = absurd (omega (arith, low))
        replicated (suc m) zero low x = refl
        replicated (suc m) (suc n) low x = replicated m n (omega (arith, low)) x

  pub new-is : server_of roster shards ≡ new_server roster view.edges
  new-is = ap (λ (rs : List (Ribs RouteFields)). let t : ServerOf = record { roster = roster; shards = rs } in t) ribs-new

  pub new-together : AreTogether roster view 0 shards
  new-together =
      let sound : AreSound roster view.edges set_of.empty (ribs_in shards) = subst (AreSound roster view.edges set_of.empty) (sym ribs-new) (sound-new roster view.edges some) in
      let same = sound-edges roster view.edges set_of.empty (ribs_in shards) sound in
      record {
        placed = λ n s is.
            let low : n < roster.shards = subst (λ m. n < m) new.long (slice_get_within shards n s is) in
            let here : new_shard n roster.shards roster.members view.edges ≡ s = same_found {o = slice_get shards n} (new_shard n roster.shards roster.members view.edges) s (new.each n low) is in
            subst (IsPlaced roster n) here (record { number_is = refl; shards_are = refl; members_are = refl; clean = refl });
        sound = sound-again roster view.edges set_of.empty (ribs_in shards) sound;
        seats = λ slot inside. absurd (false≢true (sym (ap (λ c. set_of.contains c slot) same.1 ∙ set_of.contains-empty nat_cmp slot) ∙ inside));
        few = few_members;
        members = members;
        edges = sym same.0;
        counted = sym (ap set_of.len same.1 ∙ set_of.len-empty nat_cmp);
      }

-- one new shard more
pub new-more : (roster : RosterOf) (edges : List Edge) (count : ℕ) (shards : List ShardOf) (s : ShardOf) (more : List ShardOf) → AreNew roster edges count shards
    → s ≡ new_shard count roster.shards roster.members edges → more ≡ shards ++ s ∷ [] → AreNew roster edges (count + 1) more
new-more roster edges count shards s more new is made = record {
  long = ap length made ∙ length-last shards s ∙ ap (λ n. n + 1) new.long;
  each = λ n low. ap (λ l. slice_get l n) made ∙ by_place n (low_or_last n count (subst (λ k. n < k) (add-one count) low));
} where
  at_last : (xs : List ShardOf) (x : ShardOf) → slice_get (xs ++ x ∷ []) (length xs) ≡ Some x
  at_last [] x = refl
  at_last (y ∷ xs) x = at_last xs x

  at_front : (xs : List ShardOf) (x : ShardOf) (n : ℕ) → n < length xs → slice_get (xs ++ x ∷ []) n ≡ slice_get xs n
  at_front [] x n low = absurd (omega (arith, low))
  at_front (y ∷ xs) x zero low = refl
  at_front (y ∷ xs) x (suc n) low = at_front xs x n (omega (arith, low))

  by_place : (n : ℕ) → (n < count) ⊎ (n ≡ count) → slice_get (shards ++ s ∷ []) n ≡ Some (new_shard n roster.shards roster.members edges)
  by_place n (inl low) = at_front shards s n (subst (λ k. n < k) (sym new.long) low) ∙ new.each n low
  by_place n (inr last) =
      ap (slice_get (shards ++ s ∷ [])) (last ∙ sym new.long) ∙ at_last shards s ∙ ap (λ x. Some x) (is ∙ ap (λ k. new_shard k roster.shards roster.members edges) (sym last))

-- one more, where a slot wasn't connected
pub more-is : (b : Bool) (count more : ℕ) → more ≡ from_bool (not b) → (count + more ≡ cond b count (count + 1)) × (more ≤ 1)
more-is true count more is = (ap (λ n. count + n) is ∙ omega arith, omega (arith, is))
more-is false count more is = (ap (λ n. count + n) is, omega (arith, is))
