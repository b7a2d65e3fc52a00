-- LSAs that are read one after another, and the databases and counts after them.
use Rattle.std.proofs.Common.{◌≡◌, ℕ, ◌+◌, ◌-◌, ◌≤◌, ◌≢◌, ◌==◌, nat_lt, Bool, true, false, cond, List, map, filter, [], ◌∷◌, ◌++◌, length, take, drop, Option, Some, None, Ok, Err, refl, sym, ap, ap₂, subst, ◌∙◌, arith, length-append, ne_eqb}
use Rattle.std.proofs.lemmas.List.{append-nil, append_assoc, drop-drop}
use Rattle.std.proofs.Math.Numerals.{add-one}
use Rattle.std.proofs.lemmas.Bool.Decides.{nat_tests}
use Rattle.rcp_model.specs.declared.lsa_fault.LsaFault.TheVariants.{Short}
use Rattle.rcp_model.specs.LinkState.{RouterLsa, LinkState, installed}
use Rattle.rcp_model.specs.LinkStateUpdates.{ReadLsa, is_router_lsa, own_fault, is_update_of, lsas_of_packet, faultless_lsas, left_out, installed_all}
use Rattle.rcp_model.specs.declared.lsa_fault.LsaFault.{LsaFault}
use Rattle.rcp_model.specs.RouterLsas.{lsa_type, lsa_at}
use Rattle.rcp_model.specs.LsaWalk.{Walked, lsa_count, lsa_len, lsas_at, lsas_in}
use Rattle.rcp_base.specs.Cut.{cut}
use Rattle.lsa_reader.proofs.Walks.{place_after-step, IsLsaLen-from_len}
use Rattle.lsa_reader.specs.Walking.{place_after, IsStep, with_lsa}
use Rattle.rcp_model.proofs.PacketLemmas.{installed_all-append}
use Rattle.lsdb.specs.Databases.{Database, Holds}
use Rattle.igp_view.specs.declared.igp.IgpGot.{IgpGot}
use Rattle.igp_view.specs.Reading.{Installs, Counts, read_of, read_one, lsas_of_update}

faultless-append : (first others : List ReadLsa) → faultless_lsas (first ++ others) ≡ faultless_lsas first ++ faultless_lsas others
faultless-append [] others = refl
faultless-append (Ok lsa ∷ first) others = ap (λ (l : List RouterLsa). lsa ∷ l) (faultless-append first others)
faultless-append (Err fault ∷ first) others = faultless-append first others

left_out-append : (first others : List ReadLsa) → left_out (first ++ others) ≡ left_out first ++ left_out others
left_out-append [] others = refl
left_out-append (Ok lsa ∷ first) others = left_out-append first others
left_out-append (Err fault ∷ first) others = ap (λ (l : List _). fault ∷ l) (left_out-append first others)

pub installs_none : (database : Database) → Installs [] database database
unfolding installed_all
installs_none database = record { state = λ state holds. holds; moment = refl }

pub installs_more : (first others : List ReadLsa) (a b c : Database) → Installs first a b → Installs others b c → Installs (first ++ others) a c
installs_more first others a b c one two = record {
  state = λ state holds.
      subst (Holds c.state)
      (ap (λ now. installed_all now (faultless_lsas others) (installed_all a.moment (faultless_lsas first) state)) one.moment
      ∙ sym (installed_all-append a.moment (faultless_lsas first) (faultless_lsas others) state)
      ∙ ap (λ (l : List RouterLsa). installed_all a.moment l state) (sym (faultless-append first others)))
      (two.state (installed_all a.moment (faultless_lsas first) state) (one.state state holds));
  moment = two.moment ∙ one.moment;
}

pub installs_one : (lsa : RouterLsa) (read : ReadLsa) (now : ℕ) (old new : Database) → read ≡ Ok lsa → now ≡ old.moment → ((state : LinkState) → Holds old.state state → Holds new.state (installed now lsa state)) → new.moment ≡ old.moment
    → Installs (read ∷ []) old new
unfolding installed_all
installs_one lsa read now old new is at state moment = subst (λ (read : ReadLsa). Installs (read ∷ []) old new) (sym is) (record {
  state = λ before holds. subst (λ now. Holds new.state (installed now lsa before)) at (state before holds);
  moment = moment;
})

pub installs_fault : (fault : LsaFault) (read : ReadLsa) (database : Database) → read ≡ Err fault → Installs (read ∷ []) database database
unfolding installed_all
installs_fault fault read database is = subst (λ (read : ReadLsa). Installs (read ∷ []) database database) (sym is) (record { state = λ state holds. holds; moment = refl })

pub other_read : (octets : List ℕ) → lsa_type octets ≢ 1 → read_one octets ≡ []
other_read octets other = rw (ne_eqb (lsa_type octets) 1 other) refl

pub update_is : (area : ℕ) (packet : List ℕ) → is_update_of area packet ≡ true → lsas_of_packet area packet ≡ lsas_of_update packet
unfolding lsas_of_packet
update_is area packet is = rw is refl

pub other_is : (area : ℕ) (packet : List ℕ) → is_update_of area packet ≡ false → lsas_of_packet area packet ≡ []
unfolding lsas_of_packet
other_is area packet is = rw is refl

pub counts_none : (got : IgpGot) → Counts [] got got
counts_none got = record { installed = zero_more got.installed; left_out = zero_more got.left_out; lost = refl } where
  zero_more : (n : ℕ) → n ≡ n + 0
  zero_more n = omega arith

pub counts_more : (first others : List ReadLsa) (a b c : IgpGot) → Counts first a b → Counts others b c → Counts (first ++ others) a c
counts_more first others a b c one two = record {
  installed = omega (arith, one.installed, two.installed, ap length (faultless-append first others), length-append (faultless_lsas first) (faultless_lsas others));
  left_out = omega (arith, one.left_out, two.left_out, ap length (left_out-append first others), length-append (left_out first) (left_out others));
  lost = two.lost ∙ one.lost;
}

-- ---- the walk over an update's LSAs

-- what was read so far is installed and counted, and what is left follows it
pub record Walking (packet : List ℕ) (place : ℕ) (before now : Database) (old new : IgpGot) : Type 0 where
  pub count : ℕ
  pub few : count ≤ lsa_count packet
  pub at : place_after count packet ≡ Some place
  pub done : List ReadLsa
  pub all : lsas_of_update packet ≡ done ++ read_of (lsas_at (lsa_count packet - count) (drop place packet))
  pub state : Installs done before now
  pub counts : Counts done old new
  pub start : 28 ≤ place
  pub within : place ≤ length packet
  pub bound : new.installed + new.left_out + 28 ≤ old.installed + old.left_out + place

pub walking_none : (packet : List ℕ) (before : Database) (old : IgpGot) → 28 ≤ length packet → Walking packet 28 before before old old
walking_none packet before old whole = record {
  count = 0;
  few = omega arith;
  at = refl;
  done = [];
  all = ap (λ n. read_of (lsas_at n (drop 28 packet))) (minus_zero (lsa_count packet));
  state = installs_none before;
  counts = counts_none old;
  start = omega arith;
  within = whole;
  bound = omega arith;
} where
  minus_zero : (n : ℕ) → n ≡ n - 0
  minus_zero n = omega arith

none_left : (found : List (List ℕ)) → read_of (record { lsas = take 0 found; short = nat_lt (length found) 0 }) ≡ []
none_left [] = refl
none_left (lsa ∷ found) = rw (below_zero (length (lsa ∷ found))) refl where
  below_zero : (n : ℕ) → nat_lt n 0 ≡ false
  below_zero n = grind (arith, nat_tests)

read-next : (lsa : List ℕ) (others : Walked) → read_of (with_lsa lsa others) ≡ read_one lsa ++ read_of others
read-next lsa others = at_test (lsa_type lsa == 1) where
  at_test : (t : Bool) → map lsa_at (cond t (lsa ∷ filter is_router_lsa others.lsas) (filter is_router_lsa others.lsas)) ++ own_fault others.short ≡ cond t (lsa_at lsa ∷ []) [] ++ read_of others
  at_test true = refl
  at_test false = refl

one_at_most : (t : Bool) (read : ReadLsa) → length (faultless_lsas (cond t (read ∷ []) [])) + length (left_out (cond t (read ∷ []) [])) ≤ 1
one_at_most true (Ok lsa) = omega arith
one_at_most true (Err fault) = omega arith
one_at_most false read = omega arith

pub one_counted : (octets : List ℕ) (old new : IgpGot) → Counts (read_one octets) old new → new.installed + new.left_out ≤ old.installed + old.left_out + 1
one_counted octets old new counts = omega (arith, counts.installed, counts.left_out, one_at_most (lsa_type octets == 1) (lsa_at octets))

module _ (packet : List ℕ) (place : ℕ) (before now : Database) (old new : IgpGot) (walking : Walking packet place before now old new) where
  pub walked_all : IsStep (lsa_count packet - walking.count) (drop place packet) None → lsas_of_update packet ≡ walking.done
  walked_all none = walking.all ∙ ap (λ n. walking.done ++ read_of (lsas_at n (drop place packet))) none ∙ ap (λ read. walking.done ++ read) (none_left (cut lsa_len (drop place packet)).0) ∙ append-nil walking.done

  pub walked_short : (fault : LsaFault) → IsStep (lsa_count packet - walking.count) (drop place packet) (Some (Err fault)) → lsas_of_update packet ≡ walking.done ++ Err Short ∷ []
  walked_short fault step = walking.all ∙ ap (λ walked. walking.done ++ read_of walked) step.1

  module _ (len kind : ℕ) (step : IsStep (lsa_count packet - walking.count) (drop place packet) (Some (Ok (len, kind)))) where
    next_is : lsas_at (lsa_count packet - walking.count) (drop place packet) ≡ with_lsa (take len (drop place packet)) (lsas_at (lsa_count packet - (walking.count + 1)) (drop (place + len) packet))
    next_is = step.1 ∙ ap₂ (λ n octets. with_lsa (take len (drop place packet)) (lsas_at n octets)) (one_less (lsa_count packet) walking.count) (drop-drop len place packet) where
      one_less : (m n : ℕ) → m - n - 1 ≡ m - (n + 1)
      one_less m n = grind arith

    pub walking_next : (later : Database) (got : IgpGot) → lsa_len (drop place packet) ≡ Some len → place + len ≤ length packet → Installs (read_one (take len (drop place packet))) now later → Counts (read_one (take len (drop place packet))) new got
        → Walking packet (place + len) before later old got
    walking_next later got is inside state counts = record {
      count = walking.count + 1;
      few = let some = step.0 in omega arith;
      at = subst (λ n. place_after n packet ≡ Some (place + len)) (sym (add-one walking.count)) (place_after-step walking.count packet place len walking.at is);
      done = walking.done ++ read_one (take len (drop place packet));
      all =
          walking.all
          ∙ ap (λ walked. walking.done ++ read_of walked) next_is
          ∙ ap (λ read. walking.done ++ read) (read-next (take len (drop place packet)) (lsas_at (lsa_count packet - (walking.count + 1)) (drop (place + len) packet)))
          ∙ sym (append_assoc walking.done (read_one (take len (drop place packet))) (read_of (lsas_at (lsa_count packet - (walking.count + 1)) (drop (place + len) packet))));
      state = installs_more walking.done (read_one (take len (drop place packet))) before now later walking.state state;
      counts = counts_more walking.done (read_one (take len (drop place packet))) old new got walking.counts counts;
      start = let s = walking.start in omega arith;
      within = inside;
      bound = let b = walking.bound in let long = (IsLsaLen-from_len (drop place packet) len is).least in omega (arith, one_counted (take len (drop place packet)) new got counts);
    }

  pub short_installs : (fault : LsaFault) → IsStep (lsa_count packet - walking.count) (drop place packet) (Some (Err fault)) → Installs (lsas_of_update packet) before now
  unfolding installed_all
  short_installs fault step =
      subst (λ read. Installs read before now) (sym (walked_short fault step))
      (installs_more walking.done (Err Short ∷ []) before now now walking.state (record { state = λ state holds. holds; moment = refl }))

  pub short_counts : (fault : LsaFault) → IsStep (lsa_count packet - walking.count) (drop place packet) (Some (Err fault)) → Counts (lsas_of_update packet) old (record new { left_out = new.left_out + 1 })
  short_counts fault step =
      subst (λ read. Counts read old (record new { left_out = new.left_out + 1 })) (sym (walked_short fault step))
      (counts_more walking.done (Err Short ∷ []) old new (record new { left_out = new.left_out + 1 }) walking.counts (record { installed = zero_more new.installed; left_out = refl; lost = refl })) where
        zero_more : (n : ℕ) → n ≡ n + 0
        zero_more n = omega arith
