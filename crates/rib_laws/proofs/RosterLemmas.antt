-- What each roster of a text keeps: few members with distinct routers and identifiers, and links in both directions.
use Rattle.std.proofs.Common.{◌≡◌, ◌≢◌, ℕ, ◌+◌, ◌<◌, Bool, true, false, cond, ◌||◌, eqb, List, [], ◌∷◌, ◌++◌, length, get_or, Option, Some, None, Result, Ok, Err, IfOk, refl, sym, ap, inl, inr, subst, arith, length-append}
use Rattle.std.specs.List.{list_any}
use Rattle.std.proofs.lemmas.Bool.{eqb-false, leb-false, false≢true}
use Rattle.std.proofs.lemmas.List.Elements.{Contains-get_or, Contains-append_left, Contains-append_right, Contains-append_cases}
use Rattle.std.proofs.lemmas.List.Quantifiers.{all_pairs_push}
use Rattle.rcp_base.specs.declared.kinds.RosterWhy.{RosterWhy}
use Rattle.rcp_base.specs.declared.kinds.RosterWhy.TheVariants as why
use Rattle.rcp_base.specs.declared.names.Member.{Member}
use Rattle.rcp_base.specs.Checks.{first_failing, unless}
use Rattle.rcp_base.specs.Roster.{Line, As, Id, Shards, Hold, Area, Router, Link, RosterOf, FaultyLine, Named, nothing_named, has_router, has_identifier, is_value, repeats, is_unknown, is_beyond, line_fault, line_of, with_line, with_text, is_skipped, with_any_text, completed, complete, roster_from, roster_of, lines_of}
use Rattle.rcp_base.specs.declared.names.Edge.{Edge}
use Rattle.rcp_model.specs.Costs.{IsTwoWay}
use Rattle.rcp_model.specs.Graphs.{AreMembers}
use Rattle.rcp_model.proofs.MemberLemmas.{Contains-head, Contains-tail, Contains-cases, Contains-none, none_at_member}

-- ---- links

both_links : ℕ → ℕ → ℕ → List Edge
both_links u v cost = record { from = u; to = v; cost = cost } ∷ record { from = v; to = u; cost = cost } ∷ []

backs-both : (u v cost : ℕ) → IsTwoWay (both_links u v cost)
unfolding both_links
backs-both u v cost link inside = elim (Contains-cases there (back ∷ []) link inside) [
  | inl is ↦ (back, Contains-tail there (back ∷ []) back (Contains-head back []), ap (λ (l : Edge). l.to) is, ap (λ (l : Edge). l.from) is)
  | inr rest ↦ elim (Contains-cases back [] link rest) [
    | inl is ↦ (there, Contains-head there (back ∷ []), ap (λ (l : Edge). l.to) is, ap (λ (l : Edge). l.from) is)
    | inr none ↦ absurd (Contains-none link none)
  ]
] where
  there : Edge
  there = record { from = u; to = v; cost = cost }

  back : Edge
  back = record { from = v; to = u; cost = cost }

backs-append : (links more : List Edge) → IsTwoWay links → IsTwoWay more → IsTwoWay (links ++ more)
backs-append links more old new link inside = elim (Contains-append_cases links more link inside) [
  | inl first ↦ let found = old link first in (found.0, Contains-append_left links more found.0 found.1, found.2, found.3)
  | inr rest ↦ let found = new link rest in (found.0, Contains-append_right links more found.0 found.1, found.2, found.3)
]

-- ---- what is named

record Sound (named : Named) : Type 0 where
  members : AreMembers named.members
  backs : IsTwoWay named.links

faultless : (a b c : Bool) (f g h : RosterWhy) → first_failing ((a, f) ∷ (b, g) ∷ (c, h) ∷ []) ≡ None → (a ≡ false) × (b ≡ false) × (c ≡ false)
faultless true b c f g h is = absurd (some_none f is) where
  some_none : (x : RosterWhy) → Some x ≡ None → ⊥
  some_none x e = cc
faultless false true c f g h is = absurd (some_none g is) where
  some_none : (x : RosterWhy) → Some x ≡ None → ⊥
  some_none x e = cc
faultless false false true f g h is = absurd (some_none h is) where
  some_none : (x : RosterWhy) → Some x ≡ None → ⊥
  some_none x e = cc
faultless false false false f g h is = (refl, refl, refl)

none_of_three : (a b c : Bool) → ((a || b) || c) ≡ false → (a ≡ false) × (b ≡ false)
none_of_three true b c e = absurd (false≢true (sym e))
none_of_three false true c e = absurd (false≢true (sym e))
none_of_three false false c e = (refl, refl)

other_name : (name : Member → ℕ) (members : List Member) (n : ℕ) → list_any (λ m. eqb (name m) n) members ≡ false → (k : ℕ) (d : Member) → k < length members → name (get_or members k d) ≢ n
other_name name members n none k d within = eqb-false (name (get_or members k d)) n (none_at_member (λ m. eqb (name m) n) members (get_or members k d) none (Contains-get_or members k d within))

members-push : (members : List Member) (member : Member) → AreMembers members → has_router members member.router ≡ false → has_identifier members member.bgp_id ≡ false → length members < 512
    → AreMembers (members ++ member ∷ [])
members-push members member are router id room = record {
  few = rw (length-append members (member ∷ [])) (omega (arith, room));
  routers = all_pairs_push (λ a b. a.router ≢ b.router) members member are.routers (other_name (λ m. m.router) members member.router router);
  identifiers = all_pairs_push (λ a b. a.bgp_id ≢ b.bgp_id) members member are.identifiers (other_name (λ m. m.bgp_id) members member.bgp_id id);
}

sound-line : (named : Named) (line : Line) → Sound named → line_fault named line ≡ None → Sound (with_line named line)
unfolding both_links
sound-line named (As n) sound is = record { members = sound.members; backs = sound.backs }
sound-line named (Id a) sound is = record { members = sound.members; backs = sound.backs }
sound-line named (Shards n) sound is = record { members = sound.members; backs = sound.backs }
sound-line named (Hold n) sound is = record { members = sound.members; backs = sound.backs }
sound-line named (Area a) sound is = record { members = sound.members; backs = sound.backs }
sound-line named (Router router id) sound is =
    let checks = faultless (repeats named (Router router id)) (is_unknown named (Router router id)) (is_beyond named (Router router id)) why.Repeated why.Unknown why.TooMany is in
    let new = none_of_three (has_router named.members router) (has_identifier named.members id) (is_value id named.id) checks.0 in
    record {
      members = members-push named.members (record { router = router; bgp_id = id }) sound.members new.0 new.1 (leb-false 512 (length named.members) checks.2);
      backs = sound.backs;
    }
sound-line named (Link u v cost) sound is = record { members = sound.members; backs = backs-append named.links (both_links u v cost) sound.backs (backs-both u v cost) }

sound-unless : (named more : Named) (fault : Option RosterWhy) → (fault ≡ None → Sound more) → IfOk (unless fault more) Sound
sound-unless named more None h = h refl
sound-unless named more (Some fault) h = tt

sound-said : (named : Named) (said : Result Line RosterWhy) → Sound named
    → IfOk (elim said as (λ _. Result Named RosterWhy) [ Ok line ↦ unless (line_fault named line) (with_line named line) | Err fault ↦ Err fault ]) Sound
sound-said named (Ok line) sound = sound-unless named (with_line named line) (line_fault named line) (sound-line named line sound)
sound-said named (Err fault) sound = tt

sound-text : (named : Named) (line : List ℕ) → Sound named → IfOk (with_any_text named line) Sound
sound-text named line sound = at_test (is_skipped line) where
  at_test : (b : Bool) → IfOk (cond b (Ok named) (with_text named line)) Sound
  at_test true = sound
  at_test false = sound-said named (line_of line) sound

-- ---- the roster

abbrev IsSound : RosterOf → Type 0
IsSound roster = AreMembers roster.members × IsTwoWay roster.links

sound-named : (line : ℕ) (named : Named) → Sound named → IfOk (complete line (completed named)) IsSound
sound-named line named sound = at_settings named.as_number named.id named.shards named.hold named.area where
  at_settings : (as_number id shards hold area : Option ℕ) → IfOk (complete line (completed (record { as_number = as_number; id = id; shards = shards; hold = hold; area = area; members = named.members; links = named.links }))) IsSound
  at_settings None id shards hold area = tt
  at_settings (Some a) None shards hold area = tt
  at_settings (Some a) (Some b) None hold area = tt
  at_settings (Some a) (Some b) (Some c) None area = tt
  at_settings (Some a) (Some b) (Some c) (Some d) None = tt
  at_settings (Some a) (Some b) (Some c) (Some d) (Some e) = (sound.members, sound.backs)

sound-from : (line : ℕ) (named : Named) (lines : List (List ℕ)) → Sound named → IfOk (roster_from line named lines) IsSound
sound-from line named [] sound = sound-named line named sound
sound-from line named (first ∷ lines) sound = at_step (with_any_text named first) (sound-text named first sound) (λ more kept. sound-from (line + 1) more lines kept) where
  at_step : (step : Result Named RosterWhy) → IfOk step Sound → ((more : Named) → Sound more → IfOk (roster_from (line + 1) more lines) IsSound)
      → IfOk (elim step as (λ _. Result RosterOf FaultyLine) [ Ok more ↦ roster_from (line + 1) more lines | Err fault ↦ Err (record { line = line; why = fault }) ]) IsSound
  at_step (Ok more) kept rest = rest more kept
  at_step (Err fault) kept rest = tt

sound-empty : Sound nothing_named
sound-empty = record {
  members = record { few = omega arith; routers = λ i j d less within. absurd (omega (arith, less, within)); identifiers = λ i j d less within. absurd (omega (arith, less, within)) };
  backs = λ link inside. absurd (Contains-none link inside);
}

if_ok : {X E : Type 0} (P : X → Type 0) (result : Result X E) (x : X) → IfOk result P → result ≡ Ok x → P x
if_ok {X} {E} P result x holds is = subst (λ (r : Result X E). IfOk r P) is holds

pub roster-in_order : (octets : List ℕ) (roster : RosterOf) → roster_of octets ≡ Ok roster → AreMembers roster.members × IsTwoWay roster.links
roster-in_order octets roster is = if_ok IsSound (roster_of octets) roster (sound-from 1 nothing_named (lines_of octets) sound-empty) is
