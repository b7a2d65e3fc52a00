-- A walk over the prefixes of a section, by places.
use Rattle.std.proofs.Common.{◌≡◌, ℕ, ◌+◌, ◌≤◌, cond, eqb, Bool, true, false, List, [], ◌∷◌, length, drop, Some, None, refl, sym, ap, ◌∙◌, arith, length-drop}
use Rattle.std.proofs.lemmas.Bool.{eqb-true}
use Rattle.std.proofs.lemmas.List.{drop-drop}
use Rattle.std.proofs.lemmas.Option.{none-some}
use Rattle.rcp_base.specs.IpPrefix.{IpPrefix, prefix_at}
use Rattle.rcp_model.specs.Messages.{FaultOf, fault}
use Rattle.rcp_model.specs.Updates.{prefixes_in, prefixes_fault}
use Rattle.bgp_msg.proofs.Prefixes.{prefixes_in-front, prefixes_in-none}

fault_of_some : (b : Bool) (f : FaultOf) → cond b None (Some f) ≡ None → b ≡ true
fault_of_some true f e = refl
fault_of_some false f e = absurd (none-some f (sym e))

-- where faultless prefixes have none in front, they are at the end
pub nothing_left : (section : List ℕ) → prefixes_fault section ≡ None → prefix_at section ≡ None → length section ≡ 0
nothing_left section faultless none =
    eqb-true _ _ (fault_of_some (eqb (length section) 0) (fault 3 10 []) (sym (prefixes_in-none section none).1 ∙ faultless))

pub record Ends (section : List ℕ) (place : ℕ) : Type 0 where
  pub end : place ≡ length section
  pub nothing : prefixes_in (drop place section) ≡ []

pub walk_ends : (section rest : List ℕ) (place : ℕ) → place ≤ length section → rest ≡ drop place section
    → prefixes_fault (drop place section) ≡ None → None ≡ prefix_at rest → Ends section place
walk_ends section rest place within behind faultless none =
    let e : prefix_at (drop place section) ≡ None = ap prefix_at (sym behind) ∙ sym none in
    record {
      end = omega (arith, nothing_left (drop place section) faultless e, length-drop place section);
      nothing = (prefixes_in-none (drop place section) e).0;
    }

pub record Goes (section : List ℕ) (place : ℕ) (p : IpPrefix) (n : ℕ) : Type 0 where
  pub first : prefixes_in (drop place section) ≡ p ∷ prefixes_in (drop (place + n) section)
  pub faults : prefixes_fault (drop (place + n) section) ≡ prefixes_fault (drop place section)

pub walk_goes : (section rest : List ℕ) (place : ℕ) (p : IpPrefix) (n : ℕ) → rest ≡ drop place section
    → Some (p, n) ≡ prefix_at rest → Goes section place p n
walk_goes section rest place p n behind some =
    let front = prefixes_in-front (drop place section) p n (ap prefix_at (sym behind) ∙ sym some) in
    let both : drop n (drop place section) ≡ drop (place + n) section = drop-drop n place section in
    record {
      first = front.0 ∙ ap (λ (o : List ℕ). p ∷ prefixes_in o) both;
      faults = ap prefixes_fault (sym both) ∙ sym front.1;
    }

-- where prefixes have none in front before the end, that is their fault
pub malformed : (section : List ℕ) → eqb (length section) 0 ≡ false → None ≡ prefix_at section → prefixes_fault section ≡ Some (fault 3 10 [])
malformed section more none = (prefixes_in-none section (sym none)).1 ∙ rw more refl
