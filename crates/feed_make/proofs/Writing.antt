-- Octets that are written one part after another.
use Rattle.std.proofs.Common.{◌≡◌, ℕ, ◌+◌, ◌-◌, ◌<◌, ◌≤◌, List, [], ◌++◌, length, take, Option, Ok, Err, Result, refl, sym, ap, subst, ◌∙◌, arith, length-append}
use Rattle.std.proofs.Math.Seq.{take-append-add}
use Rattle.std.proofs.lemmas.List.{take-append-le}
use Rattle.std.specs.List.{flat_map}
use Rattle.feed_make.specs.Numbers.{numbers_from}
use Rattle.outside.specs.Told.{behind, behind-append, behind-nil}
use Rattle.feed_make.specs.declared.refusal.MakeRefusal.{MakeRefusal}
use Rattle.feed_make.specs.declared.refusal.MakeRefusal.TheVariants.{Write, NoMemory}
use Rattle.feed_make.specs.Writes.{WritesPart, Writes}
use Rattle.feed_make.proofs.Ranges.{numbers-none, range-more, range-at}

-- nothing was taken
pub nothing : (octets : List ℕ) (before : Option (List ℕ)) (e : MakeRefusal) → e ≡ NoMemory → WritesPart octets before before e
nothing octets before e is = record {
  count = 0;
  within = omega arith;
  fewer = λ write. absurd (let same : NoMemory ≡ Write = sym is ∙ write in cc);
  taken = sym (behind-nil before);
}

-- a front of a front
pub stops_early : (first more : List ℕ) (before now : Option (List ℕ)) (e : MakeRefusal) → WritesPart first before now e → WritesPart (first ++ more) before now e
stops_early first more before now e part = record {
  count = part.count;
  within = omega (arith, part.within, length-append first more);
  fewer = λ write. omega (arith, part.fewer write, length-append first more);
  taken = part.taken ∙ ap (behind before) (sym (take-append-le part.count first more part.within));
}

-- a front of what comes after octets that were taken
pub stops_later : (first more : List ℕ) (before mid now : Option (List ℕ)) (e : MakeRefusal) → mid ≡ behind before first → WritesPart more mid now e → WritesPart (first ++ more) before now e
stops_later first more before mid now e done part = record {
  count = length first + part.count;
  within = omega (arith, part.within, length-append first more);
  fewer = λ write. omega (arith, part.fewer write, length-append first more);
  taken =
      part.taken ∙ ap (λ (t : Option (List ℕ)). behind t (take part.count more)) done
      ∙ behind-append before first (take part.count more)
      ∙ ap (behind before) (sym (take-append-add first more part.count));
}

pub all_taken : (first more : List ℕ) (before mid now : Option (List ℕ)) → mid ≡ behind before first → now ≡ behind mid more → now ≡ behind before (first ++ more)
all_taken first more before mid now done last = last ∙ ap (λ (t : Option (List ℕ)). behind t more) done ∙ behind-append before first more

pub then_writes : (first more : List ℕ) (before mid now : Option (List ℕ)) (result : Result (Unit {0}) MakeRefusal) → mid ≡ behind before first → Writes more mid now result → Writes (first ++ more) before now result
then_writes first more before mid now (Ok u) done writes = all_taken first more before mid now done writes
then_writes first more before mid now (Err e) done part = stops_later first more before mid now e done part

-- a loop over numbers: what each writes
module _ (f : ℕ → List ℕ) (n : ℕ) (before mid now : Option (List ℕ)) (i : ℕ) where
  pub goes_on : mid ≡ behind before (flat_map f (numbers_from 0 i)) → now ≡ behind mid (f i) → now ≡ behind before (flat_map f (numbers_from 0 (i + 1)))
  goes_on done next = all_taken (flat_map f (numbers_from 0 i)) (f i) before mid now done next ∙ ap (behind before) (sym (range-more f i))

  pub stops_at : (e : MakeRefusal) → i < n → mid ≡ behind before (flat_map f (numbers_from 0 i)) → WritesPart (f i) mid now e → WritesPart (flat_map f (numbers_from 0 n)) before now e
  stops_at e less done part =
      let others = flat_map f (numbers_from (i + 1) (n - i - 1)) in
      subst (λ (octets : List ℕ). WritesPart octets before now e) (sym (range-at f i n less))
      (stops_later (flat_map f (numbers_from 0 i)) (f i ++ others) before mid now e done (stops_early (f i) others mid now e part))

-- The octets before a part were taken, for which there was no memory.
pub stops_before : (whole first rest : List ℕ) (before mid : Option (List ℕ)) (e : MakeRefusal) → whole ≡ first ++ rest → mid ≡ behind before first → e ≡ NoMemory → WritesPart whole before mid e
stops_before whole first rest before mid e is done want =
    subst (λ (octets : List ℕ). WritesPart octets before mid e) (sym is) (stops_later first rest before mid mid e done (nothing rest mid e want))

-- none of a loop's parts is written yet
pub begins : (f : ℕ → List ℕ) (before : Option (List ℕ)) → before ≡ behind before (flat_map f (numbers_from 0 0))
begins f before = sym (ap (λ (ns : List ℕ). behind before (flat_map f ns)) (numbers-none 0) ∙ behind-nil before)
