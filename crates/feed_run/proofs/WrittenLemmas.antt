-- What was written of a list of output records.
use Rattle.std.proofs.Common.{◌≡◌, ◌≢◌, ℕ, suc, ◌+◌, ◌<◌, List, [], ◌∷◌, ◌++◌, length, get_or, take, drop, Option, Result, Ok, Err, sym, ap, ◌∙◌, arith}
use Rattle.std.specs.Prelude.{OnErr}
use Rattle.std.specs.List.{flat_map}
use Rattle.std.proofs.Math.Seq.{take-append-add, drop-cons}
use Rattle.std.proofs.lemmas.Grind.{flat_map-append}
use Rattle.std.proofs.lemmas.List.{length-append, length-drop, take-append-le, take-append-drop}
use Rattle.outside.specs.Told.{behind, behind-append}
use Rattle.rcp_base.specs.Feed.{OutRecord, out_octets}
use Rattle.feed_format.specs.Writing.{WritesLess}

pub both : (before between after : Option (List ℕ)) (first rest : List ℕ) → between ≡ behind before first → after ≡ behind between rest → after ≡ behind before (first ++ rest)
both before between after first rest a b = b ∙ ap (λ (t : Option (List ℕ)). behind t rest) a ∙ behind-append before first rest

-- ---- a list of records, one of which was written in part

pub wrote_less : (before between now : Option (List ℕ)) (done piece rest : List ℕ) → between ≡ behind before done → WritesLess piece between now → WritesLess (done ++ (piece ++ rest)) before now
wrote_less before between now done piece rest a h =
    let fewer : h.count < length piece = h.fewer in
    record {
      count = length done + h.count;
      fewer = omega (arith, fewer, length-append done (piece ++ rest), length-append piece rest);
      taken = both before between now done (take h.count piece) a h.taken
          ∙ ap (behind before) (ap (λ (l : List ℕ). done ++ l) (sym (take-append-le h.count piece rest (omega (arith, fewer)))) ∙ sym (take-append-add done (piece ++ rest) h.count));
    }

pub some_missing : (n : ℕ) (xs : List ℕ) → n < length xs → drop n xs ≢ []
some_missing n xs fewer none = absurd (omega (arith, length-drop n xs, ap length none))

pub parts_of : (outs : List OutRecord) (i : ℕ) (out : OutRecord) → i < length outs → out ≡ get_or outs i out
    → flat_map out_octets outs ≡ flat_map out_octets (take i outs) ++ (out_octets out ++ flat_map out_octets (drop (suc i) outs))
parts_of outs i out within is =
    ap (flat_map out_octets) (sym (take-append-drop i outs)) ∙ flat_map-append out_octets (take i outs) (drop i outs)
    ∙ ap (λ (l : List OutRecord). flat_map out_octets (take i outs) ++ flat_map out_octets l) (drop-cons outs i out within ∙ ap (λ (o : OutRecord). o ∷ drop (suc i) outs) (sym is))

-- what holds after an error holds of it
pub on_err : {X E A : Type 0} (r : Result X E) → A → OnErr r A
on_err (Ok x) h = tt
on_err (Err e) h = h
