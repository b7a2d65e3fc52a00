-- Texts that are written one after the other.
use Rattle.std.proofs.Common.{◌≡◌, ℕ, ◌+◌, ◌/◌, ◌%◌, ◌^◌, ◌<◌, ◌≤◌, List, [], ◌∷◌, ◌++◌, length, take, drop, refl, sym, ap, ◌∙◌, arith, append_assoc, add-one, zero-add}
use Rattle.std.proofs.Math.ListN.{set}
use Rattle.std.specs.Fmt.{decimal}
use Rattle.std.proofs.lemmas.Fmt.{decimal_digit, decimal_step, length-decimal-le}
use Rattle.std.proofs.lemmas.List.{take_at, drop_at, drop-drop, length-take, length-append, set_split}
use Rattle.rcp_base.specs.IpPrefix.{IpPrefix}
use Rattle.rcp_base.specs.Text.{dot, slash, written_at, address_text, prefix_text}

pub set-written : (place b : ℕ) (old : List ℕ) → place < length old → set old place b ≡ written_at place (b ∷ []) old
set-written place b old lt = set_split old place b lt ∙ ap (λ (n : ℕ). take place old ++ b ∷ drop n old) (sym (add-one place))

pub written_then : (place : ℕ) (t u old : List ℕ) → place + length t + length u ≤ length old → written_at (place + length t) u (written_at place t old) ≡ written_at place (t ++ u) old
written_then place t u old room =
    let front = take place old ++ t in
    let rest = drop (place + length t) old in
    let count : length front ≡ place + length t = omega (arith, length-append (take place old) t, length-take place old) in
    let regrouped : written_at place t old ≡ front ++ rest = sym (append_assoc (take place old) t rest) in
    let before : take (place + length t) (front ++ rest) ≡ front = take_at front rest (place + length t) count in
    let after : drop (place + length t + length u) (front ++ rest) ≡ drop (place + length t + length u) old =
    sym (drop-drop (length u) (place + length t) (front ++ rest)) ∙ ap (drop (length u)) (drop_at front rest (place + length t) count) ∙ drop-drop (length u) (place + length t) old in
    let both : place + length t + length u ≡ place + length (t ++ u) = omega (arith, length-append t u) in
    ap (written_at (place + length t) u) regrouped
    ∙ rw (before, after) refl
    ∙ append_assoc (take place old) t (u ++ drop (place + length t + length u) old)
    ∙ ap (λ (x : List ℕ). take place old ++ x) (sym (append_assoc t u (drop (place + length t + length u) old)))
    ∙ ap (λ (n : ℕ). take place old ++ ((t ++ u) ++ drop n old)) both

-- ---- numbers

pub put_digit : (n place : ℕ) (out : List ℕ) → n < 10 → place < length out → set out place (48 + n) ≡ written_at place (decimal n) out
put_digit n place out lt room = set-written place (48 + n) out room ∙ ap (λ (t : List ℕ). written_at place t out) (sym (decimal_digit n lt))

pub length-decimal_step : (n : ℕ) → 10 ≤ n → n < 2 ^ 64 → length (decimal n) ≡ length (decimal (n / 10)) + 1
length-decimal_step n le fits = ap length (decimal_step n le fits) ∙ length-append (decimal (n / 10)) ((48 + n % 10) ∷ [])

pub put_more : (n place : ℕ) (out new : List ℕ) → 10 ≤ n → n < 2 ^ 64 → place + length (decimal n) ≤ length out → new ≡ written_at place (decimal (n / 10)) out → length new ≡ length out
    → set new (place + length (decimal (n / 10))) (48 + n % 10) ≡ written_at place (decimal n) out
put_more n place out new le fits room is len =
    let digits = decimal (n / 10) in
    let at = place + length (decimal (n / 10)) in
    let more = length-decimal_step n le fits in
    set-written at (48 + n % 10) new (omega (arith, more, len))
    ∙ ap (written_at at ((48 + n % 10) ∷ [])) is
    ∙ written_then place digits ((48 + n % 10) ∷ []) out (omega (arith, more))
    ∙ ap (λ (t : List ℕ). written_at place t out) (sym (decimal_step n le fits))

-- ---- addresses and prefixes

pub short : (n : ℕ) → n < 256 → length (decimal n) ≤ 3
short n lt = length-decimal-le 3 n (omega arith) (omega arith) (omega arith)

-- one more text, after what was written from the front on
goes_on : (out was now t u : List ℕ) (place : ℕ) → was ≡ written_at 0 t out → place ≡ length t → now ≡ written_at place u was → length t + length u ≤ length out → now ≡ written_at 0 (t ++ u) out
goes_on out was now t u place first at second room =
    second ∙ ap (written_at place u) first ∙ ap (λ (n : ℕ). written_at n u (written_at 0 t out)) (at ∙ sym (zero-add (length t)))
    ∙ written_then 0 t u out (omega arith)

regroup : (a b c d : List ℕ) → ((a ++ b) ++ c) ++ d ≡ a ++ (b ++ (c ++ d))
regroup a b c d = append_assoc (a ++ b) c d ∙ append_assoc a b (c ++ d)

pub address_written : (out one two three four : List ℕ) (a b c d p q r : ℕ) → a < 256 → b < 256 → c < 256 → d < 256 → 15 ≤ length out
    → one ≡ written_at 0 (decimal a) out → p ≡ 0 + length (decimal a)
    → two ≡ written_at p (dot ∷ decimal b) one → q ≡ p + 1 + length (decimal b)
    → three ≡ written_at q (dot ∷ decimal c) two → r ≡ q + 1 + length (decimal c)
    → four ≡ written_at r (dot ∷ decimal d) three
    → four ≡ written_at 0 (decimal a ++ dot ∷ (decimal b ++ dot ∷ (decimal c ++ dot ∷ decimal d))) out
address_written out one two three four a b c d p q r la lb lc ld room e1 at1 e2 at2 e3 at3 e4 =
    let sa = short a la in
    let sb = short b lb in
    let sc = short c lc in
    let sd = short d ld in
    let ta = decimal a in
    let tb = dot ∷ decimal b in
    let tc = dot ∷ decimal c in
    let td = dot ∷ decimal d in
    let lab : length (ta ++ tb) ≡ length ta + length tb = length-append ta tb in
    let labc : length ((ta ++ tb) ++ tc) ≡ length (ta ++ tb) + length tc = length-append (ta ++ tb) tc in
    let two-is = goes_on out one two ta tb p e1 (omega arith) e2 (omega arith) in
    let three-is = goes_on out two three (ta ++ tb) tc q two-is (omega arith) e3 (omega arith) in
    let four-is = goes_on out three four ((ta ++ tb) ++ tc) td r three-is (omega arith) e4 (omega arith) in
    four-is ∙ ap (λ (t : List ℕ). written_at 0 t out) (regroup ta tb tc td)

pub length-address : (a b c d : ℕ) → length (decimal a ++ dot ∷ (decimal b ++ dot ∷ (decimal c ++ dot ∷ decimal d))) ≡ length (decimal a) + 1 + length (decimal b) + 1 + length (decimal c) + 1 + length (decimal d)
length-address a b c d = omega (arith, length-append (decimal a) (dot ∷ (decimal b ++ dot ∷ (decimal c ++ dot ∷ decimal d))), length-append (decimal b) (dot ∷ (decimal c ++ dot ∷ decimal d)), length-append (decimal c) (dot ∷ decimal d))

pub prefix_written : (out one two : List ℕ) (addr len place : ℕ) → one ≡ written_at 0 (address_text addr) out → place ≡ length (address_text addr) → place + 1 + length (decimal len) ≤ length out → length one ≡ length out
    → two ≡ written_at (place + 1) (decimal len) (set one place slash) → two ≡ written_at 0 (address_text addr ++ slash ∷ decimal len) out
prefix_written out one two addr len place first at room same second =
    let text = address_text addr in
    let mark = slash ∷ [] in
    let both : length (text ++ mark) ≡ length text + 1 = length-append text mark in
    let marked = goes_on out one (set one place slash) text mark place first at (set-written place slash one (omega arith)) (omega arith) in
    goes_on out (set one place slash) two (text ++ mark) (decimal len) (place + 1) marked (omega arith) second (omega arith)
    ∙ ap (λ (t : List ℕ). written_at 0 t out) (append_assoc text mark (decimal len))

pub two_digits : (n len : ℕ) → n ≡ len → len ≤ 32 → length (decimal n) ≤ 2
two_digits n len e le = length-decimal-le 2 n (omega arith) (omega arith) (omega arith)

pub length-prefix : (p : IpPrefix) → length (prefix_text p) ≡ length (address_text p.addr) + 1 + length (decimal p.len)
length-prefix p = omega (arith, length-append (address_text p.addr) (slash ∷ decimal p.len))

-- a text at the front, and the rest as it was
pub front_written : (text out now : List ℕ) (place : ℕ) → now ≡ written_at 0 text out → place ≡ length text → now ≡ text ++ drop place out
front_written text out now place is at = is ∙ ap (λ (n : ℕ). text ++ drop n out) (zero-add (length text) ∙ sym at)

pub prefix_at_front : (p : IpPrefix) (out one two : List ℕ) (addr len place end : ℕ) → addr ≡ p.addr → len ≡ p.len → one ≡ written_at 0 (address_text addr) out → place ≡ length (address_text addr)
    → place + 1 + length (decimal len) ≤ length out → length one ≡ length out → two ≡ written_at (place + 1) (decimal len) (set one place slash) → end ≡ place + 1 + length (decimal len)
    → two ≡ prefix_text p ++ drop end out
prefix_at_front p out one two addr len place end ea el first at room same second ends =
    let text : prefix_text p ≡ address_text addr ++ slash ∷ decimal len = rw (ea, el) refl in
    let all : end ≡ length (prefix_text p) = ends ∙ ap (λ (n : ℕ). n + 1 + length (decimal len)) at ∙ rw (ea, el) (sym (length-prefix p)) in
    front_written (prefix_text p) out two end (prefix_written out one two addr len place first at room same second ∙ ap (λ (t : List ℕ). written_at 0 t out) (sym text)) all
