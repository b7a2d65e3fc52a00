-- What was taken at each place where taking a record ends.
use Rattle.std.proofs.Common.{◌≡◌, ℕ, ◌+◌, ◌^◌, ◌<◌, ◌≤◌, Bool, true, false, cond, ltb, leb, All, List, [], ◌∷◌, ◌++◌, length, Option, Some, None, Ok, Err, refl, sym, ap, subst, ◌∙◌, append_assoc, arith, inl, inr}
use Rattle.std.specs.Prelude.{IfSome, unwrap_or, is_none, not, ◌&&◌, ◌||◌}
use Rattle.std.specs.Result.{result_err}
use Rattle.std.proofs.lemmas.Bool.{lt-ltb, le-ltb, ltb-false, lt-leb, cases_lt}
use Rattle.std.proofs.lemmas.List.{length-append, get_or_past}
use Rattle.std.proofs.lemmas.Option.{IfSome_then}
use Rattle.outside.specs.Told.{in_front, in_front-nil, in_front-append}
use Rattle.rcp_base.specs.declared.kinds.Kind.TheVariants as kinds
use Rattle.rcp_base.specs.declared.kinds.FeedWhy.{FeedWhy}
use Rattle.rcp_base.specs.declared.kinds.FeedWhy.TheVariants as why
use Rattle.rcp_base.specs.Checks.{first_failing, unless}
use Rattle.rcp_base.specs.Feed.{FeedState, FeedRecord, kind_of, kind_in, letter_at, length_at, frame_size, is_roster, has_length, header_checks, frame_checks, body_checks, fault_in_front, fault_of}
use Rattle.feed_format.specs.declared.taking.Stop.{Stop}
use Rattle.feed_format.specs.declared.taking.Stop.TheVariants as stop
use Rattle.feed_format.specs.declared.reader.Header.{Header}
use Rattle.feed_format.specs.Taking.{TakesFewer, TakesUpTo, IsShortOrRead, IsNoOtherFault}
use Rattle.feed_format.specs.HeaderOf.{IsHeader}
use Rattle.feed_format.specs.Reading.{Takes, TakesPart, TakesLess, TakesRecord, TakesFault}
use Rattle.feed_format.proofs.FrontLemmas.{too_long, short_header, faulty_header, short_body, whole, record_of, header_is, frame_size_front, passes_first, passes-append, IsBytes, source_bound}

-- what holds however the octets that were taken go on
pub told_in_front : (P : List ℕ → Type 0) (taken : List ℕ) (before now : Option (List ℕ)) → before ≡ in_front taken now → ((rest : List ℕ) → P (taken ++ rest)) → IfSome before P
told_in_front P taken before None given each = subst (λ (o : Option (List ℕ)). IfSome o P) (sym given) tt
told_in_front P taken before (Some rest) given each = subst (λ (o : Option (List ℕ)). IfSome o P) (sym given) (each rest)

-- the same, where more is known of those that follow
told_behind : (P Q : List ℕ → Type 0) (taken : List ℕ) (before now : Option (List ℕ)) → before ≡ in_front taken now → IfSome now Q → ((rest : List ℕ) → Q rest → P (taken ++ rest)) → IfSome before P
told_behind P Q taken before None given known each = subst (λ (o : Option (List ℕ)). IfSome o P) (sym given) tt
told_behind P Q taken before (Some rest) given known each = subst (λ (o : Option (List ℕ)). IfSome o P) (sym given) (each rest known)

always : {P : List ℕ → Type 0} (o : Option (List ℕ)) → ((octets : List ℕ) → P octets) → IfSome o P
always None each = tt
always (Some octets) each = each octets

frame_size_short : (taken : List ℕ) → length taken < 9 → frame_size taken ≡ 9
frame_size_short taken lt = ap (λ (b : Bool). cond b 9 (9 + length_at taken)) (lt-ltb _ _ lt)

frame_size_long : (taken : List ℕ) → 9 ≤ length taken → frame_size taken ≡ 9 + length_at taken
frame_size_long taken le = ap (λ (b : Bool). cond b 9 (9 + length_at taken)) (le-ltb _ _ le)

-- ---- before the header

pub stops_too_long : (state : FeedState) (before : Option (List ℕ)) → 2 ^ 40 ≤ state.octets → TakesFault state before before why.TooLong
stops_too_long state before le = record {
  part = record { taken = []; within = omega arith; given = sym (in_front-nil before) };
  first = always before (λ octets. too_long state octets le);
}

less_from_fewer : (state : FeedState) (before now : Option (List ℕ)) → state.octets < 2 ^ 40 → TakesFewer 9 before now → TakesLess state before now
less_from_fewer state before now few h = record {
  taken = h.taken;
  within = omega (arith, frame_size_short h.taken h.fewer, h.fewer);
  cut = short_header state h.taken few h.fewer;
  given = h.given;
}

part_from_fewer : (before now : Option (List ℕ)) → TakesFewer 9 before now → TakesPart before now
part_from_fewer before now h = record { taken = h.taken; within = omega (arith, frame_size_short h.taken h.fewer, h.fewer); given = h.given }

pub stops_at_header : (state : FeedState) (before now : Option (List ℕ)) (s : Stop) → state.octets < 2 ^ 40 → IsShortOrRead s
    → (s ≡ stop.Fault why.Truncated → IfSome before (λ octets. length octets < 9)) → TakesFewer 9 before now → Takes state before now (Err s)
stops_at_header state before now (stop.Fault w) few cause short fewer = record {
  part = part_from_fewer before now fewer;
  first = IfSome_then before (short (ap stop.Fault cause)) (λ octets lt. short_header state octets few lt ∙ ap Some (sym cause));
}
stops_at_header state before now stop.Read few cause short fewer = less_from_fewer state before now few fewer
stops_at_header state before now stop.NoMemory few cause short fewer = absurd cause

-- ---- the header

part_of_header : (h : List ℕ) (before now : Option (List ℕ)) → length h ≡ 9 → before ≡ in_front h now → TakesPart before now
part_of_header h before now nine given = record { taken = h; within = omega (arith, frame_size_long h (omega arith)); given = given }

pub stops_by_header : (state : FeedState) (h : List ℕ) (before now : Option (List ℕ)) (w : FeedWhy) → state.octets < 2 ^ 40 → length h ≡ 9 → before ≡ in_front h now
    → Some w ≡ first_failing (frame_checks state h) → TakesFault state before now w
stops_by_header state h before now w few nine given faulty = record {
  part = part_of_header h before now nine given;
  first = told_in_front (λ octets. fault_in_front state octets ≡ Some w) h before now given (λ rest. faulty_header state h rest w few nine (sym faulty));
}

-- ---- the body

-- a header was taken and passed its checks
pub record Passed (state : FeedState) (h : List ℕ) (header : Header) (before mid : Option (List ℕ)) : Type 0 where
  pub few : state.octets < 2 ^ 40
  pub nine : length h ≡ 9
  pub given : before ≡ in_front h mid
  pub passed : None ≡ first_failing (frame_checks state h)
  pub says : IsHeader header h

joined : (h more : List ℕ) (before mid now : Option (List ℕ)) → before ≡ in_front h mid → mid ≡ in_front more now → before ≡ in_front (h ++ more) now
joined h more before mid now first second = first ∙ ap (in_front h) second ∙ in_front-append h more now

part_of_body : (state : FeedState) (h : List ℕ) (header : Header) (before mid now : Option (List ℕ)) → Passed state h header before mid → TakesUpTo header.len mid now → TakesPart before now
part_of_body state h header before mid now p t = record {
  taken = h ++ t.taken;
  within = omega (arith, length-append h t.taken, frame_size_front h t.taken p.nine, p.nine, p.says.len, t.within);
  given = joined h t.taken before mid now p.given t.given;
}

less_of_body : (state : FeedState) (h : List ℕ) (header : Header) (before mid now : Option (List ℕ)) → Passed state h header before mid → TakesFewer header.len mid now → TakesLess state before now
less_of_body state h header before mid now p t = record {
  taken = h ++ t.taken;
  within = omega (arith, length-append h t.taken, frame_size_front h t.taken p.nine, p.nine, p.says.len, t.fewer);
  cut = short_body state h t.taken p.few p.nine (sym p.passed) (omega (arith, t.fewer, p.says.len));
  given = joined h t.taken before mid now p.given t.given;
}

pub stops_at_body : (state : FeedState) (h : List ℕ) (header : Header) (before mid now : Option (List ℕ)) (s : Stop) → Passed state h header before mid → IsNoOtherFault s
    → (s ≡ stop.Fault why.Truncated → IfSome mid (λ octets. length octets < header.len)) → TakesUpTo header.len mid now
    → (s ≡ stop.Read → TakesFewer header.len mid now) → Takes state before now (Err s)
stops_at_body state h header before mid now (stop.Fault w) p cause short part less = record {
  part = part_of_body state h header before mid now p part;
  first = told_behind (λ octets. fault_in_front state octets ≡ Some w) (λ octets. length octets < header.len) h before mid p.given (short (ap stop.Fault cause))
      (λ rest lt. short_body state h rest p.few p.nine (sym p.passed) (omega (arith, lt, p.says.len)) ∙ ap Some (sym cause));
}
stops_at_body state h header before mid now stop.Read p cause short part less = less_of_body state h header before mid now p (less refl)
stops_at_body state h header before mid now stop.NoMemory p cause short part less = part_of_body state h header before mid now p part

-- ---- the record

abbrev item_of : Header → List ℕ → FeedRecord
item_of header body = record { kind = header.kind; source = header.source; body = body }

record_of_header : (h : List ℕ) (header : Header) (body : List ℕ) → IsHeader header h → record_of h body ≡ item_of header body
record_of_header h header body is =
    let kind : kind_in h ≡ header.kind = ap (λ (k : Option kinds.the_data). unwrap_or k kinds.Finish) is.kind in
    rw (kind, is.source) refl

whole_body : (state : FeedState) (h : List ℕ) (header : Header) (body : List ℕ) (before mid now : Option (List ℕ)) → Passed state h header before mid → length body ≡ header.len → mid ≡ in_front body now
    → (o : Option FeedWhy) → first_failing (body_checks state (item_of header body)) ≡ o → IfSome before (λ octets. fault_in_front state octets ≡ o)
whole_body state h header body before mid now p len given o judged =
    told_in_front (λ octets. fault_in_front state octets ≡ o) (h ++ body) before now (joined h body before mid now p.given given)
    (λ rest. ap (fault_in_front state) (append_assoc h body rest) ∙ whole state h body rest p.few p.nine (sym p.passed) (len ∙ p.says.len)
    ∙ ap (λ (item : FeedRecord). first_failing (body_checks state item)) (record_of_header h header body p.says) ∙ judged)

pub stops_by_body : (state : FeedState) (h : List ℕ) (header : Header) (body : List ℕ) (before mid now : Option (List ℕ)) (w : FeedWhy) → Passed state h header before mid → length body ≡ header.len → mid ≡ in_front body now
    → first_failing (body_checks state (item_of header body)) ≡ Some w → TakesFault state before now w
stops_by_body state h header body before mid now w p len given judged = record {
  part = part_of_body state h header before mid now p (record { taken = body; within = omega (arith, len); given = given });
  first = whole_body state h header body before mid now p len given (Some w) judged;
}

header_passes : (state : FeedState) (h : List ℕ) (header : Header) → None ≡ first_failing (frame_checks state h) → IsHeader header h → first_failing (header_checks state header.kind header.len) ≡ None
header_passes state h header passed is =
    let known : is_none (kind_of (letter_at h)) ≡ false = ap is_none is.kind in
    let kind : kind_in h ≡ header.kind = ap (λ (k : Option kinds.the_data). unwrap_or k kinds.Finish) is.kind in
    ap (λ (k : kinds.the_data). first_failing (header_checks state k header.len)) (sym kind)
    ∙ ap (λ (n : ℕ). first_failing (header_checks state (kind_in h) n)) is.len
    ∙ (passes_first (is_none (kind_of (letter_at h))) why.Kind (header_checks state (kind_in h) (length_at h)) (sym passed)).1

either : (a b : Bool) → (a || b) ≡ false → a ≡ false
either true b e = absurd cc
either false b e = refl

length_passes : (state : FeedState) (kind : kinds.the_data) (len : ℕ) → first_failing (header_checks state kind len) ≡ None → len ≤ 65536
length_passes state kind len e =
    let one = passes_first (not state.started && not (is_roster kind)) why.NoRoster ((state.started && is_roster kind, why.Twice) ∷ (ltb 65536 len || not (has_length kind len), why.Length) ∷ []) e in
    let two = passes_first (state.started && is_roster kind) why.Twice ((ltb 65536 len || not (has_length kind len), why.Length) ∷ []) one.1 in
    let three = passes_first (ltb 65536 len || not (has_length kind len)) why.Length [] two.1 in
    ltb-false _ _ (either (ltb 65536 len) (not (has_length kind len)) three.0)

bytes_from_all : (h : List ℕ) → All (λ octet. octet < 256) h → IsBytes h
bytes_from_all h all i =
    elim (cases_lt i (length h)) [ inl lt ↦ all i 0 lt | inr le ↦ rw (get_or_past h i 0 le) (omega arith) ]

pub is_lawful : (state : FeedState) (item : FeedRecord) → state.octets < 2 ^ 40 → first_failing (header_checks state item.kind (length item.body)) ≡ None → first_failing (body_checks state item) ≡ None → fault_of state item ≡ None
unfolding fault_of
is_lawful state item few header body =
    let some : leb (2 ^ 40) state.octets ≡ false = lt-leb _ _ few in
    rw some (passes-append (header_checks state item.kind (length item.body)) (body_checks state item) header ∙ body)

pub takes_record : (state : FeedState) (h : List ℕ) (header : Header) (body : List ℕ) (before mid now : Option (List ℕ)) → Passed state h header before mid → All (λ octet. octet < 256) h → length body ≡ header.len → mid ≡ in_front body now
    → All (λ octet. octet < 256) body → first_failing (body_checks state (item_of header body)) ≡ None → TakesRecord state before now (item_of header body)
takes_record state h header body before mid now p octets len given body_octets judged =
    let fits : IsBytes h = bytes_from_all h octets in
    let item = item_of header body in
    let passed = header_passes state h header p.passed p.says in
    record {
      form = record { source = omega (arith, source_bound h fits, p.says.source); length = omega (arith, length_passes state header.kind header.len passed, len); octets = body_octets };
      lawful = is_lawful state item p.few (ap (λ (n : ℕ). first_failing (header_checks state header.kind n)) len ∙ passed) judged;
      given = joined h body before mid now p.given given ∙ ap (λ (xs : List ℕ). in_front (xs ++ body) now) (header_is h item p.nine fits p.says.kind p.says.source (len ∙ p.says.len));
    }

-- ---- what a judgement was

pub fault_is : {X : Type 0} (fault : Option FeedWhy) (x : X) (w : FeedWhy) → Err w ≡ unless fault x → fault ≡ Some w
fault_is None x w e = absurd cc
fault_is (Some v) x w e = ap result_err (sym e)

pub no_fault : {X : Type 0} (fault : Option FeedWhy) (x y : X) → Ok y ≡ unless fault x → fault ≡ None
no_fault None x y e = refl
no_fault (Some v) x y e = absurd cc
