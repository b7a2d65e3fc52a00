-- What is named stays in form, line after line.
use Rattle.std.proofs.Common.{◌≡◌, ◌≢◌, ℕ, ◌<◌, ◌≤◌, Bool, true, false, not, cond, eqb, nat_le, ◌&&◌, ◌||◌, List, [], ◌∷◌, ◌++◌, length, get_or, All, Option, Some, None, is_some, IfSome, Result, Ok, Err, IfOk, inl, inr, option_and_then, refl, sym, ap, subst, ◌∙◌, true≢false, arith, length-append, append_assoc, bytes_eq, codes}
use Rattle.std.proofs.lemmas.Bool.{cond_both, eqb-false, eq-eqb, leb-true, leb-false}
use Rattle.std.proofs.lemmas.Option.{IfSome_then}
use Rattle.std.proofs.lemmas.List.Folds.{list_any-append, list_any_at}
use Rattle.std.proofs.lemmas.List.Elements.{All-push, Contains-append_left, Contains-append_right, Contains-append_cases}
use Rattle.rcp_model.specs.Costs.{IsTwoWay}
use Rattle.rcp_model.proofs.MemberLemmas.{Contains-head, Contains-tail, Contains-cases, Contains-none}
use Rattle.std.proofs.lemmas.List.Quantifiers.{all_pairs_push}
use Rattle.std.specs.List.{list_any}
use Rattle.rcp_base.specs.declared.kinds.RosterWhy.{RosterWhy}
use Rattle.rcp_base.specs.declared.kinds.RosterWhy.TheVariants as why
use Rattle.rcp_base.specs.declared.names.Member.{Member}
use Rattle.rcp_base.specs.Checks.{first_failing, unless}
use Rattle.rcp_base.specs.Roster.{Line, As, Id, Shards, Hold, Area, Router, Link, number_within, except, as_value, hold_value, name_value, one, two, three, line_of_words, is_empty, words_of, line_of, Named, nothing_named, has_router, has_identifier, is_value, repeats, is_unknown, is_beyond, line_fault, with_line, with_text, is_skipped, with_any_text}
use Rattle.rcp_base.specs.Text.{number_of, address_of}
use Rattle.roster.proofs.EntryLemmas.{eqb-turned}
use Rattle.rcp_base.specs.declared.names.Edge.{Edge}
use Rattle.roster.specs.Drafts.{AreNamed}
use Rattle.roster.specs.declared.rosters.Settings.{Settings}
use Rattle.roster.proofs.RosterLemmas.{of_parts}
use Rattle.roster.specs.Form.{IsNamed, InForm, IsAsNumber, IsShardCount, IsHoldTime, AreMembers, IsLinkOf, NamedInForm}

-- ---- lines in form

abbrev LineInForm : Line → Type 0
LineInForm (As n) = IsAsNumber n
LineInForm (Id a) = Unit {0}
LineInForm (Shards n) = IsShardCount n
LineInForm (Hold n) = IsHoldTime n
LineInForm (Area a) = Unit {0}
LineInForm (Router router id) = (router ≢ 0) × (id ≢ 0)
LineInForm (Link u v cost) = (1 ≤ cost) × (cost ≤ 65535)

abbrev Within : ℕ → ℕ → ℕ → Type 0
Within low high n = (low ≤ n) × (n ≤ high)

both_true : (a b : Bool) → (a && b) ≡ true → (a ≡ true) × (b ≡ true)
both_true true true e = (refl, refl)
both_true true false e = absurd (true≢false (sym e))
both_true false b e = absurd (true≢false (sym e))

none_true : (a b : Bool) → (a || b) ≡ false → (a ≡ false) × (b ≡ false)
none_true true b e = absurd (true≢false e)
none_true false b e = (refl, e)

then_form : (f : ℕ → Option ℕ) (P : ℕ → Type 0) → ((n : ℕ) → IfSome (f n) P) → (o : Option ℕ) → IfSome (option_and_then f o) P
then_form f P each None = tt
then_form f P each (Some n) = each n

within_form : (low high : ℕ) (text : List ℕ) → IfSome (number_within low high text) (Within low high)
within_form low high text =
    then_form (λ n. cond (nat_le low n && nat_le n high) (Some n) None) (Within low high)
    (λ n. cond_both (nat_le low n && nat_le n high) (Some n) None (λ o. IfSome o (Within low high))
    (λ e. let b = both_true (nat_le low n) (nat_le n high) e in (leb-true low n b.0, leb-true n high b.1)) (λ _. tt))
    (number_of text)

except_form : (out : ℕ) (P : ℕ → Type 0) (o : Option ℕ) → IfSome o P → IfSome (except out o) (λ n. P n × (n ≢ out))
except_form out P None h = tt
except_form out P (Some n) h = cond_both (eqb n out) None (Some n) (λ o. IfSome o (λ n. P n × (n ≢ out))) (λ _. tt) (λ e. (h, eqb-false n out e))

as_form : (text : List ℕ) → IfSome (as_value text) IsAsNumber
as_form text =
    IfSome_then (as_value text) (except_form 23456 (Within 1 65535) (number_within 1 65535 text) (within_form 1 65535 text))
    (λ n h. record { least = h.0.0; most = h.0.1; own = h.1 })

shards_form : (text : List ℕ) → IfSome (number_within 1 64 text) IsShardCount
shards_form text = IfSome_then (number_within 1 64 text) (within_form 1 64 text) (λ n h. record { least = h.0; most = h.1 })

hold_form : (text : List ℕ) → IfSome (hold_value text) IsHoldTime
hold_form text =
    let two = except_form 2 (Within 0 65535) (number_within 0 65535 text) (within_form 0 65535 text) in
    IfSome_then (hold_value text) (except_form 1 (λ n. Within 0 65535 n × (n ≢ 2)) (except 2 (number_within 0 65535 text)) two)
    (λ n h. record { one = h.1; two = h.0.1; most = h.0.0.1 })

any_form : (o : Option ℕ) → IfSome o (λ _. Unit {0})
any_form None = tt
any_form (Some n) = tt

abbrev SaysForm : Result Line RosterWhy → Type 0
SaysForm said = IfOk said LineInForm

one_form : (line : ℕ → Line) (o : Option ℕ) → IfSome o (λ n. LineInForm (line n)) → SaysForm (one line o)
one_form line None h = tt
one_form line (Some n) h = h

router_form : (a b : Option ℕ) → IfSome a (λ n. n ≢ 0) → IfSome b (λ n. n ≢ 0) → SaysForm (two Router a b)
router_form None b h g = tt
router_form (Some a) b h g = one_form (Router a) b (IfSome_then b g (λ n other. (h, other)))

name_form : (text : List ℕ) → IfSome (name_value text) (λ n. n ≢ 0)
name_form text = IfSome_then (name_value text) (except_form 0 (λ _. Unit {0}) (address_of text) (any_form (address_of text))) (λ n h. h.1)

link_form : (a b c : Option ℕ) → IfSome c (Within 1 65535) → SaysForm (three Link a b c)
link_form None b c h = tt
link_form (Some a) None c h = tt
link_form (Some a) (Some b) c h = one_form (Link a b) c h

choice : (t : Bool) (a b : Result Line RosterWhy) → SaysForm a → SaysForm b → SaysForm (cond t a b)
choice t a b ha hb = cond_both t a b SaysForm (λ _. ha) (λ _. hb)

setting_form : (word a : List ℕ) → SaysForm (line_of_words (word ∷ a ∷ []))
setting_form word a =
    choice (bytes_eq word (codes "as")) _ _ (one_form As (as_value a) (as_form a))
    (choice (bytes_eq word (codes "id")) _ _ (one_form Id (address_of a) (any_form (address_of a)))
    (choice (bytes_eq word (codes "shards")) _ _ (one_form Shards (number_within 1 64 a) (shards_form a))
    (choice (bytes_eq word (codes "hold")) _ _ (one_form Hold (hold_value a) (hold_form a))
    (choice (bytes_eq word (codes "area")) _ (Err why.Word) (one_form Area (address_of a) (any_form (address_of a))) tt))))

words_form : (words : List (List ℕ)) → SaysForm (line_of_words words)
words_form [] = tt
words_form (word ∷ []) = tt
words_form (word ∷ a ∷ []) = setting_form word a
words_form (word ∷ a ∷ b ∷ []) = choice (bytes_eq word (codes "router")) _ (Err why.Word) (router_form (name_value a) (name_value b) (name_form a) (name_form b)) tt
words_form (word ∷ a ∷ b ∷ c ∷ []) =
    choice (bytes_eq word (codes "link")) _ (Err why.Word) (link_form (address_of a) (address_of b) (number_within 1 65535 c) (within_form 1 65535 c)) tt
words_form (word ∷ a ∷ b ∷ c ∷ d ∷ words) = tt

line_form : (text : List ℕ) → SaysForm (line_of text)
line_form text = choice (list_any is_empty (words_of text)) (Err why.Word) (line_of_words (words_of text)) tt (words_form (words_of text))

-- ---- what a faultless line keeps

record IsFaultless (named : Named) (line : Line) : Type 0 where
  once : repeats named line ≡ false
  known : is_unknown named line ≡ false
  few : is_beyond named line ≡ false

faultless : (named : Named) (line : Line) → line_fault named line ≡ None → IsFaultless named line
faultless named line e = by (repeats named line) (is_unknown named line) (is_beyond named line) refl refl refl e
  where
    by : (a b c : Bool) → repeats named line ≡ a → is_unknown named line ≡ b → is_beyond named line ≡ c
        → first_failing ((a, why.Repeated) ∷ (b, why.Unknown) ∷ (c, why.TooMany) ∷ []) ≡ None → IsFaultless named line
    by true b c p q r f = absurd (true≢false (ap is_some f))
    by false true c p q r f = absurd (true≢false (ap is_some f))
    by false false true p q r f = absurd (true≢false (ap is_some f))
    by false false false p q r f = record { once = p; known = q; few = r }

-- no member has this router ID, so each has another
other_router : (members : List Member) (router : ℕ) → has_router members router ≡ false → (k : ℕ) (d : Member) → k < length members → (get_or members k d).router ≢ router
other_router members router e k d within same =
    true≢false (sym (list_any_at (λ (m : Member). eqb m.router router) members k d within (eq-eqb (get_or members k d).router router same)) ∙ e)

other_identifier : (members : List Member) (id : ℕ) → has_identifier members id ≡ false → (k : ℕ) (d : Member) → k < length members → (get_or members k d).bgp_id ≢ id
other_identifier members id e k d within same =
    true≢false (sym (list_any_at (λ (m : Member). eqb m.bgp_id id) members k d within (eq-eqb (get_or members k d).bgp_id id same)) ∙ e)

more_members : (members : List Member) (m : Member) → AreMembers members → IsNamed m → has_router members m.router ≡ false → has_identifier members m.bgp_id ≡ false
    → nat_le 512 (length members) ≡ false → AreMembers (members ++ m ∷ [])
more_members members m are named router id few = record {
  names = All-push IsNamed members m are.names named;
  few = omega (arith, length-append members (m ∷ []), leb-false 512 (length members) few);
  routers = all_pairs_push (λ (a b : Member). a.router ≢ b.router) members m are.routers (other_router members m.router router);
  identifiers = all_pairs_push (λ (a b : Member). a.bgp_id ≢ b.bgp_id) members m are.identifiers (other_identifier members m.bgp_id id);
}

still_named : (members more : List Member) (router : ℕ) → has_router members router ≡ true → has_router (members ++ more) router ≡ true
still_named members more router e =
    list_any-append (λ (m : Member). eqb m.router router) members more ∙ ap (λ t. t || has_router more router) e

still_links : (members more : List Member) (links : List Edge) → All (IsLinkOf members) links → All (IsLinkOf (members ++ more)) links
still_links members more links each k d within =
    let h = each k d within in
    record { from = still_named members more _ h.from; to = still_named members more _ h.to; apart = h.apart; least = h.least; most = h.most }

still_own : (members : List Member) (m : Member) (own : Option ℕ) → IfSome own (λ id. has_identifier members id ≡ false) → is_value m.bgp_id own ≡ false
    → IfSome own (λ id. has_identifier (members ++ m ∷ []) id ≡ false)
still_own members m None h e = tt
still_own members m (Some id) h e =
    list_any-append (λ (n : Member). eqb n.bgp_id id) members (m ∷ []) ∙ ap (λ t. t || (eqb m.bgp_id id || false)) h ∙ ap (λ t. t || false) (eqb-turned m.bgp_id id ∙ e)

-- a link forth and back joins links that are there in both directions
both_ways : (links : List Edge) (forth back : Edge) → IsTwoWay links → back.from ≡ forth.to → back.to ≡ forth.from → IsTwoWay (links ++ forth ∷ back ∷ [])
both_ways links forth back old from to link inside = elim (Contains-append_cases links (forth ∷ back ∷ []) link inside) [
  | inl first ↦ let found = old link first in (found.0, Contains-append_left links (forth ∷ back ∷ []) found.0 found.1, found.2, found.3)
  | inr more ↦ elim (Contains-cases forth (back ∷ []) link more) [
    | inl is ↦ (
      back,
      Contains-append_right links (forth ∷ back ∷ []) back (Contains-tail forth (back ∷ []) back (Contains-head back [])),
      from ∙ ap (λ (l : Edge). l.to) is,
      to ∙ ap (λ (l : Edge). l.from) is,
    )
    | inr last ↦ elim (Contains-cases back [] link last) [
      | inl is ↦ (
        forth,
        Contains-append_right links (forth ∷ back ∷ []) forth (Contains-head forth (back ∷ [])),
        sym to ∙ ap (λ (l : Edge). l.to) is,
        sym from ∙ ap (λ (l : Edge). l.from) is,
      )
      | inr none ↦ absurd (Contains-none link none)
    ]
  ]
]

not_false : (t : Bool) → not t ≡ false → t ≡ true
not_false true e = refl
not_false false e = absurd (true≢false e)

kept : (named : Named) (line : Line) → NamedInForm named → LineInForm line → IsFaultless named line → NamedInForm (with_line named line)
kept named (As n) form said none = record { as_number = said; shards = form.shards; hold = form.hold; members = form.members; own = form.own; links = form.links; two_way = form.two_way }
kept named (Id a) form said none = record {
  as_number = form.as_number;
  shards = form.shards;
  hold = form.hold;
  members = form.members;
  links = form.links;
  two_way = form.two_way;
  own = (none_true (is_some named.id) (has_identifier named.members a) none.once).1;
}
kept named (Shards n) form said none = record { as_number = form.as_number; shards = said; hold = form.hold; members = form.members; own = form.own; links = form.links; two_way = form.two_way }
kept named (Hold n) form said none = record { as_number = form.as_number; shards = form.shards; hold = said; members = form.members; own = form.own; links = form.links; two_way = form.two_way }
kept named (Area a) form said none = record { as_number = form.as_number; shards = form.shards; hold = form.hold; members = form.members; own = form.own; links = form.links; two_way = form.two_way }
kept named (Router router id) form said none =
    let m : Member = record { router = router; bgp_id = id } in
    let first = none_true (has_router named.members router || has_identifier named.members id) (is_value id named.id) none.once in
    let names = none_true (has_router named.members router) (has_identifier named.members id) first.0 in
    record {
      as_number = form.as_number;
      shards = form.shards;
      hold = form.hold;
      members = more_members named.members m form.members (record { router = said.0; identifier = said.1 }) names.0 names.1 none.few;
      own = still_own named.members m named.id form.own first.1;
      links = still_links named.members (m ∷ []) named.links form.links;
      two_way = form.two_way;
    }
kept named (Link u v cost) form said none =
    let ends = both_true (has_router named.members u) (has_router named.members v) (not_false _ none.known) in
    let apart : u ≢ v = eqb-false u v none.once in
    let forth : Edge = record { from = u; to = v; cost = cost } in
    let back : Edge = record { from = v; to = u; cost = cost } in
    let P : Edge → Type 0 = IsLinkOf named.members in
    let one_more = All-push P named.links forth form.links (record { from = ends.0; to = ends.1; apart = apart; least = said.0; most = said.1 }) in
    let two_more = All-push P (named.links ++ forth ∷ []) back one_more (record { from = ends.1; to = ends.0; apart = λ e. apart (sym e); least = said.0; most = said.1 }) in
    record {
      as_number = form.as_number;
      shards = form.shards;
      hold = form.hold;
      members = form.members;
      own = form.own;
      links = subst (λ links. All P links) (append_assoc named.links (forth ∷ []) (back ∷ [])) two_more;
      two_way = both_ways named.links forth back form.two_way refl refl;
    }

text_form : (named : Named) (said : Result Line RosterWhy) → NamedInForm named → SaysForm said
    → IfOk {E = RosterWhy} (elim said [ Ok line ↦ unless (line_fault named line) (with_line named line) | Err fault ↦ Err fault ]) NamedInForm
text_form named (Err fault) form said = tt
text_form named (Ok line) form said = by (line_fault named line) refl
  where
    by : (o : Option RosterWhy) → line_fault named line ≡ o → IfOk (unless o (with_line named line)) NamedInForm
    by (Some fault) e = tt
    by None e = kept named line form said (faultless named line e)

pub line_kept : (named : Named) (text : List ℕ) → NamedInForm named → IfOk (with_any_text named text) NamedInForm
line_kept named text form =
    cond_both (is_skipped text) (Ok named) (with_text named text) (λ r. IfOk r NamedInForm) (λ _. form) (λ _. text_form named (line_of text) form (line_form text))

pub none_named : NamedInForm nothing_named
none_named = record {
  as_number = tt;
  shards = tt;
  hold = tt;
  own = tt;
  members = record { few = omega arith; names = λ k d h. absurd (omega arith); routers = λ i j d a b. absurd (omega arith); identifiers = λ i j d a b. absurd (omega arith) };
  links = λ k d h. absurd (omega arith);
  two_way = λ link inside. absurd (Contains-none link inside);
}

-- ---- the roster of what is named

pub settled_form : (settings : Settings) (named : Named) (members : List Member) (edges : List Edge) → members ≡ named.members → edges ≡ named.links
    → AreNamed settings named → NamedInForm named → InForm (of_parts settings members edges)
settled_form settings named members edges e f are form = record {
  as_number = subst (λ o. IfSome o IsAsNumber) are.as_number form.as_number;
  shards = subst (λ o. IfSome o IsShardCount) are.shards form.shards;
  hold = subst (λ o. IfSome o IsHoldTime) are.hold form.hold;
  members = subst AreMembers (sym e) form.members;
  own = ap (λ (ms : List Member). has_identifier ms settings.id) e ∙ subst (λ o. IfSome o (λ id. has_identifier named.members id ≡ false)) are.id form.own;
  links = subst (λ ms. All (IsLinkOf ms) edges) (sym e) (subst (λ links. All (IsLinkOf named.members) links) (sym f) form.links);
  two_way = subst IsTwoWay (sym f) form.two_way;
}
