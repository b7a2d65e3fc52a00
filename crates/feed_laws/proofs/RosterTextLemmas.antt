-- The canonical text of a roster is read as that roster.
use Rattle.std.proofs.Common.{◌≡◌, ◌≢◌, ℕ, suc, ◌+◌, ◌^◌, ◌<◌, ◌≤◌, Bool, true, false, not, ◌&&◌, ◌||◌, eqb, leb, List, [], ◌∷◌, ◌++◌, length, get_or, map, All, Some, Result, Ok, Err, refl, sym, ap, subst, ◌∙◌, inl, inr, append_assoc, append-nil, arith, codes, length-append}
use Rattle.std.specs.Prelude.{AllPairs}
use Rattle.std.specs.Fmt.{decimal}
use Rattle.std.specs.List.{flat_map, list_any, list_all, AllByRecursion}
use Rattle.std.proofs.lemmas.Bool.{eqb-true, lt-leb, or_cases, or_parts, not-true}
use Rattle.std.proofs.lemmas.List.{map-append}
use Rattle.std.proofs.lemmas.List.Elements.{All-from_recursion, recursion_from_All}
use Rattle.std.proofs.lemmas.List.Folds.{list_any-append}
use Rattle.rcp_base.specs.declared.kinds.RosterWhy.{RosterWhy}
use Rattle.rcp_base.specs.declared.names.Member.{Member}
use Rattle.rcp_base.specs.Text.{address_text}
use Rattle.rcp_base.specs.Roster.{As, Id, Shards, Hold, Area, Router, Link, lines_of, Named, nothing_named, has_router, has_identifier, with_line, with_any_text, RosterOf, FaultyLine, complete, completed, roster_from, roster_of}
use Rattle.rcp_base.specs.declared.names.Edge.{Edge}
use Rattle.rcp_model.proofs.AllLemmas.{all-append}
use Rattle.rcp_model.proofs.ServerLemmas.{number-other}
use Rattle.roster.specs.Form.{IsLinkOf, IsNamed, AreMembers}
use Rattle.feed_laws.specs.RosterTexts.{line_text, router_words, link_words, both_ways, each_second, setting_words, roster_words, roster_text, HasAddresses, IsRoster}
use Rattle.feed_laws.proofs.LineLemmas.{not_equal, IsWord, decimal-word, address-word, line-lacks_end, takes_line, as-said, id-said, shards-said, hold-said, area-said, router-said, link-said, ended, lines-read}

-- ---- line after line

abbrev texts_of : List (List (List ℕ)) → List (List ℕ)
texts_of lines = map line_text lines

step : (line : ℕ) (named more : Named) (text : List ℕ) (texts : List (List ℕ)) → with_any_text named text ≡ Ok more → roster_from line named (text ∷ texts) ≡ roster_from (line + 1) more texts
step line named more text texts is =
    ap (λ (r : Result Named RosterWhy). elim r as (λ _. Result RosterOf FaultyLine) [ Ok more ↦ roster_from (line + 1) more texts | Err fault ↦ Err (record { line = line; why = fault }) ]) is

-- from a line on these lines are taken, and then the others are read
abbrev Takes : Named → List (List (List ℕ)) → Named → Type 0
Takes named lines more = (line : ℕ) (rest : List (List ℕ)) → (later : ℕ) × (roster_from line named (texts_of lines ++ rest) ≡ roster_from later more rest)

takes-none : (named : Named) → Takes named [] named
takes-none named line rest = (line, refl)

takes-more : (named more last : Named) (words : List (List ℕ)) (lines : List (List (List ℕ))) → with_any_text named (line_text words) ≡ Ok more → Takes more lines last → Takes named (words ∷ lines) last
takes-more named more last words lines first others line rest =
    let later = others (line + 1) rest in
    (later.0, step line named more (line_text words) (texts_of lines ++ rest) first ∙ later.1)

takes-then : (named more last : Named) (lines others : List (List (List ℕ))) → Takes named lines more → Takes more others last → Takes named (lines ++ others) last
takes-then named more last lines others first second line rest =
    let one = first line (texts_of others ++ rest) in
    let two = second one.0 rest in (
      two.0,
      ap (λ (texts : List (List ℕ)). roster_from line named (texts ++ rest)) (map-append line_text lines others)
          ∙ ap (roster_from line named) (append_assoc (texts_of lines) (texts_of others) rest)
          ∙ one.1 ∙ two.1,
    )

-- ---- words

-- neither a space nor an end of line
abbrev plain : ℕ → Bool
plain x = not (eqb x 32 || eqb x 10)

both : (a b : Bool) → (a && b) ≡ true → (a ≡ true) × (b ≡ true)
both true b e = (refl, e)
both false b e = absurd cc

plain-parts : (xs : List ℕ) → list_all plain xs ≡ true → AllByRecursion (λ x. eqb x 32 ≡ false) xs × AllByRecursion (λ x. eqb x 10 ≡ false) xs
plain-parts [] e = (tt, tt)
plain-parts (x ∷ xs) e =
    let parts = both (plain x) (list_all plain xs) e in
    let each = or_parts (eqb x 32) (eqb x 10) (not-true (eqb x 32 || eqb x 10) parts.0) in
    let others = plain-parts xs parts.1 in
    ((each.0, others.0), (each.1, others.1))

word-of : (c : ℕ) (cs : List ℕ) → list_all plain (c ∷ cs) ≡ true → IsWord (c ∷ cs)
word-of c cs each = record {
  one_word = All-from_recursion (λ x. eqb x 32 ≡ false) (c ∷ cs) (plain-parts (c ∷ cs) each).0;
  one_line = All-from_recursion (λ x. eqb x 10 ≡ false) (c ∷ cs) (plain-parts (c ∷ cs) each).1;
  some = not_equal (length (c ∷ cs)) 0 (λ e. omega (arith, e));
}

as-word : IsWord (codes "as")
as-word = word-of 97 (115 ∷ []) refl

id-word : IsWord (codes "id")
id-word = word-of 105 (100 ∷ []) refl

shards-word : IsWord (codes "shards")
shards-word = word-of 115 (104 ∷ 97 ∷ 114 ∷ 100 ∷ 115 ∷ []) refl

hold-word : IsWord (codes "hold")
hold-word = word-of 104 (111 ∷ 108 ∷ 100 ∷ []) refl

area-word : IsWord (codes "area")
area-word = word-of 97 (114 ∷ 101 ∷ 97 ∷ []) refl

router-word : IsWord (codes "router")
router-word = word-of 114 (111 ∷ 117 ∷ 116 ∷ 101 ∷ 114 ∷ []) refl

link-word : IsWord (codes "link")
link-word = word-of 108 (105 ∷ 110 ∷ 107 ∷ []) refl

-- ---- what is named

-- the settings of a roster, with these routers and links
abbrev named_of : RosterOf → List Member → List Edge → Named
named_of roster members links = record {
  as_number = Some roster.as_number;
  id = Some roster.id;
  shards = Some roster.shards;
  hold = Some roster.hold;
  area = Some roster.area;
  members = members;
  links = links;
}

takes-settings : (roster : RosterOf) → IsRoster roster → Takes nothing_named (setting_words roster) (named_of roster [] [])
takes-settings roster is =
    let n = roster.as_number in
    let id_line = codes "id" ∷ address_text roster.id ∷ [] in
    let shards_line = codes "shards" ∷ decimal roster.shards ∷ [] in
    let hold_line = codes "hold" ∷ decimal roster.hold ∷ [] in
    let area_line = codes "area" ∷ address_text roster.area ∷ [] in
    let one = with_line nothing_named (As n) in
    let two = with_line one (Id roster.id) in
    let three = with_line two (Shards roster.shards) in
    let four = with_line three (Hold roster.hold) in
    let five = with_line four (Area roster.area) in
    takes-more nothing_named one five (codes "as" ∷ decimal n ∷ []) (id_line ∷ shards_line ∷ hold_line ∷ area_line ∷ [])
    (takes_line nothing_named 97 (115 ∷ []) (decimal n) [] (As n) refl as-word (decimal-word n (omega (arith, is.form.as_number.most)), tt) (as-said n is.form.as_number.least is.form.as_number.most is.form.as_number.own) refl)
    (takes-more one two five (codes "id" ∷ address_text roster.id ∷ []) (shards_line ∷ hold_line ∷ area_line ∷ [])
    (takes_line one 105 (100 ∷ []) (address_text roster.id) [] (Id roster.id) refl id-word (address-word roster.id, tt) (id-said roster.id is.id) refl)
    (takes-more two three five (codes "shards" ∷ decimal roster.shards ∷ []) (hold_line ∷ area_line ∷ [])
    (takes_line two 115 (104 ∷ 97 ∷ 114 ∷ 100 ∷ 115 ∷ []) (decimal roster.shards) [] (Shards roster.shards) refl shards-word (decimal-word roster.shards (omega (arith, is.form.shards.most)), tt) (shards-said roster.shards is.form.shards.least is.form.shards.most) refl)
    (takes-more three four five (codes "hold" ∷ decimal roster.hold ∷ []) (area_line ∷ [])
    (takes_line three 104 (111 ∷ 108 ∷ 100 ∷ []) (decimal roster.hold) [] (Hold roster.hold) refl hold-word (decimal-word roster.hold (omega (arith, is.form.hold.most)), tt) (hold-said roster.hold is.form.hold.one is.form.hold.two is.form.hold.most) refl)
    (takes-more four five five (codes "area" ∷ address_text roster.area ∷ []) []
    (takes_line four 97 (114 ∷ 101 ∷ 97 ∷ []) (address_text roster.area) [] (Area roster.area) refl area-word (address-word roster.area, tt) (area-said roster.area is.area) refl)
    (takes-none five)))))

-- ---- routers

-- no earlier one has this name
none-before : (name : Member → ℕ) (done : List Member) (m : Member) (rest : List Member) → AllPairs (λ a b. name a ≢ name b) (done ++ m ∷ rest) → list_any (λ x. eqb (name x) (name m)) done ≡ false
none-before name [] m rest pairs = refl
none-before name (a ∷ done) m rest pairs =
    let other : eqb (name a) (name m) ≡ false =
    not_equal (name a) (name m) (λ same. pairs 0 (suc (length done)) m (omega arith) (omega (arith, length-append done (m ∷ rest))) (same ∙ ap name (sym (it done)))) in
    rw other (none-before name done m rest (λ i j d below within. pairs (suc i) (suc j) d (omega arith) (omega arith)))
  where
    it : (xs : List Member) → get_or (xs ++ m ∷ rest) (length xs) m ≡ m
    it [] = refl
    it (x ∷ xs) = it xs

record NewNames (roster : RosterOf) (done : List Member) (m : Member) : Type 0 where
  router : has_router done m.router ≡ false
  identifier : has_identifier done m.bgp_id ≡ false
  own : eqb roster.id m.bgp_id ≡ false
  few : leb 512 (length done) ≡ false
  named : (m.router ≢ 0) × (m.bgp_id ≢ 0)
  addresses : HasAddresses m

takes-router : (roster : RosterOf) (done : List Member) (m : Member) → NewNames roster done m
    → with_any_text (named_of roster done []) (line_text (router_words m)) ≡ Ok (named_of roster (done ++ m ∷ []) [])
takes-router roster done m new =
    takes_line (named_of roster done []) 114 (111 ∷ 117 ∷ 116 ∷ 101 ∷ 114 ∷ []) (address_text m.router) (address_text m.bgp_id ∷ []) (Router m.router m.bgp_id) refl router-word
    (address-word m.router, (address-word m.bgp_id, tt))
    (router-said m.router m.bgp_id new.addresses.0 new.addresses.1 new.named.0 new.named.1)
    (let a = new.router in let b = new.identifier in let c = new.own in let d = new.few in rw (a, b, c, d) refl)

abbrev NewRouters : RosterOf → List Member → List Member → Type 0
NewRouters roster done [] = Unit {0}
NewRouters roster done (m ∷ members) = NewNames roster done m × NewRouters roster (done ++ m ∷ []) members

takes-routers : (roster : RosterOf) (done members : List Member) → NewRouters roster done members → Takes (named_of roster done []) (map router_words members) (named_of roster (done ++ members) [])
takes-routers roster done [] new = subst (λ (l : List Member). Takes (named_of roster done []) [] (named_of roster l [])) (sym (append-nil done)) (takes-none (named_of roster done []))
takes-routers roster done (m ∷ members) new =
    subst (λ (l : List Member). Takes (named_of roster done []) (map router_words (m ∷ members)) (named_of roster l [])) (append_assoc done (m ∷ []) members)
    (takes-more (named_of roster done []) (named_of roster (done ++ m ∷ []) []) (named_of roster ((done ++ m ∷ []) ++ members) []) (router_words m) (map router_words members)
    (takes-router roster done m new.0) (takes-routers roster (done ++ m ∷ []) members new.1))

-- what the names of all members say of those that follow some
own-other : (id : ℕ) (done : List Member) (m : Member) (rest : List Member) → has_identifier (done ++ m ∷ rest) id ≡ false → eqb id m.bgp_id ≡ false
own-other id done m rest none =
    let parts = or_parts (has_identifier done id) (has_identifier (m ∷ rest) id) (sym (list_any-append (λ (x : Member). eqb x.bgp_id id) done (m ∷ rest)) ∙ none) in
    let here = or_parts (eqb m.bgp_id id) (has_identifier rest id) parts.1 in
    number-other m.bgp_id id here.0

record Names (roster : RosterOf) (members : List Member) : Type 0 where
  are : AreMembers members
  own : has_identifier members roster.id ≡ false

new-routers : (roster : RosterOf) (done members : List Member) → Names roster (done ++ members) → AllByRecursion IsNamed members → AllByRecursion HasAddresses members → NewRouters roster done members
new-routers roster done [] names named addresses = tt
new-routers roster done (m ∷ members) names named addresses = (
  record {
    router = none-before (λ (x : Member). x.router) done m members names.are.routers;
    identifier = none-before (λ (x : Member). x.bgp_id) done m members names.are.identifiers;
    own = own-other roster.id done m members names.own;
    few = lt-leb 512 (length done) (omega (arith, names.are.few, length-append done (m ∷ members)));
    named = (named.0.router, named.0.identifier);
    addresses = addresses.0;
  },
  new-routers roster (done ++ m ∷ []) members (subst (Names roster) (sym (append_assoc done (m ∷ []) members)) names) named.1 addresses.1,
)

-- ---- links

known-address : (members : List Member) (router : ℕ) → AllByRecursion HasAddresses members → has_router members router ≡ true → router < 2 ^ 32
known-address [] router each known = absurd cc
known-address (m ∷ members) router each known =
    elim (or_cases (eqb m.router router) (has_router members router) known) [
      | inl here ↦ let same : m.router ≡ router = eqb-true m.router router here in subst (λ (n : ℕ). n < 2 ^ 32) same each.0.0
      | inr later ↦ known-address members router each.1 later
    ]

takes-link : (roster : RosterOf) (members : List Member) (done : List Edge) (link : Edge) → AllByRecursion HasAddresses members → IsLinkOf members link
    → with_any_text (named_of roster members done) (line_text (link_words link)) ≡ Ok (named_of roster members (done ++ both_ways link))
takes-link roster members done link addresses is =
    takes_line (named_of roster members done) 108 (105 ∷ 110 ∷ 107 ∷ []) (address_text link.from) (address_text link.to ∷ decimal link.cost ∷ []) (Link link.from link.to link.cost) refl link-word
    (address-word link.from, (address-word link.to, (decimal-word link.cost (omega (arith, is.most)), tt)))
    (link-said link.from link.to link.cost (known-address members link.from addresses is.from) (known-address members link.to addresses is.to) is.least is.most)
    (let a = not_equal link.from link.to is.apart in let b = is.from in let c = is.to in rw (a, b, c) refl)

takes-links : (roster : RosterOf) (members : List Member) (done links : List Edge) → AllByRecursion HasAddresses members → AllByRecursion (IsLinkOf members) links
    → Takes (named_of roster members done) (map link_words links) (named_of roster members (done ++ flat_map both_ways links))
takes-links roster members done [] addresses each =
    subst (λ (l : List Edge). Takes (named_of roster members done) [] (named_of roster members l)) (sym (append-nil done)) (takes-none (named_of roster members done))
takes-links roster members done (link ∷ links) addresses each =
    subst (λ (l : List Edge). Takes (named_of roster members done) (map link_words (link ∷ links)) (named_of roster members l)) (append_assoc done (both_ways link) (flat_map both_ways links))
    (takes-more (named_of roster members done) (named_of roster members (done ++ both_ways link)) (named_of roster members ((done ++ both_ways link) ++ flat_map both_ways links)) (link_words link) (map link_words links)
    (takes-link roster members done link addresses each.0) (takes-links roster members (done ++ both_ways link) links addresses each.1))

each_second-both : (lines : List Edge) → each_second (flat_map both_ways lines) ≡ lines
each_second-both [] = refl
each_second-both (link ∷ lines) = ap (λ (l : List Edge). link ∷ l) (each_second-both lines)

lines-links : (P : Edge → Type 0) (lines : List Edge) → AllByRecursion P (flat_map both_ways lines) → AllByRecursion P lines
lines-links P [] each = tt
lines-links P (link ∷ lines) each = (each.0, lines-links P lines each.1.1)

-- ---- the whole

module _ (roster : RosterOf) (is : IsRoster roster) where
  lines-each : AllByRecursion (IsLinkOf roster.members) is.lines
  lines-each =
      lines-links (IsLinkOf roster.members) is.lines
      (subst (AllByRecursion (IsLinkOf roster.members)) is.links (recursion_from_All (IsLinkOf roster.members) roster.links is.form.links))

  words-are : roster_words roster ≡ setting_words roster ++ (map router_words roster.members ++ map link_words is.lines)
  words-are =
      ap (λ (links : List Edge). setting_words roster ++ (map router_words roster.members ++ map link_words (each_second links))) is.links
      ∙ ap (λ (lines : List Edge). setting_words roster ++ (map router_words roster.members ++ map link_words lines)) (each_second-both is.lines)

  takes-all : Takes nothing_named (setting_words roster ++ (map router_words roster.members ++ map link_words is.lines)) (named_of roster roster.members (flat_map both_ways is.lines))
  takes-all =
      takes-then nothing_named (named_of roster [] []) (named_of roster roster.members (flat_map both_ways is.lines)) (setting_words roster) (map router_words roster.members ++ map link_words is.lines)
      (takes-settings roster is)
      (takes-then (named_of roster [] []) (named_of roster roster.members []) (named_of roster roster.members (flat_map both_ways is.lines)) (map router_words roster.members) (map link_words is.lines)
      (takes-routers roster [] roster.members
      (new-routers roster [] roster.members (record { are = is.form.members; own = is.form.own }) (recursion_from_All IsNamed roster.members is.form.members.names) is.addresses))
      (takes-links roster roster.members [] is.lines is.addresses lines-each))

  from-lines : roster_from 1 nothing_named (texts_of (roster_words roster)) ≡ Ok roster
  from-lines =
      let all = takes-all 1 [] in
      ap (λ (lines : List (List (List ℕ))). roster_from 1 nothing_named (texts_of lines)) words-are
      ∙ ap (roster_from 1 nothing_named) (sym (append-nil (texts_of (setting_words roster ++ (map router_words roster.members ++ map link_words is.lines)))))
      ∙ all.1
      ∙ ap (λ (links : List Edge). complete all.0 (completed (named_of roster roster.members links))) (sym is.links)

-- no line has an end of line within it
lacks-router : (m : Member) → All (λ x. eqb x 10 ≡ false) (line_text (router_words m))
lacks-router m = line-lacks_end (codes "router") (address_text m.router ∷ address_text m.bgp_id ∷ []) router-word (address-word m.router, (address-word m.bgp_id, tt))

lacks-routers : (members : List Member) → AllByRecursion (All (λ x. eqb x 10 ≡ false)) (texts_of (map router_words members))
lacks-routers [] = tt
lacks-routers (m ∷ members) = (lacks-router m, lacks-routers members)

lacks-links : (links : List Edge) → AllByRecursion (λ (l : Edge). l.cost ≤ 65535) links → AllByRecursion (All (λ x. eqb x 10 ≡ false)) (texts_of (map link_words links))
lacks-links [] each = tt
lacks-links (l ∷ links) each = (
  line-lacks_end (codes "link") (address_text l.from ∷ address_text l.to ∷ decimal l.cost ∷ []) link-word (address-word l.from, (address-word l.to, (decimal-word l.cost (omega (arith, each.0)), tt))),
  lacks-links links each.1,
)

lacks-settings : (roster : RosterOf) → IsRoster roster → AllByRecursion (All (λ x. eqb x 10 ≡ false)) (texts_of (setting_words roster))
lacks-settings roster is = (
  line-lacks_end (codes "as") (decimal roster.as_number ∷ []) as-word (decimal-word roster.as_number (omega (arith, is.form.as_number.most)), tt),
  (
    line-lacks_end (codes "id") (address_text roster.id ∷ []) id-word (address-word roster.id, tt),
    (
      line-lacks_end (codes "shards") (decimal roster.shards ∷ []) shards-word (decimal-word roster.shards (omega (arith, is.form.shards.most)), tt),
      (
        line-lacks_end (codes "hold") (decimal roster.hold ∷ []) hold-word (decimal-word roster.hold (omega (arith, is.form.hold.most)), tt),
        (line-lacks_end (codes "area") (address_text roster.area ∷ []) area-word (address-word roster.area, tt), tt),
      ),
    ),
  ),
)

cheap : (members : List Member) (links : List Edge) → AllByRecursion (IsLinkOf members) links → AllByRecursion (λ (l : Edge). l.cost ≤ 65535) links
cheap members [] each = tt
cheap members (l ∷ links) each = (each.0.most, cheap members links each.1)

all-lack : (roster : RosterOf) (is : IsRoster roster) → AllByRecursion (All (λ x. eqb x 10 ≡ false)) (texts_of (setting_words roster ++ (map router_words roster.members ++ map link_words is.lines)))
all-lack roster is =
    let P : List ℕ → Type 0 = All (λ x. eqb x 10 ≡ false) in
    let settings = setting_words roster in
    let routers = map router_words roster.members in
    let links = map link_words is.lines in
    subst (AllByRecursion P) (sym (map-append line_text settings (routers ++ links)))
    (all-append P (texts_of settings) (texts_of (routers ++ links)) (lacks-settings roster is)
    (subst (AllByRecursion P) (sym (map-append line_text routers links))
    (all-append P (texts_of routers) (texts_of links) (lacks-routers roster.members) (lacks-links is.lines (cheap roster.members is.lines (lines-each roster is))))))

-- the text is its lines, each with its end
text-ended : (lines : List (List (List ℕ))) → flat_map (λ words. line_text words ++ 10 ∷ []) lines ≡ ended (texts_of lines)
text-ended [] = refl
text-ended (words ∷ lines) = ap (λ (l : List ℕ). (line_text words ++ 10 ∷ []) ++ l) (text-ended lines)

pub text-read : (roster : RosterOf) → IsRoster roster → roster_of (roster_text roster) ≡ Ok roster
text-read roster is =
    let lacks = subst (λ (lines : List (List (List ℕ))). AllByRecursion (All (λ x. eqb x 10 ≡ false)) (texts_of lines)) (sym (words-are roster is)) (all-lack roster is) in
    ap (λ (text : List ℕ). roster_from 1 nothing_named (lines_of text)) (text-ended (roster_words roster))
    ∙ ap (roster_from 1 nothing_named) (lines-read (texts_of (roster_words roster)) lacks)
    ∙ from-lines roster is
