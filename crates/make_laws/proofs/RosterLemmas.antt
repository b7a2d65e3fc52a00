-- The text of the generated roster is read as that roster.
use Rattle.std.proofs.Common.{◌≡◌, ◌≢◌, ℕ, zero, suc, ◌+◌, ◌^◌, ◌<◌, ◌≤◌, Bool, true, false, ◌||◌, eqb, List, [], ◌∷◌, ◌++◌, length, map, get_or, Ok, refl, sym, ap, subst, ◌∙◌, arith, append-nil, append_assoc, codes}
use Rattle.std.specs.Prelude.{All, AllPairs, ◌==◌}
use Rattle.std.specs.Fmt.{digits}
use Rattle.std.specs.List.{flat_map, list_any, AllByRecursion, Contains}
use Rattle.std.proofs.lemmas.Grind.{flat_map-append}
use Rattle.std.proofs.lemmas.List.Elements.{All-nil}
use Rattle.rcp_base.specs.declared.names.Member.{Member}
use Rattle.rcp_base.specs.declared.names.Edge.{Edge}
use Rattle.rcp_base.specs.Text.{address_text}
use Rattle.rcp_base.specs.Roster.{RosterOf, roster_of, has_identifier}
use Rattle.rcp_model.specs.Costs.{IsTwoWay}
use Rattle.roster.specs.Form.{IsNamed, AreMembers, IsLinkOf, InForm}
use Rattle.feed_laws.specs.RosterTexts.{line_text, router_words, link_words, setting_words, roster_words, HasAddresses, IsRoster}
use Rattle.feed_laws.specs.RosterTexts.{roster_text as canonical_text}
use Rattle.feed_laws.proofs.LineLemmas.{not_equal}
use Rattle.feed_laws.proofs.RosterTextLemmas.{text-read}
use Rattle.feed_make.specs.Numbers.{numbers_from}
use Rattle.feed_make.specs.Networks.{id_of}
use Rattle.feed_make.specs.Feeds.{settings_text, router_line, roster_text}
use Rattle.feed_make.proofs.Ranges.{numbers-cons, numbers-none, length-map-numbers, get_or-map-numbers, flat_map-map}
use Rattle.make_laws.specs.Made.{made_member, made_roster}

abbrev members : List Member
members = map made_member (numbers_from 0 400)

-- ---- its form

none-own : (first count : ℕ) → first + count ≤ 400 → has_identifier (map made_member (numbers_from first count)) 184549374 ≡ false
none-own first zero within = ap (λ (l : List ℕ). has_identifier (map made_member l) 184549374) (numbers-none first)
none-own first (suc count) within =
    let here : eqb (id_of first) 184549374 ≡ false = not_equal (id_of first) 184549374 (λ e. omega arith) in
    ap (λ (l : List ℕ). has_identifier (map made_member l) 184549374) (numbers-cons first count)
    ∙ (λ i. here i || none-own (first + 1) count (omega arith) i)

addresses : (first count : ℕ) → first + count ≤ 400 → AllByRecursion HasAddresses (map made_member (numbers_from first count))
addresses first zero within = subst (λ (l : List ℕ). AllByRecursion HasAddresses (map made_member l)) (sym (numbers-none first)) tt
addresses first (suc count) within =
    subst (λ (l : List ℕ). AllByRecursion HasAddresses (map made_member l)) (sym (numbers-cons first count)) ((omega arith, omega arith), addresses (first + 1) count (omega arith))

member_at : (i : ℕ) (d : Member) → i < length members → get_or members i d ≡ made_member i
member_at i d low = get_or-map-numbers made_member 0 400 i i d (omega (arith, low, length-map-numbers made_member 0 400)) (omega arith)

named : All IsNamed members
named i d low = subst IsNamed (sym (member_at i d low)) (record { router = λ e. omega arith; identifier = λ e. omega arith })

apart : (i j : ℕ) → i < j → id_of i ≢ id_of j
apart i j less = λ e. omega arith

routers-apart : AllPairs (λ (a b : Member). a.router ≢ b.router) members
routers-apart i j d less low =
    subst (λ (a : Member). a.router ≢ (get_or members j d).router) (sym (member_at i d (omega arith)))
    (subst (λ (b : Member). id_of i ≢ b.router) (sym (member_at j d low)) (apart i j less))

identifiers-apart : AllPairs (λ (a b : Member). a.bgp_id ≢ b.bgp_id) members
identifiers-apart i j d less low =
    subst (λ (a : Member). a.bgp_id ≢ (get_or members j d).bgp_id) (sym (member_at i d (omega arith)))
    (subst (λ (b : Member). id_of i ≢ b.bgp_id) (sym (member_at j d low)) (apart i j less))

two_way : IsTwoWay []
two_way edge has = absurd (omega (arith, has.1))

in_form : InForm made_roster
in_form = record {
  as_number = record { least = omega arith; most = omega arith; own = λ e. omega arith };
  shards = record { least = omega arith; most = omega arith };
  hold = record { one = λ e. omega arith; two = λ e. omega arith; most = omega arith };
  members = record { few = omega (arith, length-map-numbers made_member 0 400); names = named; routers = routers-apart; identifiers = identifiers-apart };
  own = none-own 0 400 (omega arith);
  links = All-nil (IsLinkOf members);
  two_way = two_way;
}

is_roster : IsRoster made_roster
is_roster = record { form = in_form; id = omega arith; area = omega arith; addresses = addresses 0 400 (omega arith); lines = []; links = refl }

-- ---- its text

abbrev line_of : List (List ℕ) → List ℕ
line_of words = line_text words ++ 10 ∷ []

settings-are : flat_map line_of (setting_words made_roster) ≡ settings_text
unfolding digits
settings-are = refl

one_line : (router : ℕ) → line_of (router_words (made_member router)) ≡ router_line router
one_line router =
    let a = address_text (id_of router) in
    ap (λ (t : List ℕ). (codes "router " ++ t) ++ 10 ∷ []) (sym (append_assoc a (32 ∷ []) a))

routers-are : flat_map line_of (map router_words members) ≡ flat_map router_line (numbers_from 0 400)
routers-are = flat_map-map line_of router_words members ∙ flat_map-map (λ m. line_of (router_words m)) made_member (numbers_from 0 400)
    ∙ (λ i. flat_map (λ router. one_line router i) (numbers_from 0 400))

text-is : canonical_text made_roster ≡ roster_text
unfolding roster_text
text-is =
    flat_map-append line_of (setting_words made_roster) (map router_words members ++ [])
    ∙ (λ i. settings-are i ++ flat_map line_of (append-nil (map router_words members) i))
    ∙ ap (λ (l : List ℕ). settings_text ++ l) routers-are

pub roster-read : roster_of roster_text ≡ Ok made_roster
roster-read = ap roster_of (sym text-is) ∙ text-read made_roster is_roster
