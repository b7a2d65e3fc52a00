-- What the definitions say of small rosters.
use Rattle.std.specs.Prelude.{◌≡◌, ℕ, List, [], ◌∷◌, ◌++◌, Ok, Err, Result, refl, codes}
use Rattle.std.specs.List.{flat_map}
use Rattle.rcp_base.specs.declared.kinds.RosterWhy.TheVariants as why
use Rattle.rcp_base.specs.Roster.{roster_of, RosterOf, FaultyLine}

-- lines with their ends
abbrev lines : List (List ℕ) → List ℕ
lines texts = flat_map (λ text. text ++ 10 ∷ []) texts

abbrev settings : List (List ℕ)
settings = codes "as 65000" ∷ codes "id 10.0.0.254" ∷ codes "shards 2" ∷ codes "hold 90" ∷ codes "area 0.0.0.0" ∷ []

abbrev routers : List (List ℕ)
routers = codes "# two" ∷ [] ∷ codes "router 10.0.0.1 10.0.0.1" ∷ codes "router 10.0.0.2 10.0.0.2" ∷ []

abbrev fault : ℕ → why.the_data → Result RosterOf FaultyLine
fault line why = Err (record { line = line; why = why })

a_roster : roster_of (lines (settings ++ routers) ++ codes "link 10.0.0.1 10.0.0.2 7") ≡ Ok (record {
  as_number = 65000;
  id = 167772414;
  shards = 2;
  hold = 90;
  area = 0;
  members = record { router = 167772161; bgp_id = 167772161 } ∷ record { router = 167772162; bgp_id = 167772162 } ∷ [];
  links = record { from = 167772161; to = 167772162; cost = 7 } ∷ record { from = 167772162; to = 167772161; cost = 7 } ∷ [];
})
a_roster = refl

nothing_is_missing_at_line_one : roster_of [] ≡ fault 1 why.Missing
nothing_is_missing_at_line_one = refl

an_end_opens_no_line : roster_of (lines (codes "as 65000" ∷ [])) ≡ fault 2 why.Missing
an_end_opens_no_line = refl

two_spaces_are_an_empty_word : roster_of (lines (codes "router  10.0.0.1" ∷ [])) ≡ fault 1 why.Word
two_spaces_are_an_empty_word = refl

a_value_before_a_repeat : roster_of (lines (codes "as 65000" ∷ codes "as 23456" ∷ [])) ≡ fault 2 why.Number
a_value_before_a_repeat = refl

the_platform_has_its_own_identifier : roster_of (lines (codes "id 10.0.0.1" ∷ codes "# one" ∷ codes "router 10.0.0.9 10.0.0.1" ∷ [])) ≡ fault 3 why.Repeated
the_platform_has_its_own_identifier = refl

equal_ends_before_unknown_routers : roster_of (lines (codes "link 10.0.0.1 10.0.0.1 7" ∷ [])) ≡ fault 1 why.Repeated
equal_ends_before_unknown_routers = refl

a_link_comes_behind_its_routers : roster_of (lines (codes "link 10.0.0.1 10.0.0.2 7" ∷ [])) ≡ fault 1 why.Unknown
a_link_comes_behind_its_routers = refl
