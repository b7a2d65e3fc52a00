-- Whole feeds, as octets, with what they come to.
use Rattle.std.specs.Prelude.{ℕ, List, [], ◌∷◌, ◌++◌, codes}
use Rattle.rcp_base.specs.Feed.{frame}

-- the roster of two routers that are linked, a line each
abbrev pub roster_text : List ℕ
roster_text =
    codes "as 65000\nid 10.0.0.254\nshards 2\nhold 90\narea 0.0.0.0\nrouter 10.0.0.1 10.0.0.1\nrouter 10.0.0.2 10.0.0.2\n"
    ++ codes "link 10.0.0.1 10.0.0.2 10\n"

-- a roster whose second line has an unknown word
abbrev pub faulty_text : List ℕ
faulty_text = codes "as 65000\nfoo\n"

-- the router 10.0.0.N connects
abbrev pub router : ℕ → ℕ → List ℕ
router number n = frame 69 number (10 ∷ 0 ∷ 0 ∷ n ∷ [])

abbrev pub finish : List ℕ
finish = frame 90 0 []

-- two octets follow the end
abbrev pub of_two_routers : List ℕ
of_two_routers = frame 67 0 roster_text ++ router 1 1 ++ router 2 2 ++ finish ++ (7 ∷ 7 ∷ [])

-- the second record names no router of the roster
abbrev pub of_a_stranger : List ℕ
of_a_stranger = frame 67 0 roster_text ++ router 1 1 ++ router 2 9 ++ router 3 2 ++ finish

abbrev pub of_a_faulty_roster : List ℕ
of_a_faulty_roster = frame 67 0 faulty_text ++ router 1 1 ++ finish

-- two octets of link state, and then a connection that begins twice
abbrev pub of_link_state : List ℕ
of_link_state = frame 67 0 roster_text ++ router 1 1 ++ frame 76 0 (1 ∷ 2 ∷ []) ++ router 1 2 ++ finish

-- a slice of the roster's second shard, and then one of a third
abbrev pub of_a_further_shard : List ℕ
of_a_further_shard = frame 67 0 roster_text ++ router 1 1 ++ frame 87 0 (0 ∷ 1 ∷ 0 ∷ 0 ∷ 0 ∷ 9 ∷ []) ++ frame 87 0 (0 ∷ 2 ∷ 0 ∷ 0 ∷ 0 ∷ 9 ∷ []) ++ finish

-- the input ends within the third record
abbrev pub cut_short : List ℕ
cut_short = frame 67 0 roster_text ++ router 1 1 ++ 69 ∷ 0 ∷ []
