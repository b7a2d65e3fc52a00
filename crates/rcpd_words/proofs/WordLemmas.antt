-- Words are three options in one way at most.
use Rattle.std.proofs.Common.{◌≡◌, ℕ, suc, ◌+◌, Bool, true, false, eqb, List, [], ◌∷◌, ◌++◌, length, Option, Some, None, refl, sym, ap, subst, ◌∙◌, inl, inr, arith, cond, map}
use Rattle.std.specs.Prelude.{◌==◌, MatchOption, option_and_then}
use Rattle.std.specs.List.{position_or_len, before_first, after_first}
use Rattle.rcpd_words.specs.Words.{equals, name_text, BeginWith, AreOptions, Are, AreInOrder, InAnyOrder, StandFor, StandForNone, colon, port_of, endpoint_of, sessions_of}
use Rattle.rcpd_words.specs.declared.options.Values.{Values}
use Rattle.rcp_base.specs.Text.{address_of}
use Rattle.std.proofs.lemmas.List.{drop_all}
use Rattle.std.proofs.lemmas.Bool.{eqb-true}
use Rattle.std.specs.Borrow.{Bor}
use Rattle.rcpd_words.specs.declared.settings.Settings.{Settings}
use Rattle.rcpd_words.specs.declared.options.OptionName.{OptionName}
use Rattle.rcpd_words.specs.declared.options.OptionName.TheVariants as option

-- ---- names

abbrev pub is_equals : ℕ → Bool
is_equals c = c == equals

pub place_alone : (n : OptionName) → position_or_len is_equals (name_text n) ≡ length (name_text n)
place_alone option.Bgp = refl
place_alone option.LinkState = refl
place_alone option.Sessions = refl

pub place_joined : (n : OptionName) (v : List ℕ) → position_or_len is_equals (name_text n ++ equals ∷ v) ≡ length (name_text n)
place_joined option.Bgp v = refl
place_joined option.LinkState v = refl
place_joined option.Sessions v = refl

pub length_joined : (n : OptionName) (v : List ℕ) → length (name_text n ++ equals ∷ v) ≡ length (name_text n) + suc (length v)
length_joined option.Bgp v = omega arith
length_joined option.LinkState v = omega arith
length_joined option.Sessions v = omega arith

pub before_joined : (n : OptionName) (v : List ℕ) → before_first is_equals (name_text n ++ equals ∷ v) ≡ name_text n
before_joined option.Bgp v = refl
before_joined option.LinkState v = refl
before_joined option.Sessions v = refl

pub after_joined : (n : OptionName) (v : List ℕ) → after_first is_equals (name_text n ++ equals ∷ v) ≡ v
after_joined option.Bgp v = refl
after_joined option.LinkState v = refl
after_joined option.Sessions v = refl

same_name : (m n : OptionName) → length (name_text m) ≡ length (name_text n) → m ≡ n
same_name option.Bgp option.Bgp e = refl
same_name option.Bgp option.LinkState e = absurd (omega (arith, e))
same_name option.Bgp option.Sessions e = absurd (omega (arith, e))
same_name option.LinkState option.Bgp e = absurd (omega (arith, e))
same_name option.LinkState option.LinkState e = refl
same_name option.LinkState option.Sessions e = absurd (omega (arith, e))
same_name option.Sessions option.Bgp e = absurd (omega (arith, e))
same_name option.Sessions option.LinkState e = absurd (omega (arith, e))
same_name option.Sessions option.Sessions e = refl

-- ---- the option in front

abbrev head_or : List (List ℕ) → List ℕ
head_or [] = []
head_or (w ∷ ws) = w

abbrev tail_of : List (List ℕ) → List (List ℕ)
tail_of [] = []
tail_of (w ∷ ws) = ws

apart : (m n : OptionName) (v : List ℕ) → name_text m ≡ name_text n ++ equals ∷ v → ⊥
apart m n v e =
    let place = sym (place_alone m) ∙ (ap (position_or_len is_equals) e ∙ place_joined n v) in
    let size = ap length e ∙ length_joined n v in
    absurd (omega (arith, place, size))

pub same_front : (a b : OptionName × List ℕ) (words r s : List (List ℕ)) → BeginWith a.0 a.1 words r → BeginWith b.0 b.1 words s → (a ≡ b) × (r ≡ s)
same_front (m, v) (n, w) words r s (inl g) (inl h) =
    let e = sym g ∙ h in
    let name = same_name m n (ap (λ ws. length (head_or ws)) e) in
    let value : v ≡ w = ap (λ ws. head_or (tail_of ws)) e in
    (λ i. (name i, value i), ap (λ ws. tail_of (tail_of ws)) e)
same_front (m, v) (n, w) words r s (inl g) (inr h) = absurd (apart m n w (ap head_or (sym g ∙ h)))
same_front (m, v) (n, w) words r s (inr g) (inl h) = absurd (apart n m v (ap head_or (sym h ∙ g)))
same_front (m, v) (n, w) words r s (inr g) (inr h) =
    let e = sym g ∙ h in
    let word = ap head_or e in
    let name = same_name m n (sym (place_joined m v) ∙ (ap (position_or_len is_equals) word ∙ place_joined n w)) in
    let value : v ≡ w = sym (after_joined m v) ∙ (ap (after_first is_equals) word ∙ after_joined n w) in
    (λ i. (name i, value i), ap tail_of e)

-- ---- three options

pub same_options : (a b c d e f : OptionName × List ℕ) (words : List (List ℕ)) → AreOptions a b c words → AreOptions d e f words → (a ≡ d) × (b ≡ e) × (c ≡ f)
same_options a b c d e f words g h =
    let one = same_front a d words g.after_one h.after_one g.first h.first in
    let two = same_front b e h.after_one g.after_two h.after_two (subst (λ (ws : List (List ℕ)). BeginWith b.0 b.1 ws g.after_two) one.1 g.second) h.second in
    let three = same_front c f h.after_two [] [] (subst (λ (ws : List (List ℕ)). BeginWith c.0 c.1 ws []) two.1 g.third) h.third in
    (one.0, two.0, three.0)

abbrev is_same : OptionName → OptionName → Bool
is_same option.Bgp option.Bgp = true
is_same option.LinkState option.LinkState = true
is_same option.Sessions option.Sessions = true
is_same m n = false

abbrev value_in : OptionName → (one two three : OptionName × List ℕ) → List ℕ
value_in n one two three = cond (is_same n one.0) one.1 (cond (is_same n two.0) two.1 three.1)

same_value : (n : OptionName) (a b c one two three : OptionName × List ℕ) → Are a b c one two three → value_in n one two three ≡ value_in n a b c
same_value n a b c one two three h = λ i. value_in n (h.0 i) (h.1 i) (h.2 i)

value_in_order : (n : OptionName) (b l s : List ℕ) (one two three : OptionName × List ℕ) → AreInOrder (option.Bgp, b) (option.LinkState, l) (option.Sessions, s) one two three
    → value_in n one two three ≡ value_in n (option.Bgp, b) (option.LinkState, l) (option.Sessions, s)
value_in_order option.Bgp b l s one two three (inl h) = same_value option.Bgp _ _ _ one two three h
value_in_order option.Bgp b l s one two three (inr (inl h)) = same_value option.Bgp _ _ _ one two three h
value_in_order option.Bgp b l s one two three (inr (inr (inl h))) = same_value option.Bgp _ _ _ one two three h
value_in_order option.Bgp b l s one two three (inr (inr (inr (inl h)))) = same_value option.Bgp _ _ _ one two three h
value_in_order option.Bgp b l s one two three (inr (inr (inr (inr (inl h))))) = same_value option.Bgp _ _ _ one two three h
value_in_order option.Bgp b l s one two three (inr (inr (inr (inr (inr h))))) = same_value option.Bgp _ _ _ one two three h
value_in_order option.LinkState b l s one two three (inl h) = same_value option.LinkState _ _ _ one two three h
value_in_order option.LinkState b l s one two three (inr (inl h)) = same_value option.LinkState _ _ _ one two three h
value_in_order option.LinkState b l s one two three (inr (inr (inl h))) = same_value option.LinkState _ _ _ one two three h
value_in_order option.LinkState b l s one two three (inr (inr (inr (inl h)))) = same_value option.LinkState _ _ _ one two three h
value_in_order option.LinkState b l s one two three (inr (inr (inr (inr (inl h))))) = same_value option.LinkState _ _ _ one two three h
value_in_order option.LinkState b l s one two three (inr (inr (inr (inr (inr h))))) = same_value option.LinkState _ _ _ one two three h
value_in_order option.Sessions b l s one two three (inl h) = same_value option.Sessions _ _ _ one two three h
value_in_order option.Sessions b l s one two three (inr (inl h)) = same_value option.Sessions _ _ _ one two three h
value_in_order option.Sessions b l s one two three (inr (inr (inl h))) = same_value option.Sessions _ _ _ one two three h
value_in_order option.Sessions b l s one two three (inr (inr (inr (inl h)))) = same_value option.Sessions _ _ _ one two three h
value_in_order option.Sessions b l s one two three (inr (inr (inr (inr (inl h))))) = same_value option.Sessions _ _ _ one two three h
value_in_order option.Sessions b l s one two three (inr (inr (inr (inr (inr h))))) = same_value option.Sessions _ _ _ one two three h

abbrev pub AreValues : (b l s : List ℕ) → List (List ℕ) → Type 0
AreValues b l s words = InAnyOrder (option.Bgp, b) (option.LinkState, l) (option.Sessions, s) words

pub same_values : (b l s b' l' s' : List ℕ) (words : List (List ℕ)) → AreValues b l s words → AreValues b' l' s' words → (b ≡ b') × (l ≡ l') × (s ≡ s')
same_values b l s b' l' s' words g h =
    let same = same_options g.one g.two g.three h.one h.two h.three words g.options h.options in
    let at = λ (n : OptionName). sym (value_in_order n b l s g.one g.two g.three g.order)
    ∙ (same_value n h.one h.two h.three g.one g.two g.three same ∙ value_in_order n b' l' s' h.one h.two h.three h.order) in
    (at option.Bgp, at option.LinkState, at option.Sessions)

-- no option stands in front
abbrev pub NoneInFront : List (List ℕ) → Type 0
NoneInFront words = (n : OptionName) (v : List ℕ) (rest : List (List ℕ)) → BeginWith n v words rest → ⊥

abbrev pub NoValues : List (List ℕ) → Type 0
NoValues words = (b l s : List ℕ) → AreValues b l s words → ⊥

pub none_first : (words : List (List ℕ)) → NoneInFront words → NoValues words
none_first words none = λ b l s o. none o.one.0 o.one.1 o.options.after_one o.options.first

pub none_second : (a : OptionName × List ℕ) (words rest : List (List ℕ)) → BeginWith a.0 a.1 words rest → NoneInFront rest → NoValues words
none_second a words rest first none = λ b l s o.
    let one = same_front o.one a words o.options.after_one rest o.options.first first in
    none o.two.0 o.two.1 o.options.after_two (subst (λ (ws : List (List ℕ)). BeginWith o.two.0 o.two.1 ws o.options.after_two) one.1 o.options.second)

-- the words begin with two options
pub record AreTwo (a c : OptionName × List ℕ) (words after_one rest : List (List ℕ)) : Type 0 where
  pub first : BeginWith a.0 a.1 words after_one
  pub second : BeginWith c.0 c.1 after_one rest

third : (a c : OptionName × List ℕ) (words after_one rest : List (List ℕ)) → AreTwo a c words after_one rest
    → (d e f : OptionName × List ℕ) → AreOptions d e f words → BeginWith f.0 f.1 rest []
third a c words after_one rest two d e f o =
    let one = same_front d a words o.after_one after_one o.first two.first in
    let other = same_front e c after_one o.after_two rest (subst (λ (ws : List (List ℕ)). BeginWith e.0 e.1 ws o.after_two) one.1 o.second) two.second in
    subst (λ (ws : List (List ℕ)). BeginWith f.0 f.1 ws []) other.1 o.third

pub none_third : (a c : OptionName × List ℕ) (words after_one rest : List (List ℕ)) → AreTwo a c words after_one rest → NoneInFront rest → NoValues words
none_third a c words after_one rest two none = λ b l s o. none o.three.0 o.three.1 [] (third a c words after_one rest two o.one o.two o.three o.options)

pub more_words : (a c d : OptionName × List ℕ) (words after_one after_two rest : List (List ℕ)) → AreTwo a c words after_one after_two
    → BeginWith d.0 d.1 after_two rest → (rest ≡ [] → ⊥) → NoValues words
more_words a c d words after_one after_two rest two last more = λ b l s o.
    more (same_front d o.three after_two rest [] last (third a c words after_one after_two two o.one o.two o.three o.options)).1

pub no_order : (a c d : OptionName × List ℕ) (words : List (List ℕ)) → AreOptions a c d words
    → ((b l s : List ℕ) → AreInOrder (option.Bgp, b) (option.LinkState, l) (option.Sessions, s) a c d → ⊥) → NoValues words
no_order a c d words are none = λ b l s o.
    let same = same_options o.one o.two o.three a c d words o.options are in
    none b l s (subst (λ (x : OptionName × List ℕ). AreInOrder (option.Bgp, b) (option.LinkState, l) (option.Sessions, s) x c d) same.0
    (subst (λ (x : OptionName × List ℕ). AreInOrder (option.Bgp, b) (option.LinkState, l) (option.Sessions, s) o.one x d) same.1
    (subst (λ (x : OptionName × List ℕ). AreInOrder (option.Bgp, b) (option.LinkState, l) (option.Sessions, s) o.one o.two x) same.2 o.order)))

pub some_left : (words : List (Bor (List ℕ))) → (length words == 0) ≡ false → map (λ (word : Bor (List ℕ)). word.now) words ≡ [] → ⊥
some_left [] some e = absurd cc
some_left (w ∷ ws) some e = absurd cc

pub none_left : (words : List (Bor (List ℕ))) → (length words == 0) ≡ true → map (λ (word : Bor (List ℕ)). word.now) words ≡ []
none_left [] none = refl
none_left (w ∷ ws) none = absurd (omega (arith, eqb-true (length (w ∷ ws)) 0 none))

pub last_option : (x : OptionName × List ℕ) (words rest : List (List ℕ)) → BeginWith x.0 x.1 words rest → rest ≡ [] → BeginWith x.0 x.1 words []
last_option x words rest begins none = subst (λ (ws : List (List ℕ)). BeginWith x.0 x.1 words ws) none begins

pub ordered : (result : Option Values) (a c d : OptionName × List ℕ) (words : List (List ℕ)) → AreOptions a c d words
    → MatchOption result ((b l s : List ℕ) → AreInOrder (option.Bgp, b) (option.LinkState, l) (option.Sessions, s) a c d → ⊥)
    (λ v. AreInOrder (option.Bgp, v.bgp.now) (option.LinkState, v.link_state.now) (option.Sessions, v.sessions.now) a c d)
    → MatchOption result (NoValues words) (λ v. AreValues v.bgp.now v.link_state.now v.sessions.now words)
ordered None a c d words are none = no_order a c d words are none
ordered (Some v) a c d words are order = record { one = a; two = c; three = d; order = order; options = are }

-- ---- settings

none-some : {X : Type 0} (x : X) → None ≡ Some x → ⊥
none-some x e = absurd cc

and_then_none : {X : Type 0} {Y : Type 0} (f : X → Option Y) (o : Option X) → ((x : X) → f x ≡ None) → option_and_then f o ≡ None
and_then_none f None none = refl
and_then_none f (Some x) none = none x

pub no_colon : (text : List ℕ) → position_or_len (λ c. eqb c colon) text ≡ length text → None ≡ endpoint_of text
no_colon text e =
    let rest : after_first (λ c. c == colon) text ≡ [] = drop_all _ text (omega (arith, e)) in
    let port : port_of (after_first (λ c. c == colon) text) ≡ None = ap port_of rest in
    sym (and_then_none _ (address_of (before_first (λ c. c == colon) text)) (λ address. rw port refl))

pub no_values : (words : List (List ℕ)) → NoValues words → StandForNone words
no_values words none = λ settings stand. none stand.bgp stand.link_state stand.sessions stand.options

pub no_bgp : (b l s : List ℕ) (words : List (List ℕ)) → AreValues b l s words → endpoint_of b ≡ None → StandForNone words
no_bgp b l s words are none = λ settings stand.
    let same = same_values b l s stand.bgp stand.link_state stand.sessions words are stand.options in
    none-some settings.bgp (sym none ∙ (ap endpoint_of same.0 ∙ stand.bgp_value))

pub no_link_state : (b l s : List ℕ) (words : List (List ℕ)) → AreValues b l s words → endpoint_of l ≡ None → StandForNone words
no_link_state b l s words are none = λ settings stand.
    let same = same_values b l s stand.bgp stand.link_state stand.sessions words are stand.options in
    none-some settings.link_state (sym none ∙ (ap endpoint_of same.1 ∙ stand.link_state_value))

pub no_sessions : (b l s : List ℕ) (words : List (List ℕ)) → AreValues b l s words → sessions_of s ≡ None → StandForNone words
no_sessions b l s words are none = λ settings stand.
    let same = same_values b l s stand.bgp stand.link_state stand.sessions words are stand.options in
    none-some settings.sessions (sym none ∙ (ap sessions_of same.2 ∙ stand.sessions_value))

pub same_settings : (words : List (List ℕ)) (one other : Settings) → StandFor words one → StandFor words other → one ≡ other
same_settings words one other a b =
    let same = same_values a.bgp a.link_state a.sessions b.bgp b.link_state b.sessions words a.options b.options in
    let bgp : one.bgp ≡ other.bgp = cc (a.bgp_value, b.bgp_value, same.0) in
    let link_state : one.link_state ≡ other.link_state = cc (a.link_state_value, b.link_state_value, same.1) in
    let sessions : one.sessions ≡ other.sessions = cc (a.sessions_value, b.sessions_value, same.2) in
    λ i. record { bgp = bgp i; link_state = link_state i; sessions = sessions i }
