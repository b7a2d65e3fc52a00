-- The words, after the program's name, that give the settings of the daemon.
use Rattle.std.specs.Prelude.{◌≡◌, ◌==◌, ◌&&◌, ◌⊎◌, ℕ, List, [], ◌∷◌, ◌++◌, Option, Some, None, nat_lt, if◌then◌else◌, option_and_then, codes}
use Rattle.std.specs.List.{before_first, after_first}
use Rattle.rcp_base.specs.Text.{address_of, number_of}
use Rattle.rcpd_words.specs.declared.settings.Endpoint.{Endpoint}
use Rattle.rcpd_words.specs.declared.settings.Settings.{Settings}
use Rattle.rcpd_words.specs.declared.options.OptionName.{OptionName}
use Rattle.rcpd_words.specs.declared.options.OptionName.TheVariants as option

-- ---- values

-- the octets of ':' and '='
abbrev pub colon : ℕ
colon = 58

abbrev pub equals : ℕ
equals = 61

-- a number of 1 to 65535
abbrev pub port_of : List ℕ → Option ℕ
port_of text = option_and_then (λ n. if nat_lt 0 n && nat_lt n 65536 then Some n else None) (number_of text)

-- an address, a colon and a port
abbrev pub endpoint_of : List ℕ → Option Endpoint
endpoint_of text = option_and_then (λ address. option_and_then (λ port. Some (record { address = address; port = port }))
    (port_of (after_first (λ c. c == colon) text))) (address_of (before_first (λ c. c == colon) text))

-- a number of 1 to 1024
abbrev pub sessions_of : List ℕ → Option ℕ
sessions_of text = option_and_then (λ n. if nat_lt 0 n && nat_lt n 1025 then Some n else None) (number_of text)

-- ---- options

abbrev pub name_text : OptionName → List ℕ
name_text option.Bgp = codes "--bgp"
name_text option.LinkState = codes "--ls"
name_text option.Sessions = codes "--sessions"

-- the words begin with an option and its value: the value is the next word, or follows '=' in the same word
abbrev pub BeginWith : OptionName → List ℕ → (words rest : List (List ℕ)) → Type 0
BeginWith name value words rest = (words ≡ name_text name ∷ value ∷ rest) ⊎ (words ≡ (name_text name ++ equals ∷ value) ∷ rest)

-- the words are three options with these values, in this order
pub record AreOptions (one : OptionName × List ℕ) (two : OptionName × List ℕ) (three : OptionName × List ℕ) (words : List (List ℕ)) : Type 0 where
  pub after_one : List (List ℕ)
  pub after_two : List (List ℕ)
  pub first : BeginWith one.0 one.1 words after_one
  pub second : BeginWith two.0 two.1 after_one after_two
  pub third : BeginWith three.0 three.1 after_two []

-- one, two and three are a, b and c, in this order or in any
abbrev pub Are : (a b c one two three : OptionName × List ℕ) → Type 0
Are a b c one two three = (one ≡ a) × (two ≡ b) × (three ≡ c)

abbrev pub AreInOrder : (a b c one two three : OptionName × List ℕ) → Type 0
AreInOrder a b c one two three = Are a b c one two three ⊎ Are a c b one two three ⊎ Are b a c one two three
    ⊎ Are b c a one two three ⊎ Are c a b one two three ⊎ Are c b a one two three

-- the words are these three options in any order
pub record InAnyOrder (a b c : OptionName × List ℕ) (words : List (List ℕ)) : Type 0 where
  pub one : OptionName × List ℕ
  pub two : OptionName × List ℕ
  pub three : OptionName × List ℕ
  pub order : AreInOrder a b c one two three
  pub options : AreOptions one two three words

-- ---- settings

-- each option stands once, with a value of its kind
pub record StandFor (words : List (List ℕ)) (settings : Settings) : Type 0 where
  pub bgp : List ℕ
  pub link_state : List ℕ
  pub sessions : List ℕ
  pub options : InAnyOrder (option.Bgp, bgp) (option.LinkState, link_state) (option.Sessions, sessions) words
  pub bgp_value : endpoint_of bgp ≡ Some settings.bgp
  pub link_state_value : endpoint_of link_state ≡ Some settings.link_state
  pub sessions_value : sessions_of sessions ≡ Some settings.sessions

abbrev pub StandForNone : List (List ℕ) → Type 0
StandForNone words = (settings : Settings) → StandFor words settings → ⊥
