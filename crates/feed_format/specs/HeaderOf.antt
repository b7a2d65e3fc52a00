-- What nine octets before a body say.
use Rattle.std.specs.Prelude.{◌≡◌, ℕ, List, Some}
use Rattle.rcp_base.specs.Feed.{kind_of, letter_at, source_at, length_at}
use Rattle.feed_format.specs.declared.reader.Header.{Header}

pub record IsHeader (header : Header) (octets : List ℕ) : Type 0 where
  pub kind : kind_of (letter_at octets) ≡ Some header.kind
  pub source : header.source ≡ source_at octets
  pub len : header.len ≡ length_at octets
