-- A flag that is tested by its bit.
use Rattle.std.proofs.Common.{◌≡◌, ℕ, ◌*◌, ◌/◌, ◌%◌}
use Rattle.std.specs.Prelude.{bit_and}
use Rattle.std.proofs.lemmas.Nat.Bits.{and_high}

pub category_bits : (flags : ℕ) → bit_and flags 192 ≡ flags / 64 % 4 * 64
category_bits flags = and_high flags 2 6

pub optional_bit : (flags : ℕ) → bit_and flags 128 ≡ flags / 128 % 2 * 128
optional_bit flags = and_high flags 1 7

pub transitive_bit : (flags : ℕ) → bit_and flags 64 ≡ flags / 64 % 2 * 64
transitive_bit flags = and_high flags 1 6

pub partial_bit : (flags : ℕ) → bit_and flags 32 ≡ flags / 32 % 2 * 32
partial_bit flags = and_high flags 1 5

pub extended_bit : (flags : ℕ) → bit_and flags 16 ≡ flags / 16 % 2 * 16
extended_bit flags = and_high flags 1 4
