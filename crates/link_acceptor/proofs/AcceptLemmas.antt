-- A count that rises link by link.
use Rattle.std.proofs.Common.{◌≡◌, ◌⊎◌, ℕ, ◌+◌, ◌-◌, ◌^◌, inl, inr, arith, ◌∙◌}
use Rattle.std.proofs.lemmas.Bool.{cases_lt}
use Rattle.outside.specs.Told.{raised}
use Rattle.link_acceptor.specs.Accepting.{RoseBy, RoseOnce}

raised_last : (n : ℕ) → n ≡ 2 ^ 64 - 1 → raised n ≡ 2 ^ 64 - 1
raised_last n last = omega (arith, last)

raised_once : (start number n : ℕ) → n ≡ start + number → (raised n ≡ start + (number + 1)) ⊎ (raised n ≡ 2 ^ 64 - 1)
raised_once start number n is = elim (cases_lt n (2 ^ 64 - 1)) [
  | inl below ↦ inl (omega (arith, is, below))
  | inr last ↦ inr (omega (arith, last))
]

pub rose_on : (number more start before after : ℕ) → RoseBy number start before → RoseOnce more before after → RoseBy (number + more) start after
rose_on number more start before after (inl by) (inl none) = inl (omega (arith, by, none.0, none.1))
rose_on number more start before after (inr last) (inl none) = inr (none.1 ∙ last)
rose_on number more start before after (inl by) (inr one) = elim (raised_once start number before by) [
  | inl rose ↦ inl (omega (arith, one.0, one.1 ∙ rose))
  | inr last ↦ inr (one.1 ∙ last)
]
rose_on number more start before after (inr last) (inr one) = inr (one.1 ∙ raised_last before last)

pub rose_then : (number start before after : ℕ) → RoseBy number start before → after ≡ before → RoseBy number start after
rose_then number start before after (inl by) same = inl (same ∙ by)
rose_then number start before after (inr last) same = inr (same ∙ last)
