-- What the readers answer: what the octets say, or no memory.
use Rattle.std.specs.Prelude.{◌≡◌, ⊤, Result, Ok, Err}
use Rattle.rcp_model.specs.declared.lsa_fault.LsaFault.{LsaFault}
use Rattle.lsa_reader.specs.declared.lsa.LsaRefusal.{LsaRefusal}
use Rattle.lsa_reader.specs.declared.lsa.LsaRefusal.TheVariants.{Fault, NoMemory}

-- a refusal names the fault that was said; where memory may be wanted is said apart
abbrev pub Refuses : {Y : Type 0} → LsaRefusal → Result Y LsaFault → Type 0
Refuses (Fault f) said = said ≡ Err f
Refuses NoMemory said = ⊤

-- what a reader answers, seen by view, is what was said
abbrev pub Gives : {X Y : Type 0} → (X → Y) → Result X LsaRefusal → Result Y LsaFault → Type 0
Gives view (Ok x) said = said ≡ Ok (view x)
Gives view (Err e) said = Refuses e said
