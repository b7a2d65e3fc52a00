-- Octets put one after another, and the octets of an attribute.
use Rattle.std.proofs.Common.{◌≡◌, ℕ, ◌+◌, leb, List, ◌++◌, length, take, refl, sym, ap, ◌∙◌, inl, inr, append_assoc, length-append, arith}
use Rattle.std.proofs.lemmas.Bool.{cases_Bool}
use Rattle.rcp_model.specs.Attributes.{Attribute, attribute_octets}
use Rattle.path_attrs.specs.Appending.{Appends}
use Rattle.path_attrs.specs.Shown.{header_octets}

-- one piece after another
pub Appends-then : (a b c : List ℕ) (i j k : ℕ) (xs ys : List ℕ) → Appends a i b j xs → Appends b j c k ys → Appends a i c k (xs ++ ys)
Appends-then a b c i j k xs ys first second = record {
  end_is = omega (arith, first.end_is, second.end_is, length-append xs ys);
  octets_are = second.octets_are ∙ ap (λ (zs : List ℕ). zs ++ ys) first.octets_are ∙ append_assoc (take i a) xs ys;
}

-- an attribute is its header and its value
pub attribute_octets-parts : (a : Attribute) → attribute_octets a ≡ header_octets a.flags a.kind (length a.value) ++ a.value
unfolding attribute_octets
attribute_octets-parts a = elim (cases_Bool (leb (length a.value) 255)) [
  | inl short ↦ rw short refl
  | inr long ↦ rw long refl
]

pub parts_are : (a : Attribute) (flags kind len : ℕ) → flags ≡ a.flags → kind ≡ a.kind → len ≡ length a.value → header_octets flags kind len ++ a.value ≡ attribute_octets a
parts_are a flags kind len f k l = rw (f, k, l) (sym (attribute_octets-parts a))

pub parts_long : (a : Attribute) (flags kind len : ℕ) → flags ≡ a.flags → kind ≡ a.kind → len ≡ length a.value
    → length (header_octets flags kind len) + length a.value ≡ length (attribute_octets a)
parts_long a flags kind len f k l = sym (length-append (header_octets flags kind len) a.value) ∙ ap length (parts_are a flags kind len f k l)
