-- UPDATEs: that one that is written is read again, and what it does to a table.
use Rattle.std.proofs.Common.{◌≡◌, ℕ, suc, ◌+◌, ◌<◌, ◌≤◌, true, false, not, None, List, [], ◌∷◌, ◌++◌, length, take, drop, Some, refl, sym, ap, ◌∙◌, subst, arith, eqb, eq-eqb, ltb, leb, length-append, append_assoc, le-leb, le-ltb, take_at, drop_at}
use Rattle.std.specs.List.{flat_map, AllByRecursion}
use Rattle.std.specs.Prelude.{filter}
use Rattle.std.specs.Int.{Width, w16, to_be_bytes}
use Rattle.std.proofs.lemmas.Bool.{or_from, and_from}
use Rattle.std.proofs.lemmas.Nat.{from_be_bytes-to_be_bytes_2}
use Rattle.rcp_base.specs.IpPrefix.{IpPrefix, IsPrefix, prefix_octets}
use Rattle.rcp_model.specs.Messages.{is_outside, type_field, message_size, IsMessage, message_octets}
use Rattle.rcp_base.specs.Maps.{is_among}
use Rattle.rcp_model.specs.Attributes.{attributes_in, attributes_fault, or_else}
use Rattle.rcp_model.specs.Updates.{prefixes_fault, update_fault, changes_of, Sections, leading_number, after_section, section, has_section, sections_of, prefixes_in, update_octets, Table, withdraw_all, announce_all, after_message, after_messages}
use Rattle.rcp_model.proofs.ReadingLemmas.{IsFront-message, IsMessage-message_octets, length-message_octets}
use Rattle.rcp_model.proofs.SectionLemmas.{prefixes_in-written, prefixes_fault-written}

-- ---- one section

-- octets after their length
abbrev pub measured : List ℕ → List ℕ
measured octets = to_be_bytes w16 (length octets) ++ octets

module _ (octets more : List ℕ) (fits : length octets < 65536) where
  leading_number-measured : leading_number (measured octets ++ more) ≡ length octets
  leading_number-measured = from_be_bytes-to_be_bytes_2 (length octets) fits

  section-measured : section (measured octets ++ more) ≡ octets
  section-measured = ap (λ (n : ℕ). take n (octets ++ more)) leading_number-measured ∙ take_at octets more (length octets) refl

  after_section-measured : after_section (measured octets ++ more) ≡ more
  after_section-measured =
      let there : 2 + leading_number (measured octets ++ more) ≡ suc (suc (length octets)) = omega (arith, leading_number-measured) in
      ap (λ (n : ℕ). drop n (measured octets ++ more)) there ∙ drop_at octets more (length octets) refl

  has_section-measured : has_section (measured octets ++ more) ≡ true
  has_section-measured =
      let n = leading_number (measured octets ++ more) in
      let long : 2 ≤ length (measured octets ++ more) = omega arith in
      let all : 2 + n ≤ length (measured octets ++ more) = omega (arith, leading_number-measured, length-append octets more) in
      and_from (leb 2 (length (measured octets ++ more))) (leb (2 + n) (length (measured octets ++ more))) (le-leb _ _ long) (le-leb _ _ all)

-- ---- the three sections

abbrev body_of : List ℕ → List ℕ → List ℕ → List ℕ
body_of gone attributes nlri = to_be_bytes w16 (length gone) ++ gone ++ to_be_bytes w16 (length attributes) ++ attributes ++ nlri

body-is : (gone attributes nlri : List ℕ) → body_of gone attributes nlri ≡ measured gone ++ (measured attributes ++ nlri)
body-is gone attributes nlri = simp append_assoc

length-body_of : (gone attributes nlri : List ℕ) → length (body_of gone attributes nlri) ≡ 4 + length gone + length attributes + length nlri
length-body_of gone attributes nlri = ap length (body-is gone attributes nlri) ∙ omega (arith, length-append gone (measured attributes ++ nlri), length-append attributes nlri)

pub sections_of-written : (gone attributes nlri : List ℕ) → length gone < 65536 → length attributes < 65536
    → sections_of (body_of gone attributes nlri) ≡ Some (record { withdrawn = gone; attributes = attributes; nlri = nlri })
unfolding sections_of
sections_of-written gone attributes nlri short few =
    let body = measured gone ++ (measured attributes ++ nlri) in
    let after : after_section body ≡ measured attributes ++ nlri = after_section-measured gone (measured attributes ++ nlri) short in
    let first : has_section body ≡ true = has_section-measured gone (measured attributes ++ nlri) short in
    let second : has_section (after_section body) ≡ true = ap has_section after ∙ has_section-measured attributes nlri few in
    let w : section body ≡ gone = section-measured gone (measured attributes ++ nlri) short in
    let a : section (after_section body) ≡ attributes = ap section after ∙ section-measured attributes nlri few in
    let n : after_section (after_section body) ≡ nlri = ap after_section after ∙ after_section-measured attributes nlri few in
    ap sections_of (body-is gone attributes nlri) ∙ rw (first, second) (rw (w, a, n) refl)

pub after_message-sections : (message : List ℕ) (table : Table) (sections : Sections) → sections_of (drop 19 message) ≡ Some sections → eqb (type_field message) 2 ≡ true
    → after_message message table ≡ announce_all sections.attributes (prefixes_in sections.nlri) (withdraw_all (prefixes_in sections.withdrawn) table)
unfolding after_message
after_message-sections message table sections e kind = rw (e, after_message) (rw kind refl)

update_fault-sections : (width : Width) (body : List ℕ) (sections : Sections) → sections_of body ≡ Some sections
    → update_fault width body ≡ or_else (attributes_fault width (not (eqb (length sections.nlri) 0)) sections.attributes) (or_else (prefixes_fault sections.withdrawn) (prefixes_fault sections.nlri))
unfolding update_fault
update_fault-sections width body sections e = rw (e, update_fault) refl

changes_of-sections : (body : List ℕ) (sections : Sections) → sections_of body ≡ Some sections
    → changes_of body ≡ record { withdrawn = filter (λ p. not (is_among (prefixes_in sections.nlri) p)) (prefixes_in sections.withdrawn); announced = prefixes_in sections.nlri; attributes = attributes_in sections.attributes }
unfolding changes_of
changes_of-sections body sections e = rw (e, changes_of) refl

-- ---- a whole UPDATE

module _ (withdrawn : List IpPrefix) (attributes : List ℕ) (announced : List IpPrefix) where
  abbrev written_body : List ℕ
  written_body = body_of (flat_map prefix_octets withdrawn) attributes (flat_map prefix_octets announced)

  update-is : update_octets withdrawn attributes announced ≡ message_octets 2 written_body
  unfolding update_octets
  update-is = refl

  length-body : length written_body ≡ 4 + length (flat_map prefix_octets withdrawn) + length attributes + length (flat_map prefix_octets announced)
  length-body = length-body_of (flat_map prefix_octets withdrawn) attributes (flat_map prefix_octets announced)

  pub length-update_octets : length (update_octets withdrawn attributes announced) ≡ 23 + length (flat_map prefix_octets withdrawn) + length attributes + length (flat_map prefix_octets announced)
  length-update_octets = ap length update-is ∙ omega (arith, length-message_octets 2 written_body, length-body)

  pub type_field-update_octets : type_field (update_octets withdrawn attributes announced) ≡ 2
  type_field-update_octets = ap type_field update-is

  module _ (fits : length (update_octets withdrawn attributes announced) ≤ 4096) where
    pub IsMessage-update_octets : IsMessage (update_octets withdrawn attributes announced)
    IsMessage-update_octets =
        let short : 19 + length written_body ≤ 4096 = omega (arith, length-update_octets, length-body) in
        let bounds : is_outside 23 4096 (19 + length written_body) ≡ false = or_from (ltb (19 + length written_body) 23) (ltb 4096 (19 + length written_body)) (le-ltb (19 + length written_body) 23 (omega (arith, length-body))) (le-ltb 4096 (19 + length written_body) short) in
        subst IsMessage (sym update-is) (IsMessage-message_octets 2 written_body short refl bounds)

    pub message_size-update_octets : (more : List ℕ) → message_size (update_octets withdrawn attributes announced ++ more) ≡ Some (length (update_octets withdrawn attributes announced))
    message_size-update_octets more = (IsFront-message (update_octets withdrawn attributes announced) IsMessage-update_octets).seen more

    pub sections_of-update_octets : sections_of (drop 19 (update_octets withdrawn attributes announced))
        ≡ Some (record { withdrawn = flat_map prefix_octets withdrawn; attributes = attributes; nlri = flat_map prefix_octets announced })
    sections_of-update_octets =
        ap (λ (octets : List ℕ). sections_of (drop 19 octets)) update-is
        ∙ sections_of-written (flat_map prefix_octets withdrawn) attributes (flat_map prefix_octets announced) (omega (arith, length-update_octets)) (omega (arith, length-update_octets))

    -- read as the UPDATE that it is, it takes its withdrawn prefixes away and then sets the announced ones to its attribute octets
    pub after_message-update_octets : (table : Table) → AllByRecursion IsPrefix withdrawn → AllByRecursion IsPrefix announced
        → after_message (update_octets withdrawn attributes announced) table ≡ announce_all attributes announced (withdraw_all withdrawn table)
    after_message-update_octets table gone new =
        after_message-sections (update_octets withdrawn attributes announced) table _ sections_of-update_octets (eq-eqb _ 2 type_field-update_octets)
        ∙ rw (prefixes_in-written withdrawn gone, prefixes_in-written announced new) refl

    -- it is faultless where its attributes are
    pub update_fault-update_octets : (width : Width) → AllByRecursion IsPrefix withdrawn → AllByRecursion IsPrefix announced
        → attributes_fault width (not (eqb (length (flat_map prefix_octets announced)) 0)) attributes ≡ None
        → update_fault width (drop 19 (update_octets withdrawn attributes announced)) ≡ None
    update_fault-update_octets width gone new faultless =
        update_fault-sections width (drop 19 (update_octets withdrawn attributes announced)) _ sections_of-update_octets
        ∙ rw (faultless, prefixes_fault-written withdrawn gone) (prefixes_fault-written announced new)

    -- and changes what it was written for
    pub changes_of-update_octets : AllByRecursion IsPrefix withdrawn → AllByRecursion IsPrefix announced
        → changes_of (drop 19 (update_octets withdrawn attributes announced))
        ≡ record { withdrawn = filter (λ p. not (is_among announced p)) withdrawn; announced = announced; attributes = attributes_in attributes }
    changes_of-update_octets gone new =
        changes_of-sections (drop 19 (update_octets withdrawn attributes announced)) _ sections_of-update_octets
        ∙ rw (prefixes_in-written withdrawn gone, prefixes_in-written announced new) refl

-- ---- messages one after another

pub after_messages-append : (first second : List (List ℕ)) (table : Table) → after_messages (first ++ second) table ≡ after_messages second (after_messages first table)
unfolding after_messages
after_messages-append [] second table = refl
after_messages-append (message ∷ first) second table = after_messages-append first second (after_message message table)
