-- What a session reports of a router: of octets, a faultless UPDATE gives prefixes in form, and a route that is that of its canonical octets.
use Rattle.std.proofs.Common.{◌≡◌, ℕ, ◌<◌, not, ◌&&◌, List, [], ◌∷◌, map, drop, Option, Some, None, refl, sym, subst}
use Rattle.std.specs.List.{All, AllByRecursion}
use Rattle.std.proofs.lemmas.List.Elements.{All-take, All-drop}
use Rattle.std.proofs.lemmas.Option.{none-some, cond_some}
use Rattle.rcp_base.specs.IpPrefix.{IpPrefix, IsPrefix}
use Rattle.rcp_base.specs.Maps.{is_among}
use Rattle.rcp_model.specs.Attributes.{Attribute, number_width}
use Rattle.rcp_model.specs.Routes.{RouteFields, route_of}
use Rattle.rcp_model.specs.Updates.{Sections, Changes, section, after_section, has_section, sections_of, prefixes_in, update_fault, changes_of}
use Rattle.rcp_model.specs.Sessions.{Announce, Withdraw, changes_events}
use Rattle.rcp_base.specs.Octets.{AreOctets}
use Rattle.rcp_model.specs.Telling.{IsRouteOf, IsTold}
use Rattle.rcp_model.proofs.AttributeLemmas.{IsShort, IsShort-attributes_in}
use Rattle.rcp_model.proofs.CanonicalLemmas.{canonical_octets_again}
use Rattle.rcp_model.proofs.OfferLemmas.{filter-keeps}
use Rattle.rcp_model.proofs.RouteLemmas.{route_again}
use Rattle.rcp_model.proofs.AllLemmas.{all-append}
use Rattle.rcp_model.proofs.SectionLemmas.{prefixes_in-in_form}

-- the sections of octets are octets
pub record OctetSections (sections : Sections) : Type 0 where
  withdrawn : All (λ o. o < 256) sections.withdrawn
  pub attributes : All (λ o. o < 256) sections.attributes
  nlri : All (λ o. o < 256) sections.nlri

section-octets : (octets : List ℕ) → All (λ o. o < 256) octets → All (λ o. o < 256) (section octets)
section-octets octets all = All-take (λ o. o < 256) _ (drop 2 octets) (All-drop (λ o. o < 256) 2 octets all)

after_section-octets : (octets : List ℕ) → All (λ o. o < 256) octets → All (λ o. o < 256) (after_section octets)
after_section-octets octets all = All-drop (λ o. o < 256) _ octets all

pub sections-octets : (body : List ℕ) (sections : Sections) → All (λ o. o < 256) body → sections_of body ≡ Some sections → OctetSections sections
unfolding sections_of
sections-octets body sections all is =
    let same = (cond_some (has_section body && has_section (after_section body)) (record { withdrawn = section body; attributes = section (after_section body); nlri = after_section (after_section body) }) sections is).1 in
    let rest = after_section-octets body all in
    subst OctetSections same (record { withdrawn = section-octets body all; attributes = section-octets (after_section body) rest; nlri = after_section-octets (after_section body) rest })

-- what changes is in form
record AreInForm (changes : Changes) : Type 0 where
  withdrawn : AllByRecursion IsPrefix changes.withdrawn
  announced : AllByRecursion IsPrefix changes.announced
  short : AllByRecursion IsShort changes.attributes

by_sections : (body : List ℕ) (found : Option Sections) → All (λ o. o < 256) body → sections_of body ≡ found → update_fault number_width body ≡ None → AreInForm (changes_of body)
unfolding changes_of update_fault
by_sections body None all is faultless = absurd (some_none (rw (is, update_fault) at faultless)) where
  some_none : {A : Type 0} {f : A} → Some f ≡ None → ⊥
  some_none {f = f} e = none-some f (sym e)
by_sections body (Some sections) all is faultless =
    let octets = sections-octets body sections all is in
    rw (is, changes_of) record {
      withdrawn = filter-keeps IsPrefix (λ p. not (is_among (prefixes_in sections.nlri) p)) (prefixes_in sections.withdrawn) (prefixes_in-in_form sections.withdrawn octets.withdrawn);
      announced = prefixes_in-in_form sections.nlri octets.nlri;
      short = IsShort-attributes_in sections.attributes octets.attributes;
    }

-- ---- events

told-withdrawn : (as_number : ℕ) (ps : List IpPrefix) → AllByRecursion IsPrefix ps → AllByRecursion (IsTold as_number) (map Withdraw ps)
told-withdrawn as_number [] each = tt
told-withdrawn as_number (p ∷ ps) each = (each.0, told-withdrawn as_number ps each.1)

told-announced : (as_number : ℕ) (route : RouteFields) (ps : List IpPrefix) → IsRouteOf as_number route → AllByRecursion IsPrefix ps → AllByRecursion (IsTold as_number) (map (λ p. Announce p route) ps)
told-announced as_number route [] is each = tt
told-announced as_number route (p ∷ ps) is each = ((each.0, is), told-announced as_number route ps is each.1)

route-of_octets : (as_number : ℕ) (list : List Attribute) → AllByRecursion IsShort list → IsRouteOf as_number (route_of number_width as_number list)
unfolding route_of
route-of_octets as_number list short = record { fields = sym (route_again list short number_width as_number); canonical = canonical_octets_again list short }

-- what the octets of a faultless UPDATE give
pub told-changes : (as_number : ℕ) (body : List ℕ) → AreOctets body → update_fault number_width body ≡ None → AllByRecursion (IsTold as_number) (changes_events as_number (changes_of body))
told-changes as_number body all faultless =
    let changes = changes_of body in
    let form = by_sections body (sections_of body) all refl faultless in
    let route = route_of number_width as_number changes.attributes in
    all-append (IsTold as_number) (map Withdraw changes.withdrawn) (map (λ p. Announce p route) changes.announced)
    (told-withdrawn as_number changes.withdrawn form.withdrawn)
    (told-announced as_number route changes.announced (route-of_octets as_number changes.attributes form.short) form.announced)
