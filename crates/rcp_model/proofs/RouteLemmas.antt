-- Routes: that every field follows from the canonical octets, and what each route keeps.
use Rattle.std.proofs.Common.{◌≡◌, ℕ, ◌<◌, true, List, Option, Some, None, refl, ap, ◌∙◌, eqb, false}
use Rattle.std.specs.List.{All, AllByRecursion}
use Rattle.std.specs.Int.{Width}
use Rattle.rcp_model.specs.Attributes.{Attribute, ORIGIN, AS_PATH, NEXT_HOP, MULTI_EXIT_DISC, LOCAL_PREF, is_recognised, value_of, attributes_in, canonical_octets, has_route}
use Rattle.rcp_model.specs.Routes.{number_or, route_of, IsRoute}
use Rattle.rcp_model.proofs.AttributeLemmas.{IsShort, IsShort-attributes_in}
use Rattle.rcp_model.proofs.CanonicalLemmas.{canonical_octets_again, value_of-again, value_of-canonical, pref-canonical, pref_or}

-- a route depends on five values and the canonical octets alone
pub record HaveOneRoute (list other : List Attribute) : Type 0 where
  pub origin : value_of ORIGIN list ≡ value_of ORIGIN other
  pub path : value_of AS_PATH list ≡ value_of AS_PATH other
  pub next_hop : value_of NEXT_HOP list ≡ value_of NEXT_HOP other
  pub med : value_of MULTI_EXIT_DISC list ≡ value_of MULTI_EXIT_DISC other
  pub pref : number_or 100 (value_of LOCAL_PREF list) ≡ number_or 100 (value_of LOCAL_PREF other)
  pub octets : canonical_octets list ≡ canonical_octets other

route_of-same : (width : Width) (as_number : ℕ) (list other : List Attribute) → HaveOneRoute list other → route_of width as_number list ≡ route_of width as_number other
unfolding route_of
route_of-same width as_number list other same = rw (same.pref, same.path, same.origin, same.med, same.octets, same.next_hop) refl

-- the default of LOCAL_PREF counts as it is written
number_or-pref_or : (o : Option (List ℕ)) → number_or 100 (pref_or o) ≡ number_or 100 o
number_or-pref_or None = refl
number_or-pref_or (Some value) = refl

module _ (list : List Attribute) (short : AllByRecursion IsShort list) where
  pub value_again : (kind : ℕ) → is_recognised kind ≡ true → eqb LOCAL_PREF kind ≡ false → value_of kind (attributes_in (canonical_octets list)) ≡ value_of kind list
  value_again kind recognised other = value_of-again list short kind ∙ value_of-canonical kind list recognised other

  HaveOneRoute-again : HaveOneRoute (attributes_in (canonical_octets list)) list
  HaveOneRoute-again = record {
    origin = value_again ORIGIN refl refl;
    path = value_again AS_PATH refl refl;
    next_hop = value_again NEXT_HOP refl refl;
    med = value_again MULTI_EXIT_DISC refl refl;
    pref = ap (number_or 100) (value_of-again list short LOCAL_PREF ∙ pref-canonical list) ∙ number_or-pref_or (value_of LOCAL_PREF list);
    octets = canonical_octets_again list short;
  }

  -- the route of the canonical octets is the route that they were written for
  pub route_again : (width : Width) (as_number : ℕ) → route_of width as_number (attributes_in (canonical_octets list)) ≡ route_of width as_number list
  route_again width as_number = route_of-same width as_number (attributes_in (canonical_octets list)) list HaveOneRoute-again

  pub has_route_again : has_route (attributes_in (canonical_octets list)) ≡ has_route list
  has_route_again = let same = HaveOneRoute-again in rw (same.origin, same.path, same.next_hop) refl

  pub IsRoute-route_of : (width : Width) (as_number : ℕ) → has_route list ≡ true → IsRoute (route_of width as_number list)
  unfolding route_of
  IsRoute-route_of width as_number complete = record {
    canonical_attrs = canonical_octets_again list short;
    complete = has_route_again ∙ complete;
    long_is = refl;
  }

-- ---- of octets

pub route_of_octets : (octets : List ℕ) → All (λ o. o < 256) octets → (width : Width) (as_number : ℕ) → has_route (attributes_in octets) ≡ true → IsRoute (route_of width as_number (attributes_in octets))
route_of_octets octets all = IsRoute-route_of (attributes_in octets) (IsShort-attributes_in octets all)
