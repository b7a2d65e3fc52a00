-- The interior network of a generated feed: 400 routers, and 900 links of which ten change their costs.
use Rattle.std.specs.Prelude.{◌≡◌, ℕ, zero, suc, ◌+◌, ◌*◌, ◌%◌, ◌||◌, ◌==◌, List, [], ◌∷◌, ◌++◌, map, length, slice_set, slice_index_or, if◌then◌else◌, ℤ, pos, ◌+ℤ◌}
use Rattle.std.specs.Int.{w32, cast_signed}
use Rattle.rcp_model.specs.LinkState.{RouterLink, RouterLsa}
use Rattle.feed_make.specs.Numbers.{numbers_from}
use Rattle.feed_make.specs.Draws.{draw}

-- the router ID and BGP Identifier of a router: 10.0.0.0 and its number from 1
abbrev pub id_of : ℕ → ℕ
id_of router = 167772161 + router

pub record Link : Type 0 where
  pub from : ℕ
  pub to : ℕ
  pub cost : ℕ

-- ---- links: a ring, and then 500 between any two

abbrev pub ring_link : ℕ → ℕ → Link
ring_link number i = record { from = i; to = (i + 1) % 400; cost = 1 + draw number i 100 }

-- three draws for each of these
abbrev pub other_link : ℕ → ℕ → Link
other_link number k =
    let place = 400 + 3 * k in
    let from = draw number place 400 in
    record { from = from; to = (from + 1 + draw number (place + 1) 399) % 400; cost = 1 + draw number (place + 2) 100 }

abbrev pub first_links : ℕ → List Link
first_links number = map (ring_link number) (numbers_from 0 400) ++ map (other_link number) (numbers_from 0 500)

-- ---- changes: ten links are drawn one after another, each with another cost

abbrev pub change_place : ℕ → ℕ
change_place k = 9100 + 2 * k

abbrev pub changed : ℕ → ℕ → ℕ
changed number k = draw number (change_place k) 900

abbrev pub no_link : Link
no_link = record { from = 0; to = 0; cost = 0 }

abbrev pub link_at : List Link → ℕ → Link
link_at links i = slice_index_or links i no_link

abbrev pub with_cost : List Link → ℕ → ℕ → List Link
with_cost links i cost = slice_set links i (record (link_at links i) { cost = cost })

-- the links after so many changes
abbrev pub links_after : ℕ → ℕ → List Link
links_after number zero = first_links number
links_after number (suc k) = with_cost (links_after number k) (changed number k) (1 + draw number (change_place k + 1) 100)

-- the link that is changed, as it is afterwards
abbrev pub changed_link : ℕ → ℕ → Link
changed_link number k = link_at (links_after number (suc k)) (changed number k)

-- ---- router LSAs (RFC 2328 section 12.4.1)

-- how many of the first changes are of a link of the router: each raises its LSA's sequence number by one
abbrev pub rises : ℕ → ℕ → ℕ → ℕ
rises number router zero = 0
rises number router (suc k) =
    rises number router k + (if (changed_link number k).from == router || (changed_link number k).to == router then 1 else 0)

-- those of all routers
abbrev pub all_rises : ℕ → ℕ → List ℕ
all_rises number k = map (λ router. rises number router k) (numbers_from 0 400)

-- the network of a feed, after so many changes
pub record NetworkOf : Type 0 where
  pub number : ℕ
  pub changes : ℕ

abbrev pub point_to_point : ℕ → ℕ → RouterLink
point_to_point router cost = record { id = id_of router; kind = 1; metric = cost }

-- the links of a router, in the order of the list: it is the first or the second of each
abbrev pub content_of : ℕ → List Link → List RouterLink
content_of router [] = []
content_of router (link ∷ links) =
    if link.from == router then point_to_point link.to link.cost ∷ content_of router links else (
    if link.to == router then point_to_point link.from link.cost ∷ content_of router links else content_of router links)

-- 80000001 in hexadecimal digits (RFC 2328 section 12.1.6)
abbrev pub first_sequence : ℤ
first_sequence = cast_signed w32 2147483649

-- the LSA of a router after so many changes, one second old; its checksum is that of its octets
abbrev pub lsa_after : ℕ → ℕ → ℕ → RouterLsa
lsa_after number k router = record {
  key = id_of router;
  header = record { sequence = first_sequence +ℤ pos (rises number router k); checksum = 0; age = 1 };
  content = content_of router (links_after number k);
}
