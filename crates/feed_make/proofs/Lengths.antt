-- How long messages and packets are.
use Rattle.std.proofs.Common.{◌≡◌, ℕ, zero, suc, ◌+◌, ◌*◌, ◌/◌, ◌%◌, ◌-◌, ◌<◌, ◌≤◌, ◌^◌, codes, subst, take, get_or, append-nil, append_assoc, Bool, true, false, cond, eqb, List, [], ◌∷◌, ◌++◌, length, map, refl, sym, ap, ◌∙◌, arith, length-append}
use Rattle.std.specs.List.{flat_map, concat}
use Rattle.std.proofs.lemmas.Bool.{eqb-true, eqb-false, ne_eqb, eq-eqb}
use Rattle.rcp_base.specs.IpPrefix.{IpPrefix, prefix_octets}
use Rattle.rcp_model.specs.LinkState.{RouterLink, RouterLsa}
use Rattle.lsa_reader.specs.Writing.{octets_with, link_octets}
use Rattle.feed_make.specs.Numbers.{numbers_from}
use Rattle.feed_make.specs.Networks.{id_of, Link, links_after, point_to_point, content_of, lsa_after}
use Rattle.feed_make.specs.Checksums.{lsa_octets, high_of, low_of, summed_of}
use Rattle.std.specs.Fmt.{decimal}
use Rattle.std.proofs.lemmas.List.{take_more}
use Rattle.std.proofs.lemmas.Fmt.{length-decimal-le}
use Rattle.rcp_base.specs.Text.{address_text}
use Rattle.feed_make.specs.Feeds.{lsas, packet_header, packet_octets, line, router_line, settings_text, roster_text}
use Rattle.feed_make.specs.Routes.{attributes, group_prefix, prefixes, announcement}
use Rattle.bgp_msg.proofs.Lengths.{length-update_octets}
use Rattle.feed_make.proofs.Ranges.{numbers-cons, numbers-none}
use Rattle.feed_make.proofs.Networks.{length-links, content-few}

-- ---- LSAs

length-links_octets : (links : List RouterLink) → length (flat_map link_octets links) ≡ 12 * length links
length-links_octets [] = refl
length-links_octets (link ∷ links) = omega (arith, length-links_octets links, length-append (link_octets link) (flat_map link_octets links))

pub length-octets_with : (high low : ℕ) (lsa : RouterLsa) → length (octets_with high low lsa) ≡ 24 + 12 * length lsa.content
length-octets_with high low lsa = omega (arith, length-links_octets lsa.content)

-- ---- how often routers stand in links

-- how many links the routers have, each counted for each of its routers
abbrev pub ends_in : List ℕ → List Link → ℕ
ends_in [] links = 0
ends_in (router ∷ routers) links = length (content_of router links) + ends_in routers links

-- how often a number stands among these
abbrev hits : ℕ → List ℕ → ℕ
hits x [] = 0
hits x (y ∷ ys) = cond (eqb x y) 1 0 + hits x ys

no_ends : (routers : List ℕ) → ends_in routers [] ≡ 0
no_ends [] = refl
no_ends (router ∷ routers) = omega (arith, no_ends routers)

one_link : (router : ℕ) (link : Link) (links : List Link)
    → length (content_of router (link ∷ links)) ≤ length (content_of router links) + (cond (eqb link.from router) 1 0 + cond (eqb link.to router) 1 0)
one_link router link links = at_test (eqb link.from router) (eqb link.to router) where
  at_test : (a b : Bool)
      → length (cond a (point_to_point link.to link.cost ∷ content_of router links) (cond b (point_to_point link.from link.cost ∷ content_of router links) (content_of router links)))
      ≤ length (content_of router links) + (cond a 1 0 + cond b 1 0)
  at_test true true = omega arith
  at_test true false = omega arith
  at_test false true = omega arith
  at_test false false = omega arith

more_ends : (routers : List ℕ) (link : Link) (links : List Link) → ends_in routers (link ∷ links) ≤ ends_in routers links + (hits link.from routers + hits link.to routers)
more_ends [] link links = omega arith
more_ends (router ∷ routers) link links = omega (arith, one_link router link links, more_ends routers link links)

no_hit : (x a n : ℕ) → x < a → hits x (numbers_from a n) ≡ 0
no_hit x a zero less = ap (hits x) (numbers-none a)
no_hit x a (suc n) less =
    ap (hits x) (numbers-cons a n)
    ∙ ap (λ (b : Bool). cond b 1 0 + hits x (numbers_from (a + 1) n)) (ne_eqb x a (λ e. omega arith))
    ∙ omega (arith, no_hit x (a + 1) n (omega arith))

one_hit : (x a n : ℕ) → hits x (numbers_from a n) ≤ 1
one_hit x a zero = rw (numbers-none a) (omega arith)
one_hit x a (suc n) = rw (numbers-cons a n) (at_test (eqb x a) refl (one_hit x (a + 1) n)) where
  at_test : (b : Bool) → eqb x a ≡ b → hits x (numbers_from (a + 1) n) ≤ 1 → cond b 1 0 + hits x (numbers_from (a + 1) n) ≤ 1
  at_test true is most = let here : x ≡ a = eqb-true x a is in omega (arith, no_hit x (a + 1) n (omega arith))
  at_test false is most = omega (arith, most)

pub ends-few : (a n : ℕ) (links : List Link) → ends_in (numbers_from a n) links ≤ 2 * length links
ends-few a n [] = omega (arith, no_ends (numbers_from a n))
ends-few a n (link ∷ links) =
    omega (arith, more_ends (numbers_from a n) link links, ends-few a n links, one_hit link.from a n, one_hit link.to a n)

pub two_ends : (from to : ℕ) (links : List Link) → ends_in (from ∷ to ∷ []) links ≤ 2 * length links
two_ends from to links = omega (arith, content-few from links, content-few to links)

-- ---- packets

pub length-lsa : (lsa : RouterLsa) → length (lsa_octets lsa) ≡ 24 + 12 * length lsa.content
unfolding lsa_octets
length-lsa lsa = length-octets_with (high_of (summed_of lsa)) (low_of (summed_of lsa)) lsa

length-lsas : (number k : ℕ) (routers : List ℕ) → length (concat (lsas number k routers)) ≡ 24 * length routers + 12 * ends_in routers (links_after number k)
length-lsas number k [] = refl
length-lsas number k (router ∷ routers) =
    let lsa = lsa_after number k router in
    omega (
      arith,
      length-append (lsa_octets lsa) (concat (lsas number k routers)),
      length-lsa lsa,
      length-lsas number k routers,
    )

pub short_packet : (number k : ℕ) (routers : List ℕ) → length routers ≤ 40 → ends_in routers (links_after number k) ≤ 1800 → length (concat (lsas number k routers)) < 2 ^ 16 - 28
short_packet number k routers few ends = omega (arith, length-lsas number k routers)

pub forty_short : (number k first : ℕ) → length (numbers_from first 40) ≡ 40 → length (concat (lsas number k (numbers_from first 40))) < 2 ^ 16 - 28
forty_short number k first long = short_packet number k (numbers_from first 40) (omega (arith, long)) (omega (arith, ends-few first 40 (links_after number k), length-links number k))

pub two_short : (number k from to : ℕ) → length (concat (lsas number k (from ∷ to ∷ []))) < 2 ^ 16 - 28
two_short number k from to = short_packet number k (from ∷ to ∷ []) (omega arith) (omega (arith, two_ends from to (links_after number k), length-links number k))

-- ---- announcements

prefixes-length : (g first count : ℕ) → length (flat_map prefix_octets (map (group_prefix g) (numbers_from first count))) ≡ 4 * count
prefixes-length g first zero = ap (λ (ns : List ℕ). length (flat_map prefix_octets (map (group_prefix g) ns))) (numbers-none first)
prefixes-length g first (suc count) =
    ap (λ (ns : List ℕ). length (flat_map prefix_octets (map (group_prefix g) ns))) (numbers-cons first count)
    ∙ omega (arith, prefixes-length g (first + 1) count)

pub short_announcement : (number place g router : ℕ) → length (announcement number place g router) ≡ 266
short_announcement number place g router =
    length-update_octets [] (attributes number place g router) (prefixes g) ∙ omega (arith, prefixes-length g 0 50)

pub packet_length : (lsas : List (List ℕ)) → length (packet_octets lsas) ≡ 28 + length (concat lsas)
packet_length lsas = length-append (packet_header (length (concat lsas)) (length lsas)) (concat lsas)

-- ---- the roster's text

-- no part of an address has more than three digits
dotted-short : (a b c d : List ℕ) → length a ≤ 3 → length b ≤ 3 → length c ≤ 3 → length d ≤ 3 → length (a ++ 46 ∷ (b ++ 46 ∷ (c ++ 46 ∷ d))) ≤ 15
dotted-short a b c d p q r s =
    omega (arith, p, q, r, s, length-append a (46 ∷ (b ++ 46 ∷ (c ++ 46 ∷ d))), length-append b (46 ∷ (c ++ 46 ∷ d)), length-append c (46 ∷ d))

three-digits : (n : ℕ) → n < 256 → length (decimal n) ≤ 3
three-digits n less = length-decimal-le 3 n (omega arith) (omega arith) (omega arith)

address-short : (n : ℕ) → length (address_text n) ≤ 15
address-short n =
    dotted-short (decimal (n / 16777216 % 256)) (decimal (n / 65536 % 256)) (decimal (n / 256 % 256)) (decimal (n % 256))
    (three-digits (n / 16777216 % 256) (omega arith)) (three-digits (n / 65536 % 256) (omega arith)) (three-digits (n / 256 % 256) (omega arith)) (three-digits (n % 256) (omega arith))

line-short : (a : List ℕ) → length a ≤ 15 → length (line (codes "router " ++ a ++ codes " " ++ a)) ≤ 39
line-short a few =
    let space = codes " " in
    omega (arith, few, length-append ((a ++ space) ++ a) (10 ∷ []), length-append (a ++ space) a, length-append a space, length-append (a ++ (space ++ a)) (10 ∷ []), length-append a (space ++ a), length-append space a)

router_line-short : (router : ℕ) → length (router_line router) ≤ 39
router_line-short router = line-short (address_text (id_of router)) (address-short (id_of router))

lines-short : (first count : ℕ) → length (flat_map router_line (numbers_from first count)) ≤ 39 * count
lines-short first zero = subst (λ (l : List ℕ). length (flat_map router_line l) ≤ 0) (sym (numbers-none first)) (omega arith)
lines-short first (suc count) =
    subst (λ (l : List ℕ). length (flat_map router_line l) ≤ 39 * suc count) (sym (numbers-cons first count))
    (omega (arith, router_line-short first, lines-short (first + 1) count, length-append (router_line first) (flat_map router_line (numbers_from (first + 1) count))))

pub roster_length : length roster_text ≤ 15657
unfolding roster_text
roster_length = omega (arith, lines-short 0 400, length-append settings_text (flat_map router_line (numbers_from 0 400)))

-- ---- LSAs one after another

pub lsas-more : (number k : ℕ) (routers : List ℕ) (i : ℕ) → i < length routers
    → concat (lsas number k (take (i + 1) routers)) ≡ concat (lsas number k (take i routers)) ++ lsa_octets (lsa_after number k (get_or routers i 0))
lsas-more number k routers i less =
    ap (λ (rs : List ℕ). concat (lsas number k rs)) (take_more routers i 0 less)
    ∙ one_more (take i routers) (get_or routers i 0) where
      one_more : (rs : List ℕ) (r : ℕ) → concat (lsas number k (rs ++ r ∷ [])) ≡ concat (lsas number k rs) ++ lsa_octets (lsa_after number k r)
      one_more [] r = append-nil (lsa_octets (lsa_after number k r))
      one_more (s ∷ rs) r =
          ap (λ (xs : List ℕ). lsa_octets (lsa_after number k s) ++ xs) (one_more rs r)
          ∙ sym (append_assoc (lsa_octets (lsa_after number k s)) (concat (lsas number k rs)) (lsa_octets (lsa_after number k r)))
