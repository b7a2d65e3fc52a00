-- The bodies of the records are octets, and few enough.
use Rattle.std.proofs.Common.{◌≡◌, ℕ, zero, suc, ◌+◌, ◌-◌, ◌*◌, ◌/◌, ◌%◌, ◌^◌, ◌<◌, ◌≤◌, Bool, true, false, cond, eqb, List, [], ◌∷◌, ◌++◌, length, map, take, replicate, refl, sym, ap, subst, ◌∙◌, arith, rules, codes, length-append}
use Rattle.std.specs.List.{All, AllByRecursion, flat_map, concat}
use Rattle.std.specs.Fmt.{decimal}
use Rattle.std.specs.Int.{w16, w32, to_be_bytes, cast_unsigned}
use Rattle.std.proofs.lemmas.Fmt.{decimal_by_steps}
use Rattle.std.proofs.lemmas.List.Elements.{All-nil, All-cons, All-append, All-take, All-from_recursion}
use Rattle.rcp_base.specs.Octets.{AreOctets}
use Rattle.rcp_base.specs.Text.{address_text}
use Rattle.rcp_base.specs.IpPrefix.{IpPrefix, prefix_octets, octets_for}
use Rattle.rcp_model.specs.LinkState.{RouterLink, RouterLsa}
use Rattle.rcp_model.specs.Messages.{message_octets}
use Rattle.rcp_model.specs.Updates.{update_octets}
use Rattle.lsa_reader.specs.Writing.{link_octets, octets_with, header_octets}
use Rattle.bgp_msg.proofs.Lengths.{length-update_octets}
use Rattle.feed_make.specs.Numbers.{numbers_from}
use Rattle.feed_make.specs.Networks.{id_of, lsa_after, content_of, point_to_point, Link, links_after}
use Rattle.feed_make.specs.Checksums.{lsa_octets}
use Rattle.feed_make.specs.Routes.{attributes, announcement, prefixes, group_prefix}
use Rattle.feed_make.specs.Feeds.{line, router_line, settings_text, roster_text, open_message, packet_header, packet_octets, lsas, slice_body}
use Rattle.feed_make.proofs.Ranges.{numbers-cons, numbers-none}
use Rattle.feed_make.proofs.Checksums.{closed_spells}

abbrev Octet : ℕ → Type 0
Octet o = o < 256

joined : (xs ys : List ℕ) → AreOctets xs → AreOctets ys → AreOctets (xs ++ ys)
joined xs ys first second = All-append Octet xs ys first second

two : (n : ℕ) → AreOctets (to_be_bytes w16 n)
two n = All-from_recursion Octet (to_be_bytes w16 n) (omega arith)

four : (n : ℕ) → AreOctets (to_be_bytes w32 n)
four n = All-from_recursion Octet (to_be_bytes w32 n) (omega arith)

digits : (n : ℕ) → n < 2 ^ 64 → AreOctets (decimal n)
digits n fits =
    decimal_by_steps (λ _ ds. AreOctets ds)
    (λ n less. All-from_recursion Octet ((48 + n) ∷ []) (omega arith))
    (λ n ds more each. joined ds ((48 + n % 10) ∷ []) each (All-from_recursion Octet ((48 + n % 10) ∷ []) (omega arith)))
    n fits

dotted : (a b c d : List ℕ) → AreOctets a → AreOctets b → AreOctets c → AreOctets d → AreOctets (a ++ 46 ∷ (b ++ 46 ∷ (c ++ 46 ∷ d)))
dotted a b c d first second third fourth =
    joined a (46 ∷ (b ++ 46 ∷ (c ++ 46 ∷ d))) first (All-cons Octet 46 (b ++ 46 ∷ (c ++ 46 ∷ d)) (omega arith)
    (joined b (46 ∷ (c ++ 46 ∷ d)) second (All-cons Octet 46 (c ++ 46 ∷ d) (omega arith)
    (joined c (46 ∷ d) third (All-cons Octet 46 d (omega arith) fourth)))))

address : (n : ℕ) → AreOctets (address_text n)
address n =
    dotted (decimal (n / 16777216 % 256)) (decimal (n / 65536 % 256)) (decimal (n / 256 % 256)) (decimal (n % 256))
    (digits (n / 16777216 % 256) (omega arith)) (digits (n / 65536 % 256) (omega arith)) (digits (n / 256 % 256) (omega arith)) (digits (n % 256) (omega arith))

-- ---- the roster's text

router_line-octets : (router : ℕ) → AreOctets (router_line router)
router_line-octets router =
    let a = address_text (id_of router) in
    let word = codes "router " in
    let space = codes " " in
    joined (word ++ a ++ space ++ a) (10 ∷ [])
    (joined (word ++ a ++ space) a
    (joined (word ++ a) space
    (joined word a (All-from_recursion Octet (codes "router ") (omega arith)) (address (id_of router)))
    (All-from_recursion Octet (codes " ") (omega arith)))
    (address (id_of router)))
    (All-from_recursion Octet (10 ∷ []) (omega arith))

lines-octets : (first count : ℕ) → AreOctets (flat_map router_line (numbers_from first count))
lines-octets first zero = subst (λ (l : List ℕ). AreOctets (flat_map router_line l)) (sym (numbers-none first)) (All-nil Octet)
lines-octets first (suc count) =
    subst (λ (l : List ℕ). AreOctets (flat_map router_line l)) (sym (numbers-cons first count))
    (joined (router_line first) (flat_map router_line (numbers_from (first + 1) count)) (router_line-octets first) (lines-octets (first + 1) count))

pub roster-octets : AreOctets roster_text
unfolding roster_text
roster-octets = joined settings_text (flat_map router_line (numbers_from 0 400)) (All-from_recursion Octet settings_text (search rules)) (lines-octets 0 400)

-- ---- messages

marker-octets : AreOctets (replicate 16 255)
marker-octets = All-from_recursion Octet (replicate 16 255) (omega arith)

message : (kind : ℕ) (body : List ℕ) → kind < 256 → AreOctets body → AreOctets (message_octets kind body)
message kind body small octets =
    joined (replicate 16 255) (to_be_bytes w16 (19 + length body) ++ kind ∷ body) marker-octets
    (joined (to_be_bytes w16 (19 + length body)) (kind ∷ body) (two (19 + length body)) (All-cons Octet kind body small octets))

pub open-octets : (router : ℕ) → AreOctets (open_message router)
open-octets router =
    let tail = 8 ∷ 2 ∷ 6 ∷ 1 ∷ 4 ∷ 0 ∷ 1 ∷ 0 ∷ 1 ∷ [] in
    message 1 (4 ∷ to_be_bytes w16 65000 ++ to_be_bytes w16 90 ++ to_be_bytes w32 (id_of router) ++ tail) (omega arith)
    (All-cons Octet 4 (to_be_bytes w16 65000 ++ to_be_bytes w16 90 ++ to_be_bytes w32 (id_of router) ++ tail) (omega arith)
    (joined (to_be_bytes w16 65000) (to_be_bytes w16 90 ++ to_be_bytes w32 (id_of router) ++ tail) (two 65000)
    (joined (to_be_bytes w16 90) (to_be_bytes w32 (id_of router) ++ tail) (two 90)
    (joined (to_be_bytes w32 (id_of router)) tail (four (id_of router)) (All-from_recursion Octet tail (omega arith))))))

pub keepalive-octets : AreOctets (message_octets 4 [])
keepalive-octets = message 4 [] (omega arith) (All-nil Octet)

prefix-octets : (p : IpPrefix) → p.len < 256 → AreOctets (prefix_octets p)
prefix-octets p small = All-cons Octet p.len (take (octets_for p.len) (to_be_bytes w32 p.addr)) small (All-take Octet (octets_for p.len) (to_be_bytes w32 p.addr) (four p.addr))

prefixes-octets : (ps : List IpPrefix) → AllByRecursion (λ p. p.len < 256) ps → AreOctets (flat_map prefix_octets ps)
prefixes-octets [] each = All-nil Octet
prefixes-octets (p ∷ ps) each = joined (prefix_octets p) (flat_map prefix_octets ps) (prefix-octets p each.0) (prefixes-octets ps each.1)

update-octets : (attrs : List ℕ) (ps : List IpPrefix) → AreOctets attrs → AllByRecursion (λ p. p.len < 256) ps → AreOctets (update_octets [] attrs ps)
unfolding update_octets
update-octets attrs ps octets each =
    message 2 (to_be_bytes w16 0 ++ to_be_bytes w16 (length attrs) ++ attrs ++ flat_map prefix_octets ps) (omega arith)
    (joined (to_be_bytes w16 0) (to_be_bytes w16 (length attrs) ++ attrs ++ flat_map prefix_octets ps) (two 0)
    (joined (to_be_bytes w16 (length attrs)) (attrs ++ flat_map prefix_octets ps) (two (length attrs))
    (joined attrs (flat_map prefix_octets ps) octets (prefixes-octets ps each))))

group_prefixes-small : (g first count : ℕ) → AllByRecursion (λ (p : IpPrefix). p.len < 256) (map (group_prefix g) (numbers_from first count))
group_prefixes-small g first zero = subst (λ (l : List ℕ). AllByRecursion (λ (p : IpPrefix). p.len < 256) (map (group_prefix g) l)) (sym (numbers-none first)) tt
group_prefixes-small g first (suc count) =
    subst (λ (l : List ℕ). AllByRecursion (λ (p : IpPrefix). p.len < 256) (map (group_prefix g) l)) (sym (numbers-cons first count)) (omega arith, group_prefixes-small g (first + 1) count)

attributes-octets : (number place g router : ℕ) → AreOctets (attributes number place g router)
attributes-octets number place g router =
    All-from_recursion Octet (attributes number place g router) (omega arith)

pub announcement-octets : (number place g router : ℕ) → AreOctets (announcement number place g router)
announcement-octets number place g router =
    update-octets (attributes number place g router) (prefixes g) (attributes-octets number place g router) (group_prefixes-small g 0 50)

-- ---- packets

link-octets : (link : RouterLink) → link.kind < 256 → AreOctets (link_octets link)
link-octets link small =
    joined (to_be_bytes w32 link.id) ((0 ∷ 0 ∷ 0 ∷ 0 ∷ link.kind ∷ 0 ∷ []) ++ to_be_bytes w16 link.metric) (four link.id)
    (joined (0 ∷ 0 ∷ 0 ∷ 0 ∷ link.kind ∷ 0 ∷ []) (to_be_bytes w16 link.metric) (All-from_recursion Octet (0 ∷ 0 ∷ 0 ∷ 0 ∷ link.kind ∷ 0 ∷ []) (omega arith)) (two link.metric))

links-octets : (links : List RouterLink) → AllByRecursion (λ (link : RouterLink). link.kind < 256) links → AreOctets (flat_map link_octets links)
links-octets [] each = All-nil Octet
links-octets (link ∷ links) each = joined (link_octets link) (flat_map link_octets links) (link-octets link each.0) (links-octets links each.1)

octets_with-octets : (high low : ℕ) (lsa : RouterLsa) → high < 256 → low < 256 → AllByRecursion (λ (link : RouterLink). link.kind < 256) lsa.content → AreOctets (octets_with high low lsa)
octets_with-octets high low lsa h l each =
    joined (header_octets high low lsa) (flat_map link_octets lsa.content) (All-from_recursion Octet (header_octets high low lsa) (omega arith)) (links-octets lsa.content each)

content-small : (router : ℕ) (links : List Link) → AllByRecursion (λ (link : RouterLink). link.kind < 256) (content_of router links)
content-small router [] = tt
content-small router (link ∷ links) = at_test (eqb link.from router) (eqb link.to router) (content-small router links) where
  at_test : (a b : Bool) → AllByRecursion (λ (link : RouterLink). link.kind < 256) (content_of router links)
      → AllByRecursion (λ (link : RouterLink). link.kind < 256) (cond a (point_to_point link.to link.cost ∷ content_of router links) (cond b (point_to_point link.from link.cost ∷ content_of router links) (content_of router links)))
  at_test true b each = (omega arith, each)
  at_test false true each = (omega arith, each)
  at_test false false each = each

lsa-octets : (number k router : ℕ) → AreOctets (lsa_octets (lsa_after number k router))
lsa-octets number k router =
    let lsa = lsa_after number k router in
    let spells = closed_spells lsa in
    subst AreOctets (sym spells.spelled) (octets_with-octets spells.high spells.low lsa spells.high_range.1 spells.low_range.1 (content-small router (links_after number k)))

lsas-octets : (number k : ℕ) (routers : List ℕ) → AreOctets (concat (lsas number k routers))
lsas-octets number k [] = All-nil Octet
lsas-octets number k (router ∷ routers) =
    joined (lsa_octets (lsa_after number k router)) (concat (lsas number k routers)) (lsa-octets number k router) (lsas-octets number k routers)

pub packet-octets : (number k : ℕ) (routers : List ℕ) → AreOctets (packet_octets (lsas number k routers))
packet-octets number k routers =
    let all = lsas number k routers in
    joined (packet_header (length (concat all)) (length all)) (concat all) (All-from_recursion Octet (packet_header (length (concat all)) (length all)) (omega arith)) (lsas-octets number k routers)

pub packet-short : (number k : ℕ) (routers : List ℕ) → length (concat (lsas number k routers)) < 2 ^ 16 - 28 → length (packet_octets (lsas number k routers)) ≤ 65536
packet-short number k routers few =
    let all = lsas number k routers in
    omega (arith, length-append (packet_header (length (concat all)) (length all)) (concat all))

pub slice-octets : (shard : ℕ) → AreOctets (slice_body shard)
slice-octets shard = joined (to_be_bytes w16 shard) (to_be_bytes w32 500) (two shard) (four 500)
