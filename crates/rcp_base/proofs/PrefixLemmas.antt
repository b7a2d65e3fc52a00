-- What `masked` keeps, and that a prefix's octets are read again.
use Rattle.std.proofs.Common.{◌≡◌, ℕ, zero, suc, ◌+◌, ◌-◌, ◌*◌, ◌/◌, ◌%◌, ◌^◌, ◌<◌, ◌≤◌, true, false, leb, ltb, eqb, List, ◌∷◌, ◌++◌, length, take, Option, Some, refl, sym, ap, ◌∙◌, arith}
use Rattle.std.specs.Int.{w32, to_be_bytes}
use Rattle.std.proofs.lemmas.Bool.{le-leb, le-ltb, lt-ltb, eq-eqb, ne_eqb}
use Rattle.std.proofs.lemmas.Cmp.{by_ranked, ranked}
use Rattle.std.specs.Ordering.{nat_cmp, is_lt}
use Rattle.std.proofs.lemmas.List.{take_at, length-take, length-append, append_cancel_left}
use Rattle.std.proofs.lemmas.Nat.{div-add-mod', mod-mul-add, mod-pow-add, pow_pos}
use Rattle.std.proofs.lemmas.Option.{some_pair_parts, same_Some}
use Rattle.rcp_base.specs.IpPrefix.{IpPrefix, IsPrefix, masked, octets_for, address_of_octets, prefix_of, prefix_at, prefix_octets, prefix_cmp}
use Rattle.rcp_base.specs.Maps.{is_before}

-- shifting the unused bits out and back in sets them to 0
masked-is : (addr len : ℕ) → addr / 2 ^ (32 - len) * 2 ^ (32 - len) ≡ masked addr len
masked-is addr len = omega (arith, div-add-mod' addr (2 ^ (32 - len)))

pub masked_by_shifts : (addr len : ℕ) → addr < 2 ^ 32 → addr / 2 ^ (32 - len) * 2 ^ (32 - len) % 2 ^ 64 ≡ masked addr len
masked_by_shifts addr len fits = omega (arith, masked-is addr len)

masked-rest : (addr len : ℕ) → masked addr len % 2 ^ (32 - len) ≡ 0
masked-rest addr len = ap (λ (n : ℕ). n % 2 ^ (32 - len)) (omega (arith, masked-is addr len)) ∙ mod-mul-add (addr / 2 ^ (32 - len)) (2 ^ (32 - len)) 0 (pow_pos (32 - len))

pub IsPrefix-masked : (addr len : ℕ) → addr < 2 ^ 32 → len ≤ 32 → IsPrefix (record { addr = masked addr len; len = len })
IsPrefix-masked addr len fits le = record { len = le; addr = omega arith; rest_is_zero = omega (arith, masked-rest addr len) }

-- an address whose octets from the k-th on are 0 has its value in the first k
first_octets : (k a : ℕ) → k ≤ 4 → a < 2 ^ 32 → a % 2 ^ (8 * (4 - k)) ≡ 0 → address_of_octets (take k (to_be_bytes w32 a)) ≡ a
first_octets zero a le fits rest = omega arith
first_octets (suc zero) a le fits rest = omega arith
first_octets (suc (suc zero)) a le fits rest = omega arith
first_octets (suc (suc (suc zero))) a le fits rest = omega arith
first_octets (suc (suc (suc (suc zero)))) a le fits rest = omega arith
first_octets (suc (suc (suc (suc (suc k))))) a le fits rest = absurd (omega arith)

-- the octets that a prefix leaves out are 0
octets_after : (p : IpPrefix) → IsPrefix p → p.addr % 2 ^ (8 * (4 - octets_for p.len)) ≡ 0
octets_after p form =
    let le : p.len ≤ 32 = form.len in
    let out = 8 * (4 - octets_for p.len) in
    let more = 32 - p.len - 8 * (4 - octets_for p.len) in
    let width : 32 - p.len ≡ more + out = omega arith in
    let whole : p.addr % 2 ^ (more + out) ≡ 0 = ap (λ (n : ℕ). p.addr % 2 ^ n) (sym width) ∙ omega (arith, form.rest_is_zero) in
    omega (arith, whole, mod-pow-add p.addr more out)

pub octets-address : (p : IpPrefix) → IsPrefix p → address_of_octets (take (octets_for p.len) (to_be_bytes w32 p.addr)) ≡ p.addr
octets-address p form = first_octets (octets_for p.len) p.addr (omega (arith, form.len)) form.addr (octets_after p form)

pub prefix_at-cons : (len : ℕ) (rest : List ℕ) → len ≤ 32 → octets_for len ≤ length rest → prefix_at (len ∷ rest) ≡ Some (record { addr = masked (address_of_octets (take (octets_for len) rest)) len; len = len }, 1 + octets_for len)
prefix_at-cons len rest le long =
    let short : leb len 32 ≡ true = le-leb _ _ le in
    let there : leb (octets_for len) (length rest) ≡ true = le-leb _ _ long in
    rw (short, there) refl

-- octets that hold so many bits are the address after the length, whatever follows them
taken : (len : ℕ) (octets more : List ℕ) → len ≤ 32 → length octets ≡ octets_for len → prefix_at (len ∷ octets ++ more) ≡ Some (record { addr = masked (address_of_octets octets) len; len = len }, 1 + octets_for len)
taken len octets more le count =
    prefix_at-cons len (octets ++ more) le (omega (arith, length-append octets more))
    ∙ ap (λ (front : List ℕ). Some (record { addr = masked (address_of_octets front) len; len = len }, 1 + octets_for len)) (take_at octets more (octets_for len) count)

abbrev found : IpPrefix → ℕ → Option (IpPrefix × ℕ)
found p n = Some (p, n)

-- a prefix that is read, by its parts
same_found : (p : IpPrefix) (addr m n : ℕ) → addr ≡ p.addr → m ≡ n → found (record { addr = addr; len = p.len }) m ≡ found p n
same_found p addr m n e f = rw (e, f) refl

pub read_again : (p : IpPrefix) (more : List ℕ) → IsPrefix p → prefix_at (prefix_octets p ++ more) ≡ Some (p, length (prefix_octets p))
read_again p more form =
    let octets = take (octets_for p.len) (to_be_bytes w32 p.addr) in
    let le : p.len ≤ 32 = form.len in
    let count : length octets ≡ octets_for p.len = omega (arith, length-take (octets_for p.len) (to_be_bytes w32 p.addr)) in
    let address : masked (address_of_octets octets) p.len ≡ p.addr = ap (λ (a : ℕ). masked a p.len) (octets-address p form) ∙ form.rest_is_zero in
    let all : 1 + octets_for p.len ≡ length (prefix_octets p) = omega (arith, count) in
    taken p.len octets more le count ∙ same_found p _ _ _ address all

same_front : (p q : IpPrefix) (x y : List ℕ) → IsPrefix p → IsPrefix q → prefix_octets p ++ x ≡ prefix_octets q ++ y → p ≡ q
same_front p q x y first second e =
    (some_pair_parts p q (length (prefix_octets p)) (length (prefix_octets q)) (sym (read_again p x first) ∙ ap prefix_at e ∙ read_again q y second)).0

pub octets_tell : (p q : IpPrefix) (x y : List ℕ) → IsPrefix p → IsPrefix q → prefix_octets p ++ x ≡ prefix_octets q ++ y → (p ≡ q) × (x ≡ y)
octets_tell p q x y first second e =
    let same = same_front p q x y first second e in
    (same, append_cancel_left (prefix_octets p) x y (e ∙ ap (λ (r : IpPrefix). prefix_octets r ++ y) (sym same)))

-- what reading from the front gives, as the code goes
pub read_front : (bytes rest : List ℕ) (len count addr : ℕ) (p : IpPrefix) → bytes ≡ len ∷ rest → len ≤ 32 → count ≡ octets_for len → count ≤ length rest
    → addr ≡ address_of_octets (take count rest) → Some p ≡ prefix_of addr len → Some (p, 1 + count) ≡ prefix_at bytes
read_front bytes rest len count addr p whole le count-is long addr-is made =
    let short : leb len 32 ≡ true = le-leb _ _ le in
    let p-is : p ≡ record { addr = masked addr len; len = len } = same_Some p (record { addr = masked addr len; len = len }) (made ∙ rw short refl) in
    let front : take count rest ≡ take (octets_for len) rest = ap (λ (n : ℕ). take n rest) count-is in
    ap (λ (q : IpPrefix). Some (q, 1 + count)) p-is
    ∙ ap (λ (n : ℕ). Some (record { addr = masked addr len; len = len }, 1 + n)) count-is
    ∙ ap (λ (a : ℕ). Some (record { addr = masked a len; len = len }, 1 + octets_for len)) (addr-is ∙ ap address_of_octets front)
    ∙ sym (prefix_at-cons len rest le (omega arith))
    ∙ ap prefix_at (sym whole)

-- ---- the order

less-cmp : (m n : ℕ) → ltb m n ≡ is_lt (nat_cmp m n)
less-cmp m n = by_ranked (m < n) (m ≡ n) (n < m) (nat_cmp m n) (ranked m n (nat_cmp m n) refl)
    (λ is lt. lt-ltb m n lt ∙ ap is_lt (sym is)) (λ is same. le-ltb m n (omega (arith, same)) ∙ ap is_lt (sym is)) (λ is gt. le-ltb m n (omega (arith, gt)) ∙ ap is_lt (sym is))

pub before-cmp : (p q : IpPrefix) → is_before p q ≡ is_lt (prefix_cmp p q)
before-cmp p q = by_ranked (p.addr < q.addr) (p.addr ≡ q.addr) (q.addr < p.addr) (nat_cmp p.addr q.addr) (ranked p.addr q.addr (nat_cmp p.addr q.addr) refl)
    (λ is lt. let below : ltb p.addr q.addr ≡ true = lt-ltb _ _ lt in rw (is, below) refl)
    (λ is same.
    let below : ltb p.addr q.addr ≡ false = le-ltb _ _ (omega (arith, same)) in
    let equal : eqb p.addr q.addr ≡ true = eq-eqb _ _ same in
    rw (is, below, equal) (less-cmp p.len q.len))
    (λ is gt.
    let below : ltb p.addr q.addr ≡ false = le-ltb _ _ (omega (arith, gt)) in
    let equal : eqb p.addr q.addr ≡ false = ne_eqb _ _ (λ e. omega (arith, gt, e)) in
    rw (is, below, equal) refl)
