-- Views that are put, one after another.
use Rattle.std.proofs.Common.{◌≡◌, ◌≢◌, ◌⊎◌, ℕ, ◌+◌, ◌-◌, ◌^◌, ◌<◌, ◌≤◌, Bool, true, false, List, [], ◌∷◌, ◌++◌, length, map, get_or, Some, refl, sym, ap, subst, ◌∙◌, inl, inr, append-nil, length-append, Global, arith}
use Rattle.std.proofs.Math.ListN.{set}
use Rattle.std.proofs.lemmas.List.{length-set, get_or-set_other, get_or-set_same, get_or_default}
use Rattle.std.specs.Cmp.Lexicographic.{pointwise}
use Rattle.std.proofs.lemmas.Bool.{false≢true, true≢false}
use Rattle.std.specs.List.{AllByRecursion}
use Rattle.std.specs.declared.sync.Arc.{Arc}
use Rattle.mailbox.specs.declared.ends.Sender.{Sender}
use Rattle.mailbox.specs.Boxes.{sent, IsSameSender}
use Rattle.rcp_base.specs.declared.names.Edge.{Edge}
use Rattle.rcp_base.specs.declared.names.Member.{Member}
use Rattle.rcp_model.specs.declared.rcs_mail.ShardMail.{ShardMail}
use Rattle.cost_rows.specs.Views.{ViewOf}
use Rattle.cost_rows.specs.declared.view.View.{View}
use Rattle.viewer_run.specs.Viewing.{HasPutViews, PutToAll, HasShown, view_in, view_of, last_edges}
use Rattle.rcp_model.specs.LinkState.{LinkState}
use Rattle.rcp_model.specs.Edges.{edges_of}
use Rattle.lsdb.specs.Databases.{Holds}
use Rattle.lsdb.proofs.Sorting.{equal_edge}
use Rattle.igp_view.specs.Igp.{IgpOf, CountsChange, IsOfSameRoster}
use Rattle.igp_view.proofs.EdgeLemmas.{equal_edges, edges_equal}

abbrev Post : Type 0
Post = Sender (ShardMail ViewOf)

assoc : {X : Type 0} (a b c : List X) → (a ++ b) ++ c ≡ a ++ (b ++ c)
assoc [] b c = refl
assoc (x ∷ a) b c = ap (λ l. x ∷ l) (assoc a b c)

map_append : {X Y : Type 0} (f : X → Y) (a b : List X) → map f (a ++ b) ≡ map f a ++ map f b
map_append f [] b = refl
map_append f (x ∷ a) b = ap (λ l. f x ∷ l) (map_append f a b)

same_itself : (s : Post) → IsSameSender s s
same_itself s = record { mailbox = refl; number = refl; room = refl }

pub same_then : (a b c : Post) → IsSameSender a b → IsSameSender b c → IsSameSender a c
same_then a b c h g = record { mailbox = g.mailbox ∙ h.mailbox; number = g.number ∙ h.number; room = g.room ∙ h.room }

pub put_nothing : (s : Post) → HasPutViews [] s s
put_nothing s = record { same = same_itself s; more = []; sent_is = sym (append-nil (sent s)); views_are = refl }

pub put_more : (first later : List ViewOf) (a b c : Post) → HasPutViews first a b → HasPutViews later b c → HasPutViews (first ++ later) a c
put_more first later a b c h g = record {
  same = same_then a b c h.same g.same;
  more = h.more ++ g.more;
  sent_is = g.sent_is ∙ ap (λ l. l ++ g.more) h.sent_is ∙ assoc (sent a) h.more g.more;
  views_are = map_append view_in h.more g.more ∙ (λ i. h.views_are i ++ g.views_are i) ∙ sym (map_append Some first later);
}

pub none_to_all : (posts : List Post) → PutToAll [] posts posts
none_to_all posts = record { count = refl; each = λ k d within. put_nothing (get_or posts k d) }

pub more_to_all : (first later : List ViewOf) (a b c : List Post) → PutToAll first a b → PutToAll later b c → PutToAll (first ++ later) a c
more_to_all first later a b c h g = record {
  count = g.count ∙ h.count;
  each = λ k d within. put_more first later (get_or a k d) (get_or b k d) (get_or c k d) (h.each k d within) (g.each k d (subst (λ (n : ℕ). k < n) (sym h.count) within));
}

pub last_more : (edges : List Edge) (first later : List ViewOf) → last_edges edges (first ++ later) ≡ last_edges (last_edges edges first) later
last_more edges [] later = refl
last_more edges (view ∷ first) later = last_more view.edges first later

all_append : {X : Type 0} (P : X → Type 0) (first later : List X) → AllByRecursion P first → AllByRecursion P later → AllByRecursion P (first ++ later)
all_append P [] later h g = g
all_append P (x ∷ first) later h g = (h.0, all_append P first later h.1 g)

pub shown_first : (refused : Bool) (old new : IgpOf) (posts : List Post) → new.edges ≡ old.edges → HasShown refused old new posts posts
shown_first refused old new posts same = record { views = []; put = none_to_all posts; members = tt; last = λ fine. same }

pub shown_then : (refused : Bool) (a b c : IgpOf) (s t u : List Post) → HasShown false a b s t → b.members ≡ a.members → HasShown refused b c t u → HasShown refused a c s u
shown_then refused a b c s t u h same g = record {
  views = h.views ++ g.views;
  put = more_to_all h.views g.views s t u h.put g.put;
  members = all_append (λ view. view.members ≡ a.members) h.views g.views h.members (subst (λ (ms : List Member). AllByRecursion (λ view. view.members ≡ ms) g.views) same g.members);
  last = λ fine. g.last fine ∙ ap (λ edges. last_edges edges g.views) (h.last refl) ∙ sym (last_more a.edges h.views g.views);
}

-- ---- copies of a view

pub is_view : (igp : IgpOf) (value : ViewOf) → ((state : LinkState) → Holds igp.database.state state → value ≡ record { edges = edges_of state igp.links; members = igp.members })
    → value.edges ≡ igp.edges → Holds igp.database.state igp.database.state → value ≡ view_of igp
is_view igp value is edges kept = let whole = is igp.database.state kept in λ i. record { edges = edges i; members = (whole i).members }

pub all_snoc : {X : Type 0} (P : X → Type 0) (xs : List X) (x : X) → AllByRecursion P xs → P x → AllByRecursion P (xs ++ x ∷ [])
all_snoc P [] x all one = (one, tt)
all_snoc P (y ∷ xs) x all one = (all.0, all_snoc P xs x all.1 one)

pub all_front : {X : Type 0} (P : X → Type 0) (xs : List X) (x : X) → AllByRecursion P (xs ++ x ∷ []) → AllByRecursion P xs × P x
all_front P [] x all = (tt, all.0)
all_front P (y ∷ xs) x all = let rest = all_front P xs x all.1 in ((all.0, rest.0), rest.1)

-- the posts before a place have the view, and the others are as before
pub record IsPassing (view : ViewOf) (place : ℕ) (old new : List Post) : Type 0 where
  pub count : length new ≡ length old
  pub done : (k : ℕ) (d : Post) → k < place → HasPutViews (view ∷ []) (get_or old k d) (get_or new k d)
  pub rest : (k : ℕ) (d : Post) → place ≤ k → get_or new k d ≡ get_or old k d

pub passing_none : (view : ViewOf) (posts : List Post) → IsPassing view 0 posts posts
passing_none view posts = record { count = refl; done = λ k d below. absurd (omega arith); rest = λ k d above. refl }

pub passing_next : (view : ViewOf) (place : ℕ) (old now : List Post) (post : Post) → IsPassing view place old now → place < length now
    → ((d : Post) → HasPutViews (view ∷ []) (get_or now place d) post) → IsPassing view (place + 1) old (set now place post)
passing_next view place old now post h within put = record {
  count = length-set now place post ∙ h.count;
  done = λ k d below. at_order k d (order k place below);
  rest = λ k d above.
      let other : k ≢ place = omega (arith, above) in
      get_or-set_other now place k post d other ∙ h.rest k d (omega (arith, above));
} where
  order : (k n : ℕ) → k < n + 1 → (k < n) ⊎ (k ≡ n)
  order k n below = grind arith

  at_order : (k : ℕ) (d : Post) → (k < place) ⊎ (k ≡ place) → HasPutViews (view ∷ []) (get_or old k d) (get_or (set now place post) k d)
  at_order k d (inl below) =
      let other : k ≢ place = omega (arith, below) in
      subst (λ (p : Post). HasPutViews (view ∷ []) (get_or old k d) p) (sym (get_or-set_other now place k post d other)) (h.done k d below)
  at_order k d (inr same) =
      subst (λ (j : ℕ). HasPutViews (view ∷ []) (get_or old j d) (get_or (set now place post) j d)) (sym same)
      (subst (λ (p : Post). HasPutViews (view ∷ []) (get_or old place d) p) (sym (get_or-set_same now place post d within))
      (subst (λ (p : Post). HasPutViews (view ∷ []) p post) (h.rest place d (omega arith)) (put d)))

pub passing_all : (view : ViewOf) (place : ℕ) (old now : List Post) → IsPassing view place old now → length old ≤ place → PutToAll (view ∷ []) old now
passing_all view place old now h all = record { count = h.count; each = λ k d within. h.done k d (omega (arith, within, all)) }

-- ---- changes

pub edges_stay : (old new : IgpOf) → CountsChange old new → new.changes ≡ old.changes → old.changes < 2 ^ 64 - 1 → new.edges ≡ old.edges
edges_stay old new counts same few = at_test (pointwise equal_edge new.edges old.edges) refl where
  at_test : (b : Bool) → pointwise equal_edge new.edges old.edges ≡ b → new.edges ≡ old.edges
  at_test true is = equal_edges new.edges old.edges is
  at_test false is = absurd (let more = counts.other (λ equal. false≢true (sym is ∙ edges_equal new.edges old.edges equal)) in omega (arith, more, same, few))

-- ---- what is shown of a piece

pub shown_refused : (old new : IgpOf) (posts after : List Post) → PutToAll [] posts after → HasShown true old new posts after
shown_refused old new posts after put = record { views = []; put = put; members = tt; last = λ fine. absurd (true≢false fine) }

pub shown_passed : (old new : IgpOf) (posts after : List Post) (before : ℕ) → CountsChange old new → IsOfSameRoster old new → before ≡ old.changes
    → PutToAll (view_of new ∷ []) posts after ⊎ (PutToAll [] posts after × (new.changes ≡ before) × (before < 2 ^ 64 - 1)) → HasShown false old new posts after
shown_passed old new posts after before counts roster is (inl put) = record { views = view_of new ∷ []; put = put; members = (roster.members, tt); last = λ fine. refl }
shown_passed old new posts after before counts roster is (inr none) = record {
  views = [];
  put = none.0;
  members = tt;
  last = λ fine. edges_stay old new counts (none.1 ∙ is) (omega (arith, none.2, is));
}

-- ---- counted lists of copies

-- a copy of a view
abbrev pub Copy : Type 0
Copy = Arc View Global

abbrev pub AreCopies : IgpOf → List Copy → Type 0
AreCopies igp copies = AllByRecursion (λ (copy : Copy). copy.value ≡ view_of igp) copies

pub one_more_copy : (igp : IgpOf) (old new : List Copy) (copy : Copy) (count : ℕ) → new ≡ old ++ copy ∷ [] → (length old ≡ count) × AreCopies igp old → copy.value ≡ view_of igp
    → (length new ≡ count + 1) × AreCopies igp new
one_more_copy igp old new copy count items before is = (
  omega (arith, simp length-append at (ap length items), before.0),
  subst (AreCopies igp) (sym items) (all_snoc (λ (c : Copy). c.value ≡ view_of igp) old copy before.1 is),
)

pub passing_put : (igp : IgpOf) (place : ℕ) (old now : List Post) (copies rest : List Copy) (copy : Copy) (other post : Post)
    → IsPassing (view_of igp) place old now × (place + length copies ≡ length now) × AreCopies igp copies
    → place < length now → copies ≡ rest ++ copy ∷ [] → HasPutViews (copy.value ∷ []) (get_or now place other) post
    → IsPassing (view_of igp) (place + 1) old (set now place post) × (place + 1 + length rest ≡ length (set now place post)) × AreCopies igp rest
passing_put igp place old now copies rest copy other post before within items put =
    let each = all_front (λ (c : Copy). c.value ≡ view_of igp) rest copy (subst (AreCopies igp) items before.2) in
    let given = subst (λ (v : ViewOf). HasPutViews (v ∷ []) (get_or now place other) post) each.1 put in (
      passing_next (view_of igp) place old now post before.0 within
          (λ d. subst (λ (s : Post). HasPutViews (view_of igp ∷ []) s post) (get_or_default now place other d within) given),
      omega (arith, simp length-append at (ap length items), before.1, length-set now place post),
      each.0,
    )

-- ---- one more stream, or time alone

pub still : (igp : IgpOf) → IsOfSameRoster igp igp
still igp = record { area = refl; members = refl; links = refl }

pub shown_as : (refused said : Bool) (a b c : IgpOf) (s t u : List Post) → HasShown false a b s t × IsOfSameRoster a b → refused ≡ said → HasShown refused b c t u → HasShown said a c s u
shown_as refused said a b c s t u h is g = shown_then said a b c s t u h.0 h.1.members (subst (λ (r : Bool). HasShown r b c t u) is g)

pub shown_on : (refused : Bool) (a b c : IgpOf) (s t u : List Post) → HasShown false a b s t × IsOfSameRoster a b → refused ≡ false → HasShown refused b c t u → IsOfSameRoster b c
    → HasShown false a c s u × IsOfSameRoster a c
shown_on refused a b c s t u h is g roster = (
  shown_as refused false a b c s t u h is g,
  record { area = roster.area ∙ h.1.area; members = roster.members ∙ h.1.members; links = roster.links ∙ h.1.links },
)
