-- Links by their places in the report.
use Rattle.std.proofs.Common.{◌≡◌, ◌≢◌, ◌⊎◌, ℕ, suc, ◌+◌, ◌<◌, false, true, List, [], ◌∷◌, ◌++◌, length, get_or, set, replicate, Some, refl, sym, ap, ◌∙◌, subst, arith, append_assoc, append-nil, inl, inr, Option, None, IfSome, All}
use Rattle.std.specs.Prelude.{◌==◌, cond}
use Rattle.std.specs.List.{flat_map}
use Rattle.std.proofs.lemmas.Bool.{eq-eqb, ne_eqb}
use Rattle.std.proofs.lemmas.List.{get_or-set_same, get_or-set_other, length-set, length-append, get_or-replicate, length-replicate}
use Rattle.std.proofs.lemmas.Grind.{flat_map-append}
use Rattle.std.proofs.lemmas.List.Elements.{All-append}
use Rattle.std.proofs.lemmas.List.Sums.{sum_by-append}
use Rattle.rcp_base.specs.declared.names.Member.{Member}
use Rattle.outside.specs.Told.{followed}
use Rattle.session_report.specs.Reports.{place_of}
use Rattle.daemon_jobs.specs.declared.session.Served.{Served}
use Rattle.rcpd_run.specs.Daemons.{link_at, links_at, links_from, links_of}
use Rattle.rcpd_run.specs.Ends.{IsRanked, session_in, sessions_in, count_sessions}
use Rattle.daemon_jobs.specs.Jobs.{is_session}
use Rattle.daemon_jobs.specs.declared.jobs.Job.{Job}

decided : (m n : ℕ) → (m ≡ n) ⊎ (m ≢ n)
decided m n = grind arith

-- ---- one more session

next_links : {L : Type 0} (routers place : ℕ) (done : List (Served L)) (served : Served L)
    → links_at routers place (done ++ served ∷ []) ≡ links_at routers place done ++ link_at routers place served
next_links routers place done served =
    flat_map-append (link_at routers place) done (served ∷ []) ∙ ap (λ (l : List _). links_at routers place done ++ l) (append-nil (link_at routers place served))

link_here : {L : Type 0} (routers place : ℕ) (served : Served L) → place_of routers served.end.slot ≡ place → link_at routers place served ≡ served.link ∷ []
link_here routers place served is = let test : (place_of routers served.end.slot == place) ≡ true = eq-eqb _ _ is in rw test refl

no_link_here : {L : Type 0} (routers place : ℕ) (served : Served L) → place_of routers served.end.slot ≢ place → link_at routers place served ≡ []
no_link_here routers place served other = let test : (place_of routers served.end.slot == place) ≡ false = ne_eqb _ _ other in rw test refl

pub ranked_put : {L : Type 0} (routers place : ℕ) (done : List (Served L)) (served : Served L) (rows after : List (List L))
    → place ≡ place_of routers served.end.slot → place < routers + 1
    → IsRanked routers rows done → after ≡ set rows place (get_or rows place [] ++ served.link ∷ [])
    → IsRanked routers after (done ++ served ∷ [])
ranked_put {L} routers place done served rows after at fits ranked put = record {
  count = ap length put ∙ length-set rows place _ ∙ ranked.count;
  each = λ p below. elim (decided p place) [
    | inl same ↦
        let here : get_or after place [] ≡ links_at routers place (done ++ served ∷ []) =
        ap (λ (r : List (List L)). get_or r place []) put ∙ get_or-set_same rows place _ [] (subst (λ (n : ℕ). place < n) (sym ranked.count) fits)
        ∙ ap (λ (l : List L). l ++ served.link ∷ []) (ranked.each place fits)
        ∙ sym (next_links routers place done served
        ∙ ap (λ (l : List L). links_at routers place done ++ l) (link_here routers place served (sym at))) in
        subst (λ (n : ℕ). get_or after n [] ≡ links_at routers n (done ++ served ∷ [])) (sym same) here
    | inr other ↦
        ap (λ (r : List (List L)). get_or r p []) put ∙ get_or-set_other rows place p _ [] other
        ∙ ranked.each p below
        ∙ sym (next_links routers p done served
        ∙ ap (λ (l : List L). links_at routers p done ++ l) (no_link_here routers p served (λ e. other (sym (at ∙ e))))
        ∙ append-nil (links_at routers p done))
  ];
}

pub ranked_none : {L : Type 0} (routers : ℕ) (rows : List (List L)) → rows ≡ replicate (routers + 1) [] → IsRanked routers rows []
ranked_none {L} routers rows are = record {
  count = ap length are ∙ length-replicate (routers + 1) [];
  each = λ place below. ap (λ (r : List (List L)). get_or r place []) are ∙ get_or-replicate (routers + 1) place [] [] below;
}

pub place_fits : (routers : ℕ) (slot : Option ℕ) → place_of routers slot < routers + 1
place_fits routers None = omega arith
place_fits routers (Some slot) = omega arith

-- ---- all rows

rows_from : {L : Type 0} (routers place : ℕ) (members : List Member) (rows : List (List L)) (sessions : List (Served L)) → length rows ≡ length members + 1
    → ((k : ℕ) → k < length rows → get_or rows k [] ≡ links_at routers (place + k) sessions) → flat_map (λ (row : List L). row) rows ≡ links_from routers place members sessions
rows_from routers place members [] sessions count each = absurd (omega (arith, count))
rows_from routers place [] (row ∷ []) sessions count each = append-nil row ∙ each 0 (omega arith) ∙ ap (λ (n : ℕ). links_at routers n sessions) (omega arith)
rows_from routers place [] (row ∷ other ∷ rows) sessions count each = absurd (omega (arith, count))
rows_from {L} routers place (member ∷ members) (row ∷ rows) sessions count each =
    ap (λ (l : List L). l ++ flat_map (λ (row : List L). row) rows) (each 0 (omega arith) ∙ ap (λ (n : ℕ). links_at routers n sessions) (omega arith))
    ∙ ap (λ (l : List L). links_at routers place sessions ++ l)
    (rows_from routers (suc place) members rows sessions (omega (arith, count))
    (λ k within. each (suc k) (omega (arith, within)) ∙ ap (λ (n : ℕ). links_at routers n sessions) (omega arith)))

pub ranked_links : {L : Type 0} (members : List Member) (rows : List (List L)) (sessions : List (Served L)) → IsRanked (length members) rows sessions
    → flat_map (λ (row : List L). row) rows ≡ links_of members sessions
ranked_links members rows sessions ranked =
    rows_from (length members) 0 members rows sessions ranked.count (λ k within. ranked.each k (subst (λ (n : ℕ). k < n) ranked.count within) ∙ ap (λ (n : ℕ). links_at (length members) n sessions) (omega arith))

-- ---- one job more

next_count : {L : Type 0} (done : List (Job L)) (job : Job L) → count_sessions (done ++ job ∷ []) ≡ count_sessions done + count_sessions (job ∷ [])
next_count done job = sum_by-append (λ (j : Job _). cond (is_session j) 1 0) done (job ∷ [])

-- ---- the links of a row more

pub followed_on : {A : Type 0} (old middle new : Option (List A)) (first more : List A) → IfSome middle (λ l. Some l ≡ followed old first) → IfSome new (λ l. Some l ≡ followed middle more)
    → IfSome new (λ l. Some l ≡ followed old (first ++ more))
followed_on old middle None first more before after = tt
followed_on old None (Some l) first more before after = absurd cc
followed_on None (Some m) (Some l) first more before after = absurd cc
followed_on (Some o) (Some m) (Some l) first more before after =
    let start : m ≡ o ++ first = cc in
    let end : l ≡ m ++ more = cc in
    ap Some (end ∙ ap (λ xs. xs ++ more) start ∙ append_assoc o first more)

pub followed_none : {A : Type 0} (links : Option (List A)) → IfSome links (λ l. Some l ≡ followed links [])
followed_none None = tt
followed_none (Some l) = ap Some (sym (append-nil l))

-- ---- a session more

pub served_on : {L : Type 0} (done : List (Job L)) (job : Job L) (before after more : List (Served L)) → before ≡ sessions_in done → after ≡ before ++ more → more ≡ sessions_in (job ∷ [])
    → after ≡ sessions_in (done ++ job ∷ [])
served_on done job before after more so_far put is =
    put ∙ ap (λ (l : List _). l ++ more) so_far ∙ ap (λ (l : List _). sessions_in done ++ l) is ∙ sym (flat_map-append session_in done (job ∷ []))

pub counted_on : {L : Type 0} (done : List (Job L)) (job : Job L) (before after more : List (Served L)) → length before ≡ count_sessions done → after ≡ before ++ more
    → length more ≡ count_sessions (job ∷ []) → length after ≡ count_sessions (done ++ job ∷ [])
counted_on done job before after more so_far put is = omega (arith, ap length put, length-append before more, so_far, is, next_count done job)

pub all_with : {A : Type 0} (P : A → Type 0) (before after : List A) (more : List A) → All P before → All P more → after ≡ before ++ more → All P after
all_with P before after more so_far new put = subst (All P) (sym put) (All-append P before more so_far new)
