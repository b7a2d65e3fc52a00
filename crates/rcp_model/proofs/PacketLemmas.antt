-- What packets bring, one after another.
use Rattle.std.proofs.Common.{◌≡◌, ℕ, ◌+◌, List, [], ◌∷◌, ◌++◌, length, Ok, Err, refl, ap, ◌∙◌, length-append}
use Rattle.std.proofs.lemmas.Grind.{flat_map-append}
use Rattle.rcp_model.specs.LinkState.{RouterLsa, LinkState, installed}
use Rattle.rcp_model.specs.LinkStateUpdates.{ReadLsa, lsas_of_packet, lsas_of_packets, faultless_lsas, left_out, installed_all, after_packets}

faultless_lsas-append : (first others : List ReadLsa) → faultless_lsas (first ++ others) ≡ faultless_lsas first ++ faultless_lsas others
faultless_lsas-append [] others = refl
faultless_lsas-append (Ok lsa ∷ first) others = ap (λ (l : List RouterLsa). lsa ∷ l) (faultless_lsas-append first others)
faultless_lsas-append (Err fault ∷ first) others = faultless_lsas-append first others

left_out-append : (first others : List ReadLsa) → left_out (first ++ others) ≡ left_out first ++ left_out others
left_out-append [] others = refl
left_out-append (Ok lsa ∷ first) others = left_out-append first others
left_out-append (Err fault ∷ first) others = ap (λ (l : List _). fault ∷ l) (left_out-append first others)

pub installed_all-append : (now : ℕ) (first others : List RouterLsa) (state : LinkState) →
    installed_all now (first ++ others) state ≡ installed_all now others (installed_all now first state)
unfolding installed_all
installed_all-append now [] others state = refl
installed_all-append now (lsa ∷ first) others state = installed_all-append now first others (installed now lsa state)

pub after_packets-append : (area now : ℕ) (first others : List (List ℕ)) (state : LinkState) →
    after_packets area now (first ++ others) state ≡ after_packets area now others (after_packets area now first state)
after_packets-append area now first others state =
    ap (λ (l : List ReadLsa). installed_all now (faultless_lsas l) state) (flat_map-append (lsas_of_packet area) first others)
    ∙ ap (λ (l : List RouterLsa). installed_all now l state) (faultless_lsas-append (lsas_of_packets area first) (lsas_of_packets area others))
    ∙ installed_all-append now (faultless_lsas (lsas_of_packets area first)) (faultless_lsas (lsas_of_packets area others)) state

pub left_out-packets : (area : ℕ) (first others : List (List ℕ)) →
    length (left_out (lsas_of_packets area (first ++ others)))
    ≡ length (left_out (lsas_of_packets area first)) + length (left_out (lsas_of_packets area others))
left_out-packets area first others =
    ap (λ (l : List ReadLsa). length (left_out l)) (flat_map-append (lsas_of_packet area) first others)
    ∙ ap length (left_out-append (lsas_of_packets area first) (lsas_of_packets area others))
    ∙ length-append (left_out (lsas_of_packets area first)) (left_out (lsas_of_packets area others))
