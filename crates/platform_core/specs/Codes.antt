-- How the parts of a platform are stored, as a value of a type needs.
use Rattle.std.specs.Prelude.{◌≡◌, ℕ, ℤ, List, ◌⊎◌, refl}
use Rattle.std.specs.Coded.{Coded, code_by, coded×, coded⊎, coded_ℕ, coded_ℤ, coded_list}
use Rattle.std.proofs.Common.{inl, inr}
use Rattle.rcp_model.specs.LinkState.{LsaHeader, RouterLink, RouterLsa, Kept, LinkState}
use Rattle.rcp_model.specs.Sessions.{Peering, Phase, OpenSent, Claiming, OpenConfirm, Established, Closed, SessionState}
use Rattle.feed_meaning.specs.LinkStream.{LinkStream, Reading, Lost}
use Rattle.feed_meaning.specs.Platform.{Connections}

-- ---- sessions

abbrev pub peering_code : Coded Peering
peering_code = code_by (ℕ × (ℕ × (ℕ × ℕ))) (coded× coded_ℕ (coded× coded_ℕ (coded× coded_ℕ coded_ℕ)))
    (λ p. (p.slot, (p.negotiated.hold, (p.read, p.sent))))
    (λ d. record { slot = d.0; negotiated = record { hold = d.1.0 }; read = d.1.1.0; sent = d.1.1.1 })
    (λ _. refl)

-- a phase as a case: opened since a time; claiming, since a time, a slot with a hold time; one of the two with a peering; or closed
abbrev pub PhaseCase : Type 0
PhaseCase = ℕ ⊎ ((ℕ × (ℕ × ℕ)) ⊎ (Peering ⊎ (Peering ⊎ ℕ)))

abbrev pub case_of : Phase → PhaseCase
case_of (OpenSent since) = inl since
case_of (Claiming since slot terms) = inr (inl (since, (slot, terms.hold)))
case_of (OpenConfirm peering) = inr (inr (inl peering))
case_of (Established peering) = inr (inr (inr (inl peering)))
case_of Closed = inr (inr (inr (inr 0)))

abbrev pub phase_in : PhaseCase → Phase
phase_in (inl since) = OpenSent since
phase_in (inr (inl claim)) = Claiming claim.0 claim.1.0 (record { hold = claim.1.1 })
phase_in (inr (inr (inl peering))) = OpenConfirm peering
phase_in (inr (inr (inr (inl peering)))) = Established peering
phase_in (inr (inr (inr (inr n)))) = Closed

pub phase_case : (phase : Phase) → phase_in (case_of phase) ≡ phase
phase_case (OpenSent since) = refl
phase_case (Claiming since slot terms) = refl
phase_case (OpenConfirm peering) = refl
phase_case (Established peering) = refl
phase_case Closed = refl

abbrev pub phase_code : Coded Phase
phase_code = code_by PhaseCase (coded⊎ coded_ℕ (coded⊎ (coded× coded_ℕ (coded× coded_ℕ coded_ℕ)) (coded⊎ peering_code (coded⊎ peering_code coded_ℕ))))
    case_of phase_in phase_case

abbrev pub session_code : Coded SessionState
session_code = code_by (Phase × (List ℕ × ℕ)) (coded× phase_code (coded× (coded_list coded_ℕ) coded_ℕ))
    (λ s. (s.phase, (s.kept, s.latest)))
    (λ d. record { phase = d.0; kept = d.1.0; latest = d.1.1 })
    (λ _. refl)

abbrev pub sessions_code : Coded Connections
sessions_code = coded_list (coded× coded_ℕ session_code)

-- ---- the link state

abbrev pub stream_case : LinkStream → (List ℕ × ℕ) ⊎ ℕ
stream_case (Reading held place) = inl (held, place)
stream_case Lost = inr 0

abbrev pub stream_in : (List ℕ × ℕ) ⊎ ℕ → LinkStream
stream_in (inl reading) = Reading reading.0 reading.1
stream_in (inr n) = Lost

pub stream_same : (stream : LinkStream) → stream_in (stream_case stream) ≡ stream
stream_same (Reading held place) = refl
stream_same Lost = refl

abbrev pub stream_code : Coded LinkStream
stream_code = code_by ((List ℕ × ℕ) ⊎ ℕ) (coded⊎ (coded× (coded_list coded_ℕ) coded_ℕ) coded_ℕ) stream_case stream_in stream_same

abbrev pub link_code : Coded RouterLink
link_code = code_by (ℕ × (ℕ × ℕ)) (coded× coded_ℕ (coded× coded_ℕ coded_ℕ))
    (λ l. (l.id, (l.kind, l.metric))) (λ d. record { id = d.0; kind = d.1.0; metric = d.1.1 }) (λ _. refl)

abbrev pub header_code : Coded LsaHeader
header_code = code_by (ℤ × (ℕ × ℕ)) (coded× coded_ℤ (coded× coded_ℕ coded_ℕ))
    (λ h. (h.sequence, (h.checksum, h.age))) (λ d. record { sequence = d.0; checksum = d.1.0; age = d.1.1 }) (λ _. refl)

abbrev pub lsa_code : Coded RouterLsa
lsa_code = code_by (ℕ × (LsaHeader × List RouterLink)) (coded× coded_ℕ (coded× header_code (coded_list link_code)))
    (λ l. (l.key, (l.header, l.content))) (λ d. record { key = d.0; header = d.1.0; content = d.1.1 }) (λ _. refl)

abbrev pub instance_code : Coded Kept
instance_code = code_by (RouterLsa × ℕ) (coded× lsa_code coded_ℕ) (λ k. (k.lsa, k.since)) (λ d. record { lsa = d.0; since = d.1 }) (λ _. refl)

abbrev pub link_state_code : Coded LinkState
link_state_code = code_by (List (ℕ × Kept)) (coded_list (coded× coded_ℕ instance_code)) (λ s. s.routers) (λ l. record { routers = l }) (λ _. refl)
