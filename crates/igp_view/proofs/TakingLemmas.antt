-- Packets that a piece completes, taken one after another.
use Rattle.std.proofs.Common.{◌≡◌, ◌≢◌, ℕ, ◌+◌, ◌-◌, ◌^◌, ◌≤◌, ◌<◌, List, [], ◌∷◌, ◌++◌, length, min, take, drop, Option, Some, None, is_some, refl, sym, ap, ap₂, subst, ◌∙◌, arith, length-append}
use Rattle.std.specs.List.{concat}
use Rattle.std.proofs.lemmas.Grind.{flat_map-append}
use Rattle.std.proofs.lemmas.List.{append_assoc, append-nil, take-append-drop}
use Rattle.rcp_base.specs.OspfPackets.{Front, whole, part, lost, front_of, packets_in, rest_in}
use Rattle.rcp_model.specs.LinkStateUpdates.{lsas_of_packet, lsas_of_packets}
use Rattle.lsdb.specs.Databases.{Database}
use Rattle.ospf_packet.specs.Framing.{Framing, capped_place, after_next}
use Rattle.ospf_packet.proofs.Reading.{front_of-append_lost}
use Rattle.igp_view.specs.declared.igp.IgpGot.{IgpGot}
use Rattle.igp_view.specs.Streams.{framing_after, while_framed, place_if_lost, stream_after, lost_by, lsas_by}
use Rattle.igp_view.specs.Reading.{Installs, Counts}
use Rattle.igp_view.proofs.StreamLemmas.{none_in_lost, none_in_part, packet_first, capped_twice, length-concat_append}
use Rattle.igp_view.proofs.ReadLemmas.{installs_none, installs_more, counts_none, counts_more}

abbrev pub nothing : IgpGot
nothing = record { installed = 0; left_out = 0; lost = None }

abbrev after_at : Framing → Front → Framing
after_at framing front =
    elim front [
      | whole len ↦ record { held = []; place = capped_place (framing.place + len) }
      | part ↦ framing
      | lost ↦ framing
    ]

pub after_whole : (framing : Framing) (place : ℕ) → framing.place ≡ place → front_of framing.held ≡ whole (length framing.held) → after_next framing ≡ record { held = []; place = capped_place (place + length framing.held) }
after_whole framing place at is = ap (after_at framing) is ∙ ap (λ place. record { held = []; place = capped_place (place + length framing.held) }) at

pub after_part : (framing : Framing) → front_of framing.held ≡ part → after_next framing ≡ framing
after_part framing is = ap (after_at framing) is

pub record Taking (area : ℕ) (start : Framing) (piece : List ℕ) (framing : Framing) (rest : List ℕ) (before now : Database) (got : IgpGot) : Type 0 where
  pub done : List (List ℕ)
  pub packets : packets_in (start.held ++ piece) ≡ done ++ packets_in (framing.held ++ rest)
  pub left : rest_in (start.held ++ piece) ≡ rest_in (framing.held ++ rest)
  pub place : framing.place ≡ capped_place (start.place + length (concat done))
  pub waits : front_of framing.held ≡ part
  pub state : Installs (lsas_of_packets area done) before now
  pub counts : Counts (lsas_of_packets area done) nothing got
  pub bound : got.installed + got.left_out + length framing.held + length rest ≤ length start.held + length piece

pub taking_none : (area : ℕ) (start : Framing) (piece : List ℕ) (before : Database) → start.place < 2 ^ 64 → front_of start.held ≡ part → Taking area start piece start piece before before nothing
taking_none area start piece before fits waits = record {
  done = [];
  packets = refl;
  left = refl;
  place = within start.place fits;
  waits = waits;
  state = installs_none before;
  counts = counts_none nothing;
  bound = omega arith;
} where
  within : (n : ℕ) → n < 2 ^ 64 → n ≡ min (n + 0) (2 ^ 64 - 1)
  within n fits = grind arith

module _ (area : ℕ) (start : Framing) (piece : List ℕ) (framing : Framing) (rest : List ℕ) (before now : Database) (got : IgpGot) (taking : Taking area start piece framing rest before now got)
    (taken : ℕ) (held : List ℕ) (fed : held ≡ framing.held ++ take taken rest) where
  joined : framing.held ++ rest ≡ held ++ drop taken rest
  joined =
      ap (λ octets. framing.held ++ octets) (sym (take-append-drop taken rest))
      ∙ sym (append_assoc framing.held (take taken rest) (drop taken rest))
      ∙ ap (λ octets. octets ++ drop taken rest) (sym fed)

  pub taking_packet : (later : Database) (more : IgpGot) (next : Framing) → front_of held ≡ whole (length held) → next ≡ record { held = []; place = capped_place (framing.place + length held) }
      → Installs (lsas_of_packet area held) now later → Counts (lsas_of_packet area held) got more → more.installed + more.left_out ≤ got.installed + got.left_out + length held
      → Taking area start piece next (drop taken rest) before later more
  taking_packet later more next is next_is state counts few =
      subst (λ (next : Framing). Taking area start piece next (drop taken rest) before later more) (sym next_is) (record {
        done = taking.done ++ held ∷ [];
        packets =
            taking.packets
            ∙ ap (λ octets. taking.done ++ packets_in octets) joined
            ∙ ap (λ packets. taking.done ++ packets) (packet_first held (drop taken rest) is).0
            ∙ sym (append_assoc taking.done (held ∷ []) (packets_in (drop taken rest)));
        left = taking.left ∙ ap rest_in joined ∙ (packet_first held (drop taken rest) is).1;
        place =
            ap (λ place. capped_place (place + length held)) taking.place
            ∙ capped_twice start.place (length (concat taking.done)) (length held)
            ∙ ap (λ n. capped_place (start.place + n))
            (ap (λ n. length (concat taking.done) + n) (sym (ap length (append-nil held))) ∙ sym (length-concat_append taking.done (held ∷ [])));
        waits = refl;
        state = subst (λ read. Installs read before later) (sym one_more) (installs_more (lsas_of_packets area taking.done) (lsas_of_packet area held) before now later taking.state state);
        counts = subst (λ read. Counts read nothing more) (sym one_more) (counts_more (lsas_of_packets area taking.done) (lsas_of_packet area held) nothing got more taking.counts counts);
        bound = let b = taking.bound in omega (arith, few, ap length joined, length-append framing.held rest, length-append held (drop taken rest));
      }) where
        one_more : lsas_of_packets area (taking.done ++ held ∷ []) ≡ lsas_of_packets area taking.done ++ lsas_of_packet area held
        one_more = flat_map-append (lsas_of_packet area) taking.done (held ∷ []) ∙ ap (λ read. lsas_of_packets area taking.done ++ read) (append-nil (lsas_of_packet area held))

  -- with no packet more
  module _ (front : Front) (is : front_of held ≡ front) (no_packets : packets_in (held ++ drop taken rest) ≡ []) where
    all_done : packets_in (start.held ++ piece) ≡ taking.done
    all_done = taking.packets ∙ ap (λ octets. taking.done ++ packets_in octets) joined ∙ ap (λ packets. taking.done ++ packets) no_packets ∙ append-nil taking.done

    pub end_installs : Installs (lsas_by area (Some start) piece) before now
    end_installs = subst (λ packets. Installs (lsas_of_packets area packets) before now) (sym all_done) taking.state

    pub end_counts : Counts (lsas_by area (Some start) piece) nothing got
    end_counts = subst (λ packets. Counts (lsas_of_packets area packets) nothing got) (sym all_done) taking.counts

    pub end_place : (framing_after start piece).place ≡ framing.place
    end_place = ap (λ packets. capped_place (start.place + length (concat packets))) all_done ∙ sym taking.place

  pub none_more_part : front_of held ≡ part → drop taken rest ≡ [] → packets_in (held ++ drop taken rest) ≡ []
  none_more_part is none = ap (λ octets. packets_in (held ++ octets)) none ∙ ap packets_in (append-nil held) ∙ (none_in_part held is).0

  pub none_more_lost : front_of held ≡ lost → packets_in (held ++ drop taken rest) ≡ []
  none_more_lost is = (none_in_lost (held ++ drop taken rest) (front_of-append_lost held (drop taken rest) is)).0

  part_left : front_of held ≡ part → drop taken rest ≡ [] → rest_in (start.held ++ piece) ≡ held
  part_left is none = taking.left ∙ ap rest_in joined ∙ ap (λ octets. rest_in (held ++ octets)) none ∙ ap rest_in (append-nil held) ∙ (none_in_part held is).1

  lost_left : front_of held ≡ lost → front_of (rest_in (start.held ++ piece)) ≡ lost
  lost_left is =
      let on = front_of-append_lost held (drop taken rest) is in
      ap front_of (taking.left ∙ ap rest_in joined ∙ (none_in_lost (held ++ drop taken rest) on).1) ∙ on

  pub part_lost_by : front_of held ≡ part → drop taken rest ≡ [] → lost_by (Some start) piece ≡ None
  part_lost_by is none = ap (place_if_lost (framing_after start piece)) (ap front_of (part_left is none) ∙ is)

  pub part_stream : front_of held ≡ part → drop taken rest ≡ [] → Some (record { held = held; place = framing.place }) ≡ stream_after (Some start) piece
  part_stream is none =
      ap₂ (λ (held : List ℕ) (place : ℕ). Some (record { held = held; place = place })) (sym (part_left is none)) (sym (end_place part is (none_more_part is none)))
      ∙ sym (ap (while_framed (framing_after start piece)) (ap front_of (part_left is none) ∙ is))

  pub lost_lost_by : front_of held ≡ lost → lost_by (Some start) piece ≡ Some framing.place
  lost_lost_by is = ap (place_if_lost (framing_after start piece)) (lost_left is) ∙ ap Some (end_place lost is (none_more_lost is))

  pub lost_stream : front_of held ≡ lost → None ≡ stream_after (Some start) piece
  lost_stream is = sym (ap (while_framed (framing_after start piece)) (lost_left is))
