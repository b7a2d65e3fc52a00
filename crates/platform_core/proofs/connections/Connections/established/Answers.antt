use Rattle.std.proofs.Common.{◌≡◌, ◌≢◌, ℕ, ◌<◌, List, length, map, sym, ap, subst, ◌∙◌}
use Rattle.std.specs.List.{All, AllPairs}
use Rattle.std.proofs.lemmas.List.{take_all}
use Rattle.platform_core.specs.declared.sessions.Connection.{Connection}
use Rattle.platform_core.specs.Open.{OpenOf, sessions_in, AreOpen}
use Rattle.platform_core.proofs.EstablishedLemmas.{slots_established, numbers_more, slots_more, found_same, slots_within, slots_apart}
use Rattle.platform_core.proofs.connections.Connections.established.Goals as goal
use Rattle.platform_core.proofs.connections.Connections.established.Goals.{in-Some+in_ok-push+in_ok-push-2, in_default}

pub loop-connection-preserved : goal.loop-connection-preserved
loop-connection-preserved c =
    let cs = c.deref-connection-items.result.now in
    let i = c.loop-connection.connection-index in
    let one : Connection = c.connection-item.result in
    let inv = c.loop-connection.invariant in
    elim c.match-connected.branch [
      | in-Some+in_ok-push+in_ok-push-2 w ↦ record {
        numbers = ap (λ v. v.items) w.numbers-is ∙ numbers_more cs i one w.in-Some.slot c.loop-connection.numbers.items w.push.new.self.items c.loop-connection-test.true c.connection-item.is w.in-Some.ensures inv.numbers w.in_ok-push.ensures.items;
        slots = ap (λ v. v.items) w.slots-is ∙ slots_more cs i one w.in-Some.slot c.loop-connection.slots.items w.push-in-Some.new.self.items c.loop-connection-test.true c.connection-item.is w.in-Some.ensures inv.slots w.in_ok-push-2.ensures.items;
      }
      | in_default w ↦ record {
        numbers = ap (λ v. v.items) w.numbers-is ∙ inv.numbers ∙ sym (ap (map (λ (e : ℕ × ℕ). e.0)) (found_same cs i one c.loop-connection-test.true c.connection-item.is w.in_default.ensures));
        slots = ap (λ v. v.items) w.slots-is ∙ inv.slots ∙ sym (ap (map (λ (e : ℕ × ℕ). e.1)) (found_same cs i one c.loop-connection-test.true c.connection-item.is w.in_default.ensures));
      }
    ]

opened : (c : goal.After-loop-connection) → AreOpen c.self.inside.connections.items c.self.inside.held.items
opened c = c.self.invariant (ap (λ (o : OpenOf). o.spent) c.self.view_is ∙ c.requires)

all_slots : (c : goal.After-loop-connection) → c.loop-connection.slots.items ≡ slots_established (sessions_in c.self.inside.connections.items)
all_slots c =
    c.loop-connection.invariant.slots
    ∙ ap (λ (l : List Connection). slots_established (sessions_in l)) (take_all c.loop-connection.connection-index c.deref-connection-items.result.now c.loop-connection-test.false ∙ c.deref-connection-items.ensures.value)

pub returns-clause-within : goal.returns-clause-within
returns-clause-within c =
    subst (λ (l : List ℕ). All (λ slot. slot < c.args.self.now.members) l) (sym (all_slots c))
    (subst (λ (n : ℕ). All (λ slot. slot < n) (slots_established (sessions_in c.self.inside.connections.items))) (ap (λ (o : OpenOf). o.members) c.self.view_is)
    (slots_within (length c.self.inside.held.items) (sessions_in c.self.inside.connections.items) (opened c).seated.within))

pub returns-clause-distinct : goal.returns-clause-distinct
returns-clause-distinct c =
    subst (λ (l : List ℕ). AllPairs (λ a b. a ≢ b) l) (sym (all_slots c)) (slots_apart (sessions_in c.self.inside.connections.items) (opened c).seated.apart)
