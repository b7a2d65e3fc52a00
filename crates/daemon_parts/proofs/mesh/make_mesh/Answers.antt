use Rattle.std.proofs.Common.{ℕ, ◌≡◌, map, subst, arith}
use Rattle.daemon_parts.specs.Meshes.{IsMesh}
use Rattle.daemon_parts.proofs.MeshLemmas.{mesh_goes}
use Rattle.daemon_parts.proofs.mesh.make_mesh.Goals as goal

pub loop-preserved : goal.loop-preserved
loop-preserved g c =
    mesh_goes c.loop.counter c.args.senders c.args.room _ _ _ _ _ c.in_ok-column.receiver c.loop.invariant c.in_ok-column.ensures.count c.in_ok-column.ensures.each
    (record { nothing = c.in_ok-column.ensures.receiver.1; senders_are = c.in_ok-column.ensures.receiver.0; room_is = c.in_ok-column.ensures.room }) c.in_ok-put_column.ensures c.in_ok-push.ensures.items

pub returns : goal.returns
returns g c =
    let all : c.loop.counter ≡ c.args.boxes = omega (arith, c.loop-test.false, c.loop.auto.counter-end) in
    subst (λ (n : ℕ). IsMesh n c.args.senders c.args.room (map (λ row. row.items) c.loop.rows.items) c.loop.receivers.items) all c.loop.invariant
