use Rattle.std.proofs.Common.{◌≡◌, ◌+◌, ◌-◌, ◌*◌, ◌^◌, ◌≤◌, not, ltb, ap, ◌∙◌, arith, pow_mono}
use Rattle.store.specs.Meaning.{Meaning}
use Rattle.store.specs.Counts.{held}
use Rattle.closing.proofs.Goods.{two_powers}
use Rattle.custodian.proofs.Rows.{first_short, second_told}
use Rattle.custodian.proofs.Custodian.no_room.Goals as goal

pub overflow_mul-leaves : goal.overflow_mul-leaves
overflow_mul-leaves g c =
    let e = c.leaf_count-leaves.ensures.leaves c.requires in
    let m : 2 ^ c.args.depth ≤ 2 ^ 20 = pow_mono {i = c.args.depth} {j = 20} c.requires in
    omega (arith, e, m)

pub returns-then-not-has_room : goal.returns-then-not-has_room
returns-then-not-has_room g c in-nodes in-leaves =
    let m : Meaning = g.N.NodeStore.meaning c.args.self.now.nodes in
    let e = c.leaf_count-leaves.ensures.leaves c.requires in
    let need_is : 2 * c.leaf_count-leaves.result - 1 ≡ 2 ^ (c.args.depth + 1) - 1 = omega (arith, e, two_powers c.args.depth) in
    first_short c.has_room.result _ _ c.if-not-has_room.true (c.has_room.ensures in-nodes ∙ ap (λ n. not (ltb (m.room + held m c.args.closing.0) n)) need_is)

pub returns-else-not-has_room : goal.returns-else-not-has_room
returns-else-not-has_room g c in-nodes in-leaves =
    let m : Meaning = g.N.NodeStore.meaning c.args.self.now.nodes in
    let l : Meaning = g.L.NodeStore.meaning c.args.self.now.leaves in
    let e = c.leaf_count-leaves.ensures.leaves c.requires in
    let need_is : 2 * c.leaf_count-leaves.result - 1 ≡ 2 ^ (c.args.depth + 1) - 1 = omega (arith, e, two_powers c.args.depth) in
    second_told c.has_room.result c.has_room-else-not-has_room.result _ _ c.if-not-has_room.false
    (c.has_room.ensures in-nodes ∙ ap (λ n. not (ltb (m.room + held m c.args.closing.0) n)) need_is)
    (c.has_room-else-not-has_room.ensures in-leaves ∙ ap (λ n. not (ltb (l.room + held l c.args.closing.0) n)) e)
