use Rattle.store.specs.Meaning.{Meaning}
use Rattle.client.proofs.Fills.{filled_cleared}
use Rattle.client.proofs.fill_closing.Goals as goal

pub returns-clause-answers : goal.returns-clause-answers
returns-clause-answers g c =
    let m : Meaning = g.S.NodeStore.meaning c.args.store.now in
    let k : Meaning = g.S.NodeStore.meaning c.clear.new.self in
    let n : Meaning = g.S.NodeStore.meaning c.put_each.new.store in
    let cleared = (rw c.unwrap.ensures at c.clear.ensures.answers).1 in
    (c.in_ok-admit_fill.ensures.0, filled_cleared m k n c.args.closing.0 c.args.n c.args.bytes.now cleared c.put_each.ensures)
