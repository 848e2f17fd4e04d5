use Rattle.std.proofs.Common.{length, sym, ◌∙◌, subst, arith}
use Rattle.store.specs.Meaning.{Meaning}
use Rattle.store.specs.Calls.{Put, put_refusal}
use Rattle.store.proofs.Inside.{span_out}
use Rattle.store.proofs.Rooms.{put_fits, put_missing, missing_le}
use Rattle.client.specs.Fill.{Filled}
use Rattle.client.proofs.Fills.{filled_none, filled_more, filled_inside, not_refused}
use Rattle.client.proofs.put_each.Goals as goal

pub loop-place-init : goal.loop-place-init
loop-place-init g c =
    let m : Meaning = g.S.NodeStore.meaning c.args.store.now in
    record {
      filled = filled_none m c.args.closing.0 c.args.bytes.now c.requires.absent;
      reached = omega arith;
      room = omega (arith, missing_le m c.args.closing.0 c.args.n, c.requires.room);
    }

pub unwrap-requires : goal.unwrap-requires
unwrap-requires g c =
    let m : Meaning = g.S.NodeStore.meaning c.args.store.now in
    let k : Meaning = g.S.NodeStore.meaning c.loop-place.store in
    let n : Meaning = g.S.NodeStore.meaning c.put.new.self in
    let a = c.args.closing.0 in
    let p = c.loop-place.place in
    let f = c.loop-place.invariant.filled in
    let t = filled_inside m k a c.args.n p c.args.bytes.now f (span_out m.first m.last a c.requires.within) c.requires.below c.loop-place.auto.place (omega arith) in
    not_refused c.put.result (put_refusal k a p (length c.args.bytes.now)) (λ _. Put k n a p c.args.bytes.now) c.put.ensures.answers
    (put_fits k a p c.args.n (length c.args.bytes.now) t (omega arith) (c.requires.wide ∙ sym f.limits.width) c.loop-place.invariant.room)

pub loop-place-preserved : goal.loop-place-preserved
loop-place-preserved g c =
    let m : Meaning = g.S.NodeStore.meaning c.args.store.now in
    let k : Meaning = g.S.NodeStore.meaning c.loop-place.store in
    let n : Meaning = g.S.NodeStore.meaning c.put.new.self in
    let a = c.args.closing.0 in
    let p = c.loop-place.place in
    let r = c.args.bytes.now in
    let put = (rw c.unwrap.ensures at c.put.ensures.answers).1 in
    let f = c.loop-place.invariant.filled in
    let t = filled_inside m k a c.args.n p r f (span_out m.first m.last a c.requires.within) c.requires.below c.loop-place.auto.place (omega arith) in
    record {
      filled = subst (λ i. Filled m n a i r) (omega arith) (filled_more m k n a p r c.loop-place.auto.place f put);
      reached = omega arith;
      room = omega (arith, put_missing k n a p r t put c.args.n (omega arith), c.loop-place.invariant.room);
    }

pub returns : goal.returns
returns g c =
    let m : Meaning = g.S.NodeStore.meaning c.args.store.now in
    let k : Meaning = g.S.NodeStore.meaning c.loop-place.store in
    subst (λ i. Filled m k c.args.closing.0 i c.args.bytes.now) (omega arith) c.loop-place.invariant.filled
