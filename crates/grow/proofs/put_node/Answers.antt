use Rattle.std.proofs.Common.{◌≡◌, length, ap, ◌∙◌, subst}
use Rattle.node.specs.Texts.{node_bytes}
use Rattle.node.specs.Meant.{node_of}
use Rattle.store.specs.Meaning.{Meaning}
use Rattle.store.specs.Calls.{put_refusal, Put}
use Rattle.grow.proofs.put_node.Goals as goal

pub returns : goal.returns
returns g c =
    let k = g.A.Amount.kind in
    let m : Meaning = g.N.NodeStore.meaning c.args.nodes.now in
    let n : Meaning = g.N.NodeStore.meaning c.keep.new.store in
    let x = c.args.key.closing.0 in
    let p = c.args.key.place.0 in
    let text = c.node_text.ensures in
    let e : c.as_slice.result.now ≡ node_bytes k (node_of g.A.Amount.meaning c.args.node.now) = c.as_slice.ensures.value ∙ text.said in
    let long = ap (put_refusal m x p) (ap length c.as_slice.ensures.value ∙ text.len) in
    record {
      is = λ none. subst (Put m n x p) e (c.keep.ensures.is (long ∙ none));
      refused = λ r some. c.keep.ensures.refused r (long ∙ some);
    }
