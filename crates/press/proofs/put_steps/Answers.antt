use Rattle.std.proofs.Common.{◌≡◌, ℕ, ◌+◌, ◌*◌, ◌/◌, ◌^◌, ◌<◌, List, ◌++◌, length, Some, sym, ap, ◌∙◌, subst, arith}
use Rattle.refusal.specs.Tables.{written}
use Rattle.tree.specs.Trees.{place}
use Rattle.file.specs.Layout.{steps_bytes}
use Rattle.file.specs.Ledgers.{beside, steps_beside}
use Rattle.file.proofs.Ends.{step_fits}
use Rattle.store.specs.Meaning.{Meaning}
use Rattle.client.specs.Fetch.{fetched}
use Rattle.press.proofs.Stood.{step_put}
use Rattle.press.proofs.put_steps.Goals as goal

pub fetch_part-requires : goal.fetch_part-requires
fetch_part-requires g c =
    let w = 32 + c.width-width.result in
    let all : c.args.depth * w ≡ c.args.depth * (32 + g.A.Amount.kind.width) = ap (λ x. c.args.depth * (32 + x)) c.width-width.ensures in
    omega (arith, step_fits c.loop-j.j c.args.depth w c.loop-j-test.true, all, c.requires.room, c.loop-j.invariant.1)

pub loop-j-preserved : goal.loop-j-preserved
loop-j-preserved g c = (
  c.fetch_part.ensures.same ∙ c.loop-j.invariant.0,
  c.fetch_part.ensures.long ∙ c.loop-j.invariant.1,
  λ h x said o hashes t number depth l e.
      let j = c.loop-j.j in
      let w = 32 + c.width-width.result in
      let out = c.loop-j.out in
      let after = c.fetch_part.new.out in
      let put = subst (λ (m : Meaning). (said o b : List ℕ) → length said ≡ c.args.at + j * w → out ≡ written said o → fetched m c.args.closing.0 c.step_place.result w ≡ Some b → length b ≡ w → after ≡ written (said ++ b) o)
      c.loop-j.invariant.0 c.fetch_part.ensures.is in
      step_put t g.met.A.Amount.lawful hashes c.args.leaf (subst (λ d. c.args.leaf < 2 ^ d) (sym depth) c.requires.low) j c.args.closing.0 c.step_place.result c.args.at w said o out after
      (omega (arith, depth, c.loop-j-test.true)) (sym number) (c.step_place.ensures ∙ ap (λ d. place d j (beside (c.args.leaf / 2 ^ j))) (sym depth)) (ap (λ y. 32 + y) c.width-width.ensures)
      l (c.loop-j.invariant.2 h x said o hashes t number depth l e) put,
)

pub returns : goal.returns
returns g c =
    let k = g.A.Amount.kind in
    let end : c.loop-j.j ≡ c.args.depth = omega (arith, c.loop-j-test.false, c.loop-j.auto) in
    record {
      same = c.loop-j.invariant.0;
      is = λ h x said o hashes t number depth l e.
          c.loop-j.invariant.2 h x said o hashes t number depth l e ∙ ap (λ j. written (said ++ steps_bytes k (steps_beside k h x.number x.lines c.args.leaf j 0)) o) end;
    }
