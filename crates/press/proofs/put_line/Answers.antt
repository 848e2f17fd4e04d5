use Rattle.std.proofs.Common.{◌+◌, ◌++◌, drop, ap, ◌∙◌, rules}
use Rattle.refusal.specs.Tables.{written}
use Rattle.store.specs.Meaning.{Meaning}
use Rattle.client.proofs.Fetches.{fetched_is}
use Rattle.press.proofs.Parts.{rest}
use Rattle.press.proofs.put_line.Goals as goal

pub returns : goal.returns
returns g c = record {
  same = c.fetch.ensures.same;
  long = c.put_part.ensures.long;
  is = λ said o b l e f w.
      let m : Meaning = g.L.NodeStore.meaning c.args.leaves.now in
      let there = fetched_is m c.args.key.closing.0 c.args.key.place.0 _ (37 + g.A.Amount.kind.width) _ c.fetch.new.into b c.fetch.ensures.filled (search rules) f in
      c.put_part.ensures.is said o l e ∙ ap (λ x. written (said ++ x) o) (rest c.fetch.new.into ∙ ap (drop 5) there);
}
