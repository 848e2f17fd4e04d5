use Rattle.std.proofs.Common.{◌+◌, ◌-◌, ◌++◌, length, ap, ◌∙◌, arith, rules}
use Rattle.refusal.specs.Tables.{written}
use Rattle.store.specs.Meaning.{Meaning}
use Rattle.client.proofs.Fetches.{fetched_is}
use Rattle.press.proofs.Parts.{behind, part_long}
use Rattle.press.proofs.fetch_part.Goals as goal

pub returns : goal.returns
returns g c = record {
  same = c.fetch.ensures.same;
  long = search rules;
  is = λ said o b l e f w.
      let m : Meaning = g.S.NodeStore.meaning c.args.store.now in
      let there = fetched_is m c.args.key.closing.0 c.args.key.place.0 _ c.args.width _ c.fetch.new.into b c.fetch.ensures.filled (part_long c.args.out.now c.args.at c.args.width c.requires) f in
      behind c.args.out.now said o c.fetch.new.into c.args.at (c.args.at + c.args.width - c.args.at) l e (omega (arith, ap length there, w))
      ∙ ap (λ x. written (said ++ x) o) there;
}
