use Rattle.std.proofs.Common.{◌+◌, ◌-◌, ◌++◌, length, ap, ◌∙◌, arith, rules}
use Rattle.refusal.specs.Tables.{written}
use Rattle.press.proofs.Parts.{behind}
use Rattle.press.proofs.put_part.Goals as goal

pub returns : goal.returns
returns c = record {
  long = search rules;
  is = λ said o l e.
      let b = c.copy_from_slice.ensures.after in
      behind c.args.out.now said o c.copy_from_slice.new.self c.args.at (c.args.at + length c.args.part.now - c.args.at) l e (omega (arith, ap length b))
      ∙ ap (λ x. written (said ++ x) o) b;
}
