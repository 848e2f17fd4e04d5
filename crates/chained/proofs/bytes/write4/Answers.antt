use Rattle.std.proofs.Common.{length, sym, ap, ◌∙◌, arith}
use Rattle.std.proofs.lemmas.Slice.{put_mid-paste}
use Rattle.memory.proofs.Fours.{paste_put4}
use Rattle.chained.proofs.bytes.write4.Goals as goal

pub returns : goal.returns
returns c =
    put_mid-paste _ _ _ _ _ 4 c.copy_from_slice.ensures.after (omega arith) (sym (ap length c.to_be_bytes.ensures))
    ∙ paste_put4 c.args.memory.now c.args.at c.args.n _ (omega arith) c.requires c.to_be_bytes.ensures
