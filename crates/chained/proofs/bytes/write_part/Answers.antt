use Rattle.std.proofs.Common.{length, refl, ◌∙◌, arith}
use Rattle.std.proofs.lemmas.Slice.{put_mid-paste}
use Rattle.std.proofs.lemmas.List.Edits.{paste_all}
use Rattle.memory.specs.Part.{patch}
use Rattle.chained.proofs.bytes.write_part.Goals as goal

pub returns : goal.returns
unfolding patch
returns c =
    let bs = c.args.bytes.now in
    put_mid-paste _ _ c.args.memory.now _ bs (length bs) c.copy_from_slice.ensures.after (omega arith) refl
    ∙ paste_all c.args.memory.now c.args.at bs (length bs) refl
