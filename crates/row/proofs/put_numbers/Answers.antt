use Rattle.row.proofs.Rows.{put_number}
use Rattle.row.proofs.put_numbers.Goals as goal

pub loop-i-preserved : goal.loop-i-preserved
loop-i-preserved c =
    let m = c.args.numbers.now in
    rw (c.loop-i.invariant, c.copy_from_slice.ensures.after, c.be_bytes.ensures) (put_number m c.args.out.now c.loop-i.i c.loop-i-test.true)
