use Rattle.std.proofs.Common.{◌+◌, ◌≤◌, length, arith}
use Rattle.file.proofs.Ends.{within}
use Rattle.file.proofs.FieldsIterator.next.Goals as goal

pub slice_bounds-part-end : goal.slice_bounds-part-end
slice_bounds-part-end c =
    let r = c.args.self.now in
    let w = r.whole (omega arith) in
    let h = within r.width r.index r.count w.0 (omega arith) in
    let fits : c.span-offset.result.0 + c.span-offset.result.1 ≤ length r.file.now = omega (arith, w.1, c.span-offset.ensures.offset, c.span-offset.ensures.len) in
    fits
