use Rattle.std.proofs.Common.{◌≡◌, ◌+◌, ◌-◌}
use Rattle.verify.specs.Paths.{file_of}
use Rattle.verify.specs.Checks.{join_refusal_at, joins_refusal, first_from}
use Rattle.verify.specs.Walks.{Walks}
use Rattle.verify.proofs.climb.Given as goal

abbrev pub invariant-loop-found : goal.invariant-loop-found
invariant-loop-found g l =
    let k = g.A.Amount.kind in
    let h = g.D.Digest.hash l.digest in
    (l.found-iterator.file.now ≡ l.file) × (l.found-iterator.width ≡ k.width) × (l.found-iterator.count ≡ 4 + l.depth)
    × Walks g.A.Amount.meaning k h l.closing.0 l.depth l.file l.found-iterator.index l.walker
    × (joins_refusal k h l.closing.0 l.depth (file_of k l.depth l.file) ≡ first_from (join_refusal_at k h l.closing.0 (file_of k l.depth l.file)) (l.found-iterator.count - l.found-iterator.index) l.found-iterator.index)
