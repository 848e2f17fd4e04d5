use Rattle.std.proofs.Common.{◌≡◌, ◌-◌, vec_items}
use Rattle.chained_theory.specs.Layout.{seek_from}
use Rattle.chained.specs.Meaning.{sought}
use Rattle.chained.specs.Records.{IsRecord, link}
use Rattle.chained.proofs.types.Chained.seek.Given as goal

abbrev pub invariant-loop : goal.invariant-loop
invariant-loop l =
    record {
      of : IsRecord l.next l.self (link l.next);
      left : seek_from (vec_items l.self.memory) l.self.extent.limits.width (l.self.count - l.counter) (link l.next) l.key.closing.0 l.key.place.0 ≡ sought l.self l.key.closing.0 l.key.place.0;
    }
