use Rattle.std.proofs.Common.{◌≡◌, ℕ, ◌+◌, ◌-◌, Some, None, Option, vec_items, sym, ap, ◌∙◌, subst, arith}
use Rattle.chained_theory.specs.Layout.{next_at, has_key, seek_from}
use Rattle.chained_theory.proofs.Walks.{seek_here, seek_more}
use Rattle.chained.specs.declared.types.Chained.{Chained}
use Rattle.chained.specs.declared.records.Record.{Record}
use Rattle.chained.specs.Meaning.{sought}
use Rattle.chained.specs.Records.{IsRecord, link, record_has}
use Rattle.chained.proofs.types.Chained.seek.Goals as goal

link_is : (o : Option Record) (s : Chained) (i : ℕ) → IsRecord o s i → link o ≡ i
link_is None s i e = sym e
link_is (Some r) s i e = e.0

-- the walk has come to this record of the store, and so many more may be visited
record Reached (s : Chained) (r : Record) (left c p : ℕ) : Type 0 where
  store : r.store.now ≡ s
  rest : seek_from (vec_items s.memory) s.extent.limits.width left r.number c p ≡ sought s c p

reached : (s : Chained) (o : Option Record) (r : Record) (left c p : ℕ) → o ≡ Some r → IsRecord o s (link o) → seek_from (vec_items s.memory) s.extent.limits.width left (link o) c p ≡ sought s c p → Reached s r left c p
reached s o r left c p e of rest = record {
  store = (subst (λ x. IsRecord x s (link x)) e of).1;
  rest = subst (λ x. seek_from (vec_items s.memory) s.extent.limits.width left (link x) c p ≡ sought s c p) e rest;
}

key_of : (s : Chained) (r : Record) (c p : ℕ) → r.store.now ≡ s → has_key (vec_items s.memory) s.extent.limits.width r.number c p ≡ record_has r c p
key_of s r c p e = ap (λ (z : Chained). has_key (vec_items z.memory) z.extent.limits.width r.number c p) (sym e)

pub returns-then-has : goal.returns-then-has
returns-then-has c =
    let s = c.args.self.now in
    let k = c.args.key.closing.0 in
    let p = c.args.key.place.0 in
    let r = c.in_ok-record.record in
    let t = reached s c.loop.next r (s.count - c.loop.counter) k p c.in_ok-record.was c.loop.invariant.of c.loop.invariant.left in
    let has = key_of s r k p t.store ∙ sym c.has.ensures ∙ c.if-has.true in
    let found = sym (seek_here (vec_items s.memory) s.extent.limits.width (s.count - c.loop.counter) r.number k p (omega arith) (λ z. omega arith) has) ∙ t.rest in
    subst (λ o. IsRecord o s (sought s k p)) (sym c.in_ok-record.was) (found, t.store)

pub loop-preserved : goal.loop-preserved
loop-preserved c =
    let s = c.args.self.now in
    let k = c.args.key.closing.0 in
    let p = c.args.key.place.0 in
    let r = c.in_ok-record.record in
    let n = c.next-next.result in
    let m = vec_items s.memory in
    let w = s.extent.limits.width in
    let t = reached s c.loop.next r (s.count - c.loop.counter) k p c.in_ok-record.was c.loop.invariant.of c.loop.invariant.left in
    let has = key_of s r k p t.store ∙ sym c.has.ensures ∙ c.if-has.false in
    let step : IsRecord n s (next_at m w r.number) = subst (λ (z : Chained). IsRecord n z (next_at (vec_items z.memory) z.extent.limits.width r.number)) t.store c.next-next.ensures in
    let at = link_is n s _ step in
    record {
      of = subst (IsRecord n s) (sym at) step;
      left = ap (λ i. seek_from m w (s.count - (c.loop.counter + 1)) i k p) at
          ∙ ap (λ z. seek_from m w z (next_at m w r.number) k p) (omega arith)
          ∙ sym (seek_more m w (s.count - c.loop.counter) r.number k p (omega arith) (λ z. omega arith) has) ∙ t.rest;
    }
