use Rattle.std.proofs.Common.{◌≡◌, ℕ, true, false, ◌<◌, List, length, get_or, arith, Some, None, Option, MatchOption, not, is_some, sym, ap, subst, ◌∙◌, cond, [], ◌∷◌}
use Rattle.std.specs.List.{list_all}
use Rattle.std.specs.Option.{ok_or}
use Rattle.refusal.specs.declared.cases.Refusal.TheVariants.{BadAmount}
use Rattle.refusal.specs.Tables.{Answers, first, ◌⇒◌}
use Rattle.amount.specs.Kinds.{Laws}
use Rattle.amount.specs.Rows.{rows, read, numbers, small}
use Rattle.amount.proofs.RowLaws.{small_read, large_unread}
use Rattle.amount.proofs.ReadLaws.{reads_none}
use Rattle.row.specs.declared.Row.{Row}
use Rattle.row.proofs.RowAmount.read.Goals as goal

pub returns-then-bytes-width : goal.returns-then-bytes-width
returns-then-bytes-width g c =
    let laws = subst Laws g.bound-1.is_rows g.bound-1.laws in
    reads_none (rows g.row.KIND g.row.N) laws c.args.bytes.now (λ m w e. c.if-bytes-width.true (sym (ap length e) ∙ laws.bytes_width m w ∙ sym c.width.ensures))

-- what is read is the row that was made, where one was
answered : (kind n : ℕ) (m : List ℕ) (r : Option (List ℕ)) (o : Option (Row kind n)) → MatchOption o (list_all small m ≡ false) (λ a. a.cents ≡ m)
    → (list_all small m ≡ true → r ≡ Some m) → (list_all small m ≡ false → r ≡ None)
    → Answers (ok_or o (BadAmount 0)) (first ((not (is_some r) ⇒ BadAmount 0) ∷ [])) (λ a. r ≡ Some a.cents)
answered kind n m r None h one none = ap (λ x. cond (not (is_some x)) (Some (BadAmount 0)) None) (none h)
answered kind n m r (Some a) h one none =
    let e : r ≡ Some m = one (ap (list_all small) (sym h) ∙ a.bound) in
    (ap (λ x. cond (not (is_some x)) (Some (BadAmount 0)) None) e, e ∙ ap Some (sym h))

pub returns : goal.returns
returns g c =
    let n = g.row.N in
    let s = c.args.bytes.now in
    let m = numbers n s in
    let h : (i : ℕ) → get_or s i 0 < 256 = λ i. omega (arith, c.type_inv.bytes i) in
    let l = c.if-bytes-width.false ∙ c.width.ensures in
    let o = subst (λ x. MatchOption c.of_cents.result (list_all small x ≡ false) (λ a. a.cents ≡ x)) c.numbers_in.ensures c.of_cents.ensures in
    subst (λ x. Answers x (first ((not (is_some (read n s)) ⇒ BadAmount 0) ∷ [])) (λ a. read n s ≡ Some a.cents)) (sym c.ok_or.ensures.value)
    (answered g.row.KIND n m (read n s) c.of_cents.result o (small_read n s l h) (large_unread n s l h))
