-- What the laws of a kind give, whatever the kind.
use Rattle.std.proofs.Common.{◌≡◌, ℕ, T, List, length, subst}
use Rattle.amount.specs.Kinds.{Kind, Laws}

module _ {k : Kind} (laws : Laws k) (x y : List ℕ) (p : length x ≡ k.count) (q : length y ≡ k.count) where
  -- each part is under the whole
  pub under_left : T (k.under x (k.join x y))
  under_left =
      let u = laws.under_join k.zero y x (laws.zero_under y q) in
      let v : T (k.under x (k.join y x)) = subst (λ m. T (k.under m (k.join y x))) (laws.zero_neutral x p) u in
      subst (λ m. T (k.under x m)) (laws.join_comm y x) v

  pub under_right : T (k.under y (k.join x y))
  under_right =
      subst (λ m. T (k.under m (k.join x y))) (laws.zero_neutral y q) (laws.under_join k.zero x y (laws.zero_under x p))

  -- so it can be written where the whole can
  pub left_writable : T (k.writable (k.join x y)) → T (k.writable x)
  left_writable = laws.under_writable x (k.join x y) under_left

  pub right_writable : T (k.writable (k.join x y)) → T (k.writable y)
  right_writable = laws.under_writable y (k.join x y) under_right
