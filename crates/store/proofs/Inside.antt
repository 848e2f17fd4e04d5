-- What the tests on limits and keys say.
use Rattle.std.proofs.Common.{◌≡◌, ℕ, ◌<◌, ◌≤◌, true, ◌&&◌, ltb, leb}
use Rattle.std.proofs.lemmas.Bool.{and_parts, and_from, leb-true, ltb-true, le-leb, lt-ltb}
use Rattle.store.specs.Meaning.{spans, holds_key, valid_limits}

pub span_out : (f l c : ℕ) → spans f l c ≡ true → (f ≤ c) × (c ≤ l)
span_out f l c e = let x = and_parts (leb f c) (leb c l) e in (leb-true f c x.0, leb-true c l x.1)

pub span_in : (f l c : ℕ) → f ≤ c → c ≤ l → spans f l c ≡ true
span_in f l c a b = and_from _ _ (le-leb f c a) (le-leb c l b)

pub key_span : (f l b c p : ℕ) → holds_key f l b c p ≡ true → spans f l c ≡ true
key_span f l b c p e = (and_parts (spans f l c) (leb 1 p && ltb p b) e).0

pub key_out : (f l b c p : ℕ) → holds_key f l b c p ≡ true → (f ≤ c) × (c ≤ l) × (1 ≤ p) × (p < b)
key_out f l b c p e =
    let x = and_parts (spans f l c) (leb 1 p && ltb p b) e in
    let y = span_out f l c x.0 in
    let z = and_parts (leb 1 p) (ltb p b) x.1 in
    (y.0, y.1, leb-true 1 p z.0, ltb-true p b z.1)

pub key_in : (f l b c p : ℕ) → f ≤ c → c ≤ l → 1 ≤ p → p < b → holds_key f l b c p ≡ true
key_in f l b c p x y z t = and_from _ _ (span_in f l c x y) (and_from _ _ (le-leb 1 p z) (lt-ltb p b t))

pub record Valid (w f l b : ℕ) : Type 0 where
  pub wide : 1 ≤ w
  pub narrow : w ≤ 128
  pub starts : 1 ≤ f
  pub some : f ≤ l
  pub ends : l ≤ 9999
  pub two : 2 ≤ b
  pub most : b ≤ 2097152

pub valid_out : (w f l b : ℕ) → valid_limits w f l b ≡ true → Valid w f l b
valid_out w f l b e =
    let x = and_parts (leb 1 w) _ e in
    let y = and_parts (leb w 128) _ x.1 in
    let z = and_parts (leb 1 f) _ y.1 in
    let t = and_parts (leb f l) _ z.1 in
    let u = and_parts (leb l 9999) _ t.1 in
    let v = and_parts (leb 2 b) (leb b 2097152) u.1 in
    record {
      wide = leb-true 1 w x.0;
      narrow = leb-true w 128 y.0;
      starts = leb-true 1 f z.0;
      some = leb-true f l t.0;
      ends = leb-true l 9999 u.0;
      two = leb-true 2 b v.0;
      most = leb-true b 2097152 v.1;
    }
