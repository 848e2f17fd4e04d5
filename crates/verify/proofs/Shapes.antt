-- The first rows of a file's table, from what the code found; and the tests of bytes.
use Rattle.std.proofs.Common.{◌≡◌, ℕ, ◌-◌, ◌^◌, ◌<◌, ◌≤◌, true, false, not, eqb, leb, List, length, take, drop, Some, None, sym, ap, arith, le→leb, leb→le, length-drop, take_all}
use Rattle.std.proofs.lemmas.List.{take_at}
use Rattle.octets.specs.BigEndian.{value}
use Rattle.octets.specs.Tests.{same}
use Rattle.octets.proofs.Passes.{true_T, false_T, eqb_in}
use Rattle.refusal.specs.declared.cases.Refusal.TheVariants.{LeafOutside}
use Rattle.refusal.specs.Tables.{written}
use Rattle.amount.specs.Kinds.{Kind}
use Rattle.digest.specs.Hashes.{Hash}
use Rattle.sheet.specs.Layout.{Sheet, head}
use Rattle.file.specs.Layout.{file_length}
use Rattle.verify.specs.Checks.{shape_refusal}

-- the bytes behind the seventh
pub behind : (s : List ℕ) → take (length s - 7) (drop 7 s) ≡ drop 7 s
behind s = take_all (length s - 7) (drop 7 s) (simp length-drop (omega arith))

-- what was written stands in front
pub front : (said buffer : List ℕ) (n : ℕ) → n ≡ length said → take n (written said buffer) ≡ said
front said buffer n e = take_at said (drop (length said) buffer) n (sym e)

module _ (k : Kind) (h : Hash) (s : Sheet) (file : List ℕ) (long : length file ≡ file_length k.width s.depth)
    (headed : same (take 7 file) (head k h s.closing s.depth) ≡ true) (n m : ℕ) (number : n ≡ value (take 4 (drop 7 file))) (leaves : m ≡ 2 ^ s.depth) where
  right_long : not (eqb (length file) (file_length k.width s.depth)) ≡ false
  right_long = ap not (true_T (eqb (length file) (file_length k.width s.depth)) (eqb_in (length file) (file_length k.width s.depth) long))

  right_head : not (same (take 7 file) (head k h s.closing s.depth)) ≡ false
  right_head = ap not headed

  pub at_leaf : m ≤ n → shape_refusal k h s file ≡ Some LeafOutside
  at_leaf l =
      let a = right_long in
      let b = right_head in
      let c : leb (2 ^ s.depth) (value (take 4 (drop 7 file))) ≡ true = true_T (leb (2 ^ s.depth) (value (take 4 (drop 7 file)))) (le→leb (2 ^ s.depth) (value (take 4 (drop 7 file))) (omega arith)) in
      rw (a, b, c)

  pub at_end : n < m → shape_refusal k h s file ≡ None
  at_end l =
      let a = right_long in
      let b = right_head in
      let c : leb (2 ^ s.depth) (value (take 4 (drop 7 file))) ≡ false = false_T (leb (2 ^ s.depth) (value (take 4 (drop 7 file)))) (λ t. let q = leb→le (2 ^ s.depth) (value (take 4 (drop 7 file))) t in omega arith) in
      rw (a, b, c)
