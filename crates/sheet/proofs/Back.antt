-- A sheet that is written reads back to itself.
use Rattle.std.proofs.Common.{◌≡◌, ℕ, ◌+◌, true, false, not, ◌&&◌, T, eqb, length, drop, is_some, Some, None, ap, ◌∙◌, arith, length-append}
use lib.Dec.{eqb_refl}
use Rattle.std.specs.Option.{option_map}
use Rattle.std.proofs.lemmas.List.{drop_at}
use Rattle.octets.specs.BigEndian.{be, value}
use Rattle.octets.proofs.Numbers.{value_be_small}
use Rattle.octets.proofs.Passes.{true_T, eqb_in, both_in}
use Rattle.amount.specs.Kinds.{Kind, Laws}
use Rattle.digest.specs.Hashes.{Hash}
use Rattle.node.proofs.NodeBytes.{node_read}
use Rattle.node.specs.Texts.{Node}
use Rattle.tree.specs.Trees.{bad_limits}
use Rattle.tree.proofs.Subtrees.{known_closing}
use Rattle.sheet.specs.Layout.{Sheet, sheet_bytes, sheet_refusal, read_sheet}

pub reads_back : (k : Kind) → Laws k → (h : Hash) (s : Sheet) → length s.root.digest ≡ 32 → T (k.writable s.root.amount) → bad_limits s.closing s.depth ≡ false
    → (sheet_refusal k h (sheet_bytes k h s) ≡ None) × (read_sheet k h (sheet_bytes k h s) ≡ Some s)
reads_back k laws h s l w good =
    let b = k.bytes s.root.amount in
    let sb = sheet_bytes k h s in
    let wide = laws.bytes_width s.root.amount w in
    let long : length sb ≡ 39 + k.width = omega (arith, length-append s.root.digest b, l, wide) in
    let a : not (eqb (length sb) (39 + k.width)) ≡ false = ap not (true_T (eqb (length sb) (39 + k.width)) (eqb_in (length sb) (39 + k.width) long)) in
    let c : not (eqb k.number k.number && eqb h.number h.number) ≡ false =
    ap not (true_T (eqb k.number k.number && eqb h.number h.number) (both_in (eqb k.number k.number) (eqb h.number h.number) (eqb_refl k.number) (eqb_refl h.number))) in
    let v : value (be 4 s.closing) ≡ s.closing = value_be_small 4 s.closing (omega (arith, known_closing s.depth s.closing good)) in
    let d : bad_limits (value (be 4 s.closing)) s.depth ≡ false = ap (λ x. bad_limits x s.depth) v ∙ good in
    let e : is_some (k.read (drop 39 sb)) ≡ true = ap (λ x. is_some (k.read x)) (drop_at s.root.digest b 32 l) ∙ ap is_some (laws.read_bytes s.root.amount w) in (
      rw (a, c, d, e),
      ap (option_map (λ (n : Node). record { closing = value (be 4 s.closing); depth = s.depth; root = n })) (node_read k laws s.root l w)
          ∙ ap (λ (x : ℕ). Some (record { closing = x; depth = s.depth; root = s.root })) v,
    )
