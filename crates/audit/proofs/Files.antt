-- What a file has that passes the check.
use Rattle.std.proofs.Common.{◌≡◌, ℕ, zero, suc, ◌^◌, ◌<◌, Bool, false, cond, not, T, eqb, ltb, leb, List, [], ◌∷◌, ◌++◌, length, take, Some, None, sym, refl, ap, ◌∙◌, subst, zero-add, arith, eqb→eq, length-take}
use lib.Dec.{nleb→lt, not_T}
use Rattle.octets.specs.Tests.{same}
use Rattle.octets.proofs.Passes.{same_out}
use Rattle.refusal.specs.declared.cases.Refusal.TheVariants.{BadLimits, FileLength, OtherSheet, LeafOutside}
use Rattle.refusal.specs.Tables.{◌⇒◌, first}
use Rattle.amount.specs.Kinds.{Kind, Laws}
use Rattle.digest.specs.Hashes.{Hash, HashLaws}
use Rattle.node.specs.Texts.{Node, node_bytes}
use Rattle.sheet.specs.Layout.{Sheet, head}
use Rattle.file.specs.Layout.{File, file_length}
use Rattle.file.specs.Fields.{step_index, field_bytes}
use Rattle.verify.specs.Paths.{step_of, steps_of, file_of, step_at, path_node}
use Rattle.verify.specs.Checks.{or_else, shape_refusal, amounts_refusal, joins_refusal, top_refusal, file_refusal, under_refusal}
use Rattle.verify.proofs.Amounts.{or_none, field_long}
use Rattle.verify.proofs.Climbs.{steps_at}
use Rattle.verify.proofs.Under.{balance_there, step_there, digest_long, top_writable, root_same, row_past, not_not}
use Rattle.verify.proofs.Back.{SoundNode}

-- two lists in front of two others
pub parts : (a b c d : List ℕ) → length a ≡ length b → a ++ c ≡ b ++ d → (a ≡ b) × (c ≡ d)
parts [] [] c d n e = (refl, e)
parts [] (y ∷ b) c d n e = absurd (omega arith)
parts (x ∷ a) [] c d n e = absurd (omega arith)
parts (x ∷ a) (y ∷ b) c d n e =
    let t : a ++ c ≡ b ++ d = cc in
    let r = parts a b c d (omega arith) t in
    let p = r.0 in
    let h : x ≡ y = cc in
    (cc, r.1)

-- a node's bytes say the node
pub node_apart : {k : Kind} → Laws k → (m n : Node) → SoundNode k m → SoundNode k n → node_bytes k m ≡ node_bytes k n → m ≡ n
node_apart {k} laws m n v w e =
    let p = parts m.digest n.digest (k.bytes m.amount) (k.bytes n.amount) (v.0 ∙ sym w.0) e in
    let q = laws.bytes_injective m.amount n.amount v.1 w.1 p.1 in
    λ i. record { digest = p.0 i; amount = q i }

pub record Passed (k : Kind) (h : Hash) (s : Sheet) (f : File) : Type 0 where
  pub leaf_low : f.leaf < 2 ^ s.depth
  pub customer_long : length f.line.customer ≡ 16
  pub salt_long : length f.line.salt ≡ 16
  pub balance_writable : T (k.writable f.line.balance)
  pub steps_many : length f.steps ≡ s.depth
  pub steps_sound : (j : ℕ) → j < s.depth → SoundNode k (step_at f j)
  pub at_top : path_node k h s.closing f s.depth ≡ s.root

steps_count : (k : Kind) (bytes : List ℕ) (more j : ℕ) → length (steps_of k bytes more j) ≡ more
steps_count k bytes zero j = refl
steps_count k bytes (suc more) j = ap suc (steps_count k bytes more (suc j))

past : (b : Bool) → b ≡ false → T b → ⊥
past b e t = subst T e t

pub passed : {k : Kind} → Laws k → {h : Hash} → HashLaws h → (s : Sheet) → SoundNode k s.root → (bytes : List ℕ) → under_refusal k h s bytes ≡ None → Passed k h s (file_of k s.depth bytes)
passed {k} laws {h} hashes s root bytes e =
    let f = file_of k s.depth bytes in
    let a = or_none (first ((ltb 20 s.depth ⇒ BadLimits) ∷ [])) (file_refusal k h s bytes) e in
    let b = or_none (shape_refusal k h s bytes) (or_else (amounts_refusal k s.depth bytes) (or_else (joins_refusal k h s.closing s.depth f) (top_refusal k h s f))) a.1 in
    let c = or_none (amounts_refusal k s.depth bytes) (or_else (joins_refusal k h s.closing s.depth f) (top_refusal k h s f)) b.1 in
    let d = or_none (joins_refusal k h s.closing s.depth f) (top_refusal k h s f) c.1 in
    let x = not (eqb (length bytes) (file_length k.width s.depth)) in
    let y = not (same (take 7 bytes) (head k h s.closing s.depth)) in
    let z = leb (2 ^ s.depth) f.leaf in
    let p = row_past x FileLength (cond y (Some OtherSheet) (cond z (Some LeafOutside) None)) b.0 in
    let q : cond y (Some OtherSheet) (cond z (Some LeafOutside) None) ≡ None = ap (λ m. cond m (Some FileLength) (cond y (Some OtherSheet) (cond z (Some LeafOutside) None))) (sym p) ∙ b.0 in
    let r = row_past y OtherSheet (cond z (Some LeafOutside) None) q in
    let t : cond z (Some LeafOutside) None ≡ None = ap (λ m. cond m (Some OtherSheet) (cond z (Some LeafOutside) None)) (sym r) ∙ q in
    let low = row_past z LeafOutside None t in
    let long : length bytes ≡ file_length k.width s.depth = eqb→eq (length bytes) (file_length k.width s.depth) (not_not (eqb (length bytes) (file_length k.width s.depth)) p) in
    let balance = balance_there k laws s.depth bytes c.0 in
    let steps = step_there k laws s.depth bytes c.0 in
    let top = path_node k h s.closing f s.depth in
    let sound : SoundNode k top = (digest_long k laws h hashes s.closing s.depth f balance steps s.depth, top_writable k laws h hashes s.closing s.depth f balance steps s.depth refl d.0) in
    record {
      leaf_low = nleb→lt (2 ^ s.depth) f.leaf (not_T z (past z low));
      customer_long = field_long k.width bytes 1 s.depth long (omega arith);
      salt_long = field_long k.width bytes 2 s.depth long (omega arith);
      balance_writable = balance;
      steps_many = steps_count k bytes s.depth 0;
      steps_sound = λ j l. (
        ap (λ n. length n.digest) (steps_at k bytes s.depth 0 j (record { digest = []; amount = [] }) l ∙ ap (step_of k bytes) (zero-add j))
            ∙ step_long j l long,
        steps j l,
      );
      at_top = node_apart laws top s.root sound root (same_out (node_bytes k top) (node_bytes k s.root) (root_same (same (node_bytes k top) (node_bytes k s.root)) d.1));
    }
  where
    step_long : (j : ℕ) → j < s.depth → length bytes ≡ file_length k.width s.depth → length (step_of k bytes j).digest ≡ 32
    step_long j l long = let g = field_long k.width bytes (step_index j) s.depth long (omega arith) in omega (arith, length-take 32 (field_bytes k.width bytes (step_index j)), g)
