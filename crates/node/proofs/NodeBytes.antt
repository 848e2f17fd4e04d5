-- A node's bytes, written and read.
use Rattle.std.proofs.Common.{◌≡◌, ℕ, ◌+◌, ◌<◌, Bool, false, not, T, List, [], ◌∷◌, ◌++◌, length, take, drop, is_some, Some, None, Option, sym, refl, ap, ◌∙◌, append_assoc, arith, length-append, length-drop}
use borrow.Rule.Slice.PartMut.{put_mid}
use Rattle.std.specs.Option.{option_map}
use Rattle.std.proofs.lemmas.List.{take_at, drop_at, drop-drop}
use Rattle.refusal.specs.declared.cases.Refusal.{Refusal}
use Rattle.refusal.specs.declared.cases.Refusal.TheVariants.{BadAmount}
use Rattle.refusal.specs.Tables.{◌⇒◌, first, written}
use Rattle.amount.specs.Kinds.{Kind, Laws}
use Rattle.node.specs.Texts.{Node, node_bytes, read_node}

-- two parts written one after the other
pub two_parts : (o d b : List ℕ) (n k : ℕ) → length d ≡ n → k ≡ length b → put_mid n k (d ++ drop n o) b ≡ written (d ++ b) o
two_parts o d b n k ld lb =
    ap (λ l. l ++ (b ++ drop k (drop n (d ++ drop n o)))) (take_at d (drop n o) n ld)
    ∙ ap (λ l. d ++ (b ++ drop k l)) (drop_at d (drop n o) n ld)
    ∙ ap (λ l. d ++ (b ++ l)) (drop-drop k n o)
    ∙ sym (append_assoc d b (drop (n + k) o))
    ∙ ap (λ m. (d ++ b) ++ drop m o) (let e : n + k ≡ length (d ++ b) = simp length-append (omega arith) in e)

abbrev no_node : Bool → Option Refusal
no_node b = first ((not b ⇒ BadAmount 32) ∷ [])

nothing : (o : Option (List ℕ)) → ((m : List ℕ) → o ≡ Some m → ⊥) → is_some o ≡ false
nothing None h = refl
nothing (Some m) h = absurd (h m refl)

-- too few bytes for a digest
pub short : {k : Kind} → Laws k → (s : List ℕ) → length s < 32 → no_node (is_some (k.read (drop 32 s))) ≡ Some (BadAmount 32)
short {k} laws s h =
    ap no_node (nothing (k.read (drop 32 s)) (λ m e.
    let p = laws.read_only (drop 32 s) m e in
    let w = laws.bytes_width m p.0 in
    let l = laws.width_low in
    omega (arith, ap length p.1, length-drop 32 s)))

-- a node's bytes read back to it
pub node_read : (k : Kind) → Laws k → (n : Node) → length n.digest ≡ 32 → T (k.writable n.amount) → read_node k (node_bytes k n) ≡ Some n
node_read k laws n l w =
    let b = k.bytes n.amount in
    let r : k.read (drop 32 (n.digest ++ b)) ≡ Some n.amount = ap k.read (drop_at n.digest b 32 l) ∙ laws.read_bytes n.amount w in
    ap (option_map (λ (a : List ℕ). record { digest = take 32 (n.digest ++ b); amount = a })) r
    ∙ ap (λ (d : List ℕ). Some (record { digest = d; amount = n.amount })) (take_at n.digest b 32 l)
