-- What a node's record is read as.
use Rattle.std.proofs.Common.{◌≡◌, ℕ, not, T, List, [], ◌∷◌, length, drop, is_some, Some, sym, ap, ◌∙◌}
use Rattle.std.proofs.lemmas.List.{drop_at}
use Rattle.refusal.specs.declared.cases.Refusal.{Refusal}
use Rattle.refusal.specs.declared.cases.Refusal.TheVariants.{BadAmount}
use Rattle.refusal.specs.Tables.{◌⇒◌, first}
use Rattle.amount.specs.Kinds.{Kind, Laws}
use Rattle.node.specs.Texts.{Node, node_bytes, read_node}
use Rattle.node.proofs.NodeBytes.{node_read}
use Rattle.closing.proofs.Stands.{no_some}

-- what is read back is the node that is there
pub same_node : (k : Kind) → Laws k → (x y : Node) (part : List ℕ) → length x.digest ≡ 32 → T (k.writable x.amount)
    → part ≡ node_bytes k x → read_node k part ≡ Some y → y ≡ x
same_node k laws x y part d w e r =
    let s : Some y ≡ Some x = sym r ∙ ap (read_node k) e ∙ node_read k laws x d w in
    cc

pub node_unrefused : (k : Kind) → Laws k → (x : Node) (part : List ℕ) (e : Refusal) → length x.digest ≡ 32 → T (k.writable x.amount) → part ≡ node_bytes k x
    → first ((not (is_some (k.read (drop 32 part))) ⇒ BadAmount 32) ∷ []) ≡ Some e → ⊥
node_unrefused k laws x part e d w q t =
    let r : k.read (drop 32 part) ≡ Some x.amount = ap (λ s. k.read (drop 32 s)) q ∙ ap k.read (drop_at x.digest (k.bytes x.amount) 32 d) ∙ laws.read_bytes x.amount w in
    no_some (sym (ap (λ o. first ((not (is_some o) ⇒ BadAmount 32) ∷ [])) r) ∙ t)
