-- One step of the climb.
use Rattle.std.proofs.Common.{◌≡◌, ℕ, zero, suc, ◌+◌, ◌-◌, ◌<◌, ◌≤◌, Bool, true, false, cond, not, List, [], ◌∷◌, get_or, take, drop, Some, None, Option, unwrap_or, sym, refl, ap, ◌∙◌, le_of_suc-le-suc, not-suc-le-zero, add-zero, zero-add, arith}
use Rattle.std.specs.Option.{option_map}
use Rattle.refusal.specs.declared.cases.Refusal.{Refusal}
use Rattle.refusal.specs.declared.cases.Refusal.TheVariants.{JoinUnwritable}
use Rattle.refusal.specs.Tables.{◌⇒◌, first}
use Rattle.amount.specs.Kinds.{Kind, join_refusal}
use Rattle.digest.specs.Hashes.{Hash}
use Rattle.node.specs.Texts.{Node, inner_node, read_node}
use Rattle.file.specs.Layout.{File}
use Rattle.file.specs.Fields.{offset_at, step_index, field_bytes}
use Rattle.verify.specs.Paths.{step_of, steps_of, file_of, step_at, is_left, left, right, path_node}
use Rattle.verify.specs.Checks.{join_refusal_at}

-- step j of as many, from step a on
pub steps_at : (k : Kind) (s : List ℕ) (more a j : ℕ) (d : Node) → j < more → get_or (steps_of k s more a) j d ≡ step_of k s (a + j)
steps_at k s zero a j d h = absurd (not-suc-le-zero h)
steps_at k s (suc more) a zero d h = ap (step_of k s) (sym (add-zero a))
steps_at k s (suc more) a (suc j) d h = steps_at k s more (suc a) j d (le_of_suc-le-suc h) ∙ ap (step_of k s) (let e : suc a + j ≡ a + suc j = omega arith in e)

pub step_index_is : (i : ℕ) → 4 ≤ i → i ≡ step_index (i - 4)
step_index_is i h = omega arith

-- a node that was read is the step there
read_is : (k : Kind) (p : List ℕ) (y : Node) → read_node k p ≡ Some y → record { digest = take 32 p; amount = unwrap_or (k.read (drop 32 p)) [] } ≡ y
read_is k p y e = found (k.read (drop 32 p)) e
  where
    found : (o : Option (List ℕ)) → option_map (λ (a : List ℕ). record { digest = take 32 p; amount = a }) o ≡ Some y → record { digest = take 32 p; amount = unwrap_or o [] } ≡ y
    found None f = absurd (let z : ◌≡◌ {A = ℕ} 0 1 = cc in omega arith)
    found (Some m) f = cc

pub step_is : (k : Kind) (s p : List ℕ) (depth i : ℕ) (y : Node) → 4 ≤ i → i < 4 + depth → p ≡ field_bytes k.width s i → read_node k p ≡ Some y → y ≡ step_at (file_of k depth s) (i - 4)
step_is k s p depth i y h l e r =
    let q : p ≡ field_bytes k.width s (step_index (i - 4)) = e ∙ ap (field_bytes k.width s) (step_index_is i h) in
    let t : step_of k s (i - 4) ≡ y = ap (λ x. record { digest = take 32 x; amount = unwrap_or (k.read (drop 32 x)) [] }) (sym q) ∙ read_is k p y r in
    sym (steps_at k s depth 0 (i - 4) (record { digest = []; amount = [] }) (omega arith) ∙ ap (step_of k s) (zero-add (i - 4)) ∙ t)

pub join_at : (k : Kind) (h : Hash) (closing : ℕ) (f : File) (i : ℕ) → 4 ≤ i → join_refusal_at k h closing f i ≡ cond (k.writable (path_node k h closing f (suc (i - 4))).amount) None (Some (JoinUnwritable (offset_at k.width i)))
join_at k h closing f zero l = absurd (omega arith)
join_at k h closing f (suc zero) l = absurd (omega arith)
join_at k h closing f (suc (suc zero)) l = absurd (omega arith)
join_at k h closing f (suc (suc (suc zero))) l = absurd (omega arith)
join_at k h closing f (suc (suc (suc (suc j)))) l =
    ap (λ m. cond (k.writable (path_node k h closing f (suc m)).amount) None (Some (JoinUnwritable (offset_at k.width (step_index j))))) (let e : j ≡ step_index j - 4 = omega arith in e)

-- what a joining says of the joint amount
joined : (b : Bool) → first ((not b ⇒ JoinUnwritable 0) ∷ []) ≡ None → b ≡ true
joined true e = refl
joined false e = absurd (let z : ◌≡◌ {A = ℕ} 0 1 = cc in omega arith)

unjoined : (b : Bool) (r : Refusal) → first ((not b ⇒ JoinUnwritable 0) ∷ []) ≡ Some r → b ≡ false
unjoined true r e = absurd (let z : ◌≡◌ {A = ℕ} 0 1 = cc in omega arith)
unjoined false r e = refl

module _ (k : Kind) (h : Hash) (closing : ℕ) (f : File) (i : ℕ) (low : 4 ≤ i) (b : Bool) (bit : b ≡ is_left f (i - 4)) (x y l r : Node)
    (px : x ≡ path_node k h closing f (i - 4)) (py : y ≡ step_at f (i - 4)) (pl : l ≡ cond b x y) (pr : r ≡ cond b y x) where
  -- the node over both is that of the path, one higher
  pub above : inner_node k h l r ≡ path_node k h closing f (suc (i - 4))
  above =
      let p = path_node k h closing f (i - 4) in
      let ll : l ≡ left f (i - 4) p = pl ∙ ap (λ z. cond b z y) px ∙ ap (λ z. cond b p z) py ∙ ap (λ z. cond z p (step_at f (i - 4))) bit in
      let rr : r ≡ right f (i - 4) p = pr ∙ ap (λ z. cond b z x) py ∙ ap (λ z. cond b (step_at f (i - 4)) z) px ∙ ap (λ z. cond z (step_at f (i - 4)) p) bit in
      ap (λ z. inner_node k h z r) ll ∙ ap (inner_node k h (left f (i - 4) p)) rr

  pub climbs : join_refusal k l.amount r.amount ≡ None → join_refusal_at k h closing f i ≡ None
  climbs e =
      join_at k h closing f i low
      ∙ ap (λ z. cond z None (Some (JoinUnwritable (offset_at k.width i)))) (ap (λ n. k.writable n.amount) (sym above) ∙ joined (k.writable (k.join l.amount r.amount)) e)

  pub stops : (e : Refusal) (offset : ℕ) → offset ≡ offset_at k.width i → join_refusal k l.amount r.amount ≡ Some e → join_refusal_at k h closing f i ≡ Some (JoinUnwritable offset)
  stops e offset o t =
      join_at k h closing f i low
      ∙ ap (λ z. cond z None (Some (JoinUnwritable (offset_at k.width i)))) (ap (λ n. k.writable n.amount) (sym above) ∙ unjoined (k.writable (k.join l.amount r.amount)) e t)
      ∙ ap (λ z. Some (JoinUnwritable z)) (sym o)

-- what is chosen of two nodes of the code
pub chosen : {A B : Type 0} (g : A → B) (b : Bool) (x y : A) → g (cond b x y) ≡ cond b (g x) (g y)
chosen g true x y = refl
chosen g false x y = refl
