-- How long sheets and files are, and a file's steps one by one.
use Rattle.std.proofs.Common.{◌≡◌, ℕ, zero, suc, ◌+◌, ◌-◌, ◌*◌, ◌/◌, ◌^◌, ◌<◌, ◌≤◌, List, ◌++◌, length, Some, None, sym, ap, ◌∙◌, subst, append_assoc, append-nil, add-zero, div-lt_iff_lt-mul, arith, length-append, pow_pos, pow-add}
use Rattle.std.specs.List.{slice_get}
use Rattle.octets.specs.BigEndian.{be}
use Rattle.octets.proofs.Numbers.{be_length}
use Rattle.amount.specs.Kinds.{Kind, Laws}
use Rattle.digest.specs.Hashes.{Hash, HashLaws}
use Rattle.node.specs.Texts.{Line, node_bytes}
use Rattle.tree.specs.Trees.{place, node_at}
use Rattle.file.specs.Layout.{file_bytes, file_length, steps_bytes}
use Rattle.file.specs.Ledgers.{Ledger, beside, steps_beside, line_file}
use Rattle.verify.proofs.Back.{file_long}
use Rattle.verify.proofs.Passing.{beside_low, steps_count, fits}
use Rattle.store.specs.Meaning.{Meaning}
use Rattle.store.specs.Calls.{get_refusal}
use Rattle.closing.specs.Closings.{Closing, State, stands, sheet_said, file_said}
use Rattle.closing.specs.Holdings.{Represents}
use Rattle.closing.proofs.Fitting.{standing_get_node}
use Rattle.closing.proofs.Records.{balances_fit, leaf_inside, root_writable, tree_node_long}

-- the node of a leaf's path at a height, and the one beside it
pub path_low : (depth leaf height : ℕ) → leaf < 2 ^ depth → height ≤ depth → leaf / 2 ^ height < 2 ^ (depth - height)
path_low depth leaf height i g =
    let e : 2 ^ (depth - height) * 2 ^ height ≡ 2 ^ depth = sym (pow-add 2 (depth - height) height) ∙ ap (λ x. 2 ^ x) (let q : depth - height + height ≡ depth = omega arith in q) in
    (div-lt_iff_lt-mul {k = 2 ^ height} {x = leaf} {y = 2 ^ (depth - height)} (pow_pos height)).1 (omega arith)

pub step_low : (depth leaf height : ℕ) → leaf < 2 ^ depth → height < depth → beside (leaf / 2 ^ height) < 2 ^ (depth - height)
step_low depth leaf height i g =
    let d : depth - height ≡ suc (depth - height - 1) = omega arith in
    subst (λ x. beside (leaf / 2 ^ height) < 2 ^ x) (sym d)
    (beside_low (leaf / 2 ^ height) (depth - height - 1) (subst (λ x. leaf / 2 ^ height < 2 ^ x) d (path_low depth leaf height i (omega arith))))

-- one step more
module _ (k : Kind) (h : Hash) (closing : ℕ) (lines : List Line) (leaf : ℕ) where
  abbrev step : ℕ → List ℕ
  step height = node_bytes k (node_at k h closing lines height (beside (leaf / 2 ^ height)))

  steps_from : (more height : ℕ) → steps_bytes k (steps_beside k h closing lines leaf (suc more) height) ≡ steps_bytes k (steps_beside k h closing lines leaf more height) ++ step (height + more)
  steps_from zero height = append-nil (step height) ∙ ap step (sym (add-zero height))
  steps_from (suc more) height =
      ap (λ x. step height ++ x) (steps_from more (suc height) ∙ ap (λ x. steps_bytes k (steps_beside k h closing lines leaf more (suc height)) ++ step x) (let q : suc height + more ≡ height + suc more = omega arith in q))
      ∙ sym (append_assoc (step height) (steps_bytes k (steps_beside k h closing lines leaf more (suc height))) (step (height + suc more)))

  pub steps_more : (height : ℕ) → steps_bytes k (steps_beside k h closing lines leaf (height + 1) 0) ≡ steps_bytes k (steps_beside k h closing lines leaf height 0) ++ node_bytes k (node_at k h closing lines height (beside (leaf / 2 ^ height)))
  steps_more height =
      ap (λ x. steps_bytes k (steps_beside k h closing lines leaf x 0)) (let q : height + 1 ≡ suc height = omega arith in q)
      ∙ steps_from height 0
      ∙ ap (λ x. steps_bytes k (steps_beside k h closing lines leaf height 0) ++ step x) (let q : 0 + height ≡ height = omega arith in q)

module _ {k : Kind} (laws : Laws k) {h : Hash} (hashes : HashLaws h) (c : Closing) (ledger : Ledger k c.number c.depth c.lines) where
  pub sheet_said_long : length (sheet_said k h c) ≡ 39 + k.width
  sheet_said_long =
      omega (arith, length-append (be 4 c.number) (node_bytes k (node_at k h c.number c.lines c.depth 0)), be_length 4 c.number, tree_node_long laws hashes ledger c.depth 0 (omega arith) (pow_pos (c.depth - c.depth)))

  pub file_said_long : (leaf : ℕ) (l : Line) → slice_get c.lines leaf ≡ Some l → length (file_said k h c leaf l) ≡ file_length k.width c.depth
  file_said_long leaf l is =
      let one = ledger.lines_fit leaf l is in
      let f = line_file k h c.number c.lines c.depth leaf l in
      let fit = balances_fit ledger in
      let inside = leaf_inside ledger leaf l is in
      let whole = root_writable ledger laws h in
      let all = fits laws h hashes c.number c.lines fit c.depth leaf l is inside whole ledger.limits_good one.customer_long one.salt_long in
      let count = steps_count laws h hashes c.number c.lines fit c.depth leaf l is inside whole c.depth 0 in
      subst (λ d. length (file_bytes k h c.number d f) ≡ file_length k.width d) count (file_long k laws h c.number f all)

-- the steps of a line's file are there
module _ {k : Kind} {h : Hash} {nodes leaves : Meaning} {s : State} (r : Represents k h nodes leaves s) (n : ℕ) (c : Closing) (is : stands n s.standing ≡ Some c)
    (leaf : ℕ) (l : Line) (line : slice_get c.lines leaf ≡ Some l) (height : ℕ) (g : height < c.depth) where
  leaf_low : leaf < 2 ^ c.depth
  leaf_low = leaf_inside (r.good.standing_fits n c is).ledger leaf l line

  pub standing_get_step : get_refusal nodes c.number (place c.depth height (beside (leaf / 2 ^ height))) (32 + k.width) ≡ None
  standing_get_step = standing_get_node r n c is height (beside (leaf / 2 ^ height)) (omega arith) (step_low c.depth leaf height leaf_low g)

  pub standing_step : nodes.find c.number (place c.depth height (beside (leaf / 2 ^ height))) ≡ Some (node_bytes k (node_at k h c.number c.lines height (beside (leaf / 2 ^ height))))
  standing_step = (r.trees n c is).nodes_there height (beside (leaf / 2 ^ height)) (omega arith) (step_low c.depth leaf height leaf_low g)
