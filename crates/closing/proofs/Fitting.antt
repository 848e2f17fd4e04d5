-- Calls of the two stores that are not refused, and what a record there is read as.
use Rattle.std.proofs.Common.{◌≡◌, ℕ, ◌+◌, ◌-◌, ◌^◌, ◌<◌, ◌≤◌, Bool, true, false, cond, not, List, length, Some, None, sym, refl, ap, ◌∙◌, subst, arith, pow_pos, pow_mono}
use Rattle.std.specs.List.{slice_get}
use Rattle.refusal.specs.declared.cases.Refusal.TheVariants.{KeyOutside}
use Rattle.amount.specs.Kinds.{Kind}
use Rattle.digest.specs.Hashes.{Hash}
use Rattle.node.specs.Texts.{Line}
use Rattle.tree.specs.Trees.{place}
use Rattle.store.specs.Meaning.{Meaning, in_span, inside}
use Rattle.store.specs.Calls.{put_refusal, get_refusal, clear_refusal, Got}
use Rattle.store.proofs.Refusals.{put_open, get_open}
use Rattle.client.specs.Suits.{suits}
use Rattle.verify.proofs.Passing.{nth_inside}
use Rattle.closing.specs.Closings.{Closing, State, stands, open_refusal}
use Rattle.closing.specs.Holdings.{Fits, Represents}
use Rattle.closing.proofs.Stands.{no_some, same_some}
use Rattle.closing.proofs.Accepted.{opens}
use Rattle.closing.proofs.Goods.{two_powers, nodes_left, leaves_left}
use Rattle.closing.proofs.Counting.{suits_same, suits_width, suits_span, suits_inside}

-- leaf n of a tree stands after all inner nodes and before the end
pub leaf_place_inside : (depth n : ℕ) → n < 2 ^ depth → (1 ≤ 2 ^ depth + n) × (2 ^ depth + n < 2 ^ (depth + 1))
leaf_place_inside depth n i = (omega (arith, pow_pos depth), omega (arith, two_powers depth))

-- so does every node
pub place_inside : (depth height n : ℕ) → height ≤ depth → n < 2 ^ (depth - height) → (1 ≤ place depth height n) × (place depth height n < 2 ^ (depth + 1))
place_inside depth height n g i =
    let m : 2 ^ (depth - height) ≤ 2 ^ depth = pow_mono (let q : depth - height ≤ depth = omega arith in q) in
    (omega (arith, pow_pos (depth - height)), omega (arith, two_powers depth))

clear_open : (m : Meaning) (n : ℕ) → in_span m n ≡ true → clear_refusal m n ≡ None
clear_open m n e = ap (λ b. cond (not b) (Some KeyOutside) None) e

-- a record that is there is read
pub got_there : (m : Meaning) (c p : ℕ) (before after bytes : List ℕ) (found : Bool) → m.find c p ≡ Some bytes → Got m c p before after found → (found ≡ true) × (after ≡ bytes)
got_there m c p before after bytes true e g = (refl, same_some (sym g ∙ e))
got_there m c p before after bytes false e g = no_some (sym g.0 ∙ e)

module _ {k : Kind} {h : Hash} {nodes leaves : Meaning} {s : State} (r : Represents k h nodes leaves s) where
  -- the stores suit now what they suited at the start
  pub nodes_suit_now : (n depth : ℕ) → suits nodes (32 + k.width) n depth ≡ suits s.nodes.start (32 + k.width) n depth
  nodes_suit_now n depth = suits_same s.nodes.start nodes (32 + k.width) n depth r.nodes_counted.limits

  pub leaves_suit_now : (n depth : ℕ) → suits leaves (37 + k.width) n depth ≡ suits s.leaves.start (37 + k.width) n depth
  leaves_suit_now n depth = suits_same s.leaves.start leaves (37 + k.width) n depth r.leaves_counted.limits

  module _ (c : Closing) (fits : Fits k s.nodes.start s.leaves.start c) where
    pub nodes_suited : suits nodes (32 + k.width) c.number c.depth ≡ true
    nodes_suited = nodes_suit_now c.number c.depth ∙ fits.nodes_suit

    pub leaves_suited : suits leaves (37 + k.width) c.number c.depth ≡ true
    leaves_suited = leaves_suit_now c.number c.depth ∙ fits.leaves_suit

    pub node_inside : (p : ℕ) → 1 ≤ p → p < 2 ^ (c.depth + 1) → inside nodes c.number p ≡ true
    node_inside = suits_inside nodes (32 + k.width) c.number c.depth nodes_suited

    pub text_inside : (p : ℕ) → 1 ≤ p → p < 2 ^ (c.depth + 1) → inside leaves c.number p ≡ true
    text_inside = suits_inside leaves (37 + k.width) c.number c.depth leaves_suited

    pub node_width : 32 + k.width ≡ nodes.width
    node_width = sym (suits_width nodes (32 + k.width) c.number c.depth nodes_suited)

    pub text_width : 37 + k.width ≡ leaves.width
    text_width = sym (suits_width leaves (37 + k.width) c.number c.depth leaves_suited)

    pub nodes_clear : clear_refusal nodes c.number ≡ None
    nodes_clear = clear_open nodes c.number (suits_span nodes (32 + k.width) c.number c.depth nodes_suited)

    pub leaves_clear : clear_refusal leaves c.number ≡ None
    leaves_clear = clear_open leaves c.number (suits_span leaves (37 + k.width) c.number c.depth leaves_suited)

  -- the open ledger: its next leaf, and its end
  module _ (c : Closing) (is : s.ledger ≡ Some c) where
    pub open_put_node : length c.lines < 2 ^ c.depth → put_refusal nodes c.number (2 ^ c.depth + length c.lines) (32 + k.width) ≡ None
    open_put_node i =
        let fits = r.good.open_fits c is in
        let at = leaf_place_inside c.depth (length c.lines) i in
        put_open nodes c.number (2 ^ c.depth + length c.lines) (32 + k.width) (node_inside c fits (2 ^ c.depth + length c.lines) at.0 at.1) (node_width c fits)
        (λ _. omega (arith, nodes_left r.good c is i, pow_pos c.depth, r.nodes_counted.room_is))

    pub open_put_text : length c.lines < 2 ^ c.depth → put_refusal leaves c.number (2 ^ c.depth + length c.lines) (37 + k.width) ≡ None
    open_put_text i =
        let fits = r.good.open_fits c is in
        let at = leaf_place_inside c.depth (length c.lines) i in
        put_open leaves c.number (2 ^ c.depth + length c.lines) (37 + k.width) (text_inside c fits (2 ^ c.depth + length c.lines) at.0 at.1) (text_width c fits)
        (λ _. omega (arith, leaves_left r.good c is i, r.leaves_counted.room_is))

    pub open_clear : (clear_refusal nodes c.number ≡ None) × (clear_refusal leaves c.number ≡ None)
    open_clear = let fits = r.good.open_fits c is in (nodes_clear c fits, leaves_clear c fits)

  -- a closing to be opened
  pub opening_clear : (n depth : ℕ) → open_refusal k s n depth ≡ None → (clear_refusal nodes n ≡ None) × (clear_refusal leaves n ≡ None)
  opening_clear n depth e =
      let o = opens k s n depth e in (
        clear_open nodes n (suits_span nodes (32 + k.width) n depth (nodes_suit_now n depth ∙ o.nodes_suit)),
        clear_open leaves n (suits_span leaves (37 + k.width) n depth (leaves_suit_now n depth ∙ o.leaves_suit)),
      )

  -- a closing that stands: it can be cleared, and its nodes and its lines' texts can be had
  module _ (n : ℕ) (c : Closing) (is : stands n s.standing ≡ Some c) where
    pub standing_clear : (clear_refusal nodes n ≡ None) × (clear_refusal leaves n ≡ None)
    standing_clear =
        let fits = r.good.standing_fits n c is in
        subst (λ m. (clear_refusal nodes m ≡ None) × (clear_refusal leaves m ≡ None)) (r.good.number_is n c is) (nodes_clear c fits, leaves_clear c fits)

    pub standing_get_node : (height i : ℕ) → height ≤ c.depth → i < 2 ^ (c.depth - height) → get_refusal nodes c.number (place c.depth height i) (32 + k.width) ≡ None
    standing_get_node height i g low =
        let fits = r.good.standing_fits n c is in
        let at = place_inside c.depth height i g low in
        get_open nodes c.number (place c.depth height i) (32 + k.width) (node_inside c fits (place c.depth height i) at.0 at.1) (node_width c fits)

    pub standing_get_text : (i : ℕ) (l : Line) → slice_get c.lines i ≡ Some l → get_refusal leaves c.number (2 ^ c.depth + i) (37 + k.width) ≡ None
    standing_get_text i l there =
        let fits = r.good.standing_fits n c is in
        let at = leaf_place_inside c.depth i (omega (arith, nth_inside c.lines i l there, fits.ledger.lines_few)) in
        get_open leaves c.number (2 ^ c.depth + i) (37 + k.width) (text_inside c fits (2 ^ c.depth + i) at.0 at.1) (text_width c fits)
