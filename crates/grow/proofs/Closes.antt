-- A closing whose tree is grown stands.
use Rattle.std.proofs.Common.{◌≡◌, ◌+◌, ◌-◌, ◌^◌, length, Some, ◌∙◌, subst, inl, inr, arith}
use Rattle.amount.specs.Kinds.{Kind}
use Rattle.digest.specs.Hashes.{Hash}
use Rattle.store.specs.Meaning.{Meaning}
use Rattle.store.specs.Counts.{held}
use Rattle.store.proofs.Rooms.{held_same}
use Rattle.client.proofs.Fills.{limits_join}
use Rattle.closing.specs.Closings.{Closing, State, closed}
use Rattle.closing.specs.Holdings.{HoldsTree, HoldsTexts, Represents}
use Rattle.closing.proofs.Stands.{no_some, stands_either}
use Rattle.closing.proofs.Goods.{good_closed, two_powers}
use Rattle.closing.proofs.Counting.{taken_at}
use Rattle.closing.proofs.Fitting.{nodes_suited}
use Rattle.closing.proofs.Steps.{standing_apart, tree_same}
use Rattle.grow.specs.Growing.{Ripe, Grown}

module _ {k : Kind} {h : Hash} {nodes leaves : Meaning} {s : State} (r : Represents k h nodes leaves s) (c : Closing) (is : s.ledger ≡ Some c) where
  -- the open ledger can be grown
  pub ripe : Ripe k h nodes c
  ripe = record {
    ledger = (r.good.open_fits c is).ledger;
    suit = nodes_suited r c (r.good.open_fits c is);
    room = omega (arith, r.good.open_nodes_room c is, r.nodes_counted.room_is);
    leaves = r.open_leaves c is;
  }

  pub represents_closed : {now : Meaning} → Grown k h nodes now c → Represents k h now leaves (closed k s c)
  represents_closed {now} g =
      let more = 2 ^ (c.depth + 1) - 1 - length c.lines in
      let counted = r.nodes_counted in
      let few = (r.good.open_fits c is).ledger.lines_few in
      let room : now.room ≡ s.nodes.room - more = omega (arith, g.room, counted.room_is, r.good.open_nodes_room c is, few, two_powers c.depth) in
      let full : held now c.number ≡ s.nodes.held_of c.number + more =
      omega (arith, g.held_too, g.room, counted.room_is, counted.held_is c.number, r.good.open_nodes_room c is, few, two_powers c.depth) in
      record {
        good = good_closed r.good c is;
        nodes_counted = record {
          limits = limits_join s.nodes.start nodes now counted.limits g.limits;
          room_is = room;
          held_is = taken_at (held now) s.nodes.held_of c.number more full (λ d apart. held_same nodes now d g.limits.bound (λ p. g.others d p apart) ∙ counted.held_is d);
        };
        leaves_counted = r.leaves_counted;
        trees = λ n x e. elim (stands_either n s.standing c x e) [
          | inl f ↦ tree_same (λ p. g.others x.number p (standing_apart r c is n x f)) (r.trees n x f)
          | inr f ↦ subst (HoldsTree k h now) f.1 g.tree
        ];
        texts = λ n x e. elim (stands_either n s.standing c x e) [ inl f ↦ r.texts n x f | inr f ↦ subst (HoldsTexts k h leaves) f.1 (r.open_texts c is) ];
        open_leaves = λ x e. no_some e;
        open_texts = λ x e. no_some e;
      }
