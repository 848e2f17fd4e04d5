use Rattle.std.proofs.Common.{◌≡◌, ◌+◌, ◌^◌, sym, ap, subst}
use Rattle.node.specs.Texts.{Line, node_bytes, leaf_node, leaf_text}
use Rattle.store.specs.Meaning.{Meaning}
use Rattle.store.specs.Calls.{Put}
use Rattle.custodian.specs.Keeping.{KeepsOpen}
use Rattle.custodian.proofs.Calls.{enter_denied, enter_puts, keeps_entered, same_digest_open}
use Rattle.custodian.proofs.Ledger.enter.Goals as goal

pub returns-in_err-line-clause-entered : goal.returns-in_err-line-clause-entered
returns-in_err-line-clause-entered g c s open' =
    let w = g.met.A.Amount.sound c.args.balance in
    subst (KeepsOpen _ _ _ _ _ _ _ _ _) (sym (enter_denied open' c.args.customer.now c.args.salt.now (g.A.Amount.meaning c.args.balance) w _ (c.in_err-line.ensures.table s open')).1) open'

pub returns-clause-entered : goal.returns-clause-entered
returns-clause-entered g c s open' =
    let k = g.A.Amount.kind in
    let was = c.args.self.now in
    let balance = g.A.Amount.meaning c.args.balance in
    let w = g.met.A.Amount.sound c.args.balance in
    let x = was.stand.closing.0 in
    let p = c.leaf_count.result + was.stand.lines in
    let at : p ≡ 2 ^ was.stand.depth + was.stand.lines = ap (λ n. n + was.stand.lines) (c.leaf_count.ensures.leaves c.in_ok-line.ensures.low.0) in
    let m : Meaning = g.N.NodeStore.meaning was.of.nodes in
    let m' : Meaning = g.N.NodeStore.meaning c.put_line.new.self.nodes in
    let l : Meaning = g.L.NodeStore.meaning was.of.leaves in
    let l' : Meaning = g.L.NodeStore.meaning c.put_line.new.self.leaves in
    let t = c.in_ok-line.ensures.table s open' in
    let puts = enter_puts open' c.args.customer.now c.args.salt.now balance w t.0 p at in
    let a = subst (λ (y : Line). Put m m' x p (node_bytes k (leaf_node k (g.D.Digest.hash was.of.digest) x y))) t.1.0 (c.put_line.ensures.node puts.0) in
    let b = subst (λ (y : Line). Put l l' x p (leaf_text k x y)) t.1.0 (c.put_line.ensures.text puts.1) in
    let rest = c.put_line.ensures.rest in
    same_digest_open g.D.Digest.hash was.of.digest _ rest.0 (keeps_entered open' c.args.customer.now c.args.salt.now balance w t.0 p at a b rest.1 t.1.1)
