use Rattle.std.proofs.Common.{◌≡◌, ◌+◌, MatchOption, Some, Ok, Err, Option, Result, rules, sym, subst}
use Rattle.std.specs.Result.{result_ok}
use Rattle.refusal.specs.declared.cases.Refusal.{Refusal}
use Rattle.refusal.specs.Tables.{Answers}
use Rattle.node.specs.Meant.{node_of}
use Rattle.store.specs.Meaning.{Meaning}
use Rattle.client.proofs.Fetches.{fetched_is}
use Rattle.grow.proofs.Stored.{same_node, node_unrefused}
use Rattle.grow.proofs.get_node.Goals as goal

-- an answer that is not refused, as an option
at_ok : {X : Type 0} (r : Result X Refusal) (table : Option Refusal) (right P : X → Type 0) → Answers r table right → ((y : X) → right y → P y) → ((e : Refusal) → table ≡ Some e → ⊥) → MatchOption (result_ok r) ⊥ P
at_ok (Ok y) table right P a is not = is y a.1
at_ok (Err e) table right P a is not = not e a

pub returns-clause-found : goal.returns-clause-found
returns-clause-found g c x whole f =
    let k = g.A.Amount.kind in
    let m : Meaning = g.N.NodeStore.meaning c.args.nodes.now in
    let e = fetched_is m c.args.key.closing.0 c.args.key.place.0 _ (32 + k.width) _ _ _ c.fetch.ensures.filled (search rules) f in
    subst (λ o. MatchOption o ⊥ (λ n. node_of g.A.Amount.meaning n ≡ x)) (sym c.ok.ensures.value)
    (at_ok c.read_node.result _ _ _ c.read_node.ensures
    (λ y is. same_node k g.met.A.Amount.lawful x (node_of g.A.Amount.meaning y) c.fetch.new.into whole.digest_long whole.amount_writable e is)
    (λ r is. node_unrefused k g.met.A.Amount.lawful x c.fetch.new.into r whole.digest_long whole.amount_writable e is))
