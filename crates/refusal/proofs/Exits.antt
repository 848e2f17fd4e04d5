-- The exit of a `?`: a callee's refusal handed on.
use Rattle.std.proofs.Common.{◌≡◌, IsErrAnd, Some, Ok, Err, Option, Result, sym, ap, ◌∙◌}
use Rattle.refusal.specs.declared.cases.Refusal.{Refusal}
use Rattle.refusal.specs.Tables.{Answers}

pub handed_on : {X : Type 0} (r : Result X Refusal) (why : Option Refusal) (right : X → Type 0) (e : Refusal) → IsErrAnd r (λ y. y ≡ e) → why ≡ Some e → Answers r why right
handed_on (Ok x) why right e h w = absurd h
handed_on (Err y) why right e h w = w ∙ ap Some (sym h)
