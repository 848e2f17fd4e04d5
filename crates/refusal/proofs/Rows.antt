-- A table read row by row.
use Rattle.std.proofs.Common.{◌≡◌, Bool, true, false, cond, List, ◌∷◌, Some, Option, Result, sym, ap, subst}
use Rattle.refusal.specs.declared.cases.Refusal.{Refusal}
use Rattle.refusal.specs.Tables.{Row, ◌⇒◌, first, Answers}

pub skip : (b : Bool) (r : Refusal) (rows : List Row) → b ≡ false → first ((b ⇒ r) ∷ rows) ≡ first rows
skip b r rows e = ap (λ x. cond x (Some r) (first rows)) e

pub stop : (b : Bool) (r : Refusal) (rows : List Row) → b ≡ true → first ((b ⇒ r) ∷ rows) ≡ Some r
stop b r rows e = ap (λ x. cond x (Some r) (first rows)) e

-- an answer by an equal table
pub by : {X : Type 0} (a : Result X Refusal) (why other : Option Refusal) (right : X → Type 0) → other ≡ why → Answers a why right → Answers a other right
by a why other right e h = subst (λ w. Answers a w right) (sym e) h
