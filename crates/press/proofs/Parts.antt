-- Parts written one behind the other.
use Rattle.std.proofs.Common.{◌≡◌, ℕ, ◌+◌, ◌-◌, ◌≤◌, ltb, List, [], ◌∷◌, ◌++◌, length, take, drop, None, ap, ◌∙◌, arith, length-drop, length-take-le, take_all}
use borrow.Rule.Slice.PartMut.{put_mid}
use Rattle.std.proofs.lemmas.Bool.{le-ltb}
use Rattle.refusal.specs.declared.cases.Refusal.TheVariants.{BufferTooShort}
use Rattle.refusal.specs.Tables.{◌⇒◌, first, written}
use Rattle.node.proofs.NodeBytes.{two_parts}

-- a part put behind what is written
pub behind : (out said o b : List ℕ) (at k : ℕ) → length said ≡ at → out ≡ written said o → k ≡ length b → put_mid at k out b ≡ written (said ++ b) o
behind out said o b at k l e w =
    ap (λ x. put_mid at k x b) (e ∙ ap (λ n. said ++ drop n o) l) ∙ two_parts o said b at k l w

-- how long a part is
pub part_long : (out : List ℕ) (at w : ℕ) → at + w ≤ length out → length (take (at + w - at) (drop at out)) ≡ w
part_long out at w r = length-take-le (at + w - at) (drop at out) (omega (arith, length-drop at out)) ∙ (let q : at + w - at ≡ w = omega arith in q)

-- the bytes behind the fifth
pub rest : (s : List ℕ) → take (length s - 5) (drop 5 s) ≡ drop 5 s
rest s = take_all (length s - 5) (drop 5 s) (simp length-drop (omega arith))

-- a buffer that is long enough is not refused
pub enough : (n m : ℕ) → m ≤ n → first ((ltb n m ⇒ BufferTooShort) ∷ []) ≡ None
enough n m l = ap (λ b. first ((b ⇒ BufferTooShort) ∷ [])) (le-ltb n m l)
