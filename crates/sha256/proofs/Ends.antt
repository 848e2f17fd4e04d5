-- The end of a text.
use Rattle.std.proofs.Common.{◌≡◌, ℕ, zero, suc, ◌+◌, ◌-◌, ◌*◌, ◌/◌, ◌%◌, ◌<◌, ◌≤◌, List, [], ◌∷◌, ◌++◌, length, take, drop, fold, set, replicate, sym, refl, ap, ◌∙◌, arith, length-append, length-drop}
use lib.ListN.{length-replicate}
use borrow.Rule.Slice.PartMut.{put_mid}
use Rattle.std.specs.Simd.{first_chunks}
use Rattle.std.proofs.lemmas.List.{take-replicate, drop-replicate, take-append-le, drop-append-le, drop-drop, drop_all, append-nil}
use Rattle.octets.specs.BigEndian.{be}
use Rattle.sha256.specs.Sha256.{bytes, ending, padded, chaining, compress, sha256}
use Rattle.sha256.proofs.Chunks.{blocks_on}

-- 0x80 and the length written over zero bytes
pub last_is : (out rest e b : List ℕ) (size : ℕ) → out ≡ replicate (length out) 0 → length rest + 9 ≤ length out → e ≡ drop (length rest) out → b ≡ be 8 (size * 8)
    → put_mid (length (set e 0 128) - 8) (length (set e 0 128) - (length (set e 0 128) - 8)) (set e 0 128) b ≡ ending (length out - 9 - length rest) size
unfolding ending
last_is out rest e b size o l p q =
    let n = length rest in
    let z = length out - 9 - n in
    let a : length out - n ≡ suc (z + 8) = omega arith in
    let f : e ≡ 0 ∷ replicate (z + 8) 0 = p ∙ ap (drop n) o ∙ drop-replicate n (length out) 0 ∙ ap (λ x. replicate x 0) a in
    let s : set e 0 128 ≡ 128 ∷ replicate (z + 8) 0 = ap (λ x. set x 0 128) f in
    let x = 128 ∷ replicate (z + 8) 0 in
    let k : length {A = ℕ} x ≡ z + 9 = simp length-replicate (omega arith) in
    let at : length {A = ℕ} x - 8 ≡ suc z = omega arith in
    let j = length {A = ℕ} x - suc z in
    let front : take (suc z) x ≡ 128 ∷ replicate z 0 = ap (λ y. 128 ∷ y) (take-replicate z (z + 8) 0 (omega arith)) in
    let none : drop j (drop (suc z) x) ≡ [] = drop-drop j (suc z) x ∙ drop_all (suc z + j) x (omega arith) in
    ap (λ y. put_mid (length y - 8) (length y - (length y - 8)) y b) s
    ∙ ap (λ i. put_mid i (length {A = ℕ} x - i) x b) at
    ∙ ap (λ y. y ++ (b ++ drop j (drop (suc z) x))) front
    ∙ ap (λ y. (128 ∷ replicate z 0) ++ (b ++ y)) none
    ∙ ap (λ y. (128 ∷ replicate z 0) ++ y) (append-nil b ∙ q)

chaining_front : (n : ℕ) (s t : List ℕ) → n * 64 ≤ length s → chaining n (s ++ t) ≡ chaining n s
unfolding chaining
chaining_front zero s t h = refl
chaining_front (suc n) s t h =
    let r = chaining_front n s t (omega arith) in
    let d = drop-append-le (n * 64) s t (omega arith) in
    let m : 64 ≤ length (drop (n * 64) s) = simp length-drop (omega arith) in
    let e = take-append-le 64 (drop (n * 64) s) t m in
    ap (λ x. compress x (take 64 (drop (n * 64) (s ++ t)))) r ∙ ap (λ x. compress (chaining n s) (take 64 x)) d ∙ ap (compress (chaining n s)) e

ending_length : (z n : ℕ) → length (ending z n) ≡ z + 9
unfolding ending
ending_length z n = simp (length-append, length-replicate) (omega arith)

-- a text whose whole blocks were taken, and what is left of it with its ending
pub ends : (s rest b h : List ℕ) (z : ℕ) → rest ≡ drop (length s / 64 * 64) s → h ≡ chaining (length s / 64) s → b ≡ rest ++ ending z (length s)
    → (length rest + z + 9) % 64 ≡ 0 → z < 64 → bytes (fold compress h (first_chunks 64 (length b / 64) b)) ≡ sha256 s
unfolding sha256 padded
ends s rest b h z r p q m l =
    let n = length s / 64 in
    let t = ending z (length s) in
    let lr : length rest ≡ length s % 64 = ap length r ∙ length-drop (n * 64) s ∙ (let a : length s - n * 64 ≡ length s % 64 = omega arith in a) in
    let zs : z ≡ (119 - length s % 64) % 64 = omega arith in
    let lt : length t ≡ z + 9 = ending_length z (length s) in
    let lb : length b ≡ length rest + (z + 9) = ap length q ∙ length-append rest t ∙ ap (λ x. length rest + x) lt in
    let ls : length (s ++ t) ≡ length s + (z + 9) = length-append s t ∙ ap (λ x. length s + x) lt in
    let j : length (s ++ t) / 64 ≡ n + length b / 64 = omega arith in
    let f : h ≡ chaining n (s ++ t) = p ∙ sym (chaining_front n s t (omega arith)) in
    let d : b ≡ drop (n * 64) (s ++ t) = q ∙ ap (λ x. x ++ t) r ∙ sym (drop-append-le (n * 64) s t (omega arith)) in
    ap bytes (ap (λ x. fold compress x (first_chunks 64 (length b / 64) b)) f ∙ ap (λ x. fold compress (chaining n (s ++ t)) (first_chunks 64 (length b / 64) x)) d
    ∙ blocks_on (s ++ t) (length b / 64) n (length (s ++ t) / 64) j
    ∙ ap (λ x. chaining (length (s ++ ending x (length s)) / 64) (s ++ ending x (length s))) zs)
