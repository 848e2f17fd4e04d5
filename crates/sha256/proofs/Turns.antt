-- One more turn of each loop.
use Rattle.std.proofs.Common.{◌≡◌, ℕ, suc, ◌+◌, ◌-◌, ◌<◌, ◌≤◌, List, [], ◌∷◌, ◌++◌, length, take, set, sym, ap, ◌∙◌, add-one, arith, get_or-take, take-suc-set}
use Rattle.sha256.specs.Sha256.{word_at, words, next, scheduled}

pub words_more : (w s : List ℕ) (t v : ℕ) → t < length w → take t w ≡ words t s → v ≡ word_at s t → take (t + 1) (set w t v) ≡ words (t + 1) s
unfolding words
words_more w s t v h e f =
    rw (add-one t) (take-suc-set w t v h ∙ ap (λ l. l ++ (v ∷ [])) e ∙ ap (λ x. words t s ++ (x ∷ [])) f)

-- the next word looks only at those before it
next_word_front : (w : List ℕ) (t : ℕ) → 16 ≤ t → next (take t w) t ≡ next w t
unfolding next
next_word_front w t h =
    let a = get_or-take t w (t - 2) 0 (omega arith) in
    let b = get_or-take t w (t - 7) 0 (omega arith) in
    let c = get_or-take t w (t - 15) 0 (omega arith) in
    let d = get_or-take t w (t - 16) 0 (omega arith) in
    cc

pub scheduled_more : (w s : List ℕ) (t v : ℕ) → 16 ≤ t → t < length w → take t w ≡ scheduled (t - 16) s → v ≡ next w t → take (t + 1) (set w t v) ≡ scheduled (t + 1 - 16) s
unfolding scheduled
scheduled_more w s t v l h e f =
    let p : t + 1 - 16 ≡ suc (t - 16) = omega arith in
    let q : 16 + (t - 16) ≡ t = omega arith in
    let n : v ≡ next (scheduled (t - 16) s) (16 + (t - 16)) = f ∙ sym (next_word_front w t l) ∙ ap (λ x. next x t) e ∙ ap (next (scheduled (t - 16) s)) (sym q) in
    rw (p, add-one t) (take-suc-set w t v h ∙ ap (λ x. x ++ (v ∷ [])) e ∙ ap (λ x. scheduled (t - 16) s ++ (x ∷ [])) n)
