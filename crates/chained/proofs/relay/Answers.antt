use Rattle.std.proofs.Common.{refl, ◌≡◌, ℕ, suc, ◌+◌, ◌≤◌, cond, eqb, List, sym, ap, ◌∙◌, subst, add-one, arith}
use Rattle.store.proofs.Tallies.{bit_byte, bit_le}
use Rattle.memory.specs.Four.{be4}
use Rattle.chained_theory.specs.Layout.{start_of, next_at, closing_at, place_at, count_of, without, home_of, front_of}
use Rattle.chained_theory.specs.Links.{Laid, Fronted, Forgot}
use Rattle.chained_theory.proofs.Writes.{fronts, past_same}
use Rattle.chained_theory.proofs.Fronts.{more_laid, more_counts, home_high}
use Rattle.chained_theory.proofs.Relays.{nothing_laid, nothing_forgot, more_forgot, more_nexts, past_forgot}
use Rattle.chained.specs.Forgets.{every, which}
use Rattle.chained.proofs.relay.Goals as goal

pub loop-i-init : goal.loop-i-init
loop-i-init c = record {
  laid = nothing_laid _ c.args.width c.zero_heads.ensures.zero;
  nexts = λ y a h. absurd (omega arith);
  few = omega arith;
  counted = omega arith;
  forgot = nothing_forgot _ c.args.width c.args.count _ _;
}

pub loop-i-preserved : goal.loop-i-preserved
unfolding closing_at place_at
loop-i-preserved c =
    let m : List ℕ = c.loop-i.memory in
    let m' : List ℕ = c.front_of.new.memory in
    let before : List ℕ = c.zero_heads.new.memory in
    let i = c.loop-i.i in
    let w = c.args.width in
    let n = c.args.count in
    let inv = c.loop-i.invariant in
    let all = every c.args.forgotten in
    let gone = which c.args.forgotten in
    let at : c.start-at.result ≡ start_of w (suc i) = c.start-at.ensures ∙ ap (start_of w) (add-one i) in
    let k : ℕ = without all gone (closing_at m w (suc i)) in
    let p : ℕ = place_at m w (suc i) in
    let ke : c.left-closing.result ≡ k = c.left-closing.ensures ∙ ap (without all gone) (c.read4.ensures ∙ ap (λ a. be4 m (a + 4)) at) in
    let be : c.home-chain.result ≡ home_of k p = c.home-chain.ensures ∙ ap (λ z. home_of z c.read4-in-loop-i.result) ke ∙ ap (home_of k) (c.read4-in-loop-i.ensures ∙ ap (λ a. be4 m (a + 8)) at) in
    let e : m' ≡ front_of m (start_of w (suc i)) (suc i) (home_of k p) k = cc (add-one i) in
    let u : Fronted m m' w n (suc i) (home_of k p) k = subst (λ xs. Fronted m xs w n (suc i) (home_of k p) k) (sym e) (fronts m w n (suc i) (home_of k p) k (omega arith) (omega arith) (omega arith) (home_high k p)) in
    let up : suc i ≡ i + 1 = sym (add-one i) in
    let bit : c.from-free.result ≡ cond {A = ℕ} (eqb k 0) 1 0 = c.from-free.ensures ∙ bit_byte (eqb c.left-closing.result 0) ∙ ap (λ z. cond {A = ℕ} (eqb z 0) 1 0) ke in
    let more : c.loop-i.free + c.from-free.result ≡ count_of m' w (suc i) 0 = omega (arith, bit, inv.counted, more_counts m m' w n i k inv.laid (omega arith) u) in
    record {
      laid = subst (λ z. Laid m' w z) up (more_laid m m' w n i k inv.laid (omega arith) u);
      nexts = subst (λ z. (y : ℕ) → 1 ≤ y → y ≤ z → next_at m' w y ≤ z) up (more_nexts before m m' w n i (home_of k p) gone all inv.forgot (omega arith) u inv.laid (home_high k p) inv.nexts);
      few = omega (arith, bit, bit_le (eqb k 0), inv.few);
      counted = more ∙ ap (λ z. count_of m' w z 0) up;
      forgot = subst (λ z. Forgot before m' w n z all gone) up (more_forgot before m m' w n i (home_of k p) gone all inv.forgot (omega arith) u);
    }

pub returns-clause-forgot : goal.returns-clause-forgot
returns-clause-forgot c =
    let w = c.args.width in
    let n = c.args.count in
    let before : List ℕ = c.zero_heads.new.memory in
    let past = past_same c.args.memory.now before w c.zero_heads.auto.memory c.zero_heads.ensures.rest in
    past_forgot c.args.memory.now before c.loop-i.memory w n n (which c.args.forgotten) (every c.args.forgotten) past
    (subst (λ z. Forgot before c.loop-i.memory w n z (every c.args.forgotten) (which c.args.forgotten)) (omega arith) c.loop-i.invariant.forgot)
