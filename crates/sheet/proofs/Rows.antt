-- The table of a sheet, from what its reader found.
use Rattle.std.proofs.Common.{◌≡◌, ℕ, zero, suc, ◌+◌, ◌-◌, ◌<◌, ◌≤◌, Bool, true, false, not, ◌&&◌, T, eqb, List, [], ◌∷◌, ◌++◌, length, get_or, take, drop, is_some, Some, None, Option, sym, refl, ap, ◌∙◌, subst, arith, eqb→eq, length-drop, take-append-drop, get_or-drop, take_all}
use Rattle.std.specs.Option.{option_map}
use Rattle.std.proofs.lemmas.List.{drop-drop}
use Rattle.octets.specs.BigEndian.{be, value}
use Rattle.octets.proofs.Numbers.{be_value}
use Rattle.octets.proofs.Passes.{true_T, eqb_in, both_out}
use Rattle.refusal.specs.declared.cases.Refusal.{Refusal}
use Rattle.refusal.specs.declared.cases.Refusal.TheVariants.{BadLimits, BadAmount}
use Rattle.refusal.specs.Tables.{◌⇒◌, first}
use Rattle.amount.specs.Kinds.{Kind, Laws}
use Rattle.digest.specs.Hashes.{Hash}
use Rattle.node.specs.Texts.{Node, node_bytes, read_node}
use Rattle.tree.specs.Trees.{bad_limits}
use Rattle.sheet.specs.Layout.{sheet_bytes, sheet_refusal, read_sheet}

-- what stands behind the third byte, and behind the seventh
pub behind_3 : (s : List ℕ) → take (length s - 3) (drop 3 s) ≡ drop 3 s
behind_3 s = take_all (length s - 3) (drop 3 s) (simp length-drop (omega arith))

pub behind_7 : (s r : List ℕ) → r ≡ drop 3 s → take (length r - 4) (drop 4 r) ≡ drop 7 s
behind_7 s r e = take_all (length r - 4) (drop 4 r) (simp length-drop (omega arith)) ∙ ap (drop 4) e ∙ drop-drop 4 3 s

equal_kinds : (a b c d : ℕ) → not (eqb a b && eqb c d) ≡ false → (a ≡ b) × (c ≡ d)
equal_kinds a b c d e =
    let t : T (eqb a b && eqb c d) = kept (eqb a b && eqb c d) e in
    let p = both_out (eqb a b) (eqb c d) t in
    (eqb→eq a b p.0, eqb→eq c d p.1)
  where
    kept : (x : Bool) → not x ≡ false → T x
    kept true e = tt
    kept false e = absurd (let z : ◌≡◌ {A = ℕ} 0 1 = cc in omega arith)

-- four bytes read as a number and written again
pub four_back : (s : List ℕ) → 4 ≤ length s → ((i : ℕ) → get_or s i 0 < 256) → be 4 (value (take 4 s)) ≡ take 4 s
four_back [] l b = absurd (omega arith)
four_back (w ∷ []) l b = absurd (omega arith)
four_back (w ∷ x ∷ []) l b = absurd (omega arith)
four_back (w ∷ x ∷ y ∷ []) l b = absurd (omega arith)
four_back (w ∷ x ∷ y ∷ z ∷ s) l b = be_value (w ∷ x ∷ y ∷ z ∷ []) (fourth w x y z (b 0) (b 1) (b 2) (b 3))
  where
    fourth : (w x y z : ℕ) → w < 256 → x < 256 → y < 256 → z < 256 → (i : ℕ) → get_or (w ∷ x ∷ y ∷ z ∷ []) i 0 < 256
    fourth w x y z p q r t zero = p
    fourth w x y z p q r t (suc zero) = q
    fourth w x y z p q r t (suc (suc zero)) = r
    fourth w x y z p q r t (suc (suc (suc zero))) = t
    fourth w x y z p q r t (suc (suc (suc (suc i)))) = omega arith

pub bytes_behind : (n : ℕ) (s : List ℕ) → ((i : ℕ) → get_or s i 0 < 256) → (i : ℕ) → get_or (drop n s) i 0 < 256
bytes_behind n s b i = let e = get_or-drop n s i 0 in let q = b (n + i) in omega arith

-- a node read and written again
node_back : (k : Kind) → Laws k → (t : List ℕ) (x : Node) → read_node k t ≡ Some x → node_bytes k x ≡ t
node_back k laws t x e = found (k.read (drop 32 t)) refl e
  where
    found : (o : Option (List ℕ)) → k.read (drop 32 t) ≡ o → option_map (λ (a : List ℕ). record { digest = take 32 t; amount = a }) o ≡ Some x → node_bytes k x ≡ t
    found None r f = absurd (let z : ◌≡◌ {A = ℕ} 0 1 = cc in omega arith)
    found (Some m) r f =
        let d : record { digest = take 32 t; amount = m } ≡ x = cc in
        ap (node_bytes k) (sym d) ∙ ap (λ b. take 32 t ++ b) (laws.read_only (drop 32 t) m r).1 ∙ take-append-drop 32 t

-- seven bytes, and what stands behind them
seven : (s : List ℕ) → 7 ≤ length s → get_or s 0 0 ∷ get_or s 1 0 ∷ get_or s 2 0 ∷ (take 4 (drop 3 s) ++ drop 7 s) ≡ s
seven [] l = absurd (omega arith)
seven (x ∷ []) l = absurd (omega arith)
seven (x ∷ y ∷ []) l = absurd (omega arith)
seven (x ∷ y ∷ z ∷ s) l = ap (λ t. x ∷ y ∷ z ∷ t) (take-append-drop 4 s)

module _ (k : Kind) (h : Hash) (s : List ℕ) (long : length s ≡ 39 + k.width)
    (kinds : not (eqb (get_or s 0 0) k.number && eqb (get_or s 1 0) h.number) ≡ false)
    (n : ℕ) (number : n ≡ value (take 4 (drop 3 s))) where
  as_long : not (eqb (length s) (39 + k.width)) ≡ false
  as_long = ap not (true_T (eqb (length s) (39 + k.width)) (eqb_in (length s) (39 + k.width) long))

  pub at_limits : bad_limits n (get_or s 2 0) ≡ true → sheet_refusal k h s ≡ Some BadLimits
  at_limits bad =
      let b : bad_limits (value (take 4 (drop 3 s))) (get_or s 2 0) ≡ true = ap (λ m. bad_limits m (get_or s 2 0)) (sym number) ∙ bad in
      let a = as_long in
      let o = kinds in
      rw (a, o, b)

  module _ (good : bad_limits n (get_or s 2 0) ≡ false) where
    within : bad_limits (value (take 4 (drop 3 s))) (get_or s 2 0) ≡ false
    within = ap (λ m. bad_limits m (get_or s 2 0)) (sym number) ∙ good

    past_limits : sheet_refusal k h s ≡ first ((not (is_some (k.read (drop 39 s))) ⇒ BadAmount 39) ∷ [])
    past_limits = let a = as_long in let o = kinds in let b = within in rw (a, o, b)

    amount_at : (t : List ℕ) → t ≡ drop 7 s → drop 32 t ≡ drop 39 s
    amount_at t e = ap (drop 32) e ∙ drop-drop 32 7 s

    no_amount : (o : Option (List ℕ)) (e : Refusal) → first ((not (is_some o) ⇒ BadAmount 32) ∷ []) ≡ Some e → first ((not (is_some o) ⇒ BadAmount 39) ∷ []) ≡ Some (BadAmount 39)
    no_amount None e r = refl
    no_amount (Some m) e r = absurd (let z : ◌≡◌ {A = ℕ} 0 1 = cc in omega arith)

    an_amount : (o : Option (List ℕ)) → first ((not (is_some o) ⇒ BadAmount 32) ∷ []) ≡ None → first ((not (is_some o) ⇒ BadAmount 39) ∷ []) ≡ None
    an_amount None r = absurd (let z : ◌≡◌ {A = ℕ} 0 1 = cc in omega arith)
    an_amount (Some m) r = refl

    pub at_amount : (t : List ℕ) (e : Refusal) → t ≡ drop 7 s → first ((not (is_some (k.read (drop 32 t))) ⇒ BadAmount 32) ∷ []) ≡ Some e → sheet_refusal k h s ≡ Some (BadAmount 39)
    at_amount t e p r =
        past_limits ∙ no_amount (k.read (drop 39 s)) e (subst (λ x. first ((not (is_some (k.read x)) ⇒ BadAmount 32) ∷ []) ≡ Some e) (amount_at t p) r)

    -- the bytes are those of what was read
    same_bytes : Laws k → ((i : ℕ) → get_or s i 0 < 256) → (x : Node) → read_node k (drop 7 s) ≡ Some x → sheet_bytes k h (record { closing = n; depth = get_or s 2 0; root = x }) ≡ s
    same_bytes laws bytes x f =
        let e = equal_kinds (get_or s 0 0) k.number (get_or s 1 0) h.number kinds in
        let four : be 4 n ≡ take 4 (drop 3 s) = ap (be 4) number ∙ four_back (drop 3 s) (simp length-drop (omega arith)) (λ i. bytes_behind 3 s bytes i) in
        let node : node_bytes k x ≡ drop 7 s = node_back k laws (drop 7 s) x f in
        let front : (k.number ∷ h.number ∷ get_or s 2 0 ∷ be 4 n) ++ node_bytes k x ≡ get_or s 0 0 ∷ get_or s 1 0 ∷ get_or s 2 0 ∷ (take 4 (drop 3 s) ++ drop 7 s) =
        ap (λ y. y ∷ h.number ∷ get_or s 2 0 ∷ (be 4 n ++ node_bytes k x)) (sym e.0)
        ∙ ap (λ y. get_or s 0 0 ∷ y ∷ get_or s 2 0 ∷ (be 4 n ++ node_bytes k x)) (sym e.1)
        ∙ ap (λ y. get_or s 0 0 ∷ get_or s 1 0 ∷ get_or s 2 0 ∷ (y ++ node_bytes k x)) four
        ∙ ap (λ y. get_or s 0 0 ∷ get_or s 1 0 ∷ get_or s 2 0 ∷ (take 4 (drop 3 s) ++ y)) node in
        front ∙ seven s (omega arith)

    pub at_sheet : Laws k → ((i : ℕ) → get_or s i 0 < 256) → (t : List ℕ) (x : Node) → t ≡ drop 7 s → first ((not (is_some (k.read (drop 32 t))) ⇒ BadAmount 32) ∷ []) ≡ None → read_node k t ≡ Some x
        → (sheet_refusal k h s ≡ None) × ((read_sheet k h s ≡ Some (record { closing = n; depth = get_or s 2 0; root = x })) × (sheet_bytes k h (record { closing = n; depth = get_or s 2 0; root = x }) ≡ s))
    at_sheet laws bytes t x p r q =
        let f : read_node k (drop 7 s) ≡ Some x = ap (read_node k) (sym p) ∙ q in (
          past_limits ∙ an_amount (k.read (drop 39 s)) (subst (λ y. first ((not (is_some (k.read y)) ⇒ BadAmount 32) ∷ []) ≡ None) (amount_at t p) r),
          (
            ap (option_map (λ (m : Node). record { closing = value (take 4 (drop 3 s)); depth = get_or s 2 0; root = m })) f
                ∙ ap (λ (c : ℕ). Some (record { closing = c; depth = get_or s 2 0; root = x })) (sym number),
            same_bytes laws bytes x f,
          ),
        )
