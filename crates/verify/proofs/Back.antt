-- A file that is written reads back to what it says.
use Rattle.std.proofs.Common.{◌≡◌, ℕ, suc, ◌+◌, ◌*◌, ◌^◌, ◌<◌, cond, T, List, [], ◌∷◌, ◌++◌, length, take, drop, is_some, Some, None, Option, unwrap_or, sym, refl, ap, ◌∙◌, suc-mul, zero-mul, arith, length-append}
use Rattle.std.proofs.lemmas.List.{take_at, drop_at, drop-drop}
use Rattle.refusal.specs.declared.cases.Refusal.TheVariants.{BadAmount}
use Rattle.octets.specs.BigEndian.{be, value}
use Rattle.octets.proofs.Numbers.{be_length, value_be_small}
use Rattle.amount.specs.Kinds.{Kind, Laws}
use Rattle.digest.specs.Hashes.{Hash}
use Rattle.node.specs.Texts.{Node, node_bytes}
use Rattle.file.specs.Layout.{File, file_bytes, file_length, steps_bytes}
use Rattle.file.specs.Fields.{offset_at, step_index, field_bytes}
use Rattle.verify.specs.Paths.{amount_of, step_of, steps_of, file_of}
use Rattle.verify.specs.Checks.{or_else, field_refusal, first_from, amounts_refusal}

-- a node that has bytes
abbrev pub SoundNode : Kind → Node → Type 0
SoundNode k n = (length n.digest ≡ 32) × T (k.writable n.amount)

abbrev pub SoundNodes : Kind → List Node → Type 0
SoundNodes k [] = Unit {0}
SoundNodes k (n ∷ ns) = SoundNode k n × SoundNodes k ns

-- a line and the leaf number that it has
pub record Fits (k : Kind) (f : File) : Type 0 where
  pub leaf_small : f.leaf < 256 ^ 4
  pub customer_long : length f.line.customer ≡ 16
  pub salt_long : length f.line.salt ≡ 16
  pub balance_writable : T (k.writable f.line.balance)
  pub steps_sound : SoundNodes k f.steps

module _ (k : Kind) (laws : Laws k) where
  pub node_long : (n : Node) → SoundNode k n → length (node_bytes k n) ≡ 32 + k.width
  node_long n p = omega (arith, length-append n.digest (k.bytes n.amount), p.0, laws.bytes_width n.amount p.1)

  pub steps_long : (ns : List Node) → SoundNodes k ns → length (steps_bytes k ns) ≡ length ns * (32 + k.width)
  steps_long [] p = sym (zero-mul (32 + k.width))
  steps_long (n ∷ ns) p =
      omega (arith, length-append (node_bytes k n) (steps_bytes k ns), node_long n p.0, steps_long ns p.1, suc-mul (length ns) (32 + k.width))

  module _ (s : List ℕ) where
    module _ (j : ℕ) (n : Node) (rest : List ℕ) (p : SoundNode k n) (e : drop (43 + k.width + j * (32 + k.width)) s ≡ node_bytes k n ++ rest) where
      part : field_bytes k.width s (step_index j) ≡ node_bytes k n
      part = ap (take (32 + k.width)) e ∙ take_at (node_bytes k n) rest (32 + k.width) (node_long n p)

      amount_there : k.read (drop 32 (field_bytes k.width s (step_index j))) ≡ Some n.amount
      amount_there =
          ap (λ x. k.read (drop 32 x)) part ∙ ap k.read (drop_at n.digest (k.bytes n.amount) 32 p.0) ∙ laws.read_bytes n.amount p.1

      step_back : step_of k s j ≡ n
      step_back =
          ap (λ (d : List ℕ). record { digest = d; amount = amount_of k (drop 32 (field_bytes k.width s (step_index j))) }) (ap (take 32) part ∙ take_at n.digest (k.bytes n.amount) 32 p.0)
          ∙ ap (λ (o : Option (List ℕ)). record { digest = n.digest; amount = unwrap_or o [] }) amount_there

      step_passes : field_refusal k s (step_index j) ≡ None
      step_passes = ap (λ o. cond (is_some o) None (Some (BadAmount (offset_at k.width (step_index j) + 32)))) amount_there

      behind : drop (43 + k.width + suc j * (32 + k.width)) s ≡ rest
      behind =
          let next : 43 + k.width + suc j * (32 + k.width) ≡ 43 + k.width + j * (32 + k.width) + (32 + k.width) = omega (arith, suc-mul j (32 + k.width)) in
          ap (λ m. drop m s) next ∙ sym (drop-drop (32 + k.width) (43 + k.width + j * (32 + k.width)) s) ∙ ap (drop (32 + k.width)) e
          ∙ drop_at (node_bytes k n) rest (32 + k.width) (node_long n p)

    steps_back : (ns : List Node) (j : ℕ) → SoundNodes k ns → drop (43 + k.width + j * (32 + k.width)) s ≡ steps_bytes k ns → steps_of k s (length ns) j ≡ ns
    steps_back [] j p e = refl
    steps_back (n ∷ ns) j p e =
        ap (λ x. x ∷ steps_of k s (length ns) (suc j)) (step_back j n (steps_bytes k ns) p.0 e)
        ∙ ap (λ x. n ∷ x) (steps_back ns (suc j) p.1 (behind j n (steps_bytes k ns) p.0 e))

    steps_pass : (ns : List Node) (j : ℕ) → SoundNodes k ns → drop (43 + k.width + j * (32 + k.width)) s ≡ steps_bytes k ns → first_from (field_refusal k s) (length ns) (step_index j) ≡ None
    steps_pass [] j p e = refl
    steps_pass (n ∷ ns) j p e =
        ap (λ x. or_else x (first_from (field_refusal k s) (length ns) (step_index (suc j)))) (step_passes j n (steps_bytes k ns) p.0 e)
        ∙ steps_pass ns (suc j) p.1 (behind j n (steps_bytes k ns) p.0 e)

  -- the parts of a file that is written
  module _ (h : Hash) (closing : ℕ) (f : File) (fits : Fits k f) where
    abbrev pub written_file : List ℕ
    written_file = file_bytes k h closing (length f.steps) f

    d7 : drop 7 written_file ≡ be 4 f.leaf ++ (f.line.customer ++ (f.line.salt ++ (k.bytes f.line.balance ++ steps_bytes k f.steps)))
    d7 = refl

    d11 : drop 11 written_file ≡ f.line.customer ++ (f.line.salt ++ (k.bytes f.line.balance ++ steps_bytes k f.steps))
    d11 = sym (drop-drop 4 7 written_file) ∙ drop_at (be 4 f.leaf) (f.line.customer ++ (f.line.salt ++ (k.bytes f.line.balance ++ steps_bytes k f.steps))) 4 (be_length 4 f.leaf)

    d27 : drop 27 written_file ≡ f.line.salt ++ (k.bytes f.line.balance ++ steps_bytes k f.steps)
    d27 = sym (drop-drop 16 11 written_file) ∙ ap (drop 16) d11 ∙ drop_at f.line.customer (f.line.salt ++ (k.bytes f.line.balance ++ steps_bytes k f.steps)) 16 fits.customer_long

    d43 : drop 43 written_file ≡ k.bytes f.line.balance ++ steps_bytes k f.steps
    d43 = sym (drop-drop 16 27 written_file) ∙ ap (drop 16) d27 ∙ drop_at f.line.salt (k.bytes f.line.balance ++ steps_bytes k f.steps) 16 fits.salt_long

    wide : length (k.bytes f.line.balance) ≡ k.width
    wide = laws.bytes_width f.line.balance fits.balance_writable

    d_steps : drop (43 + k.width + 0 * (32 + k.width)) written_file ≡ steps_bytes k f.steps
    d_steps =
        ap (λ m. drop m written_file) (let q : 43 + k.width + 0 * (32 + k.width) ≡ 43 + k.width = omega (arith, zero-mul (32 + k.width)) in q)
        ∙ sym (drop-drop k.width 43 written_file) ∙ ap (drop k.width) d43 ∙ drop_at (k.bytes f.line.balance) (steps_bytes k f.steps) k.width wide

    balance_read : k.read (field_bytes k.width written_file 3) ≡ Some f.line.balance
    balance_read =
        ap (λ x. k.read (take k.width x)) d43 ∙ ap k.read (take_at (k.bytes f.line.balance) (steps_bytes k f.steps) k.width wide)
        ∙ laws.read_bytes f.line.balance fits.balance_writable

    leaf_back : value (take 4 (drop 7 written_file)) ≡ f.leaf
    leaf_back =
        ap value (take_at (be 4 f.leaf) (f.line.customer ++ (f.line.salt ++ (k.bytes f.line.balance ++ steps_bytes k f.steps))) 4 (be_length 4 f.leaf))
        ∙ value_be_small 4 f.leaf fits.leaf_small

    customer_back : field_bytes k.width written_file 1 ≡ f.line.customer
    customer_back = ap (take 16) d11 ∙ take_at f.line.customer (f.line.salt ++ (k.bytes f.line.balance ++ steps_bytes k f.steps)) 16 fits.customer_long

    salt_back : field_bytes k.width written_file 2 ≡ f.line.salt
    salt_back = ap (take 16) d27 ∙ take_at f.line.salt (k.bytes f.line.balance ++ steps_bytes k f.steps) 16 fits.salt_long

    pub file_back : file_of k (length f.steps) written_file ≡ f
    file_back =
        let steps = steps_back written_file f.steps 0 fits.steps_sound d_steps in
        let all : (n : ℕ) (c t b : List ℕ) (ns : List Node) → File = λ n c t b ns. record { leaf = n; line = record { customer = c; salt = t; balance = b }; steps = ns } in
        let balance : amount_of k (field_bytes k.width written_file 3) ≡ f.line.balance = ap (λ o. unwrap_or o []) balance_read in
        ap (λ n. all n (field_bytes k.width written_file 1) (field_bytes k.width written_file 2) (amount_of k (field_bytes k.width written_file 3)) (steps_of k written_file (length f.steps) 0)) leaf_back
        ∙ ap (λ c. all f.leaf c (field_bytes k.width written_file 2) (amount_of k (field_bytes k.width written_file 3)) (steps_of k written_file (length f.steps) 0)) customer_back
        ∙ ap (λ t. all f.leaf f.line.customer t (amount_of k (field_bytes k.width written_file 3)) (steps_of k written_file (length f.steps) 0)) salt_back
        ∙ ap (λ b. all f.leaf f.line.customer f.line.salt b (steps_of k written_file (length f.steps) 0)) balance
        ∙ ap (λ ns. all f.leaf f.line.customer f.line.salt f.line.balance ns) steps

    pub amounts_pass : amounts_refusal k (length f.steps) written_file ≡ None
    amounts_pass =
        ap (λ m. first_from (field_refusal k written_file) m 0) (let q : 4 + length f.steps ≡ suc (suc (suc (suc (length f.steps)))) = omega arith in q)
        ∙ ap (λ o. or_else (cond (is_some o) None (Some (BadAmount 43))) (first_from (field_refusal k written_file) (length f.steps) 4)) balance_read
        ∙ steps_pass written_file f.steps 0 fits.steps_sound d_steps

    pub file_long : length written_file ≡ file_length k.width (length f.steps)
    file_long =
        let steps = steps_bytes k f.steps in
        let b = k.bytes f.line.balance in
        omega (
          arith,
          length-append (be 4 f.leaf) (f.line.customer ++ (f.line.salt ++ (b ++ steps))),
          be_length 4 f.leaf,
          length-append f.line.customer (f.line.salt ++ (b ++ steps)),
          fits.customer_long,
          length-append f.line.salt (b ++ steps),
          fits.salt_long,
          length-append b steps,
          wide,
          steps_long f.steps fits.steps_sound,
        )
