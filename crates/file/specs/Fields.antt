-- The fields of a file of known depth, as parts of the file itself.
use Rattle.std.specs.Prelude.{◌≡◌, ℕ, zero, suc, ◌+◌, ◌*◌, ◌≤◌, cond, ◌&&◌, List, take, drop, codes, ◌==◌, nat_le}
use Rattle.file.specs.declared.types.Field.{Field}
use Rattle.file.specs.declared.types.Field.TheVariants.{Head, Customer, Salt, Balance, Step}
use Rattle.file.specs.declared.types.Found.{Found}
use Rattle.file.specs.Layout.{file_length}

-- head, customer number, salt, balance, then the steps
abbrev pub offset_at : ℕ → ℕ → ℕ
offset_at width zero = 0
offset_at width (suc zero) = 11
offset_at width (suc (suc zero)) = 27
offset_at width (suc (suc (suc zero))) = 43
offset_at width (suc (suc (suc (suc j)))) = 43 + width + j * (32 + width)

abbrev pub length_at : ℕ → ℕ → ℕ
length_at width zero = 11
length_at width (suc zero) = 16
length_at width (suc (suc zero)) = 16
length_at width (suc (suc (suc zero))) = width
length_at width (suc (suc (suc (suc j)))) = 32 + width

-- which field step j is
abbrev pub step_index : ℕ → ℕ
step_index j = suc (suc (suc (suc j)))

-- field i of a file
abbrev pub field_bytes : ℕ → List ℕ → ℕ → List ℕ
field_bytes width file i = take (length_at width i) (drop (offset_at width i) file)

-- a field of the code: which one it is, of the first four and a step, and its bytes
abbrev pub HasIndex : ℕ → Field → Type 0
HasIndex i (Head p) = i ≡ 0
HasIndex i (Customer p) = i ≡ 1
HasIndex i (Salt p) = i ≡ 2
HasIndex i (Balance p) = i ≡ 3
HasIndex i (Step p) = 4 ≤ i

abbrev pub bytes_of : Field → List ℕ
bytes_of (Head p) = p.now
bytes_of (Customer p) = p.now
bytes_of (Salt p) = p.now
bytes_of (Balance p) = p.now
bytes_of (Step p) = p.now

-- what a field is called
abbrev pub name_of : Field → List ℕ
name_of (Head p) = codes "head"
name_of (Customer p) = codes "customer"
name_of (Salt p) = codes "salt"
name_of (Balance p) = codes "balance"
name_of (Step p) = codes "step"

-- it is field i of the file, and says where it stands
pub record IsField (width : ℕ) (file : List ℕ) (i : ℕ) (f : Found) : Type 0 where
  pub named : HasIndex i f.field
  pub offset_is : f.offset ≡ offset_at width i
  pub bytes_are : bytes_of f.field ≡ field_bytes width file i

-- how many fields a file of a depth has: none where its length is another, or the depth is over 20
abbrev pub field_count : ℕ → ℕ → ℕ → ℕ
field_count width depth size = cond (nat_le depth 20 && size == file_length width depth) (4 + depth) 0
