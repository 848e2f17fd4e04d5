-- One step of the reader of a file's fields.
use Rattle.std.specs.Prelude.{◌≡◌, ℕ, ◌+◌, ◌-◌, ◌<◌, ◌≤◌, Option, MatchOption}
use Rattle.file.specs.declared.Fields.{Fields}
use Rattle.file.specs.declared.types.Found.{Found}
use Rattle.file.specs.Fields.{IsField}

-- how many fields are left
abbrev pub left : Fields → ℕ
left s = s.count - s.index

-- it is a reader of the same file, and the field in turn was handed out, or none was left
pub record Steps (s : Fields) (o : Option Found) (t : Fields) : Type 0 where
  pub file : t.file.now ≡ s.file.now
  pub width : t.width ≡ s.width
  pub count : t.count ≡ s.count
  pub found : MatchOption o ((s.count ≤ s.index) × (t.index ≡ s.index)) (λ f. (s.index < s.count) × (t.index ≡ s.index + 1) × IsField s.width s.file.now s.index f)
