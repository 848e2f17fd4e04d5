-- How a chained store lies in its bytes, and what they mean.
use Rattle.std.specs.Prelude.{ℕ, zero, suc, ◌+◌, ◌-◌, ◌*◌, ◌%◌, Bool, cond, not, ◌&&◌, ◌||◌, List, [], ◌∷◌, Some, None, Option, ◌==◌, nat_eq, nat_le}
use Rattle.memory.specs.Four.{be4, put4}
use Rattle.memory.specs.Part.{part, patch}
use Rattle.refusal.specs.declared.cases.Refusal.{Refusal}
use Rattle.refusal.specs.declared.cases.Refusal.TheVariants.{MemoryUnfit}
use Rattle.refusal.specs.Tables.{◌⇒◌, first}
use Rattle.store.specs.Meaning.{Meaning, holds_key, valid_limits}
use Rattle.store.specs.Counts.{tally}

-- the bytes that n records of width w take, with the seventeen heads
abbrev pub chained_bytes : ℕ → ℕ → ℕ
chained_bytes w n = 68 + n * (12 + w)

-- measuring: a limit broken, a number of records that is not 1 to 4,194,304, or a memory of m bytes too short
abbrev pub chained_refusal : ℕ → ℕ → ℕ → ℕ → ℕ → ℕ → Option Refusal
chained_refusal w f l b n m = first ((not (valid_limits w f l b && (nat_le 1 n && (nat_le n 4194304 && nat_le (chained_bytes w n) m))) ⇒ MemoryUnfit) ∷ [])

-- where record i starts, from 1
unfoldable pub start_of : ℕ → ℕ → ℕ
start_of w i = 68 + (i - 1) * (12 + w)

-- the record that follows in its chain, 0 for none
unfoldable pub next_at : List ℕ → ℕ → ℕ → ℕ
next_at mem w i = be4 mem (start_of w i)

-- the closing of a record, 0 where it is free
unfoldable pub closing_at : List ℕ → ℕ → ℕ → ℕ
closing_at mem w i = be4 mem (start_of w i + 4)

unfoldable pub place_at : List ℕ → ℕ → ℕ → ℕ
place_at mem w i = be4 mem (start_of w i + 8)

-- the first record of chain j, 0 for none
unfoldable pub head_at : List ℕ → ℕ → ℕ
head_at mem j = be4 mem (4 * j)

-- the chain of a key: chain 0 is the free one, and chain b + 1 that of bucket b
abbrev pub bucket_of : ℕ → ℕ → ℕ
bucket_of c p = (c + p) % 16 + 1

abbrev pub has_key : List ℕ → ℕ → ℕ → ℕ → ℕ → Bool
has_key mem w i c p = closing_at mem w i == c && place_at mem w i == p

-- the record with the key, of the n that follow from i; 0 for none
abbrev pub seek_from : List ℕ → ℕ → ℕ → ℕ → ℕ → ℕ → ℕ
seek_from mem w zero i c p = 0
seek_from mem w (suc n) i c p = cond (i == 0) 0 (cond (has_key mem w i c p) i (seek_from mem w n (next_at mem w i) c p))

abbrev pub seek_in : List ℕ → ℕ → ℕ → ℕ → ℕ → ℕ
seek_in mem w n c p = seek_from mem w n (head_at mem (bucket_of c p)) c p

-- the last record with the key, of records 1 to n, whatever the links; 0 for none
abbrev pub scan_at : List ℕ → ℕ → ℕ → ℕ → ℕ → ℕ
scan_at mem w zero c p = 0
scan_at mem w (suc n) c p = cond (has_key mem w (suc n) c p) (suc n) (scan_at mem w n c p)

-- how many of records 1 to n have the closing
abbrev pub count_of : List ℕ → ℕ → ℕ → ℕ → ℕ
count_of mem w n c = tally (λ k. nat_eq (closing_at mem w (k + 1)) c) n

abbrev pub record_at : List ℕ → ℕ → ℕ → Option (List ℕ)
record_at mem w i = cond (i == 0) None (Some (part mem (start_of w i + 12) w))

abbrev pub chained_find : List ℕ → ℕ → ℕ → ℕ → ℕ → ℕ → ℕ → ℕ → Option (List ℕ)
chained_find mem w n f l b c p = cond (holds_key f l b c p) (record_at mem w (seek_in mem w n c p)) None

abbrev pub chained_of : List ℕ → ℕ → ℕ → ℕ → ℕ → ℕ → ℕ → Meaning
chained_of mem w n f l b room = record { width = w; first = f; last = l; bound = b; find = chained_find mem w n f l b; room = room }

-- mem with a record written at i
unfoldable pub filled : List ℕ → ℕ → ℕ → ℕ → ℕ → List ℕ → List ℕ
filled mem i next c p r = patch (put4 (put4 (put4 mem i next) (i + 4) c) (i + 8) p) (i + 12) r

-- mem with record x moved from the front of the free chain to the front of bucket b
unfoldable pub push_on : List ℕ → ℕ → ℕ → ℕ → ℕ → ℕ → List ℕ → List ℕ
push_on mem w x b c p r = put4 (put4 (filled mem (start_of w x) (head_at mem b) c p r) 0 (next_at mem w x)) (4 * b) x

-- a record's closing, once closing c, or every closing, is forgotten
abbrev pub without : Bool → ℕ → ℕ → ℕ
without every c k = cond (every || k == c) 0 k

-- the chain of a record: the free one where its closing is 0
abbrev pub home_of : ℕ → ℕ → ℕ
home_of k p = cond (k == 0) 0 (bucket_of k p)

-- mem with k for the closing of the record at i, record x, and that in front of chain b
unfoldable pub front_of : List ℕ → ℕ → ℕ → ℕ → ℕ → List ℕ
front_of mem i x b k = put4 (put4 (put4 mem (i + 4) k) i (be4 (put4 mem (i + 4) k) (4 * b))) (4 * b) x
