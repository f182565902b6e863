-- The parts of an input that are handed on: the table's text, and then each line.
use Rattle.std.specs.Prelude.{Option, Some, None, Bool, false, true, ◌&&◌, ◌||◌, cond, List, [], ◌∷◌, ◌++◌, ◌⊎◌, ◌≡◌, ℕ, ◌<◌, ◌≤◌, length, take, drop, leb}
use Rattle.text.specs.Format.{most_bytes}
use Rattle.splitter.specs.declared.Part as code
use Rattle.splitter.specs.Split.{too_many, InputEnd, nothing, unknown, lines_from, is_dashes, Split, closed, growing, split, TooLong}

-- a part of the bytes: whether it is at their front, where it ends, and where what comes after it begins
pub record Part : Type 0 where
  pub whole : Bool
  pub end : ℕ
  pub next : ℕ

-- as code returns it: where there is none yet, all bytes are looked at
abbrev pub part_in : List ℕ → Option code.Part → Part
part_in bytes (Some p) = record { whole = true; end = p.end; next = p.next }
part_in bytes None = record { whole = false; end = length bytes; next = length bytes }

-- what may come after some bytes: where the input has ended nothing, and else any bytes
pub data Comes : Bool → InputEnd → List ℕ → Type 0 where
  ends : Comes true nothing []
  goes : {e : InputEnd} {more : List ℕ} → Comes false e more

-- the end of an input that has ended, or not
abbrev pub end_of : Bool → InputEnd
end_of true = nothing
end_of false = unknown

-- the bytes have no newline: a line that comes on begins with them
abbrev pub OneLine : List ℕ → Type 0
OneLine bytes = (e : InputEnd) (more : List ℕ) → lines_from e [] (bytes ++ more) ≡ lines_from e bytes more

-- the line that is handed on is the first, or it is all of the bytes and has as many as `most`
pub record LineOf (bytes : List ℕ) (most : ℕ) (ended : Bool) (r : Part) : Type 0 where
  pub end : r.end ≤ length bytes
  pub next : r.next ≤ length bytes
  pub moves : 0 < length bytes → 0 < r.next
  pub line :
      r.whole ≡ true
      → ((e : InputEnd) (more : List ℕ) → Comes ended e more → lines_from e [] (bytes ++ more) ≡ take r.end bytes ∷ lines_from e [] (drop r.next bytes ++ more))
      ⊎ ((r.end ≡ length bytes) × (most ≤ length bytes) × OneLine bytes)
  -- else the line is still to come, and where the input has ended there is none
  pub none : r.whole ≡ false → (length bytes < most) × OneLine bytes × (ended ≡ true → bytes ≡ [])

-- an input splits into a table's text and lines; or both it and the text are too long for any table
abbrev pub SplitInto : InputEnd → Split → List ℕ → List (List ℕ) → Type 0
SplitInto e s table ls = (s ≡ closed table ls) ⊎ (TooLong e s × (most_bytes < length table))

-- the table's text is handed on
pub record TableOf (bytes : List ℕ) (ended : Bool) (r : Part) : Type 0 where
  pub end : r.end ≤ length bytes
  pub next : r.next ≤ length bytes
  pub moves : 0 < length bytes → 0 < r.next
  pub text :
      r.whole ≡ true → (e : InputEnd) (more : List ℕ) → Comes ended e more
      → SplitInto e (split e (bytes ++ more)) (take r.end bytes) (lines_from e [] (drop r.next bytes ++ more))
  -- else its end is still to come
  pub none : r.whole ≡ false → (length bytes < too_many) × (ended ≡ false) × (split unknown bytes ≡ growing (length bytes))

-- the part where no line `--` has ended the table, whose last line begins at a place
abbrev pub unclosed_part : List ℕ → ℕ → Bool → Part
unclosed_part bytes from ended =
    cond (ended && is_dashes (drop from bytes)) (record { whole = true; end = from; next = length bytes })
    (record { whole = ended || leb too_many (length bytes); end = length bytes; next = length bytes })
