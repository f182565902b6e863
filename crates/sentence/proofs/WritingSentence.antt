-- What is done with the facts of a miss: the sentence is written into a buffer of its own, measured, and copied to the front of the caller's; and which
-- facts the search finds.
use mathlib.Core.Path.{◌≡◌, sym, ap, ◌∙◌}
use mathlib.Core.Bool.{Bool, true, false, cond}
use mathlib.Core.List.{List, ◌++◌}
use Prim.Native.Nat.{ℕ, suc, ◌+◌, ◌-◌, ◌≤◌, ◌<◌}
use native.Mathlib.Nat.{zero-add}
use native.Mathlib.Omega.{arith}
use lib.ListN.{length, take, drop}
use lib.Seq.{take_at}
use borrow.Author.Tests.{lt-ltb, le-ltb}
use Rattle.model.specs.Search.{any, least}
use Rattle.model.specs.Task.{Table}
use Rattle.model.specs.Horizon.{horizon}
use Rattle.model.specs.Verdict.{missed_at, missed_in, first_miss}
use Rattle.judge.specs.FirstMiss.{Never, At}
use Rattle.judge.specs.FirstMiss.{missed_before}
use Rattle.text.specs.Written.{Put}
use Rattle.sentence.specs.Facts.{Facts}
use Rattle.sentence.specs.Sentence.{sentence_text}
use Rattle.sentence.specs.Waiting.{facts_at, miss_place, facts_in}
use Rattle.sentence.specs.SentenceAnswer.{by_buffer, by_table, front}
use Rattle.sentence.specs.SentenceAnswer.{Length, Refused}

-- by the buffer's length
pub too_short : (f : Facts) (bytes : ℕ) → bytes < length (sentence_text f) → Refused 18 0 ≡ by_buffer f bytes
unfolding by_buffer
too_short f bytes l = rw (lt-ltb bytes (length (sentence_text f)) l)

pub long-enough : (f : Facts) (bytes : ℕ) → length (sentence_text f) ≤ bytes → Length (length (sentence_text f)) ≡ by_buffer f bytes
unfolding by_buffer
long-enough f bytes l = rw (le-ltb bytes (length (sentence_text f)) l)

-- by the search
pub by-never : (s : Table) (bytes : ℕ) → any (suc (horizon s)) (missed_in s) ≡ false → Refused 17 0 ≡ by_table s bytes
unfolding by_table
by-never s bytes e = rw e

pub by-found : (s : Table) (bytes : ℕ) → any (suc (horizon s)) (missed_in s) ≡ true → by_buffer (facts_in s) bytes ≡ by_table s bytes
unfolding by_table
by-found s bytes e = rw e

-- the facts of what it finds
pub found-facts : (s : Table) (t p : ℕ) → missed_before s (suc (horizon s)) ≡ At t p → facts_at s t (p - 1) ≡ facts_in s
unfolding missed_before facts_in miss_place first_miss
found-facts s t p = go (any (suc (horizon s)) (missed_in s))
  where
    first : ℕ
    first = least (suc (horizon s)) (missed_in s)

    place : ℕ
    place = least (length s.tasks) (missed_at s first)

    go : (b : Bool) → cond b (At first (suc place)) Never ≡ At t p → facts_at s t (p - 1) ≡ facts_at s first place
    go true e =
        let i : first ≡ t = cc in
        let j : suc place ≡ p = cc in
        let k : p - 1 ≡ place = omega arith in
        ap (λ (q : ℕ). facts_at s t q) k ∙ ap (λ (u : ℕ). facts_at s u place) (sym i)
    go false e = let z : ◌≡◌ {A = ℕ} 0 1 = cc in absurd (omega arith)

-- a text written aside, and then copied
module _ (w before text : List ℕ) (n : ℕ) (a : Put before 0 w text n) where
  pub text-length : n ≡ length w
  text-length = a.ends ∙ zero-add (length w)

  text-front : take n (drop 0 text) ≡ w
  text-front = ap (take n) a.bytes ∙ take_at w (drop (0 + length w) before) n (sym text-length)

  pub text-copied : (old new : List ℕ) (end : ℕ) → Put old 0 (take n (drop 0 text)) new end → (end ≡ length w) × (new ≡ front w old)
  text-copied old new end b = (
    b.ends ∙ zero-add (length (take n (drop 0 text))) ∙ ap length text-front,
    b.bytes ∙ ap (λ (k : ℕ). take n (drop 0 text) ++ drop k old) (zero-add (length (take n (drop 0 text)))) ∙ ap (λ (x : List ℕ). front x old) text-front,
  )
