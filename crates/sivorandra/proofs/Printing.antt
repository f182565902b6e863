-- What a printer's pieces come to as they are sent: those that were taken whole, put together, are before what is left.
-- Assumes nothing.
use mathlib.Core.Bool.{true, false}
use mathlib.Core.List.{List, ◌++◌, append_assoc}
use mathlib.Core.Path.{◌≡◌, refl, ap, subst, ◌∙◌}
use Prim.Native.Nat.{ℕ}
use lib.ListN.{take, drop, take-append-drop}
use Rattle.printer.specs.Printer.{rest, PieceOf}
use Rattle.printer.specs.declared.Printer.{Printer}
use Rattle.printer.specs.declared.Piece.{Piece}
use Rattle.text.proofs.Writing.{put_front}
use Rattle.stream.specs.Sent.{Sent, SentOf}
use Rattle.stream.proofs.Moving.{sent-then, sent-stopped}

-- of `whole`, what was sent so far, all of it taken, is before `left`
pub record Printing (whole left : List ℕ) (count : ℕ) : Type 0 where
  pub done : List ℕ
  pub together : done ++ left ≡ whole
  pub counted : SentOf 0 done (record { count = count; whole = true })

module _ (whole : List ℕ) (p : Printer) (before after : List ℕ) (r : Piece) (n : ℕ) (t : Sent)
    (i : Printing whole (rest p) n) (q : PieceOf p before after r) (u : SentOf n (take r.length after) t) where
  -- what was taken before, and this piece
  pub on : SentOf 0 (i.done ++ take r.length after) t
  on = sent-then 0 i.done (take r.length after) (record { count = n; whole = true }) t i.counted refl u

  -- .. are before what is left after it
  pub together-on : (i.done ++ take r.length after) ++ rest r.printer ≡ whole
  together-on =
      append_assoc i.done (take r.length after) (rest r.printer)
      ∙ ap (λ (l : List ℕ). i.done ++ l) (ap (λ (l : List ℕ). take r.length after ++ l) q.rest
      ∙ ap (λ (l : List ℕ). l ++ drop r.length (rest p)) (put_front q.bytes) ∙ take-append-drop r.length (rest p))
      ∙ i.together

  -- a piece that was not taken
  pub printing-stopped : t.whole ≡ false → SentOf 0 whole t
  printing-stopped w = subst (λ (l : List ℕ). SentOf 0 l t) together-on (sent-stopped 0 (i.done ++ take r.length after) (rest r.printer) t on w)

-- one that was
pub printing-on :
    (whole : List ℕ) (p : Printer) (before after : List ℕ) (r : Piece) (n m : ℕ) → Printing whole (rest p) n → PieceOf p before after r
    → SentOf n (take r.length after) (record { count = m; whole = true }) → Printing whole (rest r.printer) m
printing-on whole p before after r n m i q u =
    record { done = i.done ++ take r.length after; together = together-on whole p before after r n _ i q u; counted = on whole p before after r n _ i q u }
