-- A row has 64 bytes, shown or not.
use mathlib.Core.Path.{◌≡◌, refl, ap, ◌∙◌}
use mathlib.Core.List.{List}
use mathlib.Core.Bool.{Bool, true, false, cond}
use Prim.Native.Nat.{ℕ, suc, ◌+◌, ◌-◌}
use native.Mathlib.Omega.{arith}
use lib.ListN.{length, replicate, length-append, length-replicate}
use lib.Dec.{ltb}
use Rattle.model.proofs.Rows.{row-length}
use Rattle.model.specs.Row.{row}
use Rattle.model.specs.Sizes.{most_cores}
use Rattle.run.specs.declared.Run.{Run}
use Rattle.run.specs.Run.{shown_in}
use Rattle.run.specs.Answer.{Answer}
use Rattle.run.specs.Answer.{Taken, Refused}
use Rattle.run.specs.Answer.{by_answer}
use Rattle.run.specs.Numbers.{run_out, first_late_in, wrong_empties_in}
use Rattle.run.specs.Row.{row_answer, bytes_in, no_bytes, row_of}
use Rattle.run.proofs.RunOut.{few-cores}

pub shown-length : (r : Run) (e : ℕ) → length (row_of r e).bytes ≡ most_cores
unfolding row_of row_answer bytes_in
shown-length r e = by_out (run_out r) refl
  where
    bytes : List ℕ
    bytes = row r.fence r.cores (shown_in r e)

    in_order : run_out r ≡ false → length (bytes_in r e) ≡ most_cores
    in_order q =
        length-append bytes (replicate (most_cores - length bytes) 0)
        ∙ (ap (λ (n : ℕ). length bytes + n) (length-replicate {A = ℕ} (most_cores - length bytes) 0)
        ∙ omega (arith, row-length r.fence r.cores (shown_in r e), few-cores r q))

    -- refused with 15 or 20, or shown
    by-rest :
        run_out r ≡ false → (t u : Bool)
        → length (by_answer (cond t (Refused 15 (suc (first_late_in r))) (cond u (Refused 20 0) Taken)) (bytes_in r e) no_bytes) ≡ most_cores
    by-rest q true u = refl
    by-rest q false true = refl
    by-rest q false false = in_order q

    rest : Answer
    rest = cond (ltb (first_late_in r) r.count) (Refused 15 (suc (first_late_in r))) (cond (wrong_empties_in r e) (Refused 20 0) Taken)

    by_out : (t : Bool) → run_out r ≡ t → length (by_answer (cond t (Refused 14 0) rest) (bytes_in r e) no_bytes) ≡ most_cores
    by_out true q = refl
    by_out false q = by-rest q (ltb (first_late_in r) r.count) (wrong_empties_in r e)
