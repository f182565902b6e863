-- The answers of an entry as numbers: each answer is small, and the numbers of a list determine its answers.
use mathlib.Core.Path.{◌≡◌, refl, ap}
use mathlib.Core.Bool.{Bool, true, false, cond}
use mathlib.Core.List.{List, [], ◌∷◌, map}
use Prim.Native.Nat.{ℕ, suc}
use native.Mathlib.Omega.{arith}
use lib.ListN.{length}
use lib.Dec.{ltb}
use borrow.Author.Tests.{ltb-true}
use Rattle.model.specs.Advance as entries
use Rattle.model.specs.Refusals as answers
use Rattle.run.specs.declared.Run.{Run}
use Rattle.run.specs.Answer.{Answer}
use Rattle.run.specs.Answer.{Taken, Refused}
use Rattle.run.specs.Answer.{answer_meaning}
use Rattle.run.specs.Run.{firm_in}
use Rattle.run.specs.Numbers.{run_out, past_count, unknown_in, first_late_in, wrong_empties_in, wrong_reports_in}
use Rattle.run.specs.Advance.{advance_answer, advance_of}
use Rattle.run.specs.Withdraw.{withdraw_answer, withdraw_of, withdraw_all_of}
use Rattle.run.proofs.RunOut.{few}
use Rattle.refinement.specs.Entries.{entry_of, answers}
use Rattle.refinement.specs.Replay.{code, EntryAnswer, codes}

-- the answers of an advance are small ..
small-advance : (r : Run) (x e : ℕ) → EntryAnswer (answer_meaning (advance_of r x e).answer)
unfolding advance_of advance_answer
small-advance r x e = by_out (run_out r) refl
  where
    by-sets : (t u : Bool) → EntryAnswer (answer_meaning (cond t (Refused 20 0) (cond u (Refused 16 0) Taken)))
    by-sets true u = ((omega arith, omega arith), omega arith)
    by-sets false true = ((omega arith, omega arith), omega arith)
    by-sets false false = tt

    rest : Answer
    rest = cond (wrong_empties_in r e) (Refused 20 0) (cond (wrong_reports_in r e x) (Refused 16 0) Taken)

    by-late : run_out r ≡ false → (t : Bool) → ltb (first_late_in r) r.count ≡ t → EntryAnswer (answer_meaning (cond t (Refused 15 (suc (first_late_in r))) rest))
    by-late q true l = ((omega arith, omega arith), omega (arith, ltb-true (first_late_in r) r.count l, few r q))
    by-late q false l = by-sets (wrong_empties_in r e) (wrong_reports_in r e x)

    by_out : (t : Bool) → run_out r ≡ t
        → EntryAnswer (answer_meaning (cond t (Refused 14 0) (cond (ltb (first_late_in r) r.count) (Refused 15 (suc (first_late_in r))) rest)))
    by_out true q = ((omega arith, omega arith), omega arith)
    by_out false q = by-late q (ltb (first_late_in r) r.count) refl

-- .. and those of a withdrawal
small-withdraw : (r : Run) (unknown : Bool) → EntryAnswer (answer_meaning (withdraw_answer r unknown))
unfolding withdraw_answer
small-withdraw r unknown = go (run_out r) (firm_in r) unknown
  where
    go : (t u v : Bool) → EntryAnswer (answer_meaning (cond t (Refused 14 0) (cond u (cond v (Refused 22 0) Taken) (Refused 21 0))))
    go true u v = ((omega arith, omega arith), omega arith)
    go false false v = ((omega arith, omega arith), omega arith)
    go false true true = ((omega arith, omega arith), omega arith)
    go false true false = tt

pub small-answer : (r : Run) (x : entries.Entry) → EntryAnswer (answer_meaning (entry_of r x).answer)
small-answer r (entries.advance x e) = small-advance r x e
small-answer r (entries.withdraw p) = unfold withdraw_of in small-withdraw r (unknown_in r p)
small-answer r (entries.withdraw_all x) = unfold withdraw_all_of in small-withdraw r (past_count r.count x)

-- LAW: no two small answers have the same number ..
pub code-injective : (a b : answers.Answer) → EntryAnswer a → EntryAnswer b → code a ≡ code b → a ≡ b
code-injective answers.taken answers.taken h k e = refl
code-injective answers.taken (answers.refused m q) h k e = absurd (omega arith)
code-injective (answers.refused n p) answers.taken h k e = absurd (omega arith)
code-injective (answers.refused n p) (answers.refused m q) h k e =
    let a : n ≡ m = omega arith in
    let b : p ≡ q = omega arith in
    λ i. answers.refused (a i) (b i)

-- .. so the numbers of a list of entries determine its answers
pub codes-injective : (r s : Run) (xs ys : List entries.Entry) → codes r xs ≡ codes s ys → map answer_meaning (answers r xs) ≡ map answer_meaning (answers s ys)
unfolding answers
codes-injective r s [] [] e = refl
codes-injective r s [] (y ∷ ys) e = absurd (let z : ◌≡◌ {A = ℕ} 0 (suc (length (codes (entry_of s y).run ys))) = ap (λ (l : List ℕ). length l) e in omega arith)
codes-injective r s (x ∷ xs) [] e = absurd (let z : ◌≡◌ {A = ℕ} (suc (length (codes (entry_of r x).run xs))) 0 = ap (λ (l : List ℕ). length l) e in omega arith)
codes-injective r s (x ∷ xs) (y ∷ ys) e =
    let a : code (answer_meaning (entry_of r x).answer) ≡ code (answer_meaning (entry_of s y).answer) = cc in
    let b : codes (entry_of r x).run xs ≡ codes (entry_of s y).run ys = cc in
    let u = code-injective (answer_meaning (entry_of r x).answer) (answer_meaning (entry_of s y).answer)
    (small-answer r x) (small-answer s y) a in
    let v = codes-injective (entry_of r x).run (entry_of s y).run xs ys b in
    λ i. u i ∷ v i
