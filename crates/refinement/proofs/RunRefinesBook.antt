-- DEMAND 3: of a table with the verdict Firm, a started run refines the book, is never behind and never late.
use mathlib.Core.Path.{◌≡◌, sym, ap}
use mathlib.Core.List.{List}
use Prim.Native.Nat.{ℕ}
use Rattle.model.specs.Advance.{Entry}
use Rattle.model.specs.Refusals.{taken}
use Rattle.model.proofs.Firm.{firm-kept}
use Rattle.table.specs.Words.{table_of}
use Rattle.table.proofs.Passed.{passed-valid}
use Rattle.judge.specs.declared.Verdict.TheVariants.{Firm}
use Rattle.judge.specs.JudgeAnswer.{verdict_meaning}
use Rattle.judge.specs.Judged.{verdict_of}
use Rattle.judge.proofs.Contract.{judged-exact, firm-words}
use Rattle.run.specs.Answer.{answer_meaning}
use Rattle.run.specs.Start.{start_of}
use Rattle.run.proofs.ByVerdict.{start-answer}
use Rattle.refinement.specs.RunRefinesBook.{RunRefinesBook}
use Rattle.refinement.proofs.Refines.{refines}

-- THEOREM (demand 3 of the scope: the run refines the book): for the words of every table with the verdict Firm, and every list of entries
pub demand-3 : (ws : List ℕ) (S P : ℕ) → verdict_of ws ≡ Firm S P → (xs : List Entry) → RunRefinesBook ws xs
demand-3 ws S P firm xs =
    let says = ((judged-exact ws).firm S P).0 (ap verdict_meaning firm) in
    record {
      started = started;
      refines = refines ws started xs;
      kept = firm-kept (table_of ws) (passed-valid ws says.0) ((firm-words ws says.0).1 says.2) says.1 xs;
    }
  where
    started : answer_meaning (start_of ws).answer ≡ taken
    started = unfold start_of in ap answer_meaning (start-answer ws (Firm S P) (sym firm))
