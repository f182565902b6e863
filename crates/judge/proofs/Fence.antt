-- A table that passes gets the verdict of the one with just its unfenced cores and no fence (request 102).
use mathlib.Core.List.{List}
use mathlib.Core.Path.{◌≡◌, sym, ap, ◌∙◌}
use Prim.Native.Nat.{ℕ}
use Rattle.model.specs.Verdict.{Verdict, verdict}
use Rattle.model.proofs.Fence.{fence-verdict}
use Rattle.table.specs.UnfencedWords.{unfenced_words}
use Rattle.table.specs.Numbers.{NoneApplies}
use Rattle.table.specs.Words.{table_of}
use Rattle.table.proofs.UnfencedWords.{unfenced-passes, unfenced-table}
use Rattle.table.proofs.Exact.{passed-exact}
use Rattle.judge.specs.JudgeAnswer.{judged, verdict_case}
use Rattle.judge.specs.Judged.{verdict_of}
use Rattle.judge.proofs.Contract.{passed_is}

-- THE THEOREM, of the words of a table
pub fence-judged : (ws : List ℕ) → NoneApplies ws → verdict_of ws ≡ verdict_of (unfenced_words ws)
fence-judged ws none =
    passed_is ws ((passed-exact ws).1 none)
    ∙ (ap (λ (v : Verdict). verdict_case (judged v)) (fence-verdict (table_of ws) ∙ ap verdict (sym (unfenced-table ws none)))
    ∙ sym (passed_is (unfenced_words ws) ((passed-exact (unfenced_words ws)).1 (unfenced-passes ws none))))
