-- The judge's verdict on the words of a part decides whether what is left still misses.
use mathlib.Core.Bool.{Bool, false, true, ◌&&◌}
use mathlib.Core.List.{List, [], ◌∷◌}
use mathlib.Core.Path.{ap, refl, sym, ◌∙◌, ◌≡◌}
use Prim.Native.Nat.{ℕ, ◌<◌}
use native.Mathlib.Omega.{arith}
use lib.ListN.{length}
use Rattle.std.proofs.lemmas.Bool.{false_from_ne_true}
use Rattle.model.specs.Lists.{Missed}
use Rattle.model.specs.Search.{bit}
use Rattle.model.specs.Task.{Table, Task}
use Rattle.model.specs.Verdict as model
use Rattle.model.specs.Verdict.{verdict}
use Rattle.table.proofs.Exact.{passed-exact}
use Rattle.table.proofs.Passed.{passed-valid}
use Rattle.table.specs.Numbers.{NoneApplies}
use Rattle.table.specs.Words.{table_of}
use Rattle.judge.proofs.Contract.{judged-exact, passed_is}
use Rattle.judge.specs.declared.Verdict.{Verdict}
use Rattle.judge.specs.declared.Verdict.TheVariants.{Firm, Full, Miss, Refused}
use Rattle.judge.specs.Judged.{Judged, verdict_of}
use Rattle.judge.specs.JudgeAnswer.{verdict_case, judged}
use Rattle.conflict.specs.Conflict.{conflict_set, conflicts, is_miss, some_left}
use Rattle.conflict.specs.SubTable.{sub_table, without_place}
use Rattle.conflict.specs.Relinked.{relinked}
use Rattle.conflict.proofs.Minimal.{conflict-minimal}
use Rattle.conflict.proofs.Relinked.{part-empty, part-passes, part-table}
use Rattle.conflict.proofs.Still.{conflicts-some, missed-conflicts}

-- the answer is a miss
abbrev pub verdict_miss : Verdict → Bool
verdict_miss (Firm a b) = false
verdict_miss (Full a b) = false
verdict_miss (Miss t p) = true
verdict_miss (Refused n p) = false

verdict-case : (v : model.Verdict) → verdict_miss (verdict_case (judged v)) ≡ is_miss v
verdict-case (model.Firm a b) = refl
verdict-case (model.Full a b) = refl
verdict-case (model.Miss t p) = refl

module _ (ws : List ℕ) (none : NoneApplies ws) (x : ℕ) where
  -- the empty part is refused
  empty-no-miss : length (sub_table (table_of ws) x).tasks ≡ 0 → (v : Verdict) → Judged (relinked ws x) v → verdict_miss v ≡ false
  empty-no-miss e (Firm a b) j = refl
  empty-no-miss e (Full a b) j = refl
  empty-no-miss e (Miss t p) j = absurd (((j.miss t p).0 refl).0 4 0 (part-empty ws none x e))
  empty-no-miss e (Refused n p) j = refl

  -- another is judged as the part
  part-judged : 0 < length (sub_table (table_of ws) x).tasks → verdict_of (relinked ws x) ≡ verdict_case (judged (verdict (sub_table (table_of ws) x)))
  part-judged l =
      passed_is (relinked ws x) ((passed-exact (relinked ws x)).1 (part-passes ws none x l))
      ∙ ap (λ (s : Table). verdict_case (judged (verdict s))) (part-table ws none x)

  -- so the verdict on the words of a part decides whether it misses
  pub conflicts-by : (v : Verdict) → Judged (relinked ws x) v → conflicts (table_of ws) x ≡ verdict_miss v
  unfolding conflicts
  conflicts-by v j = go (sub_table (table_of ws) x).tasks refl
    where
      go : (τs : List Task) → (sub_table (table_of ws) x).tasks ≡ τs → some_left τs && is_miss (verdict (sub_table (table_of ws) x)) ≡ verdict_miss v
      go [] e = sym (empty-no-miss (ap {B = ℕ} length e) v j)
      go (τ ∷ τs) e =
          let some : 0 < length (sub_table (table_of ws) x).tasks = omega (arith, ap {B = ℕ} length e) in
          sym (ap verdict_miss (j.value ∙ part-judged some) ∙ verdict-case (verdict (sub_table (table_of ws) x)))

-- THEOREM: of a table that misses, the words of the conflict are judged a miss, and those without any one of its tasks are not
pub conflict-judged :
    (ws : List ℕ) → NoneApplies ws → (p t : ℕ) → Missed (table_of ws) p t
    → (verdict_miss (verdict_of (relinked ws (conflict_set (table_of ws)))) ≡ true)
    × ((q : ℕ) → bit (conflict_set (table_of ws)) q ≡ true → verdict_miss (verdict_of (relinked ws (without_place (conflict_set (table_of ws)) q))) ≡ false)
conflict-judged ws none p t m = (by (conflict_set s) ∙ still, λ q e. by (without_place (conflict_set s) q) ∙ without-one q e)
  where
    s : Table
    s = table_of ws

    by : (x : ℕ) → verdict_miss (verdict_of (relinked ws x)) ≡ conflicts s x
    by x = sym (conflicts-by ws none x (verdict_of (relinked ws x)) (judged-exact (relinked ws x)))

    still : conflicts s (conflict_set s) ≡ true
    still =
        let x = (conflict-minimal s (passed-valid ws none) p t m).misses in
        missed-conflicts s (passed-valid ws none) (conflict_set s) x.0 x.1 x.2

    without-one : (q : ℕ) → bit (conflict_set s) q ≡ true → conflicts s (without_place (conflict_set s) q) ≡ false
    without-one q e =
        false_from_ne_true (conflicts s (without_place (conflict_set s) q))
        (λ c. let x = conflicts-some s (passed-valid ws none) (without_place (conflict_set s) q) c in
        (conflict-minimal s (passed-valid ws none) p t m).needed q e x.0 x.1 x.2)
