-- THEOREM (conflict-minimal): where the table misses, what the passes leave misses, and no task of it can be dropped.
use mathlib.Core.Bool.{Bool, false, true, true≢false}
use mathlib.Core.Path.{refl, subst, sym, ◌∙◌, ◌≡◌}
use Prim.Native.Nat.{ℕ, ◌<◌}
use lib.Dec.{ltb}
use lib.ListN.{length}
use borrow.Author.Tests.{ltb-false, ltb-true}
use Rattle.model.specs.Lists.{Missed}
use Rattle.model.specs.Search.{bit}
use Rattle.model.specs.Task.{AllValid, Table}
use Rattle.conflict.specs.Conflict.{Minimal, all_places, conflict_set, conflicts}
use Rattle.conflict.specs.SubTable.{without_place}
use Rattle.conflict.proofs.Chosen.{chosen-some}
use Rattle.conflict.proofs.Dropping.{conflict-past, passes-keep, passes-stable, stable-needed, whole_part}
use Rattle.conflict.proofs.Still.{conflicts-left, conflicts-never, conflicts-some, missed-conflicts}

pub conflict-minimal : (s : Table) → AllValid s → (p t : ℕ) → Missed s p t → Minimal s (conflict_set s)
conflict-minimal s ok p t m = record {
  some = chosen-some (bit (conflict_set s)) s.tasks (conflicts-left s ok (conflict_set s) still);
  misses = conflicts-some s ok (conflict_set s) still;
  needed = λ q e. conflicts-never s ok (without_place (conflict_set s) q) (stable-needed s (conflict_set s) (passes-stable s) q (within q e) e);
}
  where
    still : conflicts s (conflict_set s) ≡ true
    still =
        passes-keep s
        (missed-conflicts s ok (all_places s) p t (subst (λ (r : Table). Missed r p t) (sym (whole_part s)) m))

    within : (q : ℕ) → bit (conflict_set s) q ≡ true → q < length s.tasks
    within q e = go (ltb q (length s.tasks)) refl
      where
        go : (b : Bool) → ltb q (length s.tasks) ≡ b → q < length s.tasks
        go true i = ltb-true q (length s.tasks) i
        go false i = absurd (true≢false (sym e ∙ conflict-past s q (ltb-false q (length s.tasks) i)))
