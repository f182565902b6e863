use Rattle.std.proofs.Common.{false, true, refl, ◌≡◌, ◌≤◌, List, ℕ, length, take, arith, ap, subst, sym, ◌∙◌, length-take}
use Rattle.std.proofs.lemmas.List.{take_at}
use Rattle.table.specs.Numbers.{NoneApplies}
use Rattle.table.specs.Words.{table_of}
use Rattle.judge.specs.declared.Verdict.{Verdict}
use Rattle.judge.specs.declared.Verdict.TheVariants.{Firm, Full, Miss, Refused}
use Rattle.judge.specs.Judged.{Judged}
use Rattle.conflict.specs.Conflict.{conflicts}
use Rattle.conflict.specs.Relinked.{padded, relinked}
use Rattle.conflict.proofs.Judging.{conflicts-by, verdict_miss}
use Rattle.conflict.proofs.Relinked.{same_length}
use Rattle.conflict.proofs.passes.SubTable.misses.Goals as goal

-- no other verdict is a miss
other : (v : Verdict) → ((t p : ℕ) → v ≡ Miss t p → ⊥) → verdict_miss v ≡ false
other (Firm a b) n = refl
other (Full a b) n = refl
other (Miss t p) n = absurd (n t p refl)
other (Refused n p) m = refl

-- the words of a part, in an array that may have more: they are at its front, and the verdict on them decides
module _ (ws : List ℕ) (none : NoneApplies ws) (x : ℕ) (part : List ℕ) (is : part ≡ padded (relinked ws x)) where
  front : take (length ws) part ≡ relinked ws x
  front = ap (take (length ws)) is ∙ take_at (relinked ws x) _ (length ws) (same_length ws none x)

  fits : length ws ≤ length part
  fits = omega (arith, length-take (length ws) part, ap {B = ℕ} length front, same_length ws none x)

  says : (v : Verdict) → Judged (take (length ws) part) v → conflicts (table_of ws) x ≡ verdict_miss v
  says v j = conflicts-by ws none x v (subst (λ (us : List ℕ). Judged us v) front j)

pub slice_bounds-part-end : goal.slice_bounds-part-end
slice_bounds-part-end c = fits c.args.self.words.now c.args.self.passes c.args.self.kept c.relinked-part.result c.relinked-part.ensures

pub slice_bounds-judge-end : goal.slice_bounds-judge-end
slice_bounds-judge-end c =
    let l = fits c.args.self.words.now c.args.self.passes c.args.self.kept c.relinked-part.result c.relinked-part.ensures in
    omega (arith, length-take {A = ℕ})

pub returns-in-Miss : goal.returns-in-Miss
returns-in-Miss c =
    let miss : verdict_miss c.judge-verdict.result ≡ true = cc in
    sym (says c.args.self.words.now c.args.self.passes c.args.self.kept c.relinked-part.result c.relinked-part.ensures c.judge-verdict.result c.judge-verdict.ensures ∙ miss)

pub returns-in_default : goal.returns-in_default
returns-in_default c =
    sym (says c.args.self.words.now c.args.self.passes c.args.self.kept c.relinked-part.result c.relinked-part.ensures c.judge-verdict.result c.judge-verdict.ensures
    ∙ other c.judge-verdict.result c.in_default.not-Miss)
