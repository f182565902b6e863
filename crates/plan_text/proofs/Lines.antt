-- The answer to an input: its table, and the lines of its plan.
use mathlib.Core.Bool.{false, true, false≢true}
use mathlib.Core.List.{List, [], ◌∷◌}
use mathlib.Core.Logic.{inl, inr}
use mathlib.Core.Path.{◌∙◌, ◌≡◌, ap, refl, sym}
use Prim.Native.Nat.{◌<◌, ℕ}
use lib.ListN.{length}
use Rattle.text.specs.Format.{most_bytes}
use Rattle.text.proofs.Exact.{long-refused}
use Rattle.splitter.specs.Split.{InputEnd, Split, TooLong, closed, growing, nothing, split, unknown}
use Rattle.splitter.specs.Parts.{SplitInto}
use Rattle.plan_text.specs.declared.PlanProgress.{PlanProgress}
use Rattle.plan_text.specs.Checked.{More, Refused}
use Rattle.plan_text.specs.Checked.{checked_of, answer_so_far, end_answer, is_more, opened_of, opens, rows_answer, split_answer, step_of}
use Rattle.plan_text.proofs.Answers.{on-end, on-more}
use Rattle.plan_text.proofs.Taking.{begin-none}

-- THE PLAN

pub rows_none : (e : InputEnd) (r : PlanProgress) → rows_answer e r [] ≡ end_answer e r
unfolding rows_answer
rows_none e r = refl

pub rows_on : (e : InputEnd) (r : PlanProgress) (l : List ℕ) (ls : List (List ℕ)) → is_more (step_of r l).answer ≡ true → rows_answer e r (l ∷ ls) ≡ rows_answer e (step_of r l).rows ls
unfolding rows_answer
rows_on e r l ls h = on-more (step_of r l).answer (rows_answer e (step_of r l).rows ls) h

pub rows_end : (e : InputEnd) (r : PlanProgress) (l : List ℕ) (ls : List (List ℕ)) → is_more (step_of r l).answer ≡ false → rows_answer e r (l ∷ ls) ≡ (step_of r l).answer
unfolding rows_answer
rows_end e r l ls h = on-end (step_of r l).answer (rows_answer e (step_of r l).rows ls) h

-- where more may come there is no answer yet
pub rows-wait : (r : PlanProgress) → rows_answer unknown r [] ≡ More
unfolding rows_answer end_answer
rows-wait r = refl

-- THE TABLE

-- what is opened
pub opens-more : (e : InputEnd) (d : List ℕ) (ls : List (List ℕ)) → is_more (opened_of d).answer ≡ true → opens e d ls ≡ rows_answer e (opened_of d).rows ls
unfolding opens
opens-more e d ls h = on-more (opened_of d).answer (rows_answer e (opened_of d).rows ls) h

pub opens-end : (e : InputEnd) (d : List ℕ) (ls : List (List ℕ)) → is_more (opened_of d).answer ≡ false → opens e d ls ≡ (opened_of d).answer
unfolding opens
opens-end e d ls h = on-end (opened_of d).answer (rows_answer e (opened_of d).rows ls) h

-- a text that is too long for any table
opened-long : (d : List ℕ) → most_bytes < length d → (opened_of d).answer ≡ Refused 1 0
unfolding opened_of
opened-long d h = rw (long-refused d h, begin-none)

opens-long : (d : List ℕ) (ls : List (List ℕ)) → most_bytes < length d → opens nothing d ls ≡ Refused 1 0
opens-long d ls h = opens-end nothing d ls (ap is_more (opened-long d h)) ∙ opened-long d h

-- an input that splits into a table's text and lines
pub all-opens : (s : Split) (d : List ℕ) (ls : List (List ℕ)) → SplitInto nothing s d ls → split_answer nothing s ≡ opens nothing d ls
unfolding split_answer
all-opens s d ls (inl e) = ap (split_answer nothing) e
all-opens s d ls (inr w) = go s w.0 ∙ sym (opens-long d ls w.1)
  where
    go : (x : Split) → TooLong nothing x → split_answer nothing x ≡ Refused 1 0
    go (closed t us) h = opens-long t us h
    go (growing n) h = absurd h

pub due-opens :
    (s : Split) (d : List ℕ) (ls : List (List ℕ)) → is_more (opened_of d).answer ≡ true → SplitInto unknown s d ls → split_answer unknown s ≡ opens unknown d ls
unfolding split_answer
due-opens s d ls m (inl e) = ap (split_answer unknown) e
due-opens s d ls m (inr w) = absurd (false≢true (sym (ap is_more (opened-long d w.1)) ∙ m))

pub grows : (n : ℕ) → split_answer unknown (growing n) ≡ More
unfolding split_answer
grows n = refl

-- a check before its first byte
pub new-answer : (bs : List ℕ) → (split_answer nothing (split nothing bs) ≡ checked_of bs) × (split_answer unknown (split unknown bs) ≡ answer_so_far bs)
unfolding checked_of answer_so_far
new-answer bs = (refl, refl)
