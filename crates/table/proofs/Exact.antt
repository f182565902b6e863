-- The answer is the first number that applies, with its position, and passed where none applies: each exactly.
use mathlib.Core.Path.{◌≡◌, refl, sym, ap, ◌∙◌, subst}
use mathlib.Core.Bool.{Bool, true, false, cond, true≢false}
use mathlib.Core.List.{List}
use mathlib.Core.Logic.{◌⊎◌, inl, inr, ⊎_elim, ◌↔◌}
use Prim.Native.Nat.{ℕ, suc, ◌-◌, ◌≤◌, ◌<◌}
use native.Mathlib.Omega.{arith}
use native.Mathlib.Nat.{eq-or-lt_of_le}
use lib.ListN.{length, get_or}
use lib.Dec.{eqb, ltb}
use borrow.Author.Tests.{eqb-true, eqb-false, ltb-true, ltb-false}
use Rattle.model.specs.Task.{Task, absent_task}
use Rattle.model.specs.Fence.{unfenced_count}
use Rattle.model.specs.Horizon.{horizon}
use Rattle.table.specs.Answer.{Past, Again, Whole}
use Rattle.table.specs.Answer.{Answer}
use Rattle.table.specs.Answer.{Passed, Refused}
use Rattle.table.specs.Words.{head, core_count, rule, fence, task_at, table_of}
use Rattle.table.specs.Limits.{CoresOut, RuleOut, FenceOut, WidthOut, TimesOut, HorizonOut, cores_out, rule_out, fence_out, width_out, times_out, task_number, task_out, horizon_out, most_horizon}
use Rattle.table.specs.Numbers.{WordsOut, Position, Applies, one, two, three, nineteen, four, five, six, seven, eight, nine, place, Earlier, First, NoneApplies}
use Rattle.table.specs.Answer.{words_out, header_number, out_of_range_at, repeated_at, last_step, first_out, by_horizon, by_tasks, ending_of, by_ending, by_walk, answer_of}
use Rattle.table.proofs.Decide.{Decides, holds, fails, decides-lt}
use Rattle.table.proofs.Tests.{words-decides, cores-decides, rule-decides, fence-decides, width-decides, times-decides, task-decides}
use Rattle.table.proofs.Walk.{five-decides, six-decides}
use Rattle.table.proofs.Order.{shared, number_at, applies-ordered, first-only}
use Rattle.table.proofs.Tasks.{table-length, table_at}
use Rattle.table.proofs.FirstOut.{out-found, out-lowest}

-- no number of a place before k applies
abbrev Below : List ℕ → ℕ → Type 0
Below ws k = (m q : ℕ) → place m < k → ¬ Applies ws m q

below_one : (ws : List ℕ) → Below ws 1
below_one ws m q l a = omega (arith, (applies-ordered ws m q a).from)

-- at this place or before it
at-or-before : (ws : List ℕ) (k m : ℕ) → place m < suc k → (place m ≡ k) ⊎ (place m < k)
at-or-before ws k m l = eq-or-lt_of_le (omega arith)

below_more : (ws : List ℕ) (k : ℕ) → (k ≡ shared → ⊥) → Below ws k → ((q : ℕ) → ¬ Applies ws (number_at k) q) → Below ws (suc k)
below_more ws k other b never m q l a =
    ⊎_elim
    (λ (e : place m ≡ k). let only : m ≡ number_at k = (applies-ordered ws m q a).alone (λ x. other (sym e ∙ x)) ∙ ap number_at e in never q (subst (λ (x : ℕ). Applies ws x q) only a))
    (λ (e : place m < k). b m q e a) (at-or-before ws k m l)

below-tasks : (ws : List ℕ) → Below ws shared → ((q : ℕ) → ¬ Applies ws 7 q) → ((q : ℕ) → ¬ Applies ws 8 q) → Below ws (suc shared)
below-tasks ws b s e m q l a =
    ⊎_elim
    (λ (x : place m ≡ shared).
    ⊎_elim (λ y. s q (subst (λ (n : ℕ). Applies ws n q) y a)) (λ y. e q (subst (λ (n : ℕ). Applies ws n q) y a)) ((applies-ordered ws m q a).pair x))
    (λ (x : place m < shared). b m q x a) (at-or-before ws shared m l)

not-one : (ws : List ℕ) → ¬ WordsOut ws → (q : ℕ) → ¬ Applies ws 1 q
not-one ws never q (one h) = never h

not-two : (ws : List ℕ) → ¬ CoresOut (core_count ws) → (q : ℕ) → ¬ Applies ws 2 q
not-two ws never q (two h) = never h

not_three : (ws : List ℕ) → ¬ RuleOut (rule ws) → (q : ℕ) → ¬ Applies ws 3 q
not_three ws never q (three h) = never h

not-nineteen : (ws : List ℕ) → ¬ FenceOut (core_count ws) (fence ws) → (q : ℕ) → ¬ Applies ws 19 q
not-nineteen ws never q (nineteen h) = never h

not-four : (ws : List ℕ) → ¬ (head ws ≡ 0) → (q : ℕ) → ¬ Applies ws 4 q
not-four ws never q (four h) = never h

not_five : (ws : List ℕ) → ¬ Applies ws 5 0 → (q : ℕ) → ¬ Applies ws 5 q
not_five ws never q (five k c h) = never (five k c h)

not-six : (ws : List ℕ) → ¬ Applies ws 6 0 → (q : ℕ) → ¬ Applies ws 6 q
not-six ws never q (six k c h) = never (six k c h)

-- what a width is measured against
abbrev width_limit_of : List ℕ → ℕ
width_limit_of ws = unfenced_count (fence ws) (core_count ws)

seven-means : (ws : List ℕ) (q : ℕ) → Applies ws 7 q → Position ws q × WidthOut (width_limit_of ws) (task_at ws q)
seven-means ws q (seven p o h) = (o, h)

eight-means : (ws : List ℕ) (q : ℕ) → Applies ws 8 q → Position ws q × TimesOut (task_at ws q)
eight-means ws q (eight p o h) = (o, h)

not-nine : (ws : List ℕ) → ¬ HorizonOut (horizon (table_of ws)) → (q : ℕ) → ¬ Applies ws 9 q
not-nine ws never q (nine h) = never h

-- a number other than 7 and 8 is the first where none of an earlier place applies
first-other : (ws : List ℕ) (n : ℕ) → (place n ≡ shared → ⊥) → Applies ws n 0 → Below ws (place n) → First ws n 0
first-other ws n other a b = (a, earlier)
  where
    earlier : (m q : ℕ) → Earlier m q n 0 → ¬ Applies ws m q
    earlier m q (inl l) x = b m q l x
    earlier m q (inr (e, inl l)) x = omega arith
    earlier m q (inr (e, inr (z, l))) x =
        let same : m ≡ n = (applies-ordered ws m q x).alone (λ y. other (sym e ∙ y)) ∙ (ap number_at e ∙ sym ((applies-ordered ws n 0 a).alone other)) in
        omega (arith, same)

-- the meaning of an answer for the words
abbrev Right : List ℕ → Answer → Type 0
Right ws Passed = NoneApplies ws
Right ws (Refused n p) = First ws n p

-- 9, or passed
horizon-right : (ws : List ℕ) → Below ws 9 → Right ws (by_horizon (table_of ws))
unfolding by_horizon place
horizon-right ws b = go (horizon_out (horizon (table_of ws))) refl
  where
    far : Decides (horizon_out (horizon (table_of ws))) (HorizonOut (horizon (table_of ws)))
    far = decides-lt most_horizon (horizon (table_of ws))

    none : ¬ HorizonOut (horizon (table_of ws)) → NoneApplies ws
    none never n p a = below_more ws 9 (λ x. omega arith) b (not-nine ws never) n p (applies-ordered ws n p a).most a

    go : (t : Bool) → horizon_out (horizon (table_of ws)) ≡ t → Right ws (cond t (Refused 9 0) Passed)
    go true e = first-other ws 9 (λ x. omega arith) (nine (far.0 e)) b
    go false e = none (fails _ _ far e)

-- neither applies below place i
abbrev NoneBreaks : List ℕ → ℕ → Type 0
NoneBreaks ws i = (j : ℕ) → j < i → task_out (width_limit_of ws) (get_or (table_of ws).tasks j absent_task) ≡ false

none-breaks-at : (ws : List ℕ) (i : ℕ) → NoneBreaks ws i → (q : ℕ) → q ≤ i → Position ws q → ¬ (WidthOut (width_limit_of ws) (task_at ws q) ⊎ TimesOut (task_at ws q))
none-breaks-at ws i f q l o =
    let e = table_at ws (q - 1) (omega arith) in
    rw e at (fails _ _ (task-decides (width_limit_of ws) (get_or (table_of ws).tasks (q - 1) absent_task)) (f (q - 1) (omega arith)))

not-seven : (ws : List ℕ) (i : ℕ) → NoneBreaks ws i → (q : ℕ) → q ≤ i → ¬ Applies ws 7 q
not-seven ws i f q l a = let x = seven-means ws q a in none-breaks-at ws i f q l x.0 (inl x.1)

not_eight : (ws : List ℕ) (i : ℕ) → NoneBreaks ws i → (q : ℕ) → q ≤ i → ¬ Applies ws 8 q
not_eight ws i f q l a = let x = eight-means ws q a in none-breaks-at ws i f q l x.0 (inr x.1)

first-task : (ws : List ℕ) (n i : ℕ) → place n ≡ shared → Applies ws n (suc i) → Below ws shared → NoneBreaks ws i → (7 < n → ¬ Applies ws 7 (suc i)) → First ws n (suc i)
first-task ws n i s a b f low = (a, earlier)
  where
    same : (m q : ℕ) → (m ≡ 7) ⊎ (m ≡ 8) → ((q < suc i) ⊎ ((q ≡ suc i) × (m < n))) → ¬ Applies ws m q
    same m q m78 (inl l) x =
        ⊎_elim (λ e. not-seven ws i f q (omega arith) (subst (λ (k : ℕ). Applies ws k q) e x))
        (λ e. not_eight ws i f q (omega arith) (subst (λ (k : ℕ). Applies ws k q) e x))
        m78
    same m q m78 (inr l) x =
        let less = l.1 in
        ⊎_elim (λ e. low (omega arith) (subst (Applies ws 7) l.0 (subst (λ (k : ℕ). Applies ws k q) e x)))
        (λ e. ⊎_elim (λ (y : n ≡ 7). absurd (omega arith)) (λ (y : n ≡ 8). absurd (omega arith)) ((applies-ordered ws n (suc i) a).pair s))
        m78

    earlier : (m q : ℕ) → Earlier m q n (suc i) → ¬ Applies ws m q
    earlier m q (inl l) x = b m q (omega (arith, s)) x
    earlier m q (inr (e, l)) x = same m q ((applies-ordered ws m q x).pair (e ∙ s)) l x

-- 7 or 8, or by the horizon
tasks-right : (ws : List ℕ) → Below ws shared → Right ws (by_tasks (table_of ws))
unfolding by_tasks table_of place
tasks-right ws b = go (ltb out many) refl
  where
    m : ℕ
    m = width_limit_of ws

    many : ℕ
    many = length (table_of ws).tasks

    out : ℕ
    out = first_out m (table_of ws).tasks

    τ : Task
    τ = get_or (table_of ws).tasks out absent_task

    fine : NoneBreaks ws out
    fine j l = out-lowest m (table_of ws).tasks j l

    position : out < many → Position ws (suc out)
    position l = let n = table-length ws in omega arith

    at : out < many → τ ≡ task_at ws (suc out)
    at l = let n = table-length ws in let e : suc out - 1 ≡ out = omega arith in rw e (table_at ws out (omega arith))

    nine-left : many ≤ out → Below ws 9
    nine-left l =
        let n = table-length ws in
        below-tasks ws b
        (λ q a. let o = (seven-means ws q a).0 in not-seven ws out fine q (omega arith) a)
        (λ q a. let o = (eight-means ws q a).0 in not_eight ws out fine q (omega arith) a)

    -- a task that is out by its width, or else by its times
    which : out < many → (u : Bool) → width_out m τ ≡ u → (v : Bool) → times_out τ ≡ v → First ws (cond u 7 (cond v 8 0)) (suc out)
    which l true e v f =
        let h = rw (at l) at (holds (width_out m τ) (WidthOut m τ) (width-decides m τ) e) in
        first-task ws 7 out refl (seven (suc out) (position l) h) b fine (λ x. absurd (omega arith))
    which l false e true f =
        let w = rw (at l) at (fails (width_out m τ) (WidthOut m τ) (width-decides m τ) e) in
        let h = rw (at l) at (holds (times_out τ) (TimesOut τ) (times-decides τ) f) in
        first-task ws 8 out refl (eight (suc out) (position l) h) b fine (λ x a. w (seven-means ws (suc out) a).1)
    which l false e false f = absurd (true≢false (sym (out-found m (table_of ws).tasks l) ∙ rw (e, f)))

    go : (t : Bool) → ltb out many ≡ t → Right ws (cond t (Refused (task_number m τ) (suc out)) (by_horizon (table_of ws)))
    go true e = which (ltb-true out many e) (width_out m τ) refl (times_out τ) refl
    go false e = horizon-right ws (nine-left (ltb-false out many e))

-- 5 or 6, or by the tasks
walk-right : (ws : List ℕ) → Below ws 6 → Right ws (by_walk ws)
unfolding by_walk ending_of place
walk-right ws b = go (out_of_range_at ws (last_step ws)) refl (repeated_at ws (last_step ws)) refl
  where
    six-left : out_of_range_at ws (last_step ws) ≡ false → Below ws 7
    six-left e = below_more ws 6 (λ x. omega arith) b (not_five ws (fails (out_of_range_at ws (last_step ws)) (Applies ws 5 0) (five-decides ws) e))

    seven-left : out_of_range_at ws (last_step ws) ≡ false → repeated_at ws (last_step ws) ≡ false → Below ws shared
    seven-left e f = below_more ws 7 (λ x. omega arith) (six-left e) (not-six ws (fails (repeated_at ws (last_step ws)) (Applies ws 6 0) (six-decides ws) f))

    go : (t : Bool) → out_of_range_at ws (last_step ws) ≡ t → (u : Bool) → repeated_at ws (last_step ws) ≡ u → Right ws (by_ending (cond t Past (cond u Again Whole)) (table_of ws))
    go true e u f = first-other ws 5 (λ x. omega arith) ((five-decides ws).0 e) b
    go false e true f = first-other ws 6 (λ x. omega arith) ((six-decides ws).0 f) (six-left e)
    go false e false f = tasks-right ws (seven-left e f)

-- a number of the header, or by the walk
right : (ws : List ℕ) → Right ws (answer_of ws)
unfolding answer_of header_number place
right ws = go (words_out ws) refl (cores_out (core_count ws)) refl (rule_out (rule ws)) refl (fence_out (core_count ws) (fence ws)) refl (eqb (head ws) 0) refl
  where
    after_one : words_out ws ≡ false → Below ws 2
    after_one e = below_more ws 1 (λ x. omega arith) (below_one ws) (not-one ws (fails (words_out ws) (WordsOut ws) (words-decides ws) e))

    after_two : words_out ws ≡ false → cores_out (core_count ws) ≡ false → Below ws 3
    after_two e f = below_more ws 2 (λ x. omega arith) (after_one e) (not-two ws (fails (cores_out (core_count ws)) (CoresOut (core_count ws)) (cores-decides (core_count ws)) f))

    after-three : words_out ws ≡ false → cores_out (core_count ws) ≡ false → rule_out (rule ws) ≡ false → Below ws 4
    after-three e f g = below_more ws 3 (λ x. omega arith) (after_two e f) (not_three ws (fails (rule_out (rule ws)) (RuleOut (rule ws)) (rule-decides (rule ws)) g))

    fenced : Decides (fence_out (core_count ws) (fence ws)) (FenceOut (core_count ws) (fence ws))
    fenced = fence-decides (core_count ws) (fence ws)

    after-nineteen : words_out ws ≡ false → cores_out (core_count ws) ≡ false → rule_out (rule ws) ≡ false → fence_out (core_count ws) (fence ws) ≡ false → Below ws 5
    after-nineteen e f g i =
        below_more ws 4 (λ x. omega arith) (after-three e f g) (not-nineteen ws (fails (fence_out (core_count ws) (fence ws)) (FenceOut (core_count ws) (fence ws)) fenced i))

    go : (s : Bool) → words_out ws ≡ s → (t : Bool) → cores_out (core_count ws) ≡ t → (u : Bool) → rule_out (rule ws) ≡ u
        → (w : Bool) → fence_out (core_count ws) (fence ws) ≡ w → (v : Bool) → eqb (head ws) 0 ≡ v
        → Right ws
        (cond (eqb (cond s 1 (cond t 2 (cond u 3 (cond w 19 (cond v 4 0))))) 0) (by_walk ws) (Refused (cond s 1 (cond t 2 (cond u 3 (cond w 19 (cond v 4 0))))) 0))
    go true e t f u g w i v h = first-other ws 1 (λ x. omega arith) (one ((words-decides ws).0 e)) (below_one ws)
    go false e true f u g w i v h = first-other ws 2 (λ x. omega arith) (two ((cores-decides (core_count ws)).0 f)) (after_one e)
    go false e false f true g w i v h = first-other ws 3 (λ x. omega arith) (three ((rule-decides (rule ws)).0 g)) (after_two e f)
    go false e false f false g true i v h = first-other ws 19 (λ x. omega arith) (nineteen (fenced.0 i)) (after-three e f g)
    go false e false f false g false i true h = first-other ws 4 (λ x. omega arith) (four (eqb-true (head ws) 0 h)) (after-nineteen e f g i)
    go false e false f false g false i false h =
        walk-right ws (below_more ws 5 (λ x. omega arith) (after-nineteen e f g i) (not-four ws (eqb-false (head ws) 0 h)))

-- what is right of an answer determines it
determined : (ws : List ℕ) (a : Answer) → Right ws a → ((n p : ℕ) → (a ≡ Refused n p) ↔ First ws n p) × ((a ≡ Passed) ↔ NoneApplies ws)
determined ws Passed r = (λ n p. (λ e. absurd (passed-not-refused e), λ f. absurd (r n p f.0)), (λ e. r, λ n. refl))
  where
    passed-not-refused : {n p : ℕ} → Passed ≡ Refused n p → ⊥
    passed-not-refused e = let z : ◌≡◌ {A = ℕ} 0 1 = cc in omega arith
determined ws (Refused m q) r = (λ n p. (λ e. to n p e, λ f. in_range n p f), (λ e. absurd (refused-not-passed e), λ none. absurd (none m q r.0)))
  where
    refused-not-passed : Refused m q ≡ Passed → ⊥
    refused-not-passed e = let z : ◌≡◌ {A = ℕ} 0 1 = cc in omega arith

    to : (n p : ℕ) → Refused m q ≡ Refused n p → First ws n p
    to n p e = let a : m ≡ n = cc in let b : q ≡ p = cc in rw (a, b) at r

    in_range : (n p : ℕ) → First ws n p → Refused m q ≡ Refused n p
    in_range n p f = let x = first-only (Applies ws) m q n p r f in rw (x.0, x.1)

-- load refuses with n and p exactly if number n applies with position p and no earlier one does
pub refusal-exact : (ws : List ℕ) (n p : ℕ) → (answer_of ws ≡ Refused n p) ↔ First ws n p
refusal-exact ws n p = (determined ws (answer_of ws) (right ws)).0 n p

-- and a table passes exactly if no number applies
pub passed-exact : (ws : List ℕ) → (answer_of ws ≡ Passed) ↔ NoneApplies ws
passed-exact ws = (determined ws (answer_of ws) (right ws)).1
