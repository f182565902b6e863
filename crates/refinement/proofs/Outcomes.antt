-- The result of a replay, case by case; and from its value its contract: refused as the start is, unfit where the slices are, and else the book's
-- answers and row.
use mathlib.Core.Path.{◌≡◌, refl, sym, ap, ◌∙◌, subst}
use mathlib.Core.Bool.{Bool, true, false, cond}
use mathlib.Core.Logic.{◌↔◌}
use mathlib.Core.List.{List, map, ◌++◌}
use Prim.Native.Nat.{ℕ, ◌≤◌}
use native.Mathlib.Omega.{arith}
use lib.ListN.{length, drop, take}
use lib.Seq.{take_at, drop_at}
use Rattle.model.proofs.Lists.{map-map}
use Rattle.model.specs.Jobs as jobs
use Rattle.model.specs.Advance as entries
use Rattle.model.specs.Refusals as answers
use Rattle.model.specs.Lists as lists
use Rattle.model.specs.Sizes.{most_cores}
use Rattle.table.specs.Numbers.{FirstOf, NoneOf}
use Rattle.table.specs.Words.{table_of}
use Rattle.table.proofs.Decide.{Decides, decides_and, decides-le, fails}
use Rattle.run.specs.declared.Run.{Run}
use Rattle.run.specs.Answer.{Answer}
use Rattle.run.specs.Answer.{Taken, Refused}
use Rattle.run.specs.Answer.{Row}
use Rattle.refinement.specs.Replayed.{Replayed}
use Rattle.refinement.specs.Replayed as replayed
use Rattle.run.specs.Answer.{answer_meaning, shown_by, row_meaning}
use Rattle.run.specs.Row.{row_of}
use Rattle.run.specs.Start.{StartApplies, start_of, StartOf}
use Rattle.refinement.specs.Entries.{answers, run_after_list}
use Rattle.refinement.specs.Refines.{first_run, Refines}
use Rattle.refinement.specs.Listing.{Listed, entry_count, entries_in}
use Rattle.refinement.specs.Replay.{code, codes, SlicesFit, slices_fit, ReplayOutcome, row_case, last_row, start_refused, slices_unfit, replay_meaning}
use Rattle.refinement.specs.Replay.{outcome_meaning, replayed_run, replay_of, MatchesBook, ReplayOf}
use Rattle.run.proofs.StartExact.{start-of}
use Rattle.refinement.proofs.Refines.{refines}
use Rattle.run.proofs.Shown.{shown-length}
use Rattle.refinement.proofs.Listed.{length-entries, listed-decides}

-- ---- a run that has started

-- everything as found
abbrev pub unfit : List ℕ → List ℕ → ReplayOutcome
unfit numbers bytes = record { answer = replayed.Unfit; numbers = numbers; bytes = bytes }

-- the answers and the row are written
abbrev pub written : Run → List ℕ → List ℕ → List ℕ → ReplayOutcome
written r es numbers bytes =
    record {
      answer = row_case (row_of (run_after_list r (entries_in es)) 0).answer;
      numbers = codes r (entries_in es) ++ drop (entry_count es) numbers;
      bytes = (row_of (run_after_list r (entries_in es)) 0).bytes ++ drop most_cores bytes;
    }

-- the test finds whether the slices fit
pub fits-decides : (es numbers bytes : List ℕ) → Decides (slices_fit es (length numbers) (length bytes)) (SlicesFit es numbers bytes)
fits-decides es numbers bytes = (λ e. let x = both.0 e in (x.0, x.1.0, x.1.1), λ x. both.1 (x.0, (x.1, x.2)))
  where
    both : Decides (slices_fit es (length numbers) (length bytes)) (Listed es × ((entry_count es ≤ length numbers) × (most_cores ≤ length bytes)))
    both = decides_and _ _ _ _ (listed-decides es) (decides_and _ _ _ _ (decides-le (entry_count es) (length numbers)) (decides-le most_cores (length bytes)))

module _ (r : Run) (es numbers bytes : List ℕ) where
  pub replayed-unfit : slices_fit es (length numbers) (length bytes) ≡ false → replayed_run r es numbers bytes ≡ unfit numbers bytes
  unfolding replayed_run
  replayed-unfit e = rw e refl

  pub replayed-fit : slices_fit es (length numbers) (length bytes) ≡ true → replayed_run r es numbers bytes ≡ written r es numbers bytes
  unfolding replayed_run
  replayed-fit e = rw e refl

-- ---- by the start

module _ (ws es numbers bytes : List ℕ) where
  pub replay-refused : (n p : ℕ) → (start_of ws).answer ≡ Refused n p → replay_of ws es numbers bytes ≡ record { answer = replayed.Refused n p; numbers = numbers; bytes = bytes }
  unfolding replay_of
  replay-refused n p e = rw e refl

  pub replay-taken : (start_of ws).answer ≡ Taken → replay_of ws es numbers bytes ≡ replayed_run (first_run ws) es numbers bytes
  unfolding replay_of
  replay-taken e = rw e refl

-- ---- the contract of a replay

-- a row's case is neither a refused start nor unfit
case-refused : (a : Answer) (n p : ℕ) → row_case a ≡ replayed.Refused n p → ⊥
case-refused Taken n p e = let z : ◌≡◌ {A = ℕ} 0 1 = cc in omega arith
case-refused (Refused m q) n p e = let z : ◌≡◌ {A = ℕ} 0 1 = cc in omega arith

case-unfit : (a : Answer) → row_case a ≡ replayed.Unfit → ⊥
case-unfit Taken e = let z : ◌≡◌ {A = ℕ} 0 1 = cc in omega arith
case-unfit (Refused m q) e = let z : ◌≡◌ {A = ℕ} 0 1 = cc in omega arith

-- and has the row's meaning
case-outcome : (w : Row) → replay_meaning (row_case w.answer) w.bytes ≡ last_row (row_meaning w)
case-outcome w = go w.answer
  where
    go : (a : Answer) → replay_meaning (row_case a) w.bytes ≡ last_row (shown_by a w.bytes)
    go Taken = refl
    go (Refused n p) = refl

-- the cases with these meanings
means-refused : (v : Replayed) (bytes : List ℕ) (n p : ℕ) → replay_meaning v bytes ≡ start_refused n p → v ≡ replayed.Refused n p
means-refused replayed.Shown bytes n p e = absurd (let z : ◌≡◌ {A = ℕ} 0 1 = cc in omega arith)
means-refused (replayed.RowRefused m q) bytes n p e = absurd (let z : ◌≡◌ {A = ℕ} 0 1 = cc in omega arith)
means-refused (replayed.Refused m q) bytes n p e = let u : m ≡ n = cc in let v : q ≡ p = cc in λ i. replayed.Refused (u i) (v i)
means-refused replayed.Unfit bytes n p e = absurd (let z : ◌≡◌ {A = ℕ} 0 1 = cc in omega arith)

means-unfit : (v : Replayed) (bytes : List ℕ) → replay_meaning v bytes ≡ slices_unfit → v ≡ replayed.Unfit
means-unfit replayed.Shown bytes e = absurd (let z : ◌≡◌ {A = ℕ} 0 1 = cc in omega arith)
means-unfit (replayed.RowRefused m q) bytes e = absurd (let z : ◌≡◌ {A = ℕ} 0 1 = cc in omega arith)
means-unfit (replayed.Refused m q) bytes e = absurd (let z : ◌≡◌ {A = ℕ} 0 1 = cc in omega arith)
means-unfit replayed.Unfit bytes e = refl

module _ (r : Run) (es numbers bytes : List ℕ) where
  run-replay-refused : (n p : ℕ) → (replayed_run r es numbers bytes).answer ≡ replayed.Refused n p → ⊥
  unfolding replayed_run
  run-replay-refused n p e = go (slices_fit es (length numbers) (length bytes)) e
    where
      go : (t : Bool) → (cond t (written r es numbers bytes) (unfit numbers bytes)).answer ≡ replayed.Refused n p → ⊥
      go true q = case-refused (row_of (run_after_list r (entries_in es)) 0).answer n p q
      go false q = let z : ◌≡◌ {A = ℕ} 0 1 = cc in omega arith

  run-replay-unfit : (replayed_run r es numbers bytes).answer ≡ replayed.Unfit → (¬ SlicesFit es numbers bytes) × (replayed_run r es numbers bytes ≡ unfit numbers bytes)
  unfolding replayed_run
  run-replay-unfit e = go (slices_fit es (length numbers) (length bytes)) refl e
    where
      go : (t : Bool) → slices_fit es (length numbers) (length bytes) ≡ t → (cond t (written r es numbers bytes) (unfit numbers bytes)).answer ≡ replayed.Unfit
          → (¬ SlicesFit es numbers bytes) × (cond t (written r es numbers bytes) (unfit numbers bytes) ≡ unfit numbers bytes)
      go true q s = absurd (case-unfit (row_of (run_after_list r (entries_in es)) 0).answer s)
      go false q s = (fails (slices_fit es (length numbers) (length bytes)) (SlicesFit es numbers bytes) (fits-decides es numbers bytes) q, refl)

  unfit-replay : ¬ SlicesFit es numbers bytes → replayed_run r es numbers bytes ≡ unfit numbers bytes
  unfolding replayed_run
  unfit-replay n = go (slices_fit es (length numbers) (length bytes)) refl
    where
      go : (t : Bool) → slices_fit es (length numbers) (length bytes) ≡ t → cond t (written r es numbers bytes) (unfit numbers bytes) ≡ unfit numbers bytes
      go true q = absurd (n ((fits-decides es numbers bytes).0 q))
      go false q = refl

module _ (ws es numbers bytes : List ℕ) where
  -- the start's own contract
  started : StartOf ws (start_of ws)
  started = start-of ws (start_of ws) refl

  -- the two answers of a start
  by-start : (P : Type 0) → ((start_of ws).answer ≡ Taken → P) → ((n p : ℕ) → (start_of ws).answer ≡ Refused n p → P) → P
  by-start P f g = go (start_of ws).answer refl
    where
      go : (a : Answer) → (start_of ws).answer ≡ a → P
      go Taken e = f e
      go (Refused n p) e = g n p e

  none-refused : (start_of ws).answer ≡ Taken → NoneOf (StartApplies ws)
  none-refused e = started.taken.0 (ap answer_meaning e)

  taken_none : NoneOf (StartApplies ws) → (start_of ws).answer ≡ Taken
  taken_none h = by-start ((start_of ws).answer ≡ Taken) (λ e. e) (λ n p e. absurd (distinct-codes n p (started.taken.1 h) (ap answer_meaning e)))
    where
      distinct-codes : (n p : ℕ) → answer_meaning (start_of ws).answer ≡ answers.taken → answer_meaning (start_of ws).answer ≡ answers.refused n p → ⊥
      distinct-codes n p u v = let z : ◌≡◌ {A = ℕ} 0 1 = cc in omega arith

  abbrev given : ReplayOutcome
  given = replay_of ws es numbers bytes

  refused-exact : (n p : ℕ) → (given.answer ≡ replayed.Refused n p) ↔ FirstOf (StartApplies ws) n p
  refused-exact n p = (
    λ e. by-start (FirstOf (StartApplies ws) n p)
        (λ t. absurd (run-replay-refused (first_run ws) es numbers bytes n p (sym (ap (λ (o : ReplayOutcome). o.answer) (replay-taken ws es numbers bytes t)) ∙ e)))
        (λ m q t. (started.refused n p).0 (same m q t (sym (ap (λ (o : ReplayOutcome). o.answer) (replay-refused ws es numbers bytes m q t)) ∙ e))),
    λ h. by-start (given.answer ≡ replayed.Refused n p)
        (λ t. absurd (distinct-codes ((started.refused n p).1 h) (ap answer_meaning t)))
        (λ m q t. ap (λ (o : ReplayOutcome). o.answer) (replay-refused ws es numbers bytes m q t) ∙ back m q (sym (ap answer_meaning t) ∙ (started.refused n p).1 h)),
  )
    where
      same : (m q : ℕ) → (start_of ws).answer ≡ Refused m q → replayed.Refused m q ≡ replayed.Refused n p → answer_meaning (start_of ws).answer ≡ answers.refused n p
      same m q t e = let u : m ≡ n = cc in let v : q ≡ p = cc in ap answer_meaning t ∙ (λ i. answers.refused (u i) (v i))

      back : (m q : ℕ) → answers.refused m q ≡ answers.refused n p → replayed.Refused m q ≡ replayed.Refused n p
      back m q e = let u : m ≡ n = cc in let v : q ≡ p = cc in λ i. replayed.Refused (u i) (v i)

      distinct-codes : answer_meaning (start_of ws).answer ≡ answers.refused n p → answer_meaning (start_of ws).answer ≡ answers.taken → ⊥
      distinct-codes u v = let z : ◌≡◌ {A = ℕ} 0 1 = cc in omega arith

  -- an unfit answer: the start is taken, the slices do not fit, and everything is as found
  unfit-gives : given.answer ≡ replayed.Unfit → NoneOf (StartApplies ws) × ((¬ SlicesFit es numbers bytes) × (given ≡ unfit numbers bytes))
  unfit-gives e =
      by-start (NoneOf (StartApplies ws) × ((¬ SlicesFit es numbers bytes) × (given ≡ unfit numbers bytes)))
      (λ t.
      let s = run-replay-unfit (first_run ws) es numbers bytes (sym (ap (λ (o : ReplayOutcome). o.answer) (replay-taken ws es numbers bytes t)) ∙ e) in
      (none-refused t, (s.0, replay-taken ws es numbers bytes t ∙ s.1)))
      (λ n p t. absurd (distinct-codes n p (sym (ap (λ (o : ReplayOutcome). o.answer) (replay-refused ws es numbers bytes n p t)) ∙ e)))
    where
      distinct-codes : (n p : ℕ) → replayed.Refused n p ≡ replayed.Unfit → ⊥
      distinct-codes n p q = let z : ◌≡◌ {A = ℕ} 0 1 = cc in omega arith

  unfit-exact : (given.answer ≡ replayed.Unfit) ↔ (NoneOf (StartApplies ws) × (¬ SlicesFit es numbers bytes))
  unfit-exact = (
    λ e. let s = unfit-gives e in (s.0, s.1.0),
    λ h. ap (λ (o : ReplayOutcome). o.answer) (replay-taken ws es numbers bytes (taken_none h.0) ∙ unfit-replay (first_run ws) es numbers bytes h.1),
  )

  refused-found : (n p : ℕ) → given.answer ≡ replayed.Refused n p → (given.numbers ≡ numbers) × (given.bytes ≡ bytes)
  refused-found n p e =
      by-start ((given.numbers ≡ numbers) × (given.bytes ≡ bytes))
      (λ t. absurd (run-replay-refused (first_run ws) es numbers bytes n p (sym (ap (λ (o : ReplayOutcome). o.answer) (replay-taken ws es numbers bytes t)) ∙ e)))
      (λ m q t. (ap (λ (o : ReplayOutcome). o.numbers) (replay-refused ws es numbers bytes m q t), ap (λ (o : ReplayOutcome). o.bytes) (replay-refused ws es numbers bytes m q t)))

  -- the answers and the row are the book's
  by-the-book : NoneOf (StartApplies ws) → MatchesBook ws (entries_in es) numbers bytes (written (first_run ws) es numbers bytes)
  by-the-book h = record {
    each-answer =
        ap (λ (l : List ℕ). l ++ drop (entry_count es) numbers) (sym (map-map code answer_meaning (answers (first_run ws) xs)) ∙ ap (map code) f.each-answer)
        ∙ ap (λ (n : ℕ). map code (lists.answers_from (table_of ws) jobs.empty_book xs) ++ drop n numbers) (sym (length-entries es (entry_count es)));
    row-after =
        ap (replay_meaning (row_case last.answer)) (take_at last.bytes (drop most_cores bytes) most_cores (shown-length (run_after_list (first_run ws) xs) 0))
        ∙ (case-outcome last ∙ ap last_row (f.row-after 0));
    behind = drop_at last.bytes (drop most_cores bytes) most_cores (shown-length (run_after_list (first_run ws) xs) 0);
  }
    where
      xs : List entries.Entry
      xs = entries_in es

      f : Refines ws xs
      f = refines ws (ap answer_meaning (taken_none h)) xs

      last : Row
      last = row_of (run_after_list (first_run ws) xs) 0

  -- the answer by its meaning
  refused-of : (n p : ℕ) → outcome_meaning given ≡ start_refused n p → given.answer ≡ replayed.Refused n p
  refused-of = means-refused given.answer (take most_cores given.bytes)

  unfit-of : outcome_meaning given ≡ slices_unfit → given.answer ≡ replayed.Unfit
  unfit-of = means-unfit given.answer (take most_cores given.bytes)

  meaning : (v : Replayed) → given.answer ≡ v → outcome_meaning given ≡ replay_meaning v (take most_cores given.bytes)
  meaning v e = ap (λ (u : Replayed). replay_meaning u (take most_cores given.bytes)) e

  pub replay-of : (o : ReplayOutcome) → o ≡ replay_of ws es numbers bytes → ReplayOf ws es numbers bytes o
  replay-of o e = rw e record {
    value = refl;
    refused = λ n p. (λ e. (refused-exact n p).0 (refused-of n p e), λ f. meaning (replayed.Refused n p) ((refused-exact n p).1 f));
    unfit = (λ e. unfit-exact.0 (unfit-of e), λ f. meaning replayed.Unfit (unfit-exact.1 f));
    refused-found = λ n p e. refused-found n p (refused-of n p e);
    unfit-found = λ s. let x = unfit-gives (unfit-of s) in (ap (λ (o : ReplayOutcome). o.numbers) x.1.1, ap (λ (o : ReplayOutcome). o.bytes) x.1.1);
    book = λ h fit.
        subst (MatchesBook ws (entries_in es) numbers bytes)
        (sym (replay-taken ws es numbers bytes (taken_none h) ∙ replayed-fit (first_run ws) es numbers bytes ((fits-decides es numbers bytes).1 fit)))
        (by-the-book h);
  }
