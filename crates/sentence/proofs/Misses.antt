-- The facts of every first miss are expressible, and their sentence is short: the late job had fewer than C ticks, and the ticks that it had and its waiting
-- ticks are together at most D.
use mathlib.Core.Path.{◌≡◌, refl, sym, ap, ◌∙◌, subst}
use mathlib.Core.Bool.{Bool, true, false, not, ◌&&◌, cond, and-false}
use mathlib.Core.List.{List, map}
use Prim.Native.Nat.{ℕ, zero, suc, ◌+◌, ◌≤◌, ◌<◌}
use native.Mathlib.Omega.{arith}
use lib.Dec.{leb}
use lib.ListN.{length, get_or, length-map, get_or-eq_default}
use borrow.Author.Tests.{leb-true, leb-false, not-true}
use Rattle.model.specs.Search.{up_from}
use Rattle.model.specs.Task.{Table, AllValid, task}
use Rattle.model.specs.Jobs.{Book, Job}
use Rattle.model.specs.Claims.{served, job_claims, in_row}
use Rattle.model.specs.Advance.{work}
use Rattle.model.specs.Lists.{full}
use Rattle.model.specs.Verdict.{FirstMiss}
use Rattle.model.proofs.Bools.{and_left, and_right}
use Rattle.model.proofs.Jobs.{after-release}
use Rattle.model.proofs.Lists.{up-length, map_at}
use Rattle.model.proofs.Runs.{full-next, full-tick, bounds-full}
use Rattle.table.specs.Limits.{most_horizon}
use Rattle.text.specs.Decimal.{digit_count, digits_within}
use Rattle.text.proofs.Decimals.{count_most}
use Rattle.sentence.specs.Facts.{limit, Expressible}
use Rattle.sentence.specs.Limits.{FactsWithinLimits, longest_sentence}
use Rattle.sentence.specs.Sentence.{sentence_text}
use Rattle.sentence.specs.Waiting.{tally, book_at, release_of, had_by, waits, ran_while_waiting, facts_at}
use Rattle.sentence.proofs.Longest.{sentence-short, longest-now}
use Rattle.sentence.proofs.Naming.{named-ascending, named-together}
use Rattle.sentence.proofs.Tallies.{tally-most, tally-apart}
use Rattle.sentence.proofs.Waiting.{missed_here, due-here, released-here, same-book, had-full, ran_in}

-- a job has had at most as many ticks as it was served in
had-served : (s : Table) (p k n : ℕ) → ((full s n).job p k).had ≤ tally n (λ u. served s (full s u) p k)
unfolding full work tally
had-served s p k zero = omega arith
had-served s p k (suc n) =
    subst (λ (x : Job). x.had ≤ cond (served s (full s n) p k) (suc before) before) (sym (full-next s n p k))
    (go (served s (full s n) p k) ((full s n).job p k).ended (had-served s p k n))
  where
    j : Job
    j = (full s n).job p k

    before : ℕ
    before = tally n (λ u. served s (full s u) p k)

    go : (b e : Bool) → j.had ≤ before
        → (cond b (cond e (record { had = j.had; claimed = suc j.claimed; ended = true })
        (record { had = suc j.had; claimed = suc j.claimed; ended = leb (task s p).length (suc j.had) })) j).had
        ≤ cond b (suc before) before
    go true true l = omega arith
    go true false l = omega arith
    go false e l = l

horizon-digits : digit_count most_horizon ≡ 10
unfolding digit_count digits_within
horizon-digits = refl

module _ (s : Table) (ok : AllValid s) (t p : ℕ) (f : FirstMiss s t (suc p)) where
  abbrev job : ℕ
  job = (missed_here s ok t p f).1.0

  below : p < length s.tasks
  below = (missed_here s ok t p f).0

  -- fewer ticks than C
  pub had-short : had_by s t p < (task s p).length
  had-short = omega (arith, had-full s ok t p f, (bounds-full s ok t p job below).short (missed_here s ok t p f).1.2)

  -- its ticks and its waiting ticks are at most D
  pub had-waiting : (q : ℕ) → had_by s t p + ran_while_waiting s t p q ≤ (task s p).deadline
  unfolding ran_while_waiting served
  had-waiting q =
      omega (
        arith,
        had-full s ok t p f,
        had-served s p job t,
        tally-apart (release_of s t p) t (λ u. served s (full s u) p job) (ran_in s t p q) runs waiting,
        due-here s ok t p f,
        released-here s ok t p f,
      )
    where
      runs : (u : ℕ) → served s (full s u) p job ≡ true → release_of s t p ≤ u
      runs u e =
          let r = after-release s.rule (task s p) job (full s u).tick ((full s u).job p job) (and_left (job_claims s (full s u) p job) (in_row s (full s u) p) e) in
          omega (arith, released-here s ok t p f, full-tick s u)

      waiting : (u : ℕ) → u < t → ran_in s t p q u ≡ true → (release_of s t p ≤ u) × (served s (full s u) p job ≡ false)
      waiting u l e =
          let w = and_left (waits s t p u) (in_row s (book_at s u) q) e in
          let out : in_row s (full s u) p ≡ false =
          ap (λ (b : Book). in_row s b p) (sym (same-book s ok t p f u (omega arith))) ∙ not-true (in_row s (book_at s u) p) (and_right (leb (release_of s t p) u) (not (in_row s (book_at s u) p)) w) in (
            leb-true (release_of s t p) u (and_left (leb (release_of s t p) u) (not (in_row s (book_at s u) p)) w),
            ap (λ (b : Bool). job_claims s (full s u) p job && b) out ∙ and-false (job_claims s (full s u) p job),
          )

  -- the counts of the tasks above
  abbrev counts : List ℕ
  counts = map (ran_while_waiting s t p) (up_from 0 p)

  size : length counts ≡ p
  size = length-map (up_from 0 p) (ran_while_waiting s t p) ∙ up-length 0 p

  past : (k : ℕ) → p ≤ k → get_or counts k 0 ≡ 0
  past k l = get_or-eq_default counts 0 (omega (arith, size))

  each-count : (P : ℕ → Type 0) → P 0 → ((q : ℕ) → P (ran_while_waiting s t p q)) → (k : ℕ) → P (get_or counts k 0)
  each-count P z h k = go (leb p k) refl
    where
      go : (b : Bool) → leb p k ≡ b → P (get_or counts k 0)
      go true e = subst P (sym (past k (leb-true p k e))) z
      go false e =
          let l = leb-false p k e in
          subst P (sym (map_at (ran_while_waiting s t p) (up_from 0 p) k 0 0 (omega (arith, up-length 0 p)))) (h (get_or (up_from 0 p) k 0))

  few-ticks : (q : ℕ) → ran_while_waiting s t p q ≤ t
  unfolding ran_while_waiting
  few-ticks q = tally-most t (ran_in s t p q)

  module _ (few : length s.tasks ≤ 32) where
    -- THE LAW: the facts of the first miss are expressible
    pub miss-expressible : t < limit → (task s p).length < limit → Expressible (facts_at s t p)
    miss-expressible lt lc = record {
      first = omega arith;
      last = omega (arith, below);
      tick = lt;
      short = had-short;
      length = lc;
      others =
          named-ascending 0 (suc p) counts (each-count (λ n. n < limit) (omega arith) (λ q. omega (arith, few-ticks q)))
          (λ k l. past k (omega arith));
    }

    module _ (lc : (task s p).length ≤ 1000000) (ld : (task s p).deadline ≤ 1000000) where
      -- and their sentence is short: as long as the limit of the ticks lets it be
      pub miss-within : (last : ℕ) → digit_count t ≤ digit_count last → t < limit → length (sentence_text (facts_at s t p)) ≤ longest_sentence last
      miss-within last d lt = sentence-short last (facts_at s t p) limited
        where
          limited : FactsWithinLimits last (facts_at s t p)
          limited = record {
            position = omega (arith, below);
            tick = d;
            short = had-short;
            length = lc;
            others = (miss-expressible lt (omega arith)).others;
            together = named-together 0 (had_by s t p) 1000000 counts (each-count (λ n. had_by s t p + n ≤ 1000000) (omega (arith, had-waiting 0)) (λ q. omega (arith, had-waiting q)));
          }

    -- for ticks up to the limit of a horizon
    pub miss-at-most : t ≤ most_horizon → (task s p).length ≤ 1000000 → (task s p).deadline ≤ 1000000 → length (sentence_text (facts_at s t p)) ≤ longest_sentence most_horizon
    miss-at-most lt lc ld = miss-within lc ld most_horizon (omega (arith, count_most 9 t (omega arith), horizon-digits)) (omega arith)

    -- .. in bytes
    pub miss-short : t ≤ most_horizon → (task s p).length ≤ 1000000 → (task s p).deadline ≤ 1000000 → length (sentence_text (facts_at s t p)) ≤ 700
    miss-short lt lc ld = omega (arith, miss-at-most lt lc ld, longest-now)
