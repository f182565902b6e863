use Rattle.std.proofs.Common.{List, [], ◌∷◌, ◌++◌, map, ℕ, ◌+◌, ◌<◌, ◌≡◌, Result, Ok, Err, ap, refl, sym, subst, ◌∙◌, arith, rules, length, drop}
use Rattle.std.proofs.Math.ListN.{set}
use Rattle.model.specs.declared.refusal.Refusal.{Refusal}
use Rattle.run.specs.declared.Run.{Run}
use Rattle.run.specs.Advance.{Advanced, advanced}
use Rattle.run.specs.Answer.{answer_meaning}
use Rattle.model.specs.Advance.{Entry}
use Rattle.model.specs.Search.{up_from}
use Rattle.refinement.specs.Entries.{entry_of, answers, run_after_list}
use Rattle.refinement.specs.Listing.{entry_count, entry_at}
use Rattle.refinement.specs.Replay.{EntryAnswer, code, codes}
use Rattle.run.proofs.Written.{written-more}
use Rattle.refinement.proofs.Listed.{after_more, codes-more, length-codes, entries-more, length-entries, entry-chunk}
use Rattle.refinement.proofs.Codes.{small-answer}
use Rattle.refinement.proofs.replays.enter_all.Goals as goal
use Rattle.refinement.proofs.replays.enter_all.Goals.{in-Ok, in-Err}

-- the first i entries of the words
abbrev first : List ℕ → ℕ → List Entry
first es i = map (entry_at es) (up_from 0 i)

pub loop-i-init : goal.loop-i-init
unfolding run_after_list answers up_from
loop-i-init c = search rules

-- the answer to an entry as code returns it
answer-of : (r s : Run) (x : Entry) (e : Result Run Refusal) (y : Result Run Refusal) → e ≡ y → advanced r e ≡ entry_of r x → r ≡ s → advanced r y ≡ entry_of s x
answer-of r s x e y is gives same = ap (advanced r) (sym is) ∙ (gives ∙ ap (λ (q : Run). entry_of q x) same)

pub code-requires : goal.code-requires
code-requires c =
    let l = c.loop-i in
    let es = c.args.entries.now in
    let x = entry_at es l.i in
    let same = ap (entry_of l.run) (entry-chunk es c.as_chunks.result.0.now c.as_chunks.ensures.front l.i (omega (arith, c.as_chunks.ensures.front_len))) in
    subst (λ (a : Advanced). EntryAnswer (answer_meaning a.answer))
    (sym (answer-of l.run l.run x c.enter.result (Err c.in-Err.refusal) c.in-Err.is (c.enter.ensures ∙ same) refl)) (small-answer l.run x)

-- one entry more, with its answer as number k and the next run r
module _ (run : Run) (es numbers₀ numbers : List ℕ) (i : ℕ) (room : i < length numbers₀) where
  more-codes :
      (numbers ≡ codes run (first es i) ++ drop i numbers₀) → (k : ℕ)
      → k ≡ code (answer_meaning (entry_of (run_after_list run (first es i)) (entry_at es i)).answer)
      → set numbers i k ≡ codes run (first es (i + 1)) ++ drop (i + 1) numbers₀
  more-codes written k is =
      let xs = first es i in
      let x = entry_at es i in
      let n : length (codes run xs) ≡ i = length-codes run xs ∙ length-entries es i in
      let more = written-more (codes run xs) numbers₀ i k 0 n room in
      let all : codes run (first es (i + 1)) ≡ codes run xs ++ (k ∷ []) =
      ap (codes run) (entries-more es i) ∙ (codes-more run xs x ∙ ap (λ (k : ℕ). codes run xs ++ (k ∷ [])) (sym is)) in
      simp written (more ∙ ap (λ (l : List ℕ). l ++ drop (i + 1) numbers₀) (sym all))

  more-run : (r : Run) → r ≡ (entry_of (run_after_list run (first es i)) (entry_at es i)).run → r ≡ run_after_list run (first es (i + 1))
  more-run r is = is ∙ (sym (after_more run (first es i) (entry_at es i)) ∙ ap (run_after_list run) (sym (entries-more es i)))

pub loop-i-preserved : goal.loop-i-preserved
loop-i-preserved c =
    let a = c.args in
    let l = c.loop-i in
    let es = a.entries.now in
    let x = entry_at es l.i in
    let after = run_after_list a.run (first es l.i) in
    let same = ap (entry_of l.run) (entry-chunk es c.as_chunks.result.0.now c.as_chunks.ensures.front l.i (omega (arith, c.as_chunks.ensures.front_len))) in
    elim c.match-enter.branch [
      | in-Ok w ↦
          let ans = answer-of l.run after x c.enter.result (Ok w.in-Ok.next) w.in-Ok.is (c.enter.ensures ∙ same) l.invariant.after in
          record {
            after = more-run a.run es a.numbers.now l.numbers l.i (omega arith) c.match-enter.run (w.run-is ∙ ap (λ (b : Advanced). b.run) ans);
            written =
                w.numbers-is
                ∙ more-codes a.run es a.numbers.now l.numbers l.i (omega arith) l.invariant.written 0 (ap (λ (b : Advanced). code (answer_meaning b.answer)) ans);
          }
      | in-Err w ↦
          let ans = answer-of l.run after x c.enter.result (Err w.in-Err.refusal) w.in-Err.is (c.enter.ensures ∙ same) l.invariant.after in
          record {
            after = more-run a.run es a.numbers.now l.numbers l.i (omega arith) c.match-enter.run (w.run-is ∙ ap (λ (b : Advanced). b.run) ans);
            written =
                w.numbers-is
                ∙ more-codes a.run es a.numbers.now l.numbers l.i (omega arith) l.invariant.written w.code.result
                (w.code.ensures ∙ ap (λ (b : Advanced). code (answer_meaning b.answer)) ans);
          }
    ]

pub returns : goal.returns
returns c =
    let a = c.args in
    let l = c.loop-i in
    let es = a.entries.now in
    let e : l.i ≡ entry_count es = omega arith in (
      l.invariant.after ∙ ap (λ (k : ℕ). run_after_list a.run (first es k)) e,
      l.invariant.written ∙ ap (λ (k : ℕ). codes a.run (first es k) ++ drop k a.numbers.now) e,
    )
