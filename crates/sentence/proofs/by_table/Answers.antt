-- `sentence::by_table`: what the search finds is written, and 17 is returned where it finds nothing.
use Rattle.std.proofs.Common.{◌≡◌, ◌∙◌, refl, sym, ap, subst, ℕ, suc, ◌+◌, ◌-◌, ◌≤◌, length, arith}
use Rattle.model.specs.Horizon.{horizon}
use Rattle.model.specs.Verdict.{FirstMiss}
use Rattle.table.specs.declared.Loaded.{Loaded}
use Rattle.table.specs.Fit.{loaded_table, Fit}
use Rattle.judge.specs.FirstMiss.{Missed, At, missed_before, MissedOf, miss_meaning, miss_of}
use Rattle.judge.proofs.FirstMiss.{never-found, one_found}
use Rattle.sentence.specs.Facts.{Facts}
use Rattle.sentence.specs.SentenceAnswer.{answered, by_buffer, sentence_meaning, left_in}
use Rattle.sentence.proofs.WritingSentence.{by-never, by-found, found-facts}
use Rattle.sentence.proofs.by_table.Goals as goal

-- what the search found, up to and including the horizon
to-horizon : (t : Loaded) → Fit t → (m : Missed) → MissedOf (loaded_table t) (t.horizon + 1) m → m ≡ missed_before (loaded_table t) (suc (horizon (loaded_table t)))
to-horizon t fit m o = let e : t.horizon + 1 ≡ suc (horizon (loaded_table t)) = omega (arith, fit.horizon) in o.value ∙ ap (missed_before (loaded_table t)) e

first_of : (t : Loaded) (m : Missed) → MissedOf (loaded_table t) (t.horizon + 1) m → (u p : ℕ) → m ≡ At u p
    → FirstMiss (loaded_table t) u (suc (p - 1)) × (u ≤ t.horizon) × (1 ≤ p)
first_of t m o u p e =
    let f = (o.first u p).0 (ap miss_meaning e) in
    let some : 1 ≤ p = omega (arith, f.0.place.1) in
    let same : p ≡ suc (p - 1) = omega arith in
    (subst (FirstMiss (loaded_table t) u) same f.0, omega (arith, f.1), some)

pub overflow_sub-miss : goal.overflow_sub-miss
overflow_sub-miss c = (first_of c.args.fitting.loaded (miss_of c.first_miss.result) c.first_miss.ensures _ _ (ap miss_of c.in-Some.is)).2

pub write_miss-requires : goal.write_miss-requires
write_miss-requires c =
    let f = first_of c.args.fitting.loaded (miss_of c.first_miss.result) c.first_miss.ensures _ _ (ap miss_of c.in-Some.is) in
    (f.0, f.1, c.requires)

pub returns-in-None : goal.returns-in-None
returns-in-None c = (
  by-never (loaded_table c.args.fitting.loaded) (length c.args.buffer.now)
      (never-found _ _ (sym (to-horizon c.args.fitting.loaded c.args.fitting.fit (miss_of c.first_miss.result) c.first_miss.ensures) ∙ ap miss_of c.in-None.is)),
  refl,
)

pub returns-in-Some : goal.returns-in-Some
returns-in-Some c =
    let t = c.args.fitting.loaded in
    let e = sym (to-horizon t c.args.fitting.fit (miss_of c.first_miss.result) c.first_miss.ensures) ∙ ap miss_of c.in-Some.is in
    let same = found-facts (loaded_table t) _ _ e in
    let done = c.write_miss.ensures in (
      done.0 ∙ ap (λ (f : Facts). by_buffer f (length c.args.buffer.now)) same ∙ by-found (loaded_table t) (length c.args.buffer.now) (one_found _ _ _ _ e),
      done.1 ∙ ap (λ (f : Facts). left_in (sentence_meaning (answered c.write_miss.result)) f c.args.buffer.now) same,
    )
