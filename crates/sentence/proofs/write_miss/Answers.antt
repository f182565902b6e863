-- `sentence::write_miss`: the sentence fits in the array that it is written in, and is copied where the buffer has space.
use Rattle.std.proofs.Common.{◌∙◌, refl, sym, ap, subst, ℕ, suc, ◌≤◌, ◌<◌, length, replicate, arith}
use Rattle.model.specs.Verdict.{FirstMiss}
use Rattle.table.specs.declared.Loaded.{Loaded}
use Rattle.table.specs.Fit.{Fit, loaded_table}
use Rattle.simulation.proofs.AtTick.{size, few}
use Rattle.text.specs.Written.{Put}
use Rattle.sentence.specs.Facts.{Facts}
use Rattle.sentence.specs.Sentence.{sentence_text}
use Rattle.sentence.specs.Waiting.{facts_at}
use Rattle.sentence.specs.SentenceAnswer.{Length}
use Rattle.sentence.specs.Counting.{LengthsWithin}
use Rattle.sentence.proofs.Waiting.{missed_here}
use Rattle.sentence.proofs.Misses.{miss-short}
use Rattle.sentence.proofs.WritingSentence.{too_short, long-enough, text-length, text-copied}
use Rattle.sentence.proofs.write_miss.Goals as goal

-- the sentence is short
short : (t : Loaded) (tick place : ℕ) → Fit t → FirstMiss (loaded_table t) tick (suc place) → tick ≤ t.horizon → LengthsWithin t
    → length (sentence_text (facts_at (loaded_table t) tick place)) ≤ 700
short t tick place fit first late within =
    let s = loaded_table t in
    let l = (missed_here s fit.valid tick place first).0 in
    let inside : place < t.count = omega (arith, size t fit) in
    miss-short s fit.valid tick place first (few t fit) (omega (arith, late, fit.limit)) (within place inside)
    (omega (arith, (fit.valid place l).constrained, fit.short place inside))

pub put-length-requires : goal.put-length-requires
put-length-requires c =
    subst (λ (f : Facts). length (sentence_text f) ≤ 700) (sym c.count-facts.ensures)
    (short c.args.fitting.loaded c.args.tick c.args.place c.args.fitting.fit c.requires.0 c.requires.1 c.requires.2)

pub returns-then-buffer-length : goal.returns-then-buffer-length
returns-then-buffer-length c =
    let f = facts_at (loaded_table c.args.fitting.loaded) c.args.tick c.args.place in
    let aside = subst (λ (g : Facts). Put (replicate 700 0) 0 (sentence_text g) c.put-length.new.line c.put-length.result) c.count-facts.ensures c.put-length.ensures in
    let measured = text-length _ _ _ _ aside in
    (too_short f (length c.args.buffer.now) (omega (arith, measured, c.if-buffer-length.true)), refl)

pub returns : goal.returns
returns c =
    let f = facts_at (loaded_table c.args.fitting.loaded) c.args.tick c.args.place in
    let aside = subst (λ (g : Facts). Put (replicate 700 0) 0 (sentence_text g) c.put-length.new.line c.put-length.result) c.count-facts.ensures c.put-length.ensures in
    let measured = text-length _ _ _ _ aside in
    let done = text-copied _ _ _ _ aside _ _ _ c.put.ensures in
    (ap Length done.0 ∙ long-enough f (length c.args.buffer.now) (omega (arith, measured, c.if-buffer-length.false)), done.1)
