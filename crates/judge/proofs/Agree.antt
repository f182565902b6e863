-- Whichever way is taken the verdict is the same, and a table that passes the interference test is accepted by all.
use mathlib.Core.Bool.{false, true}
use mathlib.Core.List.{List}
use mathlib.Core.Logic.{◌⊎◌}
use mathlib.Core.Path.{◌≡◌, sym, ◌∙◌}
use Prim.Native.Nat.{ℕ}
use Rattle.model.specs.Refusals as book
use Rattle.model.specs.Task.{Table}
use Rattle.model.specs.Verdict as model
use Rattle.std.proofs.lemmas.Bool.{false_from_ne_true}
use Rattle.table.specs.Load.{load_meaning}
use Rattle.judge.specs.declared.Verdict.{Verdict}
use Rattle.judge.specs.FirstMiss.{Missed}
use Rattle.judge.specs.FirstMiss.{MissedOf}
use Rattle.judge.specs.JudgeAnswer.{judged, verdict_meaning}
use Rattle.judge.specs.Judged.{Judged}
use Rattle.interference.specs.Bounds.{Bounds}
use Rattle.interference.specs.Bounds.{BoundsOf}

-- two judges give the same answer to every list of words, and find the same first miss: the contract of each gives its value
pub judges-agree : (ws : List ℕ) (v w : Verdict) → Judged ws v → Judged ws w → v ≡ w
judges-agree ws v w a b = a.value ∙ sym b.value

pub misses-agree : (s : Table) (end : ℕ) (m n : Missed) → MissedOf s end m → MissedOf s end n → m ≡ n
misses-agree s end m n a b = a.value ∙ sym b.value

-- LAW: chooser, tick judge and event judge agree on every table. Each promises `Judged` of its answer
pub all-agree : (ws : List ℕ) (chosen ticks events : Verdict) → Judged ws chosen → Judged ws ticks → Judged ws events → (chosen ≡ ticks) × (chosen ≡ events)
all-agree ws chosen ticks events a b c = (judges-agree ws chosen ticks a b, judges-agree ws chosen events a c)

-- .. and on the first miss before a tick
pub first-misses-agree :
    (s : Table) (end : ℕ) (chosen ticks events : Missed) → MissedOf s end chosen → MissedOf s end ticks → MissedOf s end events
    → (chosen ≡ ticks) × (chosen ≡ events)
first-misses-agree s end chosen ticks events a b c = (misses-agree s end chosen ticks a b, misses-agree s end chosen events a c)

-- LAW: a table that is not refused and passes the test is accepted, by every judge
pub test-accepts :
    (ws : List ℕ) (r : Bounds) → BoundsOf ws r → load_meaning r.answer ≡ book.taken → r.tested.met ≡ true → (v : Verdict) → Judged ws v
    → (s p : ℕ) × ((verdict_meaning v ≡ judged (model.Firm s p)) ⊎ (verdict_meaning v ≡ judged (model.Full s p)))
test-accepts ws r b passed met v j = j.accepted.1 (b.passed.0 passed, (b.tested passed).meets met)

-- LAW: a table with a miss fails the test
pub miss-fails :
    (ws : List ℕ) (r : Bounds) → BoundsOf ws r → load_meaning r.answer ≡ book.taken → (v : Verdict) → Judged ws v → (t p : ℕ)
    → verdict_meaning v ≡ judged (model.Miss t p) → r.tested.met ≡ false
miss-fails ws r b passed v j t p e =
    let first = ((j.miss t p).0 e).1 in
    false_from_ne_true r.tested.met (λ met. (b.tested passed).meets met first.place.0 t first.missed)
