-- `plan::by_table`: the tests are made in the scope's order, and the rows are written where none of them refuses.
use Rattle.std.proofs.Common.{◌∙◌, ◌≤◌, ◌-◌, ap, sym, refl, true, false, length, arith}
use native.Mathlib.Nat.{mul-le-mul}
use Rattle.table.specs.Fit.{loaded_table}
use Rattle.judge.specs.FirstMiss.{miss_of}
use Rattle.judge.proofs.FirstMiss.{never-found, one_found}
use Rattle.plan.proofs.Cases.{above, beyond, too_short, long-enough}
use Rattle.plan.proofs.by_table.Goals as goal

pub returns-then-b-a : goal.returns-then-b-a
returns-then-b-a c = let x = c.args in (above (loaded_table x.fitting.loaded) x.a x.b (length x.out.now) c.if-b-a.true, refl)

pub returns-then-table-b : goal.returns-then-table-b
returns-then-table-b c =
    let x = c.args in
    (beyond (loaded_table x.fitting.loaded) x.a x.b (length x.out.now) c.if-b-a.false (omega (arith, c.if-table-b.true, x.fitting.fit.horizon)), refl)

pub overflow_mul-bytes : goal.overflow_mul-bytes
overflow_mul-bytes c =
    let x = c.args in
    let short : x.b - x.a ≤ 1000000000 = omega (arith, c.if-table-b.false, x.fitting.fit.limit) in
    omega (arith, mul-le-mul short x.fitting.fit.narrow)

pub returns-then-out-bytes : goal.returns-then-out-bytes
returns-then-out-bytes c =
    let x = c.args in
    (too_short (loaded_table x.fitting.loaded) x.a x.b (length x.out.now) c.if-b-a.false (omega (arith, c.if-table-b.false, x.fitting.fit.horizon)) c.if-out-bytes.true, refl)

pub write-requires : goal.write-requires
write-requires c =
    let x = c.args in (
      c.if-table-b.false,
      never-found (loaded_table x.fitting.loaded) x.b (sym c.first_miss.ensures.value ∙ ap miss_of c.in-None.is),
      c.if-out-bytes.false,
    )

pub returns-in-None : goal.returns-in-None
returns-in-None c =
    let x = c.args in
    let none = never-found (loaded_table x.fitting.loaded) x.b (sym c.first_miss.ensures.value ∙ ap miss_of c.in-None.is) in (
      long-enough (loaded_table x.fitting.loaded) x.a x.b (length x.out.now) c.if-b-a.false (omega (arith, c.if-table-b.false, x.fitting.fit.horizon)) c.if-out-bytes.false false none,
      c.write.ensures,
    )

pub returns-in-Some : goal.returns-in-Some
returns-in-Some c =
    let x = c.args in
    let some = one_found (loaded_table x.fitting.loaded) x.b _ _ (sym c.first_miss.ensures.value ∙ ap miss_of c.in-Some.is) in (
      long-enough (loaded_table x.fitting.loaded) x.a x.b (length x.out.now) c.if-b-a.false
          (omega (arith, c.if-table-b.false, x.fitting.fit.horizon)) c.if-out-bytes.false true some,
      refl,
    )
