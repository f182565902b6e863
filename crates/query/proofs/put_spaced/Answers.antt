-- A number has at most ten digits.
use mathlib.Core.List.{List}
use mathlib.Core.Path.{sym, subst}
use Prim.Native.Nat.{ℕ}
use Rattle.std.proofs.Common.{arith}
use Rattle.text.specs.Written.{Put}
use Rattle.text.proofs.Decimals.{count_most, decimal-most}
use Rattle.query.specs.Positions.{spaced_at}
use Rattle.query.proofs.Positions.{spaced-behind}
use Rattle.query.proofs.put_spaced.Goals as goal

pub put-requires : goal.put-requires
put-requires c = omega (arith, c.requires, count_most 9 c.args.number (omega arith))

pub returns-then-at-eq0 : goal.returns-then-at-eq0
unfolding spaced_at
returns-then-at-eq0 c =
    let a = c.args in (
      subst (λ (k : ℕ). Put a.line.now k (spaced_at k a.number) c.put.new.line c.put.result) (sym c.if-at-eq0.true) c.put.ensures,
      omega (arith, c.put.ensures.ends, decimal-most a.number (omega arith)),
    )

pub returns : goal.returns
returns c =
    let a = c.args in
    (subst (λ (t : List ℕ). Put a.line.now a.at t c.put_field.new.line c.put_field.result) (sym (spaced-behind a.at a.number (omega arith))) c.put_field.ensures.0, c.put_field.ensures.1)
