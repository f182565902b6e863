use Rattle.std.proofs.Common.{List, [], ◌∷◌, ◌++◌, ◌≡◌, ◌+◌, ◌-◌, ◌%◌, ℕ, suc, append-nil, length-set, arith, refl, ap, ap₂, sym, ◌∙◌, add-zero}
use lib.ListN.{set}
use Rattle.text.specs.Decimal.{last_digits, decimal}
use Rattle.text.specs.Written.{written}
use Rattle.text.proofs.Decimals.{decimal-length}
use Rattle.text.proofs.Writing.{written_none, written-before, last-before}
use Rattle.text.proofs.decimal.put.Goals as goal

pub loop-k-init : goal.loop-k-init
unfolding decimal
loop-k-init c =
    let a = c.args in
    ([], sym (written_none a.line.now (a.at + c.digits-count.result)), append-nil _ ∙ ap (λ (k : ℕ). last_digits k a.number) c.digits-count.ensures, refl)

pub loop-k-preserved : goal.loop-k-preserved
loop-k-preserved c =
    let a = c.args in
    let l = c.loop-k in
    let s = l.invariant.0 in
    let d = 48 + l.left % 10 in
    let i = a.at + (l.k - 1) in
    let next : a.at + l.k ≡ suc i = omega arith in (
      d ∷ s,
      ap (λ (b : List ℕ). set b i d) (l.invariant.1 ∙ ap (λ (j : ℕ). written a.line.now j s) next) ∙ written-before a.line.now i d s (omega arith),
      last-before l.k l.left s c.loop-k-test.true ∙ l.invariant.2,
      length-set l.line i d ∙ l.invariant.3,
    )

pub returns : goal.returns
unfolding last_digits
returns c =
    let a = c.args in
    let l = c.loop-k in
    let over : l.k ≡ 0 = omega arith in
    let whole : l.invariant.0 ≡ decimal a.number = ap (λ (k : ℕ). last_digits k l.left ++ l.invariant.0) (sym over) ∙ l.invariant.2 in
    record {
      bytes = l.invariant.1 ∙ ap₂ (λ (k : ℕ) (s : List ℕ). written a.line.now k s) (ap (λ (k : ℕ). a.at + k) over ∙ add-zero a.at) whole;
      ends = omega (arith, decimal-length a.number);
    }
