-- Each iteration is one place that lends or holds nothing, and after the last the sets are the model's.
use Rattle.std.proofs.Common.{◌≡◌, ◌∙◌, refl, sym, subst, List, ℕ, suc, ◌*◌, ◌^◌, ◌%◌, ◌<◌, take, bit_and, add-one, arith, rules}
use mathlib.Core.Path.{subst₂}
use lib.Bits.{bit_xor}
use lib.Seq.{get_or-take}
use Rattle.model.specs.Grants.{claimants}
use Rattle.model.specs.Search.{bit}
use Rattle.model.specs.Task.{greedy}
use Rattle.rule.specs.Granted.{GrantedAs}
use Rattle.rule.specs.Widths.{widths_in}
use Rattle.rule.proofs.Lending.{Lending, all-lent, lending-begun, lends, lends_none}
use Rattle.rule.proofs.Widths.{front_length}
use Rattle.rule.proofs.lend.Goals as goal
use Rattle.rule.proofs.lend.Goals.{then-has, else-has}

pub loop-place-init : goal.loop-place-init
loop-place-init c =
    let a = c.args in
    lending-begun (take a.count (widths_in a.even a.widths.now)) a.reserved.now a.holders a.seekers a.count c.ranges.seekers.fits

pub loop-place-preserved : goal.loop-place-preserved
loop-place-preserved c =
    let a = c.args in
    let l = c.loop-place in
    let ws = take a.count (widths_in a.even a.widths.now) in
    let inside : l.place < 32 = omega (arith, c.requires) in
    let left = bit_and l.seeking (bit_xor l.seeking ((1 * 2 ^ l.place) % 2 ^ 32)) in
    let turned : Lending ws a.reserved.now a.holders a.seekers a.count c.if-has.sets c.if-has.seeking (suc l.place) =
    elim c.if-has.branch [
      | then-has w ↦
          subst₂ (λ (sets : List ℕ) (seeking : ℕ). Lending ws a.reserved.now a.holders a.seekers a.count sets seeking (suc l.place)) (sym w.sets-is) (sym w.seeking-is)
          (lends ws a.reserved.now a.holders a.seekers a.count l.sets l.seeking l.place l.invariant inside left refl
          (sym c.has.ensures ∙ w.if-has.true) w.grants-more.result
          (subst (λ (own : ℕ). GrantedAs greedy (claimants ws (bit left)) a.count own w.grants-more.result) (get_or-take a.count a.reserved.now l.place 0 (omega arith)) w.grants-more.ensures)
          w.owners.result w.owners.ensures w.merge.new.sets (search rules) w.merge.ensures)
      | else-has w ↦
          subst₂ (λ (sets : List ℕ) (seeking : ℕ). Lending ws a.reserved.now a.holders a.seekers a.count sets seeking (suc l.place)) (sym w.sets-is) (sym w.seeking-is)
          (lends_none ws a.reserved.now a.holders a.seekers a.count l.sets l.seeking l.place l.invariant inside left refl (sym c.has.ensures ∙ w.if-has.false))
    ] in
    rw add-one turned

pub returns : goal.returns
returns c =
    let a = c.args in
    let l = c.loop-place in
    let ws = take a.count (widths_in a.even a.widths.now) in
    let all : l.place ≡ a.count = omega arith in
    all-lent ws a.reserved.now a.holders a.seekers a.count l.sets l.seeking (front_length a.even a.widths.now a.count c.requires) c.requires
    (subst (Lending ws a.reserved.now a.holders a.seekers a.count l.sets l.seeking) all l.invariant)
