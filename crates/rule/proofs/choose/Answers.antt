-- In each iteration the lowest digit of the rest is the first claimant, so what is chosen and what the rest will be given stay what all are given.
use borrow.Author.Tests.{lt-ltb, le-ltb}
use native.Mathlib.Omega.{arith}
use mathlib.Core.Path.{◌≡◌, sym, ap, ◌∙◌}
use mathlib.Core.Bool.{Bool, true, false, ◌&&◌, ◌||◌, and-true, and-false, or_assoc, or-false}
use mathlib.Core.List.{List}
use Prim.Native.Nat.{ℕ, ◌-◌, ◌^◌, ◌≤◌, ◌<◌}
use lib.Bits.{bit_or}
use lib.Count.{count_trailing_zeros}
use lib.Dec.{eqb, ltb}
use lib.ListN.{get_or}
use Rattle.model.specs.Task.{Rule, rule_of}
use Rattle.model.specs.Search.{bit}
use Rattle.model.specs.Grants.{ends_choosing}
use Rattle.model.proofs.Digits.{Lowest, lowest-digit, shifted_one, or-bit, bit-power, bit-none}
use Rattle.rule.proofs.Choosing.{places, places-on, places-none, places-fits, places-passed, places-ended}
use Rattle.cores.specs.Cores.{cores}
use Rattle.rule.specs.Widths.{widths_in}
use Rattle.cores.proofs.Cores.{cores-length}
use Rattle.rule.proofs.Granting.{takes, passes, ends}
use Rattle.rule.proofs.choose.Goals as goal

-- ---- one iteration, at the lowest digit q of the rest x, of width v; y is the rest after it

module _ (r : Rule) (ws : List ℕ) (x y q v n chosen : ℕ) (l : Lowest x q) (e : y ≡ x - 2 ^ q) (f : v ≡ get_or ws q 0) (p : ℕ) where
  -- it fits: what the rest was given is q, where it has a width, and what is given below
  fits-step : v ≤ n → places r ws x n p ≡ (eqb p q && ltb 0 v) || places r ws y (n - v) p
  fits-step k = rw (e, f) (places-fits r ws x q n p l (rw (← f) k))

  given-step : (m : ℕ) → m ≡ 2 ^ q → v ≤ n → 0 < v → bit (bit_or chosen m) p || places r ws y (n - v) p ≡ bit chosen p || places r ws x n p
  given-step m d k w =
      let g = places r ws y (n - v) p in
      let b : bit (bit_or chosen m) p ≡ bit chosen p || eqb p q = or-bit chosen m p ∙ ap (λ (y : ℕ). bit chosen p || bit y p) d ∙ ap (λ (t : Bool). bit chosen p || t) (bit-power q p) in
      let h : places r ws x n p ≡ eqb p q || g =
      fits-step k ∙ ap (λ (t : Bool). eqb p q && t || g) (lt-ltb 0 v w) ∙ ap (λ (t : Bool). t || g) (and-true (eqb p q)) in
      ap (λ (t : Bool). t || g) b ∙ or_assoc (bit chosen p) (eqb p q) g ∙ ap (λ (t : Bool). bit chosen p || t) (sym h)

  empty-step : v ≤ n → v ≤ 0 → bit chosen p || places r ws y (n - v) p ≡ bit chosen p || places r ws x n p
  empty-step k w =
      let g = places r ws y (n - v) p in
      let h : places r ws x n p ≡ g = fits-step k ∙ ap (λ (t : Bool). eqb p q && t || g) (le-ltb 0 v w) ∙ ap (λ (t : Bool). t || g) (and-false (eqb p q)) in
      ap (λ (t : Bool). bit chosen p || t) (sym h)

  ended-step : n < v → ends_choosing r ≡ true → bit chosen p ≡ bit chosen p || places r ws x n p
  ended-step k t = sym (or-false (bit chosen p)) ∙ ap (λ (u : Bool). bit chosen p || u) (sym (places-ended r ws x q n p l (rw (← f) k) t))

  passed-step : n < v → ends_choosing r ≡ false → bit chosen p || places r ws y n p ≡ bit chosen p || places r ws x n p
  passed-step k t = ap (λ (u : Bool). bit chosen p || u) (rw e (sym (places-passed r ws x q n p l (rw (← f) k) t)))

-- ---- the goals

pub loop-rest-init : goal.loop-rest-init
loop-rest-init c =
    let a = c.args in (
      c.ranges.claims.fits,
      λ p. rw bit-none
          (ap (λ (n : ℕ). places (rule_of a.rule) (widths_in a.even a.widths.now) a.claims n p) (sym (cores-length a.free c.ranges.free.fits))
          ∙ places-on (rule_of a.rule) (widths_in a.even a.widths.now) a.claims p (cores a.free)),
    )

pub loop-rest-preserved-then-width-gt0 : goal.loop-rest-preserved-then-width-gt0
loop-rest-preserved-then-width-gt0 c =
    let a = c.args in
    let l = c.loop-rest in
    let q = count_trailing_zeros 32 l.rest in
    let at = lowest-digit 32 l.rest c.loop-rest-test.true l.invariant.0 in (
      omega (arith, at.falls),
      λ p. given-step (rule_of a.rule) (widths_in a.even a.widths.now) l.rest _ q _ l.left l.chosen
          at.lowest at.after c.width_at-width.ensures p _ (shifted_one 32 q at.place)
          (takes (rule_of a.rule) l.left c.width_at-width.result (sym c.select.ensures ∙ c.in-Takes.is)) c.if-width-gt0.true ∙ l.invariant.1 p,
    )

pub loop-rest-preserved-else-width-gt0 : goal.loop-rest-preserved-else-width-gt0
loop-rest-preserved-else-width-gt0 c =
    let a = c.args in
    let l = c.loop-rest in
    let at = lowest-digit 32 l.rest c.loop-rest-test.true l.invariant.0 in (
      omega (arith, at.falls),
      λ p. empty-step (rule_of a.rule) (widths_in a.even a.widths.now) l.rest _ (count_trailing_zeros 32 l.rest) _ l.left l.chosen
          at.lowest at.after c.width_at-width.ensures p
          (takes (rule_of a.rule) l.left c.width_at-width.result (sym c.select.ensures ∙ c.in-Takes.is)) c.if-width-gt0.false ∙ l.invariant.1 p,
    )

pub loop-rest-preserved : goal.loop-rest-preserved
loop-rest-preserved c =
    let a = c.args in
    let l = c.loop-rest in
    let at = lowest-digit 32 l.rest c.loop-rest-test.true l.invariant.0 in
    let w = passes (rule_of a.rule) l.left c.width_at-width.result (sym c.select.ensures ∙ c.in-Passed.is) in (
      omega (arith, at.falls),
      λ p. passed-step (rule_of a.rule) (widths_in a.even a.widths.now) l.rest _ (count_trailing_zeros 32 l.rest) c.width_at-width.result l.left l.chosen
          at.lowest at.after c.width_at-width.ensures p w.0 w.1 ∙ l.invariant.1 p,
    )

pub returns-in-Ends : goal.returns-in-Ends
returns-in-Ends c p =
    let a = c.args in
    let l = c.loop-rest in
    let at = lowest-digit 32 l.rest c.loop-rest-test.true l.invariant.0 in
    let w = ends (rule_of a.rule) l.left c.width_at-width.result (sym c.select.ensures ∙ c.in-Ends.is) in
    ended-step (rule_of a.rule) (widths_in a.even a.widths.now) l.rest _ (count_trailing_zeros 32 l.rest) c.width_at-width.result l.left l.chosen
    at.lowest at.after c.width_at-width.ensures p w.0 w.1 ∙ l.invariant.1 p

pub returns : goal.returns
returns c p =
    let l = c.loop-rest in
    let a = c.args in
    let z : l.rest ≡ 0 = omega arith in
    sym (or-false (bit l.chosen p))
    ∙ ap (λ (t : Bool). bit l.chosen p || t) (sym (places-none (rule_of a.rule) (widths_in a.even a.widths.now) l.left p))
    ∙ ap (λ (x : ℕ). bit l.chosen p || places (rule_of a.rule) (widths_in a.even a.widths.now) x l.left p) (sym z) ∙ l.invariant.1 p
