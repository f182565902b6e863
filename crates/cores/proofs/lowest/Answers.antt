-- Each iteration takes a piece of the first run off the rest, so the rest is the free cores from the place on up to which cores are taken.
use Rattle.std.proofs.Common.{◌≡◌, sym, ap, ◌∙◌, List, [], ℕ, ◌+◌, ◌-◌, ◌≤◌, drop, arith}
use lib.Seq.{drop-drop, drop-nil}
use Rattle.cores.specs.Cores.{cores}
use Rattle.cores.proofs.Cores.{cores-none, front_of}
use Rattle.cores.proofs.Runs.{some-run, taken-off}
use Rattle.cores.proofs.lowest.Goals as goal
use Rattle.cores.proofs.lowest.Goals.{then-loop-wanted-test+else-rest-gt0, else-loop-wanted-test}

pub overflow_sub-rest : goal.overflow_sub-rest
overflow_sub-rest c =
    (taken-off c.loop-wanted.rest c.min-piece.result c.first_cores.result c.if-rest-gt0.true
    (omega arith) (omega (arith, c.min-piece.ensures)) (omega (arith, c.first_cores.type_inv)) c.first_cores.ensures).0

pub loop-wanted-smaller : goal.loop-wanted-smaller
loop-wanted-smaller c = omega (arith, c.min-piece.ensures, (some-run c.loop-wanted.rest c.if-rest-gt0.true (omega arith)).1)

pub loop-wanted-preserved : goal.loop-wanted-preserved
loop-wanted-preserved c =
    let l = c.loop-wanted in
    let m = c.min-piece.result in
    let k : c.args.width - l.wanted + m ≡ c.args.width - (l.wanted - m) = omega (arith, c.min-piece.ensures) in
    let piece = taken-off l.rest m c.first_cores.result c.if-rest-gt0.true (omega arith) (omega (arith, c.min-piece.ensures)) (omega (arith, c.first_cores.type_inv)) c.first_cores.ensures in
    record {
      fewer = omega arith;
      subset = omega arith;
      left = piece.1 ∙ ap (drop m) l.invariant.left ∙ drop-drop m (c.args.width - l.wanted) (cores c.args.free) ∙ ap (λ (i : ℕ). drop i (cores c.args.free)) k;
    }

-- nothing is left to drop
ran_out : (l : List ℕ) (k w : ℕ) → k ≤ w → drop k l ≡ [] → drop w l ≡ []
ran_out l k w h e =
    let s : w ≡ k + (w - k) = omega arith in
    ap (λ (x : ℕ). drop x l) s ∙ sym (drop-drop (w - k) k l) ∙ ap (drop (w - k)) e ∙ drop-nil (w - k)

pub returns : goal.returns
returns c =
    let l = c.loop-wanted in
    let free = c.args.free in
    let width = c.args.width in
    let left : cores l.rest ≡ drop width (cores free) =
    elim c.loop-wanted-test.branch [
      | then-loop-wanted-test+else-rest-gt0 w ↦
          let z : l.rest ≡ 0 = omega arith in
          let n : cores l.rest ≡ [] = ap cores z ∙ cores-none in
          n ∙ sym (ran_out (cores free) (width - l.wanted) width (omega arith) (sym l.invariant.left ∙ n))
      | else-loop-wanted-test w ↦ let e : width - l.wanted ≡ width = omega arith in l.invariant.left ∙ ap (λ (k : ℕ). drop k (cores free)) e
    ] in
    front_of free width l.rest c.ranges.free.fits (omega arith) left
