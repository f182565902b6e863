use Rattle.std.proofs.Common.{[], ◌∷◌, ◌++◌, ◌≡◌, ◌+◌, ◌≤◌, ◌<◌, length, take, length-take, arith, refl}
use lib.ListN.{set}
use lib.Seq.{take_all}
use Rattle.text.specs.Output.{fields}
use Rattle.text.specs.Written.{Put}
use Rattle.text.proofs.Writing.{put-none, put_one, put_then, put-length}
use Rattle.text.proofs.RowText.{put-core}
use Rattle.text.proofs.row.put_cells.Goals as goal

pub loop-position-init : goal.loop-position-init
unfolding fields
loop-position-init c = record { put = put-none _ 0; most = omega arith; same = refl }

pub loop-position-preserved : goal.loop-position-preserved
loop-position-preserved c =
    let a = c.args in
    let l = c.loop-position in
    let b = c.put_byte-at in
    let cells = take a.cores a.row in
    let few : length cells ≤ 64 = omega (arith, length-take a.cores a.row) in
    let after : l.at < b.result = omega (arith, b.ensures.0.ends) in
    let p : Put a.text.now 0 (fields (take (l.position-index + 1) cells)) b.new.text b.result =
    put-core a.text.now l.text b.new.text l.at b.result l.position-index cells l.invariant.put c.loop-position-test.true (omega arith) l.invariant.same b.ensures.0 after
    (omega (arith, b.ensures.1)) in
    record { put = p; most = omega (arith, b.ensures.1); same = put-length p (omega (arith, b.ensures.1)) }

pub returns : goal.returns
returns c =
    let a = c.args in
    let l = c.loop-position in
    let cells = take a.cores a.row in
    let few : length cells ≤ 64 = omega (arith, length-take a.cores a.row) in
    let all : take l.position-index cells ≡ cells = take_all l.position-index cells (omega arith) in
    let p : Put a.text.now 0 (fields (take l.position-index cells) ++ (10 ∷ [])) (set l.text l.at 10) (l.at + 1) =
    put_then l.invariant.put (put_one l.text l.at 10 (omega arith)) (omega arith) in
    (rw all at p, omega arith)
