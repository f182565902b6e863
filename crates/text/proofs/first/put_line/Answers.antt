-- The numbers so far and the one that comes are part of the line, so there is space for them.
use Rattle.std.proofs.Common.{◌≡◌, ◌++◌, ◌∷◌, ◌+◌, ◌≤◌, length, take, arith, ap, sym, subst, ◌∙◌, append_assoc, append-nil, length-append}
use lib.ListN.{set, get_or}
use lib.Seq.{take_all}
use mathlib.Core.List.{List}
use Prim.Native.Nat.{ℕ}
use Rattle.text.specs.Decimal.{decimal}
use Rattle.text.specs.Output.{space, fields, line_of}
use Rattle.text.specs.Written.{Put}
use Rattle.text.proofs.Writing.{put_one, put_then, put-length}
use Rattle.text.proofs.RowText.{fields-more, fields-within, line-bytes, line-put}
use Rattle.text.proofs.first.put_line.Goals as goal

pub put-at-requires : goal.put-at-requires
put-at-requires c = omega (arith, line-bytes c.args.word.now c.args.numbers.now)

pub loop-number-init : goal.loop-number-init
unfolding fields
loop-number-init c =
    let p = c.put-at.ensures in
    let same = put-length p (omega (arith, line-bytes c.args.word.now c.args.numbers.now, p.ends)) in
    record { put = subst (λ (s : List ℕ). Put c.args.line.now 0 s c.put-at.new.line c.put-at.result) (sym (append-nil c.args.word.now)) p; same = same }

pub put_after-at-requires : goal.put_after-at-requires
put_after-at-requires c =
    let w = c.args.word.now in
    let ns = c.args.numbers.now in
    let l = c.loop-number in
    let e = length-append w (fields (take l.number-index ns)) in
    let f = length-append (fields (take l.number-index ns)) (space ∷ decimal (get_or ns l.number-index 0)) in
    omega (arith, line-bytes w ns, fields-within ns l.number-index (omega arith), e, f, l.invariant.put.ends, l.invariant.same)

pub loop-number-preserved : goal.loop-number-preserved
loop-number-preserved c =
    let w = c.args.word.now in
    let ns = c.args.numbers.now in
    let l = c.loop-number in
    let b = c.put_after-at in
    let e = length-append w (fields (take l.number-index ns)) in
    let f = length-append (fields (take l.number-index ns)) (space ∷ decimal (get_or ns l.number-index 0)) in
    let room : b.result ≤ length c.args.line.now =
    omega (arith, line-bytes w ns, fields-within ns l.number-index (omega arith), e, f, l.invariant.put.ends, b.ensures.ends) in
    let text : (w ++ fields (take l.number-index ns)) ++ (space ∷ decimal (get_or ns l.number-index 0)) ≡ w ++ fields (take (l.number-index + 1) ns) =
    append_assoc w (fields (take l.number-index ns)) (space ∷ decimal (get_or ns l.number-index 0))
    ∙ ap (λ (x : List ℕ). w ++ x) (fields-more ns l.number-index (omega arith)) in
    let p : Put c.args.line.now 0 (w ++ fields (take (l.number-index + 1) ns)) b.new.line b.result =
    subst (λ (s : List ℕ). Put c.args.line.now 0 s b.new.line b.result) text (put_then l.invariant.put b.ensures room) in
    record { put = p; same = put-length p room }

-- all numbers are written, and a newline is left
module _ (c : goal.After-loop-number) where
  written : Put c.args.line.now 0 (c.args.word.now ++ fields c.args.numbers.now) c.loop-number.line c.loop-number.at
  written =
      let ns = c.args.numbers.now in
      let all : take c.loop-number.number-index ns ≡ ns = take_all c.loop-number.number-index ns (omega arith) in
      subst (λ (x : List ℕ). Put c.args.line.now 0 (c.args.word.now ++ fields x) c.loop-number.line c.loop-number.at) all c.loop-number.invariant.put

  ends : c.loop-number.at + 1 ≡ length (line_of c.args.word.now c.args.numbers.now)
  ends =
      let e = length-append c.args.word.now (fields c.args.numbers.now) in
      omega (arith, written.ends, e, line-bytes c.args.word.now c.args.numbers.now)

pub bounds-line-at : goal.bounds-line-at
bounds-line-at c = omega (arith, ends c, c.loop-number.invariant.same)

pub returns : goal.returns
returns c =
    let l = c.loop-number in
    let same = l.invariant.same in
    subst (λ (s : List ℕ). Put c.args.line.now 0 s (set l.line l.at 10) (l.at + 1)) (line-put c.args.word.now c.args.numbers.now)
    (put_then (written c) (put_one l.line l.at 10 (omega (arith, ends c, same))) (omega (arith, ends c, same)))
