use Rattle.std.proofs.Common.{◌≡◌, ◌++◌, ◌∷◌, ◌+◌, ◌≤◌, ℕ, List, [], take, length, get_or, arith, refl, sym, subst}
use Rattle.text.specs.Written.{Put}
use Rattle.text.proofs.Writing.{put-none, put-length}
use Rattle.sentence.specs.Facts.{named, named_from}
use Rattle.sentence.specs.Sentence.{parts}
use Rattle.sentence.proofs.Putting.{room_after, put_both, parts_next, parts_first}
use Rattle.sentence.proofs.writer.put_parts.Goals as goal

pub loop-place-init : goal.loop-place-init
unfolding parts named_from
loop-place-init c = record { put = put-none _ _; same = refl }

pub put_part-at-requires : goal.put_part-at-requires
put_part-at-requires c =
    let a = c.args in
    let l = c.loop-place in
    let u = parts (named_from l.place (get_or a.ran l.place 0 ∷ [])) [] in
    let e : parts (named (take l.place a.ran)) [] ++ u ≡ parts (named (take (l.place + 1) a.ran)) [] = parts_next a.ran l.place (omega arith) in
    let r : a.from + length (parts (named (take l.place a.ran)) [] ++ u) ≤ length a.line.now =
    subst (λ (x : List ℕ). a.from + length x ≤ length a.line.now) (sym e) (omega (arith, parts_first a.ran (l.place + 1))) in
    (omega arith, room_after u l.invariant.put r)

pub loop-place-preserved : goal.loop-place-preserved
loop-place-preserved c =
    let a = c.args in
    let l = c.loop-place in
    let u = parts (named_from l.place (get_or a.ran l.place 0 ∷ [])) [] in
    let e : parts (named (take l.place a.ran)) [] ++ u ≡ parts (named (take (l.place + 1) a.ran)) [] = parts_next a.ran l.place (omega arith) in
    let r : a.from + length (parts (named (take l.place a.ran)) [] ++ u) ≤ length a.line.now =
    subst (λ (x : List ℕ). a.from + length x ≤ length a.line.now) (sym e) (omega (arith, parts_first a.ran (l.place + 1))) in
    let p = put_both l.invariant.put c.put_part-at.ensures r in
    let q : Put a.line.now a.from (parts (named (take (l.place + 1) a.ran)) []) c.put_part-at.new.line c.put_part-at.result =
    subst (λ (x : List ℕ). Put a.line.now a.from x c.put_part-at.new.line c.put_part-at.result) e p in
    record { put = q; same = put-length p (omega (arith, r, p.ends)) }
