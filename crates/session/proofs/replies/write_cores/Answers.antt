-- The word and the text of the cells are one after the other, and a line has space for both.
use borrow.Author.Rules.{rules}
use native.Mathlib.Omega.{arith}
use mathlib.Core.Path.{◌≡◌, refl, sym, ap, ◌∙◌, subst}
use mathlib.Core.List.{List, [], ◌∷◌, ◌++◌}
use Prim.Native.Nat.{ℕ, ◌≤◌, ◌<◌, min}
use lib.ListN.{length, take, length-take}
use Rattle.text.specs.Written.{Put}
use Rattle.session.specs.Session.{TextWritten}
use Rattle.session.proofs.TextWritten.{text-put}
use mathlib.Core.Bool.{Bool, true, false}
use lib.Dec.{leb}
use lib.Seq.{take_all}
use borrow.Author.Tests.{leb-true, leb-false}
use Rattle.text.specs.Format.{newline}
use Rattle.text.specs.Output.{longest_cells, letters, fields, line_of}
use Rattle.session.specs.Operation.{longest_reply}
use Rattle.text.proofs.Writing.{put_then, put_front}
use Rattle.session.proofs.replies.write_cores.Goals as goal
use Rattle.model.specs.Sizes.{most_cores}

-- a row has 64 bytes
take-most : (cores count : ℕ) (bytes : List ℕ) → length bytes ≡ most_cores → count ≡ min cores most_cores → take count bytes ≡ take cores bytes
take-most cores count bytes w e = go (leb cores most_cores) refl
  where
    go : (t : Bool) → leb cores most_cores ≡ t → take count bytes ≡ take cores bytes
    go true h = let k : count ≡ cores = omega (arith, e, leb-true cores most_cores h) in ap (λ (n : ℕ). take n bytes) k
    go false h =
        let l : most_cores < cores = leb-false cores most_cores h in
        take_all count bytes (omega (arith, e, l, w)) ∙ sym (take_all cores bytes (omega (arith, l, w)))

cores-text :
    (cores : ℕ) (bytes before blank text middle after : List ℕ) (count size start end : ℕ) → length before ≡ longest_reply → length bytes ≡ most_cores → count ≡ min cores most_cores
    → Put blank 0 (fields (take count bytes) ++ (newline ∷ [])) text size → size ≤ longest_cells → Put before 0 (letters "row") middle start
    → Put middle start (take size text) after end → TextWritten (line_of (letters "row") (take cores bytes)) before after end
unfolding line_of
cores-text cores bytes before blank text middle after count size start end w v e p s q r =
    let k : take size text ≡ fields (take cores bytes) ++ (newline ∷ []) =
    put_front p ∙ ap (λ (l : List ℕ). fields l ++ (newline ∷ [])) (take-most cores count bytes v e) in
    let n : length (take size text) ≤ longest_cells = omega (arith, s, length-take size text) in
    let m : end ≤ longest_reply = omega (arith, q.ends, r.ends, n) in
    subst (λ (l : List ℕ). TextWritten (letters "row" ++ l) before after end) k (text-put (put_then q r (omega (arith, m, w))) (omega (arith, m, w)))

pub returns : goal.returns
returns c =
    let a = c.args in
    let w : length a.out.now ≡ longest_reply = search rules in
    let v : length a.bytes ≡ most_cores = search rules in
    cores-text a.cores a.bytes a.out.now _ _ _ _ _ _ _ _ w v c.min-count.ensures
    c.put_cells-size.ensures.0 c.put_cells-size.ensures.1 c.put-start.ensures c.put.ensures
