-- THE LAW over the whole sequence of pieces: put together they are exactly the output of the input, and there are finitely many.
use native.Mathlib.Omega.{arith}
use mathlib.Core.Path.{◌≡◌, refl, sym, ap, ◌∙◌}
use mathlib.Core.List.{List, ◌∷◌, ◌++◌, append_assoc}
use Prim.Native.Nat.{ℕ, ◌+◌, min}
use mathlib.Core.Bool.{Bool, true, false}
use lib.ListN.{length, take, drop, length-take, length-drop, length-append, take-append-drop}
use lib.Seq.{take-append_seam, take_all, take-length}
use lib.Dec.{leb}
use borrow.Author.Tests.{leb-true, leb-false}
use Rattle.text.specs.Output.{output}
use Rattle.printer.specs.Printer.{rest, MadeFrom, PieceOf}
use Rattle.printer.specs.Pieces.{Pieces, none, more, concatenated, total_room, Printed}
use Rattle.printer.specs.declared.Printer.{Printer}
use Rattle.printer.specs.declared.Piece.{Piece}
use Rattle.text.proofs.Writing.{put_front}

-- what the pieces give and what is left make up what there was; and they give as much as their buffers take
pub record Together (p p' : Printer) (sizes : List ℕ) (parts : List (List ℕ)) : Type 0 where
  pub whole : concatenated parts ++ rest p' ≡ rest p
  pub size : length (concatenated parts) ≡ min (total_room sizes) (length (rest p))

-- one piece before others
together-more :
    (p p' : Printer) (before after : List ℕ) (r : Piece) (sizes : List ℕ) (parts : List (List ℕ)) → PieceOf p before after r → Together r.printer p' sizes parts
    → Together p p' (length before ∷ sizes) (take r.length after ∷ parts)
unfolding concatenated total_room
together-more p p' before after r sizes parts q t = record {
  whole =
      append_assoc (take r.length after) (concatenated parts) (rest p') ∙ ap (λ (l : List ℕ). take r.length after ++ l) (t.whole ∙ q.rest)
      ∙ ap (λ (l : List ℕ). l ++ drop r.length (rest p)) first ∙ take-append-drop r.length (rest p);
  size =
      omega (
        arith,
        length-append (take r.length after) (concatenated parts),
        ap length first,
        length-take r.length (rest p),
        t.size,
        ap length q.rest,
        length-drop r.length (rest p),
        q.length,
      );
}
  where
    first : take r.length after ≡ take r.length (rest p)
    first = put_front q.bytes

pub pieces-together : {p p' : Printer} {sizes : List ℕ} {parts : List (List ℕ)} → Pieces p sizes parts p' → Together p p' sizes parts
unfolding concatenated total_room
pieces-together none = record { whole = refl; size = omega arith }
pieces-together {p} {p'} (more {before = before} {after = after} {r = r} {sizes = sizes} {parts = parts} q qs) =
    together-more p p' before after r sizes parts q (pieces-together qs)

-- THEOREM (pieces)
pub pieces : (bs : List ℕ) {p p' : Printer} {sizes : List ℕ} {parts : List (List ℕ)} → MadeFrom bs p → Pieces p sizes parts p' → Printed bs p' sizes parts
pieces bs {p} {p'} {sizes} {parts} m qs = record {
  front = front;
  all = λ h. front ∙ take_all (total_room sizes) (output bs) h;
  ends = λ h before after r q. omega (arith, q.length, sums, size);
  goes_on = λ h before after r q b. omega (arith, q.length, sums, size);
}
  where
    t : Together p p' sizes parts
    t = pieces-together qs

    size : length (concatenated parts) ≡ min (total_room sizes) (length (output bs))
    size = t.size ∙ ap (λ (l : List ℕ). min (total_room sizes) (length l)) m.whole

    whole : concatenated parts ++ rest p' ≡ output bs
    whole = t.whole ∙ m.whole

    sums : length (concatenated parts) + length (rest p') ≡ length (output bs)
    sums = sym (length-append (concatenated parts) (rest p')) ∙ ap length whole

    cut : take (length (concatenated parts)) (output bs) ≡ concatenated parts
    cut = ap (take (length (concatenated parts))) (sym whole) ∙ take-append_seam (concatenated parts) (rest p')

    front : concatenated parts ≡ take (total_room sizes) (output bs)
    front = sym cut ∙ ap (λ (n : ℕ). take n (output bs)) size ∙ take_min (total_room sizes) (output bs)
      where
        take_min : (n : ℕ) (l : List ℕ) → take (min n (length l)) l ≡ take n l
        take_min n l = go (leb n (length l)) refl
          where
            go : (b : Bool) → leb n (length l) ≡ b → take (min n (length l)) l ≡ take n l
            go true e = let h = leb-true n (length l) e in let z : min n (length l) ≡ n = omega arith in ap (λ (k : ℕ). take k l) z
            go false e =
                let h = leb-false n (length l) e in
                let z : min n (length l) ≡ length l = omega arith in
                ap (λ (k : ℕ). take k l) z ∙ take-length l ∙ sym (take_all n l (omega arith))
