-- The table's text, line by line, up to the line `--`.
use mathlib.Core.Bool.{Bool, cond, false, true, true≢false, false≢true, ◌&&◌, ◌||◌}
use mathlib.Core.List.{List, [], ◌++◌, append_assoc, append-nil, ◌∷◌}
use mathlib.Core.Logic.{inl, inr}
use mathlib.Core.Path.{◌∙◌, ◌≡◌, ap, ap₂, refl, subst, subst⁻¹, sym}
use Prim.Native.Nat.{◌+◌, ◌-◌, ◌<◌, suc, ℕ, ◌≤◌}
use native.Mathlib.Omega.{arith}
use lib.Dec.{leb}
use lib.ListN.{drop, drop_of_length-le, length, length-drop, take, take-append-drop}
use lib.Seq.{length-take-le, take-add, take_all, take-length, take-suc}
use borrow.Author.Tests.{leb-true, leb-false}
use Rattle.text.specs.Format.{newline}
use Rattle.text.specs.Input.{line_length}
use Rattle.text.proofs.Lines.{line-stop, line-within, mark-none}
use Rattle.splitter.specs.Split.{too_many, InputEnd, nothing, unknown, lines_from, is_dashes, closed, growing, unclosed, split_from, split, TooLong}
use Rattle.splitter.specs.Parts.{Part, Comes, ends, SplitInto, TableOf, unclosed_part}
use Rattle.splitter.proofs.Splits.{split-more, split-dashes, split-line, split-end, split-long, lines_none}
use Rattle.splitter.proofs.Lines.{line-here}

-- the bytes up to a place, a line and its newline are the bytes up to the next place
table-next :
    (bs : List ℕ) (at end : ℕ) → end ≡ at + line_length (drop at bs) → end < length bs
    → take at bs ++ (take (end - at) (drop at bs) ++ (newline ∷ [])) ≡ take (end + 1) bs
table-next bs at end q h =
    let l : line_length (drop at bs) < length (drop at bs) = omega (arith, q, h, length-drop at bs) in
    let k : end - at ≡ line_length (drop at bs) = omega (arith, q) in
    let m : at + suc (line_length (drop at bs)) ≡ end + 1 = omega (arith, q) in
    sym (
    ap (λ (i : ℕ). take i bs) (sym m) ∙ take-add at (suc (line_length (drop at bs))) bs
    ∙ ap (λ (x : List ℕ). take at bs ++ x)
    (take-suc (drop at bs) (line_length (drop at bs)) 0 l
    ∙ ap₂ (λ (i b : ℕ). take i (drop at bs) ++ (b ∷ [])) (sym k) (line-stop (drop at bs) l))
    )

-- a place up to which the bytes are whole lines of the table
abbrev pub Whole : List ℕ → ℕ → Type 0
Whole bs at = (at ≤ length bs) × ((e : InputEnd) (more : List ℕ) → split e (bs ++ more) ≡ split_from e (take at bs) [] (drop at bs ++ more))

module _ (bs : List ℕ) (at end : ℕ) (ended : Bool) (w : Whole bs at) (q : end ≡ at + line_length (drop at bs)) where
  -- the line that begins there ends within the bytes
  pub line-ends : end ≤ length bs
  line-ends = omega (arith, q, w.0, line-within (drop at bs), length-drop at bs)

  abbrev line : List ℕ
  line = take (end - at) (drop at bs)

  line-comes : end < length bs → (e : InputEnd) (more : List ℕ) → split e (bs ++ more) ≡ split_from e (take at bs) line (newline ∷ (drop (end + 1) bs ++ more))
  line-comes h e more =
      w.1 e more ∙ ap (λ (x : List ℕ). split_from e (take at bs) [] (x ++ more)) (line-here bs at end q h)
      ∙ ap (split_from e (take at bs) []) (append_assoc line (newline ∷ drop (end + 1) bs) more)
      ∙ split-more e (take at bs) [] (drop at bs) (end - at) (newline ∷ (drop (end + 1) bs ++ more)) (omega (arith, q))

  -- it is one more of the table
  pub whole-next : (end ≡ length bs → ⊥) → is_dashes line ≡ false → Whole bs (end + 1)
  whole-next n d =
      let h : end < length bs = omega (arith, line-ends, n) in (
        omega (arith, h),
        λ e more.
            line-comes h e more ∙ split-line e (take at bs) line (drop (end + 1) bs ++ more) d
            ∙ ap (λ (x : List ℕ). split_from e x [] (drop (end + 1) bs ++ more)) (table-next bs at end q h),
      )

  -- it is `--`
  pub table-found : (end ≡ length bs → ⊥) → is_dashes line ≡ true → TableOf bs ended (record { whole = true; end = at; next = end + 1 })
  table-found n d =
      let h : end < length bs = omega (arith, line-ends, n) in
      record {
        end = w.0;
        next = omega (arith, h);
        moves = λ _. omega arith;
        text = λ _ e more _. inl (line-comes h e more ∙ split-dashes e (take at bs) line (drop (end + 1) bs ++ more) d);
        none = λ f. absurd (true≢false f);
      }

  -- it has not ended
  line-left : end ≡ length bs → (e : InputEnd) (more : List ℕ) → split e (bs ++ more) ≡ split_from e (take at bs) (drop at bs) more
  line-left h e more =
      let x : line ≡ drop at bs = take_all (end - at) (drop at bs) (omega (arith, q, h, length-drop at bs)) in
      w.1 e more ∙ ap (λ (y : List ℕ). split_from e (take at bs) [] (y ++ more)) (sym x)
      ∙ split-more e (take at bs) [] (drop at bs) (end - at) more (omega (arith, q))
      ∙ ap (λ (y : List ℕ). split_from e (take at bs) y more) x

  all-bytes : length (take at bs) + length (drop at bs) ≡ length bs
  all-bytes = omega (arith, w.0, length-take-le at bs w.0, length-drop at bs)

  -- where the input ends
  table-ends :
      (k : ℕ) → end ≡ length bs → cond (is_dashes (drop at bs)) (take at bs) (take at bs ++ drop at bs) ≡ take k bs → (e : InputEnd) (more : List ℕ) → Comes true e more
      → SplitInto e (split e (bs ++ more)) (take k bs) (lines_from e [] (drop (length bs) bs ++ more))
  unfolding unclosed
  table-ends k h t nothing [] ends =
      inl (line-left h nothing [] ∙ split-end nothing (take at bs) (drop at bs)
      ∙ ap₂ (λ (d : List ℕ) (ls : List (List ℕ)). closed d ls) t
      (sym (ap (λ (y : List ℕ). lines_from nothing [] (y ++ [])) (drop_of_length-le bs {i = length bs} (omega arith)) ∙ lines_none nothing)))
  table-ends k h t nothing (_ ∷ _) c = elim c [ ]
  table-ends k h t unknown more c = elim c [ ]

  -- where it has too many bytes
  table-long :
      end ≡ length bs → too_many ≤ length bs → (e : InputEnd) (more : List ℕ)
      → SplitInto e (split e (bs ++ more)) (take (length bs) bs) (lines_from e [] (drop (length bs) bs ++ more))
  table-long h m e more =
      inr (subst (TooLong e) (sym (line-left h e more)) (split-long e (take at bs) (drop at bs) more (omega (arith, m, all-bytes))), omega (arith, m, length-take-le (length bs) bs (omega arith)))

  pub table-left : (r : Part) → end ≡ length bs → r ≡ unclosed_part bs at ended → TableOf bs ended r
  unfolding unclosed
  table-left r h e = subst⁻¹ (TableOf bs ended) e (go ended refl (is_dashes (drop at bs)) refl (leb too_many (length bs)) refl)
    where
      given : (b : Bool) → ended ≡ b → {x : InputEnd} {more : List ℕ} → Comes ended x more → Comes b x more
      given b p {x} {more} c = subst (λ (d : Bool). Comes d x more) p c

      go :
          (b : Bool) → ended ≡ b → (t : Bool) → is_dashes (drop at bs) ≡ t → (u : Bool) → leb too_many (length bs) ≡ u
          → TableOf bs ended
          (cond (b && t) (record { whole = true; end = at; next = length bs }) (record { whole = b || u; end = length bs; next = length bs }))
      go true p true d u l = record {
        end = w.0;
        next = omega arith;
        moves = λ n. n;
        text = λ _ x more c. table-ends at h (rw d) x more (given true p c);
        none = λ f. absurd (true≢false f);
      }
      go true p false d u l = record {
        end = omega arith;
        next = omega arith;
        moves = λ n. n;
        text = λ _ x more c. table-ends (length bs) h (rw d (take-append-drop at bs ∙ sym (take-length bs))) x more (given true p c);
        none = λ f. absurd (true≢false f);
      }
      go false p t d true l = record {
        end = omega arith;
        next = omega arith;
        moves = λ n. n;
        text = λ _ x more _. table-long h (leb-true too_many (length bs) l) x more;
        none = λ f. absurd (true≢false f);
      }
      go false p t d false l = record {
        end = omega arith;
        next = omega arith;
        moves = λ n. n;
        text = λ f. absurd (false≢true f);
        none = λ _. (omega (arith, leb-false too_many (length bs) l), p, waits);
      }
        where
          waits : split unknown bs ≡ growing (length bs)
          waits = ap (split unknown) (sym (append-nil bs)) ∙ line-left h unknown [] ∙ split-end unknown (take at bs) (drop at bs) ∙ ap growing all-bytes

-- all bytes are whole lines
pub table-all : (bs : List ℕ) (at : ℕ) (ended : Bool) (r : Part) → Whole bs at → length bs ≤ at → r ≡ unclosed_part bs at ended → TableOf bs ended r
table-all bs at ended r w h = table-left bs at at ended w (omega (arith, mark-none newline bs at h)) r (omega (arith, w.0, h))
