-- The line at the front of some bytes, or from a place on.
use mathlib.Core.Bool.{Bool, true, false, ◌&&◌, ◌||◌, true≢false, false≢true}
use mathlib.Core.List.{List, [], ◌∷◌, ◌++◌, append_assoc}
use mathlib.Core.Logic.{◌⊎◌, inl, inr}
use mathlib.Core.Path.{◌≡◌, refl, sym, ap, ap₂, subst, ◌∙◌}
use Prim.Native.Nat.{ℕ, suc, ◌+◌, ◌-◌, ◌≤◌, ◌<◌}
use native.Mathlib.Omega.{arith}
use lib.ListN.{length, take, drop, drop_of_length-le, length-drop, take-append-drop}
use lib.Seq.{drop-cons, drop-drop, take_all}
use lib.Dec.{leb, ltb}
use borrow.Author.Tests.{leb-true, leb-false, ltb-true, ltb-false}
use Rattle.std.proofs.lemmas.List.{nil_from_length}
use Rattle.text.specs.Format.{newline}
use Rattle.text.specs.Input.{line_length}
use Rattle.text.proofs.Lines.{line-split, line-stop, line-within}
use Rattle.splitter.specs.Split.{InputEnd, nothing, unknown, lines_from}
use Rattle.splitter.specs.Parts.{Comes, ends, OneLine, LineOf}
use Rattle.splitter.proofs.Splits.{lines-last, lines-line, lines_more, lines_none}

-- a text from a place on, where its line has ended: the line, its newline, and the text after it
pub line-here :
    (bs : List ℕ) (at end : ℕ) → end ≡ at + line_length (drop at bs) → end < length bs
    → drop at bs ≡ take (end - at) (drop at bs) ++ (newline ∷ drop (end + 1) bs)
line-here bs at end e h =
    let k : end - at ≡ line_length (drop at bs) = omega (arith, e) in
    let l : line_length (drop at bs) < length (drop at bs) = omega (arith, e, h, length-drop at bs) in
    let m : at + suc (line_length (drop at bs)) ≡ end + 1 = omega (arith, e) in
    sym (take-append-drop (end - at) (drop at bs))
    ∙ ap (λ (x : List ℕ). take (end - at) (drop at bs) ++ x)
    (ap (λ (i : ℕ). drop i (drop at bs)) k ∙ drop-cons (drop at bs) (line_length (drop at bs)) 0 l
    ∙ ap₂ (λ (b : ℕ) (x : List ℕ). b ∷ x) (line-stop (drop at bs) l) (drop-drop (suc (line_length (drop at bs))) at bs ∙ ap (λ (i : ℕ). drop i bs) m))

module _ (bs : List ℕ) (end most : ℕ) (ended : Bool) (q : end ≡ 0 + line_length (drop 0 bs)) where
  pub end-within : end ≤ length bs
  end-within = omega (arith, q, line-within bs)

  front : end < length bs → bs ≡ take end bs ++ (newline ∷ drop (end + 1) bs)
  front h =
      let k : line_length bs ≡ end = omega (arith, q) in
      let m : suc (line_length bs) ≡ end + 1 = omega (arith, q) in
      line-split bs (omega (arith, q, h)) ∙ ap₂ (λ (i j : ℕ). take i bs ++ (newline ∷ drop j bs)) k m

  -- the line has ended
  pub line-ended : end < length bs → LineOf bs most ended (record { whole = true; end = end; next = end + 1 })
  line-ended h = record {
    end = end-within;
    next = omega (arith, h);
    moves = λ _. omega arith;
    line = λ _. inl (λ e more _.
        ap (λ (x : List ℕ). lines_from e [] (x ++ more)) (front h)
        ∙ ap (lines_from e []) (append_assoc (take end bs) (newline ∷ drop (end + 1) bs) more)
        ∙ lines_more e [] bs end (newline ∷ (drop (end + 1) bs ++ more)) (omega (arith, q))
        ∙ lines-line e (take end bs) (drop (end + 1) bs ++ more));
    none = λ f. absurd (true≢false f);
  }

  -- it has not
  one_line : end ≡ length bs → OneLine bs
  one_line h e more =
      let w : take end bs ≡ bs = take_all end bs (omega (arith, h)) in
      ap (λ (x : List ℕ). lines_from e [] (x ++ more)) (sym w) ∙ lines_more e [] bs end more (omega (arith, q)) ∙ ap (λ (x : List ℕ). lines_from e x more) w

  -- and the input ends with it
  last_line : end ≡ length bs → 0 < end → (e : InputEnd) (more : List ℕ) → Comes true e more → lines_from e [] (bs ++ more) ≡ take end bs ∷ lines_from e [] (drop end bs ++ more)
  last_line h n nothing [] ends =
      one_line h nothing [] ∙ lines-last bs (omega (arith, h, n))
      ∙ ap₂ (λ (x : List ℕ) (ls : List (List ℕ)). x ∷ ls) (sym (take_all end bs (omega (arith, h))))
      (sym (ap (λ (y : List ℕ). lines_from nothing [] (y ++ [])) (drop_of_length-le bs {i = end} (omega (arith, h))) ∙ lines_none nothing))
  last_line h n nothing (_ ∷ _) c = elim c [ ]
  last_line h n unknown more c = elim c [ ]

  line-left : end ≡ length bs → LineOf bs most ended (record { whole = (ended && ltb 0 end) || leb most end; end = end; next = end })
  line-left h = record {
    end = end-within;
    next = end-within;
    moves = λ n. omega (arith, h, n);
    line = handed ended refl (ltb 0 end) refl (leb most end) refl;
    none = waits ended refl (ltb 0 end) refl (leb most end) refl;
  }
    where
      long : leb most end ≡ true → (end ≡ length bs) × (most ≤ length bs) × OneLine bs
      long e = (h, omega (arith, h, leb-true most end e), one_line h)

      handed :
          (d : Bool) → ended ≡ d → (t : Bool) → ltb 0 end ≡ t → (u : Bool) → leb most end ≡ u → ((d && t) || u) ≡ true
          → ((e : InputEnd) (more : List ℕ) → Comes ended e more → lines_from e [] (bs ++ more) ≡ take end bs ∷ lines_from e [] (drop end bs ++ more))
          ⊎ ((end ≡ length bs) × (most ≤ length bs) × OneLine bs)
      handed true x true y u z w =
          inl (λ e more c. last_line h (ltb-true 0 end y) e more (subst (λ (b : Bool). Comes b e more) x c))
      handed true x false y true z w = inr (long z)
      handed true x false y false z w = absurd (false≢true w)
      handed false x t y true z w = inr (long z)
      handed false x t y false z w = absurd (false≢true w)

      short : leb most end ≡ false → length bs < most
      short e = omega (arith, h, leb-false most end e)

      waits :
          (d : Bool) → ended ≡ d → (t : Bool) → ltb 0 end ≡ t → (u : Bool) → leb most end ≡ u → ((d && t) || u) ≡ false
          → (length bs < most) × OneLine bs × (ended ≡ true → bs ≡ [])
      waits true x true y u z w = absurd (true≢false w)
      waits true x false y true z w = absurd (true≢false w)
      waits true x false y false z w = (short z, one_line h, λ _. nil_from_length bs (omega (arith, h, ltb-false 0 end y)))
      waits false x t y true z w = absurd (true≢false w)
      waits false x t y false z w = (short z, one_line h, λ v. absurd (false≢true (sym x ∙ v)))

  -- .. and it is handed on, or it waits
  pub line-whole : end ≡ length bs → ((ended && ltb 0 end) || leb most end) ≡ true → LineOf bs most ended (record { whole = true; end = end; next = end })
  line-whole h e = subst (λ (b : Bool). LineOf bs most ended (record { whole = b; end = end; next = end })) e (line-left h)

  pub line-waits : end ≡ length bs → ((ended && ltb 0 end) || leb most end) ≡ false → LineOf bs most ended (record { whole = false; end = length bs; next = length bs })
  line-waits h e = subst (LineOf bs most ended) (λ i. record { whole = e i; end = h i; next = h i }) (line-left h)
