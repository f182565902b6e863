-- The rows in the buffer: how long they are, one row more, and that nothing after the last row is changed.
use native.Mathlib.Omega.{arith}
use native.Mathlib.Nat.{add-zero, suc-mul, add-suc, suc-add, zero-mul, mul-le-mul_right, not-suc-le-zero}
use mathlib.Core.Path.{◌≡◌, refl, sym, ap, ap₂, ◌∙◌}
use mathlib.Core.List.{List, ◌++◌, append-nil, append_assoc}
use Prim.Native.Nat.{ℕ, zero, suc, ◌+◌, ◌-◌, ◌*◌, ◌≤◌, ◌<◌}
use lib.ListN.{length, get_or, take, drop, length-append, length-drop, get_or-append}
use lib.Seq.{paste, take_at, drop_at, drop-drop, get_or-append-add, get_or-drop}
use Rattle.model.proofs.Idling.{lending-idling, under}
use Rattle.model.proofs.Rows.{row-length}
use Rattle.model.specs.Task.{Table, Task, idling, lending}
use Rattle.model.specs.Claims.{shown_of, book_row}
use Rattle.model.specs.Lists.{full}
use Rattle.plan.specs.Rows.{full_rows_from}
use Rattle.plan.specs.Plan.{with_rows}

module _ (s : Table) where
  -- a row has a byte for each core, and n rows have n times as many
  pub rows-length : (t n : ℕ) → length (full_rows_from s t n) ≡ n * s.cores
  unfolding full_rows_from
  rows-length t zero = sym (zero-mul s.cores)
  rows-length t (suc n) =
      length-append (book_row s (full s t)) (full_rows_from s (suc t) n)
      ∙ (ap (λ (k : ℕ). k + length (full_rows_from s (suc t) n)) (row-length s.fence s.cores (shown_of s (full s t)))
      ∙ (ap (λ (k : ℕ). s.cores + k) (rows-length (suc t) n)
      ∙ (omega arith ∙ sym (suc-mul n s.cores))))

  -- one row more
  rows_more : (t n : ℕ) → full_rows_from s t (suc n) ≡ full_rows_from s t n ++ book_row s (full s (t + n))
  unfolding full_rows_from
  rows_more t zero = append-nil (book_row s (full s t)) ∙ ap (λ (u : ℕ). book_row s (full s u)) (sym (add-zero t))
  rows_more t (suc n) =
      ap (λ (l : List ℕ). book_row s (full s t) ++ l) (rows_more (suc t) n)
      ∙ (sym (append_assoc (book_row s (full s t)) (full_rows_from s (suc t) n) (book_row s (full s (suc t + n))))
      ∙ ap (λ (u : ℕ). book_row s (full s t) ++ full_rows_from s (suc t) n ++ book_row s (full s u)) (suc-add t n ∙ sym (add-suc t n)))

  -- the buffer with n rows from tick a on, and after them as found
  abbrev rows_over : ℕ → ℕ → List ℕ → List ℕ
  rows_over a n old = full_rows_from s a n ++ drop (n * s.cores) old

  pub with_none : (a n : ℕ) (old : List ℕ) → n ≡ 0 → rows_over a n old ≡ old
  unfolding full_rows_from
  with_none a n old e = ap (λ (k : ℕ). rows_over a k old) e ∙ ap (λ (k : ℕ). drop k old) (zero-mul s.cores)

  -- they keep its length
  pub with-length : (a n : ℕ) (old : List ℕ) → n * s.cores ≤ length old → length (rows_over a n old) ≡ length old
  with-length a n old h =
      omega (arith, length-append (full_rows_from s a n) (drop (n * s.cores) old), rows-length a n, length-drop (n * s.cores) old)

  -- the next row pasted after them
  with-more :
      (a n : ℕ) (old bytes : List ℕ) → take s.cores bytes ≡ book_row s (full s (a + n))
      → paste (rows_over a n old) (n * s.cores) bytes s.cores ≡ rows_over a (suc n) old
  with-more a n old bytes e =
      ap (λ (l : List ℕ). l ++ take s.cores bytes ++ drop (n * s.cores + s.cores) (rows_over a n old))
      (take_at (full_rows_from s a n) (drop (n * s.cores) old) (n * s.cores) (rows-length a n))
      ∙ (ap (λ (l : List ℕ). full_rows_from s a n ++ l ++ drop (n * s.cores + s.cores) (rows_over a n old)) e
      ∙ (ap (λ (l : List ℕ). full_rows_from s a n ++ book_row s (full s (a + n)) ++ l) after
      ∙ ap (λ (l : List ℕ). l ++ drop (suc n * s.cores) old) (sym (rows_more a n))))
    where
      after : drop (n * s.cores + s.cores) (rows_over a n old) ≡ drop (suc n * s.cores) old
      after =
          sym (drop-drop s.cores (n * s.cores) (rows_over a n old))
          ∙ (ap (drop s.cores) (drop_at (full_rows_from s a n) (drop (n * s.cores) old) (n * s.cores) (rows-length a n))
          ∙ (drop-drop s.cores (n * s.cores) old ∙ ap (λ (k : ℕ). drop k old) (sym (suc-mul n s.cores))))

  -- THE TICKS. A tick before a writes no row
  pub over_none : (a tick : ℕ) (old : List ℕ) → tick ≤ a → with_rows s a tick old ≡ old
  over_none a tick old h = with_none a (tick - a) old (omega arith)

  -- a tick from a on writes its own
  pub over-more :
      (a tick : ℕ) (old bytes : List ℕ) → a ≤ tick → take s.cores bytes ≡ book_row s (full s tick)
      → paste (with_rows s a tick old) ((tick - a) * s.cores) bytes s.cores ≡ with_rows s a (suc tick) old
  over-more a tick old bytes h e =
      let i : tick ≡ a + (tick - a) = omega arith in
      let j : suc (tick - a) ≡ suc tick - a = omega arith in
      with-more a (tick - a) old bytes (e ∙ ap (λ (u : ℕ). book_row s (full s u)) i) ∙ ap (λ (n : ℕ). rows_over a n old) j

  -- BYTE BY BYTE. The byte of core c in the row of tick t + k
  rows_at : (t n k c : ℕ) → k < n → c < s.cores → get_or (full_rows_from s t n) (k * s.cores + c) 0 ≡ get_or (book_row s (full s (t + k))) c 0
  unfolding full_rows_from
  rows_at t zero k c h l = absurd (not-suc-le-zero h)
  rows_at t (suc n) zero c h l =
      let e : zero * s.cores + c ≡ c = omega arith in
      ap (λ (i : ℕ). get_or (book_row s (full s t) ++ full_rows_from s (suc t) n) i 0) e
      ∙ (get_or-append (book_row s (full s t)) (full_rows_from s (suc t) n) 0 c (omega (arith, row-length s.fence s.cores (shown_of s (full s t))))
      ∙ ap (λ (u : ℕ). get_or (book_row s (full s u)) c 0) (sym (add-zero t)))
  rows_at t (suc n) (suc k) c h l =
      let e : suc k * s.cores + c ≡ length (book_row s (full s t)) + (k * s.cores + c) = omega (arith, suc-mul k s.cores, row-length s.fence s.cores (shown_of s (full s t))) in
      ap (λ (i : ℕ). get_or (book_row s (full s t) ++ full_rows_from s (suc t) n) i 0) e
      ∙ (get_or-append-add (book_row s (full s t)) (full_rows_from s (suc t) n) (k * s.cores + c) 0
      ∙ (rows_at (suc t) n k c (omega arith) l ∙ ap (λ (u : ℕ). get_or (book_row s (full s u)) c 0) (suc-add t k ∙ sym (add-suc t k))))

  -- in the buffer
  pub over-at :
      (a b t c : ℕ) (old : List ℕ) → a ≤ t → t < b → c < s.cores
      → get_or (with_rows s a b old) ((t - a) * s.cores + c) 0 ≡ get_or (book_row s (full s t)) c 0
  over-at a b t c old h k l =
      let n : suc (t - a) ≤ b - a = omega arith in
      let e : a + (t - a) ≡ t = omega arith in
      get_or-append (full_rows_from s a (b - a)) (drop ((b - a) * s.cores) old) 0 ((t - a) * s.cores + c)
      (omega (arith, rows-length a (b - a), suc-mul (t - a) s.cores, mul-le-mul_right s.cores n))
      ∙ (rows_at a (b - a) (t - a) c n l ∙ ap (λ (u : ℕ). get_or (book_row s (full s u)) c 0) e)

  -- after the last row
  pub over-past : (a b i : ℕ) (old : List ℕ) → (b - a) * s.cores ≤ i → get_or (with_rows s a b old) i 0 ≡ get_or old i 0
  over-past a b i old h =
      let m : ℕ = (b - a) * s.cores in
      let e : i ≡ length (full_rows_from s a (b - a)) + (i - m) = omega (arith, rows-length a (b - a)) in
      let f : m + (i - m) ≡ i = omega arith in
      ap (λ (j : ℕ). get_or (with_rows s a b old) j 0) e
      ∙ (get_or-append-add (full_rows_from s a (b - a)) (drop m old) (i - m) 0 ∙ (get_or-drop m old (i - m) 0 ∙ ap (λ (j : ℕ). get_or old j 0) f))

-- RULE 4: the rows are those of rule 3 (request 109)
pub lending-rows : (τs : List Task) (m f t n : ℕ) → full_rows_from (under lending τs m f) t n ≡ full_rows_from (under idling τs m f) t n
unfolding full_rows_from
lending-rows τs m f t zero = refl
lending-rows τs m f t (suc n) = ap₂ (λ (x y : List ℕ). x ++ y) (lending-idling τs m f t).1 (lending-rows τs m f (suc t) n)
