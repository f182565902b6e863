-- What one place, a pass and all passes leave of a set. THEOREM (passes-stable): as many passes as tasks are enough.
use mathlib.Core.Bool.{Bool, cond, false, false≢true, true, ◌&&◌}
use mathlib.Core.Logic.{⊎_elim}
use mathlib.Core.Path.{ap, refl, subst, sym, ◌∙◌, ◌≡◌}
use Prim.Native.Nat.{ℕ, suc, zero, ◌-◌, ◌<◌, ◌^◌, ◌≤◌}
use native.Mathlib.Nat.{eq-or-lt_of_le, le_refl, le_trans, not-suc-le-zero}
use native.Mathlib.Omega.{arith}
use lib.Dec.{eqb}
use lib.ListN.{length}
use lib.Pow.{pow_pos}
use borrow.Author.Tests.{eq-eqb, eqb-false, eqb-true}
use Rattle.model.proofs.Digits.{BitCleared, bit_past}
use Rattle.model.proofs.Digits as digits
use Rattle.model.specs.Search.{bit}
use Rattle.model.specs.Task.{Table}
use Rattle.table.proofs.Tests.{there-all}
use Rattle.conflict.specs.Conflict.{all_places, conflict_set, conflicts, dropped, pass, passes}
use Rattle.conflict.specs.SubTable.{sub_table, without_place}
use Rattle.conflict.proofs.Chosen.{chosen_less, chosen-whole}

module _ (s : Table) where
  abbrev pub n : ℕ
  n = length s.tasks

  abbrev pub size : ℕ → ℕ
  size x = length (sub_table s x).tasks

  -- what is left of a set after some places, or a pass over them: no more, the miss with it, and where as many are left, all of them
  record Left (x y : ℕ) : Type 0 where
    falls : y ≤ x
    fewer : size y ≤ size x
    same : size y ≡ size x → y ≡ x
    miss-kept : conflicts s x ≡ true → conflicts s y ≡ true

  left-all : (x : ℕ) → Left x x
  left-all x = record { falls = le_refl x; fewer = le_refl (size x); same = λ h. refl; miss-kept = λ h. h }

  left-then : (x y z : ℕ) → Left x y → Left y z → Left x z
  left-then x y z a b = record {
    falls = le_trans b.falls a.falls;
    fewer = le_trans b.fewer a.fewer;
    same = λ h.
        let e : y ≡ x = a.same (omega (arith, a.fewer, b.fewer)) in
        b.same (h ∙ ap size (sym e)) ∙ e;
    miss-kept = λ h. b.miss-kept (a.miss-kept h);
  }

  -- a place that is kept, left out
  without-kept : (x p : ℕ) → bit x p ≡ true → without_place x p ≡ x - 2 ^ p
  without-kept x p e = rw e

  size-without : (x p : ℕ) → p < n → bit x p ≡ true → suc (size (without_place x p)) ≡ size x
  size-without x p l e =
      rw (without-kept x p e)
      (chosen_less (bit x) (bit (x - 2 ^ p)) s.tasks p l e (digits.clear-bit x p e).others)

  -- one place by its cases: it is dropped, it is needed, or it is not kept
  pub dropped-drops : (p x : ℕ) → bit x p ≡ true → conflicts s (x - 2 ^ p) ≡ true → dropped s p x ≡ x - 2 ^ p
  unfolding dropped
  dropped-drops p x e c = rw (e, c)

  pub dropped-needs : (p x : ℕ) → bit x p ≡ true → conflicts s (x - 2 ^ p) ≡ false → dropped s p x ≡ x
  unfolding dropped
  dropped-needs p x e c = rw (e, c)

  pub dropped-not : (p x : ℕ) → bit x p ≡ false → dropped s p x ≡ x
  unfolding dropped
  dropped-not p x e = rw e

  -- a pass by its last place
  pub pass_step : (p x : ℕ) → 0 < p → pass s (p - 1) (dropped s (p - 1) x) ≡ pass s p x
  unfolding pass
  pass_step zero x l = absurd (not-suc-le-zero l)
  pass_step (suc p) x l = let e : suc p - 1 ≡ p = omega arith in rw e

  pub pass-none : (p x : ℕ) → p ≡ 0 → pass s p x ≡ x
  unfolding pass
  pass-none p x e = rw e

  -- one place; where nothing is dropped it is needed
  record DropStep (p x y : ℕ) : Type 0 where
    left : Left x y
    needed : y ≡ x → bit x p ≡ true → conflicts s (without_place x p) ≡ false

  drop-step : (p : ℕ) → p < n → (x : ℕ) → DropStep p x (dropped s p x)
  unfolding dropped
  drop-step p l x = go (bit x p) refl (conflicts s (without_place x p)) refl
    where
      go : (t : Bool) → bit x p ≡ t → (u : Bool) → conflicts s (without_place x p) ≡ u → DropStep p x (cond (t && u) (without_place x p) x)
      go true e true c =
          let w : BitCleared x p = digits.clear-bit x p e in
          let less : suc (size (without_place x p)) ≡ size x = size-without x p l e in
          let is : without_place x p ≡ x - 2 ^ p = without-kept x p e in record {
            left = record {
              falls = omega arith;
              fewer = omega arith;
              same = λ h. absurd (omega arith);
              miss-kept = λ h. c;
            };
            needed = λ h. absurd (omega (arith, w.within, pow_pos p));
          }
      go true e false c = record { left = left-all x; needed = λ h i. c }
      go false e u c = record { left = left-all x; needed = λ h i. absurd (false≢true (sym e ∙ i)) }

  record Passing (i x y : ℕ) : Type 0 where
    left : Left x y
    needed : y ≡ x → (p : ℕ) → p < i → bit x p ≡ true → conflicts s (without_place x p) ≡ false

  passing : (i : ℕ) → i ≤ n → (x : ℕ) → Passing i x (pass s i x)
  unfolding pass
  passing zero l x = record { left = left-all x; needed = λ h p m. absurd (not-suc-le-zero m) }
  passing (suc i) l x =
      let a = drop-step i l x in
      let b = passing i (omega arith) (dropped s i x) in
      record { left = left-then x (dropped s i x) (pass s i (dropped s i x)) a.left b.left; needed = λ h. all a b h }
    where
      y : ℕ
      y = dropped s i x

      all : DropStep i x y → Passing i y (pass s i y) → pass s i y ≡ x → (p : ℕ) → p < suc i → bit x p ≡ true → conflicts s (without_place x p) ≡ false
      all a b h p m e =
          let first : y ≡ x = omega (arith, a.left.falls, b.left.falls) in
          ⊎_elim
          (λ (q : p ≡ i). subst (λ (j : ℕ). bit x j ≡ true → conflicts s (without_place x j) ≡ false) (sym q) (a.needed first) e)
          (λ (q : p < i). subst (λ (z : ℕ). bit z p ≡ true → conflicts s (without_place z p) ≡ false) first (b.needed (h ∙ sym first) p q) e)
          (eq-or-lt_of_le (omega arith))

  -- a pass leaves no more, and where it drops something there are fewer
  pub pass-falls : (x : ℕ) → pass s n x ≤ x
  pass-falls x = (passing n (le_refl n) x).left.falls

  pub pass-fewer : (x : ℕ) → (pass s n x ≡ x → ⊥) → size (pass s n x) < size x
  pass-fewer x d =
      let a = (passing n (le_refl n) x).left in
      ⊎_elim (λ (e : size (pass s n x) ≡ size x). absurd (d (a.same e))) (λ (e : size (pass s n x) < size x). e) (eq-or-lt_of_le a.fewer)

  -- ---- all passes

  -- where a pass drops nothing, the passes end
  pub passes-end : (m x : ℕ) → pass s n x ≡ x → passes s m x ≡ x
  unfolding passes
  passes-end zero x e = refl
  passes-end (suc m) x e = rw (eq-eqb (pass s n x) x e)

  -- where it drops something, they go on
  pub passes-step : (m x : ℕ) → (pass s n x ≡ x → ⊥) → passes s (suc m) x ≡ passes s m (pass s n x)
  unfolding passes
  passes-step m x d = go (eqb (pass s n x) x) refl
    where
      go : (t : Bool) → eqb (pass s n x) x ≡ t → cond t x (passes s m (pass s n x)) ≡ passes s m (pass s n x)
      go true e = absurd (d (eqb-true (pass s n x) x e))
      go false e = refl

  -- as many passes as tasks left are enough: one more drops nothing
  record Done (x y : ℕ) : Type 0 where
    left : Left x y
    stable : pass s n y ≡ y

  done : (m x : ℕ) → size x ≤ m → Done x (passes s m x)
  unfolding passes
  done zero x l = record { left = left-all x; stable = a.same (omega (arith, a.fewer)) }
    where
      a : Left x (pass s n x)
      a = (passing n (le_refl n) x).left
  done (suc m) x l = go (eqb (pass s n x) x) refl (done m (pass s n x))
    where
      y : ℕ
      y = pass s n x

      go : (t : Bool) → eqb y x ≡ t → (size y ≤ m → Done y (passes s m y)) → Done x (cond t x (passes s m y))
      go true e ih = record { left = left-all x; stable = eqb-true y x e }
      go false e ih =
          let d = ih (omega (arith, pass-fewer x (eqb-false y x e))) in
          record { left = left-then x y (passes s m y) (passing n (le_refl n) x).left d.left; stable = d.stable }

  -- ---- the whole table

  whole-tasks : (sub_table s (all_places s)).tasks ≡ s.tasks
  whole-tasks = chosen-whole (bit (all_places s)) s.tasks (λ q l. there-all n q l)

  pub whole_part : sub_table s (all_places s) ≡ s
  whole_part = λ i. record { tasks = whole-tasks i; cores = s.cores; fence = s.fence; rule = s.rule }

  all_done : Done (all_places s) (conflict_set s)
  unfolding conflict_set
  all_done = done n (all_places s) (omega (arith, ap {B = ℕ} length whole-tasks))

  -- the passes as code makes them: what further ones leave of this set is the answer, as many of them as tasks are left being enough
  abbrev pub Going : ℕ → Type 0
  Going x = (m : ℕ) × (size x ≤ m) × (passes s m x ≡ conflict_set s)

  pub going_start : Going (all_places s)
  unfolding conflict_set
  going_start = (n, omega (arith, ap {B = ℕ} length whole-tasks), refl)

  pub going_end : (x : ℕ) → Going x → pass s n x ≡ x → x ≡ conflict_set s
  going_end x g e = sym (passes-end g.0 x e) ∙ g.2

  pub going_on : (x : ℕ) → Going x → (pass s n x ≡ x → ⊥) → Going (pass s n x)
  going_on x (zero, l, e) d = absurd (omega (arith, l, pass-fewer x d))
  going_on x (suc m, l, e) d = (m, omega (arith, l, pass-fewer x d), sym (passes-step m x d) ∙ e)

  -- THEOREM: as many passes as tasks are enough, one more drops nothing
  pub passes-stable : pass s (length s.tasks) (conflict_set s) ≡ conflict_set s
  passes-stable = all_done.stable

  -- what misses goes on to miss
  pub passes-keep : conflicts s (all_places s) ≡ true → conflicts s (conflict_set s) ≡ true
  passes-keep h = all_done.left.miss-kept h

  -- where a pass drops nothing, each place is needed
  pub stable-needed : (x : ℕ) → pass s n x ≡ x → (p : ℕ) → p < n → bit x p ≡ true → conflicts s (without_place x p) ≡ false
  stable-needed x e = (passing n (le_refl n) x).needed e

  -- no place past the count is left
  pub conflict-past : (p : ℕ) → length s.tasks ≤ p → bit (conflict_set s) p ≡ false
  conflict-past p l = bit_past n (conflict_set s) p (omega (arith, all_done.left.falls, pow_pos n)) l
