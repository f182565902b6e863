-- Row, sets and advance are refused with n and p exactly if n is the first of 14, 15, 20 and 16 that applies, with position p; and taken exactly if none
-- applies.
use mathlib.Core.Path.{◌≡◌, refl, sym, ap, ap₂, ◌∙◌}
use mathlib.Core.Bool.{Bool, true, false, not, ◌&&◌, ◌||◌, cond, true≢false, false≢true}
use mathlib.Core.List.{List, [], ◌∷◌}
use mathlib.Core.Logic.{◌⊎◌, inl, inr, ⊎_elim, ◌↔◌}
use Prim.Native.Nat.{ℕ, suc, ◌≤◌, ◌<◌}
use native.Mathlib.Nat.{le_trans}
use native.Mathlib.Omega.{arith}
use lib.ListN.{get_or}
use lib.Dec.{ltb, eqb}
use borrow.Author.Tests.{ltb-true, ltb-false, eqb-true, eq-eqb}
use Rattle.model.specs.Search.{bit}
use Rattle.model.specs.Grants.{some}
use Rattle.model.specs.Refusals as model
use Rattle.model.proofs.Bools.{and_left, and_right}
use Rattle.model.proofs.Search.{least-found, least-lowest}
use Rattle.table.specs.Numbers.{place, Earlier, FirstOf, NoneOf}
use Rattle.table.proofs.Decide.{Decides, fails, decides_not}
use Rattle.table.proofs.Order.{not-before-itself, later}
use Rattle.phase.specs.declared.Phase.{Phase}
use Rattle.phase.specs.declared.Phase.TheVariants.{Coming, Working, Holding, Resting}
use Rattle.run.specs.declared.Run.{Run}
use Rattle.run.specs.Answer.{Answer}
use Rattle.run.specs.Answer.{Taken, Refused}
use Rattle.run.specs.Advance.{Advanced}
use Rattle.run.specs.Answer.{Row}
use Rattle.phase.specs.Phase.{working, late_in, released}
use Rattle.run.specs.Run.{run_task_at, phase_at, emptied_at, grants_in, has_cores, borrowed_in, has_lent, moved}
use Rattle.run.specs.Answer.{answer_meaning}
use Rattle.run.specs.Numbers.{RunOut, PlaceLate, WrongEmpties, PlaceWorking, WrongReports, RowApplies, fourteen, fifteen, twenty, AdvanceApplies, as_row, sixteen}
use Rattle.run.specs.Numbers.{run_out, late_at, first_late_in, emptiable_at, wrong_empties_in, reportable_at, wrong_reports_in}
use Rattle.run.specs.Advance.{advance_answer, advance_of, AdvanceOf}
use Rattle.run.specs.Row.{row_answer, bytes_in, no_bytes, row_of, RowOf}
use Rattle.run.specs.Sets.{sets_of}
use Rattle.run.proofs.First.{by-taken, by-refused, Right, refused-exact, taken-exact}
use Rattle.run.proofs.SetTests.{beyond-decides, set-decides}
use Rattle.run.proofs.Limits.{run-decides}
use Rattle.run.proofs.Again.{advance-passes}
use Rattle.run.proofs.UnusedPlaces.{past-unchanged}

-- THE TESTS OF 15, 20 AND 16

late-in-decides : (D : ℕ) (ph : Phase) → Decides (late_in D ph) ((had u : ℕ) × (ph ≡ Working D had u))
late-in-decides D ph = (there ph, λ x. ap (late_in D) x.2 ∙ eq-eqb D D refl)
  where
    there : (ph : Phase) → late_in D ph ≡ true → (had u : ℕ) × (ph ≡ Working D had u)
    there (Coming left) e = absurd (false≢true e)
    there (Working z had u) e = (had, u, ap (λ (n : ℕ). Working n had u) (eqb-true z D e))
    there (Holding z u) e = absurd (false≢true e)
    there (Resting z) e = absurd (false≢true e)

pub late-decides : (r : Run) (p : ℕ) → Decides (late_at r p) (PlaceLate r p)
late-decides r p = late-in-decides (run_task_at r p).deadline (phase_at r p)

pub works-decides : (ph : Phase) → Decides (working ph) ((z had u : ℕ) × (ph ≡ Working z had u))
works-decides ph = (there ph, λ x. ap working x.3)
  where
    there : (ph : Phase) → working ph ≡ true → (z had u : ℕ) × (ph ≡ Working z had u)
    there (Coming left) e = absurd (false≢true e)
    there (Working z had u) e = (z, had, u, refl)
    there (Holding z u) e = absurd (false≢true e)
    there (Resting z) e = absurd (false≢true e)

released-decides : (ph : Phase) → Decides (released ph) ((u : ℕ) × (ph ≡ Working 0 0 u))
released-decides ph = (there ph, λ x. ap released x.1)
  where
    there : (ph : Phase) → released ph ≡ true → (u : ℕ) × (ph ≡ Working 0 0 u)
    there (Coming left) e = absurd (false≢true e)
    there (Working z had u) e =
        (u, ap₂ (λ (a b : ℕ). Working a b u) (eqb-true z 0 (and_left (eqb z 0) (eqb had 0) e)) (eqb-true had 0 (and_right (eqb z 0) (eqb had 0) e)))
    there (Holding z u) e = absurd (false≢true e)
    there (Resting z) e = absurd (false≢true e)

-- neither of two lists has a core
none-decides : (k l : List ℕ) → Decides (not (some k || some l)) ((k ≡ []) × (l ≡ []))
none-decides [] [] = (λ e. (refl, refl), λ e. refl)
none-decides [] (c ∷ cs) = (λ e. absurd (false≢true e), λ e. ap (λ (x : List ℕ). not (some x)) e.1)
none-decides (c ∷ cs) l = (λ e. absurd (false≢true e), λ e. absurd (true≢false (ap some e.0)))

-- not both: not the one, or not the other
not-both-decides : (a b : Bool) (P Q : Type 0) → Decides (not a) P → Decides (not b) Q → Decides (not (a && b)) (P ⊎ Q)
not-both-decides true b P Q c d = (λ e. inr (d.0 e), λ x. ⊎_elim (λ p. absurd (false≢true (c.1 p))) (λ q. d.1 q) x)
not-both-decides false b P Q c d = (λ e. inl (c.0 refl), λ x. refl)

pub wrong-empties-decides : (r : Run) (e : ℕ) → Decides (wrong_empties_in r e) ((p : ℕ) × WrongEmpties r e p)
unfolding wrong_empties_in
wrong-empties-decides r e =
    set-decides e (emptiable_at r) (λ p. (r.count ≤ p) ⊎ (¬ ((u : ℕ) × (phase_at r p ≡ Working 0 0 u))))
    (λ p.
    not-both-decides (ltb p r.count) (released (phase_at r p)) (r.count ≤ p) (¬ ((u : ℕ) × (phase_at r p ≡ Working 0 0 u))) (beyond-decides p r.count)
    (decides_not _ _ (released-decides (phase_at r p))))

pub wrong-reports-decides : (r : Run) (e x : ℕ) → Decides (wrong_reports_in r e x) ((p : ℕ) × WrongReports r e x p)
unfolding wrong_reports_in
wrong-reports-decides r e x =
    set-decides x (reportable_at r e) (λ p. (r.count ≤ p) ⊎ ((¬ PlaceWorking r e p) ⊎ None p))
    (λ p.
    not-both-decides (ltb p r.count) (working (emptied_at r e p) && (has_cores r e p || has_lent r e p)) (r.count ≤ p) ((¬ PlaceWorking r e p) ⊎ None p)
    (beyond-decides p r.count)
    (not-both-decides (working (emptied_at r e p)) (has_cores r e p || has_lent r e p) (¬ PlaceWorking r e p) (None p)
    (decides_not _ _ (works-decides (emptied_at r e p))) (none-decides (get_or (grants_in r e) p []) (borrowed_in r e p))))
  where
    -- no cores of its own, and none that are lent
    None : ℕ → Type 0
    None p = (get_or (grants_in r e) p [] ≡ []) × (borrowed_in r e p ≡ [])

-- THE FIRST NUMBER

module _ (r : Run) where
  no-14 : run_out r ≡ false → ¬ RunOut r
  no-14 e = fails (run_out r) (RunOut r) (run-decides r) e

  late-at : (p : ℕ) → PlaceLate r p → late_at r p ≡ true
  late-at p h = (late-decides r p).1 h

  first-late : (p : ℕ) → p < first_late_in r → ¬ PlaceLate r p
  unfolding first_late_in
  first-late p l h = true≢false (sym (late-at p h) ∙ least-lowest r.count (late_at r) p l)

  not_late : ltb (first_late_in r) r.count ≡ false → (p : ℕ) → p < r.count → ¬ PlaceLate r p
  not_late f p l h = first-late p (le_trans l (ltb-false (first_late_in r) r.count f)) h

  -- A ROW with the empties e
  module _ (e : ℕ) where
    row-14 : run_out r ≡ true → FirstOf (RowApplies r e) 14 0
    unfolding place
    row-14 q = (fourteen ((run-decides r).0 q), earlier)
      where
        earlier : (m i : ℕ) → Earlier m i 14 0 → ¬ RowApplies r e m i
        earlier m i x (fourteen h) = not-before-itself 14 0 x
        earlier m i x (fifteen p l h) = later 15 (suc p) 14 0 (omega arith) x
        earlier m i x (twenty p h) = later 20 0 14 0 (omega arith) x

    row-15 : run_out r ≡ false → ltb (first_late_in r) r.count ≡ true → FirstOf (RowApplies r e) 15 (suc (first_late_in r))
    unfolding place
    row-15 q f = (fifteen (first_late_in r) below ((late-decides r (first_late_in r)).0 found), earlier)
      where
        below : first_late_in r < r.count
        below = ltb-true (first_late_in r) r.count f

        found : late_at r (first_late_in r) ≡ true
        found = unfold first_late_in in least-found r.count (late_at r) below

        earlier : (m i : ℕ) → Earlier m i 15 (suc (first_late_in r)) → ¬ RowApplies r e m i
        earlier m i x (fourteen h) = no-14 q h
        earlier m i x (fifteen p l h) =
            ⊎_elim (λ y. omega arith)
            (λ y. ⊎_elim (λ z. first-late p (omega arith) h) (λ z. let w = z.1 in omega arith) y.1) x
        earlier m i x (twenty p h) = later 20 0 15 (suc (first_late_in r)) (omega arith) x

    row-20 : run_out r ≡ false → ltb (first_late_in r) r.count ≡ false → wrong_empties_in r e ≡ true → FirstOf (RowApplies r e) 20 0
    row-20 q f g = (twenty bad.0 bad.1, earlier)
      where
        bad : (p : ℕ) × WrongEmpties r e p
        bad = (wrong-empties-decides r e).0 g

        earlier : (m i : ℕ) → Earlier m i 20 0 → ¬ RowApplies r e m i
        earlier m i x (fourteen h) = no-14 q h
        earlier m i x (fifteen p l h) = not_late f p l h
        earlier m i x (twenty p h) = not-before-itself 20 0 x

    row-none : run_out r ≡ false → ltb (first_late_in r) r.count ≡ false → wrong_empties_in r e ≡ false → NoneOf (RowApplies r e)
    row-none q f g m i (fourteen h) = no-14 q h
    row-none q f g m i (fifteen p l h) = not_late f p l h
    row-none q f g m i (twenty p h) = fails (wrong_empties_in r e) ((p : ℕ) × WrongEmpties r e p) (wrong-empties-decides r e) g (p, h)

    -- THE LAW OF A ROW
    row-right : Right (RowApplies r e) (row_answer r e)
    unfolding row_answer
    row-right = go (run_out r) refl (ltb (first_late_in r) r.count) refl (wrong_empties_in r e) refl
      where
        go : (t : Bool) → run_out r ≡ t → (u : Bool) → ltb (first_late_in r) r.count ≡ u → (v : Bool) → wrong_empties_in r e ≡ v
            → Right (RowApplies r e) (cond t (Refused 14 0) (cond u (Refused 15 (suc (first_late_in r))) (cond v (Refused 20 0) Taken)))
        go true q u f v g = row-14 q
        go false q true f v g = row-15 q f
        go false q false f true g = row-20 q f g
        go false q false f false g = row-none q f g

    pub row-exact : (n p : ℕ) → (answer_meaning (row_of r e).answer ≡ model.refused n p) ↔ FirstOf (RowApplies r e) n p
    unfolding row_of
    row-exact = refused-exact (RowApplies r e) (row_answer r e) row-right

    pub row-taken : (answer_meaning (row_of r e).answer ≡ model.taken) ↔ NoneOf (RowApplies r e)
    unfolding row_of
    row-taken = taken-exact (RowApplies r e) (row_answer r e) row-right

    -- sets have the row's answer
    pub sets-exact : (n p : ℕ) → (answer_meaning (sets_of r e).answer ≡ model.refused n p) ↔ FirstOf (RowApplies r e) n p
    unfolding sets_of
    sets-exact = refused-exact (RowApplies r e) (row_answer r e) row-right

    pub sets-taken : (answer_meaning (sets_of r e).answer ≡ model.taken) ↔ NoneOf (RowApplies r e)
    unfolding sets_of
    sets-taken = taken-exact (RowApplies r e) (row_answer r e) row-right

    -- a value that is the row's by definition meets the contract of a row
    pub row-of : (w : Row) → w ≡ row_of r e → RowOf r e w
    row-of w q = rw q record {
      value = refl;
      refused = row-exact;
      taken = row-taken;
      bytes = unfold row_of in by-taken (row_answer r e) (bytes_in r e) no_bytes;
      zeros = unfold row_of in by-refused (row_answer r e) (bytes_in r e) no_bytes;
    }

    -- AN ADVANCE with the reports x too
    module _ (x : ℕ) where
      -- 14, 15 and 20 come before 16
      as-advance : (n p : ℕ) → ¬ Earlier 16 0 n p → FirstOf (RowApplies r e) n p → FirstOf (AdvanceApplies r x e) n p
      as-advance n p late f = (as_row n p f.0, earlier)
        where
          earlier : (m i : ℕ) → Earlier m i n p → ¬ AdvanceApplies r x e m i
          earlier m i q (as_row k j h) = f.1 m i q h
          earlier m i q (sixteen j h) = late q

      advance-16 : NoneOf (RowApplies r e) → wrong_reports_in r e x ≡ true → FirstOf (AdvanceApplies r x e) 16 0
      advance-16 none q = (sixteen bad.0 bad.1, earlier)
        where
          bad : (p : ℕ) × WrongReports r e x p
          bad = (wrong-reports-decides r e x).0 q

          earlier : (m i : ℕ) → Earlier m i 16 0 → ¬ AdvanceApplies r x e m i
          earlier m i y (as_row k j h) = none m i h
          earlier m i y (sixteen j h) = not-before-itself 16 0 y

      advance-none : NoneOf (RowApplies r e) → wrong_reports_in r e x ≡ false → NoneOf (AdvanceApplies r x e)
      advance-none none q m i (as_row k j h) = none m i h
      advance-none none q m i (sixteen j h) = fails (wrong_reports_in r e x) ((p : ℕ) × WrongReports r e x p) (wrong-reports-decides r e x) q (j, h)

      -- THE LAW OF AN ADVANCE
      advance-right : Right (AdvanceApplies r x e) (advance_answer r x e)
      unfolding advance_answer place
      advance-right = go (run_out r) refl (ltb (first_late_in r) r.count) refl (wrong_empties_in r e) refl (wrong_reports_in r e x) refl
        where
          late : Answer
          late = Refused 15 (suc (first_late_in r))

          go : (t : Bool) → run_out r ≡ t → (u : Bool) → ltb (first_late_in r) r.count ≡ u
              → (v : Bool) → wrong_empties_in r e ≡ v → (w : Bool) → wrong_reports_in r e x ≡ w
              → Right (AdvanceApplies r x e) (cond t (Refused 14 0) (cond u late (cond v (Refused 20 0) (cond w (Refused 16 0) Taken))))
          go true q u f v g w h = as-advance 14 0 (later 16 0 14 0 (omega arith)) (row-14 q)
          go false q true f v g w h = as-advance 15 (suc (first_late_in r)) (later 16 0 15 (suc (first_late_in r)) (omega arith)) (row-15 q f)
          go false q false f true g w h = as-advance 20 0 (later 16 0 20 0 (omega arith)) (row-20 q f g)
          go false q false f false g true h = advance-16 (row-none q f g) h
          go false q false f false g false h = advance-none (row-none q f g) h

      pub advance-exact : (n p : ℕ) → (answer_meaning (advance_of r x e).answer ≡ model.refused n p) ↔ FirstOf (AdvanceApplies r x e) n p
      unfolding advance_of
      advance-exact = refused-exact (AdvanceApplies r x e) (advance_answer r x e) advance-right

      pub advance-taken : (answer_meaning (advance_of r x e).answer ≡ model.taken) ↔ NoneOf (AdvanceApplies r x e)
      unfolding advance_of
      advance-taken = taken-exact (AdvanceApplies r x e) (advance_answer r x e) advance-right

      -- a value that is the advance's by definition meets the contract of an advance
      pub advance-of : (a : Advanced) → a ≡ advance_of r x e → AdvanceOf r x e a
      advance-of a q = rw q record {
        value = refl;
        refused = advance-exact;
        taken = advance-taken;
        on = unfold advance_of in by-taken (advance_answer r x e) (moved (bit x) e r) r;
        as-given = unfold advance_of in by-refused (advance_answer r x e) (moved (bit x) e r) r;
        passes = advance-passes r x e;
        past = past-unchanged r x e;
      }
