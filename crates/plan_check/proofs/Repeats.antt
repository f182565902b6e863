-- AN ACCEPTED PLAN REPEATS FOR EVER: from the last S on, the ticks that each task has repeat with P.
use mathlib.Core.Bool.{Bool, cond, false, true}
use mathlib.Core.List.{List}
use mathlib.Core.Path.{ap, refl, subst, sym, ◌∙◌, ◌≡◌}
use Prim.Native.Nat.{◌%◌, ◌*◌, ◌+◌, ◌-◌, ◌<◌, suc, zero, ℕ, ◌≤◌}
use native.Mathlib.Nat.{add-mod_right, add-suc, add-zero, le_dest, le_of_suc-le-suc, le_trans, lt_of_mul-lt-mul_right, mod-eq_of_lt, not-suc-le-zero}
use native.Mathlib.Omega.{arith}
use lib.Dec.{eqb, leb, ltb}
use lib.ListN.{length}
use borrow.Author.Tests.{eqb-false, eqb-true, le-ltb, leb-false, leb-true, lt-ltb, ltb-false, ltb-true}
use Rattle.model.proofs.Horizon.{factor}
use Rattle.model.proofs.Jobs.{newest-is}
use Rattle.model.proofs.Starts.{Periods, hyperperiod-divides, hyperperiod-pos, width-shift}
use Rattle.model.specs.Horizon.{horizon, hyperperiod, last_s}
use Rattle.model.specs.Task.{AllValid, Table, Task, due, newest, release, task, width_of}
use Rattle.plan_check.specs.Plan.{Acceptable, ValidRow, ForEver, InTime, Owed, cell_count, had_in_rows, repeated, row_at, runs}
use Rattle.plan_check.proofs.Newest.{newest-begun, newest-later, newest-next, newest-step, offset-last, release-later}
use Rattle.plan_check.proofs.PhaseBy.{phase-from, phase-owes}
use Rattle.plan_check.proofs.Ticks.{done-same, valid_same, valid-works, had-most, ticks-none, ticks-on, ticks-same}

-- equal had, with rows that are equal, is equal had a tick later
on_same : (b b' : Bool) (m n : ℕ) → b ≡ b' → m ≡ n → cond b (suc m) m ≡ cond b' (suc n) n
on_same b b' m n e q = rw (e, q)

-- what is owed agrees, and what is had is at most C: what is had agrees
owes-had : (C a b : ℕ) → a ≤ C → b ≤ C → C - a ≡ C - b → a ≡ b
owes-had C a b h l e = omega arith

module _ (s : Table) (ok : AllValid s) (rows : List (List ℕ)) (acc : Acceptable s rows) where
  abbrev H : ℕ
  H = horizon s

  abbrev L : ℕ
  L = last_s s.tasks

  abbrev P : ℕ
  P = hyperperiod s.tasks

  abbrev r : ℕ → List ℕ
  r = repeated s rows

  far : H ≡ L + P
  far = unfold horizon in refl

  -- up to the horizon the rows are the plan's
  early : (t : ℕ) → t < H → row_at rows t ≡ r t
  early t h = rw (lt-ltb t H h)

  -- from the last S on they repeat
  same_row : (t : ℕ) → L ≤ t → r t ≡ r (t + P)
  same_row t h = go (ltb t H) refl
    where
      later : r (t + P) ≡ row_at rows (L + (t - L) % P)
      later =
          rw (le-ltb (t + P) H (omega (arith, far)))
          (ap (λ (x : ℕ). row_at rows (L + x)) (ap (λ (x : ℕ). x % P) (omega arith) ∙ add-mod_right (t - L) P))

      go : (b : Bool) → ltb t H ≡ b → row_at rows (cond b t (L + (t - L) % P)) ≡ r (t + P)
      go true e =
          let l = ltb-true t H e in
          ap (row_at rows) (sym (ap (λ (x : ℕ). L + x) (mod-eq_of_lt (omega (arith, far))) ∙ omega arith)) ∙ sym later
      go false e = sym later

  module _ (p : ℕ) (l : p < length s.tasks) where
    abbrev τ : Task
    τ = task s p

    periods : Periods s.tasks
    periods q h = le_trans (ok q h).deadline-pos (ok q h).constrained

    abbrev m : ℕ
    m = (hyperperiod-divides s.tasks p periods l).0

    whole : P ≡ m * τ.period
    whole = (hyperperiod-divides s.tasks p periods l).1

    -- P ticks later a job has the same width: m jobs on the parity is the same, where the widths differ
    same_width : (k : ℕ) → width_of τ (k + m) ≡ width_of τ k
    same_width k = width-shift s.tasks p periods l m whole k

    pos : 0 < τ.period
    pos = le_trans (ok p l).deadline-pos (ok p l).constrained

    offset : τ.offset ≤ L
    offset = offset-last s ok p l

    -- the newest job has had what the newest P later has
    abbrev Shift : ℕ → Type 0
    Shift t = had_in_rows s r p (newest τ t) t ≡ had_in_rows s r p (newest τ t + m) (t + P)

    shift-last : Shift L
    shift-last =
        let owes : τ.length - had_in_rows s (row_at rows) p (newest τ L) L ≡ τ.length - had_in_rows s (row_at rows) p (newest τ H) H =
        phase-owes τ.length (L - release τ (newest τ L)) (H - release τ (newest τ H)) (had_in_rows s (row_at rows) p (newest τ L) L)
        (had_in_rows s (row_at rows) p (newest τ H) H)
        (sym (phase-from s (row_at rows) p L offset) ∙ (acc.agree p l ∙ phase-from s (row_at rows) p H (omega (arith, offset, far)))) in
        let a : had_in_rows s (row_at rows) p (newest τ L) L ≤ τ.length =
        had-most s ok (row_at rows) p l (newest τ L) L (λ u g. acc.rows-valid u (omega (arith, far))) (le_trans (omega arith) (newest-next τ pos L offset)) in
        let b : had_in_rows s (row_at rows) p (newest τ H) H ≤ τ.length =
        had-most s ok (row_at rows) p l (newest τ H) H (λ u g. acc.rows-valid u g) (le_trans (omega arith) (newest-next τ pos H (omega (arith, offset, far)))) in
        let c : had_in_rows s (row_at rows) p (newest τ L) L ≡ had_in_rows s (row_at rows) p (newest τ H) H =
        owes-had τ.length (had_in_rows s (row_at rows) p (newest τ L) L) (had_in_rows s (row_at rows) p (newest τ H) H) a b owes in
        let d : had_in_rows s r p (newest τ L) L ≡ had_in_rows s r p (newest τ H) H =
        sym (ticks-same (row_at rows) r p (release τ (newest τ L)) L (λ u g. early u (omega (arith, far))))
        ∙ (c ∙ ticks-same (row_at rows) r p (release τ (newest τ H)) H (λ u g. early u g)) in
        d ∙ (ap (λ (x : ℕ). had_in_rows s r p (newest τ x) x) far ∙ ap (λ (k : ℕ). had_in_rows s r p k (L + P)) (newest-later τ pos L m P whole offset))

    shift-next : (t : ℕ) → L ≤ t → Shift t → Shift (suc t)
    shift-next t h e = go (eqb (release τ (newest τ (suc t))) (suc t)) refl
      where
        over : suc (t + P) ≡ suc t + P
        over = omega arith

        go : (b : Bool) → eqb (release τ (newest τ (suc t))) (suc t) ≡ b → Shift (suc t)
        go true q =
            let here : release τ (newest τ (suc t)) ≡ suc t = eqb-true (release τ (newest τ (suc t))) (suc t) q in
            ticks-none r p (release τ (newest τ (suc t))) (suc t) (omega arith)
            ∙ sym (ticks-none r p (release τ (newest τ (suc t) + m)) (suc t + P) (omega (arith, release-later τ pos (newest τ (suc t)) m P whole)))
        go false q =
            let k : ℕ = newest τ t in
            let begun : release τ k ≤ t = newest-begun τ pos t (omega (arith, offset)) in
            let same : newest τ (suc t) ≡ k = newest-step τ pos t (omega (arith, offset)) (eqb-false (release τ (newest τ (suc t))) (suc t) q) in
            let one : had_in_rows s r p k (suc t) ≡ had_in_rows s r p (k + m) (suc (t + P)) =
            ticks-on r p (release τ k) t begun
            ∙ (on_same (runs r p t) (runs r p (t + P)) (had_in_rows s r p k t) (had_in_rows s r p (k + m) (t + P))
            (ap (λ (x : List ℕ). ltb 0 (cell_count (suc p) x)) (same_row t h)) e
            ∙ sym (ticks-on r p (release τ (k + m)) (t + P) (omega (arith, release-later τ pos k m P whole)))) in
            subst (λ (j : ℕ). had_in_rows s r p j (suc t) ≡ had_in_rows s r p (j + m) (suc t + P)) (sym same)
            (subst (λ (x : ℕ). had_in_rows s r p k (suc t) ≡ had_in_rows s r p (k + m) x) over one)

    shifts : (d : ℕ) → Shift (L + d)
    shifts zero = subst Shift (sym (add-zero L)) shift-last
    shifts (suc d) = subst Shift (sym (add-suc L d)) (shift-next (L + d) (omega arith) (shifts d))

    shift : (t : ℕ) → L ≤ t → Shift t
    shift t h = let d = le_dest h in subst Shift d.1 (shifts d.0)

  -- every row is fine, by strong induction on the tick
  valid-below : (n t : ℕ) → t < n → ValidRow s r t
  valid-below zero t h = absurd (not-suc-le-zero h)
  valid-below (suc n) t h = go (ltb t H) refl (valid-below n)
    where
      go : (b : Bool) → ltb t H ≡ b → ((u : ℕ) → u < n → ValidRow s r u) → ValidRow s r t
      go true e ih = let now = ltb-true t H e in valid_same s (row_at rows) r t (λ u g. early u (omega arith)) (acc.rows-valid t now)
      go false e ih =
          let late : H ≤ t = ltb-false t H e in
          from (t - P) (omega (arith, far)) (omega (arith, far)) (ih (t - P) (omega (arith, far, hyperperiod-pos s.tasks)))
        where
          from : (u : ℕ) → L ≤ u → u + P ≡ t → ValidRow s r u → ValidRow s r t
          from u g e x = subst (ValidRow s r) e record {
            size = rw (← same_row u g) x.size;
            known = λ c l. rw (← same_row u g) (x.known c l);
            works = λ p l q. later p l (valid-works s ok r u x p l (back p q));
          }
            where
              back : (p : ℕ) → runs r p (u + P) ≡ true → runs r p u ≡ true
              back p q = ap (λ (y : List ℕ). ltb 0 (cell_count (suc p) y)) (same_row u g) ∙ q

              later : (p : ℕ) (l : p < length s.tasks)
                  → Owed s r p (newest (task s p) u) u × (cell_count (suc p) (r u) ≡ width_of (task s p) (newest (task s p) u))
                  → (k : ℕ) × Owed s r p k (u + P) × (cell_count (suc p) (r (u + P)) ≡ width_of (task s p) k)
              later p l (w, v) =
                  let k : ℕ = newest (task s p) u in
                  let x = release-later (task s p) (pos p l) k (m p l) P (whole p l) in (
                    k + m p l,
                    record {
                      released = omega (arith, w.released);
                      early = omega (arith, w.early);
                      short = subst (λ (n : ℕ). n < (task s p).length) (shift p l u g) w.short;
                    },
                    ap (cell_count (suc p)) (sym (same_row u g)) ∙ (v ∙ sym (same_width p l k)),
                  )

  valid-all : (t : ℕ) → ValidRow s r t
  valid-all t = valid-below (suc t) t (omega arith)

  -- every job is done in time, by strong induction on the job
  done_below : (p : ℕ) → p < length s.tasks → (n k : ℕ) → k < n → InTime s r p k
  done_below p l zero k h = absurd (not-suc-le-zero h)
  done_below p l (suc n) k h = go (leb (due (task s p) k) H) refl (done_below p l n)
    where
      go : (b : Bool) → leb (due (task s p) k) H ≡ b → ((i : ℕ) → i < n → InTime s r p i) → InTime s r p k
      go true e ih =
          let in-time = leb-true (due (task s p) k) H e in
          done-same s (row_at rows) r p k (λ u g. early u (omega arith)) (acc.done p k l in-time)
      go false e ih = from (k - m p l) (omega (arith, upto)) (ih (k - m p l) (omega (arith, upto, some-m)))
        where
          past : H < due (task s p) k
          past = leb-false (due (task s p) k) H e

          enough : m p l * (task s p).period < suc k * (task s p).period
          enough = omega (arith, far, past, whole p l, offset p l, (ok p l).constrained)

          some-m : 0 < m p l
          some-m = factor (m p l) (task s p).period (omega (arith, whole p l, hyperperiod-pos s.tasks))

          upto : m p l ≤ k
          upto = le_of_suc-le-suc (lt_of_mul-lt-mul_right (task s p).period enough)

          from : (i : ℕ) → i + m p l ≡ k → InTime s r p i → InTime s r p k
          from i q x = last (task s p).deadline refl
            where
              τ₀ : Task
              τ₀ = task s p

              apart : release τ₀ k ≡ release τ₀ i + P
              apart = ap (release τ₀) (sym q) ∙ release-later τ₀ (pos p l) i (m p l) P (whole p l)

              last : (D : ℕ) → τ₀.deadline ≡ D → InTime s r p k
              last zero d = absurd (omega (arith, (ok p l).deadline-pos))
              last (suc D) d =
                  let u : ℕ = release τ₀ i + D in
                  let g : L ≤ u = omega (arith, past, far, apart) in
                  let new : newest τ₀ u ≡ i = newest-is τ₀ i u (ok p l).constrained (omega arith) (omega arith) in
                  let had : had_in_rows s r p i u ≡ had_in_rows s r p k (u + P) =
                  subst (λ (j : ℕ). had_in_rows s r p i u ≡ had_in_rows s r p j (u + P)) q
                  (subst (λ (j : ℕ). had_in_rows s r p j u ≡ had_in_rows s r p (j + m p l) (u + P)) new (shift p l u g)) in
                  let one : had_in_rows s r p i (suc u) ≡ had_in_rows s r p k (suc (u + P)) =
                  ticks-on r p (release τ₀ i) u (omega arith)
                  ∙ (on_same (runs r p u) (runs r p (u + P)) (had_in_rows s r p i u) (had_in_rows s r p k (u + P))
                  (ap (λ (y : List ℕ). ltb 0 (cell_count (suc p) y)) (same_row u g)) had
                  ∙ sym (ticks-on r p (release τ₀ k) (u + P) (omega (arith, apart)))) in
                  let a : suc u ≡ due τ₀ i = omega arith in
                  let b : suc (u + P) ≡ due τ₀ k = omega (arith, apart) in
                  ap (λ (t : ℕ). had_in_rows s r p k t) (sym b) ∙ (sym one ∙ (ap (λ (t : ℕ). had_in_rows s r p i t) a ∙ x))

  -- THE THEOREM
  pub acceptable-repeats : ForEver s (repeated s rows)
  acceptable-repeats = record { rows-valid = valid-all; done = λ p k l. done_below p l (suc k) k (omega arith) }
