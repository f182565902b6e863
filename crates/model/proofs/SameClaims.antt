-- Books with the same claims: at one tick with the same ticks claimed. Where a job that ended claims until it has claimed C ticks, as under idling and lending,
-- every book has the claims of the full-length run at its tick, whatever is reported, empty, withdrawn or lent: claims and cores are the same.
use mathlib.Core.Bool.{◌&&◌, Bool}
use mathlib.Core.List.{List, [], ◌∷◌}
use mathlib.Core.Logic.{inl, inr}
use mathlib.Core.Path.{ap, refl, subst, sym, ◌∙◌, ◌≡◌}
use Prim.Native.Nat.{◌<◌, suc, ℕ}
use native.Mathlib.Nat.{suc_inj, suc-ne-zero}
use native.Mathlib.Omega.{arith}
use lib.ListN.{length, length-map, length-replicate, replicate}
use Rattle.model.proofs.Grants.{claimants-same}
use Rattle.model.proofs.Jobs.{Reserving, idle-claims, start-claimed, step-claimed}
use Rattle.model.proofs.Runs.{BookBounds, Move, book-run, book-tick, full-claimed, full-had, full-run, bounds-emptied, bounds-start, bounds-step}
use Rattle.model.proofs.Runs.{lines, moved, moves_of, run, still_move}
use Rattle.model.specs.Jobs.{Book, emptied, empty_book, released_now}
use Rattle.model.specs.Claims.{borrowing, job_claims, served, task_claims, widths}
use Rattle.model.specs.Advance.{step, Entry}
use Rattle.model.specs.Lists.{book, full}
use Rattle.model.specs.Compare.{Behind, NoneBehind}
use Rattle.model.specs.Grants.{claimants}
use Rattle.model.specs.Task.{AllValid, Table, newest, task}

pub record SameClaims (s : Table) (a b : Book) : Type 0 where
  pub same-tick : a.tick ≡ b.tick
  pub bounds-a : BookBounds s a
  pub bounds-b : BookBounds s b
  pub same-claimed : (p k : ℕ) → p < length s.tasks → (a.job p k).claimed ≡ (b.job p k).claimed

module _ (s : Table) (ok : AllValid s) (reserving : Reserving s.rule) where
  -- the claims, the cores that are given and so the jobs served are the same
  same-claims : (a b : Book) → SameClaims s a b → (p k : ℕ) → p < length s.tasks → job_claims s a p k ≡ job_claims s b p k
  same-claims a b ab p k l =
      rw ab.same-tick
      (idle-claims s.rule reserving (task s p) k b.tick (a.job p k) (b.job p k) (ab.bounds-a p k l) (ab.bounds-b p k l) (ab.same-claimed p k l))

  same-task-claims : (a b : Book) → SameClaims s a b → (p : ℕ) → p < length s.tasks → task_claims s a p ≡ task_claims s b p
  same-task-claims a b ab p l =
      same-claims a b ab p (newest (task s p) a.tick) l
      ∙ ap (λ (t : ℕ). job_claims s b p (newest (task s p) t)) ab.same-tick

  pub same-claimants : (a b : Book) → SameClaims s a b → claimants (widths s a.tick) (task_claims s a) ≡ claimants (widths s b.tick) (task_claims s b)
  same-claimants a b ab =
      claimants-same (widths s a.tick) (task_claims s a) (task_claims s b) (λ q h. same-task-claims a b ab q (rw length-map at h))
      ∙ ap (λ (t : ℕ). claimants (widths s t) (task_claims s b)) ab.same-tick

  pub same-served : (a b : Book) → SameClaims s a b → (p k : ℕ) → p < length s.tasks → served s a p k ≡ served s b p k
  unfolding served
  same-served a b ab p k l = rw (same-claims a b ab p k l, same-claimants a b ab)

  -- level books stay level, whatever is reported and lent ..
  pub same-claims-step : (f g : ℕ → Bool) (a b : Book) → SameClaims s a b → SameClaims s (step s f a) (step s g b)
  unfolding step
  same-claims-step f g a b ab = record {
    same-tick = ap suc ab.same-tick;
    bounds-a = bounds-step s ok f a ab.bounds-a;
    bounds-b = bounds-step s ok g b ab.bounds-b;
    same-claimed = λ p k l.
        step-claimed (task s p).length (f p) (served s a p k) (borrowing s a p k) (a.job p k).had (a.job p k).claimed (a.job p k).ended
        ∙ (rw (same-served a b ab p k l, ab.same-claimed p k l) refl
        ∙ sym (step-claimed (task s p).length (g p) (served s b p k) (borrowing s b p k) (b.job p k).had (b.job p k).claimed (b.job p k).ended));
  }

  -- .. or empty
  pub same-claims-emptied : (e g : ℕ → Bool) (a b : Book) → SameClaims s a b → SameClaims s (emptied s e a) (emptied s g b)
  unfolding emptied
  same-claims-emptied e g a b ab = record {
    same-tick = ab.same-tick;
    bounds-a = bounds-emptied s ok e a ab.bounds-a;
    bounds-b = bounds-emptied s ok g b ab.bounds-b;
    same-claimed = λ p k l.
        start-claimed (e p && released_now s a p k) (a.job p k)
        ∙ (ab.same-claimed p k l ∙ sym (start-claimed (g p && released_now s b p k) (b.job p k)));
  }

  same-claims-runs : (ms ns : List Move) → length ms ≡ length ns → (a b : Book) → SameClaims s a b → SameClaims s (run s a ms) (run s b ns)
  unfolding run
  same-claims-runs [] [] e a b ab = ab
  same-claims-runs [] (n ∷ ns) e a b ab = absurd (suc-ne-zero _ (sym e))
  same-claims-runs (m ∷ ms) [] e a b ab = absurd (suc-ne-zero _ e)
  same-claims-runs (m ∷ ms) (n ∷ ns) e a b ab =
      same-claims-runs ms ns (suc_inj e) (moved s m a) (moved s n b)
      (same-claims-step m.reports n.reports (emptied s m.empties a) (emptied s n.empties b) (same-claims-emptied m.empties n.empties a b ab))

  pub same-claims-start : SameClaims s empty_book empty_book
  same-claims-start = record { same-tick = refl; bounds-a = bounds-start s ok; bounds-b = bounds-start s ok; same-claimed = λ p k l. refl }

  same-claims-run : (ms : List Move) → SameClaims s (run s empty_book ms) (full s (length ms))
  same-claims-run ms =
      subst (SameClaims s (run s empty_book ms)) (full-run s (length ms))
      (same-claims-runs ms (replicate (length ms) still_move) (sym (length-replicate (length ms) still_move)) empty_book empty_book same-claims-start)

  -- THE THEOREM: every list, refused entries included, has the claims of the full-length run ..
  pub same-claims-full : (xs : List Entry) → SameClaims s (lines (book s xs)) (full s (book s xs).tick)
  same-claims-full xs =
      let ms : List Move = moves_of s xs in
      subst (λ (n : ℕ). SameClaims s (lines (book s xs)) (full s n)) (book-tick s xs)
      (subst (λ (b : Book). SameClaims s b (full s (length ms))) (sym (book-run s xs)) (same-claims-run ms))

  -- .. with the empty jobs of a row asked ended, too
  pub same-claims-asked : (xs : List Entry) (e : ℕ → Bool) → SameClaims s (emptied s e (book s xs)) (full s (book s xs).tick)
  unfolding emptied
  same-claims-asked xs e = let ab = same-claims-full xs in record {
    same-tick = ab.same-tick;
    bounds-a = bounds-emptied s ok e (book s xs) ab.bounds-a;
    bounds-b = ab.bounds-b;
    same-claimed = λ p k l. start-claimed (e p && released_now s (book s xs) p k) ((book s xs).job p k) ∙ ab.same-claimed p k l;
  }

  -- so no list is behind the full-length run: what that has had it has claimed, and a job that has not ended has had what it has claimed
  pub same-claims-near : (xs : List Entry) → NoneBehind s (book s xs) (full s (book s xs).tick)
  same-claims-near xs p k l = near
    where
      ab : SameClaims s (lines (book s xs)) (full s (book s xs).tick)
      ab = same-claims-full xs

      near : ¬ Behind ((book s xs).job p k) ((full s (book s xs).tick).job p k)
      near (o, inl e) =
          omega (arith, (ab.bounds-a p k l).short o, (ab.bounds-a p k l).claimed-had o, ab.same-claimed p k l, full-claimed s (book s xs).tick p k e)
      near (o, inr h) = omega (arith, h.1, (ab.bounds-a p k l).claimed-had o, ab.same-claimed p k l, full-had s (book s xs).tick p k)
