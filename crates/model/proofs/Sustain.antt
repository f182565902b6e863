-- Sustainability: under a firm rule that lends nothing, of two runs at one tick of which the first has no longer job, the first is behind on none:
-- a task that runs in the longer run and still claims in the shorter one runs there too. Under every firm rule no list is behind the full-length run.
use mathlib.Core.Bool.{◌&&◌, Bool, and-false, cond, false, false≢true, true, true≢false}
use mathlib.Core.List.{List, [], ◌∷◌}
use mathlib.Core.Logic.{inl, inr}
use mathlib.Core.Path.{ap, refl, subst, subst₂, sym, ◌∙◌, ◌≡◌}
use Prim.Native.Nat.{◌%◌, ◌<◌, suc, ℕ, ◌≤◌}
use native.Mathlib.Nat.{le_of_eq, le_trans, suc_inj, suc-ne-zero}
use native.Mathlib.Omega.{arith}
use lib.Dec.{eqb}
use lib.ListN.{get_or, length, length-map, length-replicate, replicate}
use borrow.Author.Tests.{eqb-true}
use Rattle.model.proofs.Bools.{and_both, and_left, and_right}
use Rattle.std.proofs.lemmas.Bool.{true_from_ne_false}
use Rattle.model.proofs.Compare.{none-longer}
use Rattle.model.proofs.Grants.{MonotonicList, greedy-limited, limited-mono}
use Rattle.model.proofs.Jobs.{Releasing, Reserving, sustained-line, after-release, before-due, claims-less, claims-open, fresh-not-behind, longer-left}
use Rattle.model.proofs.Jobs.{longer-right, newest-is, next, start}
use Rattle.model.proofs.Lending.{not-borrowing, offer-none}
use Rattle.model.proofs.SameClaims.{SameClaims, same-claims-emptied, same-claims-near, same-claims-start, same-claims-step, same-served}
use Rattle.model.proofs.Lists.{map_at}
use Rattle.model.proofs.Runs.{Early, BookBounds, Move, book-run, book-tick, early-moved, early-start, full-run, full-whole, bounds-emptied, bounds-run}
use Rattle.model.proofs.Runs.{bounds-start, bounds-step, lines, moved, moves_of, run, still_move}
use Rattle.model.specs.Jobs.{Book, Job, emptied, empty_book, fresh, released_now}
use Rattle.model.specs.Claims.{borrowing, claims, in_row, job_claims, served}
use Rattle.model.specs.Advance.{step, Entry}
use Rattle.model.specs.Lists.{book, full}
use Rattle.model.specs.Claims.{task_claims, widths}
use Rattle.model.specs.Compare.{Behind, Longer, NoneBehind, NoneLonger}
use Rattle.model.specs.Fence.{unfenced_cores}
use Rattle.model.specs.Grants.{claimants, grants, some}
use Rattle.model.specs.Lending.{lends}
use Rattle.model.specs.Task.{AllValid, Rule, Table, Task, greedy, idling, lending, limited, narrowest, newest, absent_task, release, task, widest, width_of}
use Rattle.model.specs.Firm.{FirmRule, ParallelismMonotonic}

-- fewer claims take no cores from a task that still claims
abbrev pub GrantsMono : Rule → List ℕ → Type 0
GrantsMono r ws =
    (c d : ℕ → Bool) (F : List ℕ) → ((q : ℕ) → q < length ws → c q ≡ true → d q ≡ true)
    → (p : ℕ) → c p ≡ true
    → some (get_or (grants r (claimants ws d) F) p []) ≡ true → some (get_or (grants r (claimants ws c) F) p []) ≡ true

pub mono-limited : (ws : List ℕ) → GrantsMono limited ws
mono-limited ws c d F cd p cp e = limited-mono ws c d F F cd (omega arith) p cp e

pub mono-greedy : (ws : List ℕ) → MonotonicList ws → GrantsMono greedy ws
mono-greedy ws h c d F cd p cp e =
    rw (greedy-limited ws c F h) (mono-limited ws c d F cd p cp (rw (greedy-limited ws d F h) at e))

-- a job's width lies between its task's
between : (τ : Task) (k : ℕ) → (narrowest τ ≤ width_of τ k) × (width_of τ k ≤ widest τ)
between τ k = go (eqb (k % 2) 0)
  where
    go : (t : Bool) → (narrowest τ ≤ cond t τ.odd_width τ.even_width) × (cond t τ.odd_width τ.even_width ≤ widest τ)
    go true = (omega arith, omega arith)
    go false = (omega arith, omega arith)

-- widths that never fall along the tasks never fall in the list of any tick's widths
pub monotonic-widths : (s : Table) → ParallelismMonotonic s.tasks → (t : ℕ) → MonotonicList (widths s t)
monotonic-widths s h t p l =
    let l' : suc p < length s.tasks = rw length-map at l in
    let w : Task → ℕ = λ τ. width_of τ (newest τ t) in
    rw (map_at w s.tasks p 0 absent_task (omega arith), map_at w s.tasks (suc p) 0 absent_task l')
    (le_trans (between (task s p) (newest (task s p) t)).1 (le_trans (h p l') (between (task s (suc p)) (newest (task s (suc p)) t)).0))

-- what the firm rules have
pub data Kind (s : Table) : Type 0 where
  releasing : ((t : ℕ) → GrantsMono s.rule (widths s t)) → Releasing s.rule → Kind s
  holding : Reserving s.rule → Kind s

kind : (s : Table) → FirmRule s → Kind s
kind s (inl e) = releasing (λ t. subst (λ r. GrantsMono r (widths s t)) (sym e) (mono-limited (widths s t))) (subst Releasing (sym e) (λ τ j. refl))
kind s (inr (inl e)) = holding (subst Reserving (sym e) (λ τ j. refl))
kind s (inr (inr (inl e))) = holding (subst Reserving (sym e) (λ τ j. refl))
kind s (inr (inr (inr (e, h)))) =
    releasing (λ t. subst (λ r. GrantsMono r (widths s t)) (sym e) (mono-greedy (widths s t) (monotonic-widths s h t))) (subst Releasing (sym e) (λ τ j. refl))

-- a rule under which a job that ended claims no more lends nothing
releasing-lends : (r : Rule) → Releasing r → lends r ≡ false
releasing-lends greedy h = refl
releasing-lends limited h = refl
releasing-lends idling h = refl
releasing-lends lending h = absurd (true≢false (h (record { offset = 0; odd_width = 1; length = 1; deadline = 1; period = 1; even_width = 1 }) fresh))

-- two books at one tick, of which the first is behind on no job; where ended jobs still claim they are level
pub record SustainedBy (s : Table) (a b : Book) : Type 0 where
  pub same-tick : a.tick ≡ b.tick
  pub near : NoneBehind s a b
  pub bounds-a : BookBounds s a
  pub bounds-b : BookBounds s b
  pub same-claims : Reserving s.rule → SameClaims s a b

module _ (s : Table) where
  at-release : (b : Book) (p k : ℕ) → released_now s b p k ≡ true → b.tick ≤ release (task s p) k
  at-release b p k q = le_of_eq (sym (eqb-true (release (task s p) k) b.tick q))

  same-moved : (m n : Move) (a b : Book) → a.tick ≡ b.tick → (moved s m a).tick ≡ (moved s n b).tick
  unfolding step emptied
  same-moved m n a b e = ap suc e

module _ (s : Table) (ok : AllValid s) (keeps : lends s.rule ≡ false) where
  -- no place borrows
  none-borrows : (b : Book) (p k : ℕ) → borrowing s b p k ≡ false
  none-borrows b = not-borrowing s b (offer-none s b keeps)

  -- a job in the second book's row that has not ended in the first is in the first book's row
  follow-releasing :
      (a b : Book) → SustainedBy s a b → ((t : ℕ) → GrantsMono s.rule (widths s t)) → Releasing s.rule
      → (p k : ℕ) → p < length s.tasks → (a.job p k).ended ≡ false → served s b p k ≡ true → served s a p k ≡ true
  unfolding served
  follow-releasing a b ab mono let' p k l o e =
      let cb : job_claims s b p k ≡ true = and_left (job_claims s b p k) (in_row s b p) e in
      let rb : in_row s b p ≡ true = and_right (job_claims s b p k) (in_row s b p) e in
      let ca : claims s.rule (task s p) k b.tick (a.job p k) ≡ true = claims-open s.rule (task s p) k b.tick (a.job p k) (b.job p k) cb o in
      let ca' : job_claims s a p k ≡ true = rw ab.same-tick ca in
      let nk : newest (task s p) a.tick ≡ k =
      newest-is (task s p) k a.tick (ok p l).constrained
      (after-release s.rule (task s p) k a.tick (a.job p k) ca')
      (before-due s.rule (task s p) k a.tick (a.job p k) ca') in
      and_both (job_claims s a p k) (in_row s a p) ca'
      (subst (λ (t : ℕ). some (get_or (grants s.rule (claimants (widths s t) (task_claims s a)) (unfenced_cores s)) p []) ≡ true) (sym ab.same-tick)
      (mono b.tick (task_claims s a) (task_claims s b) (unfenced_cores s) subset p
      (subst (λ (m : ℕ). job_claims s a p m ≡ true) (sym nk) ca') rb))
    where
      subset : (q : ℕ) → q < length (widths s b.tick) → task_claims s a q ≡ true → task_claims s b q ≡ true
      subset q h c =
          claims-less s.rule (task s q) (newest (task s q) b.tick) b.tick
          (a.job q (newest (task s q) b.tick)) (b.job q (newest (task s q) b.tick)) let' (ab.near q (newest (task s q) b.tick) (rw length-map at h))
          (subst (λ (t : ℕ). claims s.rule (task s q) (newest (task s q) t) t (a.job q (newest (task s q) t)) ≡ true) ab.same-tick c)

  follow :
      Kind s → (a b : Book) → SustainedBy s a b
      → (p k : ℕ) → p < length s.tasks → (a.job p k).ended ≡ false → served s b p k ≡ true → served s a p k ≡ true
  follow (releasing mono let') a b ab p k l o h = follow-releasing a b ab mono let' p k l o h
  follow (holding e) a b ab p k l o h = same-served s ok e a b (ab.same-claims e) p k l ∙ h

  -- the step of the proof
  sustained-step :
      Kind s → (f g : ℕ → Bool) (a b : Book) → SustainedBy s a b → NoneLonger s (step s f a) (step s g b)
      → SustainedBy s (step s f a) (step s g b)
  unfolding step
  sustained-step kd f g a b ab nl = record {
    same-tick = ap suc ab.same-tick;
    near = λ p k l.
        rw (none-borrows a p k, none-borrows b p k)
        (sustained-line (task s p).length (f p) (g p) (served s a p k) (served s b p k)
        (a.job p k).had (a.job p k).claimed (a.job p k).ended (b.job p k).had (b.job p k).claimed (b.job p k).ended
        (ab.near p k l) (follow kd a b ab p k l) (rw (none-borrows a p k, none-borrows b p k) at (nl p k l)));
    bounds-a = bounds-step s ok f a ab.bounds-a;
    bounds-b = bounds-step s ok g b ab.bounds-b;
    same-claims = λ e. unfold step in same-claims-step s ok e f g a b (ab.same-claims e);
  }

  -- EMPTY JOBS: where one is released both are fresh, and no other job changes
  sustained-emptied :
      (e g : ℕ → Bool) (a b : Book) → Early s a → Early s b → SustainedBy s a b → NoneLonger s (emptied s e a) (emptied s g b)
      → SustainedBy s (emptied s e a) (emptied s g b)
  unfolding emptied
  sustained-emptied e g a b ea eb ab nl = record {
    same-tick = ab.same-tick;
    near = λ p k l. by-now p k l (released_now s a p k) refl (nl p k l);
    bounds-a = bounds-emptied s ok e a ab.bounds-a;
    bounds-b = bounds-emptied s ok g b ab.bounds-b;
    same-claims = λ i. unfold emptied in same-claims-emptied s ok i e g a b (ab.same-claims i);
  }
    where
      by-now : (p k : ℕ) → p < length s.tasks → (t : Bool) → released_now s a p k ≡ t
          → ¬ Longer (start (e p && released_now s a p k) (a.job p k)) (start (g p && released_now s b p k) (b.job p k))
          → ¬ Behind (start (e p && released_now s a p k) (a.job p k)) (start (g p && released_now s b p k) (b.job p k))
      by-now p k l true q =
          rw (ea p k (at-release s a p k q), eb p k (at-release s b p k (rw ab.same-tick at q)))
          (fresh-not-behind (e p && released_now s a p k) (g p && released_now s b p k))
      by-now p k l false q =
          let q' : released_now s b p k ≡ false = rw ab.same-tick at q in
          rw (q, q', and-false (e p), and-false (g p)) (λ nl'. ab.near p k l)

  longer-emptied :
      (e g : ℕ → Bool) (a b : Book) → Early s b → a.tick ≡ b.tick
      → (p k : ℕ) → Longer (a.job p k) (b.job p k) → Longer ((emptied s e a).job p k) ((emptied s g b).job p k)
  unfolding emptied
  longer-emptied e g a b eb st p k h = by-now (released_now s b p k) refl
    where
      by-now : (t : Bool) → released_now s b p k ≡ t
          → Longer (start (e p && released_now s a p k) (a.job p k)) (start (g p && released_now s b p k) (b.job p k))
      by-now true q = absurd (false≢true (sym (ap (λ (j : Job). j.ended) (eb p k (at-release s b p k q))) ∙ h.0))
      by-now false q =
          let q' : released_now s a p k ≡ false = rw (← st) at q in
          rw (q, q', and-false (e p), and-false (g p)) h

  -- a job once longer stays longer, where both books go on
  longer-moved :
      (m n : Move) (a b : Book) (p k : ℕ)
      → Longer ((emptied s m.empties a).job p k) ((emptied s n.empties b).job p k) → Longer ((moved s m a).job p k) ((moved s n b).job p k)
  unfolding step
  longer-moved m n a b p k h =
      let a' = emptied s m.empties a in
      let b' = emptied s n.empties b in
      rw (none-borrows a' p k, none-borrows b' p k)
      (longer-left (task s p).length (m.reports p) (served s a' p k) (a'.job p k).had (a'.job p k).claimed (a'.job p k).ended
      (next (task s p).length (n.reports p) (served s b' p k) (b'.job p k))
      (longer-right (task s p).length (n.reports p) (served s b' p k) (a'.job p k) (b'.job p k).had (b'.job p k).claimed (b'.job p k).ended h))

  longer-run :
      (ms ns : List Move) → length ms ≡ length ns → (a b : Book) → Early s b → a.tick ≡ b.tick → (p k : ℕ)
      → Longer (a.job p k) (b.job p k) → Longer ((run s a ms).job p k) ((run s b ns).job p k)
  unfolding run
  longer-run [] [] e a b eb st p k h = h
  longer-run [] (n ∷ ns) e a b eb st p k h = absurd (suc-ne-zero _ (sym e))
  longer-run (m ∷ ms) [] e a b eb st p k h = absurd (suc-ne-zero _ e)
  longer-run (m ∷ ms) (n ∷ ns) e a b eb st p k h =
      longer-run ms ns (suc_inj e) (moved s m a) (moved s n b) (early-moved s n b eb) (same-moved s m n a b st) p k
      (longer-moved m n a b p k (longer-emptied m.empties n.empties a b eb st p k h))

  -- two lists of advances that are all entered
  two_runs :
      Kind s → (ms ns : List Move) → length ms ≡ length ns → (a b : Book) → Early s a → Early s b → SustainedBy s a b
      → NoneLonger s (run s a ms) (run s b ns) → SustainedBy s (run s a ms) (run s b ns)
  unfolding run
  two_runs kd [] [] e a b ea eb ab nl = ab
  two_runs kd [] (n ∷ ns) e a b ea eb ab nl = absurd (suc-ne-zero _ (sym e))
  two_runs kd (m ∷ ms) [] e a b ea eb ab nl = absurd (suc-ne-zero _ e)
  two_runs kd (m ∷ ms) (n ∷ ns) e a b ea eb ab nl =
      let eb' = early-moved s n b eb in
      let later : NoneLonger s (moved s m a) (moved s n b) =
      λ p k l h. nl p k l (longer-run ms ns (suc_inj e) (moved s m a) (moved s n b) eb' (same-moved s m n a b ab.same-tick) p k h) in
      let now : NoneLonger s (emptied s m.empties a) (emptied s n.empties b) = λ p k l h. later p k l (longer-moved m n a b p k h) in
      two_runs kd ms ns (suc_inj e) (moved s m a) (moved s n b) (early-moved s m a ea) eb'
      (sustained-step kd m.reports n.reports (emptied s m.empties a) (emptied s n.empties b)
      (sustained-emptied m.empties n.empties a b ea eb ab now) later)
      nl

  start-sustained : SustainedBy s empty_book empty_book
  start-sustained = record {
    same-tick = refl;
    near = λ p k l x. never x;
    bounds-a = bounds-start s ok;
    bounds-b = bounds-start s ok;
    same-claims = λ e. same-claims-start s ok e;
  }
    where
      never : ¬ Behind fresh fresh
      never (o, inl d) = false≢true d
      never (o, inr d) = omega arith

module _ (s : Table) (ok : AllValid s) (keeps : lends s.rule ≡ false) where
  -- no job of a run is longer than at full length, so a run goes abreast of the full-length run
  sustained-run : Kind s → (ms : List Move) → SustainedBy s (run s empty_book ms) (full s (length ms))
  sustained-run kd ms =
      let still : List Move = replicate (length ms) still_move in
      subst (λ (b : Book). NoneLonger s (run s empty_book ms) b → SustainedBy s (run s empty_book ms) b) (full-run s (length ms))
      (two_runs s ok keeps kd ms still (sym (length-replicate (length ms) still_move)) empty_book empty_book
      (early-start s) (early-start s) (start-sustained s ok keeps))
      (none-longer s (run s empty_book ms) (full s (length ms)) (bounds-run s ok ms empty_book (bounds-start s ok)) (full-whole s (length ms)))

  -- THE SAME OF LISTS, refused entries included
  module _ (firmly : FirmRule s) where
    -- two lists that have come to the same tick
    pub sustained-lists :
        (xs ys : List Entry) → (book s xs).tick ≡ (book s ys).tick
        → NoneLonger s (book s xs) (book s ys) → SustainedBy s (lines (book s xs)) (lines (book s ys))
    sustained-lists xs ys e =
        let ms : List Move = moves_of s xs in
        let ns : List Move = moves_of s ys in
        subst₂ (λ (a b : Book). NoneLonger s a b → SustainedBy s a b) (sym (book-run s xs)) (sym (book-run s ys))
        (two_runs s ok keeps (kind s firmly) ms ns (book-tick s xs ∙ (e ∙ sym (book-tick s ys))) empty_book empty_book
        (early-start s) (early-start s) (start-sustained s ok keeps))

    -- a list and the full-length run: the list is behind it on no job
    pub sustained-full : (xs : List Entry) → SustainedBy s (lines (book s xs)) (full s (book s xs).tick)
    sustained-full xs =
        let ms : List Move = moves_of s xs in
        subst (λ (n : ℕ). SustainedBy s (lines (book s xs)) (full s n)) (book-tick s xs)
        (subst (λ (b : Book). SustainedBy s b (full s (length ms))) (sym (book-run s xs)) (sustained-run (kind s firmly) ms))

-- UNDER EVERY FIRM RULE
module _ (s : Table) (ok : AllValid s) (firmly : FirmRule s) where
  -- a list is behind the full-length run on no job: where ended jobs still claim, since it has the claims of it
  pub none-behind : (xs : List Entry) → NoneBehind s (book s xs) (full s (book s xs).tick)
  none-behind xs = go (kind s firmly)
    where
      go : Kind s → NoneBehind s (book s xs) (full s (book s xs).tick)
      go (releasing mono let') = (sustained-full s ok (releasing-lends s.rule let') firmly xs).near
      go (holding r) = same-claims-near s ok r xs

  -- what the full-length run has finished is finished
  pub finished : (xs : List Entry) (p k : ℕ) → p < length s.tasks → ((full s (book s xs).tick).job p k).ended ≡ true → ((book s xs).job p k).ended ≡ true
  finished xs p k l e = true_from_ne_false ((book s xs).job p k).ended (λ o. none-behind xs p k l (o, inl e))
