-- THEOREM (longer-misses): under rule 2, and under rule 1 in the width order, a table that never misses with longer lengths never misses with shorter ones.
-- The run with shorter lengths stays ahead: a task that runs in the longer run, and has not ended in the shorter one, runs there too.
use mathlib.Core.Bool.{Bool, false, false≢true, not, true, true≢false}
use mathlib.Core.List.{List, []}
use mathlib.Core.Logic.{inl, inr}
use mathlib.Core.Path.{ap, ap₂, refl, subst, subst₂, sym, ◌∙◌, ◌≡◌}
use Prim.Native.Nat.{◌<◌, suc, zero, ℕ, ◌≤◌}
use native.Mathlib.Omega.{arith}
use lib.ListN.{get_or, length, length-map}
use lib.Seq.{ext_get_or}
use borrow.Author.Tests.{leb-false, lt-leb, not-true}
use Rattle.model.proofs.Bools.{and_both, and_left, and_right, or-left-true}
use Rattle.model.proofs.Jobs.{Releasing, after-release, before-due, claims-if, mk, newest-is, next, still}
use Rattle.model.proofs.Lists.{map_at}
use Rattle.model.proofs.Runs.{full-next, full-tick, missed-at}
use Rattle.model.proofs.Sustain.{GrantsMono, mono-greedy, mono-limited, monotonic-widths}
use Rattle.model.specs.Jobs.{Job}
use Rattle.model.specs.Claims.{claims, holds, in_row, job_claims, served, task_claims, widths}
use Rattle.model.specs.Advance.{work}
use Rattle.model.specs.Lists.{NeverMissed, full}
use Rattle.model.specs.Fence.{unfenced_cores, unfenced}
use Rattle.model.specs.Grants.{claimants, grants, some}
use Rattle.model.specs.Task.{AllValid, Rule, Table, Task, due, newest, absent_task, release, task, width_of}
use Rattle.slack.specs.Longer.{TableLengthened, TaskLengthened}
use Rattle.slack.specs.Ordered.{Ordered}

-- what these rules have: fewer claims take no cores from a task that still claims, and a job that ended claims no more
pub record Yields (s : Table) : Type 0 where
  pub mono : (t : ℕ) → GrantsMono s.rule (widths s t)
  pub lets : Releasing s.rule

pub yields : (s : Table) → Ordered s → Yields s
yields s (inl e) = record {
  mono = λ t. subst (λ r. GrantsMono r (widths s t)) (sym e) (mono-limited (widths s t));
  lets = subst Releasing (sym e) (λ τ j. refl);
}
yields s (inr (e, h)) = record {
  mono = λ t. subst (λ r. GrantsMono r (widths s t)) (sym e) (mono-greedy (widths s t) (monotonic-widths s h t));
  lets = subst Releasing (sym e) (λ τ j. refl);
}

-- a stretched task has the same releases, deadlines and widths
same-release : {τ τ' : Task} → TaskLengthened τ τ' → (k : ℕ) → release τ k ≡ release τ' k
same-release x k = rw (x.offset, x.period)

same-due : {τ τ' : Task} → TaskLengthened τ τ' → (k : ℕ) → due τ k ≡ due τ' k
same-due x k = rw (x.offset, x.period, x.deadline)

same-newest : {τ τ' : Task} → TaskLengthened τ τ' → (t : ℕ) → newest τ t ≡ newest τ' t
same-newest x t = rw (x.offset, x.period)

same_width : {τ τ' : Task} → TaskLengthened τ τ' → (t : ℕ) → width_of τ (newest τ t) ≡ width_of τ' (newest τ' t)
same_width x t = rw (x.offset, x.period, x.odd_width, x.even_width)

-- a job's line in the shorter run beside its line in the longer one: while the first has not ended neither has the second, which has had no more ticks
pub record LongerBehind (a b : Job) : Type 0 where
  pub opened : a.ended ≡ false → b.ended ≡ false
  pub more : a.ended ≡ false → b.had ≤ a.had

-- a tick keeps that, where the first runs if the second does
longer-behind-next :
    (C C' : ℕ) → C ≤ C' → (u v : Bool) (h c : ℕ) (e : Bool) (h' c' : ℕ) (e' : Bool)
    → LongerBehind (mk h c e) (mk h' c' e') → (e ≡ false → v ≡ true → u ≡ true)
    → LongerBehind (next C false u (mk h c e)) (next C' false v (mk h' c' e'))
unfolding work
longer-behind-next C C' le true v h c true h' c' e' x r = record { opened = λ o. absurd (true≢false o); more = λ o. absurd (true≢false o) }
longer-behind-next C C' le false v h c true h' c' e' x r = record { opened = λ o. absurd (true≢false o); more = λ o. absurd (true≢false o) }
longer-behind-next C C' le true v h c false h' c' true x r = absurd (true≢false (x.opened refl))
longer-behind-next C C' le false v h c false h' c' true x r = absurd (true≢false (x.opened refl))
longer-behind-next C C' le true true h c false h' c' false x r = record {
  opened = λ o. lt-leb C' (suc h') (omega (arith, leb-false C (suc h) o, x.more refl));
  more = λ o. omega (arith, x.more refl);
}
longer-behind-next C C' le true false h c false h' c' false x r = record { opened = λ o. refl; more = λ o. omega (arith, x.more refl) }
longer-behind-next C C' le false true h c false h' c' false x r = absurd (false≢true (r refl refl))
longer-behind-next C C' le false false h c false h' c' false x r = x

-- a job of the shorter run that claims, claims in the longer run
claims-both :
    (r r' : Rule) {τ τ' : Task} → TaskLengthened τ τ' → Releasing r → (k t : ℕ) (a b : Job) → LongerBehind a b
    → claims r τ k t a ≡ true → claims r' τ' k t b ≡ true
claims-both r r' {τ} {τ'} x q k t a b ab e =
    let o : a.ended ≡ false = not-true a.ended (or-left-true (not a.ended) (holds r τ a) (still r τ k t a e) (q τ a)) in
    claims-if r' τ' k t b
    (subst (λ (n : ℕ). n ≤ t) (same-release x k) (after-release r τ k t a e))
    (subst (λ (n : ℕ). t < n) (same-due x k) (before-due r τ k t a e))
    (rw (ab.opened o))

-- and one of the longer run that has not ended in the shorter one claims there
claims-back :
    (r r' : Rule) {τ τ' : Task} → TaskLengthened τ τ' → (k t : ℕ) (a b : Job) → a.ended ≡ false
    → claims r' τ' k t b ≡ true → claims r τ k t a ≡ true
claims-back r r' {τ} {τ'} x k t a b o e =
    claims-if r τ k t a
    (subst (λ (n : ℕ). n ≤ t) (sym (same-release x k)) (after-release r' τ' k t b e))
    (subst (λ (n : ℕ). t < n) (sym (same-due x k)) (before-due r' τ' k t b e))
    (rw o)

-- the same widths in every tick, and the same cores
same-widths : (s s' : Table) → TableLengthened s s' → (t : ℕ) → widths s t ≡ widths s' t
same-widths s s' x t =
    let w : Task → ℕ = λ τ. width_of τ (newest τ t) in
    ext_get_or 0 (widths s t) (widths s' t) (length-map s.tasks w ∙ (x.count ∙ sym (length-map s'.tasks w)))
    (λ i l.
    let m : i < length s.tasks = omega (arith, length-map s.tasks w) in
    map_at w s.tasks i 0 absent_task m ∙ (same_width (x.places i) t ∙ sym (map_at w s'.tasks i 0 absent_task (omega (arith, x.count)))))

same-cores : (s s' : Table) → TableLengthened s s' → unfenced_cores s ≡ unfenced_cores s'
same-cores s s' x = ap₂ unfenced x.fences x.cores

-- so the same row for the same claims
same_row :
    (r r' : Rule) (ws ws' cs cs' : List ℕ) (c : ℕ → Bool) (p : ℕ) → r ≡ r' → ws ≡ ws' → cs ≡ cs'
    → some (get_or (grants r' (claimants ws' c) cs') p []) ≡ true → some (get_or (grants r (claimants ws c) cs) p []) ≡ true
same_row r r' ws ws' cs cs' c p a b d e = rw (a, b, d) e

module _ (s s' : Table) (ok : AllValid s) (x : TableLengthened s s') (y : Yields s) where
  abbrev Leads : ℕ → Type 0
  Leads n = (p k : ℕ) → p < length s.tasks → LongerBehind ((full s n).job p k) ((full s' n).job p k)

  -- a place that claims in the shorter run claims in the longer one
  subset : (n : ℕ) → Leads n → (q : ℕ) → q < length (widths s (full s n).tick) → task_claims s (full s n) q ≡ true → task_claims s' (full s' n) q ≡ true
  subset n ab q l e =
      let k : ℕ = newest (task s q) n in
      let here : claims s.rule (task s q) k n ((full s n).job q k) ≡ true = rw (full-tick s n) at e in
      let there : claims s'.rule (task s' q) k n ((full s' n).job q k) ≡ true =
      claims-both s.rule s'.rule (x.places q) y.lets k n ((full s n).job q k) ((full s' n).job q k) (ab q k (rw length-map at l)) here in
      rw (full-tick s' n) (subst (λ (m : ℕ). claims s'.rule (task s' q) m n ((full s' n).job q m) ≡ true) (same-newest (x.places q) n) there)

  -- so a place that runs there, and has not ended here, runs here
  follow :
      (n : ℕ) → Leads n → (p k : ℕ) → p < length s.tasks → ((full s n).job p k).ended ≡ false
      → served s' (full s' n) p k ≡ true → served s (full s n) p k ≡ true
  unfolding served
  follow n ab p k l o e =
      and_both (job_claims s (full s n) p k) (in_row s (full s n) p) ca
      (y.mono (full s n).tick (task_claims s (full s n)) (task_claims s' (full s' n)) (unfenced_cores s) (subset n ab) p
      (subst (λ (m : ℕ). job_claims s (full s n) p m ≡ true) (sym new) ca) rb)
    where
      cb : claims s'.rule (task s' p) k n ((full s' n).job p k) ≡ true
      cb = rw (full-tick s' n) at (and_left (job_claims s' (full s' n) p k) (in_row s' (full s' n) p) e)

      -- the longer run's row, by the widths, the cores and the rule of the shorter
      rb : some (get_or (grants s.rule (claimants (widths s (full s n).tick) (task_claims s' (full s' n))) (unfenced_cores s)) p []) ≡ true
      rb =
          same_row s.rule s'.rule (widths s (full s n).tick) (widths s' (full s' n).tick) (unfenced_cores s) (unfenced_cores s') (task_claims s' (full s' n)) p
          x.rules (ap (widths s) (full-tick s n) ∙ (same-widths s s' x n ∙ sym (ap (widths s') (full-tick s' n)))) (same-cores s s' x)
          (and_right (job_claims s' (full s' n) p k) (in_row s' (full s' n) p) e)

      ca₀ : claims s.rule (task s p) k n ((full s n).job p k) ≡ true
      ca₀ = claims-back s.rule s'.rule (x.places p) k n ((full s n).job p k) ((full s' n).job p k) o cb

      ca : job_claims s (full s n) p k ≡ true
      ca = rw (full-tick s n) ca₀

      new : newest (task s p) (full s n).tick ≡ k
      new = rw (full-tick s n)
          (newest-is (task s p) k n (ok p l).constrained
          (after-release s.rule (task s p) k n ((full s n).job p k) ca₀)
          (before-due s.rule (task s p) k n ((full s n).job p k) ca₀))

  -- by induction on the tick
  leads : (n : ℕ) → Leads n
  leads zero p k l = unfold full in record { opened = λ o. refl; more = λ o. omega arith }
  leads (suc n) p k l =
      subst₂ LongerBehind (sym (full-next s n p k)) (sym (full-next s' n p k))
      (longer-behind-next (task s p).length (task s' p).length (x.places p).longer (served s (full s n) p k) (served s' (full s' n) p k)
      ((full s n).job p k).had ((full s n).job p k).claimed ((full s n).job p k).ended
      ((full s' n).job p k).had ((full s' n).job p k).claimed ((full s' n).job p k).ended
      (leads n p k l) (follow n (leads n) p k l))

-- THE THEOREM
pub longer-misses : (s s' : Table) → AllValid s → Ordered s → TableLengthened s s' → NeverMissed s' → NeverMissed s
longer-misses s s' ok o x nm p t (l, (k, e, open-here)) =
    nm p t
    (missed-at s' p t k (subst (λ (n : ℕ). p < n) x.count l) (sym (same-due (x.places p) k) ∙ (e ∙ full-tick s t))
    ((leads s s' ok x (yields s o) t p k l).opened open-here))
