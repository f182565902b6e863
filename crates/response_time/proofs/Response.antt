-- THE WORST-CASE RESPONSE TIME of each task: that of the jobs that have ended by the horizon, since a job due after the horizon runs as the one P before it.
use mathlib.Core.Bool.{Bool, cond, false, false≢true, true, true≢false}
use mathlib.Core.List.{List}
use mathlib.Core.Path.{ap, fun_ext, refl, subst, sym, ◌∙◌, ◌≡◌}
use Prim.Native.Nat.{◌*◌, ◌+◌, ◌<◌, suc, zero, ℕ, ◌≤◌}
use native.Mathlib.Nat.{le_dest, le_of_suc-le-suc, le_refl, le_trans, lt_of_mul-lt-mul_right, not-suc-le-zero}
use native.Mathlib.Omega.{arith}
use lib.Dec.{leb}
use lib.ListN.{length}
use borrow.Author.Tests.{leb-false, leb-true}
use Rattle.model.proofs.Faithful.{job-number}
use Rattle.std.proofs.lemmas.Bool.{true_from_ne_false}
use Rattle.model.proofs.Horizon.{factor, repeat-all}
use Rattle.model.proofs.Idling.{lending-idling, under}
use Rattle.model.proofs.Runs.{full-fresh, full-stays, missed-at}
use Rattle.model.proofs.Search.{any_of, least-any, least-lowest}
use Rattle.model.proofs.Starts.{Periods, S-last, S-release, hyperperiod-divides, hyperperiod-pos}
use Rattle.model.specs.Jobs.{Book, Job}
use Rattle.model.specs.Lists.{NeverMissed, full}
use Rattle.model.specs.Horizon.{S, horizon, hyperperiod}
use Rattle.model.specs.Search.{least}
use Rattle.model.specs.Task.{AllValid, Table, Task, due, idling, lending, release, task}
use Rattle.response_time.specs.Response.{WorstResponse, ended_after, greatest, worst_response, worst_response_by, response_time}
use Rattle.response_time.proofs.Greatest.{greatest-at, greatest-is}

-- what has ended stays ended
pub ended-later : (s : Table) (p k n m : ℕ) → n ≤ m → ((full s n).job p k).ended ≡ true → ((full s m).job p k).ended ≡ true
ended-later s p k n m l e = let d = le_dest l in subst (λ (x : ℕ). ((full s x).job p k).ended ≡ true) d.1 (full-stays s n d.0 p k e)

-- the job that job k of place p repeats: released P earlier, and not before S of the place
pub record Earlier (s : Table) (p k : ℕ) : Type 0 where
  pub before : ℕ
  pub periods : ℕ
  pub whole : hyperperiod s.tasks ≡ periods * (task s p).period
  pub from : S s.tasks p ≤ release (task s p) before
  pub number : before + periods ≡ k
  pub fewer : before < k
  pub apart : release (task s p) before + hyperperiod s.tasks ≡ release (task s p) k

-- every job that is due after the horizon repeats one
pub earlier : (s : Table) → AllValid s → (p k : ℕ) → p < length s.tasks → horizon s < due (task s p) k → Earlier s p k
unfolding horizon
earlier s ok p k l past =
    let τ : Task = task s p in
    let all : Periods s.tasks = λ q h. le_trans (ok q h).deadline-pos (ok q h).constrained in
    let mm = hyperperiod-divides s.tasks p all l in
    let m : ℕ = mm.0 in
    let aa = S-release s.tasks p in
    let far : (aa.0 + m) * τ.period < suc k * τ.period = omega (arith, aa.1, mm.1, (ok p l).constrained, S-last s.tasks p all l) in
    let d = le_dest (le_of_suc-le-suc (lt_of_mul-lt-mul_right τ.period far)) in
    let i : ℕ = aa.0 + d.0 in
    let some-m : 0 < m = factor m τ.period (omega (arith, mm.1, hyperperiod-pos s.tasks)) in
    let ik : i + m ≡ k = omega (arith, d.1) in
    record {
      before = i;
      periods = m;
      whole = mm.1;
      from = omega (arith, aa.1);
      number = ik;
      fewer = omega arith;
      apart = omega (arith, ap (λ (x : ℕ). x * τ.period) ik, mm.1);
    }

module _ (s : Table) (ok : AllValid s) (nm : NeverMissed s) (p : ℕ) (l : p < length s.tasks) where
  -- a job has ended when it is due
  met : (k : ℕ) → ((full s (due (task s p) k)).job p k).ended ≡ true
  met k =
      true_from_ne_false ((full s (due (task s p) k)).job p k).ended
      (λ o. nm p (due (task s p) k) (missed-at s p (due (task s p) k) k l refl o))

  -- the time of a job is that of its end
  pub time-ended : (k : ℕ) → ended_after s p k (response_time s p k) ≡ true
  unfolding response_time
  time-ended k =
      let f : ℕ → Bool = ended_after s p k in
      least-any (suc (task s p).deadline) f (any_of (suc (task s p).deadline) f (task s p).deadline (omega arith) (met k))

  pub time-first : (k z : ℕ) → z < response_time s p k → ended_after s p k z ≡ false
  unfolding response_time
  time-first k z h = least-lowest (suc (task s p).deadline) (ended_after s p k) z h

  -- the time of each job that has ended by the horizon, and 0 of the others
  abbrev counted : ℕ → ℕ
  counted i = cond ((full s (horizon s)).job p i).ended (response_time s p i) 0

  -- no job takes longer, by strong induction on the job
  bounded : (n k : ℕ) → k < n → ended_after s p k (worst_response s p) ≡ true
  bounded zero k h = absurd (not-suc-le-zero h)
  bounded (suc n) k h = go (leb (due (task s p) k) (horizon s)) refl (bounded n)
    where
      τ : Task
      τ = task s p

      go :
          (t : Bool) → leb (due τ k) (horizon s) ≡ t → ((i : ℕ) → i < n → ended_after s p i (worst_response s p) ≡ true)
          → ended_after s p k (worst_response s p) ≡ true
      go true q ih =
          let in-time : due τ k ≤ horizon s = leb-true (due τ k) (horizon s) q in
          let own : counted k ≡ response_time s p k = rw (ended-later s p k (due τ k) (horizon s) in-time (met k)) in
          let most : counted k ≤ worst_response s p =
          unfold worst_response_by in greatest-at (suc (horizon s)) counted k (job-number τ k (horizon s) (ok p l) in-time) in
          ended-later s p k (release τ k + response_time s p k) (release τ k + worst_response s p) (omega arith) (time-ended k)
      go false q ih =
          let x : Earlier s p k = earlier s ok p k l (leb-false (due τ k) (horizon s) q) in
          let e : ((full s (release τ x.before + worst_response s p + hyperperiod s.tasks)).job p (x.before + x.periods)).ended ≡ true =
          subst (λ (j : Job). j.ended ≡ true) (repeat-all s ok p l x.periods x.whole x.before x.from (worst_response s p))
          (ih x.before (omega (arith, x.fewer))) in
          let when : release τ x.before + worst_response s p + hyperperiod s.tasks ≡ release τ k + worst_response s p = omega (arith, x.apart) in
          subst (λ (j : ℕ). ((full s (release τ k + worst_response s p)).job p j).ended ≡ true) x.number
          (subst (λ (t : ℕ). ((full s t).job p (x.before + x.periods)).ended ≡ true) when e)

  -- some job takes just that long: if none did, none would take a tick
  abbrev Reached : Type 0
  Reached = (k : ℕ) × (ended_after s p k (worst_response s p) ≡ true) × ((z : ℕ) → z < worst_response s p → ended_after s p k z ≡ false)

  reaches : Reached
  reaches = go (unfold worst_response_by in greatest-is (horizon s) counted)
    where
      at : (k : ℕ) (t : Bool) → worst_response s p ≡ cond t (response_time s p k) 0 → Reached
      at k true e = (
        k,
        subst (λ (z : ℕ). ended_after s p k z ≡ true) (sym e) (time-ended k),
        λ z h. time-first k z (omega arith),
      )
      at k false e =
          let now : ended_after s p 0 0 ≡ true = subst (λ (z : ℕ). ended_after s p 0 z ≡ true) e (bounded 1 0 (omega arith)) in
          absurd (false≢true (sym (ap (λ (j : Job). j.ended) (full-fresh s (release (task s p) 0 + 0) p 0 (omega arith))) ∙ now))

      go : (i : ℕ) × (i < suc (horizon s)) × (worst_response s p ≡ counted i) → Reached
      go x = at x.0 ((full s (horizon s)).job p x.0).ended x.2

  -- THE THEOREM: the response time that the horizon shows holds over all ticks
  pub worst-response-exact : WorstResponse s p (worst_response s p)
  worst-response-exact = record {
    bound = λ k n h. ended-later s p k (release (task s p) k + worst_response s p) n h (bounded (suc k) k (omega arith));
    reached = reaches;
  }

-- of no other number
not-below : (s : Table) (p r r' : ℕ) → WorstResponse s p r → WorstResponse s p r' → ¬ (r < r')
not-below s p r r' x y h =
    let k : ℕ = y.reached.0 in
    true≢false (sym (x.bound k (release (task s p) k + r) (le_refl (release (task s p) k + r))) ∙ y.reached.2 r h)

pub worst-response-only : (s : Table) (p r r' : ℕ) → WorstResponse s p r → WorstResponse s p r' → r ≡ r'
worst-response-only s p r r' x y = omega (arith, not-below s p r r' x y, not-below s p r' r y x)

-- it is from 1 to D
pub worst-response-range :
    (s : Table) → AllValid s → NeverMissed s → (p : ℕ) → p < length s.tasks → (1 ≤ worst_response s p) × (worst_response s p ≤ (task s p).deadline)
worst-response-range s ok nm p l = (least-one (worst_response s p) refl, omega (arith, over))
  where
    x : WorstResponse s p (worst_response s p)
    x = worst-response-exact s ok nm p l

    least-one : (r : ℕ) → worst_response s p ≡ r → 1 ≤ r
    least-one zero e =
        absurd (false≢true (sym (ap (λ (j : Job). j.ended) (full-fresh s (release (task s p) 0) p 0 (omega arith)))
        ∙ x.bound 0 (release (task s p) 0) (omega arith)))
    least-one (suc r) e = omega arith

    over : ¬ ((task s p).deadline < worst_response s p)
    over h = true≢false (sym (met s ok nm p l x.reached.0) ∙ x.reached.2 (task s p).deadline h)

-- THE THEOREM (lending-worst-response): under rule 4 each response time is that of rule 3, since the full-length runs are equal
pub lending-worst-response : (τs : List Task) (m f p : ℕ) → worst_response (under lending τs m f) p ≡ worst_response (under idling τs m f) p
unfolding worst_response_by response_time horizon
lending-worst-response τs m f p = ap by-run (fun_ext (λ n. (lending-idling τs m f n).0))
  where
    i : Table
    i = under idling τs m f

    by-run : (ℕ → Book) → ℕ
    by-run b =
        greatest (suc (horizon i)) (λ k.
        cond ((b (horizon i)).job p k).ended (least (suc (task i p).deadline) (λ z. ((b (release (task i p) k + z)).job p k).ended)) 0)
