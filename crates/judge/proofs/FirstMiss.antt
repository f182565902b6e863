-- The first miss before a tick: what the search finds, and what the verdict makes of it.
use native.Mathlib.Omega.{arith}
use mathlib.Core.Path.{◌≡◌, refl, sym, ap, ◌∙◌}
use mathlib.Core.Bool.{Bool, true, false, cond}
use Prim.Native.Nat.{ℕ, suc, ◌<◌}
use lib.ListN.{length}
use Rattle.model.specs.Search.{any, least}
use Rattle.model.specs.Task.{Table, AllValid}
use Rattle.model.specs.Lists.{Missed}
use Rattle.model.specs.Horizon.{last_s, hyperperiod, horizon}
use Rattle.model.specs.Firm.{firm}
use Rattle.model.specs.Verdict.{FirstMiss, missed_at, missed_in, first_miss, verdict}
use Rattle.model.specs.Verdict as model
use Rattle.std.proofs.lemmas.Bool.{false_from_ne_true}
use Rattle.model.proofs.Search.{any_of, none_any, least-is}
use Rattle.model.proofs.Faithful.{missed-exact, missed-in-exact}
use Rattle.table.specs.declared.Loaded.{Loaded}
use Rattle.judge.specs.declared.Verdict.TheVariants.{Firm, Full}
use Rattle.judge.specs.FirstMiss as missed
use Rattle.judge.specs.FirstMiss.{Never, At}
use Rattle.judge.specs.JudgeAnswer.{judged, verdict_case}
use Rattle.table.specs.Fit.{loaded_table, Fit}
use Rattle.judge.specs.Judged.{accepted_of}
use Rattle.judge.specs.FirstMiss.{missed_before, no_miss, first_at, miss_meaning, MissedOf, by_miss}

module _ (s : Table) (ok : AllValid s) where
  -- a deadline missed before b is found
  pub found : (b p t : ℕ) → t < b → Missed s p t → any b (missed_in s) ≡ true
  found b p t l m = any_of b (missed_in s) t l ((missed-in-exact s ok t).1 (p, m))

  -- where it is not missed, the test is false
  met-in : (t : ℕ) → ((p : ℕ) → ¬ Missed s p t) → missed_in s t ≡ false
  met-in t met = false_from_ne_true (missed_in s t) (λ e. let x = (missed-in-exact s ok t).0 e in met x.0 x.1)

  -- where every deadline before b is met, none is found
  pub none-missed : (b : ℕ) → ((p t : ℕ) → t < b → ¬ Missed s p t) → any b (missed_in s) ≡ false
  none-missed b met = none_any b (missed_in s) (λ t l. met-in t (λ p. met p t l))

  -- WHAT IS FOUND

  is_none : (b : ℕ) → ((p t : ℕ) → t < b → ¬ Missed s p t) → Never ≡ missed_before s b
  unfolding missed_before
  is_none b met = rw (none-missed b met)

  is-first : (b t p : ℕ) → t < b → FirstMiss s t p → At t p ≡ missed_before s b
  unfolding missed_before
  is-first b t p h f =
      let q : ℕ = f.place.0 in
      let below : q < length s.tasks = f.missed.0 in
      let some : any b (missed_in s) ≡ true = found b q t h f.missed in
      let tick : least b (missed_in s) ≡ t =
      least-is b (missed_in s) t h ((missed-in-exact s ok t).1 (q, f.missed)) (λ u l. met-in u (λ x. f.no-earlier x u l)) in
      let place : least (length s.tasks) (missed_at s t) ≡ q =
      least-is (length s.tasks) (missed_at s t) q below ((missed-exact s ok t q below).1 f.missed)
      (λ x l. false_from_ne_true (missed_at s t x) (λ e. f.no-higher x l ((missed-exact s ok t x (omega arith)).0 e))) in
      rw (some, tick, place, f.place.1)

  -- what is found meets its contract
  determined :
      (b : ℕ) (m : missed.Missed) → m ≡ missed_before s b
      → ((t p : ℕ) → miss_meaning m ≡ first_at t p → FirstMiss s t p × (t < b)) → (miss_meaning m ≡ no_miss → (p t : ℕ) → t < b → ¬ Missed s p t)
      → MissedOf s b m
  determined b m e first none = record {
    value = e;
    first = λ t p. (first t p, λ x. ap miss_meaning (e ∙ sym (is-first b t p x.1 x.0)));
    none = (none, λ met. ap miss_meaning (e ∙ sym (is_none b met)));
  }

  pub by-none : (b : ℕ) → ((p t : ℕ) → t < b → ¬ Missed s p t) → MissedOf s b Never
  by-none b met = determined b Never (is_none b met) (λ t p e. absurd (apart e)) (λ e. met)
    where
      apart : {t p : ℕ} → no_miss ≡ first_at t p → ⊥
      apart e = let z : ◌≡◌ {A = ℕ} 0 1 = cc in omega arith

  pub by_first : (b t p : ℕ) → t < b → FirstMiss s t p → MissedOf s b (At t p)
  by_first b t p h f = determined b (At t p) (is-first b t p h f) same (λ e. absurd (apart e))
    where
      same : (u q : ℕ) → first_at t p ≡ first_at u q → FirstMiss s u q × (u < b)
      same u q e = let i : t ≡ u = cc in let j : p ≡ q = cc in (rw (i, j) at f, omega arith)

      apart : first_at t p ≡ no_miss → ⊥
      apart e = let z : ◌≡◌ {A = ℕ} 0 1 = cc in omega arith

-- none is found exactly if the test is false
pub never-found : (s : Table) (b : ℕ) → missed_before s b ≡ Never → any b (missed_in s) ≡ false
unfolding missed_before
never-found s b = go (any b (missed_in s)) (least b (missed_in s)) (suc (least (length s.tasks) (missed_at s (least b (missed_in s)))))
  where
    go : (m : Bool) (t p : ℕ) → cond m (At t p) Never ≡ Never → m ≡ false
    go true t p e = let z : ◌≡◌ {A = ℕ} 0 1 = cc in absurd (omega arith)
    go false t p e = refl

pub one_found : (s : Table) (b u q : ℕ) → missed_before s b ≡ At u q → any b (missed_in s) ≡ true
unfolding missed_before
one_found s b u q = go (any b (missed_in s)) (least b (missed_in s)) (suc (least (length s.tasks) (missed_at s (least b (missed_in s)))))
  where
    go : (m : Bool) (t p : ℕ) → cond m (At t p) Never ≡ At u q → m ≡ true
    go true t p e = refl
    go false t p e = let z : ◌≡◌ {A = ℕ} 0 1 = cc in absurd (omega arith)

-- THE VERDICT of what is found up to the horizon

by-search :
    (s : Table)
    → by_miss (missed_before s (suc (horizon s))) (cond (firm s.rule s.tasks) (Firm (last_s s.tasks) (hyperperiod s.tasks)) (Full (last_s s.tasks) (hyperperiod s.tasks)))
    ≡ verdict_case (judged (verdict s))
unfolding missed_before verdict first_miss
by-search s = go (any (suc (horizon s)) (missed_in s)) (firm s.rule s.tasks)
  where
    t : ℕ
    t = least (suc (horizon s)) (missed_in s)

    p : ℕ
    p = suc (least (length s.tasks) (missed_at s t))

    go : (m f : Bool)
        → by_miss (cond m (At t p) Never) (cond f (Firm (last_s s.tasks) (hyperperiod s.tasks)) (Full (last_s s.tasks) (hyperperiod s.tasks)))
        ≡ verdict_case (judged (cond m (model.Miss t p) (cond f (model.Firm (last_s s.tasks) (hyperperiod s.tasks)) (model.Full (last_s s.tasks) (hyperperiod s.tasks)))))
    go true f = refl
    go false true = refl
    go false false = refl

pub verdict-by : (t : Loaded) → Fit t → by_miss (missed_before (loaded_table t) (suc t.horizon)) (accepted_of t) ≡ verdict_case (judged (verdict (loaded_table t)))
verdict-by t fit = rw (fit.start, fit.period, fit.horizon) (by-search (loaded_table t))
