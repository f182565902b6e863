-- A supplied plan in a buffer: what is written, and a row taken, by what the buffer holds.
use Rattle.std.specs.Prelude.{Err}
use mathlib.Core.Path.{◌≡◌, refl, sym, ap, ◌∙◌}
use mathlib.Core.Bool.{Bool, true, false, ◌&&◌, cond}
use mathlib.Core.List.{List, [], ◌∷◌}
use Prim.Native.Nat.{ℕ, ◌≤◌, ◌<◌}
use Rattle.std.proofs.Common.{Some, None}
use lib.ListN.{length, get_or, take, drop, set}
use lib.Dec.{leb}
use borrow.Author.Tests.{le-leb, lt-leb, leb-true}
use Rattle.model.proofs.Bools.{and_left, and_right}
use Rattle.model.specs.Refusal.{number_of, position_of}
use Rattle.model.specs.declared.refusal.Refusal.{Refusal}
use Rattle.run.specs.declared.Run.{Run}
use Rattle.plan_check.specs.RowAnswer.{Refused}
use Rattle.plan_check.specs.RowAnswer.{Entered}
use Rattle.plan_check.specs.declared.Note.{Note}
use Rattle.plan_check.specs.declared.SuppliedPlan.{SuppliedPlan}
use Rattle.plan_check.specs.Extent.{ExtentOf, extent_in}
use Rattle.plan_check.proofs.PlanExtent.{extent-turns-down}
use Rattle.buffers.specs.Encoding.{places, overwritten, count_in, holds_run, run_in}
use Rattle.buffers.specs.Supplied.{tick_at, notes_at, plan_words, notes_words, put_at, moved_in, plan_over, notes_in, holds_plan, plan_in, BufferPlan, plan, none, decode_plan, plan_read}
use Rattle.buffers.specs.CheckRow.{RowChecked, kept_plan, check_row_from}
use Rattle.buffers.proofs.Places.{held-few}
use Rattle.buffers.proofs.Noting.{word-put}

-- WRITTEN

module _ (n : ℕ) (w : SuppliedPlan) (ws : List ℕ) where
  pub tick-over : {vs : List ℕ} → vs ≡ overwritten n w.run ws → tick_at < length vs → set vs tick_at w.tick ≡ moved_in n w ws
  tick-over {vs} e h = word-put vs tick_at w.tick h ∙ ap (put_at tick_at (w.tick ∷ [])) e

  pub over-noted : {us vs : List ℕ} → vs ≡ moved_in n w ws → us ≡ put_at notes_at (notes_words (take n w.noted)) vs → us ≡ plan_over true n w ws
  unfolding plan_over
  over-noted e p = p ∙ ap (put_at notes_at (notes_words (take n w.noted))) e

  pub over_plain : {vs : List ℕ} → vs ≡ moved_in n w ws → vs ≡ plan_over false n w ws
  unfolding plan_over
  over_plain e = e

-- WHAT A BUFFER HOLDS

module _ (ws : List ℕ) where
  -- a buffer too short holds no plan; else its run decides
  pub plan-short : length ws < plan_words → holds_plan ws ≡ false
  unfolding holds_plan
  plan-short h = ap (λ (t : Bool). t && holds_run ws) (lt-leb plan_words (length ws) h)

  pub plan-by-run : plan_words ≤ length ws → holds_plan ws ≡ holds_run ws
  unfolding holds_plan
  plan-by-run h = ap (λ (t : Bool). t && holds_run ws) (le-leb plan_words (length ws) h)

  pub by-held-plan : {t : Bool} → holds_plan ws ≡ t → decode_plan ws ≡ cond t (plan (plan_in ws)) none
  by-held-plan e = ap (λ (t : Bool). cond t (plan (plan_in ws)) none) e

  -- .. and read
  pub plan-none : holds_plan ws ≡ false → None ≡ plan_read (decode_plan ws)
  plan-none e = ap plan_read (sym (by-held-plan e))

  pub plan-some : holds_plan ws ≡ true → Some (plan_in ws) ≡ plan_read (decode_plan ws)
  plan-some e = ap plan_read (sym (by-held-plan e))

  pub plan-held : (w : SuppliedPlan) → Some w ≡ plan_read (decode_plan ws) → (holds_plan ws ≡ true) × (w ≡ plan_in ws)
  plan-held w e = go (holds_plan ws) refl
    where
      go : (t : Bool) → holds_plan ws ≡ t → (holds_plan ws ≡ true) × (w ≡ plan_in ws)
      go true h = (h, let same : Some w ≡ Some (plan_in ws) = e ∙ sym (plan-some h) in cc)
      go false h = let no : Some w ≡ None = e ∙ sym (plan-none h) in absurd (cc)

  -- what a buffer that holds a plan has
  module _ (e : holds_plan ws ≡ true) where
    pub plan-long : plan_words ≤ length ws
    unfolding holds_plan
    plan-long = leb-true plan_words (length ws) (and_left (leb plan_words (length ws)) (holds_run ws) e)

    pub plan_run : holds_run ws ≡ true
    unfolding holds_plan
    plan_run = and_right (leb plan_words (length ws)) (holds_run ws) e

    pub plan-few : count_in ws ≤ places
    plan-few = held-few ws plan_run

  pub plan-read :
      {r : Run} {ns : List Note} → r ≡ run_in ws → ns ≡ notes_in places (drop notes_at ws)
      → ◌≡◌ {A = SuppliedPlan} (record { run = r; tick = get_or ws tick_at 0; noted = ns }) (plan_in ws)
  unfolding plan_in
  plan-read e f = λ i. record { run = e i; tick = get_or ws tick_at 0; noted = f i }

  module _ (row : List ℕ) where
    -- 14 and 9, whatever the row is
    pub take-extent :
        (w : SuppliedPlan) (x : Refusal) → holds_plan ws ≡ true → w ≡ plan_in ws → ExtentOf w.run (extent_in (Err x))
        → ◌≡◌ {A = RowChecked} (record { answer = Refused (number_of x) (position_of x); buffer = ws }) (check_row_from (decode_plan ws) row ws)
    take-extent w x h e p =
        ap (λ (t : Entered). kept_plan t.answer t.plan ws) (extent-turns-down w row x p)
        ∙ ap (λ (v : BufferPlan). check_row_from v row ws) (ap plan e ∙ sym (by-held-plan h))
