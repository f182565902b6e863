-- One place of the state and its line of jobs: the start, its due events, and a tick.
use mathlib.Core.Path.{◌≡◌, refl, sym, ap, ◌∙◌, subst}
use mathlib.Core.Bool.{Bool, true, false, not, ◌&&◌, cond, true≢false}
use mathlib.Core.Logic.{inl}
use Prim.Native.Nat.{ℕ, suc, ◌+◌, ◌-◌, ◌≤◌}
use native.Mathlib.Omega.{arith}
use lib.Dec.{eqb}
use borrow.Author.Tests.{eqb-true, eqb-false, lt-leb, le-leb}
use Rattle.model.specs.Task.{Task, ValidTask, Rule, release}
use Rattle.model.specs.Jobs.{Job, fresh}
use Rattle.simulation.specs.PlaceRelation.{PlaceRests, PlaceRelatedAt}
use Rattle.simulation.proofs.Lines.{line_on, line-off, line-own}
use Rattle.simulation.proofs.Place.{Claimed, start-related, pass-related, release-related, tick-related, rests-off, works-claims, other-line, served-line, claims-owed}
use Rattle.simulation.specs.EventState.{UpcomingEvent, PlaceRepresents}
use Rattle.simulation.proofs.Upcoming.{upcoming-start, upcoming-later, upcoming-release, upcoming-event}

-- equal numbers represent the same
pub same-represents :
    (τ : Task) (handled_to : ℕ) (js : ℕ → Job) (l l' m m' n n' : ℕ) (c c' : Bool) → l ≡ l' → m ≡ m' → n ≡ n' → c ≡ c'
    → PlaceRepresents τ handled_to js l' m' n' c' → PlaceRepresents τ handled_to js l m n c
same-represents τ handled_to js l l' m m' n n' c c' el em en ec h =
    subst (λ (x : ℕ). PlaceRepresents τ handled_to js x m n c) (sym el)
    (subst (λ (x : ℕ). PlaceRepresents τ handled_to js l' x n c) (sym em)
    (subst (λ (x : ℕ). PlaceRepresents τ handled_to js l' m' x c) (sym en)
    (subst (λ (x : Bool). PlaceRepresents τ handled_to js l' m' n' x) (sym ec) h)))

-- the first release is at the offset, and every job is fresh
pub represents-start : (τ : Task) (O : ℕ) → O ≡ τ.offset → PlaceRepresents τ 0 (λ k. fresh) 0 O O false
represents-start τ O e = record { related = start-related τ O e; ahead = upcoming-start τ O e }

-- the next release of a place that does not claim
resting-next : (τ : Task) (handled_to : ℕ) (js : ℕ → Job) (l m n : ℕ) → PlaceRests τ handled_to js l m n → ((k : ℕ) × (n ≡ release τ k)) × (handled_to ≤ n)
resting-next τ handled_to js l m n h = ((h.number, h.following), omega (arith, h.event, h.following, h.ahead_of))

-- a place's event is no later than the deadline that it works towards, or the release that it waits for
pub event-least : (τ : Task) (handled_to : ℕ) (js : ℕ → Job) (l m n : ℕ) (c : Bool) → PlaceRepresents τ handled_to js l m n c → m ≤ cond c m n
event-least τ handled_to js l m n true h = omega arith
event-least τ handled_to js l m n false h =
    let r = resting-next τ handled_to js l n n h.related in
    h.ahead.first n r.1 (r.0.0, inl (sym r.0.1))

-- ticks up to the event
pub represents-pass : (τ : Task) (t : ℕ) (js : ℕ → Job) (l m n : ℕ) (c : Bool) → PlaceRepresents τ t js l m n c → (m ≡ t → ⊥) → PlaceRepresents τ (suc t) js l m n c
represents-pass τ t js l m n c h away = record {
  related =
      pass-related τ t js l (cond c m n) n c h.related
      (λ e. away (omega (arith, event-least τ t js l m n c h, h.ahead.from)));
  ahead = upcoming-later τ t (suc t) m n h.ahead (omega arith) (omega (arith, h.ahead.from));
}

-- a place that does not claim has no tick left
pub none_left : (τ : Task) (handled_to : ℕ) (js : ℕ → Job) (l m n : ℕ) (c : Bool) → PlaceRepresents τ handled_to js l m n c → c ≡ false → l ≡ 0
none_left τ handled_to js l m n true h e = absurd (true≢false e)
none_left τ handled_to js l m n false h e = h.related.none

-- a place that claims is owed ticks
idle : (τ : Task) (handled_to : ℕ) (js : ℕ → Job) (l m n : ℕ) (c : Bool) → PlaceRelatedAt τ handled_to js l m n c → l ≡ 0 → c ≡ false
idle τ handled_to js l m n c h z = claims-owed τ handled_to js l m n c h ∙ rw z

module _ (τ : Task) (ok : ValidTask τ) (t : ℕ) (js : ℕ → Job) (l m n : ℕ) where
  resting-release :
      PlaceRepresents τ t js l m n false → n ≡ t → l ≡ 0 → (C D T : ℕ) → C ≡ τ.length → D ≡ τ.deadline → T ≡ τ.period
      → PlaceRepresents τ (suc t) js C (t + D) (t + T) true
  resting-release h at none C D T e_c e_d e_t = record {
    related = release-related τ ok t js l n n false h.related at none C D T e_c e_d e_t;
    ahead = upcoming-release τ ok t h.related.number D T (omega (arith, h.related.following)) e_d e_t;
  }

  -- its event is come and nothing is left: its next job is released
  pub represents-release :
      (c : Bool) → PlaceRepresents τ t js l m n c → n ≡ t → l ≡ 0 → (C D T : ℕ) → C ≡ τ.length → D ≡ τ.deadline → T ≡ τ.period
      → PlaceRepresents τ (suc t) js C (t + D) (t + T) true
  represents-release true h at none C D T e_c e_d e_t = absurd (true≢false (idle τ t js l m n true h.related none))
  represents-release false h at none C D T e_c e_d e_t = resting-release h at none C D T e_c e_d e_t

  resting-event : PlaceRepresents τ t js l m n false → m ≡ t → (n ≡ t → ⊥) → PlaceRepresents τ (suc t) js l n n false
  resting-event h at away = record {
    related = pass-related τ t js l n n false h.related away;
    ahead =
        let r = resting-next τ t js l n n h.related in
        upcoming-event τ ok t n r.0.0 (subst (λ (x : ℕ). UpcomingEvent τ t x n) at h.ahead) r.0.1 r.1 away;
  }

  -- or its last, which has ended, was due: it waits for its next release
  pub represents-event : (c : Bool) → PlaceRepresents τ t js l m n c → m ≡ t → l ≡ 0 → (n ≡ t → ⊥) → PlaceRepresents τ (suc t) js l n n c
  represents-event true h at none away = absurd (true≢false (idle τ t js l m n true h.related none))
  represents-event false h at none away = resting-event h at away

-- A TICK

-- the event after it
event-kept : (c f : Bool) (m n : ℕ) → cond f n (cond c m n) ≡ cond (c && not f) m n
event-kept true true m n = refl
event-kept true false m n = refl
event-kept false true m n = refl
event-kept false false m n = refl

module _ (r : Rule) (τ : Task) (ok : ValidTask τ) (t : ℕ) (js : ℕ → Job) (all : Claimed τ js) (l m n : ℕ) where
  -- the relation after a tick, in which the place has cores or not
  pub tick-represents :
      (c w : Bool) → PlaceRelatedAt τ (suc t) js l (cond c m n) n c
      → PlaceRelatedAt τ (suc t) (line_on r τ t w js) (cond w (l - 1) l) (cond (c && not (w && eqb l 1)) m n) n (c && not (w && eqb l 1))
  tick-represents c w h =
      subst (λ (x : ℕ). PlaceRelatedAt τ (suc t) (line_on r τ t w js) (cond w (l - 1) l) x n (c && not (w && eqb l 1)))
      (event-kept c (w && eqb l 1) m n)
      (tick-related r τ ok t js all l (cond c m n) n c w h)

  -- no job ends in a tick of a place that has no cores or is owed more than one
  pub none-ends : (c w : Bool) → PlaceRelatedAt τ (suc t) js l m n c → (w ≡ true → l ≡ 1 → ⊥) → (i : ℕ) → (js i).ended ≡ false → (line_on r τ t w js i).ended ≡ false
  none-ends false w h more i o = ap (λ (j : Job). j.ended) (line-off r τ t w js i (rests-off r τ ok t js all l m n h i)) ∙ o
  none-ends true w h more i o = go (eqb i h.number) refl
    where
      own : (x : Bool) → (x ≡ true → l ≡ 1 → ⊥) → (line_on r τ t x js h.number).ended ≡ false
      own true k =
          ap (λ (j : Job). j.ended) (served-line r τ ok t js all l m n h)
          ∙ lt-leb τ.length (suc h.had) (omega (arith, h.whole, h.owed, two (k refl)))
        where
          two : (l ≡ 1 → ⊥) → 2 ≤ l
          two q = omega (arith, h.owed)
      own false k =
          ap (λ (j : Job). j.ended) (line-own r τ t false js h.number (works-claims r τ ok t js all l m n h) ∙ h.line)

      go : (x : Bool) → eqb i h.number ≡ x → (line_on r τ t w js i).ended ≡ false
      go true e = subst (λ (k : ℕ). (line_on r τ t w js k).ended ≡ false) (sym (eqb-true i h.number e)) (own w more)
      go false e = ap (λ (j : Job). j.ended) (other-line r τ ok t js all l m n w h i (eqb-false i h.number e)) ∙ o

  -- the job of a place that has cores and is owed one ends
  pub last-ends : (c : Bool) → PlaceRelatedAt τ (suc t) js l m n c → l ≡ 1 → (i : ℕ) × ((js i).ended ≡ false) × ((line_on r τ t true js i).ended ≡ true)
  last-ends false h e = absurd (omega (arith, h.none))
  last-ends true h e = (
    h.number,
    ap (λ (j : Job). j.ended) h.line,
    ap (λ (j : Job). j.ended) (served-line r τ ok t js all l m n h) ∙ le-leb τ.length (suc h.had) (omega (arith, h.whole)),
  )
