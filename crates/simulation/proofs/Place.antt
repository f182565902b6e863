-- One place of the machine and its line of jobs in the book: a release and a tick preserve the relation.
use mathlib.Core.Path.{◌≡◌, refl, sym, ap, ◌∙◌, subst}
use mathlib.Core.Bool.{Bool, true, false, not, ◌&&◌, cond, true≢false}
use mathlib.Core.Logic.{⊎_elim}
use Prim.Native.Nat.{ℕ, suc, ◌+◌, ◌-◌, ◌≤◌, ◌<◌}
use native.Mathlib.Nat.{le_of_suc-le-suc, mul-le-mul_right, eq-or-lt_of_le}
use native.Mathlib.Omega.{arith}
use lib.Dec.{leb, ltb, eqb}
use borrow.Author.Tests.{leb-true, leb-false, eqb-true, eqb-false, le-leb, lt-leb, lt-ltb}
use Rattle.model.specs.Task.{Task, ValidTask, Rule, release, due, newest}
use Rattle.model.specs.Jobs.{Job, fresh}
use Rattle.model.specs.Claims.{claims}
use Rattle.model.proofs.Jobs.{mk, claims-if, newest-is, others, done-off}
use Rattle.model.proofs.Faithful.{no-claim-before}
use Rattle.simulation.specs.PlaceRelation.{PlaceWorks, PlaceRests, PlaceRelatedAt}
use Rattle.simulation.proofs.Lines.{line_on, line-off, line-own, work-open}

-- a place that claims is owed ticks, and a place that is owed ticks claims
pub claims-owed : (τ : Task) (handled_to : ℕ) (js : ℕ → Job) (l m n : ℕ) (c : Bool) → PlaceRelatedAt τ handled_to js l m n c → c ≡ ltb 0 l
claims-owed τ handled_to js l m n true h = sym (lt-ltb 0 l h.owed)
claims-owed τ handled_to js l m n false h = rw h.none

-- THE START: the first release is at the offset, and every job is fresh
pub start-related : (τ : Task) (O : ℕ) → O ≡ τ.offset → PlaceRelatedAt τ 0 (λ k. fresh) 0 O O false
start-related τ O e = record {
  number = 0;
  none = refl;
  event = omega arith;
  ahead_of = omega arith;
  following = omega arith;
  past = λ i h. absurd (omega arith);
  later = λ i h. refl;
}

-- THE DUE EVENTS OF A TICK

-- a place whose event it is not
pub pass-related : (τ : Task) (t : ℕ) (js : ℕ → Job) (l m n : ℕ) (c : Bool) → PlaceRelatedAt τ t js l m n c → (m ≡ t → ⊥) → PlaceRelatedAt τ (suc t) js l m n c
pass-related τ t js l m n true h away = record {
  number = h.number;
  had = h.had;
  owed = h.owed;
  whole = h.whole;
  begun = omega (arith, h.begun);
  deadline = h.deadline;
  ahead_of = omega (arith, h.ahead_of);
  following = h.following;
  line = h.line;
  past = h.past;
  later = h.later;
}
pass-related τ t js l m n false h away = record {
  number = h.number;
  none = h.none;
  event = h.event;
  ahead_of = omega (arith, h.ahead_of);
  following = h.following;
  past = h.past;
  later = h.later;
}

-- a place whose event it is, with nothing left: its next job is released
pub release-related :
    (τ : Task) → ValidTask τ → (t : ℕ) (js : ℕ → Job) (l m n : ℕ) (c : Bool) → PlaceRelatedAt τ t js l m n c → m ≡ t → l ≡ 0
    → (C D T : ℕ) → C ≡ τ.length → D ≡ τ.deadline → T ≡ τ.period → PlaceRelatedAt τ (suc t) js C (t + D) (t + T) true
release-related τ ok t js l m n true h at none C D T e_c e_d e_t = absurd (omega (arith, h.owed))
release-related τ ok t js l m n false h at none C D T e_c e_d e_t = record {
  number = h.number;
  had = 0;
  owed = omega (arith, ok.length-pos);
  whole = omega arith;
  begun = omega (arith, h.event);
  deadline = omega (arith, h.event);
  ahead_of = omega (arith, ok.deadline-pos);
  following = omega (arith, h.event);
  line = h.later h.number (omega arith);
  past = h.past;
  later = λ i q. h.later i (omega arith);
}

-- the numbers of two jobs go with their releases
pub release-order : (τ : Task) (i k : ℕ) → i ≤ k → release τ i ≤ release τ k
release-order τ i k h = omega (arith, mul-le-mul_right τ.period h)

-- a place at its event with ticks left has a job that is due and has not ended
pub overdue-has :
    (τ : Task) (t : ℕ) (js : ℕ → Job) (l m n : ℕ) (c : Bool) → PlaceRelatedAt τ t js l m n c → m ≡ t → 0 < l
    → (k : ℕ) × (due τ k ≡ t) × ((js k).ended ≡ false)
overdue-has τ t js l m n true h at some = (h.number, sym h.deadline ∙ at, ap (λ (j : Job). j.ended) h.line)
overdue-has τ t js l m n false h at some = absurd (omega (arith, h.none))

-- a job due at a tick from `handled_to` back that has not ended is the one the place works on, at the tick `handled_to`
pub overdue-is :
    (τ : Task) → ValidTask τ → (handled_to : ℕ) (js : ℕ → Job) (l m n : ℕ) (c : Bool) → PlaceRelatedAt τ handled_to js l m n c
    → (t k : ℕ) → t ≤ handled_to → due τ k ≡ t → (js k).ended ≡ false → (m ≡ t) × (0 < l)
overdue-is τ ok handled_to js l m n true h t k before d o = go (leb k h.number) refl
  where
    go : (x : Bool) → leb k h.number ≡ x → (m ≡ t) × (0 < l)
    go true e =
        ⊎_elim
        (λ (q : k ≡ h.number). (h.deadline ∙ (ap (due τ) (sym q) ∙ d), h.owed))
        (λ (q : k < h.number). absurd (true≢false (sym (h.past k q) ∙ o)))
        (eq-or-lt_of_le (leb-true k h.number e))
    go false e =
        absurd
        (omega (arith, release-order τ (suc h.number) k (leb-false k h.number e), ok.deadline-pos, ok.constrained, h.deadline, h.ahead_of))
overdue-is τ ok handled_to js l m n false h t k before d o = go (leb h.number k) refl
  where
    go : (x : Bool) → leb h.number k ≡ x → (m ≡ t) × (0 < l)
    go true e =
        absurd (omega (arith, release-order τ h.number k (leb-true h.number k e), ok.deadline-pos, h.event, h.ahead_of))
    go false e = absurd (true≢false (sym (h.past k (leb-false h.number k e)) ∙ o))

-- THE CLAIMS OF A TICK, once its due events have been handled

-- every job that has ended has claimed its C ticks, as at full length
abbrev pub Claimed : Task → (ℕ → Job) → Type 0
Claimed τ js = (i : ℕ) → (js i).ended ≡ true → τ.length ≤ (js i).claimed

module _ (r : Rule) (τ : Task) (ok : ValidTask τ) (t : ℕ) (js : ℕ → Job) (all : Claimed τ js) (l m n : ℕ) where
  -- the job that a claiming place works on is the newest, and claims
  pub works-newest : (h : PlaceWorks τ (suc t) js l m n) → newest τ t ≡ h.number
  works-newest h = newest-is τ h.number t ok.constrained (omega (arith, h.begun)) (omega (arith, h.deadline, h.ahead_of))

  pub works-claims : (h : PlaceWorks τ (suc t) js l m n) → claims r τ h.number t (js h.number) ≡ true
  works-claims h =
      claims-if r τ h.number t (js h.number) (omega (arith, h.begun)) (omega (arith, h.deadline, h.ahead_of)) (rw h.line)

  -- where a place does not claim, none of its jobs does
  pub rests-off : PlaceRests τ (suc t) js l m n → (i : ℕ) → claims r τ i t (js i) ≡ false
  rests-off h i = go (leb h.number i) refl
    where
      go : (x : Bool) → leb h.number i ≡ x → claims r τ i t (js i) ≡ false
      go true e = no-claim-before r τ i t (js i) (omega (arith, release-order τ h.number i (leb-true h.number i e), h.event, h.ahead_of))
      go false e =
          let o : (js i).ended ≡ true = h.past i (leb-false h.number i e) in
          done-off r τ i t (js i) o (all i o)

  pub related-claims : (c : Bool) → PlaceRelatedAt τ (suc t) js l m n c → claims r τ (newest τ t) t (js (newest τ t)) ≡ c
  related-claims true h = subst (λ (k : ℕ). claims r τ k t (js k) ≡ true) (sym (works-newest h)) (works-claims h)
  related-claims false h = rests-off h (newest τ t)

  -- A TICK, in which the place has cores or not

  pub other-line : (w : Bool) (h : PlaceWorks τ (suc t) js l m n) (i : ℕ) → (i ≡ h.number → ⊥) → line_on r τ t w js i ≡ js i
  other-line w h i ne = line-off r τ t w js i (others r τ h.number t i (js i) ok.constrained (works-newest h) ne)

  past-line : (w : Bool) (h : PlaceWorks τ (suc t) js l m n) (i : ℕ) → i < h.number → (line_on r τ t w js i).ended ≡ true
  past-line w h i q = ap (λ (j : Job). j.ended) (other-line w h i (omega arith)) ∙ h.past i q

  later-line : (w : Bool) (h : PlaceWorks τ (suc t) js l m n) (i : ℕ) → h.number < i → line_on r τ t w js i ≡ fresh
  later-line w h i q = other-line w h i (omega arith) ∙ h.later i q

  pub served-line : (h : PlaceWorks τ (suc t) js l m n) → line_on r τ t true js h.number ≡ mk (suc h.had) (suc h.had) (leb τ.length (suc h.had))
  served-line h = line-own r τ t true js h.number (works-claims h) ∙ work-open τ.length h.had (js h.number) h.line

  -- with cores, and more than one tick left
  served-more : (h : PlaceWorks τ (suc t) js l m n) → (l ≡ 1 → ⊥) → PlaceWorks τ (suc t) (line_on r τ t true js) (l - 1) m n
  served-more h more = record {
    number = h.number;
    had = suc h.had;
    owed = omega (arith, h.owed);
    whole = omega (arith, h.owed, h.whole);
    begun = h.begun;
    deadline = h.deadline;
    ahead_of = h.ahead_of;
    following = h.following;
    line = served-line h ∙ ap (λ (e : Bool). mk (suc h.had) (suc h.had) e) (lt-leb τ.length (suc h.had) (omega (arith, h.owed, h.whole)));
    past = past-line true h;
    later = later-line true h;
  }

  -- with cores, and its last tick
  served-last : (h : PlaceWorks τ (suc t) js l m n) → l ≡ 1 → PlaceRests τ (suc t) (line_on r τ t true js) (l - 1) n n
  served-last h last = record {
    number = suc h.number;
    none = omega arith;
    event = h.following;
    ahead_of = omega (arith, h.deadline, h.ahead_of, h.following, ok.constrained);
    following = h.following;
    past = λ i q. ⊎_elim
        (λ (e : i ≡ h.number). subst (λ (k : ℕ). (line_on r τ t true js k).ended ≡ true) (sym e) over)
        (λ (e : i < h.number). past-line true h i e)
        (eq-or-lt_of_le (le_of_suc-le-suc q));
    later = later-line true h;
  }
    where
      over : (line_on r τ t true js h.number).ended ≡ true
      over = ap (λ (j : Job). j.ended) (served-line h) ∙ le-leb τ.length (suc h.had) (omega (arith, h.whole))

  -- without cores
  unserved : (h : PlaceWorks τ (suc t) js l m n) → PlaceWorks τ (suc t) (line_on r τ t false js) l m n
  unserved h = record {
    number = h.number;
    had = h.had;
    owed = h.owed;
    whole = h.whole;
    begun = h.begun;
    deadline = h.deadline;
    ahead_of = h.ahead_of;
    following = h.following;
    line = line-own r τ t false js h.number (works-claims h) ∙ h.line;
    past = past-line false h;
    later = later-line false h;
  }

  rests-on : (w : Bool) → PlaceRests τ (suc t) js l m n → PlaceRests τ (suc t) (line_on r τ t w js) l m n
  rests-on w h = record {
    number = h.number;
    none = h.none;
    event = h.event;
    ahead_of = h.ahead_of;
    following = h.following;
    past = λ i q. ap (λ (j : Job). j.ended) (line-off r τ t w js i (rests-off h i)) ∙ h.past i q;
    later = λ i q. line-off r τ t w js i (rests-off h i) ∙ h.later i q;
  }

  pub tick-related :
      (c w : Bool) → PlaceRelatedAt τ (suc t) js l m n c
      → PlaceRelatedAt τ (suc t) (line_on r τ t w js) (cond w (l - 1) l) (cond (w && eqb l 1) n m) n (c && not (w && eqb l 1))
  tick-related true false h = unserved h
  tick-related true true h = go (eqb l 1) refl
    where
      go : (x : Bool) → eqb l 1 ≡ x → PlaceRelatedAt τ (suc t) (line_on r τ t true js) (l - 1) (cond x n m) n (not x)
      go true e = served-last h (eqb-true l 1 e)
      go false e = served-more h (eqb-false l 1 e)
  tick-related false false h = rests-on false h
  tick-related false true h = go (l - 1) (omega (arith, h.none)) (eqb l 1) (ap (λ (x : ℕ). eqb x 1) h.none)
    where
      go : (l' : ℕ) → l' ≡ l → (x : Bool) → x ≡ false → PlaceRests τ (suc t) (line_on r τ t true js) l' (cond x n m) n
      go l' e true q = absurd (true≢false q)
      go l' e false q = subst (λ (y : ℕ). PlaceRests τ (suc t) (line_on r τ t true js) y m n) (sym e) (rests-on true h)

-- THE NEXT EVENT: the event of a place is never after its next release
pub event-first : (τ : Task) → ValidTask τ → (handled_to : ℕ) (js : ℕ → Job) (l m n : ℕ) (c : Bool) → PlaceRelatedAt τ handled_to js l m n c → m ≤ n
event-first τ ok handled_to js l m n true h = omega (arith, h.deadline, h.following, ok.constrained)
event-first τ ok handled_to js l m n false h = omega (arith, h.event, h.following)
