-- One job's line of the book: what a tick changes of it, and how two lines compare.
use mathlib.Core.Bool.{◌&&◌, Bool, cond, false, false≢true, not, true, true≢false, ◌||◌}
use mathlib.Core.Logic.{inl, inr, ◌⊎◌, ⊎_elim}
use mathlib.Core.Path.{ap, refl, sym, ◌∙◌, ◌≡◌}
use Prim.Native.Nat.{◌<◌, suc, ℕ, ◌≤◌}
use native.Mathlib.Nat.{div-lt_iff_lt-mul, eq-or-lt_of_le, le_antisymm, le-div_iff_mul-le, le_of_suc-le-suc, mul-le-mul_right}
use native.Mathlib.Omega.{arith}
use lib.Dec.{leb, ltb}
use borrow.Author.Tests.{le-leb, leb-false, leb-true, lt-ltb, ltb-true, not-true}
use Rattle.model.proofs.Bools.{and_left, and_right, or-left-true, or_right_false}
use Rattle.std.proofs.lemmas.Bool.{false_from_ne_true}
use Rattle.model.specs.Jobs.{Job, ended_with}
use Rattle.model.specs.Claims.{claims, holds}
use Rattle.model.specs.Advance.{work, work_lent}
use Rattle.model.specs.Compare.{Behind, Longer}
use Rattle.model.specs.Task.{Rule, ValidTask, Task, due, greedy, idling, lending, limited, newest, release}

-- jobs released at one tick have one number
pub release-one : (τ : Task) → ValidTask τ → (i k : ℕ) → release τ i ≡ release τ k → i ≡ k
release-one τ ok i k e = omega (arith, not-before i k e, not-before k i (sym e))
  where
    not-before : (i k : ℕ) → release τ i ≡ release τ k → ¬ (i < k)
    not-before i k e h = omega (arith, mul-le-mul_right τ.period h, ok.deadline-pos, ok.constrained)

-- a claiming job is inside its window
pub after-release : (r : Rule) (τ : Task) (k t : ℕ) (j : Job) → claims r τ k t j ≡ true → release τ k ≤ t
unfolding claims
after-release r τ k t j e =
    leb-true (release τ k) t
    (and_left (leb (release τ k) t) (ltb t (due τ k)) (and_left (leb (release τ k) t && ltb t (due τ k)) (not j.ended || holds r τ j) e))

pub before-due : (r : Rule) (τ : Task) (k t : ℕ) (j : Job) → claims r τ k t j ≡ true → t < due τ k
unfolding claims
before-due r τ k t j e =
    ltb-true t (due τ k)
    (and_right (leb (release τ k) t) (ltb t (due τ k)) (and_left (leb (release τ k) t && ltb t (due τ k)) (not j.ended || holds r τ j) e))

pub still : (r : Rule) (τ : Task) (k t : ℕ) (j : Job) → claims r τ k t j ≡ true → not j.ended || holds r τ j ≡ true
unfolding claims
still r τ k t j e = and_right (leb (release τ k) t && ltb t (due τ k)) (not j.ended || holds r τ j) e

pub claims-if : (r : Rule) (τ : Task) (k t : ℕ) (j : Job) → release τ k ≤ t → t < due τ k → not j.ended || holds r τ j ≡ true → claims r τ k t j ≡ true
unfolding claims
claims-if r τ k t j h l e = rw (le-leb (release τ k) t h, lt-ltb t (due τ k) l) e

-- and is the newest of its task
pub newest-is : (τ : Task) (k t : ℕ) → τ.deadline ≤ τ.period → release τ k ≤ t → t < due τ k → newest τ t ≡ k
newest-is τ k t c h l =
    let pos : 0 < τ.period = omega arith in
    le_antisymm
    (le_of_suc-le-suc ((div-lt_iff_lt-mul pos).1 (omega arith)))
    ((le-div_iff_mul-le pos).1 (omega arith))

-- a job that has not ended claims wherever the job in another book does
pub claims-open : (r : Rule) (τ : Task) (k t : ℕ) (a b : Job) → claims r τ k t b ≡ true → a.ended ≡ false → claims r τ k t a ≡ true
claims-open r τ k t a b e o = claims-if r τ k t a (after-release r τ k t b e) (before-due r τ k t b e) (rw o)

-- a job after a tick, in which it was given cores or not
abbrev pub next : ℕ → Bool → Bool → Job → Job
next C f s j = cond s (work C f j) j

-- an ended job stays ended, and has no more ticks
pub next-ended : (C : ℕ) (f s : Bool) (j : Job) → j.ended ≡ true → ((next C f s j).ended ≡ true) × ((next C f s j).had ≡ j.had)
unfolding work
next-ended C f true j e = rw e (refl, refl)
next-ended C f false j e = (e, refl)

-- a job by its parts: records have η, so a lemma over the parts can go by cases on `ended`
abbrev pub mk : ℕ → ℕ → Bool → Job
mk h c e = record { had = h; claimed = c; ended = e }

-- ticks had never fall: a law of the definition, though nothing cites it
pub next_grows : (C : ℕ) (f s : Bool) (h c : ℕ) (e : Bool) → h ≤ (next C f s (mk h c e)).had
unfolding work
next_grows C f true h c true = omega arith
next_grows C f true h c false = omega arith
next_grows C f false h c e = omega arith

-- a job once longer stays longer
pub longer-left : (C : ℕ) (f s : Bool) (h c : ℕ) (e : Bool) (b : Job) → Longer (mk h c e) b → Longer (next C f s (mk h c e)) b
unfolding work
longer-left C f false h c e b l = l
longer-left C f true h c true b l = (l.0, go l.1)
  where
    go : (b.had < h) ⊎ ((h ≡ b.had) × (true ≡ false)) → (b.had < h) ⊎ ((h ≡ b.had) × (true ≡ false))
    go x = x
longer-left C f true h c false b l = (l.0, inl (go l.1))
  where
    go : (b.had < h) ⊎ ((h ≡ b.had) × (false ≡ false)) → b.had < suc h
    go (inl x) = omega arith
    go (inr x) = omega arith

pub longer-right : (C : ℕ) (f s : Bool) (a : Job) (h c : ℕ) (e : Bool) → Longer a (mk h c e) → Longer a (next C f s (mk h c e))
unfolding work
longer-right C f false a h c e l = l
longer-right C f true a h c true l = l
longer-right C f true a h c false l = absurd (false≢true l.0)

-- a job that is not behind, that runs where the other runs, and that is not longer after the tick, is not behind after it
pub sustained-line :
    (C : ℕ) (f g s t : Bool) (h c : ℕ) (e : Bool) (h' c' : ℕ) (e' : Bool)
    → ¬ Behind (mk h c e) (mk h' c' e')
    → (e ≡ false → t ≡ true → s ≡ true)
    → ¬ Longer (next C f s (mk h c e)) (next C g t (mk h' c' e'))
    → ¬ Behind (next C f s (mk h c e)) (next C g t (mk h' c' e'))
unfolding work
sustained-line C f g true t h c true h' c' e' nb both nl (o, x) = absurd (true≢false o)
sustained-line C f g false t h c true h' c' e' nb both nl (o, x) = absurd (true≢false o)
sustained-line C f g true t h c false h' c' true nb both nl (o, x) = absurd (nb (refl, inl refl))
sustained-line C f g false t h c false h' c' true nb both nl (o, x) = absurd (nb (refl, inl refl))
sustained-line C f g true true h c false h' c' false nb both nl (o, x) = go x
  where
    less : ¬ (h < h')
    less l = nb (refl, inr (refl, l))

    go : ((g || leb C (suc h')) ≡ true) ⊎ (((g || leb C (suc h')) ≡ false) × (suc h < suc h')) → ⊥
    go (inl d) =
        ⊎_elim
        (λ (q : suc h' ≡ suc h). nl (d, inr (sym q, o)))
        (λ (q : suc h' < suc h). nl (d, inl q))
        (eq-or-lt_of_le (omega (arith, less)))
    go (inr d) = less (omega arith)
sustained-line C f g true false h c false h' c' false nb both nl (o, x) = go x
  where
    less : ¬ (h < h')
    less l = nb (refl, inr (refl, l))

    go : (false ≡ true) ⊎ ((false ≡ false) × (suc h < h')) → ⊥
    go (inl d) = false≢true d
    go (inr d) = less (omega arith)
sustained-line C f g false true h c false h' c' false nb both nl (o, x) = false≢true (both refl refl)
sustained-line C f g false false h c false h' c' false nb both nl (o, x) = nb (refl, x)

-- what holds of every line of a book: at most C ticks had; and while it has not ended, fewer, and no fewer than claimed
pub record LineBounds (C : ℕ) (j : Job) : Type 0 where
  pub within : j.had ≤ C
  pub short : j.ended ≡ false → j.had < C
  pub claimed-had : j.ended ≡ false → j.claimed ≤ j.had

pub bounds-fresh : (C : ℕ) → 1 ≤ C → LineBounds C (mk 0 0 false)
bounds-fresh C h = record { within = omega arith; short = λ e. h; claimed-had = λ e. omega arith }

pub bounds-next : (C : ℕ) (f s : Bool) (h c : ℕ) (e : Bool) → LineBounds C (mk h c e) → LineBounds C (next C f s (mk h c e))
unfolding work
bounds-next C f false h c e g = g
bounds-next C f true h c true g = record { within = g.within; short = λ o. absurd (true≢false o); claimed-had = λ o. absurd (true≢false o) }
bounds-next C f true h c false g = record {
  within = g.short refl;
  short = λ o. leb-false C (suc h) (or_right_false f (leb C (suc h)) o);
  claimed-had = λ o. omega (arith, g.claimed-had refl);
}

-- where no place lends, a job that has not ended has had as many ticks as it has claimed
pub even-next :
    (C : ℕ) (f s : Bool) (h c : ℕ) (e : Bool) → (e ≡ false → c ≡ h)
    → (next C f s (mk h c e)).ended ≡ false → (next C f s (mk h c e)).claimed ≡ (next C f s (mk h c e)).had
unfolding work
even-next C f false h c e g o = g o
even-next C f true h c true g o = absurd (true≢false o)
even-next C f true h c false g o = ap suc (g refl)

-- in the full-length run a job ends only at C ticks
pub whole-next : (C : ℕ) (s : Bool) (h c : ℕ) (e : Bool) → (e ≡ true → C ≤ h) → (next C false s (mk h c e)).ended ≡ true → C ≤ (next C false s (mk h c e)).had
unfolding work
whole-next C false h c e w o = w o
whole-next C true h c true w o = w o
whole-next C true h c false w o = leb-true C (suc h) o

-- ticks claimed grow by the row alone
pub next-claimed : (C : ℕ) (f s : Bool) (h c : ℕ) (e : Bool) → (next C f s (mk h c e)).claimed ≡ cond s (suc c) c
unfolding work
next-claimed C f false h c e = refl
next-claimed C f true h c true = refl
next-claimed C f true h c false = refl

-- LENDING: a job after a tick in which it was given cores (s), or borrowed some (l), or neither
abbrev pub line_step : ℕ → Bool → Bool → Bool → Job → Job
line_step C f s l j = cond s (work C f j) (cond l (work_lent C f j) j)

pub step-ended : (C : ℕ) (f s l : Bool) (j : Job) → j.ended ≡ true → ((line_step C f s l j).ended ≡ true) × ((line_step C f s l j).had ≡ j.had)
unfolding work_lent
step-ended C f true l j e = next-ended C f true j e
step-ended C f false true j e = rw e (refl, refl)
step-ended C f false false j e = (e, refl)

pub step-bounds : (C : ℕ) (f s l : Bool) (h c : ℕ) (e : Bool) → LineBounds C (mk h c e) → LineBounds C (line_step C f s l (mk h c e))
unfolding work_lent
step-bounds C f true l h c e g = bounds-next C f true h c e g
step-bounds C f false false h c e g = g
step-bounds C f false true h c true g = g
step-bounds C f false true h c false g = record {
  within = g.short refl;
  short = λ o. leb-false C (suc h) (or_right_false f (leb C (suc h)) o);
  claimed-had = λ o. omega (arith, g.claimed-had refl);
}

pub step-whole :
    (C : ℕ) (s l : Bool) (h c : ℕ) (e : Bool) → (e ≡ true → C ≤ h)
    → (line_step C false s l (mk h c e)).ended ≡ true → C ≤ (line_step C false s l (mk h c e)).had
unfolding work_lent
step-whole C true l h c e w o = whole-next C true h c e w o
step-whole C false false h c e w o = w o
step-whole C false true h c true w o = w o
step-whole C false true h c false w o = leb-true C (suc h) o

-- ticks claimed do not grow by lent ones
pub step-claimed : (C : ℕ) (f s l : Bool) (h c : ℕ) (e : Bool) → (line_step C f s l (mk h c e)).claimed ≡ cond s (suc c) c
unfolding work_lent
step-claimed C f true l h c e = next-claimed C f true h c e
step-claimed C f false false h c e = refl
step-claimed C f false true h c true = refl
step-claimed C f false true h c false = refl

-- EMPTY JOBS

-- a job before a tick, empty or not
abbrev pub start : Bool → Job → Job
start x j = cond x (ended_with j) j

pub start-claimed : (x : Bool) (j : Job) → (start x j).claimed ≡ j.claimed
start-claimed true j = refl
start-claimed false j = refl

pub start-bounds : (C : ℕ) (x : Bool) (j : Job) → LineBounds C j → LineBounds C (start x j)
start-bounds C true j g = record { within = g.within; short = λ o. absurd (true≢false o); claimed-had = λ o. absurd (true≢false o) }
start-bounds C false j g = g

pub start-even : (x : Bool) (j : Job) → (j.ended ≡ false → j.claimed ≡ j.had) → (start x j).ended ≡ false → (start x j).claimed ≡ (start x j).had
start-even true j g o = absurd (true≢false o)
start-even false j g o = g o

-- an empty job is behind nothing
pub start-not-behind : (x : Bool) (a b : Job) → ¬ Behind a b → ¬ Behind (start x a) b
start-not-behind true a b nb h = true≢false h.0
start-not-behind false a b nb h = nb h

-- of two jobs just released, of which the first is not longer, the first is not behind
pub fresh-not-behind : (x y : Bool) → ¬ Longer (start x (mk 0 0 false)) (start y (mk 0 0 false)) → ¬ Behind (start x (mk 0 0 false)) (start y (mk 0 0 false))
fresh-not-behind true y nl h = true≢false h.0
fresh-not-behind false true nl h = nl (refl, inr (refl, refl))
fresh-not-behind false false nl (o, inl d) = false≢true d
fresh-not-behind false false nl (o, inr d) = omega arith

-- a rule under which a job that ended claims until it has claimed C ticks
abbrev pub Reserving : Rule → Type 0
Reserving r = (τ : Task) (j : Job) → holds r τ j ≡ ltb j.claimed τ.length

-- under such a rule a good line claims by its window and the ticks claimed
idle-test : (C h c : ℕ) (e : Bool) → LineBounds C (mk h c e) → not e || ltb c C ≡ ltb c C
idle-test C h c true g = refl
idle-test C h c false g = sym (lt-ltb c C (omega (arith, g.claimed-had refl, g.short refl)))

pub idle-claims :
    (r : Rule) → Reserving r → (τ : Task) (k t : ℕ) (a b : Job) → LineBounds τ.length a → LineBounds τ.length b → a.claimed ≡ b.claimed
    → claims r τ k t a ≡ claims r τ k t b
unfolding claims
idle-claims r q τ k t a b ga gb e =
    rw (q τ a, q τ b, idle-test τ.length a.had a.claimed a.ended ga, idle-test τ.length b.had b.claimed b.ended gb, e)

-- a rule under which a job that ended claims no more
abbrev pub Releasing : Rule → Type 0
Releasing r = (τ : Task) (j : Job) → holds r τ j ≡ false

-- under such a rule a job that claims, and is not behind, claims in the other book too
pub claims-less :
    (r : Rule) (τ : Task) (k t : ℕ) (a b : Job) → Releasing r → ¬ Behind a b
    → claims r τ k t a ≡ true → claims r τ k t b ≡ true
claims-less r τ k t a b q nb e =
    let o : a.ended ≡ false = not-true a.ended (or-left-true (not a.ended) (holds r τ a) (still r τ k t a e) (q τ a)) in
    claims-open r τ k t b a e (false_from_ne_true b.ended (λ d. nb (o, inl d)))

-- where k is the newest, no other job claims
pub others : (r : Rule) (τ : Task) (k t i : ℕ) (j : Job) → τ.deadline ≤ τ.period → newest τ t ≡ k → (i ≡ k → ⊥) → claims r τ i t j ≡ false
others r τ k t i j c new ne =
    false_from_ne_true (claims r τ i t j) (λ e. ne (sym (newest-is τ i t c (after-release r τ i t j e) (before-due r τ i t j e)) ∙ new))

-- a job that has ended and has claimed C ticks claims no more, under any rule
pub done-off : (r : Rule) (τ : Task) (k t : ℕ) (j : Job) → j.ended ≡ true → τ.length ≤ j.claimed → claims r τ k t j ≡ false
done-off r τ k t j e l = false_from_ne_true (claims r τ k t j) (λ c. go j.ended e r (still r τ k t j c))
  where
    go : (b : Bool) → b ≡ true → (r : Rule) → not b || holds r τ j ≡ true → ⊥
    go true q greedy h = false≢true h
    go true q limited h = false≢true h
    go true q idling h = omega (arith, ltb-true j.claimed τ.length h)
    go true q lending h = omega (arith, ltb-true j.claimed τ.length h)
    go false q r h = false≢true q
