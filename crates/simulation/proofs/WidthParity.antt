-- The widths: a release turns a place to the width of the job that it works on, and no other move of the machine does. So the width of a place that
-- claims is that of its newest job.
use mathlib.Core.Path.{◌≡◌, refl, sym, ap, ◌∙◌, subst}
use mathlib.Core.Bool.{Bool, true, false, not, ◌&&◌, cond, true≢false}
use mathlib.Core.List.{List}
use Prim.Native.Nat.{ℕ, zero, suc, ◌+◌, ◌%◌, ◌≤◌, ◌<◌}
use native.Mathlib.Omega.{arith}
use lib.ListN.{length, get_or}
use lib.Dec.{eqb}
use borrow.Author.Tests.{eqb-true}
use Rattle.model.specs.Search.{bit}
use Rattle.model.specs.Task.{Task, Table, task, ValidTask, AllValid, release, width_of, newest}
use Rattle.model.specs.Jobs.{Job}
use Rattle.model.specs.Lists.{full}
use Rattle.model.proofs.Jobs.{release-one}
use Rattle.model.proofs.Runs.{full-claimed}
use Rattle.rule.specs.Widths.{width_in}
use Rattle.simulation.specs.Machine.{Machine, started, worked_tick}
use Rattle.simulation.specs.TickState.{toggled_by}
use Rattle.simulation.specs.PlaceRelation.{PlaceWorks, PlaceRelatedAt, even_job, WidthParity}
use Rattle.simulation.proofs.Place.{release-order, works-newest}
use Rattle.simulation.proofs.Sets.{toggled_bit, toggled-bit}
use Rattle.simulation.proofs.MachineRelated.{MachineRelated, Ready, Columns}

-- ODD AND EVEN

parity : (r : ℕ) → r < 2 → eqb (suc r % 2) 1 ≡ not (eqb r 1)
parity zero h = refl
parity (suc zero) h = refl
parity (suc (suc r)) h = absurd (omega arith)

odd-suc : (k : ℕ) → eqb (suc k % 2) 1 ≡ not (eqb (k % 2) 1)
odd-suc k = let e : suc k % 2 ≡ suc (k % 2) % 2 = omega arith in ap (λ (x : ℕ). eqb x 1) e ∙ parity (k % 2) (omega arith)

-- the job after the next is odd or even as this one is
even-two : (τ : Task) (k : ℕ) → even_job τ (suc (suc k)) ≡ even_job τ k
even-two τ k = let e : suc (suc k) % 2 ≡ k % 2 = omega arith in ap (λ (x : ℕ). eqb x 1 && not (eqb τ.odd_width τ.even_width)) e

-- the width by the mark is that of the job
pub width-known : (τ : Task) (k : ℕ) (e : Bool) → e ≡ even_job τ k → cond e τ.even_width τ.odd_width ≡ width_of τ k
width-known τ k e h = ap (λ (b : Bool). cond b τ.even_width τ.odd_width) h ∙ go (k % 2) (omega arith) (eqb τ.odd_width τ.even_width) refl
  where
    go : (r : ℕ) → r < 2 → (b : Bool) → eqb τ.odd_width τ.even_width ≡ b
        → cond (eqb r 1 && not b) τ.even_width τ.odd_width ≡ cond (eqb r 0) τ.odd_width τ.even_width
    go zero l b q = refl
    go (suc zero) l true q = eqb-true τ.odd_width τ.even_width q
    go (suc zero) l false q = refl
    go (suc (suc r)) l b q = absurd (omega arith)

-- ONE PLACE

neither : (i k : ℕ) → (i < k → ⊥) → (k < i → ⊥) → i ≡ k
neither i k less more = omega arith

unended : {j j' : Job} → j ≡ j' → j'.ended ≡ false → j.ended ≡ true → ⊥
unended e f t = true≢false (sym t ∙ (ap (λ (j : Job). j.ended) e ∙ f))

pub parity-start : (τ : Task) (O : ℕ) (e : Bool) → O ≡ τ.offset → e ≡ not (eqb τ.odd_width τ.even_width) → WidthParity τ O e
parity-start τ O e at q = record { number = 0; following = omega arith; mark = q }

-- a release turns a place with two widths
parity-release :
    (τ : Task) (n n' : ℕ) (e q : Bool) → q ≡ not (eqb τ.odd_width τ.even_width) → n' ≡ n + τ.period → WidthParity τ n e
    → WidthParity τ n' (cond e (not q) q)
parity-release τ n n' e q two at h = record {
  number = suc h.number;
  following = omega (arith, h.following);
  mark = go e q (eqb (suc h.number % 2) 1) (h.mark ∙ ap (λ (b : Bool). eqb (suc h.number % 2) 1 && b) (sym two))
      ∙ (ap (λ (b : Bool). b && q) (sym (odd-suc (suc h.number))) ∙ ap (λ (b : Bool). eqb (suc (suc h.number) % 2) 1 && b) two);
}
  where
    go : (e q b : Bool) → e ≡ b && q → cond e (not q) q ≡ not b && q
    go e true true m = rw m
    go e true false m = rw m
    go e false true m = rw m
    go e false false m = rw m

-- the mark of a place that works is right for its job
pub parity-works : (τ : Task) → ValidTask τ → (handled_to : ℕ) (js : ℕ → Job) (l m n : ℕ) (e : Bool) (w : PlaceWorks τ handled_to js l m n) → WidthParity τ n e → e ≡ even_job τ w.number
parity-works τ ok handled_to js l m n e w h =
    let k : h.number ≡ suc w.number = release-one τ ok h.number (suc w.number) (sym h.following ∙ w.following) in
    h.mark ∙ (ap (λ (i : ℕ). even_job τ (suc i)) k ∙ even-two τ w.number)

-- over the due events of tick t
module _ (τ : Task) (ok : ValidTask τ) (t : ℕ) (js : ℕ → Job) (l m n l' m' n' : ℕ) where
  still : (e : Bool) → n' ≡ n → WidthParity τ n e → WidthParity τ n' (cond e true false)
  still true q h = subst (λ (x : ℕ). WidthParity τ x true) (sym q) h
  still false q h = subst (λ (x : ℕ). WidthParity τ x false) (sym q) h

  pub parity-due :
      (c c' e q : Bool) → PlaceRelatedAt τ t js l m n c → PlaceRelatedAt τ (suc t) js l' m' n' c' → q ≡ not (eqb τ.odd_width τ.even_width) → WidthParity τ n e
      → WidthParity τ n' (toggled_bit q e c c')
  parity-due true true e q a b two h =
      let k : a.number ≡ b.number = neither a.number b.number
      (λ x. unended a.line refl (b.past a.number x)) (λ x. unended b.line refl (a.past b.number x)) in
      still e (b.following ∙ (ap (λ (i : ℕ). release τ (suc i)) (sym k) ∙ sym a.following)) h
  parity-due true false e q a b two h =
      let k : b.number ≤ a.number = not-less (λ x. unended a.line refl (b.past a.number x)) in
      absurd (omega (arith, release-order τ b.number a.number k, a.begun, b.ahead_of, b.event))
    where
      not-less : {i k : ℕ} → (i < k → ⊥) → k ≤ i
      not-less f = omega arith
  parity-due false true e q a b two h =
      let k : a.number ≡ b.number = neither a.number b.number
      (λ x. unended (a.later a.number (omega arith)) refl (b.past a.number x)) (λ x. unended b.line refl (a.past b.number x)) in
      parity-release τ n n' e q two (b.following ∙ (ap (λ (i : ℕ). release τ (suc i)) (sym k) ∙ omega (arith, a.following))) h
  parity-due false false e q a b two h =
      let k : a.number ≡ b.number = neither a.number b.number
      (λ x. unended (a.later a.number (omega arith)) refl (b.past a.number x))
      (λ x. unended (b.later b.number (omega arith)) refl (a.past b.number x)) in
      still e (b.following ∙ (ap (release τ) (sym k) ∙ sym a.following)) h

-- ALL PLACES

-- the set of the places at their second width is right for every task
abbrev pub WidthToggled : Table → Machine → ℕ → Type 0
WidthToggled s m even = (p : ℕ) → p < length s.tasks → WidthParity (task s p) (get_or m.next p 0) (bit even p)

-- the set of the places with two widths
abbrev pub Paired : Table → ℕ → Type 0
Paired s q = (p : ℕ) → p < length s.tasks → bit q p ≡ not (eqb (task s p).odd_width (task s p).even_width)

module _ (s : Table) (ok : AllValid s) where
  pub toggled-start :
      (offsets : List ℕ) (q : ℕ) → ((p : ℕ) → p < length s.tasks → get_or offsets p 0 ≡ (task s p).offset) → Paired s q → WidthToggled s (started offsets) q
  toggled-start offsets q at two p l = parity-start (task s p) (get_or offsets p 0) (bit q p) (at p l) (two p l)

  pub toggled-due :
      (t : ℕ) (m m' : Machine) (q even : ℕ) → MachineRelated s t m → Ready s t m' → Paired s q → WidthToggled s m even
      → WidthToggled s m' (toggled_by q even m.claiming m'.claiming)
  toggled-due t m m' q even a b two h p l =
      subst (WidthParity (task s p) (get_or m'.next p 0)) (sym (toggled-bit q even m.claiming m'.claiming p))
      (parity-due (task s p) (ok p l) t ((full s t).job p)
      (get_or m.left p 0) (get_or m.event p 0) (get_or m.next p 0) (get_or m'.left p 0) (get_or m'.event p 0) (get_or m'.next p 0)
      (bit m.claiming p) (bit m'.claiming p) (bit even p) (bit q p) (a.waiting p l (omega arith)) (b.done p l l) (two p l) (h p l))

  pub toggled-tick : (m : Machine) (even : ℕ) (granted : ℕ → Bool) → WidthToggled s m even → WidthToggled s (worked_tick granted m) even
  unfolding worked_tick
  toggled-tick m even granted h = h

  -- after the due events of a tick the width of a place that claims is that of its newest job
  pub width-newest :
      (t : ℕ) (m : Machine) (even : ℕ) → Ready s t m → WidthToggled s m even → (O v C D T : List ℕ) → Columns s O v C D T
      → (p : ℕ) → p < length s.tasks → bit m.claiming p ≡ true → width_in even v p ≡ width_of (task s p) (newest (task s p) t)
  width-newest t m even h turns O v C D T of p l claims = read (bit even p) refl ∙ width-known (task s p) (newest (task s p) t) (bit even p) marked
    where
      τ : Task
      τ = task s p

      works : PlaceWorks τ (suc t) ((full s t).job p) (get_or m.left p 0) (get_or m.event p 0) (get_or m.next p 0)
      works = subst (PlaceRelatedAt τ (suc t) ((full s t).job p) (get_or m.left p 0) (get_or m.event p 0) (get_or m.next p 0)) claims (h.done p l l)

      marked : bit even p ≡ even_job τ (newest τ t)
      marked =
          parity-works τ (ok p l) (suc t) ((full s t).job p) (get_or m.left p 0) (get_or m.event p 0) (get_or m.next p 0) (bit even p) works (turns p l)
          ∙ ap (even_job τ)
          (sym
          (works-newest s.rule τ (ok p l) t ((full s t).job p) (full-claimed s t p) (get_or m.left p 0) (get_or m.event p 0) (get_or m.next p 0) works))

      read : (b : Bool) → bit even p ≡ b → width_in even v p ≡ cond b τ.even_width τ.odd_width
      read true e = ap (λ (b : Bool). get_or v (cond b (32 + p) p) 0) e ∙ of.even-widths p l
      read false e = ap (λ (b : Bool). get_or v (cond b (32 + p) p) 0) e ∙ of.odd-widths p l
