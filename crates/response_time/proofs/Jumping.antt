-- A JUMP AND THE RESPONSE TIMES: the places that claim no more where it ends are those whose job has ended, and its time is the tick less its release.
use mathlib.Core.Path.{◌≡◌, refl, sym, ap, ap₂, ◌∙◌, subst, subst₂}
use mathlib.Core.Bool.{Bool, true, false, not, ◌&&◌, cond, true≢false, false≢true}
use mathlib.Core.List.{List}
use Prim.Native.Nat.{ℕ, suc, ◌+◌, ◌-◌, ◌^◌, ◌≤◌, ◌<◌, max}
use native.Mathlib.Nat.{le_trans}
use native.Mathlib.Omega.{arith}
use lib.Bits.{bit_and, bit_xor}
use lib.Dec.{leb}
use lib.ListN.{length, get_or, get_or-eq_default}
use borrow.Author.Tests.{leb-true, leb-false, not-true}
use Rattle.model.proofs.Jobs.{release-one}
use Rattle.model.specs.Search.{bit}
use Rattle.model.specs.Task.{Task, Table, task, release}
use Rattle.model.specs.Jobs.{Job}
use Rattle.model.specs.Lists.{full, Missed, NeverMissed}
use Rattle.model.proofs.Bools.{and_left, and_right}
use Rattle.model.proofs.Digits.{without-bit}
use Rattle.table.specs.declared.Loaded.{Loaded}
use Rattle.simulation.specs.Machine.{Machine}
use Rattle.simulation.specs.TickState.{Numbers, loaded_numbers}
use Rattle.simulation.specs.PlaceRelation.{PlaceWorks, PlaceRests}
use Rattle.table.specs.Fit.{loaded_table, Fit}
use Rattle.simulation.proofs.AtTick.{size, few, columns}
use Rattle.simulation.specs.EventState.{EventState, PlaceRepresents, MachineRepresents, StateRepresents}
use Rattle.simulation.specs.Jump.{after_handling, granted_in_jump, ticks_in_jump, elapsed, jumped, JumpStarts, JumpLands}
use Rattle.simulation.proofs.JumpLands.{represents-handled, lands}
use Rattle.simulation.proofs.Passing.{passed-claims}
use Rattle.response_time.specs.Recording.{response_at, recorded}
use Rattle.response_time.specs.Response.{worst_response_by}
use Rattle.response_time.proofs.Counted.{worst-response-same, worst-response-more}
use Rattle.response_time.proofs.Ends.{Ended, works-ended, rests-ended, ended_same, ended-more, open-until}
use Rattle.response_time.proofs.Recorded.{noted-at, noted-length}

-- the set of the places whose job has ended in a state: they claimed when the cores were chosen, and claim no more
abbrev pub ended_set : EventState → ℕ
ended_set s = bit_and s.chosen (bit_xor s.chosen s.machine.claiming)

-- what is recorded at tick u: 32 response times; those of the tasks are the longest so far, if no deadline is ever missed; those past the count are 0
pub record Noted (t : Loaded) (u : ℕ) (xs : List ℕ) : Type 0 where
  pub size : length xs ≡ 32
  pub figures : NeverMissed (loaded_table t) → (p : ℕ) → p < length (loaded_table t).tasks → get_or xs p 0 ≡ worst_response_by (loaded_table t) p u
  pub past : (p : ℕ) → length (loaded_table t).tasks ≤ p → get_or xs p 0 ≡ 0

module _ (t : Loaded) (fit : Fit t) (s : EventState) (h : StateRepresents t s) (met : (p : ℕ) → ¬ Missed (loaded_table t) p s.tick) where
  abbrev book : Table
  book = loaded_table t

  abbrev n : Numbers
  n = loaded_numbers t

  -- once the due places have been handled, and where the jump ends
  abbrev m : Machine
  m = after_handling n s

  abbrev there : EventState
  there = jumped n s

  abbrev u : ℕ
  u = there.tick

  landing : JumpLands t s there
  landing = lands t fit s h met

  looked : MachineRepresents book s.tick (suc s.tick) m
  looked = represents-handled t fit s h met

  -- whether a place claims before the jump's ticks and after them, and its next release, which stays
  abbrev c : ℕ → Bool
  c p = bit m.claiming p

  abbrev c' : ℕ → Bool
  c' p = bit there.machine.claiming p

  abbrev N : ℕ → ℕ
  N p = get_or m.next p 0

  same_next : (p : ℕ) → get_or there.machine.next p 0 ≡ N p
  unfolding jumped elapsed
  same_next p = refl

  chosen-claims : (p : ℕ) → bit there.chosen p ≡ c p
  unfolding jumped
  chosen-claims p = refl

  -- the set has just the places that claimed and claim no more
  pub ended-exact : (p : ℕ) → bit (ended_set there) p ≡ c p && not (c' p)
  ended-exact p = without-bit there.chosen there.machine.claiming p ∙ ap (λ (b : Bool). b && not (c' p)) (chosen-claims p)

  -- no place begins to claim in a jump's ticks
  claims-before : (p : ℕ) → p < 32 → c' p ≡ true → c p ≡ true
  unfolding jumped
  claims-before p l e = and_left (c p) _ (sym (passed-claims (ticks_in_jump n s) (bit (granted_in_jump n s)) m p l) ∙ e)

  module _ (p : ℕ) (l : p < length book.tasks) where
    abbrev τ : Task
    τ = task book p

    abbrev js : ℕ → Job
    js = (full book s.tick).job p

    abbrev js' : ℕ → Job
    js' = (full book u).job p

    -- THE PLACE before the jump's ticks and after them, as it works or rests
    works : c p ≡ true → PlaceWorks τ (suc s.tick) js (get_or m.left p 0) (get_or m.event p 0) (N p)
    works e = go (c p) e (looked.places p l)
      where
        go : (b : Bool) → b ≡ true → PlaceRepresents τ (suc s.tick) js (get_or m.left p 0) (get_or m.event p 0) (N p) b
            → PlaceWorks τ (suc s.tick) js (get_or m.left p 0) (get_or m.event p 0) (N p)
        go true q x = x.related
        go false q x = absurd (false≢true q)

    rests : c p ≡ false → PlaceRests τ (suc s.tick) js (get_or m.left p 0) (N p) (N p)
    rests e = go (c p) e (looked.places p l)
      where
        go : (b : Bool) → b ≡ false → PlaceRepresents τ (suc s.tick) js (get_or m.left p 0) (get_or m.event p 0) (N p) b
            → PlaceRests τ (suc s.tick) js (get_or m.left p 0) (N p) (N p)
        go true q x = absurd (true≢false q)
        go false q x = x.related

    abbrev L' : ℕ
    L' = get_or there.machine.left p 0

    abbrev M' : ℕ
    M' = get_or there.machine.event p 0

    abbrev N' : ℕ
    N' = get_or there.machine.next p 0

    works' : c' p ≡ true → PlaceWorks τ u js' L' M' N'
    works' e = go (c' p) e (landing.represents.machines.places p l)
      where
        go : (b : Bool) → b ≡ true → PlaceRepresents τ u js' L' M' N' b → PlaceWorks τ u js' L' M' N'
        go true q x = x.related
        go false q x = absurd (false≢true q)

    rests' : c' p ≡ false → PlaceRests τ u js' L' N' N'
    rests' e = go (c' p) e (landing.represents.machines.places p l)
      where
        go : (b : Bool) → b ≡ false → PlaceRepresents τ u js' L' M' N' b → PlaceRests τ u js' L' N' N'
        go true q x = absurd (true≢false q)
        go false q x = x.related

    -- IT WORKED AND RESTS: the job that it worked on has ended
    pub record Last : Type 0 where
      pub job : ℕ
      pub begun : release τ job ≤ s.tick
      pub next : N p ≡ release τ job + τ.period
      pub near : u ≤ N p
      pub was : Ended js job
      pub is : Ended js' (suc job)

    pub last : c p ≡ true → c' p ≡ false → Last
    last e e' =
        let w = works e in
        let r = rests' e' in
        let one : r.number ≡ suc w.number =
        release-one τ (fit.valid p l) r.number (suc w.number) (sym r.following ∙ (same_next p ∙ w.following)) in
        record {
          job = w.number;
          begun = omega (arith, w.begun);
          next = omega (arith, w.following);
          near = omega (arith, r.event, r.following, r.ahead_of, same_next p);
          was = works-ended τ (suc s.tick) js _ _ _ w;
          is = subst (Ended js') one (rests-ended τ u js' _ _ _ r);
        }

    -- ELSE no job of it has ended
    same-works : c p ≡ true → c' p ≡ true → (k : ℕ) → (js' k).ended ≡ (js k).ended
    same-works e e' =
        let w = works e in
        let w' = works' e' in
        let one : suc w'.number ≡ suc w.number =
        release-one τ (fit.valid p l) (suc w'.number) (suc w.number) (sym w'.following ∙ (same_next p ∙ w.following)) in
        ended_same js js' w.number (works-ended τ (suc s.tick) js _ _ _ w)
        (subst (Ended js') (omega arith) (works-ended τ u js' _ _ _ w'))

    same-rests : c p ≡ false → c' p ≡ false → (k : ℕ) → (js' k).ended ≡ (js k).ended
    same-rests e e' =
        let r = rests e in
        let r' = rests' e' in
        let one : r'.number ≡ r.number =
        release-one τ (fit.valid p l) r'.number r.number (sym r'.following ∙ (same_next p ∙ r.following)) in
        ended_same js js' r.number (rests-ended τ (suc s.tick) js _ _ _ r) (subst (Ended js') one (rests-ended τ u js' _ _ _ r'))

    -- what is recorded at the place
    module _ (nm : NeverMissed book) (x : ℕ) (so_far : x ≡ worst_response_by book p s.tick) where
      later : s.tick < u
      later = landing.next.after

      abbrev time : ℕ
      time = response_at u n.periods there.machine.next p

      noted-last : c p ≡ true → c' p ≡ false → max x time ≡ worst_response_by book p u
      noted-last e e' =
          let z = last e e' in
          let over : u ≡ suc (s.tick + (u - s.tick - 1)) = omega (arith, later) in
          let more : worst_response_by book p (suc (s.tick + (u - s.tick - 1))) ≡ max (worst_response_by book p s.tick) (suc (s.tick + (u - s.tick - 1)) - release τ z.job) =
          worst-response-more book fit.valid nm p l s.tick (s.tick + (u - s.tick - 1)) z.job (omega arith) (omega (arith, z.begun))
          (open-until book p z.job s.tick u l landing.next.first (z.was.from z.job (omega arith)) (u - s.tick - 1) (omega (arith, later)))
          (subst (λ (v : ℕ). ((full book v).job p z.job).ended ≡ true) over (z.is.below z.job (omega arith)))
          (λ k ne. subst (λ (v : ℕ). ((full book v).job p k).ended ≡ (js k).ended) over (ended-more js js' z.job z.was z.is k ne)) in
          let same : time ≡ suc (s.tick + (u - s.tick - 1)) - release τ z.job =
          omega (arith, over, z.next, same_next p, (columns t fit).periods p l) in
          ap₂ max so_far same ∙ (sym more ∙ ap (worst_response_by book p) (sym over))

      noted_here : cond (c p && not (c' p)) (max x time) x ≡ worst_response_by book p u
      noted_here = go (c p) refl (c' p) refl
        where
          still : ((k : ℕ) → (js' k).ended ≡ (js k).ended) → x ≡ worst_response_by book p u
          still e = so_far ∙ sym (worst-response-same book fit.valid nm p l s.tick u (omega (arith, later)) e)

          go : (b : Bool) → c p ≡ b → (b' : Bool) → c' p ≡ b' → cond (b && not b') (max x time) x ≡ worst_response_by book p u
          go true e true e' = still (same-works e e')
          go true e false e' = noted-last e e'
          go false e true e' = absurd (true≢false (sym (claims-before p (le_trans l (few t fit)) e') ∙ e))
          go false e false e' = still (same-rests e e')

  -- a place that is in the set is one of the tasks
  ended-past : (p : ℕ) → length book.tasks ≤ p → bit (ended_set there) p ≡ false
  ended-past p l = ended-exact p ∙ ap (λ (b : Bool). b && not (c' p)) (looked.beyond p l)

  pub ended-inside : (p : ℕ) → bit (ended_set there) p ≡ true → p < length book.tasks
  ended-inside p e = go (leb (length book.tasks) p) refl
    where
      go : (b : Bool) → leb (length book.tasks) p ≡ b → p < length book.tasks
      go true q = absurd (true≢false (sym e ∙ ended-past p (leb-true (length book.tasks) p q)))
      go false q = leb-false (length book.tasks) p q

  -- THE RESPONSE TIMES where the jump ends
  pub noted-next : (xs : List ℕ) → Noted t s.tick xs → Noted t u (recorded (bit (ended_set there)) u n.periods there.machine.next xs)
  noted-next xs x = record {
    size = noted-length u n.periods there.machine.next xs (bit (ended_set there)) ∙ x.size;
    figures = λ nm p l.
        at p (omega (arith, x.size, le_trans l (few t fit)))
        ∙ (ap (λ (b : Bool). cond b (max (get_or xs p 0) (response_at u n.periods there.machine.next p)) (get_or xs p 0)) (ended-exact p)
        ∙ noted_here p l nm (get_or xs p 0) (x.figures nm p l));
    past = λ p l. go p l (leb 32 p) refl;
  }
    where
      ys : List ℕ
      ys = recorded (bit (ended_set there)) u n.periods there.machine.next xs

      at : (p : ℕ) → p < length xs
          → get_or ys p 0 ≡ cond (bit (ended_set there) p) (max (get_or xs p 0) (response_at u n.periods there.machine.next p)) (get_or xs p 0)
      at p l = noted-at u n.periods there.machine.next xs (bit (ended_set there)) p l

      go : (p : ℕ) → length book.tasks ≤ p → (b : Bool) → leb 32 p ≡ b → get_or ys p 0 ≡ 0
      go p l true q =
          let z : length ys ≤ p =
          omega (arith, noted-length u n.periods there.machine.next xs (bit (ended_set there)), x.size, leb-true 32 p q) in
          get_or-eq_default ys 0 z
      go p l false q =
          at p (omega (arith, x.size, leb-false 32 p q))
          ∙ (ap (λ (b : Bool). cond b (max (get_or xs p 0) (response_at u n.periods there.machine.next p)) (get_or xs p 0)) (ended-past p l) ∙ x.past p l)

  -- WHAT CODE NEEDS to work out the times
  pub times-small :
      s.tick ≤ t.horizon → (p : ℕ) → bit (ended_set there) p ≡ true
      → (u + get_or n.periods p 0 < 2 ^ 32) × (get_or there.machine.next p 0 ≤ u + get_or n.periods p 0)
  times-small early p e =
      let l : p < length book.tasks = ended-inside p e in
      let b : c p && not (c' p) ≡ true = sym (ended-exact p) ∙ e in
      let z = last p l (and_left (c p) (not (c' p)) b) (not-true (c' p) (and_right (c p) (not (c' p)) b)) in
      let T = (columns t fit).periods p l in
      let short = fit.short p (omega (arith, size t fit)) in (
        omega (arith, z.begun, z.next, z.near, T, short, early, fit.limit),
        omega (arith, z.begun, z.next, T, same_next p, landing.next.after),
      )

-- OF A JUMP as code has taken it, of the numbers n from s to s'

module _ (t : Loaded) (n : Numbers) (s s' : EventState) (b : JumpStarts t n s) (e : s' ≡ jumped n s) where
  there-is : s' ≡ jumped (loaded_numbers t) s
  there-is = e ∙ ap (λ (x : Numbers). jumped x s) b.numbers

  -- the response times where it ends
  pub jump-recorded :
      (xs : List ℕ) → Noted t s.tick xs
      → (ys : List ℕ) → ys ≡ recorded (bit (ended_set s')) s'.tick n.periods s'.machine.next xs → Noted t s'.tick ys
  jump-recorded xs x ys q =
      subst (Noted t s'.tick) (sym q)
      (subst₂ (λ (k : Numbers) (w : EventState). Noted t w.tick (recorded (bit (ended_set w)) w.tick k.periods w.machine.next xs))
      (sym b.numbers) (sym there-is) (noted-next t b.fit s b.represents b.met xs x))

  pub jump_small :
      (p : ℕ) → bit (ended_set s') p ≡ true
      → (s'.tick + get_or n.periods p 0 < 2 ^ 32) × (get_or s'.machine.next p 0 ≤ s'.tick + get_or n.periods p 0)
  jump_small =
      subst₂
      (λ (k : Numbers) (w : EventState).
      (p : ℕ) → bit (ended_set w) p ≡ true → (w.tick + get_or k.periods p 0 < 2 ^ 32) × (get_or w.machine.next p 0 ≤ w.tick + get_or k.periods p 0))
      (sym b.numbers) (sym there-is) (times-small t b.fit s b.represents b.met b.early)
