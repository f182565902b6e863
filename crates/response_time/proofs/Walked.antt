-- The walk over the jumps: where it begins, what it finds late, and what it has recorded past the horizon.
use mathlib.Core.Path.{◌≡◌, refl, sym, ap, ◌∙◌}
use mathlib.Core.Bool.{Bool, true, false, ◌&&◌, cond, false≢true}
use mathlib.Core.List.{List}
use Prim.Native.Nat.{ℕ, suc, ◌≤◌, ◌<◌}
use native.Mathlib.Nat.{le_trans}
use native.Mathlib.Omega.{arith}
use lib.Bits.{bit_and}
use lib.Dec.{leb, ltb}
use lib.ListN.{length, get_or, replicate}
use lib.Seq.{ext_get_or}
use borrow.Author.Tests.{eqb-true, leb-true, leb-false, lt-ltb, ltb-true}
use Rattle.model.specs.Search.{bit}
use Rattle.model.specs.Task.{Table, task}
use Rattle.model.specs.Lists.{full, Missed, NeverMissed}
use Rattle.model.specs.Firm.{firm}
use Rattle.model.proofs.Bools.{and_both, and_left, and_right}
use Rattle.model.proofs.Digits.{and-bit}
use Rattle.model.proofs.Horizon.{horizon-enough}
use Rattle.model.proofs.Lists.{get_d-zeros}
use Rattle.model.proofs.Runs.{missed-at}
use Rattle.model.proofs.Search.{any_some, none-at}
use Rattle.table.specs.declared.Loaded.{Loaded}
use Rattle.judge.specs.declared.Verdict.TheVariants.{Firm, Full}
use Rattle.judge.specs.FirstMiss as missed
use Rattle.judge.specs.FirstMiss.{Never, At}
use Rattle.judge.specs.FirstMiss.{missed_before, by_miss}
use Rattle.table.specs.Fit.{loaded_table, Fit}
use Rattle.judge.specs.Judged.{accepted_of}
use Rattle.judge.proofs.FirstMiss.{by-none, found, never-found}
use Rattle.simulation.proofs.AtTick.{few}
use Rattle.simulation.specs.EventState.{EventState, StateRepresents, MetBefore}
use Rattle.simulation.proofs.JumpLands.{due-exact, due-inside, missed-due}
use Rattle.simulation.proofs.Handled.{late-has}
use Rattle.simulation.proofs.Represents.{none_left}
use Rattle.response_time.specs.ResponseTimes.{response_times_in, response_times_by, given_times, no_times}
use Rattle.response_time.specs.Recording.{any_left}
use Rattle.response_time.proofs.Counted.{worst-response-start, worst-response-after}
use Rattle.response_time.proofs.Jumping.{Noted}
use Rattle.response_time.proofs.Listed.{figures-at, figures-length, figures-past}

module _ (t : Loaded) (fit : Fit t) where
  abbrev book : Table
  book = loaded_table t

  -- AT TICK 0 all response times are 0
  pub noted-start : Noted t 0 (replicate 32 0)
  noted-start = record {
    size = refl;
    figures = λ nm p l. get_d-zeros 32 p ∙ sym (worst-response-start book fit.valid nm p l);
    past = λ p l. get_d-zeros 32 p;
  }

  -- LATE OR NOT: a due claimant with ticks left misses its deadline, and there is no other that does
  module _ (s : EventState) (h : StateRepresents t s) where
    abbrev due_claimants : ℕ
    due_claimants = bit_and s.machine.claiming s.due

    abbrev owes : ℕ → Bool
    owes p = bit due_claimants p && ltb 0 (get_or s.machine.left p 0)

    pub late-misses : true ≡ any_left due_claimants s.machine.left → (p : ℕ) × Missed book p s.tick
    unfolding any_left
    late-misses e =
        let x = any_some 32 owes (sym e) in
        let p : ℕ = x.0 in
        let on : bit s.due p ≡ true =
        and_right (bit s.machine.claiming p) (bit s.due p)
        (sym (and-bit s.machine.claiming s.due p) ∙ and_left (bit due_claimants p) (ltb 0 (get_or s.machine.left p 0)) x.2) in
        let some : 0 < get_or s.machine.left p 0 =
        ltb-true 0 (get_or s.machine.left p 0) (and_right (bit due_claimants p) (ltb 0 (get_or s.machine.left p 0)) x.2) in
        let l : p < length book.tasks = due-inside t fit s h p on in
        let y = late-has (task book p) s.tick ((full book s.tick).job p) (get_or s.machine.left p 0) (get_or s.machine.event p 0)
        (get_or s.machine.next p 0) (bit s.machine.claiming p) (h.machines.places p l)
        (eqb-true (get_or s.machine.event p 0) s.tick (sym (due-exact t fit s h p l) ∙ on)) some in
        (p, missed-at book p s.tick y.0 l y.1 y.2)

    pub none-misses : false ≡ any_left due_claimants s.machine.left → (p : ℕ) → ¬ Missed book p s.tick
    unfolding any_left
    none-misses e p x = false≢true (sym (none-at 32 owes p (sym e) (le_trans x.0 (few t fit))) ∙ owing)
      where
        y : (bit s.due p ≡ true) × (0 < get_or s.machine.left p 0)
        y = missed-due t fit s h p x

        claiming : (b : Bool) → bit s.machine.claiming p ≡ b → bit s.machine.claiming p ≡ true
        claiming true q = q
        claiming false q =
            let z = none_left (task book p) s.tick ((full book s.tick).job p) (get_or s.machine.left p 0) (get_or s.machine.event p 0)
            (get_or s.machine.next p 0) (bit s.machine.claiming p) (h.machines.places p x.0) q in
            absurd (omega (arith, y.1, z))

        owing : owes p ≡ true
        owing =
            and_both (bit due_claimants p) (ltb 0 (get_or s.machine.left p 0))
            (and-bit s.machine.claiming s.due p ∙ and_both (bit s.machine.claiming p) (bit s.due p) (claiming (bit s.machine.claiming p) refl) y.0)
            (lt-ltb 0 (get_or s.machine.left p 0) y.1)

  -- THE ANSWER

  -- a deadline is missed by the horizon: 13
  pub missed-answer :
      (p w : ℕ) → w ≤ t.horizon → Missed book p w
      → no_times 13 0 ≡ response_times_by (by_miss (missed_before book (suc t.horizon)) (accepted_of t)) (response_times_in book)
  missed-answer p w h x = go (missed_before book (suc t.horizon)) refl
    where
      go : (m : missed.Missed) → missed_before book (suc t.horizon) ≡ m → no_times 13 0 ≡ response_times_by (by_miss m (accepted_of t)) (response_times_in book)
      go Never e =
          absurd (false≢true (sym (never-found book (suc t.horizon) e) ∙ found book fit.valid (suc t.horizon) p w (omega arith) x))
      go (At u q) e = refl

  -- none is: what is recorded past the horizon are the response times
  module _ (u : ℕ) (past : t.horizon < u) (met : MetBefore book u) where
    never : NeverMissed book
    never = horizon-enough book fit.valid (λ p w h. met p w (omega (arith, fit.horizon)))

    pub noted-whole : (xs : List ℕ) → Noted t u xs → xs ≡ response_times_in book
    noted-whole xs x = ext_get_or 0 xs (response_times_in book) (x.size ∙ sym (figures-length book (few t fit))) (λ p l. go p (leb (length book.tasks) p) refl)
      where
        go : (p : ℕ) (b : Bool) → leb (length book.tasks) p ≡ b → get_or xs p 0 ≡ get_or (response_times_in book) p 0
        go p true e = let l = leb-true (length book.tasks) p e in x.past p l ∙ sym (figures-past book p l)
        go p false e =
            let l = leb-false (length book.tasks) p e in
            x.figures never p l
            ∙ (worst-response-after book fit.valid never p l u (omega (arith, fit.horizon)) ∙ sym (figures-at book p l))

    pub met-answer : (xs : List ℕ) → Noted t u xs → given_times xs ≡ response_times_by (by_miss (missed_before book (suc t.horizon)) (accepted_of t)) (response_times_in book)
    met-answer xs x =
        ap given_times (noted-whole xs x)
        ∙ (given_by (firm book.rule book.tasks)
        ∙ ap (λ (m : missed.Missed). response_times_by (by_miss m (accepted_of t)) (response_times_in book))
        (by-none book fit.valid (suc t.horizon) (λ p w h. met p w (omega arith))).value)
      where
        given_by : (b : Bool) → given_times (response_times_in book) ≡ response_times_by (cond b (Firm t.start t.period) (Full t.start t.period)) (response_times_in book)
        given_by true = refl
        given_by false = refl
