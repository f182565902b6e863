-- THE RELATION, over a whole run: up to the first miss the machine stepped from tick 0 is related to the full-length run of the book.
use mathlib.Core.Bool.{Bool}
use mathlib.Core.List.{List, []}
use Prim.Native.Nat.{ℕ, zero, suc, ◌≤◌, ◌<◌}
use native.Mathlib.Omega.{arith}
use lib.ListN.{length, get_or}
use Rattle.model.specs.Fence.{unfenced_cores}
use Rattle.model.specs.Search.{bit}
use Rattle.model.specs.Task.{Table, AllValid}
use Rattle.model.specs.Grants.{claimants, grants, some}
use Rattle.model.specs.Lists.{Missed}
use Rattle.rule.specs.Widths.{widths_in}
use Rattle.simulation.specs.Machine.{Machine, started, released_due, worked_tick}
use Rattle.simulation.specs.TickState.{toggled_by}
use Rattle.simulation.proofs.MachineRelated.{MachineRelated, Ready, Columns, related-start, tick-keeps}
use Rattle.simulation.proofs.WidthParity.{WidthToggled, Paired, toggled-start, toggled-due, toggled-tick}
use Rattle.simulation.proofs.Walk.{due-walked}
use Rattle.simulation.proofs.SameClaimants.{all-agree, row-places}

-- a run before a tick: its machine, and the places that are at their second width
pub record Run : Type 0 where
  pub machine : Machine
  pub even : ℕ

-- the places that the rule gives cores, from the machine's claimants and their widths
abbrev pub granted : Table → List ℕ → Machine → ℕ → ℕ → Bool
granted s v m even p = some (get_or (grants s.rule (claimants (widths_in even v) (bit m.claiming)) (unfenced_cores s)) p [])

-- the due events of tick t: the machine after them, and the places at their second width then; q is the set of the places with two
abbrev pub events-handled : Table → List ℕ → List ℕ → List ℕ → ℕ → Run → Machine
events-handled s C D T t r = released_due t C D T (length s.tasks) r.machine

abbrev pub width-toggled : Table → ℕ → List ℕ → List ℕ → List ℕ → ℕ → Run → ℕ
width-toggled s q C D T t r = toggled_by q r.even r.machine.claiming (events-handled s C D T t r).claiming

-- tick t, from the run before it: its due events, then the tick of the places that are granted cores
abbrev pub stepped : Table → ℕ → List ℕ → List ℕ → List ℕ → List ℕ → ℕ → Run → Run
stepped s q v C D T t r = record {
  machine = worked_tick (granted s v (events-handled s C D T t r) (width-toggled s q C D T t r)) (events-handled s C D T t r);
  even = width-toggled s q C D T t r;
}

-- the run before tick t
unfoldable pub run_at : Table → ℕ → List ℕ → List ℕ → List ℕ → List ℕ → List ℕ → ℕ → Run
run_at s q O v C D T zero = record { machine = started O; even = q }
run_at s q O v C D T (suc t) = stepped s q v C D T t (run_at s q O v C D T t)

-- a run is related to the book, and so are its widths
pub record RefinesFull (s : Table) (t : ℕ) (r : Run) : Type 0 where
  pub related : MachineRelated s t r.machine
  pub toggles : WidthToggled s r.machine r.even

module _
    (s : Table) (ok : AllValid s) (few : length s.tasks ≤ 32) (q : ℕ) (two : Paired s q) (O v C D T : List ℕ) (of : Columns s O v C D T)
  where
    -- where no deadline is missed at t, the due events leave the machine ready, with the widths of the jobs that are released
    pub ready : (t : ℕ) (r : Run) → RefinesFull s t r → ((p : ℕ) → ¬ Missed s p t) → Ready s t (events-handled s C D T t r)
    ready t r h met = due-walked s ok few O v C D T of t r.machine h.related met (length s.tasks) (omega arith)

    pub turns : (t : ℕ) (r : Run) → RefinesFull s t r → ((p : ℕ) → ¬ Missed s p t) → WidthToggled s (events-handled s C D T t r) (width-toggled s q C D T t r)
    turns t r h met = toggled-due s ok t r.machine (events-handled s C D T t r) q r.even h.related (ready t r h met) two h.toggles

    -- and the tick preserves the relation
    pub step_keeps : (t : ℕ) (r : Run) → RefinesFull s t r → ((p : ℕ) → ¬ Missed s p t) → RefinesFull s (suc t) (stepped s q v C D T t r)
    step_keeps t r h met =
        let m = events-handled s C D T t r in
        let e = width-toggled s q C D T t r in
        let a = all-agree s ok few t m e (ready t r h met) (turns t r h met) O v C D T of in
        record {
          related = tick-keeps s ok few t m (ready t r h met) (granted s v m e) (λ p l. row-places s ok t m (ready t r h met) (widths_in e v) a p);
          toggles = toggled-tick s ok m e (granted s v m e) (turns t r h met);
        }

    -- THEOREM (machine-refines)
    pub machine-refines : (n : ℕ) → ((t p : ℕ) → t < n → ¬ Missed s p t) → RefinesFull s n (run_at s q O v C D T n)
    unfolding run_at
    machine-refines zero met = record { related = related-start s ok few O of.places of.offsets; toggles = toggled-start s ok O q of.offsets two }
    machine-refines (suc n) met =
        step_keeps n (run_at s q O v C D T n) (machine-refines n (λ t p b. met t p (omega arith))) (λ p. met n p (omega arith))
