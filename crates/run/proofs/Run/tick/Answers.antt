-- `run::Run::tick`: 14 by the head or by a place, 15 by the lowest late place and 20 by one test of sets, in this order (`Cases`); else the cores are
-- those that are given, lent and shown (`Chosen`).
use Rattle.std.proofs.Common.{◌≡◌, ◌∙◌, ◌+◌, ◌^◌, ◌≤◌, ◌<◌, ℕ, List, Err, add-one, ap, arith, false, not, suc, subst, sym, true}
use lib.Count.{count_trailing_zeros}
use borrow.Author.Rules.{rules}
use borrow.Author.Tests.{eq-eqb, ne_eqb}
use mir.Syntax.{w32}
use mir.Val.{Fits}
use Rattle.model.specs.Sizes.{most_tasks}
use Rattle.model.specs.declared.refusal.Refusal.{Refusal}
use Rattle.model.specs.declared.refusal.Refusal.TheVariants.{NotARun, Late, BadEmpty}
use Rattle.model.proofs.Digits.{same_set}
use Rattle.model.proofs.Search.{least-none}
use Rattle.cores.proofs.Unfenced.{open_of}
use Rattle.run.specs.declared.Run.{Run}
use Rattle.run.specs.declared.choosing.Claims.{Claims}
use Rattle.run.specs.Allocation.{AllocationOf}
use Rattle.run.specs.Answer.{Refused}
use Rattle.run.specs.Claims.{ClaimsOf}
use Rattle.run.specs.Numbers.{first_late_in, late_at, place_out, run_out}
use Rattle.run.specs.Run.{rule_in}
use Rattle.run.specs.Sets.{Sets, no_sets, sets_asked, sets_of}
use Rattle.run.specs.Tick.{TickOf}
use Rattle.run.proofs.Cases.{sets-answer, sets-empty, sets-late, sets-out, sets-shown, working-by}
use Rattle.run.proofs.Chosen.{has-cores, has-lent, may-begin, may-end, same-sets, ws}
use Rattle.run.proofs.Found.{none-gathered, some-gathered}
use Rattle.run.proofs.RunOut.{head-few-cores, head_out, out-by-head, out-by-place}
use Rattle.run.proofs.Working.{works_at}
use Rattle.run.proofs.Run.tick.Goals as goal

-- a tick that is refused
refused : (r : Run) (e : ℕ) (x : Refusal) → sets_of r e ≡ sets_asked (Err x) → TickOf r e (Err x)
refused r e x q = record { answered = sym (ap (λ (w : Sets). w.answer) q); holds = tt }

-- once the claims are gathered of a run whose head passes 14
module _ (r : Run) (e : ℕ) (k : Claims) (h : ClaimsOf r e k) (head : head_out r ≡ false) where
  out-somewhere : k.broken < 2 ^ 32 → 0 < k.broken → run_out r ≡ true
  out-somewhere small some = out-by-place r head ∙ (some-gathered (place_out r) r.count k.broken h.outside-limits 32 small some).1

  passes : k.broken ≤ 0 → run_out r ≡ false
  passes none = out-by-place r head ∙ none-gathered (place_out r) r.count k.broken h.outside-limits (omega arith)

  -- the lowest late place is the first late one ..
  first-late : k.late < 2 ^ 32 → 0 < k.late → (count_trailing_zeros 32 k.late < r.count) × (first_late_in r ≡ count_trailing_zeros 32 k.late)
  unfolding first_late_in
  first-late small some = let f = some-gathered (late_at r) r.count k.late h.being-late 32 small some in (f.0, f.2)

  -- .. or no task is late
  none-late : k.late ≤ 0 → r.count ≤ first_late_in r
  unfolding first_late_in
  none-late none = let n = least-none r.count (late_at r) (none-gathered (late_at r) r.count k.late h.being-late (omega arith)) in omega (arith, n)

  late : k.late < 2 ^ 32 → k.broken ≤ 0 → 0 < k.late → TickOf r e (Err (Late (count_trailing_zeros 32 k.late + 1)))
  late small fine some =
      let f = first-late small some in
      let at : suc (first_late_in r) ≡ count_trailing_zeros 32 k.late + 1 = ap (λ (n : ℕ). suc n) f.1 ∙ sym (add-one (count_trailing_zeros 32 k.late)) in
      refused r e (Late (count_trailing_zeros 32 k.late + 1))
      (sets-late r e (passes fine) (omega (arith, f.0, f.1)) ∙ ap (λ (n : ℕ). record { answer = Refused 15 n; sets = no_sets }) at)

pub returns-then-head_out : goal.returns-then-head_out
returns-then-head_out c =
    let a = c.args in
    refused a.self a.empties NotARun (sets-out a.self a.empties (out-by-head a.self (sym c.head_out.ensures ∙ c.if-head_out.true)))

pub returns-then-claims-gt0 : goal.returns-then-claims-gt0
returns-then-claims-gt0 c =
    let a = c.args in
    let k = c.claims-claims in
    let small : Fits w32 k.result.broken = search rules in
    refused a.self a.empties NotARun
    (sets-out a.self a.empties
    (out-somewhere a.self a.empties k.result k.ensures (sym c.head_out.ensures ∙ c.if-head_out.false) small.fits c.if-claims-gt0.true))

pub returns-then-claims-gt0-2 : goal.returns-then-claims-gt0-2
returns-then-claims-gt0-2 c =
    let a = c.args in
    let k = c.claims-claims in
    let small : Fits w32 k.result.late = search rules in
    late a.self a.empties k.result k.ensures (sym c.head_out.ensures ∙ c.if-head_out.false) small.fits c.if-claims-gt0.false c.if-claims-gt0-2.true

-- 20 is decided by one test of sets
pub returns-then-begun-empties : goal.returns-then-begun-empties
returns-then-begun-empties c =
    let a = c.args in
    let k = c.claims-claims in
    let head = sym c.head_out.ensures ∙ c.if-head_out.false in
    refused a.self a.empties BadEmpty
    (sets-empty a.self a.empties (passes a.self a.empties k.result k.ensures head c.if-claims-gt0.false)
    (none-late a.self a.empties k.result k.ensures head c.if-claims-gt0-2.false)
    (may-begin a.self a.empties k.result k.ensures most_tasks c.ranges.empties.fits ∙ ap not (ne_eqb _ _ c.if-begun-empties.true)))

pub returns : goal.returns
returns c =
    let a = c.args in
    let k = c.claims-claims in
    let head = sym c.head_out.ensures ∙ c.if-head_out.false in
    let s = c.allocate-shares in
    -- the cores that are shared are those outside the fence
    let shared =
    subst (λ (F : List ℕ). AllocationOf (rule_in a.self) (ws a.self a.empties k.result k.ensures) k.result.claiming k.result.working F a.self.count s.result)
    (open_of c.unfenced_cores-free.result a.self.fence a.self.cores (head-few-cores a.self head) c.unfenced_cores-free.ensures) s.ensures in
    let q =
    sets-shown a.self a.empties (passes a.self a.empties k.result k.ensures head c.if-claims-gt0.false)
    (none-late a.self a.empties k.result k.ensures head c.if-claims-gt0-2.false)
    (may-begin a.self a.empties k.result k.ensures most_tasks c.ranges.empties.fits ∙ ap not (eq-eqb _ _ c.if-begun-empties.false)) in
    let w = sym (sets-answer a.self a.empties) ∙ ap (λ (w : Sets). w.answer) q in
    record {
      answered = sym (ap (λ (w : Sets). w.answer) q);
      holds = record {
        shows = same-sets a.self a.empties k.result k.ensures s.result shared ∙ sym (ap (λ (w : Sets). w.sets) q);
        gives = has-cores a.self a.empties k.result k.ensures s.result shared;
        lends = has-lent a.self a.empties k.result k.ensures s.result shared;
        works =
            same_set _ _ (λ p. may-end a.self a.empties k.result k.ensures s.result shared p ∙ sym (works_at a.self a.empties w p))
            ∙ sym (working-by a.self a.empties w);
      };
    }
