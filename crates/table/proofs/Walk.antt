-- The walk along the chain: it stops within as many steps as there are records, and what it stops at.
use mathlib.Core.Path.{◌≡◌, sym, subst}
use mathlib.Core.Bool.{true, false}
use mathlib.Core.List.{List}
use mathlib.Core.Logic.{inl, inr, ⊎_elim}
use Prim.Native.Nat.{ℕ, suc, ◌≤◌, ◌<◌}
use native.Mathlib.Omega.{arith}
use native.Mathlib.Nat.{eq-or-lt_of_le}
use lib.Dec.{eqb}
use borrow.Author.Tests.{eq-eqb, ne_eqb}
use Rattle.model.specs.Search.{any}
use Rattle.std.proofs.lemmas.Bool.{false_from_ne_true, true_from_ne_false}
use Rattle.model.proofs.Search.{least-any, least-lowest, none-at, least-is}
use Rattle.table.specs.Words.{records, visited, count}
use Rattle.table.specs.Numbers.{EndAt, OutOfRangeAt, RepeatedAt, Reaches, Applies, five, six}
use Rattle.table.specs.Answer.{out_of_range_at, repeated_at, stops_at, last_step}
use Rattle.table.proofs.Decide.{Decides, fails}
use Rattle.table.proofs.Tests.{past-decides, again-decides, stops-decides}
use Rattle.table.proofs.Pigeonhole.{pigeonhole}

-- what is at a step where the walk goes on
pub goes_on : (ws : List ℕ) (j : ℕ) → stops_at ws j ≡ false → (¬ EndAt ws j) × (¬ OutOfRangeAt ws j) × (¬ RepeatedAt ws j)
goes_on ws j e =
    let never = fails (stops_at ws j) _ (stops-decides ws j) e in
    (λ x. never (inl x), λ x. never (inr (inl x)), λ x. never (inr (inr x)))

pub goes-on-test : (ws : List ℕ) (j : ℕ) → (¬ EndAt ws j) × (¬ OutOfRangeAt ws j) × (¬ RepeatedAt ws j) → stops_at ws j ≡ false
goes-on-test ws j n =
    false_from_ne_true (stops_at ws j) (λ e. ⊎_elim (λ x. n.0 x) (λ y. ⊎_elim (λ x. n.1 x) (λ x. n.2 x) y) ((stops-decides ws j).0 e))

-- where it goes on at step k, it comes to the next
pub reaches_more : (ws : List ℕ) (k : ℕ) → Reaches ws k → (¬ EndAt ws k) × (¬ OutOfRangeAt ws k) × (¬ RepeatedAt ws k) → Reaches ws (suc k)
reaches_more ws k c n j l =
    ⊎_elim (λ (e : j ≡ k). subst (λ (i : ℕ). (¬ EndAt ws i) × (¬ OutOfRangeAt ws i) × (¬ RepeatedAt ws i)) (sym e) n) (λ (h : j < k). c j h) (eq-or-lt_of_le (omega arith))

-- as many steps as it comes to, at most as many records: those met differ
pub reaches-short : (ws : List ℕ) (k : ℕ) → Reaches ws k → k ≤ records ws
reaches-short ws k c =
    pigeonhole (records ws) k (visited ws)
    (λ i l. let a = (c i l).0 in let b = (c i l).1 in omega arith)
    (λ i j l m e. (c j m).2 (i, l, e))

-- where it comes to step k and stops there, k is the last step
pub stops-there : (ws : List ℕ) (k : ℕ) → Reaches ws k → stops_at ws k ≡ true → last_step ws ≡ k
unfolding last_step
stops-there ws k c e =
    let short = reaches-short ws k c in
    least-is (suc (records ws)) (stops_at ws) k (omega arith) e (λ i l. goes-on-test ws i (c i l))

-- it comes to its last step, and stops there
pub last-reached : (ws : List ℕ) → Reaches ws (last_step ws)
unfolding last_step
last-reached ws = λ j l. goes_on ws j (least-lowest (suc (records ws)) (stops_at ws) j l)

pub last-stops : (ws : List ℕ) → stops_at ws (last_step ws) ≡ true
unfolding last_step
last-stops ws = least-any (suc (records ws)) (stops_at ws) (true_from_ne_false (any (suc (records ws)) (stops_at ws)) never)
  where
    never : any (suc (records ws)) (stops_at ws) ≡ false → ⊥
    never e =
        let short = reaches-short ws (suc (records ws)) (λ j l. goes_on ws j (none-at (suc (records ws)) (stops_at ws) j e l)) in
        omega arith

-- at its last step the walk decides 5 and 6
pub five-decides : (ws : List ℕ) → Decides (out_of_range_at ws (last_step ws)) (Applies ws 5 0)
five-decides ws = (λ e. five (last_step ws) (last-reached ws) ((past-decides ws (last_step ws)).0 e), back)
  where
    back : Applies ws 5 0 → out_of_range_at ws (last_step ws) ≡ true
    back (five k c h) =
        let there = stops-there ws k c ((stops-decides ws k).1 (inr (inl h))) in
        rw there ((past-decides ws k).1 h)

pub six-decides : (ws : List ℕ) → Decides (repeated_at ws (last_step ws)) (Applies ws 6 0)
six-decides ws = (λ e. six (last_step ws) (last-reached ws) ((again-decides ws (last_step ws)).0 e), back)
  where
    back : Applies ws 6 0 → repeated_at ws (last_step ws) ≡ true
    back (six k c h) =
        let there = stops-there ws k c ((stops-decides ws k).1 (inr (inr h))) in
        rw there ((again-decides ws k).1 h)

-- else it ends at the zero
pub last-ends : (ws : List ℕ) → out_of_range_at ws (last_step ws) ≡ false → repeated_at ws (last_step ws) ≡ false → EndAt ws (last_step ws)
last-ends ws p a =
    ⊎_elim (λ x. x)
    (λ y. ⊎_elim (λ x. absurd (fails _ _ (past-decides ws (last_step ws)) p x)) (λ x. absurd (fails _ _ (again-decides ws (last_step ws)) a x)) y)
    ((stops-decides ws (last_step ws)).0 (last-stops ws))

-- and the chain has that many records
pub ends_there : (ws : List ℕ) (k : ℕ) → Reaches ws k → EndAt ws k → count ws ≡ k
unfolding count
ends_there ws k c e =
    let short = reaches-short ws k c in
    least-is (suc (records ws)) (λ j. eqb (visited ws j) 0) k (omega arith) (eq-eqb (visited ws k) 0 e) (λ i l. ne_eqb (visited ws i) 0 (c i l).0)
