-- THE CONTRACT of `order`: all orders tried are permutations; the one that is chosen fits, and where none is chosen none fits.
use mathlib.Core.Bool.{Bool, cond, false, false≢true, not, true, ◌&&◌, ◌||◌}
use mathlib.Core.List.{List, [], ◌∷◌, ◌++◌, map}
use mathlib.Core.Logic.{inl, inr}
use mathlib.Core.Path.{◌≡◌, ap, refl, subst, sym, ◌∙◌}
use Prim.Native.Nat.{ℕ, min, suc, zero, ◌+◌, ◌-◌, ◌<◌}
use native.Mathlib.Omega.{arith}
use lib.Dec.{ltb}
use lib.ListN.{get_or, length}
use Rattle.model.specs.Lists.{NeverMissed}
use Rattle.model.specs.Search.{up_from}
use Rattle.table.proofs.Exact.{passed-exact, refusal-exact}
use Rattle.table.proofs.Order.{first-only}
use Rattle.table.specs.Answer.{Answer}
use Rattle.table.specs.Numbers.{Applies, First, NoneApplies}
use Rattle.table.specs.Words.{count, table_of}
use Rattle.judge.proofs.Contract.{judged-exact}
use Rattle.judge.specs.declared.Verdict.{Verdict}
use Rattle.judge.specs.declared.Verdict.TheVariants as judge
use Rattle.judge.specs.JudgeAnswer.{verdict_meaning}
use Rattle.judge.specs.Judged.{Judged}
use Rattle.priority_order.specs.Answer.{None, Refused}
use Rattle.priority_order.specs.Answer.{OrderAnswer}
use Rattle.priority_order.specs.Repair.{Late}
use Rattle.priority_order.specs.Answer.{DoesNotFit, Fits, OrderOf, Tried, answer_by, answer_in, given_order, no_order, order_answer_of, order_by, positions_of}
use Rattle.priority_order.specs.Orders.{Permutation, own_order, reordered}
use Rattle.priority_order.specs.Repair.{Choice, just, kept_after, late_of, later_of, next_order}
use Rattle.priority_order.specs.Repair.{no_miss, nothing, power_after, repairs, same, unless_kept, verdict_in}
use Rattle.priority_order.specs.Sorted.{sorted_order, sorted_orders}
use Rattle.priority_order.specs.Tried.{first_that, is_accepted, is_firm, latest_from, or_else, sorted_first, tried_orders, unless_accepted}
use Rattle.priority_order.proofs.Choosing.{firm-accepted, first-just, first-nothing}
use Rattle.priority_order.proofs.Moving.{own-permutation}
use Rattle.priority_order.proofs.Reordering.{order-applies, order-table, tasks-few}
use Rattle.priority_order.proofs.Repairing.{late-order, next-permutation}
use Rattle.priority_order.proofs.Searching.{sorted-order}

-- each order of a list is a permutation of n places
unfoldable Every : ℕ → List (List ℕ) → Type 0
Every n [] = Unit {0}
Every n (o ∷ os) = Permutation n o × Every n os

every-at : (n : ℕ) (os : List (List ℕ)) → Every n os → (i : ℕ) → i < length os → Permutation n (get_or os i [])
unfolding Every
every-at n [] e i l = absurd (omega arith)
every-at n (o ∷ os) e zero l = e.0
every-at n (o ∷ os) e (suc i) l = every-at n os e.1 i (omega arith)

every_append : (n : ℕ) (os us : List (List ℕ)) → Every n os → Every n us → Every n (os ++ us)
unfolding Every
every_append n [] us e f = f
every_append n (o ∷ os) us e f = (e.0, every_append n os us e.1 f)

module _ (ws : List ℕ) (none : NoneApplies ws) where
  every-sorted : (i k : ℕ) → Every (count ws) (map (sorted_order (table_of ws)) (up_from i k))
  unfolding Every up_from
  every-sorted i zero = tt
  every-sorted i (suc k) = (sorted-order ws none i, every-sorted (suc i) k)

  every-repair : (m : ℕ) (kept : List ℕ) (number power : ℕ) (o : List ℕ) → Permutation (count ws) o → Every (count ws) (repairs ws m kept number power o)
  unfolding Every repairs
  every-repair zero kept number power o x = tt
  every-repair (suc m) kept number power o x =
      go (next_order ws o) refl (λ n y. every-repair m (kept_after number power kept n) (suc number) (power_after number power) n y)
    where
      go : (c : Choice) → next_order ws o ≡ c
          → ((n : List ℕ) → Permutation (count ws) n → Every (count ws) (repairs ws m (kept_after number power kept n) (suc number) (power_after number power) n))
          → Every (count ws)
          (unless_kept kept c (λ n. n ∷ repairs ws m (kept_after number power kept n) (suc number) (power_after number power) n))
      go nothing e ih = tt
      go (just n) e ih = kept-or (same n kept)
        where
          here : Permutation (count ws) n
          here = next-permutation ws none o n x e

          kept-or : (t : Bool) → Every (count ws) (cond t [] (n ∷ repairs ws m (kept_after number power kept n) (suc number) (power_after number power) n))
          kept-or true = tt
          kept-or false = (here, ih n here)

  latest-permutation : (x : Late) (os : List (List ℕ)) → Permutation (count ws) x.order → Every (count ws) os
      → Permutation (count ws) (latest_from ws x os).order
  unfolding Every latest_from
  latest-permutation x [] p e = p
  latest-permutation x (o ∷ os) p e = latest-permutation (later_of x (late_of (verdict_in ws o) o)) os
      (go ((late_of (verdict_in ws o) o).some && (not x.some || ltb x.tick (late_of (verdict_in ws o) o).tick))) e.1
    where
      go : (t : Bool) → Permutation (count ws) (cond {A = Late} t (late_of (verdict_in ws o) o) x).order
      go true = subst (Permutation (count ws)) (sym (late-order (verdict_in ws o) o)) e.0
      go false = p

  -- THE ORDERS TRIED are permutations
  every-tried : (m : ℕ) → Every (count ws) (tried_orders ws m)
  unfolding tried_orders Every
  every-tried m = every_append (count ws) (sorted_first ws m) _ five (go (first_that is_accepted ws (sorted_first ws m)))
    where
      five : Every (count ws) (sorted_first ws m)
      five = every-sorted 0 (min m sorted_orders)

      late : Late
      late = latest_from ws (no_miss own_order) (sorted_first ws m)

      some : (t : Bool) → Every (count ws) (cond t (repairs ws (m - sorted_orders) late.order 1 1 late.order) [])
      some true =
          every-repair (m - sorted_orders) late.order 1 1 late.order
          (latest-permutation (no_miss own_order) (sorted_first ws m) (own-permutation (count ws) (tasks-few ws none)) five)
      some false = tt

      go : (c : Choice) → Every (count ws) (unless_accepted c (cond late.some (repairs ws (m - sorted_orders) late.order 1 1 late.order) []))
      go nothing = some late.some
      go (just o) = tt

  pub tried-permutation : (m : ℕ) (o : List ℕ) → Tried ws m o → Permutation (count ws) o
  tried-permutation m o t = subst (Permutation (count ws)) t.2 (every-at (count ws) (tried_orders ws m) (every-tried m) t.0 t.1)

  -- an order that is accepted fits
  fits : (m : ℕ) (o : List ℕ) → Tried ws m o → (v : Verdict) → verdict_in ws o ≡ v → is_accepted v ≡ true → Fits ws m o v
  fits m o t v e a =
      let x = tried-permutation m o t in
      let j : Judged (reordered ws o) v = subst (Judged (reordered ws o)) e (judged-exact (reordered ws o)) in
      let y = never v j a in record {
        tried = t;
        permutation = x;
        in_order = order-table ws none o x;
        passes = y.0;
        judged = j;
        never = y.1;
      }
    where
      never : (u : Verdict) → Judged (reordered ws o) u → is_accepted u ≡ true → NoneApplies (reordered ws o) × NeverMissed (table_of (reordered ws o))
      never (judge.Firm a b) j h = j.accepted.0 (a, b, inl refl)
      never (judge.Full a b) j h = j.accepted.0 (a, b, inr refl)
      never (judge.Miss a b) j h = absurd (false≢true h)
      never (judge.Refused a b) j h = absurd (false≢true h)

  -- one that is not does not
  unfit : (o : List ℕ) → Permutation (count ws) o → is_accepted (verdict_in ws o) ≡ false → DoesNotFit ws o
  unfit o x h = go (verdict_in ws o) refl h
    where
      us : List ℕ
      us = reordered ws o

      go : (v : Verdict) → verdict_in ws o ≡ v → is_accepted v ≡ false → DoesNotFit ws o
      go (judge.Firm a b) e f = absurd (false≢true (sym f))
      go (judge.Full a b) e f = absurd (false≢true (sym f))
      go (judge.Miss t p) e f = inl (t, p, (((judged-exact us).miss t p).0 (ap verdict_meaning e)).1)
      go (judge.Refused n p) e f =
          let first = ((judged-exact us).refused n p).0 (ap verdict_meaning e) in
          let y = order-applies ws none o x n p first.0 in
          inr (subst (λ (k : ℕ). First us 9 k) y.1 (subst (λ (k : ℕ). First us k p) y.0 first))

  -- THE CHOICE
  module _ (m : ℕ) where
    abbrev os : List (List ℕ)
    os = tried_orders ws m

    abbrev Right : OrderAnswer → Type 0
    Right r = r ≡ order_answer_of ws m → OrderOf ws m r

    never-refused : (n p : ℕ) → First ws n p → ⊥
    never-refused n p f = none n p f.0

    right-given : (o : List ℕ) → Tried ws m o → (v : Verdict) → verdict_in ws o ≡ v → is_accepted v ≡ true → Right (given_order v (positions_of (count ws) o))
    right-given o t (judge.Firm a b) e h value = record {
      value = value;
      refused = λ n p. (λ q. let z : ◌≡◌ {A = ℕ} 0 1 = cc in absurd (omega arith), λ f. absurd (never-refused n p f));
      firm = λ c d q. let x : a ≡ c = cc in let y : b ≡ d = cc in (o, refl, fits m o t (judge.Firm c d) (e ∙ (λ i. judge.Firm (x i) (y i))) refl);
      full = λ c d q. let z : ◌≡◌ {A = ℕ} 0 1 = cc in absurd (omega arith);
      none = λ n q. let z : ◌≡◌ {A = ℕ} 0 1 = cc in absurd (omega arith);
    }
    right-given o t (judge.Full a b) e h value = record {
      value = value;
      refused = λ n p. (λ q. let z : ◌≡◌ {A = ℕ} 0 1 = cc in absurd (omega arith), λ f. absurd (never-refused n p f));
      firm = λ c d q. let z : ◌≡◌ {A = ℕ} 0 1 = cc in absurd (omega arith);
      full = λ c d q. let x : a ≡ c = cc in let y : b ≡ d = cc in (o, refl, fits m o t (judge.Full c d) (e ∙ (λ i. judge.Full (x i) (y i))) refl);
      none = λ n q. let z : ◌≡◌ {A = ℕ} 0 1 = cc in absurd (omega arith);
    }
    right-given o t (judge.Miss a b) e h value = absurd (false≢true h)
    right-given o t (judge.Refused a b) e h value = absurd (false≢true h)

    right-none : first_that is_accepted ws os ≡ nothing → Right (no_order (None (0 + length os)))
    right-none e value = record {
      value = value;
      refused = λ n p. (λ q. let z : ◌≡◌ {A = ℕ} 0 1 = cc in absurd (omega arith), λ f. absurd (never-refused n p f));
      firm = λ c d q. let z : ◌≡◌ {A = ℕ} 0 1 = cc in absurd (omega arith);
      full = λ c d q. let z : ◌≡◌ {A = ℕ} 0 1 = cc in absurd (omega arith);
      none = λ n q. (
        count_of n q,
        λ o t. unfit o (tried-permutation m o t)
            (subst (λ (p : List ℕ). is_accepted (verdict_in ws p) ≡ false) t.2 (first-nothing ws is_accepted os e t.0 t.1)),
      );
    }
      where
        count_of : (n : ℕ) → None (0 + length os) ≡ None n → n ≡ length os
        count_of n q = let x : 0 + length os ≡ n = cc in omega arith

    -- by what is first Firm, and first accepted
    right : Right (answer_in ws 0 os)
    right = go (first_that is_firm ws os) refl (first_that is_accepted ws os) refl
      where
        go : (c : Choice) → first_that is_firm ws os ≡ c → (d : Choice) → first_that is_accepted ws os ≡ d → Right (answer_by ws (0 + length os) (or_else c d))
        go (just o) e d f =
            let y = first-just ws is_firm os o e in
            right-given o (y.0, y.1, y.2) (verdict_in ws o) refl (firm-accepted (verdict_in ws o) y.3)
        go nothing e (just o) f =
            let y = first-just ws is_accepted os o f in
            right-given o (y.0, y.1, y.2) (verdict_in ws o) refl y.3
        go nothing e nothing f = right-none f

    -- the contract of a table that passes
    pub passed-order : (r : OrderAnswer) → r ≡ answer_in ws 0 (tried_orders ws m) → OrderOf ws m r
    passed-order r e = subst (OrderOf ws m) (sym e) (right value)
      where
        value : answer_in ws 0 (tried_orders ws m) ≡ order_answer_of ws m
        value = unfold order_answer_of in ap (λ (a : Answer). order_by a (answer_in ws 0 (tried_orders ws m))) (sym ((passed-exact ws).1 none))

-- .. of one that is refused
pub refused-order : (ws : List ℕ) (m n p : ℕ) → First ws n p → (r : OrderAnswer) → r ≡ no_order (Refused n p) → OrderOf ws m r
refused-order ws m n p first r e = subst (OrderOf ws m) (sym e) (record {
  value = unfold order_answer_of in ap (λ (a : Answer). order_by a (answer_in ws 0 (tried_orders ws m))) (sym ((refusal-exact ws n p).1 first));
  refused = λ k q. (same_first k q, only k q);
  firm = λ c d q. let z : ◌≡◌ {A = ℕ} 0 1 = cc in absurd (omega arith);
  full = λ c d q. let z : ◌≡◌ {A = ℕ} 0 1 = cc in absurd (omega arith);
  none = λ k q. let z : ◌≡◌ {A = ℕ} 0 1 = cc in absurd (omega arith);
})
  where
    same_first : (k q : ℕ) → Refused n p ≡ Refused k q → First ws k q
    same_first k q f = let a : n ≡ k = cc in let b : p ≡ q = cc in rw (a, b) at first

    only : (k q : ℕ) → First ws k q → Refused n p ≡ Refused k q
    only k q f = let x = first-only (Applies ws) n p k q first f in rw (x.0, x.1)
