-- Places past the count are neither read nor changed.
use mathlib.Core.Path.{◌≡◌, refl, sym, ap, ap₂, subst, ◌∙◌}
use mathlib.Core.Bool.{Bool, true, false, not, ◌&&◌, ◌||◌, cond}
use mathlib.Core.List.{List, [], map}
use Prim.Native.Nat.{ℕ, ◌<◌}
use native.Mathlib.Omega.{arith}
use lib.ListN.{get_or, take, drop, length-map, length-take}
use lib.Seq.{get_or-take}
use lib.Dec.{ltb}
use borrow.Author.Tests.{ltb-false, ltb-true}
use Rattle.model.proofs.Search.{any_same, least-same}
use Rattle.model.specs.Search.{bit}
use Rattle.model.specs.Advance.{singleton}
use Rattle.model.specs.Fence.{unfenced_count, unfenced}
use Rattle.model.specs.Working.{set_where}
use Rattle.model.specs.Task.{rule_of}
use Rattle.model.specs.Grants.{Claimant, claimants, grants}
use Rattle.model.specs.Lending.{lends, lent}
use Rattle.model.proofs.Bools.{same-and}
use Rattle.model.proofs.Grants.{claimants-same}
use Rattle.table.specs.Limits.{task_out}
use Rattle.phase.specs.declared.Phase.{Phase}
use Rattle.phase.specs.declared.Task.{Task}
use Rattle.run.specs.declared.Run.{Run}
use Rattle.run.specs.Answer.{Answer}
use Rattle.run.specs.Answer.{Taken, Refused}
use Rattle.phase.specs.Phase.{claiming, holder, working, phase_in, late_in, released, phase_emptied}
use Rattle.phase.specs.Task.{task_of, past_end, width_now}
use Rattle.run.specs.Run.{phase_at, emptied_at, widths_now, grants_in, has_cores, offer_in, seeks_in, lent_in, has_lent, next_at, moved, withdrawn_in}
use Rattle.run.specs.Answer.{by_answer}
use Rattle.run.specs.Numbers.{place_out, run_out, past_count, unknown_in, late_at, first_late_in, emptiable_at, wrong_empties_in, reportable_at, wrong_reports_in}
use Rattle.run.specs.Withdraw.{withdraw_answer, withdraw_of, withdraw_all_of}
use Rattle.run.specs.Advance.{advance_answer, advance_of}
use Rattle.run.specs.Row.{row_answer, bytes_in, row_of}
use Rattle.run.specs.Sets.{sets_in, sets_of}
use Rattle.run.specs.Working.{working_of}
use Rattle.run.specs.UnusedPlaces.{SameBelow, TailUnread}
use Rattle.run.proofs.Lent.{past-offer}
use Rattle.run.proofs.Places.{drop-map_first, take-map_first}

-- NOT CHANGED: what is past the count is as given
pub past-unchanged : (r : Run) (x e : ℕ) → drop r.count (advance_of r x e).run.tasks ≡ drop r.count r.tasks
unfolding advance_of
past-unchanged r x e = go (advance_answer r x e)
  where
    go : (a : Answer) → drop r.count (by_answer a (moved (bit x) e r) r).tasks ≡ drop r.count r.tasks
    go Taken = unfold moved in drop-map_first (next_at r (bit x) e) r.count r.tasks
    go (Refused n p) = refl

-- NOT READ: two runs that differ only in the tasks past the count
module _ (rule cores fence withdrawn count : ℕ) (ts us : List Task) (same : take count ts ≡ take count us) where
  abbrev one : Run
  one = record { rule = rule; cores = cores; fence = fence; withdrawn = withdrawn; count = count; tasks = ts }

  abbrev other : Run
  other = record { rule = rule; cores = cores; fence = fence; withdrawn = withdrawn; count = count; tasks = us }

  same_at : (p : ℕ) → p < count → get_or ts p past_end ≡ get_or us p past_end
  same_at p l =
      sym (get_or-take count ts p past_end l) ∙ (ap (λ (l : List Task). get_or l p past_end) same ∙ get_or-take count us p past_end l)

  same_out : run_out one ≡ run_out other
  unfolding run_out
  same_out =
      rw (any_same count (place_out one) (place_out other)
      (λ p l. ap (λ (t : Task). task_out (unfenced_count fence cores) (task_of t) || not (phase_in (rule_of rule) (task_of t) t.even t.phase)) (same_at p l)))

  same-late : first_late_in one ≡ first_late_in other
  unfolding first_late_in
  same-late = least-same count (late_at one) (late_at other) (λ p l. ap (λ (t : Task). late_in t.parameters.deadline t.phase) (same_at p l))

  same-wrong-empties : (e : ℕ) → wrong_empties_in one e ≡ wrong_empties_in other e
  unfolding wrong_empties_in
  same-wrong-empties e =
      any_same e (λ p. bit e p && not (emptiable_at one p)) (λ p. bit e p && not (emptiable_at other p))
      (λ p l. ap (λ (m : Bool). bit e p && not m) (emptiable p))
    where
      emptiable : (p : ℕ) → emptiable_at one p ≡ emptiable_at other p
      emptiable p =
          same-and (ltb p count) (ltb p count) (released (phase_at one p)) (released (phase_at other p)) refl
          (λ l. ap (λ (t : Task). released t.phase) (same_at p (ltb-true p count l)))

  same-withdraw : (unknown : Bool) → withdraw_answer one unknown ≡ withdraw_answer other unknown
  unfolding withdraw_answer
  same-withdraw unknown = rw (same_out, same)

  -- with the empty jobs e
  module _ (e : ℕ) where
    same_seen : (p : ℕ) → p < count → emptied_at one e p ≡ emptied_at other e p
    same_seen p l = ap (λ (t : Task). phase_emptied (rule_of rule) (bit e p || bit withdrawn p) t.phase) (same_at p l)

    same-grants : grants_in one e ≡ grants_in other e
    unfolding grants_in
    same-grants =
        ap (λ (l : List Task). grants (rule_of rule) (claimants (map width_now l) (λ p. claiming (emptied_at one e p))) (unfenced fence cores)) same
        ∙ ap (λ (bs : List Claimant). grants (rule_of rule) bs (unfenced fence cores))
        (claimants-same (widths_now other) (λ p. claiming (emptied_at one e p)) (λ p. claiming (emptied_at other e p))
        (λ p l. ap claiming (same_seen p (omega (arith, length-map (take count us) width_now, length-take count us)))))

    same-seeks : (p : ℕ) → seeks_in one e p ≡ seeks_in other e p
    unfolding seeks_in
    same-seeks p =
        same-and (ltb p count) (ltb p count) (working (emptied_at one e p) && not (has_cores one e p)) (working (emptied_at other e p) && not (has_cores other e p)) refl
        (λ l. rw (same-grants, same_seen p (ltb-true p count l)))

    same-offer : (p : ℕ) → offer_in one e p ≡ offer_in other e p
    unfolding offer_in
    same-offer p = go (ltb p count) refl
      where
        go : (t : Bool) → ltb p count ≡ t → offer_in one e p ≡ offer_in other e p
        go true l =
            ap₂ (λ (ph : Phase) (gs : List (List ℕ)). cond (lends (rule_of rule) && holder ph) (get_or gs p []) []) (same_seen p (ltb-true p count l)) same-grants
        go false l = past-offer one e p (ltb-false p count l) ∙ sym (past-offer other e p (ltb-false p count l))

    same-lent : lent_in one e ≡ lent_in other e
    unfolding lent_in
    same-lent = λ i. lent (map width_now (same i)) (λ p. same-seeks p i) (λ p. same-offer p i) count

    same-reportable : (p : ℕ) → reportable_at one e p ≡ reportable_at other e p
    same-reportable p =
        same-and (ltb p count) (ltb p count) (working (emptied_at one e p) && (has_cores one e p || has_lent one e p))
        (working (emptied_at other e p) && (has_cores other e p || has_lent other e p)) refl
        (λ l. rw (same-grants, same-lent, same_seen p (ltb-true p count l)))

    same-wrong-reports : (x : ℕ) → wrong_reports_in one e x ≡ wrong_reports_in other e x
    unfolding wrong_reports_in
    same-wrong-reports x =
        any_same x (λ p. bit x p && not (reportable_at one e p)) (λ p. bit x p && not (reportable_at other e p))
        (λ p l. ap (λ (m : Bool). bit x p && not m) (same-reportable p))

    same-advance : (x : ℕ) → advance_answer one x e ≡ advance_answer other x e
    unfolding advance_answer
    same-advance x = rw (same_out, same-late, same-wrong-empties e, same-wrong-reports x)

    same_row : row_of one e ≡ row_of other e
    unfolding row_of row_answer bytes_in
    same_row = rw (same_out, same-late, same-wrong-empties e, same-grants, same-lent)

    same-sets : sets_of one e ≡ sets_of other e
    unfolding sets_of row_answer sets_in
    same-sets = rw (same_out, same-late, same-wrong-empties e, same-grants, same-lent)

    same-working : working_of one e ≡ working_of other e
    unfolding working_of row_answer
    same-working = rw (same_out, same-late, same-wrong-empties e, same_set)
      where
        same_set : set_where count (reportable_at one e) ≡ set_where count (reportable_at other e)
        same_set = λ i. set_where count (λ p. same-reportable p i)

    same-moved : (f : ℕ → Bool) → SameBelow (moved f e one) (moved f e other)
    unfolding moved
    same-moved f = record {
      rule = refl;
      cores = refl;
      fence = refl;
      withdrawn = refl;
      count = refl;
      tasks = take-map_first (next_at one f e) (next_at other f e) count ts us (λ p t l. rw (same-grants, same-lent)) same;
    }

    unread : (x : ℕ) → TailUnread one other x e
    unread x = record {
      row = same_row;
      sets = same-sets;
      working = same-working;
      answer = unfold advance_of in same-advance x;
      run = unfold advance_of in rw (same-advance x) (go (advance_answer other x e));
      withdraw-answer = λ p. unfold withdraw_of in same-withdraw (unknown_in one p);
      withdraw-run = λ p. unfold withdraw_of in rw (same-withdraw (unknown_in one p)) (out (singleton p) (withdraw_answer other (unknown_in one p)));
      withdraw-all-answer = λ y. unfold withdraw_all_of in same-withdraw (past_count count y);
      withdraw-all-run = λ y. unfold withdraw_all_of in rw (same-withdraw (past_count count y)) (out y (withdraw_answer other (past_count count y)));
    }
      where
        as-given : SameBelow one other
        as-given = record { rule = refl; cores = refl; fence = refl; withdrawn = refl; count = refl; tasks = same }

        go : (a : Answer) → SameBelow (by_answer a (moved (bit x) e one) one) (by_answer a (moved (bit x) e other) other)
        go Taken = same-moved (bit x)
        go (Refused n p) = as-given

        out : (y : ℕ) (a : Answer) → SameBelow (by_answer a (withdrawn_in y one) one) (by_answer a (withdrawn_in y other) other)
        out y Taken = unfold withdrawn_in in record { rule = refl; cores = refl; fence = refl; withdrawn = refl; count = refl; tasks = same }
        out y (Refused n q) = as-given

pub past-unread : (r s : Run) → SameBelow r s → (x e : ℕ) → TailUnread r s x e
past-unread r s h x e =
    subst (λ (v : Run). TailUnread r v x e)
    (λ i. record { rule = h.rule i; cores = h.cores i; fence = h.fence i; withdrawn = h.withdrawn i; count = h.count i; tasks = s.tasks })
    (unread r.rule r.cores r.fence r.withdrawn r.count r.tasks s.tasks (h.tasks ∙ ap (λ (n : ℕ). take n s.tasks) (sym h.count)) e x)
