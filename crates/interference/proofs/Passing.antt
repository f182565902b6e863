-- The test place by place: what is known before each, where it stops, and what it comes to.
use mathlib.Core.Bool.{Bool, cond, false, not, true, true≢false}
use mathlib.Core.List.{List, map, ◌++◌}
use mathlib.Core.Logic.{⊎_elim}
use mathlib.Core.Path.{ap, ap₂, refl, subst, sym, ◌∙◌, ◌≡◌}
use Prim.Native.Nat.{◌+◌, ◌-◌, ◌<◌, max, min, suc, ℕ, ◌≤◌}
use native.Mathlib.Nat.{eq-or-lt_of_le, min-eq_left, zero-add}
use native.Mathlib.Numerals.{add-one}
use native.Mathlib.Omega.{arith}
use lib.Dec.{ltb}
use lib.ListN.{get_or-append, get_or, length, length-append, length-map, length-replicate, length-set, replicate, set}
use lib.Seq.{ext_get_or, get_or-append-add, get_or-set_other, get_or-set_same}
use borrow.Author.Tests.{le-ltb, lt-ltb, ltb-false, ltb-true}
use Rattle.model.specs.Fence.{unfenced_count}
use Rattle.model.specs.Grants.{ends_choosing}
use Rattle.model.specs.Interference.{EndsWithin, bound_from, bounds_to, interference_test_passes, largest_below, need, refused_width, response_bound}
use Rattle.model.specs.Search.{bit, up_from}
use Rattle.model.specs.Sizes.{most_cores, most_tasks}
use Rattle.model.specs.Task.{AllValid, Table, rule_of, task, widest}
use Rattle.model.proofs.Interference.{suffices-long}
use Rattle.model.proofs.Lists.{get_d-zeros, map_at, up_at, up-length}
use Rattle.model.proofs.Search.{any_of, none_any}
use Rattle.model.proofs.Windows.{passes-ends, passes-meets, window-above, window-passes, windows-at}
use Rattle.cores.proofs.Ascending.{length-kept}
use Rattle.table.specs.declared.Loaded.{Loaded}
use Rattle.table.specs.Task.{no_task, task_of}
use Rattle.table.proofs.Places.{tasks-length}
use Rattle.table.specs.Fit.{Fit, loaded_table}
use Rattle.interference.specs.Bounds.{Tested}
use Rattle.interference.specs.Bounds.{Above, TestedOf, bounds_in, is_met, not_met, tested_of}
use Rattle.interference.proofs.Sums.{place_at}

-- THE LIST OF BOUNDS: 32 of them, that of each place, and zeros past the count
module _ (s : Table) where
  abbrev count : ℕ
  count = length s.tasks

  abbrev front : List ℕ
  front = map (response_bound s) (up_from 0 count)

  front_length : length front ≡ count
  front_length = length-map (up_from 0 count) (response_bound s) ∙ up-length 0 count

  bounds-length : count ≤ 32 → length (bounds_in s) ≡ 32
  unfolding bounds_in
  bounds-length few = omega (arith, length-append front (replicate (32 - count) 0), front_length, length-replicate {A = ℕ} (32 - count) 0)

  pub bounds-at : (p : ℕ) → p < count → get_or (bounds_in s) p 0 ≡ response_bound s p
  unfolding bounds_in
  bounds-at p l =
      get_or-append front (replicate (32 - count) 0) 0 p (omega (arith, front_length))
      ∙ (map_at (response_bound s) (up_from 0 count) p 0 0 (omega (arith, up-length 0 count)) ∙ ap (response_bound s) (up_at 0 count p 0 l ∙ zero-add p))

  bounds-past : (p : ℕ) → count ≤ p → get_or (bounds_in s) p 0 ≡ 0
  unfolding bounds_in
  bounds-past p l =
      let e : p ≡ length front + (p - count) = omega (arith, front_length) in
      ap (λ (i : ℕ). get_or (front ++ replicate (32 - count) 0) i 0) e
      ∙ (get_or-append-add front (replicate (32 - count) 0) (p - count) 0 ∙ get_d-zeros (32 - count) (p - count))

  bounds-same :
      (xs : List ℕ) → count ≤ 32 → length xs ≡ 32 → ((p : ℕ) → p < count → get_or xs p 0 ≡ response_bound s p) → ((p : ℕ) → count ≤ p → get_or xs p 0 ≡ 0)
      → xs ≡ bounds_in s
  bounds-same xs few size done rest = ext_get_or 0 xs (bounds_in s) (size ∙ sym (bounds-length few)) (λ p l. go p (ltb p count) refl)
    where
      go : (p : ℕ) (t : Bool) → ltb p count ≡ t → get_or xs p 0 ≡ get_or (bounds_in s) p 0
      go p true h = let m = ltb-true p count h in done p m ∙ sym (bounds-at p m)
      go p false h = let m = ltb-false p count h in rest p m ∙ sym (bounds-past p m)

  -- WHAT IS PROMISED of the test
  pub tested-promise : AllValid s → TestedOf s (tested_of s)
  tested-promise ok = let same : cond (interference_test_passes s) (is_met (bounds_in s)) not_met ≡ tested_of s = unfold tested_of in refl in subst (TestedOf s) same (go (interference_test_passes s) refl)
    where
      go : (t : Bool) → interference_test_passes s ≡ t → TestedOf s (cond t (is_met (bounds_in s)) not_met)
      go true e = record {
        value = unfold tested_of in ap (λ (t : Bool). cond t (is_met (bounds_in s)) not_met) (sym e);
        meets = λ q. passes-meets s ok e;
        bounds = λ q p l. bounds-at p l;
        ends = λ q p l. subst (EndsWithin s p) (sym (bounds-at p l)) (passes-ends s ok e p l);
      }
      go false e = record {
        value = unfold tested_of in ap (λ (t : Bool). cond t (is_met (bounds_in s)) not_met) (sym e);
        meets = λ q. absurd (true≢false (sym q));
        bounds = λ q p l. absurd (true≢false (sym q));
        ends = λ q p l. absurd (true≢false (sym q));
      }

-- before a place: the widest of the places above, and their bounds, which are within their deadlines; zeros behind them
pub record Reached (t : Loaded) (bounds : List ℕ) (wide place : ℕ) : Type 0 where
  pub size : length bounds ≡ most_tasks
  pub reach : place ≤ t.count
  pub widest-so-far : wide ≡ largest_below place (λ i. widest (task (loaded_table t) i))
  pub found : (i : ℕ) → i < place → get_or bounds i 0 ≡ response_bound (loaded_table t) i
  pub within : (i : ℕ) → i < place → response_bound (loaded_table t) i ≤ (task (loaded_table t) i).deadline
  pub rest : (i : ℕ) → place ≤ i → get_or bounds i 0 ≡ 0

-- no more cores are open than a table has at most
pub open-few : (f m : ℕ) → unfenced_count f (min m most_cores) ≤ most_cores
open-few f m = omega (arith, length-kept (λ c. not (bit f c)) (up_from 0 (min m most_cores)), up-length 0 (min m most_cores))

module _ (t : Loaded) (fit : Fit t) where
  abbrev s : Table
  s = loaded_table t

  places : length s.tasks ≡ t.count
  places = tasks-length t.tasks t.count (omega (arith, fit.few, fit.places))

  pub reached-none : Reached t (replicate 32 0) 0 0
  reached-none = record {
    size = refl;
    reach = omega arith;
    widest-so-far = unfold largest_below in refl;
    found = λ i l. absurd (omega arith);
    within = λ i l. absurd (omega arith);
    rest = λ i l. get_d-zeros 32 i;
  }

  module _ (bounds : List ℕ) (wide place : ℕ) (r : Reached t bounds wide place) where
    pub above : Above t bounds place
    above i l =
        let w = r.found i l in
        (omega (arith, suffices-long s (response_bound s) i (response_bound s i) (window-passes s i (r.within i l))), omega (arith, r.within i l))

    -- the bound that is found is the place's
    pub own-bound : bound_from s (λ i. get_or bounds i 0) place ≡ response_bound s place
    own-bound = window-above s (λ i. get_or bounds i 0) (λ i. get_or (bounds_to s place) i 0) place (λ i l. r.found i l ∙ sym (windows-at s place i l))

    pub wider-more :
        (own wide' : ℕ) → place < t.count → own ≡ widest (task_of (get_or t.tasks place no_task)) → wide' ≡ max wide own
        → wide' ≡ largest_below (place + 1) (λ i. widest (task s i))
    wider-more own wide' l oe we =
        rw (add-one place)
        (unfold largest_below in we ∙ ap₂ max r.widest-so-far (oe ∙ ap widest (sym (place_at t fit place l))))

    -- one place more
    pub reached-more :
        (own wide' bound : ℕ) → place < t.count → own ≡ widest (task_of (get_or t.tasks place no_task)) → wide' ≡ max wide own
        → bound ≡ bound_from s (λ i. get_or bounds i 0) place → bound ≤ (task s place).deadline
        → Reached t (set bounds place bound) wide' (place + 1)
    reached-more own wide' bound l oe we ve short = record {
      size = length-set bounds place bound ∙ r.size;
      reach = omega arith;
      widest-so-far = wider-more own wide' l oe we;
      found = λ i h.
          ⊎_elim
          (λ (q : i ≡ place).
          ap (λ (x : ℕ). get_or (set bounds place bound) x 0) q
          ∙ (get_or-set_same bounds place bound 0 (omega (arith, r.size, fit.few)) ∙ (same ∙ ap (response_bound s) (sym q))))
          (λ (q : i < place). get_or-set_other bounds place i bound 0 (λ z. omega arith) ∙ r.found i q)
          (eq-or-lt_of_le (omega arith));
      within = λ i h.
          ⊎_elim
          (λ (q : i ≡ place). subst (λ (x : ℕ). response_bound s x ≤ (task s x).deadline) (sym q) (subst (λ (x : ℕ). x ≤ (task s place).deadline) same short))
          (λ (q : i < place). r.within i q)
          (eq-or-lt_of_le (omega arith));
      rest = λ i h. get_or-set_other bounds place i bound 0 (λ z. omega arith) ∙ r.rest i (omega arith);
    }
      where
        same : bound ≡ response_bound s place
        same = ve ∙ own-bound

    -- the place does not pass
    pub stopped :
        (bound : ℕ) → place < t.count → bound ≡ bound_from s (λ i. get_or bounds i 0) place → (task s place).deadline < bound → interference_test_passes s ≡ false
    unfolding interference_test_passes
    stopped bound l ve past =
        ap not (any_of (length s.tasks) (λ p. ltb (task s p).deadline (response_bound s p)) place (omega (arith, places))
        (lt-ltb (task s place).deadline (response_bound s place) (subst (λ (x : ℕ). (task s place).deadline < x) (ve ∙ own-bound) past)))

    -- all places pass
    passed : t.count ≤ place → interference_test_passes s ≡ true
    unfolding interference_test_passes
    passed all =
        ap not (none_any (length s.tasks) (λ p. ltb (task s p).deadline (response_bound s p))
        (λ p l. le-ltb (task s p).deadline (response_bound s p) (r.within p (omega (arith, places)))))

    pub tested : t.count ≤ place → TestedOf s (is_met bounds)
    tested all = subst (TestedOf s) (sym value) (tested-promise s fit.valid)
      where
        given : bounds ≡ bounds_in s
        given =
            bounds-same s bounds (omega (arith, places, fit.few)) r.size (λ p l. r.found p (omega (arith, places)))
            (λ p l. r.rest p (omega (arith, places, r.reach)))

        value : is_met bounds ≡ tested_of s
        value = unfold tested_of in ap is_met given ∙ ap (λ (b : Bool). cond b (is_met (bounds_in s)) not_met) (sym (passed all))

  -- a table that does not pass
  pub untested : (r : Tested) → r ≡ not_met → interference_test_passes s ≡ false → TestedOf s r
  untested r e out =
      let none : not_met ≡ tested_of s = unfold tested_of in ap (λ (b : Bool). cond b (is_met (bounds_in s)) not_met) (sym out) in
      subst (TestedOf s) (sym (e ∙ none)) (tested-promise s fit.valid)

  -- what a waiting job needs, as code finds it
  pub needed :
      (place free own wide refused wanted : ℕ) → free ≡ unfenced_count t.fence (min t.cores most_cores)
      → place < t.count → own ≡ widest (task_of (get_or t.tasks place no_task)) → wide ≡ largest_below (place + 1) (λ i. widest (task s i))
      → (ends : Bool) → ends ≡ ends_choosing (rule_of t.rule) → refused ≡ cond ends wide own → wanted ≡ suc free - refused → wanted ≡ need s place
  unfolding need refused_width
  needed place free own wide refused wanted fe l oe we ends ee re ne =
      let wider : wide ≡ largest_below (suc place) (λ i. widest (task s i)) = we ∙ ap (λ (n : ℕ). largest_below n (λ i. widest (task s i))) (add-one place) in
      let mine : own ≡ widest (task s place) = oe ∙ ap widest (sym (place_at t fit place l)) in
      ne ∙ ap₂ (λ (a b : ℕ). suc a - b) (fe ∙ ap (unfenced_count t.fence) (min-eq_left fit.narrow)) (re ∙ rw (ee, wider, mine) refl)
