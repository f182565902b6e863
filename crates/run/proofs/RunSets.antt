-- The sets of cores of a run's present tick: 32, empty past the count; no two overlap, none has a fenced core or one past the count, each has as many cores
-- as its job's width or none, but a place that lends keeps what no place borrows; a task that works has the tick exactly if its set is not empty; and the
-- row's bytes are those of the sets, core by core.
use mathlib.Core.Path.{◌≡◌, refl, sym, ap, ap₂, ◌∙◌}
use mathlib.Core.Logic.{◌⊎◌, inl, inr}
use mathlib.Core.Bool.{Bool, true, false, not, ◌&&◌, ◌||◌, cond, false≢true}
use mathlib.Core.List.{List, [], ◌∷◌, map}
use Prim.Native.Nat.{ℕ, suc, ◌+◌, ◌-◌, ◌≤◌, ◌<◌, min}
use native.Mathlib.Omega.{arith}
use lib.Dec.{eqb, ltb}
use lib.ListN.{length, get_or, replicate, take, length-append, length-map, length-replicate, length-take, get_or-eq_default, get_or-map}
use lib.Seq.{take_at}
use borrow.Author.Tests.{ne_eqb, not-true}
use Rattle.model.specs.Fence.{unfenced}
use Rattle.model.specs.Grants.{some}
use Rattle.model.specs.Lending.{lends}
use Rattle.model.specs.Row.{row}
use Rattle.model.specs.Search.{bit}
use Rattle.model.specs.Sets.{SetsApart, SetsCount, SetsUnfenced, set_of}
use Rattle.model.specs.Sizes.{most_cores, most_tasks}
use Rattle.model.specs.Refusals as model
use Rattle.model.proofs.Bools.{and_right, or_comm}
use Rattle.model.proofs.Digits.{bit-none}
use Rattle.model.proofs.Grants.{grants-length}
use Rattle.model.proofs.Lending.{lent_length}
use Rattle.model.proofs.Lists.{get_d-zeros}
use Rattle.cores.specs.Cores.{cores}
use Rattle.cores.proofs.Ascending.{Range, range-weaken}
use Rattle.cores.proofs.Cores.{cores-set, set-bit}
use Rattle.phase.specs.declared.Phase.{Phase}
use Rattle.phase.specs.declared.Phase.TheVariants.{Coming, Working, Holding, Resting}
use Rattle.phase.specs.Phase.{claiming, holder, working}
use Rattle.phase.specs.Task.{width_now}
use Rattle.rule.specs.Lent.{Showable}
use Rattle.rule.proofs.Borrowed.{none-some, shown-length}
use Rattle.rule.proofs.Tick.{tick-range, tick-sets-apart, tick-sets-count, tick-sets-unfenced, tick-showable, tick-shows}
use Rattle.run.specs.declared.Run.{Run}
use Rattle.run.specs.Sets.{Sets}
use Rattle.run.specs.Answer.{Answer}
use Rattle.run.specs.Answer.{Taken, Refused}
use Rattle.run.specs.Answer.{by_answer, in64, answer_meaning}
use Rattle.run.specs.Row.{bytes_in, no_bytes, row_answer, row_of}
use Rattle.run.specs.Run.{borrowed_in, grants_in, has_cores, has_lent, lent_in, offer_in, rule_in, seeks_in, emptied_at, shown_in, widths_now}
use Rattle.run.specs.Sets.{SetsOf, bytes_of, in32, no_sets, sets_in, sets_of}
use Rattle.run.proofs.Cases.{row-passes}
use Rattle.run.proofs.Exact.{sets-exact, sets-taken}
use Rattle.run.proofs.First.{by-refused, by-taken}
use Rattle.rule.proofs.Choosing.{some-append}
use Rattle.run.proofs.Owned.{padded, same_row, set-some, shown-owned}
use Rattle.run.proofs.RunOut.{few-cores}
use Rattle.run.proofs.RunOut as out

-- ---- lists and their sets

lists-again : (gs : List (List ℕ)) → ((p : ℕ) → Range 0 64 (get_or gs p [])) → map cores (map set_of gs) ≡ gs
lists-again [] h = refl
lists-again (g ∷ gs) h = ap₂ (λ (l : List ℕ) (ls : List (List ℕ)). l ∷ ls) (cores-set g (h 0)) (lists-again gs (λ p. h (suc p)))

-- ---- of one tick

module _ (r : Run) (e : ℕ) where
  -- what is offered is what is given, or nothing; a place that seeks is given nothing
  offers : (p : ℕ) → (offer_in r e p ≡ []) ⊎ (offer_in r e p ≡ get_or (grants_in r e) p [])
  unfolding offer_in
  offers p = go (lends (rule_in r) && holder (emptied_at r e p))
    where
      go : (t : Bool) → (cond t (get_or (grants_in r e) p []) [] ≡ []) ⊎ (cond t (get_or (grants_in r e) p []) [] ≡ get_or (grants_in r e) p [])
      go true = inr refl
      go false = inl refl

  seekers : (p : ℕ) → seeks_in r e p ≡ true → get_or (grants_in r e) p [] ≡ []
  unfolding seeks_in
  seekers p q =
      none-some (get_or (grants_in r e) p [])
      (not-true (has_cores r e p)
      (and_right (working (emptied_at r e p)) (not (has_cores r e p)) (and_right (ltb p r.count) (working (emptied_at r e p) && not (has_cores r e p)) q)))

  -- a row can show the cores
  pub run-showable : Showable r.fence r.cores (shown_in r e)
  unfolding grants_in lent_in
  run-showable =
      tick-showable (rule_in r) (widths_now r) (λ p. claiming (emptied_at r e p)) r.fence r.cores (seeks_in r e) (offer_in r e) r.count seekers offers

  -- a place below the count has its list
  shown-min : length (shown_in r e) ≡ min r.count (length r.tasks)
  unfolding grants_in lent_in
  shown-min =
      let g = grants-length (rule_in r) (widths_now r) (λ p. claiming (emptied_at r e p)) (unfenced r.fence r.cores) in
      let l = lent_length (widths_now r) (seeks_in r e) (offer_in r e) r.count in
      shown-length (grants_in r e) (lent_in r e) (g ∙ sym l)
      ∙ (g ∙ (length-map (take r.count r.tasks) width_now ∙ length-take r.count r.tasks))

  shown-count : length r.tasks ≡ 32 → r.count ≤ 32 → length (shown_in r e) ≡ r.count
  shown-count len most = shown-min ∙ omega arith

  at : (p : ℕ) → get_or (sets_in r e) p 0 ≡ get_or (map set_of (shown_in r e)) p 0
  unfolding sets_in
  at p = padded (map set_of (shown_in r e)) (most_tasks - length (map set_of (shown_in r e))) p

  -- the set of a place is that of its list
  set_at : (p : ℕ) → get_or (sets_in r e) p 0 ≡ set_of (get_or (shown_in r e) p [])
  unfolding set_of
  set_at p = at p ∙ get_or-map set_of (shown_in r e) p []

  -- there are 32, and none past the count
  size_in : r.count ≤ 32 → length (sets_in r e) ≡ most_tasks
  unfolding sets_in
  size_in most =
      let sets = map set_of (shown_in r e) in
      length-append sets (replicate (most_tasks - length sets) 0)
      ∙ (ap (λ (n : ℕ). length sets + n) (length-replicate {A = ℕ} (most_tasks - length sets) 0)
      ∙ omega (arith, length-map (shown_in r e) set_of, shown-min))

  past-in : (p : ℕ) → r.count ≤ p → get_or (sets_in r e) p 0 ≡ 0
  past-in p l = at p ∙ get_or-eq_default (map set_of (shown_in r e)) 0 (omega (arith, length-map (shown_in r e) set_of, shown-min))

  -- of at most 64 cores
  module _ (few : r.cores ≤ 64) where
    has : (p c : ℕ) → bit (get_or (sets_in r e) p 0) c ≡ true → bit (get_or (map set_of (shown_in r e)) p 0) c ≡ true
    has p c h = sym (ap (λ (n : ℕ). bit n c) (at p)) ∙ h

    apart_in : SetsApart (sets_in r e)
    unfolding grants_in lent_in
    apart_in p q c h k =
        tick-sets-apart (rule_in r) (widths_now r) (λ p. claiming (emptied_at r e p)) r.fence r.cores (seeks_in r e) (offer_in r e) r.count seekers offers few
        p q c (has p c h) (has q c k)

    open_in : SetsUnfenced r.fence r.cores (sets_in r e)
    unfolding grants_in lent_in
    open_in p c h =
        tick-sets-unfenced (rule_in r) (widths_now r) (λ p. claiming (emptied_at r e p)) r.fence r.cores (seeks_in r e) (offer_in r e) r.count seekers offers few
        p c (has p c h)

    lists-count : SetsCount (widths_now r) (offer_in r e) (lent_in r e) (map set_of (shown_in r e))
    unfolding grants_in lent_in
    lists-count =
        tick-sets-count (rule_in r) (widths_now r) (λ p. claiming (emptied_at r e p)) r.fence r.cores (seeks_in r e) (offer_in r e) r.count seekers offers few

    count-in : SetsCount (widths_now r) (offer_in r e) (lent_in r e) (sets_in r e)
    count-in = record {
      width = λ p q. rw (at p) (lists-count.width p q);
      lender = λ p q. at p ∙ lists-count.lender p q;
      parts = λ p q. rw (at p) (lists-count.parts p q);
    }

    ascending : (p : ℕ) → Range 0 64 (get_or (shown_in r e) p [])
    unfolding grants_in lent_in
    ascending p =
        range-weaken (get_or (shown_in r e) p []) (omega arith) few
        (tick-range (rule_in r) (widths_now r) (λ p. claiming (emptied_at r e p)) r.fence r.cores (seeks_in r e) (offer_in r e) r.count seekers offers p)

    -- the lists of the sets are the lists that are shown
    pub listed_in : map cores (map set_of (shown_in r e)) ≡ shown_in r e
    listed_in = lists-again (shown_in r e) ascending

    -- they are the first, as many as the count
    pub front-in : length r.tasks ≡ 32 → r.count ≤ 32 → map cores (take r.count (sets_in r e)) ≡ shown_in r e
    unfolding sets_in
    front-in len most =
        ap (map cores)
        (take_at (map set_of (shown_in r e)) (replicate (most_tasks - length (map set_of (shown_in r e))) 0) r.count
        (length-map (shown_in r e) set_of ∙ shown-count len most))
        ∙ listed_in

    bytes-in : bytes_in r e ≡ bytes_of r.fence r.cores (sets_in r e)
    unfolding bytes_in bytes_of sets_in
    bytes-in =
        let rows : row r.fence r.cores (shown_in r e) ≡ row r.fence r.cores (map cores (in32 (map set_of (shown_in r e)))) =
        ap (row r.fence r.cores) (sym listed_in)
        ∙ sym (same_row r.fence r.cores (map set_of (shown_in r e)) (most_tasks - length (map set_of (shown_in r e)))) in
        ap in64 rows

    -- core by core
    each_in : (p c : ℕ) → p < most_tasks → bit (get_or (sets_in r e) p 0) c ≡ eqb (get_or (bytes_in r e) c 0) (suc p)
    unfolding bytes_in
    each_in p c l =
        ap (λ (n : ℕ). bit n c) (set_at p)
        ∙ (set-bit (get_or (shown_in r e) p []) (ascending p) c ∙ shown-owned r.fence r.cores (shown_in r e) run-showable p c l)

  -- a place that works offers nothing, so its set has what it borrows and what it is given
  works-none : (p : ℕ) → working (emptied_at r e p) ≡ true → offer_in r e p ≡ []
  unfolding offer_in
  works-none p h = go (emptied_at r e p) h (lends (rule_in r)) (get_or (grants_in r e) p [])
    where
      go : (ph : Phase) → working ph ≡ true → (t : Bool) (l : List ℕ) → cond (t && holder ph) l [] ≡ []
      go (Coming left) w t l = absurd (false≢true w)
      go (Working z had reserved) w true l = refl
      go (Working z had reserved) w false l = refl
      go (Holding z reserved) w t l = absurd (false≢true w)
      go (Resting z) w t l = absurd (false≢true w)

  works-in : (p : ℕ) → working (emptied_at r e p) ≡ true → (has_cores r e p || has_lent r e p) ≡ ltb 0 (get_or (sets_in r e) p 0)
  unfolding grants_in lent_in
  works-in p h =
      or_comm (has_cores r e p) (has_lent r e p)
      ∙ sym (ap (ltb 0) (set_at p)
      ∙ (set-some (get_or (shown_in r e) p [])
      ∙ (ap some
      (tick-shows (rule_in r) (widths_now r) (λ p. claiming (emptied_at r e p)) r.fence r.cores (seeks_in r e) (offer_in r e) r.count seekers offers p
      (works-none p h))
      ∙ some-append (borrowed_in r e p) (get_or (grants_in r e) p []))))

  -- ---- as they are answered

  none_in : (p c : ℕ) → bit (get_or no_sets p 0) c ≡ true → ⊥
  none_in p c h = false≢true (sym (ap (λ (n : ℕ). bit n c) (get_d-zeros most_tasks p) ∙ bit-none c) ∙ h)

  few : row_answer r e ≡ Taken → r.cores ≤ 64
  few q = few-cores r (row-passes r e q)

  -- THE THEOREMS
  pub sets-size : length (sets_of r e).sets ≡ most_tasks
  unfolding sets_of
  sets-size = go (row_answer r e) refl
    where
      go : (a : Answer) → row_answer r e ≡ a → length (by_answer a (sets_in r e) no_sets) ≡ most_tasks
      go Taken q = size_in (out.few r (row-passes r e q))
      go (Refused n i) q = refl

  pub sets-past : (p : ℕ) → r.count ≤ p → get_or (sets_of r e).sets p 0 ≡ 0
  unfolding sets_of
  sets-past p l = go (row_answer r e)
    where
      go : (a : Answer) → get_or (by_answer a (sets_in r e) no_sets) p 0 ≡ 0
      go Taken = past-in p l
      go (Refused n i) = get_d-zeros most_tasks p

  pub sets-apart : SetsApart (sets_of r e).sets
  unfolding sets_of
  sets-apart = go (row_answer r e) refl
    where
      go : (a : Answer) → row_answer r e ≡ a → SetsApart (by_answer a (sets_in r e) no_sets)
      go Taken q = apart_in (few q)
      go (Refused n i) q = λ p j c h k. absurd (none_in p c h)

  pub sets-unfenced : SetsUnfenced r.fence r.cores (sets_of r e).sets
  unfolding sets_of
  sets-unfenced = go (row_answer r e) refl
    where
      go : (a : Answer) → row_answer r e ≡ a → SetsUnfenced r.fence r.cores (by_answer a (sets_in r e) no_sets)
      go Taken q = open_in (few q)
      go (Refused n i) q = λ p c h. absurd (none_in p c h)

  pub sets-count : answer_meaning (sets_of r e).answer ≡ model.taken → SetsCount (widths_now r) (offer_in r e) (lent_in r e) (sets_of r e).sets
  unfolding sets_of
  sets-count = go (row_answer r e) refl
    where
      go : (a : Answer) → row_answer r e ≡ a → answer_meaning a ≡ model.taken → SetsCount (widths_now r) (offer_in r e) (lent_in r e) (by_answer a (sets_in r e) no_sets)
      go Taken q t = count-in (few q)
      go (Refused n p) q t = absurd (let z : ◌≡◌ {A = ℕ} 0 1 = cc in omega arith)

  pub sets-works :
      answer_meaning (sets_of r e).answer ≡ model.taken
      → (p : ℕ) → working (emptied_at r e p) ≡ true → (has_cores r e p || has_lent r e p) ≡ ltb 0 (get_or (sets_of r e).sets p 0)
  unfolding sets_of
  sets-works t p h = works-in p h ∙ ap (λ (sets : List ℕ). ltb 0 (get_or sets p 0)) (sym (by-taken (row_answer r e) (sets_in r e) no_sets t))

  -- core by core, the row's bytes represent the sets
  pub sets-each : (p c : ℕ) → p < most_tasks → bit (get_or (sets_of r e).sets p 0) c ≡ eqb (get_or (row_of r e).bytes c 0) (suc p)
  unfolding row_of sets_of
  sets-each p c l = go (row_answer r e) refl
    where
      go : (a : Answer) → row_answer r e ≡ a
          → bit (get_or (by_answer a (sets_in r e) no_sets) p 0) c ≡ eqb (get_or (by_answer a (bytes_in r e) no_bytes) c 0) (suc p)
      go Taken q = each_in (few q) p c l
      go (Refused n i) q =
          (ap (λ (n : ℕ). bit n c) (get_d-zeros most_tasks p) ∙ bit-none c)
          ∙ sym (ap (λ (n : ℕ). eqb n (suc p)) (get_d-zeros most_cores c) ∙ ne_eqb 0 (suc p) (λ z. omega arith))

  -- the row's bytes are those of the sets
  pub sets-bytes : (row_of r e).bytes ≡ by_answer (sets_of r e).answer (bytes_of r.fence r.cores (sets_of r e).sets) no_bytes
  unfolding row_of sets_of
  sets-bytes = go (row_answer r e) refl
    where
      go : (a : Answer) → row_answer r e ≡ a
          → by_answer a (bytes_in r e) no_bytes ≡ by_answer a (bytes_of r.fence r.cores (by_answer a (sets_in r e) no_sets)) no_bytes
      go Taken q = bytes-in (few q)
      go (Refused n p) q = refl

  -- a value that is the sets' by definition meets the contract of sets
  pub sets_of_lem : (w : Sets) → w ≡ sets_of r e → SetsOf r e w
  sets_of_lem w q = rw q record {
    value = refl;
    refused = sets-exact r e;
    taken = sets-taken r e;
    sets = unfold sets_of in by-taken (row_answer r e) (sets_in r e) no_sets;
    zeros = unfold sets_of in by-refused (row_answer r e) (sets_in r e) no_sets;
    size = sets-size;
    past = sets-past;
    apart = sets-apart;
    unfenced-only = sets-unfenced;
    count = sets-count;
    works = sets-works;
    each = sets-each;
    bytes = sets-bytes;
  }
