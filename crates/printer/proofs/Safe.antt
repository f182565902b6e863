-- A run that can be stepped can be stepped again: a place that claims is owed ticks after the due events and after the tick, and one that is granted cores
-- claims.
use mathlib.Core.Path.{◌≡◌, refl, sym, ap, ◌∙◌, subst}
use mathlib.Core.Bool.{Bool, true, false, not, ◌&&◌, cond, true≢false, false≢true}
use mathlib.Core.List.{List}
use Prim.Native.Nat.{ℕ, zero, suc, ◌-◌, ◌^◌, ◌≤◌, ◌<◌}
use native.Mathlib.Omega.{arith}
use lib.Bits.{bit_and, and_le_l}
use lib.Dec.{eqb, ltb, leb}
use lib.ListN.{get_or}
use borrow.Author.Tests.{eq-eqb, eqb-true, eqb-false, lt-ltb, ltb-true, leb-true, leb-false}
use Rattle.model.specs.Fence.{unfenced}
use Rattle.model.specs.Search.{bit}
use Rattle.model.specs.Task.{rule_of}
use Rattle.model.specs.Grants.{claimants, some}
use Rattle.model.proofs.Bools.{and_left, and_right}
use Rattle.std.proofs.lemmas.Bool.{true_from_ne_false}
use Rattle.model.proofs.Digits.{and-bit, same_digits}
use Rattle.model.proofs.Grants.{grants-none}
use Rattle.model.specs.Sizes.{most_tasks}
use Rattle.simulation.specs.Machine.{Machine, with_release, released_due, GrantedOwed, finishes, worked_tick, Sized}
use Rattle.simulation.proofs.Moves.{released-sized, released-own, released-other, released-past, worked-sized, worked-left, worked-claims, worked-past}
use Rattle.simulation.proofs.Sets.{set-has, set_past, set-lt}
use Rattle.simulation.proofs.Steps.{unchanged-claims}
use Rattle.rule.specs.Granted.{granted}
use Rattle.rule.specs.Widths.{widths_in}
use Rattle.simulation.specs.TickState.{Numbers, TickState, after_events, even_at_tick, choice_kept, choice, granted_at, next_tick_state, Steppable}
use Rattle.printer.specs.Valid.{within, owed, Safe}
use Rattle.table.specs.Limits.{most_horizon}

-- SETS WITHIN SETS

pub within-bit : (a b p : ℕ) → within a b ≡ true → bit a p ≡ true → bit b p ≡ true
within-bit a b p e h =
    and_right (bit a p) (bit b p) (sym (and-bit a b p) ∙ ap (λ (x : ℕ). bit x p) (eqb-true (bit_and a b) a e) ∙ h)

pub within_of : (a b : ℕ) → a < 2 ^ 32 → ((p : ℕ) → bit a p ≡ true → bit b p ≡ true) → within a b ≡ true
within_of a b small h = eq-eqb (bit_and a b) a (same_digits most_tasks (bit_and a b) a (omega (arith, and_le_l a b)) small (λ p l. and-bit a b p ∙ go p (bit a p) refl))
  where
    go : (p : ℕ) (x : Bool) → bit a p ≡ x → x && bit b p ≡ x
    go p true e = h p e
    go p false e = refl

-- THE PLACES THAT ARE OWED TICKS

-- every claimant of a machine is one of its 32 places, and is owed ticks
abbrev pub ClaimsOwed : Machine → Type 0
ClaimsOwed m = (p : ℕ) → bit m.claiming p ≡ true → (p < most_tasks) × (0 < get_or m.left p 0)

pub claims-owed : (m : Machine) → within m.claiming (owed m.left) ≡ true → ClaimsOwed m
claims-owed m e p h = go (leb most_tasks p) refl
  where
    there : bit (owed m.left) p ≡ true
    there = within-bit m.claiming (owed m.left) p e h

    go : (x : Bool) → leb most_tasks p ≡ x → (p < most_tasks) × (0 < get_or m.left p 0)
    go true q = absurd (true≢false (sym there ∙ set_past most_tasks (λ p. ltb 0 (get_or m.left p 0)) p (leb-true most_tasks p q)))
    go false q =
        let l : p < most_tasks = leb-false most_tasks p q in
        (l, ltb-true 0 (get_or m.left p 0) (sym (set-has most_tasks (λ p. ltb 0 (get_or m.left p 0)) p l) ∙ there))

pub owed-claims : (m : Machine) → m.claiming < 2 ^ 32 → ClaimsOwed m → within m.claiming (owed m.left) ≡ true
owed-claims m small h =
    within_of m.claiming (owed m.left) small
    (λ p e. set-has most_tasks (λ p. ltb 0 (get_or m.left p 0)) p (h p e).0 ∙ lt-ltb 0 (get_or m.left p 0) (h p e).1)

-- a release
released-owed : (i t C D T : ℕ) (m : Machine) → Sized m → i < most_tasks → 0 < C → ClaimsOwed m → ClaimsOwed (with_release i t C D T m)
released-owed i t C D T m z l c h p e = go (leb most_tasks p) refl (eqb p i) refl
  where
    go : (x : Bool) → leb most_tasks p ≡ x → (y : Bool) → eqb p i ≡ y → (p < most_tasks) × (0 < get_or (with_release i t C D T m).left p 0)
    go true q y f = absurd (true≢false (sym e ∙ released-past i t C D T m p (leb-true most_tasks p q)))
    go false q true f =
        let own : get_or (with_release i t C D T m).left p 0 ≡ C =
        ap (λ (x : ℕ). get_or (with_release i t C D T m).left x 0) (eqb-true p i f) ∙ (released-own i t C D T m z l).0 in
        (leb-false most_tasks p q, omega arith)
    go false q false f =
        let b : p < most_tasks = leb-false most_tasks p q in
        let o = released-other i t C D T m p (eqb-false p i f) b in
        (b, subst (λ (x : ℕ). 0 < x) (sym o.left) (h p (sym o.claims ∙ e)).1)

-- the due events of a tick
due-owed :
    (t : ℕ) (C D T : List ℕ) (n : ℕ) (m : Machine) → Sized m → n ≤ most_tasks → ((p : ℕ) → p < n → 0 < get_or C p 0) → ClaimsOwed m
    → Sized (released_due t C D T n m) × ClaimsOwed (released_due t C D T n m)
unfolding released_due
due-owed t C D T zero m z l c h = (z, h)
due-owed t C D T (suc n) m z l c h =
    let x = due-owed t C D T n m z (omega arith) (λ p b. c p (omega arith)) h in
    go (released_due t C D T n m) x.0 x.1 (eqb (get_or (released_due t C D T n m).event n 0) t)
  where
    go : (m' : Machine) → Sized m' → ClaimsOwed m' → (b : Bool)
        → Sized (cond b (with_release n t (get_or C n 0) (get_or D n 0) (get_or T n 0) m') m')
        × ClaimsOwed (cond b (with_release n t (get_or C n 0) (get_or D n 0) (get_or T n 0) m') m')
    go m' z' h' true = (
      released-sized n t (get_or C n 0) (get_or D n 0) (get_or T n 0) m' z',
      released-owed n t (get_or C n 0) (get_or D n 0) (get_or T n 0) m' z' (omega arith) (c n (omega arith)) h',
    )
    go m' z' h' false = (z', h')

-- a tick
worked-owed : (g : ℕ → Bool) (m : Machine) → Sized m → ClaimsOwed m → ClaimsOwed (worked_tick g m)
worked-owed g m z h p e = go (leb most_tasks p) refl
  where
    L : ℕ
    L = get_or m.left p 0

    by-grant : (b : Bool) → bit m.claiming p && not (b && eqb L 1) ≡ true → 0 < cond b (L - 1) L
    by-grant true q =
        let some : 0 < L = (h p (and_left (bit m.claiming p) (not (eqb L 1)) q)).1 in
        let more : L ≡ 1 → ⊥ = λ one. false≢true (sym (ap not (eq-eqb L 1 one)) ∙ and_right (bit m.claiming p) (not (eqb L 1)) q) in
        omega arith
    by-grant false q = (h p (and_left (bit m.claiming p) true q)).1

    go : (x : Bool) → leb most_tasks p ≡ x → (p < most_tasks) × (0 < get_or (worked_tick g m).left p 0)
    go true q = absurd (true≢false (sym e ∙ worked-past g m p (leb-true most_tasks p q)))
    go false q =
        let l : p < most_tasks = leb-false most_tasks p q in
        (l, subst (λ (x : ℕ). 0 < x) (sym (worked-left g m z p l)) (by-grant (g p) (sym (worked-claims g m z p l) ∙ e)))

-- A STEP

-- a place that is chosen is among the claimants
choice-claims : (n : Numbers) (c v p : ℕ) → bit (choice n c v) p ≡ true → bit c p ≡ true
choice-claims n c v p e = go (leb most_tasks p) refl
  where
    f : ℕ → Bool
    f = granted (rule_of n.rule) (claimants (widths_in v n.widths) (bit c)) (unfenced n.fence n.cores)

    go : (x : Bool) → leb most_tasks p ≡ x → bit c p ≡ true
    go true q = absurd (true≢false (sym e ∙ set_past most_tasks f p (leb-true most_tasks p q)))
    go false q =
        true_from_ne_false (bit c p)
        (λ z. absurd (false≢true (sym (ap some (grants-none (rule_of n.rule) (widths_in v n.widths) (bit c) (unfenced n.fence n.cores) p z))
        ∙ (sym (set-has most_tasks f p (leb-false most_tasks p q)) ∙ e))))

module _ (n : Numbers) (s : TickState) (h : Safe n s) where
  -- after the due events
  after-owed : Sized (after_events n s) × ClaimsOwed (after_events n s)
  unfolding after_events
  after-owed = go (leb s.event s.tick)
    where
      go : (b : Bool)
          → Sized (cond b (released_due s.tick n.lengths n.deadlines n.periods n.count s.machine) s.machine)
          × ClaimsOwed (cond b (released_due s.tick n.lengths n.deadlines n.periods n.count s.machine) s.machine)
      go true =
          due-owed s.tick n.lengths n.deadlines n.periods n.count s.machine h.sized h.few (λ p l. (h.times p l).0)
          (claims-owed s.machine h.owed)
      go false = (h.sized, claims-owed s.machine h.owed)

  -- a place that is granted cores claims
  granted-kept : within (granted_at n s) (after_events n s).claiming ≡ true
  unfolding granted_at
  granted-kept = go (choice_kept n s) refl
    where
      go : (b : Bool) → choice_kept n s ≡ b → within (cond b s.granted (choice n (after_events n s).claiming (even_at_tick n s))) (after_events n s).claiming ≡ true
      go true e = subst (λ (c : ℕ). within s.granted c ≡ true) (sym (unchanged-claims n s e)) h.kept
      go false e =
          within_of (choice n (after_events n s).claiming (even_at_tick n s)) (after_events n s).claiming
          (set-lt most_tasks
          (granted (rule_of n.rule) (claimants (widths_in (even_at_tick n s) n.widths) (bit (after_events n s).claiming)) (unfenced n.fence n.cores)))
          (choice-claims n (after_events n s).claiming (even_at_tick n s))

  -- and so is owed ticks
  pub granted-owed : GrantedOwed (bit (granted_at n s)) (after_events n s)
  granted-owed p e =
      let c : bit (after_events n s).claiming p ≡ true = within-bit (granted_at n s) (after_events n s).claiming p granted-kept e in
      (c, (after-owed.1 p c).1)

  -- so the next tick can be stepped
  pub safe-next : Safe n (next_tick_state n s)
  unfolding next_tick_state
  safe-next = record {
    few = h.few;
    cores = h.cores;
    times = h.times;
    sized = worked-sized (bit (granted_at n s)) (after_events n s) after-owed.0;
    owed =
        owed-claims (worked_tick (bit (granted_at n s)) (after_events n s)) worked-small
        (worked-owed (bit (granted_at n s)) (after_events n s) after-owed.0 after-owed.1);
    kept = granted-kept;
  }
    where
      worked-small : (worked_tick (bit (granted_at n s)) (after_events n s)).claiming < 2 ^ 32
      worked-small = unfold worked_tick in set-lt most_tasks (λ p. bit (after_events n s).claiming p && not (finishes (bit (granted_at n s)) (after_events n s) p))

  -- and this one, where its tick is not the last of all
  pub safe-steppable : s.tick < most_horizon → Steppable n s
  safe-steppable l = record {
    few = h.few;
    narrow = h.cores;
    fits = λ p b. let t = h.times p b in (omega (arith, t.1), omega (arith, t.2));
    tick = omega arith;
    owed = granted-owed;
  }
