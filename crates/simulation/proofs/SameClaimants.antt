-- After the due events of a tick the machine's claimants are the book's, and their widths; and so are the grants, the row and the places in it.
use mathlib.Core.Path.{◌≡◌, refl, sym, ap, ◌∙◌, subst}
use mathlib.Core.Bool.{Bool, true, false, false≢true, true≢false}
use mathlib.Core.List.{List, [], ◌∷◌, map}
use Prim.Native.Nat.{ℕ, suc, ◌≤◌, ◌<◌}
use native.Mathlib.Omega.{arith}
use lib.ListN.{length, get_or, take, length-map, get_or-eq_default}
use lib.Seq.{get_or-take, length-take-le}
use lib.Dec.{leb}
use borrow.Author.Tests.{leb-true, leb-false, ltb-true}
use Rattle.model.specs.Fence.{unfenced_cores}
use Rattle.model.specs.Search.{bit, up_from}
use Rattle.model.specs.Task.{Table, task, absent_task, AllValid, newest, width_of}
use Rattle.model.specs.Grants.{Claimant, claimants, grants, some}
use Rattle.model.specs.Row.{byte_of, row}
use Rattle.model.specs.Claims.{claims, task_claims, widths, grants_of, book_row, in_row}
use Rattle.model.specs.Lists.{full}
use Rattle.std.proofs.lemmas.Bool.{true_from_ne_false}
use Rattle.simulation.specs.Machine.{Machine, GrantedOwed}
use Rattle.model.proofs.Runs.{full-tick, full-claimed, full-row}
use Rattle.simulation.proofs.Place.{claims-owed, related-claims}
use Rattle.simulation.proofs.MachineRelated.{Ready, Columns}
use Rattle.simulation.proofs.WidthParity.{WidthToggled, width-newest}
use Rattle.model.proofs.Grants.{grants-take, grants-widths, claimants-prefix, claimants-same, grants-length, grants-none}
use Rattle.model.proofs.Lists.{map_at}
use Rattle.model.proofs.Rows.{owner-take}
use Rattle.rule.specs.Widths.{widths_in}
use Rattle.rule.proofs.Widths.{widths-length, widths-at, front_length, front_at}

-- widths that are right for the places that claim: those of their newest jobs. What is at the other places does not matter
pub record Agrees (s : Table) (t : ℕ) (m : Machine) (ws : List ℕ) : Type 0 where
  pub long : length s.tasks ≤ length ws
  pub same : (p : ℕ) → p < length s.tasks → bit m.claiming p ≡ true → get_or ws p 0 ≡ width_of (task s p) (newest (task s p) t)

-- the widths of a machine that is ready, of all 32 places and of the first ones
module _
    (s : Table) (ok : AllValid s) (few : length s.tasks ≤ 32) (t : ℕ) (m : Machine) (even : ℕ) (h : Ready s t m) (turns : WidthToggled s m even)
    (O v C D T : List ℕ) (of : Columns s O v C D T)
  where
    pub all-agree : Agrees s t m (widths_in even v)
    all-agree = record {
      long = omega (arith, widths-length even v);
      same = λ p l c. widths-at even v p (omega arith) ∙ width-newest s ok t m even h turns O v C D T of p l c;
    }

    pub first-agree : (n : ℕ) → length s.tasks ≤ n → n ≤ 32 → Agrees s t m (take n (widths_in even v))
    first-agree n k l = record {
      long = omega (arith, front_length even v n l);
      same = λ p q c. front_at even v n p (omega arith) l ∙ width-newest s ok t m even h turns O v C D T of p q c;
    }

module _ (s : Table) (ok : AllValid s) (t : ℕ) (m : Machine) (h : Ready s t m) where
  -- the claimants are the book's
  pub claims-same : (p : ℕ) → p < length s.tasks → bit m.claiming p ≡ task_claims s (full s t) p
  claims-same p l =
      sym
      (subst (λ (u : ℕ). claims s.rule (task s p) (newest (task s p) u) u ((full s t).job p (newest (task s p) u)) ≡ bit m.claiming p) (sym (full-tick s t))
      (related-claims s.rule (task s p) (ok p l) t ((full s t).job p) (full-claimed s t p)
      (get_or m.left p 0) (get_or m.event p 0) (get_or m.next p 0) (bit m.claiming p) (h.done p l l)))

  -- a place that claims is owed ticks
  pub claims-left : (p : ℕ) → bit m.claiming p ≡ true → (p < length s.tasks) × (0 < get_or m.left p 0)
  claims-left p e = go (leb (length s.tasks) p) refl
    where
      go : (x : Bool) → leb (length s.tasks) p ≡ x → (p < length s.tasks) × (0 < get_or m.left p 0)
      go true q = absurd (true≢false (sym e ∙ h.beyond p (leb-true (length s.tasks) p q)))
      go false q =
          let l : p < length s.tasks = leb-false (length s.tasks) p q in (
            l,
            ltb-true 0 (get_or m.left p 0)
                (sym
                (claims-owed (task s p) (suc t) ((full s t).job p) (get_or m.left p 0) (get_or m.event p 0) (get_or m.next p 0) (bit m.claiming p) (h.done p l l))
                ∙ e),
          )

  module _ (ws : List ℕ) (agree : Agrees s t m ws) where
    -- the grants by the machine's claimants, whose widths are right
    abbrev chosen : List (List ℕ)
    chosen = grants s.rule (claimants ws (bit m.claiming)) (unfenced_cores s)

    -- they begin with the book's ..
    pub grants-first : take (length s.tasks) chosen ≡ grants_of s (full s t)
    grants-first =
        grants-take s.rule (length s.tasks) (claimants ws (bit m.claiming)) (unfenced_cores s)
        ∙ (ap (λ (bs : List Claimant). grants s.rule bs (unfenced_cores s)) (claimants-prefix (length s.tasks) ws (bit m.claiming))
        ∙ (grants-widths s.rule (take (length s.tasks) ws) (widths s t) (bit m.claiming) (unfenced_cores s) (front ∙ sym back) right
        ∙ (ap (λ (bs : List Claimant). grants s.rule bs (unfenced_cores s))
        (claimants-same (widths s t) (bit m.claiming) (task_claims s (full s t)) (λ q l. claims-same q (omega (arith, back))))
        ∙ ap (λ (u : ℕ). grants s.rule (claimants (widths s u) (task_claims s (full s t))) (unfenced_cores s)) (sym (full-tick s t)))))
      where
        front : length (take (length s.tasks) ws) ≡ length s.tasks
        front = length-take-le (length s.tasks) ws agree.long

        back : length (widths s t) ≡ length s.tasks
        back = length-map s.tasks (λ τ. width_of τ (newest τ t))

        right : (p : ℕ) → p < length (take (length s.tasks) ws) → bit m.claiming p ≡ true → get_or (take (length s.tasks) ws) p 0 ≡ get_or (widths s t) p 0
        right p l c =
            let q : p < length s.tasks = omega (arith, front) in
            get_or-take (length s.tasks) ws p 0 q ∙ (agree.same p q c ∙ sym (map_at (λ τ. width_of τ (newest τ t)) s.tasks p 0 absent_task q))

    -- .. and past them no place is given cores
    pub grants-past : (p : ℕ) → length s.tasks ≤ p → get_or chosen p [] ≡ []
    grants-past p l = grants-none s.rule ws (bit m.claiming) (unfenced_cores s) p (h.beyond p l)

    -- each place has the cores that the book gives it
    pub grants-same : (p : ℕ) → get_or chosen p [] ≡ get_or (grants_of s (full s t)) p []
    grants-same p = go (leb (length s.tasks) p) refl
      where
        size : length (grants_of s (full s t)) ≡ length s.tasks
        size =
            grants-length s.rule (widths s (full s t).tick) (task_claims s (full s t)) (unfenced_cores s)
            ∙ length-map s.tasks (λ τ. width_of τ (newest τ (full s t).tick))

        go : (x : Bool) → leb (length s.tasks) p ≡ x → get_or chosen p [] ≡ get_or (grants_of s (full s t)) p []
        go true q =
            let l : length s.tasks ≤ p = leb-true (length s.tasks) p q in
            grants-past p l ∙ sym (get_or-eq_default (grants_of s (full s t)) [] (subst (λ (n : ℕ). n ≤ p) (sym size) l))
        go false q =
            sym (get_or-take (length s.tasks) chosen p [] (leb-false (length s.tasks) p q))
            ∙ ap (λ (gs : List (List ℕ)). get_or gs p []) grants-first

    -- so the same are in the row
    pub row-places : (p : ℕ) → some (get_or chosen p []) ≡ in_row s (full s t) p
    row-places p = ap some (grants-same p)

    -- and the row is the book's, core by core
    pub row_same : row s.fence s.cores chosen ≡ book_row s (full s t)
    unfolding row
    row_same =
        map_same (up_from 0 s.cores)
        ∙ ap (λ (gs : List (List ℕ)). map (byte_of s.fence gs) (up_from 0 s.cores)) grants-first ∙ sym (full-row s t)
      where
        map_same : (cs : List ℕ) → map (byte_of s.fence chosen) cs ≡ map (byte_of s.fence (take (length s.tasks) chosen)) cs
        map_same [] = refl
        map_same (c ∷ cs) = rw (owner-take c 1 (length s.tasks) chosen grants-past, map_same cs)

    -- a place that is granted cores claims
    pub granted-claims : (p : ℕ) → in_row s (full s t) p ≡ true → bit m.claiming p ≡ true
    granted-claims p e =
        true_from_ne_false (bit m.claiming p)
        (λ q. absurd (false≢true (sym (ap some (grants-none s.rule ws (bit m.claiming) (unfenced_cores s) p q)) ∙ (row-places p ∙ e))))

    -- so a set of places that are in the row are owed ticks
    pub row-owed : (granted : ℕ → Bool) → ((p : ℕ) → granted p ≡ in_row s (full s t) p) → GrantedOwed granted m
    row-owed granted e p g =
        let c : bit m.claiming p ≡ true = granted-claims p (sym (e p) ∙ g) in
        (c, (claims-left p c).1)
