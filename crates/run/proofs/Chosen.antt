-- The places that have cores in a run's present tick and those that borrow some, from the sets that code gathers; and 20 and 16 by one test of sets each.
use mathlib.Core.Path.{◌≡◌, refl, sym, ap, ap₂, ◌∙◌}
use mathlib.Core.Bool.{Bool, true, false, not, ◌&&◌, ◌||◌, cond, and_assoc, true≢false}
use mathlib.Core.List.{List, [], map}
use Prim.Native.Nat.{ℕ, zero, suc, ◌/◌, ◌%◌, ◌^◌, ◌≤◌, ◌<◌}
use native.Mathlib.Nat.{lt_of_le_of_lt}
use native.Mathlib.Omega.{arith}
use lib.ListN.{get_or, take, length-map, length-take}
use lib.Bits.{bit_and, bit_or, and_le_l}
use lib.Dec.{eqb, ltb}
use borrow.Author.Tests.{lt-ltb, le-ltb, eqb-true, eqb-false, ltb-true, ltb-false}
use Rattle.model.proofs.Digits.{bit_high, bit-zero, bit-suc, half, and-bit, or-bit}
use Rattle.model.specs.Grants.{Claimant, claimants, grants, some}
use Rattle.model.specs.Fence.{unfenced}
use Rattle.model.specs.Lending.{lends, lent, shown_cores}
use Rattle.model.specs.Search.{any, bit}
use Rattle.model.specs.Sets.{set_of}
use Rattle.std.proofs.lemmas.Bool.{true_from_ne_false}
use Rattle.model.proofs.Grants.{claimants-same}
use Rattle.model.proofs.Search.{none_any, none-at}
use Rattle.rule.specs.Widths.{widths_in}
use Rattle.rule.proofs.Granting.{same-either}
use Rattle.run.specs.declared.Run.{Run}
use Rattle.run.specs.declared.choosing.Claims.{Claims}
use Rattle.run.specs.declared.allocation.Allocation.{Allocation}
use Rattle.phase.specs.declared.Phase.{Phase}
use Rattle.phase.specs.declared.Phase.TheVariants.{Coming, Working, Holding, Resting}
use Rattle.phase.specs.Phase.{claiming, holder, working}
use Rattle.phase.specs.Task.{width_now}
use Rattle.run.specs.Run.{rule_in, emptied_at, widths_now, grants_in, has_cores, offer_in, seeks_in, lent_in, has_lent}
use Rattle.run.specs.Numbers.{emptiable_at, wrong_empties_in, reportable_at, wrong_reports_in}
use Rattle.run.specs.Claims.{ClaimsOf}
use Rattle.run.specs.Sets.{in32, sets_in}
use Rattle.run.specs.Allocation.{AllocationOf, given_to, is_given, lent_to}
use Rattle.run.proofs.Lent.{past-grants, past-offer}

-- ---- the places that have cores, and those that borrow some

module _ (r : Run) (e : ℕ) (c : Claims) (h : ClaimsOf r e c) where
  below : (q : ℕ) → q < r.count → bit c.claiming q ≡ claiming (emptied_at r e q)
  below q l = h.claimed q ∙ ap (λ (t : Bool). t && claiming (emptied_at r e q)) (lt-ltb q r.count l)

  -- no place claims past the count
  pub claims-below : (q : ℕ) → r.count ≤ q → bit c.claiming q ≡ false
  claims-below q l = h.claimed q ∙ ap (λ (t : Bool). t && claiming (emptied_at r e q)) (le-ltb q r.count l)

  -- the widths of the places below the count, and the cores that the rule gives from
  abbrev pub ws : List ℕ
  ws = take r.count (widths_in c.even c.widths)

  abbrev pub F : List ℕ
  F = unfenced r.fence r.cores

  -- the cores that are given
  pub same-given : given_to (rule_in r) ws c.claiming F ≡ grants_in r e
  unfolding grants_in
  same-given =
      ap (λ (vs : List ℕ). grants (rule_in r) (claimants vs (bit c.claiming)) F) h.width
      ∙ ap (λ (bs : List Claimant). grants (rule_in r) bs F)
      (claimants-same (widths_now r) (bit c.claiming) (λ q. claiming (emptied_at r e q))
      (λ q l. below q (omega (arith, length-map (take r.count r.tasks) width_now, length-take r.count r.tasks))))

  same-seeks : (p : ℕ) → bit c.working p && not (is_given (rule_in r) ws c.claiming F p) ≡ seeks_in r e p
  unfolding seeks_in
  same-seeks p =
      ap₂ (λ (t : Bool) (gs : List (List ℕ)). t && not (some (get_or gs p []))) (h.worked p) same-given
      ∙ and_assoc (ltb p r.count) (working (emptied_at r e p)) (not (has_cores r e p))

  same-offer : (p : ℕ)
      → cond (lends (rule_in r) && (bit c.claiming p && not (bit c.working p))) (get_or (given_to (rule_in r) ws c.claiming F) p []) [] ≡ offer_in r e p
  unfolding offer_in
  same-offer p = go (ltb p r.count) refl
    where
      -- a place that claims and is not Working holds
      held : (ph : Phase) → claiming ph && not (working ph) ≡ holder ph
      held (Coming left) = refl
      held (Working z had reserved) = refl
      held (Holding z reserved) = refl
      held (Resting z) = refl

      go : (t : Bool) → ltb p r.count ≡ t
          → cond (lends (rule_in r) && (bit c.claiming p && not (bit c.working p))) (get_or (given_to (rule_in r) ws c.claiming F) p []) []
          ≡ offer_in r e p
      go true q =
          ap₂ (λ (t : Bool) (gs : List (List ℕ)). cond (lends (rule_in r) && t) (get_or gs p []) [])
          (ap₂ (λ (a b : Bool). a && not b) (h.claimed p ∙ ap (λ (t : Bool). t && claiming (emptied_at r e p)) q)
          (h.worked p ∙ ap (λ (t : Bool). t && working (emptied_at r e p)) q)
          ∙ held (emptied_at r e p)) same-given
      go false q =
          ap (λ (l : List ℕ). cond (lends (rule_in r) && (bit c.claiming p && not (bit c.working p))) l [])
          (ap (λ (gs : List (List ℕ)). get_or gs p []) same-given ∙ past-grants r e p (ltb-false p r.count q))
          ∙ (same-either (lends (rule_in r) && (bit c.claiming p && not (bit c.working p))) [] ∙ sym (past-offer r e p (ltb-false p r.count q)))

  -- and those that are lent
  pub same-lent : lent_to (rule_in r) ws c.claiming c.working F r.count ≡ lent_in r e
  unfolding lent_in
  same-lent = λ i. lent (h.width i) (λ p. same-seeks p i) (λ p. same-offer p i) r.count

  -- so the sets that the choosing gives are those of the places with cores
  module _ (s : Allocation) (q : AllocationOf (rule_in r) ws c.claiming c.working F r.count s) where
    pub has-cores : (p : ℕ) → bit s.given p ≡ has_cores r e p
    has-cores p = q.given p ∙ ap (λ (gs : List (List ℕ)). some (get_or gs p [])) same-given

    pub has-lent : (p : ℕ) → bit s.lent p ≡ has_lent r e p
    has-lent p = q.lent p ∙ ap (λ (gs : List (List ℕ)). some (get_or gs p [])) same-lent

    -- and the sets of cores are the run's
    pub same-sets : s.sets ≡ sets_in r e
    unfolding sets_in
    same-sets = q.shows ∙ ap (λ (gs : List (List ℕ)). in32 (map set_of gs)) (ap₂ shown_cores same-given same-lent)

-- ---- sets with the same bits

same-digit : (a b : ℕ) → eqb (a % 2) 1 ≡ eqb (b % 2) 1 → a % 2 ≡ b % 2
same-digit a b e = go (eqb (b % 2) 1) refl
  where
    go : (t : Bool) → eqb (b % 2) 1 ≡ t → a % 2 ≡ b % 2
    go true q = omega (arith, eqb-true (a % 2) 1 (e ∙ q), eqb-true (b % 2) 1 q)
    go false q =
        let n : (a % 2 ≡ 1 → ⊥) = eqb-false (a % 2) 1 (e ∙ q) in
        let m : (b % 2 ≡ 1 → ⊥) = eqb-false (b % 2) 1 q in
        omega arith

pub same_bits : (k a b : ℕ) → a < 2 ^ k → b < 2 ^ k → ((p : ℕ) → bit a p ≡ bit b p) → a ≡ b
same_bits zero a b h l e = omega arith
same_bits (suc k) a b h l e =
    let low : a % 2 ≡ b % 2 = same-digit a b (sym (bit-zero a) ∙ e 0 ∙ bit-zero b) in
    let high : a / 2 ≡ b / 2 = same_bits k (a / 2) (b / 2) (half k a h) (half k b l) (λ p. sym (bit-suc a p) ∙ e (suc p) ∙ bit-suc b p) in
    omega arith

-- ---- a set within the set of what may be

module _ (x m : ℕ) (f : ℕ → Bool) (e : (p : ℕ) → bit m p ≡ f p) where
  common : (p : ℕ) → bit (bit_and x m) p ≡ bit x p && f p
  common p = and-bit x m p ∙ ap (λ (t : Bool). bit x p && t) (e p)

  none-outside : bit_and x m ≡ x → any x (λ p. bit x p && not (f p)) ≡ false
  none-outside q = none_any x (λ p. bit x p && not (f p)) (λ p l. go (bit x p) (f p) (sym (common p) ∙ ap (λ (y : ℕ). bit y p) q))
    where
      go : (s t : Bool) → s && t ≡ s → s && not t ≡ false
      go true true h = refl
      go true false h = absurd (true≢false (sym h))
      go false t h = refl

  all-inside : any x (λ p. bit x p && not (f p)) ≡ false → (p : ℕ) → bit x p && f p ≡ bit x p
  all-inside q p = by (ltb p x) refl
    where
      go : (s t : Bool) → s && not t ≡ false → s && t ≡ s
      go true true h = refl
      go true false h = absurd (true≢false h)
      go false t h = refl

      by : (u : Bool) → ltb p x ≡ u → bit x p && f p ≡ bit x p
      by true w = go (bit x p) (f p) (none-at x (λ p. bit x p && not (f p)) p q (ltb-true p x w))
      by false w = ap (λ (t : Bool). t && f p) (bit_high x p (ltb-false p x w)) ∙ sym (bit_high x p (ltb-false p x w))

  -- some bit is set outside m exactly if x is not within m
  outside : (k : ℕ) → x < 2 ^ k → any x (λ p. bit x p && not (f p)) ≡ not (eqb (bit_and x m) x)
  outside k l = go (eqb (bit_and x m) x) refl
    where
      go : (t : Bool) → eqb (bit_and x m) x ≡ t → any x (λ p. bit x p && not (f p)) ≡ not t
      go true e = none-outside (eqb-true (bit_and x m) x e)
      go false e =
          true_from_ne_false (any x (λ p. bit x p && not (f p)))
          (λ q. eqb-false (bit_and x m) x e (same_bits k (bit_and x m) x (lt_of_le_of_lt (and_le_l x m) l) l (λ p. common p ∙ all-inside q p)))

-- 20 by one test of sets: the empties are within the places whose job is released in this tick
pub may-begin :
    (r : Run) (e : ℕ) (c : Claims) → ClaimsOf r e c → (k : ℕ) → e < 2 ^ k → wrong_empties_in r e ≡ not (eqb (bit_and e c.released) e)
unfolding wrong_empties_in
may-begin r e c h k l = outside e c.released (emptiable_at r) h.begun k l

-- the places that work are those that are given or borrow cores and are Working
pub may-end :
    (r : Run) (e : ℕ) (c : Claims) (h : ClaimsOf r e c) (s : Allocation) → AllocationOf (rule_in r) (ws r e c h) c.claiming c.working (F r e c h) r.count s
    → (p : ℕ) → bit (bit_and (bit_or s.given s.lent) c.working) p ≡ reportable_at r e p
may-end r e c h s q p =
    and-bit (bit_or s.given s.lent) c.working p
    ∙ (ap₂ (λ (a b : Bool). a && b)
    (or-bit s.given s.lent p ∙ ap₂ (λ (a b : Bool). a || b) (has-cores r e c h s q p) (has-lent r e c h s q p)) (h.worked p)
    ∙ turned (has_cores r e p || has_lent r e p) (ltb p r.count) (working (emptied_at r e p)))
  where
    turned : (a b d : Bool) → a && (b && d) ≡ b && (d && a)
    turned true true true = refl
    turned true true false = refl
    turned true false d = refl
    turned false true true = refl
    turned false true false = refl
    turned false false d = refl

-- and 16: the reports are within the places that work
pub may-report :
    (r : Run) (e m : ℕ) → ((p : ℕ) → bit m p ≡ reportable_at r e p) → (x k : ℕ) → x < 2 ^ k → wrong_reports_in r e x ≡ not (eqb (bit_and x m) x)
unfolding wrong_reports_in
may-report r e m h x k l = outside x m (reportable_at r e) h k l
