-- The places that are given cores and those that borrow some, from sets of places: under rule 4 what is reserved, borrowed and shown; the other rules lend
-- nothing.
use mathlib.Core.Path.{◌≡◌, refl, sym, ap, ap₂, subst, ◌∙◌}
use mathlib.Core.Bool.{Bool, true, false, ◌&&◌, not, cond}
use mathlib.Core.List.{List, [], ◌∷◌, ◌++◌, map}
use Prim.Native.Nat.{ℕ, suc, ◌+◌, ◌-◌, ◌^◌, ◌≤◌, ◌<◌}
use native.Mathlib.Omega.{arith}
use lib.Bits.{bit_and, bit_xor}
use lib.Dec.{ltb}
use lib.ListN.{length, get_or, take, drop, replicate, length-drop, length-replicate, length-take, take-append-drop, get_or-eq_default}
use lib.Pow.{pow_pos}
use lib.Seq.{ext_get_or, get_or-drop, get_or-take}
use borrow.Author.Tests.{eq-eqb, ltb-false, ltb-true, not-true}
use Rattle.model.specs.Task.{Rule}
use Rattle.model.specs.Grants.{claimants, some}
use Rattle.model.specs.Lending.{lends, lent, shown_cores}
use Rattle.model.specs.Search.{bit, member}
use Rattle.model.specs.Sets.{set_of}
use Rattle.model.proofs.Bools.{and_right}
use Rattle.model.proofs.Digits.{bit-none, without-bit}
use Rattle.model.proofs.Grants.{grants-length}
use Rattle.model.proofs.Lending.{lent_length, shown-own}
use Rattle.model.proofs.Lists.{get_d-zeros}
use Rattle.cores.specs.Cores.{cores}
use Rattle.cores.proofs.Ascending.{In, not-in-none}
use Rattle.cores.proofs.Cores.{set-cores}
use Rattle.rule.specs.Lent.{LentAs, NotBoth, ShownAs, offered}
use Rattle.rule.specs.Granted.{GrantedAs}
use Rattle.rule.proofs.Borrowed.{lent-from, none-some}
use Rattle.rule.proofs.LentSets.{borrowers, not-both, reserved-owners, shown-sets}
use Rattle.rule.proofs.Sets.{sets-at}
use Rattle.run.specs.Sets.{in32}
use Rattle.run.specs.Allocation.{AllocationOf, given_to, is_given, lent_to}

-- ---- where nothing is offered nothing is borrowed

pub lent_nothing : (ws : List ℕ) (sk : ℕ → Bool) (o : ℕ → List ℕ) → ((q : ℕ) → o q ≡ []) → (n q : ℕ) → get_or (lent ws sk o n) q [] ≡ []
unfolding member
lent_nothing ws sk o e n q = go (get_or (lent ws sk o n) q []) refl
  where
    here : (c : ℕ) (cs : List ℕ) → In c (c ∷ cs)
    here c cs = rw (eq-eqb c c refl)

    go : (l : List ℕ) → get_or (lent ws sk o n) q [] ≡ l → l ≡ []
    go [] i = refl
    go (c ∷ cs) i =
        let f = lent-from ws sk o c n q (ap (member c) i ∙ here c cs) in
        absurd (not-in-none c (subst (In c) (e f.0) f.2))

-- so it is under rules 1 to 3
module _ (r : Rule) (none : lends r ≡ false) (ws : List ℕ) (claiming working : ℕ) (F : List ℕ) (count : ℕ) where
  pub nothing_lent : (p : ℕ) → get_or (lent_to r ws claiming working F count) p [] ≡ []
  nothing_lent p =
      lent_nothing ws (λ q. bit working q && not (is_given r ws claiming F q))
      (λ q. cond (lends r && (bit claiming q && not (bit working q))) (get_or (given_to r ws claiming F) q []) [])
      (λ q. rw none) count p

  pub own-shown : shown_cores (given_to r ws claiming F) (lent_to r ws claiming working F count) ≡ given_to r ws claiming F
  own-shown =
      shown-own (given_to r ws claiming F) (lent_to r ws claiming working F count)
      (lent_length ws (λ q. bit working q && not (is_given r ws claiming F q))
      (λ q. cond (lends r && (bit claiming q && not (bit working q))) (get_or (given_to r ws claiming F) q []) []) count
      ∙ sym (grants-length r ws (bit claiming) F))
      nothing_lent

-- ---- 32 sets, from the lists of their cores

-- machine numbers of 64 digits
abbrev pub Machine : List ℕ → Type 0
Machine sets = (length sets ≡ 32) × ((p : ℕ) → get_or sets p 0 < 2 ^ 64)

sets-again : (sets : List ℕ) → ((p : ℕ) → get_or sets p 0 < 2 ^ 64) → map set_of (map cores sets) ≡ sets
sets-again [] h = refl
sets-again (x ∷ sets) h = ap₂ (λ (y : ℕ) (ys : List ℕ). y ∷ ys) (set-cores x (h 0)) (sets-again sets (λ p. h (suc p)))

sets-are :
    (count : ℕ) (sets : List ℕ) (gs : List (List ℕ)) → Machine sets → count ≤ 32 → map cores (take count sets) ≡ gs
    → drop count sets ≡ replicate (32 - count) 0 → sets ≡ in32 (map set_of gs)
sets-are count sets gs h few e none =
    let front : take count sets ≡ map set_of gs = sym (sets-again (take count sets) small) ∙ ap (map set_of) e in
    let long : length (map set_of gs) ≡ count = sym (ap length front) ∙ (length-take count sets ∙ omega (arith, h.0)) in
    sym (take-append-drop count sets)
    ∙ (ap₂ (λ (a b : List ℕ). a ++ b) front none ∙ ap (λ (n : ℕ). map set_of gs ++ replicate (32 - n) 0) (sym long))
  where
    small : (p : ℕ) → get_or (take count sets) p 0 < 2 ^ 64
    small p = go (ltb p count) refl
      where
        go : (t : Bool) → ltb p count ≡ t → get_or (take count sets) p 0 < 2 ^ 64
        go true l = subst (λ (n : ℕ). n < 2 ^ 64) (sym (get_or-take count sets p 0 (ltb-true p count l))) (h.1 p)
        go false l =
            let b = ltb-false p count l in
            let n : length (take count sets) ≤ p = omega (arith, length-take count sets) in
            subst (λ (n : ℕ). n < 2 ^ 64) (sym (get_or-eq_default (take count sets) 0 n)) (pow_pos 64)

-- ---- the cores of a tick, from the sets that are given: `given` are the places that have some of them

module _ (r : Rule) (ws : List ℕ) (claiming working free count : ℕ) (size : length ws ≡ count) (few : count ≤ 32)
    (reserved : List ℕ) (g : GrantedAs r (claimants ws (bit claiming)) count free reserved)
    (given : ℕ) (owns : (p : ℕ) → bit given p ≡ ltb p 32 && some (cores (get_or reserved p 0))) where
  owners : (p : ℕ) → bit given p ≡ is_given r ws claiming (cores free) p
  owners = reserved-owners r ws (bit claiming) count free reserved g (omega (arith, size, few)) given owns

  -- under rules 1 to 3
  pub shared-own :
      Machine reserved → lends r ≡ false → AllocationOf r ws claiming working (cores free) count (record { given = given; lent = 0; sets = reserved })
  shared-own machine none = record {
    given = owners;
    lent = λ p. bit-none p ∙ sym (ap some (nothing_lent r none ws claiming working (cores free) count p));
    shows =
        sets-are count reserved (shown_cores (given_to r ws claiming (cores free)) (lent_to r ws claiming working (cores free) count)) machine few
        (g.gives ∙ sym (own-shown r none ws claiming working (cores free) count)) g.none;
  }

  -- under rule 4, by the places that hold and those that seek
  module _ (lending : lends r ≡ true) where
    abbrev pub holders : ℕ
    holders = bit_and claiming (bit_xor claiming working)

    abbrev pub seekers : ℕ
    seekers = bit_and working (bit_xor working given)

    seeking : (p : ℕ) → bit seekers p ≡ bit working p && not (is_given r ws claiming (cores free) p)
    seeking p = without-bit working given p ∙ ap (λ (t : Bool). bit working p && not t) (owners p)

    -- the cores that a place lends are those reserved for it
    offering :
        (q : ℕ) → offered reserved holders q
        ≡ cond (lends r && (bit claiming q && not (bit working q))) (get_or (given_to r ws claiming (cores free)) q []) []
    offering q =
        ap (λ (t : Bool). cond t (cores (get_or reserved q 0)) []) (without-bit claiming working q)
        ∙ (ap (λ (l : List ℕ). cond (bit claiming q && not (bit working q)) l []) (sets-at r (claimants ws (bit claiming)) count free reserved g q)
        ∙ ap (λ (t : Bool). cond (t && (bit claiming q && not (bit working q))) (get_or (given_to r ws claiming (cores free)) q []) []) (sym lending))

    module _ (borrowed : List ℕ) (b : LentAs ws reserved holders seekers count borrowed) where
      -- no place has cores of its own and borrows some
      pub one-or-other : NotBoth reserved borrowed
      one-or-other =
          not-both ws reserved holders seekers count size borrowed b (λ p e.
          sets-at r (claimants ws (bit claiming)) count free reserved g p
          ∙ none-some (get_or (given_to r ws claiming (cores free)) p [])
          (not-true (is_given r ws claiming (cores free) p)
          (and_right (bit working p) (not (is_given r ws claiming (cores free) p)) (sym (seeking p) ∙ e))))

      -- what each place borrows
      borrowed-is : map cores (take count borrowed) ≡ lent_to r ws claiming working (cores free) count
      borrowed-is = b.gives ∙ (λ i. lent ws (λ q. seeking q i) (λ q. offering q i) count)

      pub shared-lent :
          (lent : ℕ) → ((p : ℕ) → bit lent p ≡ ltb p 32 && some (cores (get_or borrowed p 0)))
          → (sets : List ℕ) → ShownAs reserved borrowed count sets → Machine sets
          → AllocationOf r ws claiming working (cores free) count (record { given = given; lent = lent; sets = sets })
      shared-lent lent w sets s machine = record {
        given = owners;
        lent =
            borrowers ws reserved holders seekers count size borrowed b
            (λ q. bit working q && not (is_given r ws claiming (cores free) q))
            (λ q. cond (lends r && (bit claiming q && not (bit working q))) (get_or (given_to r ws claiming (cores free)) q []) [])
            (λ q k. seeking q) (λ q k. offering q) few lent w;
        shows =
            sets-are count sets (shown_cores (given_to r ws claiming (cores free)) (lent_to r ws claiming working (cores free) count)) machine few
            (shown-sets r ws (bit claiming) count free size few reserved g holders seekers borrowed b sets s
            ∙ ap (shown_cores (given_to r ws claiming (cores free))) borrowed-is) none;
      }
        where
          none : drop count sets ≡ replicate (32 - count) 0
          none =
              let n : length (drop count sets) ≡ 32 - count = length-drop count sets ∙ ap (λ (k : ℕ). k - count) s.size in
              ext_get_or 0 (drop count sets) (replicate (32 - count) 0) (n ∙ sym (length-replicate {A = ℕ} (32 - count) 0))
              (λ p l. get_or-drop count sets p 0 ∙ (s.none (count + p) (omega arith) ∙ sym (get_d-zeros (32 - count) p)))
