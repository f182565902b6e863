-- The unfenced cores, those below the count that are outside the fence: which numbers they are, and the set of the others.
use mathlib.Core.Path.{◌≡◌, ap, ap₂, refl, sym, ◌∙◌}
use mathlib.Core.Bool.{Bool, true, false, not, ◌&&◌}
use Prim.Native.Nat.{ℕ, ◌≤◌, ◌<◌, min}
use native.Mathlib.Omega.{arith}
use lib.Dec.{ltb}
use borrow.Author.Tests.{ltb-true}
use Rattle.model.specs.Fence.{outside, unfenced}
use Rattle.model.specs.Search.{bit, member, up_from}
use Rattle.model.proofs.Bools.{and_left, and_right}
use Rattle.cores.specs.Cores.{cores}
use Rattle.cores.proofs.Ascending.{In, memb-first, memb-kept}
use Rattle.cores.proofs.Cores.{cores-memb}

-- an open core is below the count and not in the fence
pub memb-open : (f m c : ℕ) → member c (unfenced f m) ≡ ltb c m && not (bit f c)
memb-open f m c = memb-kept (λ b. not (bit f b)) c (up_from 0 m) ∙ ap (λ (t : Bool). t && not (bit f c)) (memb-first c m)

pub in-open : (f m c : ℕ) → In c (unfenced f m) → (c < m) × (bit f c ≡ false)
in-open f m c i =
    let e : ltb c m && not (bit f c) ≡ true = sym (memb-open f m c) ∙ i in
    (ltb-true c m (and_left (ltb c m) (not (bit f c)) e), not-not (bit f c) (and_right (ltb c m) (not (bit f c)) e))
  where
    not-not : (t : Bool) → not t ≡ true → t ≡ false
    not-not false h = refl
    not-not true h = sym h

-- of a count up to 64
pub open_of : (r f m : ℕ) → m ≤ 64 → cores r ≡ unfenced f (min m 64) → cores r ≡ unfenced f m
open_of r f m h e = let all : min m 64 ≡ m = omega arith in e ∙ ap (unfenced f) all

-- the first cores without the unfenced ones are those in the fence
pub memb-fenced : (free f m c : ℕ) → c < 64 → cores free ≡ unfenced f m → member c (outside free (up_from 0 m)) ≡ ltb c m && bit f c
memb-fenced free f m c h e =
    memb-kept (λ b. not (bit free b)) c (up_from 0 m)
    ∙ (ap₂ (λ (t u : Bool). t && not u) (memb-first c m) (sym (cores-memb free c h) ∙ (ap (member c) e ∙ memb-open f m c))
    ∙ same (ltb c m) (bit f c))
  where
    same : (t u : Bool) → t && not (t && not u) ≡ t && u
    same true true = refl
    same true false = refl
    same false u = refl
