-- Sets put together: whether one has a core, one beside another, and the cores that some of the sets have.
use mathlib.Core.Path.{◌≡◌, sym, ap, ◌∙◌}
use mathlib.Core.Logic.{◌⊎◌, inl, inr}
use mathlib.Core.Bool.{Bool, false, ◌||◌, or_assoc, or-false}
use mathlib.Core.List.{List, [], ◌∷◌, ◌++◌, append-nil, map}
use Prim.Native.Nat.{ℕ, zero, suc, ◌^◌, ◌<◌}
use native.Mathlib.Omega.{arith}
use lib.Bits.{bit_or}
use lib.Dec.{ltb}
use borrow.Author.Tests.{lt-ltb}
use Rattle.model.specs.Grants.{some}
use Rattle.model.specs.Lending.{among}
use Rattle.model.specs.Search.{bit, member, up_from}
use Rattle.model.proofs.Digits.{bit-none, or-bit}
use Rattle.cores.specs.Cores.{cores}
use Rattle.cores.proofs.Ascending.{kept_same, range-up}
use Rattle.cores.proofs.Cores.{cores-memb, cores-none, popped}

-- a set has a core where it is not 0
pub some-cores : (n : ℕ) → n < 2 ^ 64 → some (cores n) ≡ ltb 0 n
some-cores zero h = ap some cores-none
some-cores (suc n) h = ap some (popped (suc n) (omega arith) h).rest ∙ sym (lt-ltb 0 (suc n) (omega arith))

-- ---- one set beside another, where one of them has no core

no_digit : (a c : ℕ) → cores a ≡ [] → c < 64 → bit a c ≡ false
unfolding member
no_digit a c e h = sym (cores-memb a c h) ∙ ap (member c) e

or-none : (a b : ℕ) → cores a ≡ [] → cores (bit_or a b) ≡ cores b
unfolding cores
or-none a b e =
    kept_same (bit (bit_or a b)) (bit b) 0 64 (up_from 0 64) (range-up 0 64 64 (omega arith))
    (λ c h. or-bit a b c ∙ ap (λ (t : Bool). t || bit b c) (no_digit a c e h))

none_or : (a b : ℕ) → cores b ≡ [] → cores (bit_or a b) ≡ cores a
unfolding cores
none_or a b e =
    kept_same (bit (bit_or a b)) (bit a) 0 64 (up_from 0 64) (range-up 0 64 64 (omega arith))
    (λ c h. or-bit a b c ∙ ap (λ (t : Bool). bit a c || t) (no_digit b c e h) ∙ or-false (bit a c))

pub cores-or : (a b : ℕ) → (cores a ≡ []) ⊎ (cores b ≡ []) → cores (bit_or a b) ≡ cores a ++ cores b
cores-or a b (inl e) = or-none a b e ∙ sym (ap (λ (l : List ℕ). l ++ cores b) e)
cores-or a b (inr e) = none_or a b e ∙ sym (ap (λ (l : List ℕ). cores a ++ l) e ∙ append-nil (cores a))

-- ---- the cores that some of the sets have

-- a set that has just these
abbrev pub Union : List ℕ → ℕ → Type 0
Union sets all = (c : ℕ) → c < 64 → bit all c ≡ among c (map cores sets)

pub union_none : Union [] 0
unfolding among
union_none c h = bit-none c

-- one set more
among_more : (c : ℕ) (sets : List ℕ) (x : ℕ) → c < 64 → among c (map cores (sets ++ (x ∷ []))) ≡ among c (map cores sets) || bit x c
unfolding among
among_more c [] x h = or-false (member c (cores x)) ∙ cores-memb x c h
among_more c (s ∷ sets) x h = ap (λ (t : Bool). member c (cores s) || t) (among_more c sets x h) ∙ sym (or_assoc (member c (cores s)) (among c (map cores sets)) (bit x c))

pub union_more : (sets : List ℕ) (all x : ℕ) → Union sets all → Union (sets ++ (x ∷ [])) (bit_or all x)
union_more sets all x u c h = or-bit all x c ∙ ap (λ (t : Bool). t || bit x c) (u c h) ∙ sym (among_more c sets x h)
