-- Laws of the widths of a tick: how many they are, the width of each place, and the first of them.
use mathlib.Core.Path.{◌≡◌, refl, sym, ap, ◌∙◌}
use mathlib.Core.Bool.{cond}
use mathlib.Core.List.{List}
use Prim.Native.Nat.{ℕ, zero, suc, ◌+◌, ◌*◌, ◌/◌, ◌%◌, ◌^◌, ◌≤◌, ◌<◌}
use native.Mathlib.Nat.{zero-add}
use native.Mathlib.Omega.{arith}
use lib.Dec.{eqb}
use lib.ListN.{length, get_or, take, length-map}
use lib.Seq.{ext_get_or, get_or-take, length-take-le}
use Rattle.model.specs.Search.{bit, up_from}
use Rattle.model.proofs.Lists.{up-length}
use Rattle.cores.proofs.Ascending.{get_d-up}
use Rattle.rule.specs.Widths.{width_in, widths_in}

module _ (even : ℕ) (ws : List ℕ) where
  pub widths-length : length (widths_in even ws) ≡ 32
  unfolding widths_in
  widths-length = length-map (up_from 0 32) (width_in even ws) ∙ up-length 0 32

  -- the width of a place
  pub widths-at : (p : ℕ) → p < 32 → get_or (widths_in even ws) p 0 ≡ width_in even ws p
  unfolding widths_in
  widths-at p h = get_d-up (width_in even ws) 0 0 32 p h ∙ ap (width_in even ws) (zero-add p)

  -- the widths of the first places
  pub front_length : (n : ℕ) → n ≤ 32 → length (take n (widths_in even ws)) ≡ n
  front_length n h = length-take-le n (widths_in even ws) (omega (arith, widths-length))

  pub front_at : (n p : ℕ) → p < n → n ≤ 32 → get_or (take n (widths_in even ws)) p 0 ≡ width_in even ws p
  front_at n p h k = get_or-take n (widths_in even ws) p 0 h ∙ widths-at p (omega arith)

-- lists of as many widths as there are places, alike at each of them
pub front-is :
    (even : ℕ) (ws vs : List ℕ) (n : ℕ) → n ≤ 32 → length vs ≡ n → ((p : ℕ) → p < n → width_in even ws p ≡ get_or vs p 0)
    → take n (widths_in even ws) ≡ vs
front-is even ws vs n h k e =
    let m = front_length even ws n h in
    ext_get_or 0 (take n (widths_in even ws)) vs (m ∙ sym k) (λ p l. front_at even ws n p (omega (arith, m)) h ∙ e p (omega (arith, m)))

-- as code reads them: at the place, or at as many places further on as there are
pub read_at : (even p : ℕ) → 32 * (even / 2 ^ p % 2) + p ≡ cond (bit even p) (32 + p) p
read_at even p = go (even / 2 ^ p % 2) (omega arith)
  where
    go : (d : ℕ) → d < 2 → 32 * d + p ≡ cond (eqb d 1) (32 + p) p
    go zero h = zero-add p
    go (suc zero) h = refl
    go (suc (suc d)) h = absurd (omega arith)
