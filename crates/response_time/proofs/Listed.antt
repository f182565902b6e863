-- The list of response times: 32 of them, that of each task at its place, and zeros past the count.
use mathlib.Core.Path.{◌≡◌, ap, ◌∙◌}
use mathlib.Core.List.{List, map, ◌++◌}
use Prim.Native.Nat.{ℕ, ◌+◌, ◌-◌, ◌≤◌, ◌<◌}
use native.Mathlib.Nat.{zero-add}
use native.Mathlib.Omega.{arith}
use lib.ListN.{length, get_or, replicate, length-append, length-map, length-replicate, get_or-append}
use lib.Seq.{get_or-append-add}
use Rattle.model.specs.Search.{up_from}
use Rattle.model.specs.Task.{Table}
use Rattle.model.proofs.Lists.{get_d-zeros, map_at, up_at, up-length}
use Rattle.response_time.specs.ResponseTimes.{response_times_in}
use Rattle.response_time.specs.Response.{worst_response}

module _ (s : Table) where
  abbrev count : ℕ
  count = length s.tasks

  abbrev front : List ℕ
  front = map (worst_response s) (up_from 0 count)

  front_length : length front ≡ count
  front_length = length-map (up_from 0 count) (worst_response s) ∙ up-length 0 count

  pub figures-length : count ≤ 32 → length (response_times_in s) ≡ 32
  unfolding response_times_in
  figures-length few = omega (arith, length-append front (replicate (32 - count) 0), front_length, length-replicate {A = ℕ} (32 - count) 0)

  pub figures-at : (p : ℕ) → p < count → get_or (response_times_in s) p 0 ≡ worst_response s p
  unfolding response_times_in
  figures-at p l =
      get_or-append front (replicate (32 - count) 0) 0 p (omega (arith, front_length))
      ∙ (map_at (worst_response s) (up_from 0 count) p 0 0 (omega (arith, up-length 0 count)) ∙ ap (worst_response s) (up_at 0 count p 0 l ∙ zero-add p))

  pub figures-past : (p : ℕ) → count ≤ p → get_or (response_times_in s) p 0 ≡ 0
  unfolding response_times_in
  figures-past p l =
      let e : p ≡ length front + (p - count) = omega (arith, front_length) in
      ap (λ (i : ℕ). get_or (front ++ replicate (32 - count) 0) i 0) e
      ∙ (get_or-append-add front (replicate (32 - count) 0) (p - count) 0 ∙ get_d-zeros (32 - count) (p - count))
