-- The list of slacks: 32 numbers, that of each task at its place, and zeros past the count.
use mathlib.Core.Bool.{Bool, false, true}
use mathlib.Core.List.{List, map, ◌++◌}
use mathlib.Core.Path.{◌≡◌, ap, refl, sym, ◌∙◌}
use Prim.Native.Nat.{ℕ, ◌+◌, ◌-◌, ◌≤◌, ◌<◌}
use native.Mathlib.Nat.{not-suc-le-zero, zero-add}
use native.Mathlib.Omega.{arith}
use lib.Dec.{ltb}
use lib.ListN.{get_or-append, get_or, length, length-append, length-map, length-replicate, replicate}
use lib.Seq.{ext_get_or, get_or-append-add}
use borrow.Author.Tests.{ltb-false, ltb-true}
use Rattle.model.proofs.Lists.{get_d-zeros, map_at, up_at, up-length}
use Rattle.model.specs.Search.{up_from}
use Rattle.model.specs.Task.{Table}
use Rattle.slack.specs.Answer.{slack_in}
use Rattle.slack.specs.Slack.{slack}

module _ (s : Table) where
  abbrev count : ℕ
  count = length s.tasks

  abbrev front : List ℕ
  front = map (slack s) (up_from 0 count)

  front_length : length front ≡ count
  front_length = length-map (up_from 0 count) (slack s) ∙ up-length 0 count

  pub figures-length : count ≤ 32 → length (slack_in s) ≡ 32
  unfolding slack_in
  figures-length few = omega (arith, length-append front (replicate (32 - count) 0), front_length, length-replicate {A = ℕ} (32 - count) 0)

  pub figures-at : (p : ℕ) → p < count → get_or (slack_in s) p 0 ≡ slack s p
  unfolding slack_in
  figures-at p l =
      get_or-append front (replicate (32 - count) 0) 0 p (omega (arith, front_length))
      ∙ (map_at (slack s) (up_from 0 count) p 0 0 (omega (arith, up-length 0 count)) ∙ ap (slack s) (up_at 0 count p 0 l ∙ zero-add p))

  pub figures-past : (p : ℕ) → count ≤ p → get_or (slack_in s) p 0 ≡ 0
  unfolding slack_in
  figures-past p l =
      let e : p ≡ length front + (p - count) = omega (arith, front_length) in
      ap (λ (i : ℕ). get_or (front ++ replicate (32 - count) 0) i 0) e
      ∙ (get_or-append-add front (replicate (32 - count) 0) (p - count) 0 ∙ get_d-zeros (32 - count) (p - count))

  -- the numbers of the first i places, and zeros after them
  pub record Filled (xs : List ℕ) (i : ℕ) : Type 0 where
    pub size : length xs ≡ 32
    pub done : (p : ℕ) → p < i → get_or xs p 0 ≡ slack s p
    pub rest : (p : ℕ) → i ≤ p → get_or xs p 0 ≡ 0

  pub filled-start : Filled (replicate 32 0) 0
  filled-start = record { size = refl; done = λ p l. absurd (not-suc-le-zero l); rest = λ p l. get_d-zeros 32 p }

  pub filled-end : (xs : List ℕ) (i : ℕ) → count ≤ 32 → i ≡ count → Filled xs i → xs ≡ slack_in s
  filled-end xs i few e f =
      ext_get_or 0 xs (slack_in s) (f.size ∙ sym (figures-length few))
      (λ p l. go p (ltb p count) refl)
    where
      go : (p : ℕ) (t : Bool) → ltb p count ≡ t → get_or xs p 0 ≡ get_or (slack_in s) p 0
      go p true h = let m = ltb-true p count h in f.done p (omega arith) ∙ sym (figures-at p m)
      go p false h = let m = ltb-false p count h in f.rest p (omega arith) ∙ sym (figures-past p m)
