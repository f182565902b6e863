-- Under rule 4 the facts of the first miss are those of rule 3, since at full length the two are one (request 109).
use mathlib.Core.Bool.{Bool, not, ◌&&◌}
use mathlib.Core.List.{List, [], ◌∷◌, map}
use mathlib.Core.Path.{◌≡◌, refl, ap, ap₂, ◌∙◌, fun_ext}
use Prim.Native.Nat.{ℕ, suc}
use lib.Dec.{eqb, leb}
use lib.ListN.{length, get_or}
use Rattle.model.specs.Jobs.{Book}
use Rattle.model.specs.Claims.{claims, in_row, task_claims, widths}
use Rattle.model.specs.Fence.{unfenced_cores}
use Rattle.model.specs.Grants.{Claimant, claimants, given, grants, left, some}
use Rattle.model.specs.Horizon.{horizon}
use Rattle.model.specs.Search.{any, least, up_from}
use Rattle.model.specs.Task.{Table, Task, due, idling, lending, task}
use Rattle.model.specs.Verdict.{first_miss, missed_at, missed_in}
use Rattle.model.proofs.Idling.{lending-idling, lending-idling-books, under}
use Rattle.sentence.specs.Facts.{Facts, named}
use Rattle.sentence.specs.Waiting.{tally, book_at, release_of, late_job, ran_while_waiting, facts_at, miss_place, facts_in}

-- both rules pass over a misfit
choose-same : (bs : List Claimant) (F : List ℕ) → grants lending bs F ≡ grants idling bs F
unfolding grants left
choose-same [] F = refl
choose-same (b ∷ bs) F = ap {B = List (List ℕ)} (λ x. given b F ∷ x) (choose-same bs (left idling b F))

module _ (τs : List Task) (m f : ℕ) where
  abbrev l : Table
  l = under lending τs m f

  abbrev i : Table
  i = under idling τs m f

  -- the same are in the row
  same_row : (u q : ℕ) → in_row l (book_at l u) q ≡ in_row i (book_at i u) q
  unfolding claims
  same_row u q =
      ap (λ (gs : List (List ℕ)). some (get_or gs q [])) (choose-same (claimants (widths l (book_at l u).tick) (task_claims l (book_at l u))) (unfenced_cores l))
      ∙ ap (λ (b : Book). in_row i b q) (lending-idling-books τs m f u)

  same-ran : (t p q : ℕ) → ran_while_waiting l t p q ≡ ran_while_waiting i t p q
  unfolding ran_while_waiting
  same-ran t p q =
      ap (tally t) (fun_ext (λ u. ap₂ (λ (a b : Bool). (leb (release_of i t p) u && not a) && b) (same_row u p) (same_row u q)))

  -- the facts of a miss of place p at tick t
  pub lending-facts-at : (t p : ℕ) → facts_at l t p ≡ facts_at i t p
  lending-facts-at t p =
      ap₂ by-counts (ap (λ (b : Book). (b.job p (late_job i t p)).had) (lending-idling-books τs m f t)) (fun_ext (same-ran t p))
    where
      by-counts : ℕ → (ℕ → ℕ) → Facts
      by-counts had ran =
          record { position = suc p; tick = t; had = had; length = (task i p).length; others = named (map ran (up_from 0 p)) }

  -- the first miss
  same-missed : (t : ℕ) → missed_at l t ≡ missed_at i t
  unfolding missed_at
  same-missed t =
      ap {B = ℕ → Bool} (λ (b : Book) (p : ℕ). any (suc t) (λ k. eqb (due (task i p) k) t && not (b.job p k).ended)) (lending-idling τs m f t).0

  same_first : first_miss l ≡ first_miss i
  unfolding first_miss missed_in horizon
  same_first = ap (least (suc (horizon i))) (fun_ext (λ t. ap (any (length τs)) (same-missed t)))

  same_place : miss_place l ≡ miss_place i
  unfolding miss_place
  same_place = ap (least (length τs)) (ap (missed_at l) same_first ∙ same-missed (first_miss i))

  -- THEOREM (lending-facts)
  pub lending-facts : facts_in l ≡ facts_in i
  unfolding facts_in
  lending-facts = ap₂ (facts_at l) same_first same_place ∙ lending-facts-at (first_miss i) (miss_place i)
