-- The times recorded at the places of a set: place after place as the set is walked, and the value at a place.
use mathlib.Core.Path.{◌≡◌, sym, ap, ◌∙◌}
use mathlib.Core.Bool.{Bool, cond}
use mathlib.Core.List.{List, []}
use Prim.Native.Nat.{ℕ, ◌<◌, max}
use lib.ListN.{length, get_or, set}
use Rattle.model.specs.Search.{bit}
use Rattle.model.specs.Members.{members}
use Rattle.simulation.proofs.Places.{each_none, each-still, each_more, each_same, each-length, each_at}
use Rattle.simulation.proofs.SetWalk.{taken, Off, none-taken, all-taken}
use Rattle.response_time.specs.Recording.{response_at, recorded}

module _ (tick : ℕ) (periods next figures : List ℕ) where
  -- what is done at a place
  abbrev more : (ℕ → Bool) → ℕ → ℕ → ℕ
  more f p x = cond (f p) (max x (response_at tick periods next p)) x

  -- nothing is taken off the set yet
  pub noted-none : (ended rest : ℕ) → rest ≡ ended → figures ≡ recorded (taken ended rest) tick periods next figures
  unfolding recorded
  noted-none ended rest e =
      sym (each_none (more (taken ended rest)) figures (λ p x. ap (λ (b : Bool). cond b (max x (response_at tick periods next p)) x) (none-taken ended rest e p)))

  module _ (ended rest p others : ℕ) (now : List ℕ) (w : Off ended rest p others) (e : now ≡ recorded (taken ended rest) tick periods next figures) where
    -- the lowest place still has its response time
    pub noted-still : get_or now p 0 ≡ get_or figures p 0
    unfolding recorded
    noted-still =
        ap (λ (l : List ℕ). get_or l p 0) e
        ∙ each-still (more (taken ended rest)) figures p (λ x. ap (λ (b : Bool). cond b (max x (response_at tick periods next p)) x) w.off)

    -- and then the time is taken in
    pub noted_more : (r : ℕ) → r ≡ max (get_or now p 0) (response_at tick periods next p) → set now p r ≡ recorded (taken ended others) tick periods next figures
    unfolding recorded
    noted_more r q =
        ap (λ (l : List ℕ). set l p r) e
        ∙ each_more (more (taken ended rest)) (more (taken ended others)) figures p r
        (ap (λ (b : Bool). cond b (max (get_or figures p 0) (response_at tick periods next p)) (get_or figures p 0)) w.on
        ∙ (ap (λ (x : ℕ). max x (response_at tick periods next p)) (sym noted-still) ∙ sym q))
        (λ i x ne. ap (λ (b : Bool). cond b (max x (response_at tick periods next i)) x) (w.same i ne))

  -- nothing is left of the set
  pub noted-all : (ended rest : ℕ) → members rest ≡ [] → recorded (taken ended rest) tick periods next figures ≡ recorded (bit ended) tick periods next figures
  unfolding recorded
  noted-all ended rest none =
      each_same (more (taken ended rest)) (more (bit ended)) figures
      (λ i. ap (λ (b : Bool). cond b (max (get_or figures i 0) (response_at tick periods next i)) (get_or figures i 0)) (all-taken ended rest none i))

  -- the value at a place, and as many as before
  pub noted-at : (f : ℕ → Bool) (i : ℕ) → i < length figures → get_or (recorded f tick periods next figures) i 0 ≡ more f i (get_or figures i 0)
  unfolding recorded
  noted-at f i l = each_at (more f) figures i l

  pub noted-length : (f : ℕ → Bool) → length (recorded f tick periods next figures) ≡ length figures
  unfolding recorded
  noted-length f = each-length (more f) figures
