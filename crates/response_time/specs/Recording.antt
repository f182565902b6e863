-- What code does at a state of a jumping run: whether a place is late, and the response times of the jobs that end.
use Rattle.std.specs.Prelude.{Bool, ◌&&◌, cond, List, ℕ, ◌+◌, ◌-◌, max, ltb, get_or}
use Rattle.model.specs.Search.{any, bit}
use Rattle.model.specs.Sizes.{most_tasks}
use Rattle.simulation.specs.Places.{map_places}

-- some place of a set has ticks left
unfoldable pub any_left : ℕ → List ℕ → Bool
any_left set left = any most_tasks (λ p. bit set p && ltb 0 (get_or left p 0))

-- the response time of a job that ends at tick t: its release is a period before the next one
abbrev pub response_at : ℕ → List ℕ → List ℕ → ℕ → ℕ
response_at t periods next p = t + get_or periods p 0 - get_or next p 0

-- the worst-case response times updated with the jobs that end at tick t at the places that pass the test
unfoldable pub recorded : (ℕ → Bool) → ℕ → List ℕ → List ℕ → List ℕ → List ℕ
recorded ends t periods next figures = map_places (λ p x. cond (ends p) (max x (response_at t periods next p)) x) figures
