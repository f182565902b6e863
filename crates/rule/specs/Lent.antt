-- What is lent in a tick (request 109) and what a row shows then, in the model's words; a set of cores is represented by the list of its cores.
use Rattle.std.specs.Prelude.{◌≡◌, cond, false, true, List, [], ◌++◌, map, ◌⊎◌, ℕ, ◌-◌, ◌≤◌, ◌<◌, length, get_or, take, drop, replicate}
use Rattle.model.specs.Lending.{lent, unlent}
use Rattle.model.specs.Search.{bit, member}
use Rattle.model.specs.Sizes.{most_tasks}
use Rattle.cores.specs.Cores.{cores}

-- the cores that place p lends: those reserved for it, where it is one of the holders
abbrev pub offered : List ℕ → ℕ → ℕ → List ℕ
offered reserved holders p = cond (bit holders p) (cores (get_or reserved p 0)) []

-- what each place borrows once all have lent, ws being the widths of the places below the count: the cores of each, and no set past the count
pub record LentAs (ws reserved : List ℕ) (holders seekers count : ℕ) (sets : List ℕ) : Type 0 where
  pub gives : map cores (take count sets) ≡ lent ws (bit seekers) (offered reserved holders) count
  pub none : drop count sets ≡ replicate (most_tasks - count) 0

-- no place has cores of its own and borrows some (`not-both`: this holds where every place that seeks cores has none)
abbrev pub NotBoth : List ℕ → List ℕ → Type 0
NotBoth reserved borrowed = (p : ℕ) → (cores (get_or reserved p 0) ≡ []) ⊎ (cores (get_or borrowed p 0) ≡ [])

-- what a row shows of place p: the cores that it borrows, and those reserved for it that no place borrows
abbrev pub shown_at : List ℕ → List ℕ → ℕ → ℕ → List ℕ
shown_at reserved borrowed count p = cores (get_or borrowed p 0) ++ unlent (map cores (take count borrowed)) (cores (get_or reserved p 0))

-- what it shows of each place below the count (`shown-sets`: the model's `shown_cores`), and no set past the count
pub record ShownAs (reserved borrowed : List ℕ) (count : ℕ) (sets : List ℕ) : Type 0 where
  pub size : length sets ≡ most_tasks
  pub gives : (p : ℕ) → p < count → cores (get_or sets p 0) ≡ shown_at reserved borrowed count p
  pub none : (p : ℕ) → count ≤ p → get_or sets p 0 ≡ 0

-- a row of m cores with this fence can show these lists: no core is in two of them, and each is below m and outside the fence
pub record Showable (fence m : ℕ) (gs : List (List ℕ)) : Type 0 where
  pub apart : (c i j : ℕ) → i < j → member c (get_or gs i []) ≡ true → member c (get_or gs j []) ≡ true → ⊥
  pub unfenced-only : (c j : ℕ) → member c (get_or gs j []) ≡ true → (c < m) × (bit fence c ≡ false)
