-- The relation of one place of the machine to its line of jobs in the book, and of its width to the job that it works on.
use Rattle.std.specs.Prelude.{◌≡◌, Bool, true, false, not, ◌&&◌, ℕ, suc, ◌+◌, ◌%◌, ◌≤◌, ◌<◌, eqb}
use Rattle.model.specs.Task.{Task, release, due}
use Rattle.model.specs.Jobs.{Job, fresh}

-- `handled_to` counts the ticks whose due events have been handled: it is t before those of tick t are, and t + 1 after.

-- l ticks are left, the deadline m is ahead: a job was released, has not ended, and has had what is not left; those before it have ended,
-- those after it are fresh, and the first of them comes at n
pub record PlaceWorks (τ : Task) (handled_to : ℕ) (js : ℕ → Job) (l m n : ℕ) : Type 0 where
  pub number : ℕ
  pub had : ℕ
  pub owed : 1 ≤ l
  pub whole : had + l ≡ τ.length
  pub begun : release τ number < handled_to
  pub deadline : m ≡ due τ number
  pub ahead_of : handled_to ≤ m
  pub following : n ≡ release τ (suc number)
  pub line : js number ≡ record { had = had; claimed = had; ended = false }
  pub past : (i : ℕ) → i < number → (js i).ended ≡ true
  pub later : (i : ℕ) → number < i → js i ≡ fresh

-- no tick is left, and m is n: every job released so far has ended, and the next, released at n, is fresh as are all after it
pub record PlaceRests (τ : Task) (handled_to : ℕ) (js : ℕ → Job) (l m n : ℕ) : Type 0 where
  pub number : ℕ
  pub none : l ≡ 0
  pub event : m ≡ release τ number
  pub ahead_of : handled_to ≤ m
  pub following : n ≡ release τ number
  pub past : (i : ℕ) → i < number → (js i).ended ≡ true
  pub later : (i : ℕ) → number ≤ i → js i ≡ fresh

-- a place that claims or not
abbrev pub PlaceRelatedAt : Task → ℕ → (ℕ → Job) → ℕ → ℕ → ℕ → Bool → Type 0
PlaceRelatedAt τ handled_to js l m n true = PlaceWorks τ handled_to js l m n
PlaceRelatedAt τ handled_to js l m n false = PlaceRests τ handled_to js l m n

-- THE WIDTH

-- job k is an even one of a task with two widths: jobs count from 0 here, so its number is odd
abbrev pub even_job : Task → ℕ → Bool
even_job τ k = eqb (k % 2) 1 && not (eqb τ.odd_width τ.even_width)

-- e is true if a place is at its second width, and n is its next release: e is right for the job before that one, which is odd or even as the job after
-- it is. So before its first release a place with two widths is at its second
pub record WidthParity (τ : Task) (n : ℕ) (e : Bool) : Type 0 where
  pub number : ℕ
  pub following : n ≡ release τ number
  pub mark : e ≡ even_job τ (suc number)
