-- What a firm table guarantees for every list of advances and withdrawals, refused ones included (demand 3, on the side of the book). `firm-kept` shows it.
use Rattle.std.specs.Prelude.{true, ◌++◌, List, ◌≡◌, ◌<◌, ℕ, length, replicate}
use Rattle.model.specs.Advance.{Entry}
use Rattle.model.specs.Refusals.{answer, asked, refused, row_refused}
use Rattle.model.specs.Lists.{Misses, book, no_reports}
use Rattle.model.specs.Compare.{Sustainable, NoneBehind}
use Rattle.model.specs.Sets.{sets_asked}
use Rattle.model.specs.Task.{Table, lending}

-- the claims about a list xs, whose jobs have lengths from zero up, and some of whose tasks may be withdrawn
pub record FirmGuarantee (s : Table) (xs : List Entry) : Type 0 where
  -- under rules 1 to 3, of two lists at one tick, if no job is longer in the first, the first is behind on no job (not so under rule 4:
  -- `lending-not-sustainable`)
  pub sustainable : ¬ (s.rule ≡ lending) → (ys : List Entry) → Sustainable s xs ys
  -- it is behind the full-length run, the book of advances with empty sets, at its tick on no job
  pub not_behind : NoneBehind s (book s xs) (book s (replicate (book s xs).tick no_reports))
  -- every job that the full-length run has finished by the same tick is finished
  pub finished :
      (p k : ℕ) → p < length s.tasks
      → ((book s (replicate (book s xs).tick no_reports)).job p k).ended ≡ true → ((book s xs).job p k).ended ≡ true
  -- no deadline is missed in any prefix of the list; nor is one of a withdrawn position, whose job that goes on ends in time
  pub met : (ys zs : List Entry) → xs ≡ ys ++ zs → (p : ℕ) → ¬ Misses s (book s ys) p
  -- 15 is never answered, to an advance or to a row asked, as bytes or as sets
  pub never-15 : (x : Entry) (p : ℕ) → ¬ (answer s (book s xs) x ≡ refused 15 p)
  pub never-15-row : (e p : ℕ) → ¬ (asked s (book s xs) e ≡ row_refused 15 p)
  pub never-15-sets : (e p : ℕ) → ¬ (sets_asked s (book s xs) e ≡ row_refused 15 p)
