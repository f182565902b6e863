-- Several positions withdrawn together (request 113), against single withdrawals of them one after another: what is compared. `withdraw-set` shows it.
use Rattle.std.specs.Prelude.{true, List, map, ◌≡◌, ◌<◌, suc, ℕ, length, replicate}
use Rattle.model.specs.Jobs.{Book}
use Rattle.model.specs.Advance.{Entry, withdraw, withdraw_all}
use Rattle.model.specs.Refusals.{answer}
use Rattle.model.specs.Lists.{answers_from, book_from, enter}
use Rattle.model.specs.Search.{bit, member}
use Rattle.model.specs.Task.{Table}

-- every position of a set is one of the first n
abbrev pub SetBelow : ℕ → ℕ → Type 0
SetBelow count x = (q : ℕ) → bit x q ≡ true → q < count

-- a list holds just the places of a set, in any order, each once or more often
abbrev pub Enumerates : ℕ → List ℕ → Type 0
Enumerates x qs = (q : ℕ) → member q qs ≡ bit x q

-- the positions of these places withdrawn one after another
abbrev pub one_by_one : List ℕ → List Entry
one_by_one qs = map (λ q. withdraw (suc q)) qs

-- the claims about a set x withdrawn in book b
pub record SetAsSingles (s : Table) (b : Book) (x : ℕ) : Type 0 where
  -- where every position is one of the table's, the book after it is that after single withdrawals, in any order ..
  pub singles : SetBelow (length s.tasks) x → (qs : List ℕ) → Enumerates x qs → enter s (withdraw_all x) b ≡ book_from s b (one_by_one qs)
  -- .. and each of these has the answer of the set: all are taken where it is
  pub each : SetBelow (length s.tasks) x → (qs : List ℕ) → Enumerates x qs → answers_from s b (one_by_one qs) ≡ replicate (length qs) (answer s b (withdraw_all x))
  -- where one is not in the table, none is withdrawn
  pub none : ¬ SetBelow (length s.tasks) x → enter s (withdraw_all x) b ≡ b
