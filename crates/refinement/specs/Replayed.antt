-- The answer of a replay.
use Rattle.std.specs.Prelude.{Result, Ok, Err, ℕ}
use Rattle.model.specs.Refusal.{number_of, position_of}
use Rattle.refinement.specs.declared.ReplayError.{ReplayError}
use Rattle.refinement.specs.declared.ReplayError.TheVariants as error

-- the last row shown, or refused with number and position; the start refused with number and position; or the lent slices do not fit: too short, or
-- the entries' words are no list of entries
pub data Replayed : Type 0 where
  Shown : Replayed
  RowRefused : ℕ → ℕ → Replayed
  Refused : ℕ → ℕ → Replayed
  Unfit : Replayed

-- as code returns it
abbrev pub replayed_in : {T : Type 0} → Result T ReplayError → Replayed
replayed_in (Ok x) = Shown
replayed_in (Err (error.Row e)) = RowRefused (number_of e) (position_of e)
replayed_in (Err (error.Start e)) = Refused (number_of e) (position_of e)
replayed_in (Err error.Unfit) = Unfit
