-- A run that has met 15 stays there (scope, 'The run in the cab'): `late-stays` shows it of every run, also of one that was built by hand.
use Rattle.std.specs.Prelude.{◌≡◌, ℕ}
use Rattle.run.specs.declared.Run.{Run}
use Rattle.run.specs.Answer.{Refused}
use Rattle.run.specs.Advance.{advance_of}
use Rattle.run.specs.Row.{no_bytes, row_of}
use Rattle.run.specs.Sets.{no_sets, sets_of}
use Rattle.run.specs.Withdraw.{withdraw_all_of, withdraw_of}

-- the claims about a run, where 15 was met with position p, and the run after some more entries
pub record LateStays (run : Run) (p : ℕ) (after : Run) : Type 0 where
  -- every advance is refused with the same 15, and hands the run back as given
  pub advance : (x e : ℕ) → advance_of after x e ≡ record { answer = Refused 15 p; run = after }
  -- so is every row, as bytes and as sets
  pub row : (e : ℕ) → row_of after e ≡ record { answer = Refused 15 p; bytes = no_bytes }
  pub sets : (e : ℕ) → sets_of after e ≡ record { answer = Refused 15 p; sets = no_sets }
  -- a withdrawal is answered as before, by 21 and 22, and not by 15
  pub withdraw : (q : ℕ) → (withdraw_of after q).answer ≡ (withdraw_of run q).answer
  pub withdraw-all : (x : ℕ) → (withdraw_all_of after x).answer ≡ (withdraw_all_of run x).answer
  -- the phases stay: only the withdrawn set may change
  pub tasks : after.tasks ≡ run.tasks
