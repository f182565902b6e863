-- Row, sets, the positions that work and entries on the run that a buffer holds.
use Rattle.std.specs.Prelude.{◌≡◌, Result, Ok, Err, List, ℕ}
use Rattle.model.specs.declared.refusal.Refusal.{Refusal}
use Rattle.model.specs.declared.refusal.Refusal.TheVariants.{NotARun}
use Rattle.model.specs.Refusal.{number_of, position_of}
use Rattle.run.specs.Answer.{Answer}
use Rattle.run.specs.Answer.{Taken, Refused}
use Rattle.run.specs.Answer.{Row}
use Rattle.run.specs.declared.Run.{Run}
use Rattle.run.specs.Sets.{Sets}
use Rattle.run.specs.Working.{WorkingPositions}
use Rattle.run.specs.Answer.{by_answer}
use Rattle.run.specs.Start.{start_of}
use Rattle.run.specs.Row.{no_bytes, row_of}
use Rattle.run.specs.Sets.{no_sets, sets_of}
use Rattle.run.specs.Working.{working_of}
use Rattle.model.specs.Advance.{Entry}
use Rattle.refinement.specs.Entries.{entry_of}
use Rattle.buffers.specs.Encoding.{places, overwritten, BufferRun, run, none}

-- the buffer after a start: the run that it returns, taken or refused, with all its places
abbrev pub started_in : List ℕ → List ℕ → List ℕ
started_in ws buffer = overwritten places (start_of ws).run buffer

-- the row of the run that a buffer holds with the empty jobs e; 14 where it holds none
abbrev pub row_from : BufferRun → ℕ → Row
row_from (run r) e = row_of r e
row_from none e = record { answer = Refused 14 0; bytes = no_bytes }

-- the sets of cores of the run that a buffer holds with the empty jobs e; 14 where it holds none
abbrev pub sets_from : BufferRun → ℕ → Sets
sets_from (run r) e = sets_of r e
sets_from none e = record { answer = Refused 14 0; sets = no_sets }

-- the positions that work in the run that a buffer holds with the empty jobs e; 14 where it holds none
abbrev pub working_from : BufferRun → ℕ → WorkingPositions
working_from (run r) e = working_of r e
working_from none e = record { answer = Refused 14 0; set = 0 }

-- an entry's answer, and the buffer afterwards
pub record Entered : Type 0 where
  pub answer : Answer
  pub buffer : List ℕ

-- the run that an entry returns, with the places below its count; a refusal leaves the buffer as found
abbrev pub kept_run : Answer → Run → List ℕ → Entered
kept_run a r ws = record { answer = a; buffer = by_answer a (overwritten r.count r ws) ws }

-- an entry of a list on the run that a buffer holds; 14 where it holds none
abbrev pub entry_from : BufferRun → Entry → List ℕ → Entered
entry_from (run r) x ws = kept_run (entry_of r x).answer (entry_of r x).run ws
entry_from none x ws = record { answer = Refused 14 0; buffer = ws }

-- what a question answers of the run that a buffer holds; 14 where it holds none
abbrev pub Asked : {T : Type 0} → (Run → Result T Refusal → Type 0) → BufferRun → Result T Refusal → Type 0
Asked post (run r) answer = post r answer
Asked post none answer = answer ≡ Err NotARun

-- the next run, with the places below the count of the one held; a refusal leaves the buffer as found
abbrev pub kept_next : Run → Result Run Refusal → List ℕ → Entered
kept_next r (Ok next) ws = record { answer = Taken; buffer = overwritten r.count next ws }
kept_next r (Err e) ws = record { answer = Refused (number_of e) (position_of e); buffer = ws }

-- what an entry leaves of the run that a buffer holds, by the next run that it returns; 14 where it holds none
abbrev pub EntryOn : (Run → Result Run Refusal → Type 0) → BufferRun → List ℕ → Entered → Type 0
EntryOn post (run r) ws done = (next : Result Run Refusal) × post r next × (done ≡ kept_next r next ws)
EntryOn post none ws done = done ≡ record { answer = Refused 14 0; buffer = ws }
