-- A table that was loaded and is fit to be run, as `load` has it.
use Rattle.std.specs.Prelude.{Result, Ok, Err}
use Rattle.model.specs.declared.refusal.Refusal.{Refusal}
use Rattle.table.specs.declared.Loaded.{Loaded}
use Rattle.table.specs.declared.fitting.Fitting.{Fitting}

-- the table in it, or the same refusal
abbrev pub loaded_in : Result Fitting Refusal → Result Loaded Refusal
loaded_in (Ok f) = Ok f.loaded
loaded_in (Err e) = Err e
