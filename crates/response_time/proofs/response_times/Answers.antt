-- `response_time::response_times`: the contract of `load` fits the walk, and a refusal is the answer itself.
use Rattle.std.proofs.Common.{ap}
use Rattle.table.specs.Fitting.{loaded_in}
use Rattle.response_time.specs.ResponseTimes.{answered}
use Rattle.response_time.proofs.Contract.{walked-promise, refused_all}
use Rattle.response_time.proofs.response_times.Goals as goal

pub returns-in-Ok : goal.returns-in-Ok
returns-in-Ok c =
    walked-promise c.args.words.now (loaded_in c.load.result) c.load.ensures c.in-Ok.fitting.loaded (ap loaded_in c.in-Ok.is) (answered c.times_of.result) c.times_of.ensures

pub returns-in-Err : goal.returns-in-Err
returns-in-Err c = refused_all c.args.words.now (loaded_in c.load.result) c.load.ensures c.in-Err.refusal (ap loaded_in c.in-Err.is)
