use Rattle.std.proofs.Common.{◌*◌, ◌-◌, ◌≤◌, min, arith, ap, ◌∙◌, mul-le-mul}
use Rattle.table.specs.Task.{task_of}
use Rattle.interference.proofs.Sums.{by-one-division, cores-two}
use Rattle.interference.proofs.workload.cores_in.Goals as goal

pub returns : goal.returns
returns c =
    let a = c.args in
    let τ = task_of a.task in
    let narrow = c.min-narrow.result in
    let wide = c.max-wide.result in
    -- the ticks of all jobs, and of every second one
    let all = c.min-all.ensures ∙ ap (min a.waits) c.ticks_of.ensures in
    let second =
    c.min-second.ensures ∙ ap (min a.waits) (c.ticks_of-2.ensures ∙ by-one-division τ a.end a.window c.requires.0) in
    let few : c.min-all.result ≤ 1000000 = omega arith in
    let fewer : c.min-second.result ≤ 1000000 = omega arith in
    let first : narrow * c.min-all.result ≤ 4294967296000000 = mul-le-mul {n₂ = 4294967296} {m₂ = 1000000} (omega arith) few in
    let rest : (wide - narrow) * c.min-second.result ≤ 4294967296000000 = mul-le-mul {n₂ = 4294967296} {m₂ = 1000000} (omega arith) fewer in (
      cores-two τ a.end a.window a.waits narrow wide c.min-all.result c.min-second.result c.min-narrow.ensures c.max-wide.ensures all second,
      omega arith,
    )
