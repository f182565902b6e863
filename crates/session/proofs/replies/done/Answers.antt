-- `session::replies::done`: each arm is the clause of its operation, with the run that the operation leaves (Doing).
use Rattle.std.proofs.Common.{◌∷◌, []}
use native.Mathlib.Omega.{arith}
use borrow.Author.Rules.{rules}
use Prim.Native.Nat.{◌<◌, ◌^◌}
use lib.ListN.{get_or}
use Rattle.text.specs.Output.{fields}
use Rattle.text.proofs.RowText.{line-bytes, fields-most}
use Rattle.session.proofs.Doing as doing
use Rattle.session.proofs.replies.done.Goals as goal

pub returns-in_err-run-in-Advance-clause-refused : goal.returns-in_err-run-in-Advance-clause-refused
returns-in_err-run-in-Advance-clause-refused c =
    let f = c.from_residual in
    let x = c.in_err-run-in-Advance.field-0.0 in
    rw c.in-Advance.is (doing.refused-as _ c.args.run.now _ f.result x f.ensures.1 (doing.advance-refused c.args.run.now x c.in-Advance.reports c.in-Advance.empties c.in_err-run-in-Advance.ensures.value))

pub write_line-requires : goal.write_line-requires
unfolding fields
write_line-requires c = omega (arith, line-bytes (116 ∷ 97 ∷ 107 ∷ 101 ∷ 110 ∷ []) [])

pub returns-in_ok-run-in-Advance-clause-done : goal.returns-in_ok-run-in-Advance-clause-done
returns-in_ok-run-in-Advance-clause-done c =
    let w = c.write_line in
    rw c.in-Advance.is (doing.advance-done c.args.run.now c.args.out.now w.new.out w.result c.in-Advance.reports c.in-Advance.empties c.in_ok-run-in-Advance.field-0 c.in_ok-run-in-Advance.ensures.value w.ensures)

pub returns-in_err-run-in-Withdraw-clause-refused : goal.returns-in_err-run-in-Withdraw-clause-refused
returns-in_err-run-in-Withdraw-clause-refused c =
    let f = c.from_residual-in_err-run-in-Withdraw in
    let x = c.in_err-run-in-Withdraw.field-0.0 in
    rw c.in-Withdraw.is (doing.refused-as _ c.args.run.now _ f.result x f.ensures.1 (doing.withdraw-refused c.args.run.now x c.in-Withdraw.position c.in_err-run-in-Withdraw.ensures.value))

pub write_line-requires-in-Withdraw : goal.write_line-requires-in-Withdraw
unfolding fields
write_line-requires-in-Withdraw c = omega (arith, line-bytes (116 ∷ 97 ∷ 107 ∷ 101 ∷ 110 ∷ []) [])

pub returns-in_ok-run-in-Withdraw-clause-done : goal.returns-in_ok-run-in-Withdraw-clause-done
returns-in_ok-run-in-Withdraw-clause-done c =
    let w = c.write_line-in-Withdraw in
    rw c.in-Withdraw.is (doing.withdraw-done c.args.run.now c.args.out.now w.new.out w.result c.in-Withdraw.position c.in_ok-run-in-Withdraw.field-0 c.in_ok-run-in-Withdraw.ensures.value w.ensures)

pub returns-in_err-run-in-WithdrawAll-clause-refused : goal.returns-in_err-run-in-WithdrawAll-clause-refused
returns-in_err-run-in-WithdrawAll-clause-refused c =
    let f = c.from_residual-in_err-run-in-WithdrawAll in
    let x = c.in_err-run-in-WithdrawAll.field-0.0 in
    rw c.in-WithdrawAll.is (doing.refused-as _ c.args.run.now _ f.result x f.ensures.1 (doing.withdraw-all-refused c.args.run.now x c.in-WithdrawAll.set c.in_err-run-in-WithdrawAll.ensures.value))

pub write_line-requires-in-WithdrawAll : goal.write_line-requires-in-WithdrawAll
unfolding fields
write_line-requires-in-WithdrawAll c = omega (arith, line-bytes (116 ∷ 97 ∷ 107 ∷ 101 ∷ 110 ∷ []) [])

pub returns-in_ok-run-in-WithdrawAll-clause-done : goal.returns-in_ok-run-in-WithdrawAll-clause-done
returns-in_ok-run-in-WithdrawAll-clause-done c =
    let w = c.write_line-in-WithdrawAll in
    rw c.in-WithdrawAll.is (doing.withdraw-all-done c.args.run.now c.args.out.now w.new.out w.result c.in-WithdrawAll.set c.in_ok-run-in-WithdrawAll.field-0 c.in_ok-run-in-WithdrawAll.ensures.value w.ensures)

pub returns-in_err-bytes-in-Row-clause-refused : goal.returns-in_err-bytes-in-Row-clause-refused
returns-in_err-bytes-in-Row-clause-refused c =
    let f = c.from_residual-in_err-bytes-in-Row in
    let x = c.in_err-bytes-in-Row.field-0.0 in
    rw c.in-Row.is (doing.refused-as _ c.args.run.now _ f.result x f.ensures.1 (doing.row-refused c.args.run.now x c.in-Row.empties c.in_err-bytes-in-Row.ensures.value))

pub returns-in_ok-bytes-in-Row-clause-done : goal.returns-in_ok-bytes-in-Row-clause-done
returns-in_ok-bytes-in-Row-clause-done c =
    let w = c.write_cores in
    rw c.in-Row.is (doing.row-done c.args.run.now c.args.out.now w.new.out w.result c.in-Row.empties c.in_ok-bytes-in-Row.ensures.value w.ensures)

pub returns-in_err-sets-in-Sets-clause-refused : goal.returns-in_err-sets-in-Sets-clause-refused
returns-in_err-sets-in-Sets-clause-refused c =
    let f = c.from_residual-in_err-sets-in-Sets in
    let x = c.in_err-sets-in-Sets.field-0.0 in
    rw c.in-Sets.is (doing.refused-as _ c.args.run.now _ f.result x f.ensures.1 (doing.sets-refused c.args.run.now x c.in-Sets.empties c.in_err-sets-in-Sets.ensures.value))

pub returns-in_ok-sets-in-Sets-clause-done : goal.returns-in_ok-sets-in-Sets-clause-done
returns-in_ok-sets-in-Sets-clause-done c =
    let w = c.write_line-in-Sets in
    rw c.in-Sets.is (doing.sets-done c.args.run.now c.args.out.now w.new.out w.result c.in-Sets.empties c.in_ok-sets-in-Sets.ensures.value w.ensures)

pub returns-in_err-set-in-Working-clause-refused : goal.returns-in_err-set-in-Working-clause-refused
returns-in_err-set-in-Working-clause-refused c =
    let f = c.from_residual-in_err-set-in-Working in
    let x = c.in_err-set-in-Working.field-0.0 in
    rw c.in-Working.is (doing.refused-as _ c.args.run.now _ f.result x f.ensures.1 (doing.working-refused c.args.run.now x c.in-Working.empties c.in_err-set-in-Working.ensures.value))

pub returns-in_ok-set-in-Working-clause-done : goal.returns-in_ok-set-in-Working-clause-done
returns-in_ok-set-in-Working-clause-done c =
    let w = c.write_line-in-Working in
    rw c.in-Working.is (doing.working-done c.args.run.now c.args.out.now w.new.out w.result c.in-Working.empties c.in_ok-set-in-Working.set c.in_ok-set-in-Working.ensures.value w.ensures)

pub write_line-requires-in-Sets : goal.write_line-requires-in-Sets
write_line-requires-in-Sets c =
    let sets = c.in_ok-sets-in-Sets.sets in
    let most = fields-most 19 sets (λ i l. let f : get_or sets i 0 < 2 ^ 64 = search rules in omega (arith, f)) in
    omega (arith, line-bytes (115 ∷ 101 ∷ 116 ∷ 115 ∷ []) sets, most)

pub write_line-requires-in-Working : goal.write_line-requires-in-Working
write_line-requires-in-Working c =
    let set = c.in_ok-set-in-Working.set in
    let most = fields-most 19 (set ∷ []) (doing.one-fits set (omega arith)) in
    omega (arith, line-bytes (119 ∷ 111 ∷ 114 ∷ 107 ∷ 105 ∷ 110 ∷ 103 ∷ []) (set ∷ []), most)
