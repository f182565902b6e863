use Rattle.std.proofs.Common.{◌≡◌, ◌+◌, ◌-◌, ℕ, take, drop, length, arith, rules, ap, sym, ◌∙◌, length-drop}
use lib.Seq.{take_all}
use Rattle.text.specs.Input.{length_to}
use Rattle.text.proofs.Lines.{mark-none, mark-first}
use Rattle.text.proofs.line.end_from.Goals as goal

pub returns-then-bytes-from : goal.returns-then-bytes-from
returns-then-bytes-from c = let a = c.args in omega (arith, mark-none a.mark a.bytes.now a.from (omega arith))

pub returns : goal.returns
returns c =
    let a = c.args in
    let rest = drop a.from a.bytes.now in
    let all : take (length a.bytes.now - a.from) rest ≡ rest = take_all (length a.bytes.now - a.from) rest (omega (arith, length-drop a.from a.bytes.now)) in
    ap (λ (n : ℕ). a.from + n)
    (c.unwrap_or.ensures ∙ sym (mark-first a.mark (take (length a.bytes.now - a.from) rest) c.position.result (search rules)) ∙ ap (length_to a.mark) all)
