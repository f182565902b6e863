use Rattle.std.proofs.Common.{◌≡◌, ℕ, Bool, ltb, get_or, rules, arith, sym, ap, ◌∙◌}
use borrow.Author.Tests.{tests}
use Rattle.simulation.specs.Places.{segment}
use Rattle.simulation.proofs.Parts.{front_at}
use Rattle.simulation.proofs.Sets.{set-of-all}
use Rattle.printer.proofs.valid.owed.Goals as goal

pub returns : goal.returns
returns c =
    let test : ℕ → Bool = λ p. ltb 0 (get_or (segment 0 c.args.places) p 0) in
    set-of-all test _ c.places_where.type_inv (c.places_where.ensures test (λ p r l e.
    let is : r ≡ ltb 0 (get_or c.args.places p 0) = search (rules, tests) in
    is ∙ ap (ltb 0) (sym (front_at c.args.places p (omega arith)))))
