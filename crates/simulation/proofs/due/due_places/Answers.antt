use Rattle.std.proofs.Common.{◌≡◌, ◌+◌, ℕ, Bool, ◌&&◌, ltb, eqb, get_or, rules, arith, sym, ap, ◌∙◌}
use borrow.Author.Tests.{tests}
use Rattle.simulation.specs.EventState.{due_at}
use Rattle.simulation.specs.Places.{segment}
use Rattle.simulation.proofs.Parts.{part_at}
use Rattle.simulation.proofs.Sets.{set_is}
use Rattle.simulation.proofs.due.due_places.Goals as goal

pub returns : goal.returns
unfolding due_at
returns c =
    let a = c.args in
    let test : ℕ → Bool = λ p. eqb (get_or (segment 32 a.places.now) p 0) a.tick in
    let found = c.places_where.ensures test (λ p r l e.
    let is : r ≡ eqb (get_or a.places.now (32 + p) 0) a.tick = search (rules, tests) in
    is ∙ ap (λ (x : ℕ). eqb x a.tick) (sym (part_at 32 a.places.now p (omega arith)))) in
    set_is 32 _ (λ p. ltb p a.count && test p) c.places_where.type_inv (λ p l. found p)
