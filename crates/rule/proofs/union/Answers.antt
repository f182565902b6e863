-- Each set adds its cores to those of the sets before it.
use Rattle.std.proofs.Common.{◌≡◌, subst, bit_or, rules}
use Rattle.std.proofs.lemmas.Fn.{fold_over, slice_gives, fronts}
use Rattle.rule.proofs.Unions.{Union, union_none, union_more}
use Rattle.rule.proofs.union.Goals as goal

pub returns : goal.returns
returns c =
    subst (λ l. Union l c.fold.result) c.iter.ensures.rest
    (fold_over fronts (λ y. y.now) _ (λ ys n. Union ys n) _
    (λ ys a x b f' j k. let is : b ≡ bit_or a x.now = search rules in (rw is (union_more ys a x.now j), search rules))
    _ _ _ _ (slice_gives c.iter.result) union_none c.fold.ensures.ran)
