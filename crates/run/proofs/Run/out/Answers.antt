use Rattle.std.proofs.Common.{refl, sym, ap, ◌≡◌, ◌∙◌, ◌≤◌, Bool, ◌||◌, ℕ, zero, suc, List, take, length, get_or, arith, rules, add-one}
use Rattle.std.specs.List.{list_any}
use Rattle.std.proofs.lemmas.Iterator.{YieldsList-from_slice}
use Rattle.std.proofs.lemmas.Iterator.Search.{any_from_yields_List}
use Rattle.std.proofs.lemmas.List.Folds.{list_any_more}
use Rattle.model.specs.Search.{any}
use Rattle.model.specs.Sizes.{most_tasks}
use Rattle.phase.specs.Task.{past_end, out_in}
use Rattle.phase.specs.declared.Task.{Task}
use Rattle.run.specs.Run.{rule_in}
use Rattle.run.specs.Numbers.{width_limit_in}
use Rattle.run.proofs.RunOut.{out-by-head, out-by-place, head_few, head-wide}
use Rattle.run.proofs.Run.out.Goals as goal

-- a test of the first n elements, and of their places
any-places : (p : Task → Bool) (xs : List Task) (n : ℕ) → n ≤ length xs → list_any p (take n xs) ≡ any n (λ i. p (get_or xs i past_end))
unfolding any
any-places p xs zero h = refl
any-places p xs (suc n) h =
    ap (λ (k : ℕ). list_any p (take k xs)) (sym (add-one n))
    ∙ (list_any_more p xs n past_end (omega arith) ∙ ap (λ (b : Bool). b || p (get_or xs n past_end)) (any-places p xs n (omega arith)))

pub returns-then-head_out : goal.returns-then-head_out
returns-then-head_out c = sym (out-by-head c.args.self (sym c.head_out.ensures ∙ c.if-head_out.true))

pub returns : goal.returns
returns c =
    let r = c.args.self in
    let h = sym c.head_out.ensures ∙ c.if-head_out.false in
    let few = head_few r h in
    let wide : c.unfenced_count-wide.result ≡ width_limit_in r = c.unfenced_count-wide.ensures ∙ head-wide r h in
    let places : length r.tasks ≡ most_tasks = search rules in
    let some : c.any.result ≡ list_any (out_in c.unfenced_count-wide.result (rule_in r)) (take r.count r.tasks) =
    any_from_yields_List (out_in c.unfenced_count-wide.result (rule_in r)) _ _ _ c.any.ensures.ran (YieldsList-from_slice (take r.count r.tasks) cc) (λ x b q k. search rules) in
    some
    ∙ (ap (λ (m : ℕ). list_any (out_in m (rule_in r)) (take r.count r.tasks)) wide
    ∙ (any-places (out_in (width_limit_in r) (rule_in r)) r.tasks r.count (omega arith) ∙ sym (out-by-place r h)))
