-- A list of entries on the run in a buffer is the list of entries on the run: `refines` and `demand-3` hold of the calls.
use mathlib.Core.Path.{◌≡◌, refl}
use mathlib.Core.List.{List, [], ◌∷◌}
use Prim.Native.Nat.{ℕ}
use Rattle.run.specs.declared.Run.{Run}
use Rattle.model.specs.Advance.{Entry}
use Rattle.refinement.specs.Entries.{entry_of, answers, run_after_list}
use Rattle.buffers.specs.Encoding.{run, decode}
use Rattle.buffers.specs.Runs.{entry_from}
use Rattle.buffers.specs.Lists.{buffer_answers, buffer_after}
use Rattle.buffers.proofs.Kept.{advance-held}

pub answers-held : (ws : List ℕ) (r : Run) → decode ws ≡ run r → (xs : List Entry) → buffer_answers ws xs ≡ answers r xs
unfolding buffer_answers answers
answers-held ws r e [] = refl
answers-held ws r e (x ∷ xs) =
    let h = advance-held ws r x e in
    let rest = answers-held (entry_from (decode ws) x ws).buffer (entry_of r x).run h.1 xs in
    λ i. h.0 i ∷ rest i

pub after-held : (ws : List ℕ) (r : Run) → decode ws ≡ run r → (xs : List Entry) → decode (buffer_after ws xs) ≡ run (run_after_list r xs)
unfolding buffer_after run_after_list
after-held ws r e [] = e
after-held ws r e (x ∷ xs) = after-held (entry_from (decode ws) x ws).buffer (entry_of r x).run (advance-held ws r x e).1 xs
