-- The walk along the chain as code makes it: at each place the records kept from there on are yet to be linked.
use mathlib.Core.Bool.{Bool, cond, false, true}
use mathlib.Core.List.{List, [], ◌∷◌, ◌++◌}
use mathlib.Core.Logic.{⊎_elim}
use mathlib.Core.Path.{ap, ap₂, fun_ext, refl, sym, ◌∙◌, ◌≡◌}
use Prim.Native.Nat.{ℕ, suc, ◌+◌, ◌-◌, ◌<◌, ◌≤◌}
use native.Mathlib.Nat.{add-zero, eq-or-lt_of_le, zero-add}
use native.Mathlib.Omega.{arith}
use lib.ListN.{drop, drop_of_length-le, length, replicate, set, take, take-append-drop}
use lib.Seq.{drop_at, drop-cons, drop-set-lt, take_at, take-set-lt}
use Rattle.model.specs.Search.{bit}
use Rattle.model.specs.Sizes.{most_tasks}
use Rattle.table.proofs.Passed.{passed-count}
use Rattle.table.proofs.Tasks.{chain-at, chain_length, table-length}
use Rattle.table.specs.Numbers.{NoneApplies}
use Rattle.table.specs.Words.{chain, count, head, visited, next, records}
use Rattle.conflict.specs.SubTable.{chosen}
use Rattle.conflict.specs.Relinked.{linked, most_words, next_word_at, padded, relinked}
use Rattle.conflict.proofs.Linked.{chain-ends, chain-in, linked-length, next-inside}

-- the records kept from place k on
abbrev rest : List ℕ → ℕ → ℕ → List ℕ
rest ws x k = chosen (λ q. bit x (k + q)) (drop k (chain ws))

rest-start : (ws : List ℕ) (x : ℕ) → rest ws x 0 ≡ chosen (bit x) (chain ws)
rest-start ws x = ap (λ (f : ℕ → Bool). chosen f (chain ws)) (fun_ext (λ q. ap (bit x) (zero-add q)))

rest_more : (ws : List ℕ) (x k : ℕ) → k < count ws → rest ws x k ≡ cond (bit x k) (visited ws k ∷ rest ws x (suc k)) (rest ws x (suc k))
unfolding chosen
rest_more ws x k l =
    ap (chosen (λ q. bit x (k + q))) (drop-cons (chain ws) k 0 (omega (arith, chain_length ws)))
    ∙ (λ i. cond (bit x (here i)) (chain-at ws k 0 l i ∷ below i) (below i))
  where
    here : k + 0 ≡ k
    here = add-zero k

    others : (q : ℕ) → bit x (k + suc q) ≡ bit x (suc k + q)
    others q = let e : k + suc q ≡ suc k + q = omega arith in ap (bit x) e

    below : chosen (λ q. bit x (k + suc q)) (drop (suc k) (chain ws)) ≡ rest ws x (suc k)
    below = ap (λ (f : ℕ → Bool). chosen f (drop (suc k) (chain ws))) (fun_ext others)

rest_end : (ws : List ℕ) (x : ℕ) → rest ws x (count ws) ≡ []
unfolding chosen
rest_end ws x = ap (chosen (λ q. bit x (count ws + q))) (drop_of_length-le (chain ws) {i = count ws} (omega (arith, chain_length ws)))

-- the walk has come to this place of the chain; word `link` is to name the next record kept
pub record Linking (ws : List ℕ) (x : ℕ) (copy : List ℕ) (link place number : ℕ) : Type 0 where
  pub within : place ≤ count ws
  pub here : number ≡ visited ws place
  pub inside : link < length ws
  pub linking : linked link (rest ws x place) (take (length ws) copy) ≡ relinked ws x
  pub behind : drop (length ws) copy ≡ replicate (most_words - length ws) 0

pub linking-start : (ws : List ℕ) (x : ℕ) (copy : List ℕ) → 0 < length ws → copy ≡ padded ws → Linking ws x copy 0 0 (head ws)
unfolding relinked visited
linking-start ws x copy l e = record {
  within = omega arith;
  here = refl;
  inside = l;
  linking = ap₂ (linked 0) (rest-start ws x) (ap (take (length ws)) e ∙ take_at ws (replicate (most_words - length ws) 0) (length ws) refl);
  behind = ap (drop (length ws)) e ∙ drop_at ws (replicate (most_words - length ws) 0) (length ws) refl;
}

module _ (ws : List ℕ) (none : NoneApplies ws) (x : ℕ) (copy : List ℕ) (link place number : ℕ) (w : Linking ws x copy link place number) where
  -- at a record the chain has not ended, and its words are there
  pub linking-room : 0 < number → place < count ws
  linking-room h =
      ⊎_elim
      (λ (e : place ≡ count ws). absurd (let z : visited ws place ≡ 0 = ap (visited ws) e ∙ chain-ends ws none in omega (arith, w.here)))
      (λ (e : place < count ws). e) (eq-or-lt_of_le w.within)

  -- the place is one of 32
  pub linking-few : 0 < number → place < most_tasks
  linking-few h = omega (arith, linking-room h, (passed-count ws none).1, table-length ws)

  pub linking-record : 0 < number → (1 ≤ number) × (number ≤ records ws)
  linking-record h = let r = chain-in ws none place (linking-room h) in omega (arith, w.here, r)

  pub linking-next : 0 < number → next_word_at number < length ws
  linking-next h = let r = linking-record h in next-inside ws number r.0 r.1

  -- a record that is kept
  pub linking-kept : 0 < number → bit x place ≡ true → Linking ws x (set copy link number) (next_word_at number) (suc place) (next ws number)
  unfolding linked visited
  linking-kept h e = record {
    within = linking-room h;
    here = ap (next ws) w.here;
    inside = linking-next h;
    linking =
        ap (linked (next_word_at number) (rest ws x (suc place))) (take-set-lt (length ws) copy link number w.inside)
        ∙ (ap (λ (ns : List ℕ). linked link ns (take (length ws) copy)) (sym these) ∙ w.linking);
    behind = drop-set-lt (length ws) copy link number w.inside ∙ w.behind;
  }
    where
      these : rest ws x place ≡ number ∷ rest ws x (suc place)
      these =
          rest_more ws x place (linking-room h)
          ∙ (ap (λ (b : Bool). cond b (visited ws place ∷ rest ws x (suc place)) (rest ws x (suc place))) e
          ∙ ap (λ (n : ℕ). n ∷ rest ws x (suc place)) (sym w.here))

  -- one that is dropped
  pub linking-dropped : 0 < number → bit x place ≡ false → Linking ws x copy link (suc place) (next ws number)
  unfolding visited
  linking-dropped h e = record {
    within = linking-room h;
    here = ap (next ws) w.here;
    inside = w.inside;
    linking = ap (λ (ns : List ℕ). linked link ns (take (length ws) copy)) (sym these) ∙ w.linking;
    behind = w.behind;
  }
    where
      these : rest ws x place ≡ rest ws x (suc place)
      these =
          rest_more ws x place (linking-room h)
          ∙ ap (λ (b : Bool). cond b (visited ws place ∷ rest ws x (suc place)) (rest ws x (suc place))) e

  -- the end of the chain
  pub linking-end : number ≡ 0 → set copy link 0 ≡ padded (relinked ws x)
  linking-end z =
      sym (take-append-drop (length ws) (set copy link 0))
      ∙ ap₂ (λ (a b : List ℕ). a ++ b) front
      (drop-set-lt (length ws) copy link 0 w.inside ∙ (w.behind ∙ ap (λ (n : ℕ). replicate (most_words - n) 0) (sym size)))
    where
      over : place ≡ count ws
      over =
          ⊎_elim
          (λ (e : place ≡ count ws). e)
          (λ (e : place < count ws). absurd (omega (arith, w.here, (chain-in ws none place e).0)))
          (eq-or-lt_of_le w.within)

      size : length (relinked ws x) ≡ length ws
      size = unfold relinked in linked-length 0 (chosen (bit x) (chain ws)) ws

      front : take (length ws) (set copy link 0) ≡ relinked ws x
      front = unfold linked in
          take-set-lt (length ws) copy link 0 w.inside
          ∙ (ap (λ (ns : List ℕ). linked link ns (take (length ws) copy)) (sym (ap (rest ws x) over ∙ rest_end ws x)) ∙ w.linking)
