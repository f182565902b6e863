-- The records behind the header, cut into chunks: each word of a chunk is that word of the record.
use mathlib.Core.Path.{◌≡◌, refl, ap, ◌∙◌}
use mathlib.Core.List.{List, []}
use Prim.Native.Nat.{ℕ, zero, suc, ◌+◌, ◌-◌, ◌*◌, ◌/◌, ◌<◌}
use native.Mathlib.Omega.{arith}
use lib.ListN.{length, get_or, take, drop, length-drop}
use lib.Seq.{get_or-take, get_or-drop}
use Rattle.std.specs.Simd.{first_chunks}
use Rattle.std.proofs.lemmas.List.{drop-drop, take_all}
use Rattle.table.specs.Words.{field, records, task_in, task_of_record}

-- a chunk of seven
chunk-at : (k : ℕ) (xs : List ℕ) (i : ℕ) → i < k → get_or (first_chunks 7 k xs) i [] ≡ take 7 (drop (i * 7) xs)
chunk-at zero xs i l = absurd (omega arith)
chunk-at (suc k) xs zero l = refl
chunk-at (suc k) xs (suc i) l =
    let e : 7 + i * 7 ≡ suc i * 7 = omega arith in
    chunk-at k (drop 7 xs) i (omega arith) ∙ ap (take 7) (drop-drop (i * 7) 7 xs ∙ ap (λ (n : ℕ). drop n xs) e)

-- the chunks of the words behind the header
module _ (ws : List ℕ) where
  abbrev behind : List ℕ
  behind = take (length ws - 5) (drop 5 ws)

  same : behind ≡ drop 5 ws
  same = take_all (length ws - 5) (drop 5 ws) (omega (arith, length-drop 5 ws))

  count-is : length behind / 7 ≡ records ws
  count-is = ap (λ (n : ℕ). n / 7) (ap length same ∙ length-drop 5 ws)

  pub count-in : (many : ℕ) → many ≡ length behind / 7 → many ≡ records ws
  count-in many e = e ∙ count-is

  pub chunks-in : (rs : List (List ℕ)) → rs ≡ first_chunks 7 (length behind / 7) behind → rs ≡ first_chunks 7 (records ws) (drop 5 ws)
  chunks-in rs e = e ∙ (ap (λ (n : ℕ). first_chunks 7 n behind) count-is ∙ ap (first_chunks 7 (records ws)) same)

module _ (ws : List ℕ) (rs : List (List ℕ)) (are : rs ≡ first_chunks 7 (records ws) (drop 5 ws)) (at : ℕ) (inside : at - 1 < records ws) where
  abbrev record_at : List ℕ
  record_at = get_or rs (at - 1) []

  pub word-in : (j : ℕ) → j < 7 → get_or record_at j 0 ≡ field ws at j
  word-in j l =
      ap (λ (xs : List ℕ). get_or xs j 0) (ap (λ (cs : List (List ℕ)). get_or cs (at - 1) []) are ∙ chunk-at (records ws) (drop 5 ws) (at - 1) inside)
      ∙ (get_or-take 7 (drop ((at - 1) * 7) (drop 5 ws)) j 0 l
      ∙ (ap (λ (xs : List ℕ). get_or xs j 0) (drop-drop ((at - 1) * 7) 5 ws) ∙ get_or-drop (5 + (at - 1) * 7) ws j 0))

  pub task-of-record : task_in record_at ≡ task_of_record ws at
  task-of-record = λ i. record {
    offset = word-in 1 (omega arith) i;
    odd_width = word-in 2 (omega arith) i;
    length = word-in 3 (omega arith) i;
    deadline = word-in 4 (omega arith) i;
    period = word-in 5 (omega arith) i;
    even_width = word-in 6 (omega arith) i;
  }
