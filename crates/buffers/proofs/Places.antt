-- The words of places: one place more, written, read or tested.
use mathlib.Core.Path.{◌≡◌, refl, ap, ◌∙◌}
use mathlib.Core.Bool.{Bool, true, false, ◌&&◌, cond}
use mathlib.Core.List.{List, [], ◌∷◌, ◌++◌}
use Prim.Native.Nat.{ℕ, zero, suc, ◌+◌, ◌*◌, ◌≤◌, ◌<◌}
use native.Mathlib.Omega.{arith}
use lib.ListN.{length, get_or, drop}
use lib.Seq.{drop-drop, get_or-drop}
use lib.Dec.{leb}
use borrow.Author.Tests.{le-leb, lt-leb, leb-true}
use Rattle.model.proofs.Bools.{and_left, and_right}
use Rattle.phase.specs.declared.Task.{Task}
use Rattle.buffers.specs.Encoding.{head_words, each_words, parity_at, kind_at, second_number_at, third_number_at, places, run_words, place_words, places_words, is_task_state, place_in}
use Rattle.buffers.specs.Encoding.{is_place, places_in, are_places, count_in, holds_run, run_in, run, none, decode}

-- written
pub words_more : (ts : List Task) (t : Task) → places_words (ts ++ (t ∷ [])) ≡ places_words ts ++ place_words t
unfolding places_words
words_more [] t = refl
words_more (s ∷ ts) t = ap (λ (l : List ℕ). place_words s ++ l) (words_more ts t)

pub length-words : (ts : List Task) → length (places_words ts) ≡ each_words * length ts
unfolding places_words
length-words [] = refl
length-words (t ∷ ts) = let e = length-words ts in omega arith

-- read
pub read_more : (n : ℕ) (ws : List ℕ) → places_in (suc n) ws ≡ places_in n ws ++ (place_in (drop (each_words * n) ws) ∷ [])
unfolding places_in
read_more zero ws = refl
read_more (suc n) ws =
    let e : each_words + each_words * n ≡ each_words * suc n = omega arith in
    ap (λ (l : List Task). place_in ws ∷ l) (read_more n (drop each_words ws)
    ∙ ap (λ (l : List ℕ). places_in n (drop each_words ws) ++ (place_in l ∷ [])) (drop-drop (each_words * n) each_words ws ∙ ap (λ (k : ℕ). drop k ws) e))

pub length-read : (n : ℕ) (ws : List ℕ) → length (places_in n ws) ≡ n
unfolding places_in
length-read zero ws = refl
length-read (suc n) ws = ap suc (length-read n (drop each_words ws))

-- tested: it is one, and the others decide ..
pub test_on : (m n at : ℕ) (ws : List ℕ) → m ≡ suc n → is_place (drop at ws) ≡ true → are_places m (drop at ws) ≡ are_places n (drop (at + each_words) ws)
unfolding are_places
test_on m n at ws e p =
    ap (λ (k : ℕ). are_places k (drop at ws)) e
    ∙ (ap (λ (t : Bool). t && are_places n (drop each_words (drop at ws))) p ∙ ap (are_places n) (drop-drop each_words at ws))

-- .. to the end ..
pub none_left : (ws : List ℕ) → are_places 0 ws ≡ true
unfolding are_places
none_left ws = refl

-- .. or it is none, and decides
pub test-stop : (m n at : ℕ) (ws : List ℕ) → m ≡ suc n → is_place (drop at ws) ≡ false → are_places m (drop at ws) ≡ false
unfolding are_places
test-stop m n at ws e p =
    ap (λ (k : ℕ). are_places k (drop at ws)) e ∙ ap (λ (t : Bool). t && are_places n (drop each_words (drop at ws))) p

-- what is read at a place
pub place_at :
    (ws : List ℕ) (at : ℕ) → is_place (drop at ws)
    ≡ is_task_state (get_or ws (at + parity_at) 0) (get_or ws (at + kind_at) 0) (get_or ws (at + second_number_at) 0) (get_or ws (at + third_number_at) 0)
place_at ws at = simp get_or-drop

-- a buffer too short, or with too high a count, holds none; else the places below the count decide
pub held-short : (ws : List ℕ) → length ws < run_words → holds_run ws ≡ false
unfolding holds_run
held-short ws h = simp (lt-leb run_words (length ws) h)

module _ (ws : List ℕ) (h : run_words ≤ length ws) where
  pub held-many : places < count_in ws → holds_run ws ≡ false
  unfolding holds_run
  held-many l = simp (le-leb run_words (length ws) h, lt-leb (count_in ws) places l)

  pub held_by : count_in ws ≤ places → holds_run ws ≡ are_places (count_in ws) (drop head_words ws)
  unfolding holds_run
  held_by l = simp (le-leb run_words (length ws) h, le-leb (count_in ws) places l)

-- what a buffer is decoded to, by whether it holds a run
pub by-held : (ws : List ℕ) {t : Bool} → holds_run ws ≡ t → decode ws ≡ cond t (run (run_in ws)) none
by-held ws e = ap (λ (t : Bool). cond t (run (run_in ws)) none) e

-- what a buffer that holds a run has
module _ (ws : List ℕ) (e : holds_run ws ≡ true) where
  abbrev rest : Bool
  rest = leb (count_in ws) places && are_places (count_in ws) (drop head_words ws)

  pub held-long : run_words ≤ length ws
  unfolding holds_run
  held-long = leb-true run_words (length ws) (and_left (leb run_words (length ws)) rest e)

  pub held-few : count_in ws ≤ places
  unfolding holds_run
  held-few =
      leb-true (count_in ws) places
      (and_left (leb (count_in ws) places) (are_places (count_in ws) (drop head_words ws)) (and_right (leb run_words (length ws)) rest e))

  pub held-places : are_places (count_in ws) (drop head_words ws) ≡ true
  unfolding holds_run
  held-places =
      and_right (leb (count_in ws) places) (are_places (count_in ws) (drop head_words ws)) (and_right (leb run_words (length ws)) rest e)
