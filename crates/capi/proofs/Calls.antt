-- The results of the calls, by whether the lent slices have space.
use mathlib.Core.Path.{◌≡◌, refl, sym, ap, ◌∙◌}
use mathlib.Core.Bool.{Bool, true, false, ◌&&◌}
use mathlib.Core.List.{List, [], ◌∷◌}
use Prim.Native.Nat.{ℕ, ◌≤◌}
use lib.ListN.{length}
use lib.Dec.{leb}
use native.Mathlib.Omega.{arith}
use borrow.Author.Tests.{leb-true, le-leb}
use Rattle.model.proofs.Bools.{and_left}
use Rattle.buffers.specs.declared.answer_words.AnswerWords.{AnswerWords}
use Rattle.buffers.specs.AnswerWords.{answer_fits, slices_fit, answer_written}
use Rattle.capi.specs.Calls.{call_result, by_room}

-- a call that lends a slice and an answer, by what its function leaves and gives
module _ (lent answer : List ℕ) (need : ℕ) {value : ℕ} {left said : List ℕ} {gives : AnswerWords → Type 0}
    (fits : slices_fit (length lent) need answer ≡ true → (w : AnswerWords) × gives w × (value ≡ 0) × (said ≡ answer_written w answer))
    (short : slices_fit (length lent) need answer ≡ false → (value ≡ 1) × (left ≡ lent) × (said ≡ answer))
    (found : List ℕ) (words : AnswerWords) (given : slices_fit (length lent) need answer ≡ true → (w : AnswerWords) → gives w → (left ≡ found) × (w ≡ words)) where
  by-fit : (t : Bool) → slices_fit (length lent) need answer ≡ t
      → call_result value (left ∷ (said ∷ [])) ≡ by_room t (found ∷ (answer_written words answer ∷ [])) (lent ∷ (answer ∷ []))
  by-fit true e =
      let (w, gave, zero, put) = fits e in
      let (front, same) = given e w gave in
      let all : said ≡ answer_written words answer = put ∙ ap (λ (t : AnswerWords). answer_written t answer) same in
      (λ i. call_result (zero i) (front i ∷ (all i ∷ [])))
  by-fit false e = let (one, kept, rest) = short e in (λ i. call_result (one i) (kept i ∷ (rest i ∷ [])))

  pub lending :
      call_result value (left ∷ (said ∷ []))
      ≡ by_room (slices_fit (length lent) need answer) (found ∷ (answer_written words answer ∷ [])) (lent ∷ (answer ∷ []))
  lending = by-fit (slices_fit (length lent) need answer) refl

-- .. of which the function writes what it can
module _ (lent answer : List ℕ) {value : ℕ} {left said : List ℕ} {gives : AnswerWords → Type 0}
    (fits : slices_fit (length lent) 0 answer ≡ true → (w : AnswerWords) × gives w × (value ≡ 0) × (said ≡ answer_written w answer))
    (short : slices_fit (length lent) 0 answer ≡ false → (value ≡ 1) × (left ≡ lent) × (said ≡ answer))
    (found : List ℕ) (words : AnswerWords) (given : (w : AnswerWords) → gives w → (left ≡ found) × (w ≡ words)) where
  pub lending-any :
      call_result value (left ∷ (said ∷ [])) ≡ by_room (answer_fits answer) (found ∷ (answer_written words answer ∷ [])) (lent ∷ (answer ∷ []))
  lending-any =
      lending lent answer 0 fits short found words (λ e. given)
      ∙ ap (λ (t : Bool). by_room (t && answer_fits answer) (found ∷ (answer_written words answer ∷ [])) (lent ∷ (answer ∷ []))) (le-leb 0 (length lent) (omega arith))

-- a call that lends an answer alone
module _ (answer : List ℕ) {value : ℕ} {said : List ℕ} {gives : AnswerWords → Type 0}
    (fits : answer_fits answer ≡ true → (w : AnswerWords) × gives w × (value ≡ 0) × (said ≡ answer_written w answer))
    (short : answer_fits answer ≡ false → (value ≡ 1) × (said ≡ answer))
    (words : AnswerWords) (given : (w : AnswerWords) → gives w → w ≡ words) where
  by-space : (t : Bool) → answer_fits answer ≡ t → call_result value (said ∷ []) ≡ by_room t (answer_written words answer ∷ []) (answer ∷ [])
  by-space true e =
      let (w, gave, zero, put) = fits e in
      let all : said ≡ answer_written words answer = put ∙ ap (λ (t : AnswerWords). answer_written t answer) (given w gave) in
      (λ i. call_result (zero i) (all i ∷ []))
  by-space false e = let (one, kept) = short e in (λ i. call_result (one i) (kept i ∷ []))

  pub answering : call_result value (said ∷ []) ≡ by_room (answer_fits answer) (answer_written words answer ∷ []) (answer ∷ [])
  answering = by-space (answer_fits answer) refl

-- two lent slices by their equations
pub both : {k l m n : List ℕ} → k ≡ m → l ≡ n → call_result 0 (k ∷ (l ∷ [])) ≡ call_result 0 (m ∷ (n ∷ []))
both p q = λ i. call_result 0 (p i ∷ (q i ∷ []))

-- a call is answered where they have space ..
module _ {t : Bool} (lent found : List (List ℕ)) where
  pub answered : t ≡ true → call_result 0 lent ≡ by_room t lent found
  answered e = ap (λ (b : Bool). by_room b lent found) (sym e)

  -- .. and else leaves them as found
  pub as-found : t ≡ false → call_result 1 found ≡ by_room t lent found
  as-found e = ap (λ (b : Bool). by_room b lent found) (sym e)

-- the words of an answer, written
pub words_of : (old : List ℕ) {new : List ℕ} {t u : AnswerWords} → new ≡ answer_written t old → t ≡ u → new ≡ answer_written u old
words_of old p q = p ∙ ap (λ (t : AnswerWords). answer_written t old) q

-- the space of a lent slice
pub for-slice : (have need : ℕ) (answer : List ℕ) → slices_fit have need answer ≡ true → need ≤ have
for-slice have need answer e = leb-true need have (and_left (leb need have) (answer_fits answer) e)
