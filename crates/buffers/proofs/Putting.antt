-- The words of a run, written into a buffer: the head, and then place by place.
use mathlib.Core.Path.{◌≡◌, sym, ap, ◌∙◌}
use mathlib.Core.List.{List, [], ◌∷◌, ◌++◌, append_assoc, append-nil}
use Prim.Native.Nat.{ℕ, ◌+◌, ◌-◌, ◌≤◌}
use lib.ListN.{length, take, drop, set}
use lib.Seq.{sets-eq, take_at, drop_at, drop-drop, drop-length}
use borrow.Author.Rules.{part_to_end}
use borrow.Rule.Slice.PartMut.{put_mid, post_of, Post-is}
use Rattle.buffers.specs.Encoding.{head_words}

-- the head's six stores, over a list of at least six words
pub head-put :
    (ws : List ℕ) (a b c d e f : ℕ) → head_words ≤ length ws
    → set (set (set (set (set (set ws 0 a) 1 b) 2 c) 3 d) 4 e) 5 f ≡ a ∷ (b ∷ (c ∷ (d ∷ (e ∷ (f ∷ drop head_words ws)))))
head-put ws a b c d e f h = sets-eq (a ∷ (b ∷ (c ∷ (d ∷ (e ∷ (f ∷ [])))))) ws 0 h

-- n words, written into the part that begins at `at`
pub put-more :
    (words xs old vs ys : List ℕ) (at n : ℕ) → words ≡ xs ++ drop at old → length xs ≡ at → at ≤ length words
    → ys ≡ vs ++ drop n (take (length words - at) (drop at words)) → put_mid at (length words - at) words ys ≡ (xs ++ vs) ++ drop (at + n) old
put-more words xs old vs ys at n e k h q =
    let front : take at words ≡ xs = ap (take at) e ∙ take_at xs (drop at old) at k in
    let rest : drop at words ≡ drop at old = ap (drop at) e ∙ drop_at xs (drop at old) at k in
    let part : ys ≡ vs ++ drop (at + n) old =
    q ∙ (ap (λ (l : List ℕ). vs ++ drop n l) (part_to_end words at ∙ rest) ∙ ap (λ (l : List ℕ). vs ++ l) (drop-drop n at old)) in
    let after : post_of at (length words - at) words ≡ [] = Post-is at (length words) words h ∙ drop-length words in
    (λ i. front i ++ (part i ++ after i))
    ∙ (ap (λ (l : List ℕ). xs ++ l) (append-nil (vs ++ drop (at + n) old)) ∙ sym (append_assoc xs vs (drop (at + n) old)))
