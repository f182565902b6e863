-- `buffers::run_buffer::put_run`: one place more is written.
use Rattle.std.proofs.Common.{◌≡◌, ◌++◌, ◌+◌, ◌-◌, ◌≤◌, ◌<◌, ℕ, List, ◌∷◌, length, get_or, take, drop, sym, ap, ◌∙◌, arith, rules}
use borrow.Rule.Slice.PartMut.{put_mid}
use Rattle.run.specs.declared.Run.{Run}
use Rattle.phase.specs.Task.{past_end}
use Rattle.run.proofs.Written.{take_more}
use Rattle.buffers.specs.Encoding.{each_words, places, words_to, place_words, places_words}
use Rattle.buffers.specs.Encoding.{count_word, low_word, high_word, encode_to, overwritten}
use Rattle.buffers.proofs.Places.{words_more}
use Rattle.buffers.proofs.Inverse.{length_to}
use Rattle.buffers.proofs.Putting.{put-more}
use Rattle.buffers.proofs.run_buffer.put_run.Goals as goal

one_more : (r : Run) (i : ℕ) → i < length r.tasks → encode_to (i + 1) r ≡ encode_to i r ++ place_words (get_or r.tasks i past_end)
unfolding encode_to
one_more r i h =
    ap (λ (l : List ℕ). r.rule ∷ (r.cores ∷ (count_word r.count ∷ (low_word r.fence ∷ (high_word r.fence ∷ (r.withdrawn ∷ l))))))
    (ap places_words (take_more r.tasks i past_end h) ∙ words_more (take i r.tasks) (get_or r.tasks i past_end))

next_place :
    (words w ys : List ℕ) (r : Run) (i : ℕ) → i < length r.tasks → words ≡ overwritten i r w → words_to i ≤ length words
    → ys ≡ place_words (get_or r.tasks i past_end) ++ drop each_words (take (length words - (words_to i)) (drop (words_to i) words))
    → put_mid (words_to i) (length words - (words_to i)) words ys ≡ overwritten (i + 1) r w
next_place words w ys r i l e h q =
    let n : words_to i + each_words ≡ words_to (i + 1) = omega arith in
    put-more words (encode_to i r) w (place_words (get_or r.tasks i past_end)) ys (words_to i) each_words e (length_to i r (omega arith)) h q
    ∙ (ap (λ (b : List ℕ). b ++ drop (words_to i + each_words) w) (sym (one_more r i l)) ∙ ap (λ (k : ℕ). encode_to (i + 1) r ++ drop k w) n)

pub loop-i-preserved : goal.loop-i-preserved
loop-i-preserved c =
    let a = c.args in
    let i = c.loop-i.i in
    let len : length a.run.tasks ≡ places = search rules in
    next_place c.loop-i.words a.words.now _ a.run i (omega arith) c.loop-i.invariant (omega arith) c.put_place.ensures
