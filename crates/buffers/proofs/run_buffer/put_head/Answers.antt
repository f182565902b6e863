-- `buffers::run_buffer::put_head`: the six stores are the head's words.
use Rattle.std.proofs.Common.{◌≡◌, refl, ◌≤◌, ℕ, List, ◌∷◌, length, drop, ◌∙◌}
use Rattle.std.proofs.Math.ListN.{set}
use Rattle.run.specs.declared.Run.{Run}
use Rattle.buffers.specs.Encoding.{head_words, places_words, count_word, low_word, high_word, encode_to, overwritten}
use Rattle.buffers.proofs.Putting.{head-put}
use Rattle.buffers.proofs.run_buffer.put_head.Goals as goal

answer_written :
    (ws : List ℕ) (r : Run) (n l h : ℕ) → head_words ≤ length ws → n ≡ count_word r.count → l ≡ low_word r.fence → h ≡ high_word r.fence
    → set (set (set (set (set (set ws 0 r.rule) 1 r.cores) 2 n) 3 l) 4 h) 5 r.withdrawn ≡ overwritten 0 r ws
unfolding encode_to places_words
answer_written ws r n l h k x y z =
    head-put ws r.rule r.cores n l h r.withdrawn k ∙ (λ i. r.rule ∷ (r.cores ∷ (x i ∷ (y i ∷ (z i ∷ (r.withdrawn ∷ drop head_words ws))))))

pub returns : goal.returns
returns c =
    let a = c.args in
    answer_written a.words.now a.run _ _ _ c.requires c.count_word.ensures refl refl
