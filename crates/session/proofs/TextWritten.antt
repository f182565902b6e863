-- What was written at the front of a buffer is the text; numbers written one after the other.
use mathlib.Core.List.{List, [], ◌++◌}
use mathlib.Core.Path.{◌≡◌, refl, sym, ap, ◌∙◌, subst}
use Prim.Native.Nat.{ℕ, ◌+◌, ◌≤◌, ◌<◌}
use native.Mathlib.Omega.{arith}
use lib.ListN.{length, drop, set}
use lib.Seq.{drop_at}
use Rattle.text.specs.Output.{fields, line_of}
use Rattle.text.specs.Written.{Put}
use Rattle.text.proofs.RowText as row
use Rattle.text.proofs.Writing.{put_front, put-length, put_one, put_then}
use Rattle.session.specs.Operation.{word_line}
use Rattle.session.specs.Session.{TextWritten}

pub text-put : {text before after : List ℕ} {n : ℕ} → Put before 0 text after n → n ≤ length before → TextWritten text before after n
text-put {text} {before} {after} {n} p h = record {
  room = h;
  same = put-length p h;
  behind =
      let e : length text ≡ n = omega (arith, p.ends) in
      ap (drop n) p.bytes ∙ drop_at text (drop (0 + length text) before) n e ∙ ap (λ (k : ℕ). drop k before) (sym p.ends);
  front = put_front p;
}

pub text_of : {text text' before after : List ℕ} {n : ℕ} → text ≡ text' → TextWritten text before after n → TextWritten text' before after n
text_of {text} {text'} {before} {after} {n} e s = subst (λ (x : List ℕ). TextWritten x before after n) e s

-- a word alone is a line with no numbers
pub word-line : (word : List ℕ) → word_line word ≡ line_of word []
unfolding word_line line_of fields
word-line word = refl

-- a word, numbers and a newline, one after the other, are a line
pub line-put :
    (word ns : List ℕ) {before middle after : List ℕ} {start end : ℕ} → Put before 0 word middle start → Put middle start (fields ns) after end → end < length before
    → TextWritten (line_of word ns) before (set after end 10) (end + 1)
line-put word ns {before} {middle} {after} {start} {end} p q room =
    let r : Put before 0 (word ++ fields ns) after end = put_then p q (omega arith) in
    let l : length after ≡ length before = put-length r (omega arith) in
    let t = put_then r (put_one after end 10 (omega arith)) (omega arith) in
    text-put (subst (λ (x : List ℕ). Put before 0 x (set after end 10) (end + 1)) (row.line-put word ns) t) (omega arith)
