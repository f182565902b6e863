-- The value of `read` implies its contract.
use mathlib.Core.Bool.{true≢false, false≢true}
use mathlib.Core.List.{List, []}
use mathlib.Core.Path.{◌≡◌, refl, ap, sym, subst⁻¹, ◌∙◌}
use Prim.Native.Nat.{ℕ, ◌-◌}
use native.Mathlib.Omega.{arith}
use lib.ListN.{length, take, replicate}
use lib.Seq.{take-append_seam, drop-append_seam}
use Rattle.std.proofs.Common.{Option, Some, None}
use Rattle.text.specs.Format.{most_numbers, Words, read_words, no_text, words_of, numbers_in}
use Rattle.text.specs.declared.words.Words as code
use Rattle.text.specs.Input.{Input, pad_numbers, input_of, read_in, ReadOf}
use Rattle.text.proofs.Exact.{text-exact, no-text-exact}

-- of a text's numbers
accepted : (bs ws : List ℕ) → words_of bs ≡ read_words ws → ReadOf bs (input_of (read_words ws))
accepted bs ws e =
    record {
      value = ap input_of (sym e);
      text = λ vs. (λ h. (text-exact bs vs).0 (e ∙ ap read_words (sym numbers ∙ h.1)), λ x. (refl, numbers ∙ same vs (sym e ∙ (text-exact bs vs).1 x)));
      no_text = (λ f. absurd (true≢false f), λ h. absurd (h ws ((text-exact bs ws).0 e)));
      most = ((text-exact bs ws).0 e).most;
      past = drop-append_seam ws (replicate (most_numbers - length ws) 0);
    }
  where
    numbers : take (length ws) (pad_numbers ws) ≡ ws
    numbers = take-append_seam ws (replicate (most_numbers - length ws) 0)

    same : (vs : List ℕ) → read_words ws ≡ read_words vs → ws ≡ vs
    same vs q = cc

-- of other bytes
refused-text : (bs : List ℕ) → words_of bs ≡ no_text → ReadOf bs (input_of no_text)
refused-text bs e =
    record {
      value = ap input_of (sym e);
      text = λ vs. (λ h. absurd (false≢true h.0), λ x. absurd ((no-text-exact bs).0 e vs x));
      no_text = (λ f. (no-text-exact bs).0 e, λ h. refl);
      most = omega arith;
      past = refl;
    }

pub read_of : (bs : List ℕ) (r : Input) → r ≡ input_of (words_of bs) → ReadOf bs r
read_of bs r e = subst⁻¹ (ReadOf bs) e (go (words_of bs) refl)
  where
    go : (w : Words) → words_of bs ≡ w → ReadOf bs (input_of w)
    go (read_words ws) q = accepted bs ws q
    go no_text q = refused-text bs q

-- the numbers that were read
pub numbers-read : (r : Input) (bs : List ℕ) → r ≡ input_of (words_of bs) → take r.count r.words ≡ numbers_in (words_of bs)
numbers-read r bs e = ap (λ (i : Input). take i.count i.words) e ∙ go (words_of bs)
  where
    go : (w : Words) → take (input_of w).count (input_of w).words ≡ numbers_in w
    go (read_words ws) = take-append_seam ws _
    go no_text = refl

-- .. as code returns them
pub some-read : (r : Option code.Words) (w : code.Words) (bs : List ℕ) → r ≡ Some w → read_in r ≡ input_of (words_of bs) → take w.count w.words ≡ numbers_in (words_of bs)
some-read r w bs n e = ap (λ (o : Option code.Words). take (read_in o).count (read_in o).words) (sym n) ∙ numbers-read (read_in r) bs e

-- .. and what is no table's text has none
pub none-read : (r : Option code.Words) (bs : List ℕ) → r ≡ None → read_in r ≡ input_of (words_of bs) → [] ≡ numbers_in (words_of bs)
none-read r bs n e = ap (λ (o : Option code.Words). take (read_in o).count (read_in o).words) (sym n) ∙ numbers-read (read_in r) bs e
