-- An input is answered by what was read of it, where as many bytes as the buffer holds are enough for the answer.
-- Assumes nothing.
use mathlib.Core.Bool.{Bool, true, false, false≢true}
use mathlib.Core.List.{List, [], ◌++◌, append-nil}
use mathlib.Core.Path.{◌≡◌, refl, sym, ap, subst, ◌∙◌}
use Prim.Native.Nat.{ℕ}
use native.Mathlib.Omega.{arith}
use lib.ListN.{length, take}
use lib.Seq.{length-take-le, take-append_seam}
use Rattle.stream.specs.Reading.{FilledOf, Reading}
use Rattle.stream.specs.Sent.{Sent, SentOf}
use Rattle.stream.specs.Answered.{Answered}

-- the buffer was filled, no read failed, and the text to what it holds was sent
pub answered :
    (f : List ℕ → List ℕ) (before bytes : List ℕ) (r : Reading) (s : Sent) → ((bs : List ℕ) → f (take (length before) bs) ≡ f bs) → FilledOf 0 before bytes r → r.failed ≡ false → SentOf 0 (f (take r.held bytes)) s → Answered f bytes r s
answered f before bytes r s enough was well sent = record {
  text = λ w more none. subst (λ (l : List ℕ). SentOf 0 l s) (go more none r.ended refl) sent;
  unread = λ w. absurd (false≢true (sym well ∙ w));
}
  where
    go : (more : List ℕ) → (r.ended ≡ true → more ≡ []) → (t : Bool) → r.ended ≡ t → f (take r.held bytes) ≡ f (take r.held bytes ++ more)
    go more none true e = ap f (sym (append-nil (take r.held bytes)) ∙ ap (λ (l : List ℕ). take r.held bytes ++ l) (sym (none e)))
    go more none false e =
        let held = take r.held bytes in
        let full : length held ≡ length before = length-take-le r.held bytes (omega (arith, was.behind.most, was.behind.same)) ∙ was.full e well in
        ap f (sym (take-append_seam held more) ∙ ap (λ (n : ℕ). take n (held ++ more)) full) ∙ enough (held ++ more)
