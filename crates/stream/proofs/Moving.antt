-- The results of reading and writing, piece by piece: bytes in place stay there when more are read after them, and counts add up.
-- Assumes nothing.
use mathlib.Core.Bool.{true, false, false≢true}
use mathlib.Core.List.{List, [], ◌++◌}
use mathlib.Core.Path.{◌≡◌, refl, sym, ap, subst, ◌∙◌}
use Prim.Native.Nat.{ℕ, ◌+◌}
use native.Mathlib.Omega.{arith}
use lib.ListN.{length, take, length-append}
use lib.Seq.{take-take}
use Rattle.std.specs.Prelude.{Result, Ok, Err}
use Rattle.std.specs.Result.{IsErr, IsErrAnd}
use Rattle.std.proofs.lemmas.Result.{err_from_is_err_and}
use Rattle.stream.specs.declared.Cut.{Cut}
use Rattle.stream.specs.declared.Filled.{Filled}
use Rattle.stream.specs.Reading.{Reading, ReadAfter, ReadOnceOf, FilledOf, read_once, filled}
use Rattle.stream.specs.Sent.{saturated, Sent, SentOf, sent_of}

-- READING

-- a read after the bytes of others
pub behind-on :
    {held : ℕ} {before middle after : List ℕ} {r s : Reading} → ReadAfter held before middle r → ReadAfter r.held middle after s → ReadAfter held before after s
behind-on {held} {before} {middle} {after} {r} {s} p q = record {
  kept =
      sym (take-take held r.held after p.least) ∙ ap (take held) q.kept ∙ take-take held r.held middle p.least ∙ p.kept;
  same = q.same ∙ p.same;
  least = omega (arith, p.least, q.least);
  most = omega (arith, p.same, q.most);
}

-- a buffer after reads that held so many bytes at last, and one more
module _ {E : Type 0} (held end : ℕ) (before middle after : List ℕ) (so-far : ReadAfter held before middle (record { held = end; ended = false; failed = false }))
    (read : Result ℕ E) (h : ReadOnceOf end middle after (read_once end read)) where
  -- it gave bytes, or the input has ended
  pub read-on : (n : ℕ) → read ≡ Ok n → ReadAfter held before after (record { held = n; ended = false; failed = false })
  read-on n is =
      let p = behind-on so-far (subst (λ (x : Result ℕ E). ReadAfter end middle after (read_once end x)) is h.behind) in
      record { kept = p.kept; same = p.same; least = p.least; most = p.most }

  -- the input has ended
  pub read-all : (n : ℕ) → read ≡ Ok n → n ≡ end → FilledOf held before after (record { held = end; ended = true; failed = false })
  read-all n is e =
      let p = read-on n is in
      record {
        behind = record { kept = p.kept; same = p.same; least = so-far.least; most = so-far.most };
        full = λ f _. absurd (false≢true (sym f));
      }

  -- it failed
  pub read-failed : {D : Type 0} (e : E) → read ≡ Err e → (r : Result Filled D) → IsErr r → FilledOf held before after (filled held r)
  read-failed e is (Ok n) k = absurd (false≢true k)
  read-failed e is (Err d) k =
      let p = behind-on so-far (subst (λ (x : Result ℕ E). ReadAfter end middle after (read_once end x)) is h.behind) in
      record {
        behind = record { kept = p.kept; same = p.same; least = omega arith; most = omega (arith, so-far.least, so-far.most) };
        full = λ _ well. absurd (false≢true (sym well));
      }

-- WRITING

-- what the exit of a `?` returns where writes did not take all
pub cut-sent : (r : Result ℕ Cut) (e : Cut) → IsErrAnd r (λ x. x ≡ e) → sent_of r ≡ record { count = e.0; whole = false }
cut-sent r e h = let (x, is, same) = err_from_is_err_and {Q = λ x. x ≡ e} r h in ap sent_of (is ∙ ap Err same)

pub sent-all : (n k count : ℕ) (bytes : List ℕ) → k ≡ length bytes → count ≡ saturated (n + k) → SentOf n bytes (record { count = count; whole = true })
sent-all n k count bytes h e = record { all = λ w. e ∙ ap (λ (m : ℕ). saturated (n + m)) h; part = λ w. absurd (false≢true (sym w)) }

-- what was passed to writes after what was taken whole
pub sent-then :
    (n : ℕ) (xs ys : List ℕ) (r s : Sent) → SentOf n xs r → r.whole ≡ true → SentOf r.count ys s → SentOf n (xs ++ ys) s
sent-then n xs ys r s p w q = record {
  all = λ v. omega (arith, p.all w, q.all v, length-append xs ys);
  part = λ v. let (k, h, e) = q.part v in (length xs + k, omega (arith, h, length-append xs ys), omega (arith, p.all w, e));
}

-- where a part was not taken whole, no more was
pub sent-stopped : (n : ℕ) (xs ys : List ℕ) (s : Sent) → SentOf n xs s → s.whole ≡ false → SentOf n (xs ++ ys) s
sent-stopped n xs ys s p w = record {
  all = λ v. absurd (false≢true (sym w ∙ v));
  part = λ v. let (k, h, e) = p.part v in (k, omega (arith, h, length-append xs ys), e);
}

-- nothing was passed, and nothing was to be
pub sent-nothing : (n : ℕ) → n ≡ saturated n → SentOf n [] (record { count = n; whole = true })
sent-nothing n e = sent-all n 0 n [] refl (omega (arith, e))
