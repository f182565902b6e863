-- Bytes moved to the front of a buffer, and what was left before a read with what it gave.
use mathlib.Core.List.{List, [], ◌++◌, ◌∷◌}
use mathlib.Core.Bool.{Bool, false, true}
use mathlib.Core.Path.{◌∙◌, ◌≡◌, ap, subst⁻¹, sym}
use Prim.Native.Nat.{◌-◌, ◌<◌, suc, zero, ℕ}
use native.Mathlib.Omega.{arith}
use lib.Dec.{eqb}
use lib.ListN.{drop, length, length-drop, take, take-append-drop}
use lib.Seq.{length-take-le, take-nil, take-take}
use Rattle.stream.specs.Reading.{Reading}
use Rattle.std.proofs.Common.{rules}
use Rattle.std.specs.Prelude.{Ok}
use Rattle.stream.specs.declared.Round.{Round}
use Rattle.stream.specs.Reading.{MovedToFront, ReadAfter, ReadOnceOf, Reading}
use Rattle.stream.specs.Received.{ReceivedOf, continues}

-- a part of the front, from a place on
pub part-front : (i n : ℕ) (l : List ℕ) → drop i (take n l) ≡ take (n - i) (drop i l)
part-front zero n l = let e : n ≡ n - 0 = omega arith in ap (λ (k : ℕ). take k l) e
part-front (suc i) zero l = sym (take_none (drop (suc i) l))
  where
    take_none : (m : List ℕ) → take (0 - suc i) m ≡ []
    take_none m = let e : 0 - suc i ≡ 0 = omega arith in ap (λ (k : ℕ). take k m) e
part-front (suc i) (suc n) [] = sym (take-nil (suc n - suc i))
part-front (suc i) (suc n) (x ∷ l) = let e : n - i ≡ suc n - suc i = omega arith in part-front i n l ∙ ap (λ (k : ℕ). take k (drop i l)) e

-- A READ

module _ (held : ℕ) (before read : List ℕ) (r : Reading) (w : ReadAfter held before read r) where
  -- the bytes read, after what was left
  abbrev pub came : List ℕ
  came = drop held (take r.held read)

  pub left-and-came : take held before ++ came ≡ take r.held read
  left-and-came = ap (λ (x : List ℕ). x ++ came) (sym w.kept ∙ sym (take-take held r.held read w.least)) ∙ take-append-drop held (take r.held read)

  -- what is left of them is at the front
  pub left-kept : (after : List ℕ) (taken n : ℕ) → MovedToFront taken r.held read after n → take n after ≡ drop taken (take held before ++ came)
  left-kept after taken n q = q.front ∙ sym (part-front taken r.held read) ∙ ap (drop taken) (sym left-and-came)

-- .. and all that a program was fed of it
module _ {P E : Type 0} (round : P → Bool → List ℕ → P → Round → Type 0) (most : ℕ) (old new : P) (held end left : ℕ) (before read after : List ℕ) (r : Round) where
  pub received :
      ReadOnceOf held before read (record { held = end; ended = eqb end held; failed = false }) → round old (eqb (end - held) 0) (take end read) new r
      → (continues r.flow ≡ true → length (take end read) - r.taken < most) → MovedToFront r.taken end read after left
      → ReceivedOf {E = E} round most old new held before after (Ok (record { came = end - held; round = r; held = left }))
  received w h short q =
      let rd : Reading = record { held = end; ended = eqb end held; failed = false } in
      let all : length (take end read) ≡ end = length-take-le end read (omega (arith, w.behind.most, w.behind.same)) in
      record {
        same = q.same ∙ w.behind.same;
        read = record {
          came = came held before read rd w.behind;
          count = omega (arith, all, length-drop held (take end read));
          holds = subst⁻¹ (λ (l : List ℕ). round old (eqb (end - held) 0) l new r) (left-and-came held before read rd w.behind) h;
          kept = left-kept held before read rd w.behind after r.taken left q;
          room = λ u. omega (arith, q.count, short u, all);
        };
        unread = search rules;
      }
