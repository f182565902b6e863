-- Writing pieces: what has been written and what is left make up the whole.
use mathlib.Core.Path.{◌≡◌, refl, sym, ap, ap₂, ◌∙◌, subst}
use mathlib.Core.Bool.{Bool, true, false, cond, true≢false}
use mathlib.Core.List.{List, [], ◌∷◌, ◌++◌}
use Prim.Native.Nat.{ℕ, zero, suc, ◌+◌, ◌-◌, ◌≤◌, ◌<◌, min}
use native.Mathlib.Omega.{arith}
use lib.ListN.{length, take, drop, length-take, length-drop}
use lib.Seq.{take-append-le, drop-append-le, take-take, drop-drop, take-add, take-nil, drop-nil, length-take-le}
use Rattle.simulation.specs.TickState.{Numbers, loaded_numbers, TickState, next_tick_state}
use Rattle.simulation.proofs.Steps.{tick-on}
use Rattle.text.specs.Written.{Put}
use Rattle.text.proofs.Writing.{put-none, put_then, put-length, put_front}
use Rattle.printer.specs.Rows.{text_in, line_in, lines_in}
use Rattle.printer.specs.Valid.{valid, Safe}
use Rattle.printer.specs.Printer.{run_state_of, text_kept, remaining, rest, PieceOf, Stepping, Stepped}
use Rattle.printer.specs.declared.Printer.{Printer}
use Rattle.printer.specs.declared.Stage.{Stage}
use Rattle.printer.proofs.Safe.{safe-next}
use Rattle.printer.proofs.Limits.{Limits, limits-valid, Arrays, limits-safe}

-- a valid printer has all that is to come left, another has nothing
pub rest-valid : (p : Printer) → valid p ≡ true → rest p ≡ remaining p
unfolding rest
rest-valid p e = ap (λ (b : Bool). cond b (remaining p) []) e

pub rest-none : (p : Printer) → valid p ≡ false → rest p ≡ []
unfolding rest
rest-none p e = ap (λ (b : Bool). cond b (remaining p) []) e

-- nothing of nothing
drop-nil' : {A : Type 0} (k n : ℕ) → ◌≡◌ {A = List A} (drop k (take n [])) []
drop-nil' k n = ap (drop k) (take-nil n) ∙ drop-nil k

-- a part of the front
drop-front : {A : Type 0} (k n : ℕ) (l : List A) → drop k (take (k + n) l) ≡ take n (drop k l)
drop-front zero n l = let e : 0 + n ≡ n = omega arith in ap (λ (j : ℕ). take j l) e
drop-front (suc k) n [] = drop-nil' (suc k) (suc k + n) ∙ sym (take-nil n)
drop-front (suc k) n (x ∷ l) =
    let e : suc k + n ≡ suc (k + n) = omega arith in
    ap (λ (j : ℕ). drop (suc k) (take j (x ∷ l))) e ∙ drop-front k n l

-- what a printer p has written of what p₀ had, into a buffer
pub record Emitting (p₀ p : Printer) (before after : List ℕ) (at : ℕ) : Type 0 where
  pub limits : Limits p
  pub arrays : Arrays p
  pub left : remaining p ≡ drop at (remaining p₀)
  pub bytes : Put before 0 (take at (remaining p₀)) after at
  pub room : at ≤ length before
  pub same : length after ≡ length before

pub emit-start : (p : Printer) (buffer : List ℕ) → Limits p → Arrays p → Emitting p p buffer buffer 0
emit-start p buffer k a = record { limits = k; arrays = a; left = refl; bytes = put-none buffer 0; room = omega arith; same = refl }

-- a printer that has written this much of its line
abbrev pub at-given : Printer → ℕ → Printer
at-given p g = record { table = p.table; end = p.end; places = p.places; stage = p.stage; row = p.row; line = p.line; given = g }

-- a part of the line is the next of what is left, and the rest comes after it
module _ (p : Printer) (k : Limits p) (a : Arrays p) (part : ℕ) (h : part ≤ p.stage.ready - p.given) where
  abbrev line-left : List ℕ
  line-left = drop p.given p.line

  long : length (take (p.stage.ready - p.given) line-left) ≡ p.stage.ready - p.given
  long = length-take-le (p.stage.ready - p.given) line-left (omega (arith, length-drop p.given p.line, a.long, k.ready))

  pub part-taken : take part (remaining p) ≡ take part line-left
  unfolding remaining
  part-taken =
      take-append-le part (take (p.stage.ready - p.given) line-left) _ (omega (arith, long))
      ∙ take-take part (p.stage.ready - p.given) line-left h

  pub part_left : remaining (at-given p (p.given + part)) ≡ drop part (remaining p)
  unfolding remaining
  part_left =
      let e : p.stage.ready - p.given ≡ part + (p.stage.ready - (p.given + part)) = omega arith in
      let f : drop part (take (p.stage.ready - p.given) line-left) ≡ take (p.stage.ready - (p.given + part)) (drop (p.given + part) p.line) =
      ap (λ (n : ℕ). drop part (take n line-left)) e ∙ drop-front part (p.stage.ready - (p.given + part)) line-left
      ∙ ap (take (p.stage.ready - (p.given + part))) (drop-drop part p.given p.line) in
      sym
      (drop-append-le part (take (p.stage.ready - p.given) line-left) _ (omega (arith, long))
      ∙ ap (λ (l : List ℕ). l ++ lines_in (loaded_numbers p.table) (p.end - p.stage.registers.tick) (run_state_of p) (text_kept p)) f)

  part-limits : Limits (at-given p (p.given + part))
  part-limits = record {
    table = k.table;
    tick = k.tick;
    end = k.end;
    ready = k.ready;
    given = omega (arith, k.given);
    text = k.text;
    claims = k.claims;
    chosen = k.chosen;
  }

  part-arrays : Arrays (at-given p (p.given + part))
  part-arrays = record { sized = a.sized; wide = a.wide; long = a.long }

-- where a part ends
part-ends :
    (p : Printer) (after after' : List ℕ) (at at' part : ℕ) → Limits p → Arrays p → part ≤ p.stage.ready - p.given
    → Put after at (take part (drop p.given p.line)) after' at' → at' ≡ at + part
part-ends p after after' at at' part k a few q =
    q.ends ∙ ap (λ (n : ℕ). at + n)
    (length-take-le part (drop p.given p.line) (omega (arith, length-drop p.given p.line, a.long, k.ready)))

-- where the line is not at its end after it, the buffer is full
pub part-fills :
    (p₀ p : Printer) (before after after' : List ℕ) (at at' part : ℕ) → Emitting p₀ p before after at
    → part ≡ min (p.stage.ready - p.given) (length after - at) → Put after at (take part (drop p.given p.line)) after' at'
    → p.given + part < p.stage.ready → at' ≡ length before
part-fills p₀ p before after after' at at' part h e q l =
    omega (arith, part-ends p after after' at at' part h.limits h.arrays (omega arith) q, h.same, h.room)

-- a part of the line is written
pub emit-part :
    (p₀ p : Printer) (before after after' : List ℕ) (at at' part : ℕ) → Emitting p₀ p before after at
    → part ≡ min (p.stage.ready - p.given) (length after - at) → Put after at (take part (drop p.given p.line)) after' at'
    → Emitting p₀ (at-given p (p.given + part)) before after' at'
emit-part p₀ p before after after' at at' part h e q = record {
  limits = part-limits p h.limits h.arrays part few;
  arrays = part-arrays p h.limits h.arrays part few;
  left =
      part_left p h.limits h.arrays part few ∙ ap (drop part) h.left ∙ drop-drop part at (remaining p₀) ∙ ap (λ (n : ℕ). drop n (remaining p₀)) (sym ends);
  bytes = subst (λ (x : List ℕ). Put before 0 x after' at') taken (put_then h.bytes q room');
  room = room';
  same = put-length q (omega (arith, h.same, room')) ∙ h.same;
}
  where
    few : part ≤ p.stage.ready - p.given
    few = omega arith

    ends : at' ≡ at + part
    ends = part-ends p after after' at at' part h.limits h.arrays few q

    room' : at' ≤ length before
    room' = omega (arith, ends, h.same, h.room)

    taken : take at (remaining p₀) ++ take part (drop p.given p.line) ≡ take at' (remaining p₀)
    taken =
        ap (λ (l : List ℕ). take at (remaining p₀) ++ l) (sym (part-taken p h.limits h.arrays part few) ∙ ap (take part) h.left)
        ∙ sym (take-add at part (remaining p₀)) ∙ ap (λ (n : ℕ). take n (remaining p₀)) (sym ends)

-- THE NEXT ROW

-- a row can be stepped
pub stepping-of :
    (p : Printer) (n : Numbers) → n ≡ loaded_numbers p.table → Limits p → Arrays p → p.stage.registers.tick < p.end
    → Stepping n p.stage p.places p.row p.line
stepping-of p n e k a l = record {
  safe = subst (λ (n : Numbers). Safe n (run_state_of p)) (sym e) (limits-safe p k a);
  tick = omega (arith, k.end);
  text = k.text;
  wide = a.wide;
  long = a.long;
}

-- the line is written, and the next is made
module _
    (p : Printer) (k : Limits p) (a : Arrays p) (over : p.stage.ready ≤ p.given) (l : p.stage.registers.tick < p.end) (stage : Stage) (places row line : List ℕ)
    (s : Stepped (loaded_numbers p.table) (run_state_of p) (text_kept p) p.line stage places row line)
  where
    abbrev n : Numbers
    n = loaded_numbers p.table

    abbrev t : ℕ
    t = p.stage.registers.tick

    abbrev stepped : Printer
    stepped = record { table = p.table; end = p.end; places = places; stage = stage; row = row; line = line; given = 0 }

    safe : Safe n (run_state_of stepped)
    safe = subst (Safe n) (sym s.state) (safe-next n (run_state_of p) (limits-safe p k a))

    one : stage.registers.tick ≡ t + 1
    one = tick-on n (run_state_of p) (run_state_of stepped) s.state

    step-limits : Limits stepped
    step-limits = record {
      table = k.table;
      tick = omega (arith, one);
      end = k.end;
      ready = s.ready;
      given = omega arith;
      text = s.text;
      claims = safe.owed;
      chosen = safe.kept;
    }

    step-arrays : Arrays stepped
    step-arrays = record { sized = safe.sized; wide = s.wide; long = s.long }

    -- the next line and the lines after it
    abbrev lines : List ℕ
    lines = line_in n (run_state_of p) (text_kept p) ++ lines_in n (p.end - suc t) (next_tick_state n (run_state_of p)) (text_in n (run_state_of p) (text_kept p))

    new : remaining stepped ≡ lines
    new = unfold remaining in
        let z : stage.ready - 0 ≡ stage.ready = omega arith in
        let y : p.end - stage.registers.tick ≡ p.end - suc t = omega (arith, one) in
        ap₂ (λ (x y : List ℕ). x ++ y) (ap (λ (i : ℕ). take i line) z ∙ put_front s.line)
        (ap₂ (λ (i : ℕ) (x : TickState). lines_in n i x (take stage.text row)) y s.state ∙ ap (lines_in n (p.end - suc t) (next_tick_state n (run_state_of p))) s.keeps)

    old : remaining p ≡ lines
    old = unfold remaining lines_in in
        let z : p.stage.ready - p.given ≡ 0 = omega arith in
        let e : p.end - t ≡ suc (p.end - suc t) = omega arith in
        ap₂ (λ (i j : ℕ). take i (drop p.given p.line) ++ lines_in n j (run_state_of p) (text_kept p)) z e

    step_same : remaining stepped ≡ remaining p
    step_same = new ∙ sym old

pub emit-step :
    (p₀ p : Printer) (before after : List ℕ) (at : ℕ) → Emitting p₀ p before after at → p.stage.ready ≤ p.given → p.stage.registers.tick < p.end
    → (n : Numbers) → n ≡ loaded_numbers p.table → (stage : Stage) (places row line : List ℕ)
    → Stepped n (run_state_of p) (text_kept p) p.line stage places row line
    → Emitting p₀ (record { table = p.table; end = p.end; places = places; stage = stage; row = row; line = line; given = 0 }) before after at
emit-step p₀ p before after at h over l n e stage places row line q =
    let s = subst (λ (n : Numbers). Stepped n (run_state_of p) (text_kept p) p.line stage places row line) e q in
    record {
      limits = step-limits p h.limits h.arrays over l stage places row line s;
      arrays = step-arrays p h.limits h.arrays over l stage places row line s;
      left = step_same p h.limits h.arrays over l stage places row line s ∙ h.left;
      bytes = h.bytes;
      room = h.room;
      same = h.same;
    }

-- THE END

-- no more than there was
emitted : (p₀ p : Printer) (before after : List ℕ) (at : ℕ) → Emitting p₀ p before after at → at ≤ length (remaining p₀)
emitted p₀ p before after at h = omega (arith, h.bytes.ends, length-take at (remaining p₀))

piece_of :
    (p₀ p : Printer) (before after : List ℕ) (at : ℕ) → valid p₀ ≡ true → Emitting p₀ p before after at → at ≡ min (length before) (length (remaining p₀))
    → PieceOf p₀ before after (record { printer = p; length = at })
piece_of p₀ p before after at ok h e = record {
  length = e ∙ ap (λ (x : List ℕ). min (length before) (length x)) (sym all);
  bytes = subst (λ (x : List ℕ). Put before 0 (take at x) after at) (sym all) h.bytes;
  rest = rest-valid p still ∙ h.left ∙ ap (drop at) (sym all);
  refused = λ z. absurd (true≢false (sym ok ∙ z));
  valid = still ∙ sym ok;
}
  where
    all : rest p₀ ≡ remaining p₀
    all = rest-valid p₀ ok

    still : valid p ≡ true
    still = limits-valid p h.limits

-- the buffer is full
pub emit-full :
    (p₀ p : Printer) (before after : List ℕ) (at : ℕ) → valid p₀ ≡ true → Emitting p₀ p before after at → at ≡ length before
    → PieceOf p₀ before after (record { printer = p; length = at })
emit-full p₀ p before after at ok h e = piece_of p₀ p before after at ok h (omega (arith, emitted p₀ p before after at h))

-- or nothing is left
pub emit-done :
    (p₀ p : Printer) (before after : List ℕ) (at : ℕ) → valid p₀ ≡ true → Emitting p₀ p before after at → p.stage.ready ≤ p.given → p.stage.registers.tick ≡ p.end
    → PieceOf p₀ before after (record { printer = p; length = at })
emit-done p₀ p before after at ok h over e =
    piece_of p₀ p before after at ok h
    (omega (arith, h.room, emitted p₀ p before after at h, ap length (sym h.left ∙ none), length-drop at (remaining p₀)))
  where
    none : remaining p ≡ []
    none = unfold remaining lines_in in
        let z : p.stage.ready - p.given ≡ 0 = omega arith in
        let y : p.end - p.stage.registers.tick ≡ 0 = omega arith in
        ap₂ (λ (i j : ℕ). take i (drop p.given p.line) ++ lines_in (loaded_numbers p.table) j (run_state_of p) (text_kept p)) z y

-- a printer that is not valid is returned as it is
pub piece-refused : (p : Printer) (buffer : List ℕ) → valid p ≡ false → PieceOf p buffer buffer (record { printer = p; length = 0 })
piece-refused p buffer e = record {
  length = omega (arith, ap length (rest-none p e));
  bytes = put-none buffer 0;
  rest = refl;
  refused = λ z. (refl, refl, refl);
  valid = refl;
}
