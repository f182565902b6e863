-- The line of positions: one position more, as it is written; and what `conflict` answers decides it. Assumes nothing.
use mathlib.Core.Bool.{Bool, true, false, cond}
use mathlib.Core.List.{List, [], ◌∷◌, ◌++◌, append_assoc, append-nil}
use mathlib.Core.Path.{◌≡◌, refl, ap, sym, ◌∙◌, subst}
use Prim.Native.Nat.{ℕ, zero, suc, ◌+◌, ◌*◌, ◌^◌, ◌≤◌, ◌<◌}
use native.Mathlib.Nat.{not-suc-le-zero}
use native.Mathlib.Numerals.{add-one}
use native.Mathlib.Omega.{arith}
use lib.ListN.{length, length-append}
use Rattle.std.proofs.Common.{map}
use Rattle.model.specs.Members.{members}
use Rattle.model.specs.Search.{bit, cons_if, filtered, up_from}
use Rattle.model.specs.Sizes.{most_tasks}
use Rattle.model.proofs.Members.{Turn, members-to, turn}
use Rattle.text.specs.Decimal.{decimal, digit_count, digits_within, last_digits}
use Rattle.text.specs.Format.{newline}
use Rattle.text.specs.Written.{Put}
use Rattle.text.specs.Output.{space, fields, letters}
use Rattle.text.proofs.Decimals.{decimal-some}
use Rattle.text.proofs.RowText.{fields-append}
use Rattle.text.proofs.Writing.{put-none, put_then}
use Rattle.table.specs.Answer.{Answer}
use Rattle.table.specs.Answer.{Passed}
use Rattle.conflict.specs.Answer.{ConflictAnswer}
use Rattle.conflict.specs.Answer.{ConflictOf}
use Rattle.conflict.specs.Answer.{answered as kept_in}
use Rattle.std.specs.Prelude.{Result, Ok, Err}
use Rattle.model.specs.declared.refusal.Refusal.{Refusal}
use Rattle.query.specs.Positions.{positions_below, spaced, spaced_at, position_line, positions_by}
use Rattle.query.specs.Query.{conflict_text, refusal_line}

-- the positions of places 1 and 2, of place 0 alone, and of places 0, 9 and 31, as they are printed
pub positions-printed :
    (position_line 6 ≡ letters "2 3" ++ (newline ∷ [])) × (position_line 1 ≡ letters "1" ++ (newline ∷ []))
    × (position_line (2 ^ 31 + 2 ^ 9 + 1) ≡ letters "1 10 32" ++ (newline ∷ []))
unfolding positions_below spaced fields decimal digit_count digits_within last_digits
positions-printed = (refl, refl, refl)

-- ONE NUMBER MORE

-- after other bytes it has a space before it
pub spaced-behind : (at n : ℕ) → 0 < at → spaced_at at n ≡ space ∷ decimal n
unfolding spaced_at
spaced-behind zero n h = absurd (not-suc-le-zero h)
spaced-behind (suc at) n h = refl

fields-more : (ns : List ℕ) (x : ℕ) → fields (ns ++ (x ∷ [])) ≡ fields ns ++ (space ∷ decimal x)
unfolding fields
fields-more ns x = fields-append ns (x ∷ []) ∙ ap (λ (l : List ℕ). fields ns ++ (space ∷ l)) (append-nil (decimal x))

spaced-more : (ns : List ℕ) (x : ℕ) → spaced (ns ++ (x ∷ [])) ≡ spaced ns ++ spaced_at (length (spaced ns)) x
unfolding spaced spaced_at fields
spaced-more [] x = append-nil (decimal x)
spaced-more (n ∷ ns) x =
    let some : 0 < length (decimal n ++ fields ns) = omega (arith, decimal-some n, length-append (decimal n) (fields ns)) in
    ap (λ (l : List ℕ). decimal n ++ l) (fields-more ns x)
    ∙ (sym (append_assoc (decimal n) (fields ns) (space ∷ decimal x))
    ∙ ap (λ (l : List ℕ). (decimal n ++ fields ns) ++ l) (sym (spaced-behind (length (decimal n ++ fields ns)) x some)))

-- THE MEMBERS OF A SET

-- the positions of the places from i on follow those of the places before it
front-to : (x i n : ℕ) → positions_below (i + n) x ≡ positions_below i x ++ map suc (filtered (bit x) (up_from i n))
unfolding positions_below filtered up_from
front-to x i zero = let e : i + 0 ≡ i = omega arith in ap (λ (k : ℕ). positions_below k x) e ∙ sym (append-nil (positions_below i x))
front-to x i (suc n) =
    let e : i + suc n ≡ suc i + n = omega arith in
    ap (λ (k : ℕ). positions_below k x) e ∙ (front-to x (suc i) n ∙ go (bit x i))
  where
    rest : List ℕ
    rest = filtered (bit x) (up_from (suc i) n)

    go : (b : Bool) → cond b (positions_below i x ++ (suc i ∷ [])) (positions_below i x) ++ map suc rest ≡ positions_below i x ++ map suc (cons_if b i rest)
    go true = append_assoc (positions_below i x) (suc i ∷ []) (map suc rest)
    go false = refl

-- the positions of a set are those of its members
pub positions-members : (x : ℕ) → x < 2 ^ 32 → positions_below most_tasks x ≡ map suc (members x)
unfolding positions_below
positions-members x h = front-to x 0 32 ∙ ap (map suc) (sym (members-to x 32 h))

below-most : (n x : ℕ) → length (positions_below n x) ≤ n
unfolding positions_below
below-most zero x = omega arith
below-most (suc n) x = go (below-most n x) (bit x n)
  where
    go : length (positions_below n x) ≤ n → (b : Bool) → length (cond b (positions_below n x ++ (suc n ∷ [])) (positions_below n x)) ≤ suc n
    go h true = omega (arith, h, length-append (positions_below n x) (suc n ∷ []))
    go h false = omega (arith, h)

-- the positions of some members are put, 11 bytes for each at most, and `rest` has the others
pub record Placing (set rest : ℕ) (before line : List ℕ) (at : ℕ) : Type 0 where
  pub done : List ℕ
  pub together : done ++ map suc (members rest) ≡ positions_below most_tasks set
  pub fits : rest < 2 ^ 32
  pub written : Put before 0 (spaced done) line at
  pub short : at ≤ 11 * length done

pub placing-none : (set rest : ℕ) (line : List ℕ) → rest ≡ set → set < 2 ^ 32 → Placing set rest line line 0
unfolding spaced
placing-none set rest line e h = record {
  done = [];
  together = ap (λ (x : ℕ). map suc (members x)) e ∙ sym (positions-members set h);
  fits = omega (arith, e, h);
  written = put-none line 0;
  short = omega arith;
}

module _ (set rest others p : ℕ) (before line : List ℕ) (at : ℕ) (i : Placing set rest before line at) (m : members rest ≡ p ∷ members others) where
  t : Turn rest p others
  t = turn rest p others m

  pub place-below : p < 32
  place-below = t.below 32 i.fits

  all : i.done ++ (suc p ∷ map suc (members others)) ≡ positions_below most_tasks set
  all = ap (λ (l : List ℕ). i.done ++ map suc l) (sym m) ∙ i.together

  -- there is space for one more
  pub one-more : length i.done < 32
  one-more =
      omega (arith, length-append i.done (suc p ∷ map suc (members others)), ap (length {A = ℕ}) all, below-most 32 set)

  -- it is put
  pub placing-on : (after : List ℕ) (end : ℕ) → Put line at (spaced_at at (p + 1)) after end → end ≤ at + 11 → end ≤ length before → Placing set others before after end
  placing-on after end q past room = record {
    done = i.done ++ (suc p ∷ []);
    together = append_assoc i.done (suc p ∷ []) (map suc (members others)) ∙ all;
    fits = omega (arith, t.falls, i.fits);
    written = subst (λ (s : List ℕ). Put before 0 s after end) next (put_then i.written q room);
    short = omega (arith, past, i.short, length-append i.done (suc p ∷ []));
  }
    where
      next : spaced i.done ++ spaced_at at (p + 1) ≡ spaced (i.done ++ (suc p ∷ []))
      next =
          let ends : at ≡ length (spaced i.done) = omega (arith, i.written.ends) in
          ap (λ (k : ℕ). spaced i.done ++ spaced_at k (p + 1)) ends
          ∙ (ap (λ (k : ℕ). spaced i.done ++ spaced_at (length (spaced i.done)) k) (add-one p) ∙ sym (spaced-more i.done (suc p)))

-- no member is left
pub placing-all : (set rest : ℕ) (before line : List ℕ) (at : ℕ) → Placing set rest before line at → members rest ≡ [] → Put before 0 (spaced (positions_below most_tasks set)) line at × (at ≤ 352)
placing-all set rest before line at i e =
    let same : i.done ≡ positions_below most_tasks set = sym (append-nil i.done) ∙ ap (λ (l : List ℕ). i.done ++ map suc l) (sym e) ∙ i.together in
    (subst (λ (s : List ℕ). Put before 0 (spaced s) line at) same i.written, omega (arith, i.short, ap (length {A = ℕ}) same, below-most 32 set))

-- WHAT `conflict` ANSWERS

module _ (ws : List ℕ) (r : ConflictAnswer) (h : ConflictOf ws r) where
  -- the output follows from it
  by-kept : positions_by r.answer r.kept ≡ conflict_text ws
  unfolding conflict_text
  by-kept = ap (λ (w : ConflictAnswer). positions_by w.answer w.kept) h.value

  -- the positions kept
  pub kept-text : r.answer ≡ Passed → position_line r.kept ≡ conflict_text ws
  kept-text e = ap (λ (a : Answer). positions_by a r.kept) (sym e) ∙ by-kept

-- as code has it
module _ (ws : List ℕ) (r : Result ℕ Refusal) (h : ConflictOf ws (kept_in r)) where
  pub conflict-ok : (x : ℕ) → r ≡ Ok x → position_line x ≡ conflict_text ws
  conflict-ok x is = kept-text ws (kept_in (Ok x)) (subst (λ (r : Result ℕ Refusal). ConflictOf ws (kept_in r)) is h) refl

  pub conflict-err : (e : Refusal) → r ≡ Err e → refusal_line e ≡ conflict_text ws
  conflict-err e is = by-kept ws (kept_in (Err e)) (subst (λ (r : Result ℕ Refusal). ConflictOf ws (kept_in r)) is h)
