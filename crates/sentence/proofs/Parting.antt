-- Reading the parts one by one: those read so far are those of the counts so far,
-- and parts that rise from the start are, from here on, parts that rise after the last task read.
use mathlib.Core.Bool.{Bool, true, false, ◌&&◌, false≢true}
use mathlib.Core.List.{List, [], ◌∷◌, ◌++◌}
use mathlib.Core.Path.{◌≡◌, refl, ap, sym, subst, ◌∙◌}
use Prim.Native.Nat.{ℕ, suc, ◌+◌, ◌-◌, ◌≤◌, ◌<◌}
use native.Mathlib.Omega.{arith}
use lib.ListN.{length, get_or, set, drop, replicate, length-set, length-append}
use lib.Seq.{get_or-set_same, get_or-set_other}
use lib.Dec.{eqb, ltb}
use borrow.Author.Tests.{ltb-true, lt-ltb, eqb-true, eqb-false}
use Rattle.model.proofs.Lists.{get_d-zeros}
use Rattle.model.proofs.Bools.{and_left, and_right, and_both}
use Rattle.text.specs.Decimal.{decimal}
use Rattle.text.specs.Output.{letters}
use Rattle.sentence.specs.Facts.{Part, limit, MayFollow, Ascending, named}
use Rattle.sentence.specs.Sentence.{word_field, parts}
use Rattle.sentence.specs.Parsed.{same}
use Rattle.sentence.specs.Reading.{Stops, NoField, FieldAt, part_text, NoPart, PartAt, NoParts, PartsAt}
use Rattle.std.proofs.Common.{Bor}
use Rattle.sentence.specs.declared.reader.Part as code
use Rattle.sentence.proofs.Numbers.{number-only, parts-stop}
use Rattle.sentence.proofs.Exact.{same-exact}
use Rattle.sentence.proofs.Fields.{field-is}
use Rattle.sentence.proofs.Naming.{parts-append, named-zeros, named_set, named-ascending}

-- a part that is not there
module _ (bs : List ℕ) where
  pub no-task : NoField bs (letters "; task ") → NoPart bs
  no-task absent q n rest l m s e = absent q (word_field (letters " ran ") n rest) l refl e

  module _ (task : ℕ × Bor (List ℕ)) (first : FieldAt bs (letters "; task ") task) where
    pub no-count : NoField task.1.now (letters " ran ") → NoPart bs
    no-count absent q n rest l m s e = absent n rest m s (field-is bs (letters "; task ") task first q (word_field (letters " ran ") n rest) refl e).1

    -- one that is
    pub part-there : (count : ℕ × Bor (List ℕ)) → FieldAt task.1.now (letters " ran ") count
        → PartAt bs (record { task = task.0; count = count.0 }, count.1)
    part-there count second =
        let t : bs ≡ part_text task.0 count.0 count.1.now = first.there ∙ ap (λ (r : List ℕ). word_field (letters "; task ") task.0 r) second.there in
        record {
          there = t;
          stops = second.stops;
          task = first.small;
          count = second.small;
          after = (
              let n = length-append (decimal count.0) count.1.now in
              let m = length-append (decimal task.0) (word_field (letters " ran ") count.0 count.1.now) in
              let l = ap length t in
              omega (arith, n, m, l));
        }

-- what holds when the parts of a text up to the text `left` have been read, and `last` is the last task read
pub record Read (bs : List ℕ) (position : ℕ) (ran : List ℕ) (last : ℕ) (left : List ℕ) : Type 0 where
  pub size : length ran ≡ 32
  pub above : last ≤ position - 1
  pub fits : (k : ℕ) → get_or ran k 0 < limit
  pub zeros : (k : ℕ) → last ≤ k → get_or ran k 0 ≡ 0
  pub before : bs ≡ parts (named ran) left
  pub after : (ps : List Part) → Ascending 0 position ps → bs ≡ parts ps (letters ".") →
      (qs : List Part) × Ascending last position qs × (left ≡ parts qs (letters "."))

pub read-start : (bs : List ℕ) (position : ℕ) → Read bs position (replicate 32 0) 0 bs
unfolding parts
read-start bs position = record {
  size = refl;
  above = omega arith;
  fits = λ k. let z = get_d-zeros 32 k in omega arith;
  zeros = λ k l. get_d-zeros 32 k;
  before = ap (λ (ps : List Part). parts ps bs) (sym (named-zeros 0 (replicate 32 0) (get_d-zeros 32)));
  after = λ ps r e. (ps, r, e);
}

-- the tests of a part that was found
abbrev pub tests : ℕ → ℕ → ℕ → ℕ → Bool
tests last position task count = ltb last task && (ltb task position && ltb 0 count)

pub passed : (last position task count : ℕ) → tests last position task count ≡ true → (last < task) × (task < position) × (0 < count)
passed last position task count t =
    let u = and_right (ltb last task) (ltb task position && ltb 0 count) t in (
      ltb-true last task (and_left (ltb last task) (ltb task position && ltb 0 count) t),
      ltb-true task position (and_left (ltb task position) (ltb 0 count) u),
      ltb-true 0 count (and_right (ltb task position) (ltb 0 count) u),
    )

module _ (bs : List ℕ) (position : ℕ) (ran : List ℕ) (last : ℕ) (left : List ℕ) (read : Read bs position ran last left) (small : position ≤ 32) where
  -- there is no part: the parts end here or nowhere
  pub parts-end : same left (letters ".") ≡ true → PartsAt bs position ran
  parts-end q = record {
    rise = named-ascending 0 position ran read.fits (λ k l. read.zeros k (let a = read.above in omega arith));
    there = read.before ∙ ap (parts (named ran)) ((same-exact left (letters ".")).0 q);
  }

  pub parts-none : NoPart left → same left (letters ".") ≡ false → NoParts bs position
  unfolding parts Ascending
  parts-none absent q ps r e = let a = read.after ps r e in go a.0 a.1 a.2
    where
      go : (qs : List Part) → Ascending last position qs → left ≡ parts qs (letters ".") → ⊥
      go [] s d = false≢true (sym q ∙ (same-exact left (letters ".")).1 d)
      go (p ∷ qs) s d = let a = s.0.above in absent p.position p.count (parts qs (letters ".")) (omega arith) s.0.fits (parts-stop qs) d

module _ (bs : List ℕ) (position : ℕ) (ran : List ℕ) (last : ℕ) (left : List ℕ) (part : code.Part) (rest : Bor (List ℕ))
    (read : Read bs position ran last left) (small : position ≤ 32) (found : PartAt left (part, rest)) where
  -- the part that is here is the one that was found
  part-is : (q n : ℕ) (tail : List ℕ) → Stops tail → left ≡ part_text q n tail → (part.task ≡ q) × (part.count ≡ n) × (rest.now ≡ tail)
  part-is q n tail s e =
      let same : decimal part.task ++ word_field (letters " ran ") part.count rest.now ≡ decimal q ++ word_field (letters " ran ") n tail =
      ap (drop 7) (sym found.there ∙ e) in
      let one = number-only part.task q (word_field (letters " ran ") part.count rest.now) (word_field (letters " ran ") n tail) refl refl same in
      let other : decimal part.count ++ rest.now ≡ decimal n ++ tail = ap (drop 5) one.1 in
      let two = number-only part.count n rest.now tail found.stops s other in
      (one.0, two.0, two.1)

  -- the full stop is no part
  no_part : ¬ (left ≡ letters ".")
  no_part e = let z : ◌≡◌ {A = ℕ} 59 46 = ap (λ (xs : List ℕ). get_or xs 0 0) (sym found.there ∙ e) in omega arith

  -- the parts that are left
  part_left : (ps : List Part) → Ascending 0 position ps → bs ≡ parts ps (letters ".") →
      MayFollow last position (record { position = part.task; count = part.count })
      × ((qs : List Part) × Ascending part.task position qs × (rest.now ≡ parts qs (letters ".")))
  unfolding parts Ascending
  part_left ps r e = let a = read.after ps r e in go a.0 a.1 a.2
    where
      go : (qs : List Part) → Ascending last position qs → left ≡ parts qs (letters ".") →
          MayFollow last position (record { position = part.task; count = part.count })
          × ((rs : List Part) × Ascending part.task position rs × (rest.now ≡ parts rs (letters ".")))
      go [] s d = absurd (no_part d)
      go (q ∷ qs) s d =
          let x = part-is q.position q.count (parts qs (letters ".")) (parts-stop qs) d in
          let g : MayFollow last position q = s.0 in
          let m : part.task ≡ q.position = x.0 in
          let n : part.count ≡ q.count = x.1 in (
            record { later = omega (arith, g.later); above = omega (arith, g.above); some = omega (arith, g.some); fits = found.count },
            (qs, subst (λ (k : ℕ). Ascending k position qs) (sym m) s.1, x.2),
          )

  -- it is read
  pub read_more : tests last position part.task part.count ≡ true → Read bs position (set ran (part.task - 1) part.count) part.task rest.now
  unfolding parts
  read_more t =
      let g = passed last position part.task part.count t in
      let q : ℕ = part.task in
      let n : ℕ = part.count in
      let l : last < q = g.0 in
      let b : q < position = g.1 in
      let z : suc (0 + (q - 1)) ≡ q = omega arith in
      let w : q - 1 < length ran = omega (arith, read.size) in
      record {
        size = length-set ran (q - 1) n ∙ read.size;
        above = omega arith;
        fits = λ k. fit k (eqb k (q - 1)) refl w;
        zeros =
            λ k h.
            get_or-set_other ran (q - 1) k n 0 (λ e. omega arith) ∙ read.zeros k (omega arith);
        before =
            read.before ∙ ap (parts (named ran)) found.there ∙ sym (parts-append (named ran) (record { position = q; count = n } ∷ []) rest.now)
            ∙ ap (λ (ps : List Part). parts ps rest.now)
            (sym (named_set 0 ran (q - 1) n w g.2 (λ k h. read.zeros k (omega arith)) ∙ ap (λ (k : ℕ). named ran ++ (record { position = k; count = n } ∷ [])) z));
        after = λ ps r e. (part_left ps r e).1;
      }
    where
      fit : (k : ℕ) (t : Bool) → eqb k (part.task - 1) ≡ t → part.task - 1 < length ran → get_or (set ran (part.task - 1) part.count) k 0 < limit
      fit k true e w =
          let v : get_or (set ran (part.task - 1) part.count) k 0 ≡ part.count =
          ap (λ (j : ℕ). get_or (set ran (part.task - 1) part.count) j 0) (eqb-true k (part.task - 1) e) ∙ get_or-set_same ran (part.task - 1) part.count 0 w in
          omega (arith, found.count)
      fit k false e w =
          let v = get_or-set_other ran (part.task - 1) k part.count 0 (eqb-false k (part.task - 1) e) in
          omega (arith, read.fits k)

  -- it may not be here
  pub read-wrong : tests last position part.task part.count ≡ false → NoParts bs position
  read-wrong t ps r e =
      let g = (part_left ps r e).0 in
      false≢true (sym t
      ∙ and_both (ltb last part.task) (ltb part.task position && ltb 0 part.count) (lt-ltb last part.task g.later)
      (and_both (ltb part.task position) (ltb 0 part.count) (lt-ltb part.task position g.above) (lt-ltb 0 part.count g.some)))
