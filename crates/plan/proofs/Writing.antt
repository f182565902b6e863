-- The writing tick by tick: the row that the claimants of a tick give with their widths in it, and the buffer.
use native.Mathlib.Omega.{arith}
use native.Mathlib.Nat.{mul-le-mul_right, le_trans, suc-mul}
use native.Mathlib.Numerals.{add-one}
use mathlib.Core.Path.{◌≡◌, refl, sym, ap, ◌∙◌}
use mathlib.Core.Bool.{Bool, true, false, not, ◌||◌, true≢false}
use mathlib.Core.List.{List, ◌++◌}
use Prim.Native.Nat.{ℕ, suc, ◌+◌, ◌-◌, ◌*◌, ◌≤◌, ◌<◌}
use lib.Dec.{eqb}
use lib.ListN.{length, take, replicate}
use lib.Seq.{paste, take_at}
use borrow.Author.Tests.{eqb-true}
use Rattle.model.proofs.Rows.{row-length}
use Rattle.model.specs.Fence.{unfenced}
use Rattle.model.specs.Search.{bit}
use Rattle.model.specs.Task.{Table, rule_of}
use Rattle.model.specs.Grants.{claimants, grants}
use Rattle.model.specs.Row.{row}
use Rattle.model.specs.Claims.{book_row}
use Rattle.model.specs.Lists.{full}
use Rattle.model.specs.Sizes.{most_cores}
use Rattle.table.specs.declared.Loaded.{Loaded}
use Rattle.rule.specs.Widths.{widths_in}
use Rattle.simulation.specs.Machine.{Machine}
use Rattle.simulation.specs.TickState.{loaded_numbers}
use Rattle.simulation.proofs.SameClaimants.{row_same}
use Rattle.table.specs.Fit.{loaded_table, Fit}
use Rattle.simulation.proofs.AtTick.{After, front-agree}
use Rattle.plan.specs.Plan.{with_rows}
use Rattle.plan.proofs.Buffer.{over_none, over-more, with-length}

-- the widths of the table's tasks in a tick, by both widths of each place, where those of the set e are at their second
abbrev widths_by : Loaded → List ℕ → ℕ → List ℕ
widths_by t v e = take t.count (widths_in e v)

-- the bytes of a tick in which the places of the set c claim, those of the set e with their second width
abbrev pub RowBy : Loaded → List ℕ → ℕ → ℕ → List ℕ → Type 0
RowBy t v c e bytes =
    bytes
    ≡ row t.fence t.cores (grants (rule_of t.rule) (claimants (widths_by t v e) (bit c)) (unfenced t.fence t.cores))
    ++ replicate (most_cores - t.cores) 0

-- by the table's widths
abbrev pub RowFor : Loaded → ℕ → ℕ → List ℕ → Type 0
RowFor t c e bytes = RowBy t (loaded_numbers t).widths c e bytes

-- where neither of two numbers has changed
pub none-changed : (a b c d : ℕ) → not (eqb a b) || not (eqb c d) ≡ false → (a ≡ b) × (c ≡ d)
none-changed a b c d e = go (eqb a b) refl (eqb c d) refl e
  where
    go : (x : Bool) → eqb a b ≡ x → (y : Bool) → eqb c d ≡ y → not x || not y ≡ false → (a ≡ b) × (c ≡ d)
    go true p true q h = (eqb-true a b p, eqb-true c d q)
    go true p false q h = absurd (true≢false h)
    go false p y q h = absurd (true≢false h)

-- the buffer before a tick: the rows from a on, and after them as found
pub record Filled (t : Loaded) (a tick at : ℕ) (old out : List ℕ) : Type 0 where
  pub next : at ≡ (tick - a) * t.cores
  pub bytes : out ≡ with_rows (loaded_table t) a tick old
  pub size : length out ≡ length old

pub filled-start : (t : Loaded) (a : ℕ) (old : List ℕ) → Filled t a 0 0 old old
filled-start t a old = record { next = zeros; bytes = sym (over_none (loaded_table t) a 0 old (omega arith)); size = refl }
  where
    zeros : 0 ≡ (0 - a) * t.cores
    zeros = let e : 0 - a ≡ 0 = omega arith in rw e (omega arith)

-- a tick before a
pub filled-pass : (t : Loaded) (a tick at : ℕ) (old out : List ℕ) → Filled t a tick at old out → tick < a → Filled t a (tick + 1) at old out
filled-pass t a tick at old out f h =
    let e : tick - a ≡ tick + 1 - a = omega arith in
    record {
      next = f.next ∙ ap (λ (n : ℕ). n * t.cores) e;
      bytes = f.bytes ∙ (over_none (loaded_table t) a tick old (omega arith) ∙ sym (over_none (loaded_table t) a (tick + 1) old (omega arith)));
      size = f.size;
    }

-- a tick from a on
pub filled_more :
    (t : Loaded) (a b tick at at' : ℕ) (old out out' row : List ℕ) → Filled t a tick at old out → a ≤ tick → tick < b → (b - a) * t.cores ≤ length old
    → take t.cores row ≡ book_row (loaded_table t) (full (loaded_table t) tick) → at' ≡ at + t.cores → out' ≡ paste out at row t.cores
    → Filled t a (tick + 1) at' old out'
filled_more t a b tick at at' old out out' row f h k enough e ea eo =
    rw add-one (record {
      next = ea ∙ (ap (λ (n : ℕ). n + t.cores) f.next ∙ (sym (suc-mul (tick - a) t.cores) ∙ ap (λ (n : ℕ). n * t.cores) one_more));
      bytes = new;
      size = ap length new ∙ with-length (loaded_table t) a (suc tick - a) old (le_trans (mul-le-mul_right t.cores fewer) enough);
    })
  where
    one_more : suc (tick - a) ≡ suc tick - a
    one_more = omega arith

    fewer : suc tick - a ≤ b - a
    fewer = omega arith

    new : out' ≡ with_rows (loaded_table t) a (suc tick) old
    new =
        eo
        ∙ (ap (λ (l : List ℕ). paste l at row t.cores) f.bytes
        ∙ (ap (λ (n : ℕ). paste (with_rows (loaded_table t) a tick old) n row t.cores) f.next
        ∙ over-more (loaded_table t) a tick old row h e))

-- THE ROW

module _ (t : Loaded) (fit : Fit t) where
  abbrev s : Table
  s = loaded_table t

  -- the row that the claimants give with their widths is the book's
  pub row-bytes :
      (m : Machine) (even next_event tick : ℕ) (bytes : List ℕ) → After t m even next_event tick → RowFor t m.claiming even bytes
      → take t.cores bytes ≡ book_row s (full s tick)
  row-bytes m even next_event tick bytes a e =
      ap (take t.cores) e
      ∙ (take_at (row t.fence t.cores given) (replicate (most_cores - t.cores) 0) t.cores (row-length t.fence t.cores given)
      ∙ row_same s fit.valid tick m a.ready widths (front-agree t fit m even next_event tick a))
    where
      widths : List ℕ
      widths = widths_by t (loaded_numbers t).widths even

      given : List (List ℕ)
      given = grants (rule_of t.rule) (claimants widths (bit m.claiming)) (unfenced t.fence t.cores)
