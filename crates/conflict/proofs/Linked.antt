-- Records linked in the order of a list: which words change, and what a walk along them meets. And the chain of a table that passes, whose records differ.
use mathlib.Core.Bool.{Bool, cond, false, true}
use mathlib.Core.List.{List, [], ◌∷◌}
use mathlib.Core.Logic.{inl, inr}
use mathlib.Core.Path.{subst, sym, ◌∙◌, ◌≡◌}
use Prim.Native.Nat.{ℕ, suc, zero, ◌%◌, ◌-◌, ◌<◌, ◌≤◌}
use native.Mathlib.Nat.{not-suc-le-zero}
use native.Mathlib.Omega.{arith}
use lib.Dec.{eqb}
use lib.ListN.{get_or, length, length-set, set}
use lib.Seq.{get_or-set_other, get_or-set_same}
use Rattle.std.proofs.lemmas.Bool.{false_from_ne_true}
use Rattle.table.proofs.Decide.{decides_eq, stable}
use Rattle.table.proofs.HeaderPasses.{words-few, words_long}
use Rattle.table.proofs.Tasks.{chain-at, chain_length}
use Rattle.table.proofs.Walk.{ends_there, five-decides, last-ends, last-reached, six-decides}
use Rattle.table.specs.Answer.{repeated_at, last_step, out_of_range_at}
use Rattle.table.specs.Numbers.{EndAt, NoneApplies, Reaches, WordsOut}
use Rattle.table.specs.Words.{chain, count, header_words, visited, record_words, records, word}
use Rattle.conflict.specs.SubTable.{chosen}
use Rattle.conflict.specs.Relinked.{linked, most_words, next_word_at}
use Rattle.conflict.proofs.Chosen.{chosen-all}

-- ---- lists of records

-- what holds of each number of a list
abbrev pub All : (ℕ → Type 0) → List ℕ → Type 0
All P ns = (i : ℕ) → i < length ns → P (get_or ns i 0)

-- no number is in it twice
unfoldable pub Distinct : List ℕ → Type 0
Distinct [] = Unit {0}
Distinct (n ∷ ns) = All (λ m. ¬ (n ≡ m)) ns × Distinct ns

pub distinct_from : (ns : List ℕ) → ((i j : ℕ) → i < j → j < length ns → ¬ (get_or ns i 0 ≡ get_or ns j 0)) → Distinct ns
unfolding Distinct
distinct_from [] h = tt
distinct_from (n ∷ ns) h =
    (λ j l. h 0 (suc j) (omega arith) (omega arith), distinct_from ns (λ i j l m. h (suc i) (suc j) (omega arith) (omega arith)))

pub distinct-at : (ns : List ℕ) → Distinct ns → (i j : ℕ) → i < j → j < length ns → ¬ (get_or ns i 0 ≡ get_or ns j 0)
unfolding Distinct
distinct-at [] d i j l m = absurd (not-suc-le-zero m)
distinct-at (n ∷ ns) d i zero l m = absurd (not-suc-le-zero l)
distinct-at (n ∷ ns) d zero (suc j) l m = d.0 j (omega arith)
distinct-at (n ∷ ns) d (suc i) (suc j) l m = distinct-at ns d.1 i j (omega arith) (omega arith)

pub chosen-distinct : (k : ℕ → Bool) (ns : List ℕ) → Distinct ns → Distinct (chosen k ns)
unfolding Distinct chosen
chosen-distinct k [] d = d
chosen-distinct k (n ∷ ns) d = go (k 0) (chosen-distinct (λ q. k (suc q)) ns d.1)
  where
    rest : List ℕ
    rest = chosen (λ q. k (suc q)) ns

    go : (t : Bool) → Distinct rest → Distinct (cond t (n ∷ rest) rest)
    go true ih = (chosen-all (λ m. ¬ (n ≡ m)) 0 (λ q. k (suc q)) ns d.0, ih)
    go false ih = ih

-- ---- records linked

-- word i is not the next of a record of the list
abbrev pub Apart : ℕ → List ℕ → Type 0
Apart i ns = All (λ n. ¬ (i ≡ next_word_at n)) ns

pub linked-length : (i : ℕ) (ns ws : List ℕ) → length (linked i ns ws) ≡ length ws
unfolding linked
linked-length i [] ws = length-set ws i 0
linked-length i (n ∷ ns) ws = linked-length (next_word_at n) ns (set ws i n) ∙ length-set ws i n

-- a word that is none of these stays
pub linked-other : (j i : ℕ) (ns ws : List ℕ) → ¬ (j ≡ i) → Apart j ns → word (linked i ns ws) j ≡ word ws j
unfolding linked
linked-other j i [] ws d a = get_or-set_other ws i j 0 0 d
linked-other j i (n ∷ ns) ws d a =
    linked-other j (next_word_at n) ns (set ws i n) (a 0 (omega arith)) (λ q l. a (suc q) (omega arith)) ∙ get_or-set_other ws i j n 0 d

-- word i names the first
pub linked-first : (i : ℕ) (ns ws : List ℕ) → i < length ws → Apart i ns → word (linked i ns ws) i ≡ get_or ns 0 0
unfolding linked
linked-first i [] ws l a = get_or-set_same ws i 0 0 l
linked-first i (n ∷ ns) ws l a =
    linked-other i (next_word_at n) ns (set ws i n) (a 0 (omega arith)) (λ q m. a (suc q) (omega arith)) ∙ get_or-set_same ws i n 0 l

-- the next of each names the one after it
pub linked-next :
    (i : ℕ) (ns ws : List ℕ) (m : ℕ) → m ≤ length ws → All (λ n. (1 ≤ n) × (next_word_at n < m)) ns → Distinct ns
    → (k : ℕ) → k < length ns → word (linked i ns ws) (next_word_at (get_or ns k 0)) ≡ get_or ns (suc k) 0
unfolding linked Distinct
linked-next i [] ws m e h d k l = absurd (not-suc-le-zero l)
linked-next i (n ∷ ns) ws m e h d zero l =
    linked-first (next_word_at n) ns (set ws i n) (omega (arith, h 0 (omega arith), length-set ws i n)) apart
  where
    apart : Apart (next_word_at n) ns
    apart q j f = d.0 q j (omega (arith, h 0 (omega arith), h (suc q) (omega arith)))
linked-next i (n ∷ ns) ws m e h d (suc k) l =
    linked-next (next_word_at n) ns (set ws i n) m (omega (arith, length-set ws i n)) (λ q j. h (suc q) (omega arith)) d.1 k (omega arith)

-- ---- the chain of a table that passes

-- a table that passes has no more words than the most
pub words-most : (ws : List ℕ) → ¬ WordsOut ws → length ws ≤ most_words
words-most ws n =
    let whole : (length ws - header_words) % record_words ≡ 0 =
    stable (eqb ((length ws - header_words) % record_words) 0) ((length ws - header_words) % record_words ≡ 0)
    (decides_eq ((length ws - header_words) % record_words) 0) (λ d. n (inr (inl d))) in
    omega (arith, words_long ws n, words-few ws n)

-- the words of a record are there
pub next-inside : (ws : List ℕ) (n : ℕ) → 1 ≤ n → n ≤ records ws → next_word_at n < length ws
next-inside ws n a b = omega arith

module _ (ws : List ℕ) (none : NoneApplies ws) where
  no-past : out_of_range_at ws (last_step ws) ≡ false
  no-past = false_from_ne_true (out_of_range_at ws (last_step ws)) (λ e. none 5 0 ((five-decides ws).0 e))

  no-again : repeated_at ws (last_step ws) ≡ false
  no-again = false_from_ne_true (repeated_at ws (last_step ws)) (λ e. none 6 0 ((six-decides ws).0 e))

  -- the walk meets a new record at every place of the chain, and then the zero
  pub chain-ends : EndAt ws (count ws)
  chain-ends = subst (EndAt ws) (sym (ends_there ws (last_step ws) (last-reached ws) (last-ends ws no-past no-again))) (last-ends ws no-past no-again)

  pub chain-reached : Reaches ws (count ws)
  chain-reached = subst (Reaches ws) (sym (ends_there ws (last_step ws) (last-reached ws) (last-ends ws no-past no-again))) (last-reached ws)

  -- its records are among those of the table
  pub chain-in : (k : ℕ) → k < count ws → (1 ≤ visited ws k) × (visited ws k ≤ records ws)
  chain-in k l =
      let a : ¬ (visited ws k ≡ 0) = (chain-reached k l).0 in
      let b : ¬ (records ws < visited ws k) = (chain-reached k l).1 in
      omega arith

  pub chain-all : All (λ n. (1 ≤ n) × (n ≤ records ws)) (chain ws)
  chain-all i l =
      let m : i < count ws = omega (arith, chain_length ws) in
      subst (λ (n : ℕ). (1 ≤ n) × (n ≤ records ws)) (sym (chain-at ws i 0 m)) (chain-in i m)

  pub chain-distinct : Distinct (chain ws)
  chain-distinct =
      distinct_from (chain ws)
      (λ i j l m e.
      let n : j < count ws = omega (arith, chain_length ws) in
      (chain-reached j n).2 (i, l, sym (chain-at ws i 0 (omega arith)) ∙ (e ∙ chain-at ws j 0 n)))
