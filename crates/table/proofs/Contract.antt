-- The contract of `load` follows from its value.
use mathlib.Core.Path.{◌≡◌, refl, sym, ap, ◌∙◌, subst}
use mathlib.Core.List.{List}
use Prim.Native.Nat.{ℕ}
use native.Mathlib.Omega.{arith}
use Rattle.model.specs.Refusals as book
use Rattle.table.specs.Answer.{Answer, Passed, Refused, answer_in}
use Rattle.table.specs.declared.Loaded.{Loaded}
use Rattle.std.specs.Prelude.{Result, Ok, Err, IfOk}
use Rattle.std.proofs.lemmas.Result.{IfOk-at_ok}
use Rattle.model.specs.declared.refusal.Refusal.{Refusal}
use Rattle.model.specs.Refusal.{numbered, number_of, position_of}
use Rattle.table.specs.Words.{word, table_of}
use Rattle.table.specs.Numbers.{First, NoneApplies}
use Rattle.table.specs.Answer.{answer_of}
use Rattle.table.specs.Load.{loaded_of, passing, loaded_by, load_of, LoadedAs, load_meaning, LoadOf}
use Rattle.table.proofs.Exact.{refusal-exact, passed-exact}
use Rattle.table.proofs.Passed.{passed-count, passed-horizon}
use Rattle.table.proofs.Loads.{places-tasks, places-past}

-- the meaning of an answer determines it
pub meaning-passed : (a : Answer) → load_meaning a ≡ book.taken → a ≡ Passed
meaning-passed Passed e = refl
meaning-passed (Refused n p) e = absurd (let z : ◌≡◌ {A = ℕ} 0 1 = cc in omega arith)

pub meaning-refused : (a : Answer) (n p : ℕ) → load_meaning a ≡ book.refused n p → a ≡ Refused n p
meaning-refused Passed n p e = absurd (let z : ◌≡◌ {A = ℕ} 0 1 = cc in omega arith)
meaning-refused (Refused m q) n p e = cc

-- a result and its answer by number and position
pub numbered-passed : (a : Answer) (l : Loaded) (r : Result Loaded Refusal) → numbered r ≡ loaded_by a l → answer_in r ≡ a
numbered-passed Passed l (Ok t) e = refl
numbered-passed (Refused n p) l (Err x) e = let pair : ◌≡◌ {A = ℕ × ℕ} (number_of x, position_of x) (n, p) = cc in λ i. Refused (pair i).0 (pair i).1
numbered-passed Passed l (Err x) e = absurd (let z : ◌≡◌ {A = ℕ} 0 1 = cc in omega arith)
numbered-passed (Refused n p) l (Ok t) e = absurd (let z : ◌≡◌ {A = ℕ} 0 1 = cc in omega arith)

-- what passes holds the table
pub passing-holds : (ws : List ℕ) → NoneApplies ws → LoadedAs ws (passing (word ws 2) (table_of ws))
unfolding table_of
passing-holds ws none = record {
  count = refl;
  count-from = passed-count ws none;
  cores = refl;
  fence = refl;
  rule = refl;
  tasks = places-tasks (table_of ws).tasks;
  past = places-past (table_of ws).tasks;
  start = refl;
  period = refl;
  horizon = refl;
  horizon-most = passed-horizon ws none;
}

-- the answer in the value of `load`
abbrev pub answered_by : Result Loaded (ℕ × ℕ) → Answer
answered_by (Ok l) = Passed
answered_by (Err (n, p)) = Refused n p

answered-loaded : (a : Answer) (l : Loaded) → answered_by (loaded_by a l) ≡ a
answered-loaded Passed l = refl
answered-loaded (Refused n p) l = refl

pub load-answer : (ws : List ℕ) → answered_by (load_of ws) ≡ answer_of ws
unfolding load_of
load-answer ws = answered-loaded (answer_of ws) (passing (word ws 2) (table_of ws))

-- an accepted result is the table of the words
pub loaded : (a : Answer) (l t : Loaded) → Ok t ≡ loaded_by a l → t ≡ l
loaded Passed l t e = cc
loaded (Refused n p) l t e = absurd (let z : ◌≡◌ {A = ℕ} 0 1 = cc in omega arith)

holds-of : (ws : List ℕ) (r : Result Loaded Refusal) → numbered r ≡ load_of ws → answer_in r ≡ answer_of ws → IfOk r (LoadedAs ws)
unfolding load_of
holds-of ws (Ok t) e says =
    let same : t ≡ passing (word ws 2) (table_of ws) = loaded (answer_of ws) (passing (word ws 2) (table_of ws)) t e in
    subst (LoadedAs ws) (sym same) (passing-holds ws ((passed-exact ws).0 (sym says)))
holds-of ws (Err x) e says = tt

pub contract-of : (ws : List ℕ) (r : Result Loaded Refusal) → numbered r ≡ load_of ws → LoadOf ws r
unfolding load_of
contract-of ws r e =
    let says : answer_in r ≡ answer_of ws = numbered-passed (answer_of ws) (passing (word ws 2) (table_of ws)) r e in
    let passes : load_meaning (answer_in r) ≡ book.taken → answer_of ws ≡ Passed = λ q. sym says ∙ meaning-passed (answer_in r) q in
    let refuses : (n p : ℕ) → load_meaning (answer_in r) ≡ book.refused n p → answer_of ws ≡ Refused n p = λ n p q. sym says ∙ meaning-refused (answer_in r) n p q in
    record {
      value = e;
      refused = λ n p. (λ q. (refusal-exact ws n p).0 (refuses n p q), λ f. ap load_meaning (says ∙ (refusal-exact ws n p).1 f));
      passed = (λ q. (passed-exact ws).0 (passes q), λ none. ap load_meaning (says ∙ (passed-exact ws).1 none));
      holds = holds-of ws r e says;
    }

-- words that pass give the table of the words
pub load-loaded : (ws : List ℕ) → NoneApplies ws → load_of ws ≡ Ok (loaded_of ws)
unfolding load_of
load-loaded ws none = ap (λ (a : Answer). loaded_by a (loaded_of ws)) ((passed-exact ws).1 none)

-- what a caller finds: the table of the words, to which no number applies ..
module _ (ws : List ℕ) (r : Result Loaded Refusal) (l : LoadOf ws r) where
  pub answered : answer_in r ≡ answer_of ws
  unfolding load_of
  answered = numbered-passed (answer_of ws) (passing (word ws 2) (table_of ws)) r l.value

  pub load-ok : (t : Loaded) → r ≡ Ok t → LoadedAs ws t × NoneApplies ws × (answer_of ws ≡ Passed)
  load-ok t e =
      let says : answer_of ws ≡ Passed = sym answered ∙ ap answer_in e in
      (IfOk-at_ok (LoadedAs ws) e l.holds, (passed-exact ws).0 says, says)

  pub load-value : (t : Loaded) → r ≡ Ok t → t ≡ passing (word ws 2) (table_of ws)
  unfolding load_of
  load-value t e = loaded (answer_of ws) (passing (word ws 2) (table_of ws)) t (sym (ap numbered e) ∙ l.value)

  -- .. or the first number that applies, with its position
  pub load-err : (x : Refusal) → r ≡ Err x → (answer_of ws ≡ Refused (number_of x) (position_of x)) × First ws (number_of x) (position_of x)
  load-err x e =
      let says : answer_of ws ≡ Refused (number_of x) (position_of x) = sym answered ∙ ap answer_in e in
      (says, (refusal-exact ws (number_of x) (position_of x)).0 says)
