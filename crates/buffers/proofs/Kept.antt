-- The calls on a buffer are the calls on the run that it holds: what start and an entry write is decoded to the run that they return.
-- (The row or the sets asked are those of the run that is decoded, by definition.)
use mathlib.Core.Path.{◌≡◌, refl, sym, ap, subst, ◌∙◌}
use mathlib.Core.Bool.{Bool, true}
use mathlib.Core.List.{List, [], ◌++◌, map, append-nil}
use Prim.Native.Nat.{ℕ, ◌-◌, ◌≤◌}
use native.Mathlib.Omega.{arith}
use lib.ListN.{length, take, drop, replicate, length-append, length-drop, length-map, length-replicate, take-append-drop}
use lib.Seq.{take_at, drop_at}
use Rattle.model.specs.Advance.{Entry, advance, withdraw, withdraw_all, singleton}
use Rattle.model.specs.Search.{bit}
use Rattle.model.specs.Task as model
use Rattle.table.specs.Words.{rule, table_of}
use Rattle.run.specs.Answer.{Answer}
use Rattle.run.specs.Answer.{Taken, Refused}
use Rattle.run.specs.declared.Run.{Run}
use Rattle.run.specs.Start.{Started}
use Rattle.phase.specs.declared.Task.{Task}
use Rattle.phase.specs.Task.{unused, start_task}
use Rattle.run.specs.Run.{moved, withdrawn_in}
use Rattle.run.specs.Answer.{answer_meaning, by_answer}
use Rattle.run.specs.Start.{started_run, start_answer, start_of}
use Rattle.run.specs.Numbers.{unknown_in, past_count}
use Rattle.run.specs.Advance.{advance_answer, advance_of}
use Rattle.run.specs.Withdraw.{withdraw_answer, withdraw_of, withdraw_all_of}
use Rattle.refinement.specs.Entries.{entry_of}
use Rattle.run.proofs.Places.{length-map_first, drop-map_first}
use Rattle.run.proofs.StartExact.{start-of}
use Rattle.run.proofs.ByVerdict.{start-taken, start-refused}
use Rattle.buffers.specs.Encoding.{head_words, places, words_to, run_words, encode_to, encode, overwritten, places_in, count_in, holds_run, run_in, BufferRun, run, decode, cleared}
use Rattle.buffers.specs.Runs.{started_in, entry_from}
use Rattle.buffers.proofs.Places.{length-read, held-long, held-few}
use Rattle.buffers.proofs.Inverse.{length_to, decode-to, decode-encode, few-accepted, held-run}

-- a run as a buffer holds it: 32 places, of which those past the count are clear
pub record StoredRun (r : Run) : Type 0 where
  pub all : length r.tasks ≡ places
  pub few : r.count ≤ places
  pub past : drop r.count r.tasks ≡ replicate (places - r.count) unused

-- such a run is as it is when it is cleared
pub clear-fits : (r : Run) → StoredRun r → cleared r ≡ r
clear-fits r f =
    ap (λ (ts : List Task). record { rule = r.rule; cores = r.cores; fence = r.fence; withdrawn = r.withdrawn; count = r.count; tasks = ts })
    (ap (λ (l : List Task). take r.count r.tasks ++ l) (sym f.past) ∙ take-append-drop r.count r.tasks)

-- START

pub fits-started : (n : ℕ) (s : model.Table) → (started_run n s).count ≤ places → StoredRun (started_run n s)
unfolding started_run
fits-started n s h =
    let rest = replicate (places - length s.tasks) unused in
    let a = length-append (map start_task s.tasks) rest in
    let b = length-map s.tasks start_task in
    let c = length-replicate (places - length s.tasks) unused in
    record { all = omega arith; few = h; past = drop_at (map start_task s.tasks) rest (length s.tasks) b }

pub fits-start : (ws : List ℕ) → StoredRun (start_of ws).run
fits-start ws = go (start_answer ws) refl
  where
    go : (a : Answer) → start_answer ws ≡ a → StoredRun (start_of ws).run
    go Taken e =
        let v = start-taken ws e in
        let few = few-accepted (start_of ws).run ((start-of ws (start_of ws) refl).passes (ap (λ (s : Started). answer_meaning s.answer) v)) in
        subst (λ (s : Started). StoredRun s.run) (sym v) (fits-started (rule ws) (table_of ws) (subst (λ (s : Started). s.run.count ≤ places) v few))
    go (Refused n p) e =
        subst (λ (s : Started). StoredRun s.run) (sym (start-refused ws n p e)) (record { all = refl; few = omega arith; past = refl })

-- start writes all words of the run that it returns, whatever was there
pub start-whole : (ws buffer : List ℕ) → take run_words (started_in ws buffer) ≡ encode (start_of ws).run
start-whole ws buffer =
    let r = (start_of ws).run in
    let all = (fits-start ws).all in
    take_at (encode r) (drop run_words buffer) run_words (length_to places r (omega arith))

-- and what it writes is decoded to that run
pub start-held : (ws buffer : List ℕ) → decode (started_in ws buffer) ≡ run (start_of ws).run
start-held ws buffer =
    let f = fits-start ws in
    decode-encode (start_of ws).run f.all f.few (drop run_words buffer) ∙ ap run (clear-fits (start_of ws).run f)

-- so its encoding is decoded to the run itself
pub started-back : (ws : List ℕ) → decode (encode (start_of ws).run) ≡ run (start_of ws).run
started-back ws = ap decode (sym (append-nil (encode (start_of ws).run))) ∙ start-held ws []

-- AN ENTRY

fits-held : (ws : List ℕ) → holds_run ws ≡ true → StoredRun (run_in ws)
unfolding run_in
fits-held ws e =
    let n = count_in ws in
    let few = held-few ws e in
    let read = places_in n (drop head_words ws) in
    let rest = replicate (places - n) unused in
    let a = length-append read rest in
    let b = length-read n (drop head_words ws) in
    let c = length-replicate (places - n) unused in
    record { all = omega arith; few = few; past = drop_at read rest n b }

-- a run that a buffer holds fits, and the buffer is long enough
pub held_fits : (ws : List ℕ) (r : Run) → decode ws ≡ run r → StoredRun r × (run_words ≤ length ws)
held_fits ws r e = let h = held-run ws r e in (subst StoredRun h.1 (fits-held ws h.0), held-long ws h.0)

fits_moved : (f : ℕ → Bool) (e : ℕ) (r : Run) → StoredRun r → StoredRun (moved f e r)
unfolding moved
fits_moved f e r h = record {
  all = length-map_first _ r.count r.tasks ∙ h.all;
  few = h.few;
  past = drop-map_first _ r.count r.tasks ∙ h.past;
}

-- a withdrawal, by its answer
fits-withdrawn : (x : ℕ) (r : Run) → StoredRun r → (a : Answer) → StoredRun (by_answer a (withdrawn_in x r) r)
unfolding withdrawn_in
fits-withdrawn x r h Taken = record { all = h.all; few = h.few; past = h.past }
fits-withdrawn x r h (Refused n p) = h

-- what an entry returns fits, taken or refused
pub fits-entered : (r : Run) (x : Entry) → StoredRun r → StoredRun (entry_of r x).run
unfolding advance_of withdraw_of withdraw_all_of
fits-entered r (advance x e) f = go (advance_answer r x e)
  where
    go : (a : Answer) → StoredRun (by_answer a (moved (bit x) e r) r)
    go Taken = fits_moved (bit x) e r f
    go (Refused n p) = f
fits-entered r (withdraw q) f = fits-withdrawn (singleton q) r f (withdraw_answer r (unknown_in r q))
fits-entered r (withdraw_all x) f = fits-withdrawn x r f (withdraw_answer r (past_count r.count x))

-- an entry that is refused returns the run as given
as-given : (r : Run) (x : Entry) (n p : ℕ) → (entry_of r x).answer ≡ Refused n p → (entry_of r x).run ≡ r
unfolding advance_of withdraw_of withdraw_all_of
as-given r (advance x e) n p t = ap (λ (a : Answer). by_answer a (moved (bit x) e r) r) t
as-given r (withdraw q) n p t = ap (λ (a : Answer). by_answer a (withdrawn_in (singleton q) r) r) t
as-given r (withdraw_all x) n p t = ap (λ (a : Answer). by_answer a (withdrawn_in x r) r) t

-- a run that fits, written into a long buffer up to its count, is held there
pub fits-written : (r : Run) (ws : List ℕ) → StoredRun r → run_words ≤ length ws → decode (overwritten r.count r ws) ≡ run r
fits-written r ws f h =
    let few = f.few in
    let all = f.all in
    let a = length-append (encode_to r.count r) (drop (words_to r.count) ws) in
    let b = length_to r.count r (omega arith) in
    let c = length-drop (words_to r.count) ws in
    decode-to r.count r (drop (words_to r.count) ws) all (omega arith) few (omega arith) ∙ ap run (clear-fits r f)

-- the answer to an entry on the buffer is that of the run that it holds, and the buffer afterwards holds the run that the entry returns
pub advance-held :
    (ws : List ℕ) (r : Run) (x : Entry) → decode ws ≡ run r
    → ((entry_from (decode ws) x ws).answer ≡ (entry_of r x).answer) × (decode (entry_from (decode ws) x ws).buffer ≡ run (entry_of r x).run)
advance-held ws r x e = (
  ap (λ (h : BufferRun). (entry_from h x ws).answer) e,
  ap (λ (h : BufferRun). decode (entry_from h x ws).buffer) e ∙ go (entry_of r x).answer refl,
)
  where
    next : Run
    next = (entry_of r x).run

    call_result : Answer → List ℕ
    call_result a = by_answer a (overwritten next.count next ws) ws

    go : (a : Answer) → (entry_of r x).answer ≡ a → decode (call_result (entry_of r x).answer) ≡ run next
    go Taken t =
        let f = held_fits ws r e in
        ap (λ (a : Answer). decode (call_result a)) t ∙ fits-written next ws (fits-entered r x f.0) f.1
    go (Refused n p) t = ap (λ (a : Answer). decode (call_result a)) t ∙ (e ∙ ap run (sym (as-given r x n p t)))
