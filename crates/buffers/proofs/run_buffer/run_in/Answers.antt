-- `buffers::run_buffer::run_in`: a buffer that is too short, or with too high a count, holds none; one place more is read, or is none; past the count all are
-- as they were made.
use Rattle.std.proofs.Common.{◌≡◌, ◌++◌, ◌+◌, ◌-◌, ◌*◌, ℕ, List, [], ◌∷◌, get_or, drop, replicate, true, false, Some, None, refl, sym, ap, ◌∙◌, add-one, arith, rules}
use Rattle.std.proofs.lemmas.Option.{cond_some}
use Rattle.std.proofs.Math.ListN.{set}
use Rattle.std.proofs.Math.Seq.{drop-drop}
use Rattle.phase.specs.declared.Task.{Task}
use Rattle.run.specs.declared.Run.{Run}
use Rattle.phase.specs.Task.{unused, past_end}
use Rattle.run.proofs.Written.{written-more, drop-equal}
use Rattle.buffers.specs.Encoding.{head_words, each_words, places, words_to, place_in, is_place, places_in, are_places, count_in, fence_in, padded, holds_run, run_in}
use Rattle.buffers.proofs.Places.{read_more, length-read, test_on, test-stop, none_left, held-short, held-many, held_by}
use Rattle.buffers.proofs.Reading.{place-chunk, place-room, none-read, run-none, run-some}
use Rattle.buffers.proofs.run_buffer.run_in.Goals as goal

-- the places as they are made, all of them unused
abbrev made : List Task
made = replicate places unused

start : (ws : List ℕ) {ts : List Task} → ts ≡ made → ts ≡ places_in 0 (drop head_words ws) ++ drop 0 made
unfolding places_in
start ws e = e

read : (ws : List ℕ) {ts : List Task} {f : ℕ} → f ≡ fence_in ws → ts ≡ padded (count_in ws) (places_in (count_in ws) (drop head_words ws))
    → ◌≡◌ {A = Run} (record { rule = get_or ws 0 0; cores = get_or ws 1 0; fence = f; withdrawn = get_or ws 5 0; count = count_in ws; tasks = ts }) (run_in ws)
unfolding run_in
read ws x e = λ i. record { rule = get_or ws 0 0; cores = get_or ws 1 0; fence = x i; withdrawn = get_or ws 5 0; count = count_in ws; tasks = e i }

pub returns-then-words-lt-WORDS : goal.returns-then-words-lt-WORDS
returns-then-words-lt-WORDS c = run-none c.args.words.now (held-short c.args.words.now c.if-words-lt-WORDS.true)

pub returns-then-count-gt-PLACES : goal.returns-then-count-gt-PLACES
returns-then-count-gt-PLACES c = run-none c.args.words.now (held-many c.args.words.now c.if-words-lt-WORDS.false c.if-count-gt-PLACES.true)

pub loop-i-init : goal.loop-i-init
loop-i-init c = record { read = start c.args.words.now (ap (replicate places) c.unused-tasks.ensures); held = let n = count_in c.args.words.now in let e : n - 0 ≡ n = omega arith in ap (λ (k : ℕ). are_places k (drop head_words c.args.words.now)) (sym e) }

pub returns-in_err-tasks : goal.returns-in_err-tasks
returns-in_err-tasks c =
    let ws = c.args.words.now in
    let i = c.loop-i.i in
    let n = count_in ws in
    let size = place-room ws c.if-words-lt-WORDS.false c.as_chunks.result.0.now c.as_chunks.ensures.front_len n c.if-count-gt-PLACES.false in
    let stop = none-read (is_place (drop (words_to i) ws)) (place_in (drop (words_to i) ws)) (sym (place-chunk ws c.if-words-lt-WORDS.false c.as_chunks.result.0.now c.as_chunks.ensures.front n i c.if-count-gt-PLACES.false (omega (arith, size))) ∙ (sym c.place_in.ensures ∙ c.in_err-tasks.was)) in
    let is : c.from_residual.result ≡ None = search rules in
    is ∙ run-none ws
    (held_by ws c.if-words-lt-WORDS.false c.if-count-gt-PLACES.false
    ∙ (c.loop-i.invariant.held ∙ test-stop (n - i) (n - (i + 1)) (words_to i) ws (omega (arith, size)) stop))

pub loop-i-preserved : goal.loop-i-preserved
loop-i-preserved c =
    let ws = c.args.words.now in
    let i = c.loop-i.i in
    let n = count_in ws in
    let size = place-room ws c.if-words-lt-WORDS.false c.as_chunks.result.0.now c.as_chunks.ensures.front_len n c.if-count-gt-PLACES.false in
    let t = c.in_ok-tasks.field-0 in
    let was = cond_some (is_place (drop (words_to i) ws)) (place_in (drop (words_to i) ws)) t (sym (place-chunk ws c.if-words-lt-WORDS.false c.as_chunks.result.0.now c.as_chunks.ensures.front n i c.if-count-gt-PLACES.false (omega (arith, size))) ∙ (sym c.place_in.ensures ∙ c.in_ok-tasks.was)) in
    let more : places_in (i + 1) (drop head_words ws) ≡ places_in i (drop head_words ws) ++ (t ∷ []) =
    ap (λ (k : ℕ). places_in k (drop head_words ws)) (add-one i)
    ∙ (read_more i (drop head_words ws) ∙ ap (λ (u : Task). places_in i (drop head_words ws) ++ (u ∷ [])) (ap place_in (drop-drop (each_words * i) head_words ws) ∙ was.1)) in
    let next = written-more (places_in i (drop head_words ws)) made i t past_end (length-read i (drop head_words ws)) (omega (arith, size)) in
    let e : words_to i + each_words ≡ words_to (i + 1) = omega arith in
    record {
      read = ap (λ (l : List Task). set l i t) c.loop-i.invariant.read ∙ (next ∙ ap (λ (l : List Task). l ++ drop (i + 1) made) (sym more));
      held = c.loop-i.invariant.held ∙ (test_on (n - i) (n - (i + 1)) (words_to i) ws (omega (arith, size)) was.0 ∙ ap (λ (k : ℕ). are_places (n - (i + 1)) (drop k ws)) e);
    }

pub returns : goal.returns
returns c =
    let ws = c.args.words.now in
    let n = count_in ws in
    let size = place-room ws c.if-words-lt-WORDS.false c.as_chunks.result.0.now c.as_chunks.ensures.front_len n c.if-count-gt-PLACES.false in
    let e : c.loop-i.i ≡ n = omega (arith, size) in
    let left : n - c.loop-i.i ≡ 0 = omega (arith, size) in
    let tasks : c.loop-i.tasks ≡ padded n (places_in n (drop head_words ws)) =
    c.loop-i.invariant.read
    ∙ (ap (λ (k : ℕ). places_in k (drop head_words ws) ++ drop k made) e ∙ ap (λ (l : List Task). places_in n (drop head_words ws) ++ l) (drop-equal places n unused)) in
    ap Some (read ws c.fence_of-fence.ensures tasks)
    ∙ run-some ws
    (held_by ws c.if-words-lt-WORDS.false c.if-count-gt-PLACES.false
    ∙ (c.loop-i.invariant.held ∙ (ap (λ (k : ℕ). are_places k (drop (words_to c.loop-i.i) ws)) left ∙ none_left (drop (words_to c.loop-i.i) ws))))
