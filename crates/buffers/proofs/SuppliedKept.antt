-- The calls on a buffer are the calls on the plan that it holds: what begin and a row write is decoded to the plan that they return; and to
-- encode again what a buffer holds changes none of its words.
use mathlib.Core.Path.{◌≡◌, refl, sym, ap, subst, ◌∙◌}
use mathlib.Core.Bool.{Bool, true, false, cond}
use mathlib.Core.List.{List, [], ◌∷◌, ◌++◌, map, append_assoc}
use mathlib.Core.Logic.{inl}
use Prim.Native.Nat.{ℕ, ◌+◌, ◌*◌, ◌-◌, ◌≤◌, ◌<◌}
use native.Mathlib.Omega.{arith}
use lib.ListN.{length, get_or, take, drop, length-append, length-drop, length-map}
use lib.Seq.{drop_at, drop-cons, drop-drop, get_or_at, get_or-take, length-take-le, take_all, take_at}
use lib.Dec.{eqb}
use Rattle.model.specs.Sizes.{most_word}
use Rattle.run.specs.declared.Run.{Run}
use Rattle.run.specs.Start.{started_run}
use Rattle.run.proofs.Places.{length-map_first, drop-map_first}
use Rattle.table.specs.Answer as table
use Rattle.table.specs.Answer.{Passed}
use Rattle.table.specs.Answer.{answer_of}
use Rattle.table.specs.Load.{load_meaning}
use Rattle.table.specs.Words.{rule, table_of}
use Rattle.plan_check.specs.RowAnswer.{Answer}
use Rattle.plan_check.specs.RowAnswer.{Taken, Accepted, Refused}
use Rattle.plan_check.specs.Begin.{Begun}
use Rattle.plan_check.specs.declared.Note.{Note}
use Rattle.plan_check.specs.declared.SuppliedPlan.{SuppliedPlan}
use Rattle.plan_check.specs.Begin.{begin_of, first_state}
use Rattle.plan_check.specs.Numbers.{after_row}
use Rattle.plan_check.specs.Row.{worked_row, worked_at}
use Rattle.plan_check.specs.RowAnswer.{state_by_answer}
use Rattle.plan_check.specs.State.{blank, note_of, noting, start_in}
use Rattle.plan_check.specs.CheckRow.{check_row_answer, check_row_of}
use Rattle.plan_check.proofs.Starting.{begin-passed, begin-refused, begin-of}
use Rattle.buffers.specs.Encoding.{places, words_to, run_words, encode_to, encode, overwritten, count_in, run, decode, cleared}
use Rattle.buffers.specs.Supplied.{tick_at, notes_at, note_size, plan_words, notes_words, encode_plan, put_at, moved_in, plan_over, notes_in, are_notes, holds_plan, plan_in, BufferPlan, plan, none, decode_plan, cleared_plan}
use Rattle.buffers.specs.CheckRow.{begun_in, by_taken, check_row_from}
use Rattle.buffers.proofs.Places.{by-held, held-few}
use Rattle.buffers.proofs.Inverse.{length_to, decode-encode, few-accepted, encode-decode, held-run}
use Rattle.buffers.proofs.Kept.{StoredRun, clear-fits, fits-started, held_fits, fits-written}
use Rattle.buffers.proofs.UnusedPlaces.{same-held}
use Rattle.buffers.proofs.Noting.{length-put, take_put, drop-put, from-put, put_next, put_same, word_read, length-notes, length-noted, take-noted, notes-back, notes-over, notes-encode}
use Rattle.buffers.proofs.Supplying.{plan-by-run, by-held-plan, plan-long, plan_run}

-- A PLAN FROM ITS PARTS

-- a long buffer that holds a run holds the plan of that run, its tick and its notes
held-by-parts :
    (ws : List ℕ) (r : Run) {t : ℕ} {ns : List Note} → plan_words ≤ length ws → decode ws ≡ run r → get_or ws tick_at 0 ≡ t
    → notes_in places (drop notes_at ws) ≡ ns → decode_plan ws ≡ plan (record { run = r; tick = t; noted = ns })
unfolding plan_in
held-by-parts ws r long e f g =
    let h = held-run ws r e in
    by-held-plan ws (plan-by-run ws long ∙ h.0) ∙ (λ i. plan (record { run = h.1 i; tick = f i; noted = g i }))

-- a buffer that is decoded to a plan holds it
pub held-plan : (ws : List ℕ) (w : SuppliedPlan) → decode_plan ws ≡ plan w → (holds_plan ws ≡ true) × (plan_in ws ≡ w)
held-plan ws w e = go (holds_plan ws) refl
  where
    go : (t : Bool) → holds_plan ws ≡ t → (holds_plan ws ≡ true) × (plan_in ws ≡ w)
    go true h =
        let same : plan (plan_in ws) ≡ plan w = sym (by-held-plan ws h) ∙ e in
        (h, cc)
    go false h =
        let same : none ≡ plan w = sym (by-held-plan ws h) ∙ e in
        absurd (let z : ◌≡◌ {A = ℕ} 0 1 = cc in omega arith)

-- its run is held by the same buffer
run-held : (ws : List ℕ) (w : SuppliedPlan) → decode_plan ws ≡ plan w → decode ws ≡ run w.run
unfolding plan_in
run-held ws w e =
    let h = held-plan ws w e in
    by-held ws (plan_run ws h.0) ∙ ap (λ (v : SuppliedPlan). run v.run) h.1

-- WORDS PUT AFTER A RUN

-- words put past the words of a run leave it as it is
put-held : (n : ℕ) (vs ws : List ℕ) (r : Run) → run_words ≤ n → n + length vs ≤ length ws → decode ws ≡ run r → decode (put_at n vs ws) ≡ run r
put-held n vs ws r far h e =
    let few = held-few ws (held-run ws r e).0 in
    let l = length-put n vs ws h in
    sym
    (same-held ws (put_at n vs ws)
    (record {
      long = omega arith;
      other-long = omega (arith, l);
      used = sym (take_put n vs ws (words_to (count_in ws)) (omega (arith, few, far)) (omega arith));
    }))
    ∙ e

-- what is past the words written of a run
behind-run : (n k : ℕ) (r : Run) (ws : List ℕ) → length r.tasks ≡ places → n ≤ places → words_to n ≤ k → drop k (overwritten n r ws) ≡ drop k ws
behind-run n k r ws all few far =
    let j : words_to n + (k - words_to n) ≡ k = omega arith in
    let l = length_to n r (omega arith) in
    ap (λ (m : ℕ). drop m (overwritten n r ws)) (sym j)
    ∙ (sym (drop-drop (k - words_to n) (words_to n) (overwritten n r ws))
    ∙ (ap (drop (k - words_to n)) (drop_at (encode_to n r) (drop (words_to n) ws) (words_to n) l)
    ∙ (drop-drop (k - words_to n) (words_to n) ws ∙ ap (λ (m : ℕ). drop m ws) j)))

-- A PLAN WRITTEN UP TO ITS COUNT

-- the notes that a buffer holds
abbrev notes_of : List ℕ → List Note
notes_of ws = notes_in places (drop notes_at ws)

module _ (w : SuppliedPlan) (ws : List ℕ) (f : StoredRun w.run) (long : plan_words ≤ length ws) where
  abbrev n : ℕ
  n = w.run.count

  abbrev over : List ℕ
  over = overwritten n w.run ws

  length_over : length over ≡ length ws
  length_over =
      let all = f.all in
      let few = f.few in
      let a = length-append (encode_to n w.run) (drop (words_to n) ws) in
      let b = length_to n w.run (omega arith) in
      let c = length-drop (words_to n) ws in
      omega arith

  tick-in : tick_at < length over
  tick-in = omega (arith, length_over, long)

  length_moved : length (moved_in n w ws) ≡ length ws
  length_moved = length-put tick_at (w.tick ∷ []) over (omega (arith, length_over, long)) ∙ length_over

  moved-run : decode (moved_in n w ws) ≡ run w.run
  moved-run =
      put-held tick_at (w.tick ∷ []) over w.run (omega arith) (omega (arith, length_over, long)) (fits-written w.run ws f (omega (arith, long)))

  moved-tick : get_or (moved_in n w ws) tick_at 0 ≡ w.tick
  moved-tick = word_read over tick_at w.tick tick-in

  moved-rest : drop notes_at (moved_in n w ws) ≡ drop notes_at ws
  moved-rest =
      let all = f.all in
      let few = f.few in
      drop-put tick_at (w.tick ∷ []) over (omega (arith, length_over, long)) ∙ behind-run n notes_at w.run ws all few (omega (arith, few))

  -- the notes are as they were, and so are their words
  pub plain-held : w.noted ≡ notes_of ws → decode_plan (plan_over false n w ws) ≡ plan w
  unfolding plan_over
  plain-held e =
      held-by-parts (moved_in n w ws) w.run (omega (arith, length_moved, long)) moved-run moved-tick (ap (notes_in places) moved-rest ∙ sym e)

  -- those below the count are written, and those past it are as they were
  module _ (many : n ≤ length w.noted) where
    abbrev put : List ℕ
    put = notes_words (take n w.noted)

    length-noted-words : length put ≡ note_size * n
    length-noted-words = length-notes (take n w.noted) ∙ ap (λ (k : ℕ). note_size * k) (length-take-le n w.noted many)

    inside : notes_at + length put ≤ length (moved_in n w ws)
    inside = let few = f.few in omega (arith, length-noted-words, length_moved, long, few)

    noted-rest : drop notes_at (put_at notes_at put (moved_in n w ws)) ≡ put ++ drop (note_size * n) (drop notes_at ws)
    noted-rest =
        from-put notes_at put (moved_in n w ws) (omega (arith, inside))
        ∙ ap (λ (l : List ℕ). put ++ l)
        (sym (drop-drop (length put) notes_at (moved_in n w ws)) ∙ (λ i. drop (length-noted-words i) (moved-rest i)))

    read_again : notes_in places (put ++ drop (note_size * n) (drop notes_at ws)) ≡ take n w.noted ++ drop n (notes_of ws)
    read_again =
        let l = length-take-le n w.noted many in
        let few = f.few in
        ap (λ (k : ℕ). notes_in places (put ++ drop (note_size * k) (drop notes_at ws))) (sym l)
        ∙ (notes-over places (take n w.noted) (drop notes_at ws) (omega (arith, l, few))
        ∙ ap (λ (k : ℕ). take n w.noted ++ drop k (notes_of ws)) l)

    pub noted-held : w.noted ≡ take n w.noted ++ drop n (notes_of ws) → decode_plan (plan_over true n w ws) ≡ plan w
    unfolding plan_over
    noted-held e =
        let vs = moved_in n w ws in
        let l = length-put notes_at put vs inside in
        let tick : get_or (put_at notes_at put vs) tick_at 0 ≡ w.tick =
        sym (get_or-take notes_at (put_at notes_at put vs) tick_at 0 (omega arith))
        ∙ (ap (λ (l : List ℕ). get_or l tick_at 0) (take_put notes_at put vs notes_at (omega arith) (omega (arith, inside)))
        ∙ (get_or-take notes_at vs tick_at 0 (omega arith) ∙ moved-tick)) in
        held-by-parts (put_at notes_at put vs) w.run (omega (arith, l, length_moved, long))
        (put-held notes_at put vs w.run (omega arith) inside moved-run)
        tick
        (ap (notes_in places) noted-rest ∙ (read_again ∙ sym e))

-- A ROW

fits-worked : (r : Run) (row : List ℕ) → StoredRun r → StoredRun (worked_row r row)
unfolding worked_row
fits-worked r row f = record {
  all = length-map_first (worked_at r row) r.count r.tasks ∙ f.all;
  few = f.few;
  past = drop-map_first (worked_at r row) r.count r.tasks ∙ f.past;
}

-- the notes of a run that fits, below its count
noted-front : (r : Run) (ns : List Note) → StoredRun r → take r.count (noting r ns) ≡ map note_of (take r.count r.tasks)
noted-front r ns f =
    let all = f.all in
    let few = f.few in
    take_at (map note_of (take r.count r.tasks)) (drop r.count ns) r.count
    (length-map (take r.count r.tasks) note_of ∙ length-take-le r.count r.tasks (omega arith))

length-noting : (r : Run) (ns : List Note) → StoredRun r → length ns ≡ places → length (noting r ns) ≡ places
length-noting r ns f e =
    let all = f.all in
    let few = f.few in
    let a = length-append (map note_of (take r.count r.tasks)) (drop r.count ns) in
    let b = length-map (take r.count r.tasks) note_of in
    let c = length-take-le r.count r.tasks (omega arith) in
    let d = length-drop r.count ns in
    omega arith

module _ (ws : List ℕ) (w : SuppliedPlan) (row : List ℕ) (e : decode_plan ws ≡ plan w) where
  long : plan_words ≤ length ws
  long = plan-long ws (held-plan ws w e).0

  fits : StoredRun (worked_row w.run row)
  fits = fits-worked w.run row (held_fits ws w.run (run-held ws w e)).0

  notes : w.noted ≡ notes_of ws
  unfolding plan_in
  notes = sym (ap (λ (v : SuppliedPlan). v.noted) (held-plan ws w e).1)

  -- the plan one tick on, which is or is not at the last S
  abbrev arriving : Bool → SuppliedPlan
  arriving t = record {
    run = worked_row w.run row;
    tick = (after_row w row).tick;
    noted = cond t (noting (worked_row w.run row) w.noted) w.noted;
  }

  arriving-held : (t : Bool) → decode_plan (plan_over t (worked_row w.run row).count (arriving t) ws) ≡ plan (arriving t)
  arriving-held true =
      let r = worked_row w.run row in
      let same = length-noting r w.noted fits (ap length notes ∙ length-noted places (drop notes_at ws)) in
      let few = fits.few in
      noted-held (arriving true) ws fits long (omega (arith, same, few))
      (ap (λ (l : List Note). l ++ drop r.count w.noted) (sym (noted-front r w.noted fits))
      ∙ ap (λ (ns : List Note). take r.count (noting r w.noted) ++ drop r.count ns) notes)
  arriving-held false = plain-held (arriving false) ws fits long notes

  after-held : decode_plan (plan_over (eqb (after_row w row).tick (start_in (after_row w row).run)) (after_row w row).run.count (after_row w row) ws) ≡ plan (after_row w row)
  after-held = arriving-held (eqb (after_row w row).tick (start_in (worked_row w.run row)))

-- the answer to a row on the buffer is that of the plan that it holds, and the buffer afterwards holds the plan that the row returns
pub take-held :
    (ws : List ℕ) (w : SuppliedPlan) (row : List ℕ) → decode_plan ws ≡ plan w
    → ((check_row_from (decode_plan ws) row ws).answer ≡ (check_row_of w row).answer) × (decode_plan (check_row_from (decode_plan ws) row ws).buffer ≡ plan (check_row_of w row).plan)
unfolding check_row_of
take-held ws w row e = (
  ap (λ (h : BufferPlan). (check_row_from h row ws).answer) e,
  ap (λ (h : BufferPlan). decode_plan (check_row_from h row ws).buffer) e ∙ go (check_row_answer w row),
)
  where
    next : Answer → SuppliedPlan
    next a = state_by_answer a (after_row w row) w

    go : (a : Answer) → decode_plan (by_taken a (plan_over (eqb (next a).tick (start_in (next a).run)) (next a).run.count (next a) ws) ws) ≡ plan (next a)
    go Taken = after-held ws w row e
    go Accepted = after-held ws w row e
    go (Refused n t) = e

-- A WHOLE PLAN

module _ (w : SuppliedPlan) (all : length w.run.tasks ≡ places) (many : length w.noted ≡ places) where
  words-run : length (encode w.run) ≡ run_words
  words-run = length_to places w.run (omega arith)

  words-noted : length (notes_words w.noted) ≡ note_size * places
  words-noted = length-notes w.noted ∙ ap (λ (k : ℕ). note_size * k) many

  pub length-plan : length (encode_plan w) ≡ plan_words
  unfolding encode_plan
  length-plan = omega (arith, length-append (encode w.run) (w.tick ∷ notes_words w.noted), words-run, words-noted)

  -- what is encoded is decoded, with the places of its run past the count cleared
  pub decode-encode-plan : w.run.count ≤ places → (behind : List ℕ) → decode_plan (encode_plan w ++ behind) ≡ plan (cleared_plan w)
  unfolding encode_plan
  decode-encode-plan few behind =
      let xs = encode w.run in
      let ns = notes_words w.noted in
      let l = length-append (encode_plan w) behind in
      let long = length-plan in
      let whole : encode_plan w ++ behind ≡ xs ++ (w.tick ∷ (ns ++ behind)) = append_assoc xs (w.tick ∷ ns) behind in
      held-by-parts (encode_plan w ++ behind) (cleared w.run) (omega (arith, l, long))
      (ap decode whole ∙ decode-encode w.run all few (w.tick ∷ (ns ++ behind)))
      (ap (λ (l : List ℕ). get_or l tick_at 0) whole ∙ get_or_at xs w.tick (ns ++ behind) 0 tick_at words-run)
      (ap (λ (l : List ℕ). notes_in places (drop notes_at l)) whole
      ∙ (ap (notes_in places)
      (sym (drop-drop 1 tick_at (xs ++ (w.tick ∷ (ns ++ behind)))) ∙ ap (drop 1) (drop_at xs (w.tick ∷ (ns ++ behind)) tick_at words-run))
      ∙ (notes-back places w.noted behind (omega (arith, many)) ∙ take_all places w.noted (omega (arith, many)))))

  -- written with all its places and notes, whatever was there
  pub over-whole : (ws : List ℕ) → plan_words ≤ length ws → plan_over true places w ws ≡ encode_plan w ++ drop plan_words ws
  unfolding plan_over encode_plan
  over-whole ws long =
      let xs = encode w.run in
      let one = w.tick ∷ [] in
      let ns = notes_words w.noted in
      let front = length-append xs one in
      let first : overwritten places w.run ws ≡ put_at 0 xs ws =
      (let k : run_words ≡ 0 + length xs = omega (arith, words-run) in ap (λ (m : ℕ). xs ++ drop m ws) k) in
      let second : moved_in places w ws ≡ put_at 0 (xs ++ one) ws =
      ap (put_at tick_at one) first ∙ put_next 0 xs ws one tick_at (omega (arith, words-run)) (omega (arith, words-run, long)) in
      let third : put_at notes_at ns (moved_in places w ws) ≡ put_at 0 ((xs ++ one) ++ ns) ws =
      ap (put_at notes_at ns) second ∙ put_next 0 (xs ++ one) ws ns notes_at (omega (arith, words-run, front)) (omega (arith, words-run, front, long)) in
      let last : 0 + length (encode_plan w) ≡ plan_words = omega (arith, length-plan) in
      ap (λ (l : List Note). put_at notes_at (notes_words l) (moved_in places w ws)) (take_all places w.noted (omega (arith, many)))
      ∙ (third
      ∙ (ap (λ (l : List ℕ). put_at 0 l ws) (append_assoc xs one ns) ∙ ap (λ (m : ℕ). encode_plan w ++ drop m ws) last))

-- BEGIN

-- the plan that begin returns, begun or refused, is one that a buffer can hold
pub record FitsPlan (w : SuppliedPlan) : Type 0 where
  pub fits : StoredRun w.run
  pub many : length w.noted ≡ places

fits-first : (ws : List ℕ) → (started_run (rule ws) (table_of ws)).count ≤ places → FitsPlan (first_state ws)
fits-first ws few =
    let r = started_run (rule ws) (table_of ws) in
    let f = fits-started (rule ws) (table_of ws) few in
    record { fits = f; many = go (eqb 0 (start_in r)) }
  where
    go : (t : Bool) → length (cond t (noting (started_run (rule ws) (table_of ws)) blank) blank) ≡ places
    go true = length-noting (started_run (rule ws) (table_of ws)) blank (fits-started (rule ws) (table_of ws) few) refl
    go false = refl

pub fits-begun : (ws : List ℕ) → FitsPlan (begin_of ws).plan
fits-begun ws = go (answer_of ws) refl
  where
    go : (a : table.Answer) → answer_of ws ≡ a → FitsPlan (begin_of ws).plan
    go Passed e =
        let v = begin-passed ws e in
        let fine = (begin-of ws (begin_of ws) refl).passes (ap (λ (b : Begun). load_meaning b.answer) v) in
        let few = few-accepted (begin_of ws).plan.run (λ out. fine (inl out)) in
        subst (λ (b : Begun). FitsPlan b.plan) (sym v) (fits-first ws (subst (λ (b : Begun). b.plan.run.count ≤ places) v few))
    go (table.Refused n p) e =
        subst (λ (b : Begun). FitsPlan b.plan) (sym (begin-refused ws n p e)) (record { fits = record { all = refl; few = omega arith; past = refl }; many = refl })

-- begin writes all words of the plan that it returns, whatever was there (cited by none: it states what `begun_in` promises)
pub begin-whole : (ws buffer : List ℕ) → plan_words ≤ length buffer → take plan_words (begun_in ws buffer) ≡ encode_plan (begin_of ws).plan
begin-whole ws buffer long =
    let w = (begin_of ws).plan in
    let f = fits-begun ws in
    ap (take plan_words) (over-whole w f.fits.all f.many buffer long)
    ∙ take_at (encode_plan w) (drop plan_words buffer) plan_words (length-plan w f.fits.all f.many)

-- and what it writes is decoded to that plan
pub begin-held : (ws buffer : List ℕ) → plan_words ≤ length buffer → decode_plan (begun_in ws buffer) ≡ plan (begin_of ws).plan
begin-held ws buffer long =
    let w = (begin_of ws).plan in
    let f = fits-begun ws in
    ap decode_plan (over-whole w f.fits.all f.many buffer long)
    ∙ (decode-encode-plan w f.fits.all f.many f.fits.few (drop plan_words buffer)
    ∙ ap (λ (r : Run). plan (record { run = r; tick = w.tick; noted = w.noted })) (clear-fits w.run f.fits))

-- WHAT IS DECODED IS ENCODED

module _ (ws : List ℕ) (narrow : get_or ws 3 0 ≤ most_word) (w : SuppliedPlan) (e : decode_plan ws ≡ plan w) where
  moved_same : moved_in w.run.count w ws ≡ ws
  unfolding plan_in
  moved_same =
      let h = held-plan ws w e in
      let long = plan-long ws h.0 in
      ap (put_at tick_at (w.tick ∷ [])) (encode-decode ws narrow w.run (run-held ws w e))
      ∙ (ap (λ (v : SuppliedPlan). put_at tick_at (v.tick ∷ []) ws) (sym h.1)
      ∙ put_same ws (get_or ws tick_at 0 ∷ []) tick_at (sym (drop-cons ws tick_at 0 (omega (arith, long)))) (omega (arith, long)))

  -- to encode the run and the tick again changes no word, where the fence's low number is a word, as it is in every lent buffer ..
  pub encode-decode-moved : plan_over false w.run.count w ws ≡ ws
  unfolding plan_over
  encode-decode-moved = moved_same

  -- .. nor do the notes below the count, where they are phases
  pub encode-decode-plan : are_notes w.run.count (drop notes_at ws) ≡ true → plan_over true w.run.count w ws ≡ ws
  unfolding plan_over
  encode-decode-plan are =
      let h = held-plan ws w e in
      let long = plan-long ws h.0 in
      let n = w.run.count in
      let few = (held_fits ws w.run (run-held ws w e)).0.few in
      let d = length-drop notes_at ws in
      let read : take n w.noted ≡ notes_in n (drop notes_at ws) =
      ap (take n) (notes ws w [] e) ∙ take-noted n places (drop notes_at ws) few in
      let len : length (notes_words (notes_in n (drop notes_at ws))) ≡ note_size * n =
      length-notes (notes_in n (drop notes_at ws)) ∙ ap (λ (k : ℕ). note_size * k) (length-noted n (drop notes_at ws)) in
      let back : notes_words (notes_in n (drop notes_at ws)) ++ drop (notes_at + length (notes_words (notes_in n (drop notes_at ws)))) ws ≡ drop notes_at ws =
      ap (λ (l : List ℕ). notes_words (notes_in n (drop notes_at ws)) ++ l)
      (ap (λ (k : ℕ). drop (notes_at + k) ws) len ∙ sym (drop-drop (note_size * n) notes_at ws))
      ∙ notes-encode n (drop notes_at ws) (omega (arith, long, few, d)) are in
      (λ i. put_at notes_at (notes_words (read i)) (moved_same i))
      ∙ put_same ws (notes_words (notes_in n (drop notes_at ws))) notes_at back (omega (arith, long))
