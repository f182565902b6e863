-- `buffers::plan_buffer::notes_in`: none is read; one note more; all of them.
use Rattle.std.proofs.Common.{◌≡◌, ◌++◌, ◌+◌, ◌*◌, ℕ, List, [], ◌∷◌, drop, replicate, append-nil, refl, sym, ap, ◌∙◌, add-one, arith}
use Rattle.std.proofs.Math.ListN.{set}
use Rattle.std.proofs.Math.Seq.{drop-drop}
use Rattle.phase.specs.declared.Phase.TheVariants.{Resting}
use Rattle.run.proofs.Written.{written-more}
use Rattle.plan_check.specs.declared.Note.{Note}
use Rattle.plan_check.specs.State.{note, past_note}
use Rattle.buffers.specs.Encoding.{places}
use Rattle.buffers.specs.Supplied.{notes_at, note_size, note_in, notes_in}
use Rattle.buffers.proofs.Noting.{read-note, length-noted}
use Rattle.buffers.proofs.Reading.{note-chunk, note-room}
use Rattle.buffers.proofs.plan_buffer.notes_in.Goals as goal

-- the notes as they are made
abbrev made : List Note
made = replicate places (note (Resting 0))

start : (ws : List ℕ) → made ≡ notes_in 0 (drop notes_at ws) ++ drop 0 made
unfolding notes_in
start ws = refl

pub loop-i-init : goal.loop-i-init
loop-i-init c = start c.args.words.now

pub slice_bounds-note-items-end : goal.slice_bounds-note-items-end
slice_bounds-note-items-end c =
    let size = note-room c.args.words.now c.requires c.as_chunks.result.0.now c.as_chunks.ensures.front_len places (omega arith) in
    omega (arith, size)

pub offset_bounds-note-items-i : goal.offset_bounds-note-items-i
offset_bounds-note-items-i c =
    let size = note-room c.args.words.now c.requires c.as_chunks.result.0.now c.as_chunks.ensures.front_len places (omega arith) in
    omega (arith, size)

pub offset_bounds-noted-i : goal.offset_bounds-noted-i
offset_bounds-noted-i c =
    let size = note-room c.args.words.now c.requires c.as_chunks.result.0.now c.as_chunks.ensures.front_len places (omega arith) in
    omega (arith, size)

pub bounds-noted-i : goal.bounds-noted-i
bounds-noted-i c =
    let size = note-room c.args.words.now c.requires c.as_chunks.result.0.now c.as_chunks.ensures.front_len places (omega arith) in
    omega (arith, size)

pub loop-i-preserved : goal.loop-i-preserved
loop-i-preserved c =
    let p = c.note_in in
    let ws = c.args.words.now in
    let i = c.loop-i.i in
    let size = note-room ws c.requires c.as_chunks.result.0.now c.as_chunks.ensures.front_len places (omega arith) in
    let more : notes_in (i + 1) (drop notes_at ws) ≡ notes_in i (drop notes_at ws) ++ (p.result ∷ []) =
    ap (λ (k : ℕ). notes_in k (drop notes_at ws)) (add-one i)
    ∙ (read-note i (drop notes_at ws) ∙ ap (λ (t : Note). notes_in i (drop notes_at ws) ++ (t ∷ [])) (ap note_in (drop-drop (note_size * i) notes_at ws) ∙ (sym (note-chunk ws c.requires c.as_chunks.result.0.now c.as_chunks.ensures.front places i (omega arith) (omega (arith, size))) ∙ sym p.ensures))) in
    let next = written-more (notes_in i (drop notes_at ws)) made i p.result past_note (length-noted i (drop notes_at ws)) (omega (arith, size)) in
    ap (λ (l : List Note). set l i p.result) c.loop-i.invariant ∙ (next ∙ ap (λ (l : List Note). l ++ drop (i + 1) made) (sym more))

pub returns : goal.returns
returns c =
    let ws = c.args.words.now in
    let size = note-room ws c.requires c.as_chunks.result.0.now c.as_chunks.ensures.front_len places (omega arith) in
    let e : c.loop-i.i ≡ places = omega (arith, size) in
    c.loop-i.invariant ∙ (ap (λ (k : ℕ). notes_in k (drop notes_at ws) ++ drop k made) e ∙ append-nil (notes_in places (drop notes_at ws)))
