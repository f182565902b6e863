-- `table::chain::walk`: where a record is met for the first time there is a place for its task; the header bounds the words and the records.
use Rattle.std.proofs.Common.{◌≡◌, ◌∙◌, ap, ◌+◌, ◌*◌, ◌-◌, ◌≤◌, ◌<◌, ℕ, List, length, arith}
use Rattle.model.specs.Sizes.{most_tasks}
use Rattle.table.specs.Words.{header_words, records}
use Rattle.table.specs.Answer.{header_number}
use Rattle.table.specs.Load.{code_task}
use Rattle.table.proofs.HeaderPasses.{header-passes, words_long, words-few}
use Rattle.table.proofs.Places.{none-is}
use Rattle.table.proofs.Records.{count-in, chunks-in, word-in, task-of-record}
use Rattle.table.proofs.Walking.{walking-none, walking-again, walking-room, walking-step, walked-past, walked-again, walked_whole}
use Rattle.table.proofs.chain.walk.Goals as goal

long : (ws : List ℕ) → header_number ws ≡ 0 → header_words ≤ length ws
long ws fine = words_long ws (header-passes ws fine).words-in

few : (ws : List ℕ) → header_number ws ≡ 0 → records ws ≤ most_tasks
few ws fine = words-few ws (header-passes ws fine).words-in

pub slice_bounds-as_chunks-count : goal.slice_bounds-as_chunks-count
slice_bounds-as_chunks-count c = long c.args.words.now c.requires

pub slice_bounds-as_chunks-start : goal.slice_bounds-as_chunks-start
slice_bounds-as_chunks-start c = omega (arith, long c.args.words.now c.requires)

pub bounds-words-0 : goal.bounds-words-0
bounds-words-0 c = omega (arith, long c.args.words.now c.requires)

pub loop-at-init : goal.loop-at-init
loop-at-init c = rw (none-is _ c.default-tasks.ensures) (walking-none c.args.words.now)

pub returns-then-records-at : goal.returns-then-records-at
returns-then-records-at c =
    let many = count-in c.args.words.now _ c.as_chunks.ensures.front_len in
    walked-past _ _ _ _ _ c.loop-at.invariant (omega (arith, many, c.if-records-at.true))

pub bounds-seen-index : goal.bounds-seen-index
bounds-seen-index c = omega (arith, few c.args.words.now c.requires, count-in c.args.words.now _ c.as_chunks.ensures.front_len)

pub returns-then-seen-index : goal.returns-then-seen-index
returns-then-seen-index c =
    let many = count-in c.args.words.now _ c.as_chunks.ensures.front_len in
    let inside : c.loop-at.at ≤ records c.args.words.now = omega (arith, many, c.if-records-at.false) in
    let again = walking-again _ _ _ _ _ c.loop-at.invariant c.loop-at-test.true inside (few c.args.words.now c.requires) c.if-seen-index.true in
    walked-again _ _ _ _ _ c.loop-at.invariant again inside

pub bounds-seen-index-in-loop-at : goal.bounds-seen-index-in-loop-at
bounds-seen-index-in-loop-at c =
    omega (arith, few c.args.words.now c.requires, c.loop-at.invariant.marks, count-in c.args.words.now _ c.as_chunks.ensures.front_len)

pub offset_bounds-tasks-count : goal.offset_bounds-tasks-count
offset_bounds-tasks-count c =
    let many = count-in c.args.words.now _ c.as_chunks.ensures.front_len in
    let inside : c.loop-at.at ≤ records c.args.words.now = omega (arith, many, c.if-records-at.false) in
    let room = walking-room _ _ _ _ _ c.loop-at.invariant c.loop-at-test.true inside (few c.args.words.now c.requires) c.if-seen-index.false in
    omega (arith, room, few c.args.words.now c.requires)

pub bounds-tasks-count : goal.bounds-tasks-count
bounds-tasks-count c =
    let many = count-in c.args.words.now _ c.as_chunks.ensures.front_len in
    let inside : c.loop-at.at ≤ records c.args.words.now = omega (arith, many, c.if-records-at.false) in
    let room = walking-room _ _ _ _ _ c.loop-at.invariant c.loop-at-test.true inside (few c.args.words.now c.requires) c.if-seen-index.false in
    omega (arith, room, few c.args.words.now c.requires)

pub overflow_cast-at-in-loop-at : goal.overflow_cast-at-in-loop-at
overflow_cast-at-in-loop-at c =
    let ws = c.args.words.now in
    let many = count-in ws _ c.as_chunks.ensures.front_len in
    let are = chunks-in ws _ c.as_chunks.ensures.front in
    let here : c.loop-at.at - 1 < records ws = omega (arith, many, c.if-records-at.false, c.loop-at-test.true) in
    record { fits = omega (arith, word-in ws _ are c.loop-at.at here 0 (omega arith), (c.type_inv.words (5 + (c.loop-at.at - 1) * 7 + 0)).fits) }

pub overflow_add-count : goal.overflow_add-count
overflow_add-count c =
    let many = count-in c.args.words.now _ c.as_chunks.ensures.front_len in
    let inside : c.loop-at.at ≤ records c.args.words.now = omega (arith, many, c.if-records-at.false) in
    let room = walking-room _ _ _ _ _ c.loop-at.invariant c.loop-at-test.true inside (few c.args.words.now c.requires) c.if-seen-index.false in
    omega (arith, room, few c.args.words.now c.requires)

pub loop-at-smaller : goal.loop-at-smaller
loop-at-smaller c =
    let many = count-in c.args.words.now _ c.as_chunks.ensures.front_len in
    let inside : c.loop-at.at ≤ records c.args.words.now = omega (arith, many, c.if-records-at.false) in
    let room = walking-room _ _ _ _ _ c.loop-at.invariant c.loop-at-test.true inside (few c.args.words.now c.requires) c.if-seen-index.false in
    omega (arith, room, many)

pub loop-at-preserved : goal.loop-at-preserved
loop-at-preserved c =
    let ws = c.args.words.now in
    let many = count-in ws _ c.as_chunks.ensures.front_len in
    let are = chunks-in ws _ c.as_chunks.ensures.front in
    let inside : c.loop-at.at ≤ records ws = omega (arith, many, c.if-records-at.false) in
    let here : c.loop-at.at - 1 < records ws = omega (arith, inside, c.loop-at-test.true) in
    walking-step _ _ _ _ _ c.loop-at.invariant c.loop-at-test.true inside (few ws c.requires) c.if-seen-index.false _ _
    (c.from.ensures ∙ ap code_task (task-of-record ws _ are c.loop-at.at here)) (word-in ws _ are c.loop-at.at here 0 (omega arith))

pub returns : goal.returns
returns c = walked_whole _ _ _ _ _ c.loop-at.invariant c.loop-at-test.false
