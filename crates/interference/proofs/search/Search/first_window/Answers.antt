use Rattle.std.proofs.Common.{◌≡◌, ℕ, ◌+◌, ◌-◌, min, arith, refl, sym, ap, ◌∙◌}
use Rattle.table.specs.Fit.{loaded_table}
use Rattle.interference.proofs.Finding.{too_long, trying_start, try-found, try-last, try-next, try-none}
use Rattle.interference.proofs.Sums.{place-limits}
use Rattle.interference.proofs.search.Search.first_window.Goals as goal

-- the next to try, as code finds it
same_next : (window : ℕ) {D E C B : ℕ} → D ≡ E → C ≡ B → min D (window + (window + 1 - C)) ≡ min E (window + (window + 1 - B))
same_next window d c = rw (d, c) refl

pub returns-then-deadline-length : goal.returns-then-deadline-length
returns-then-deadline-length c =
    let a = c.args.self.now in
    let lim = place-limits a.table c.args.self.now.sought.fit a.place c.args.self.now.sought.inside in
    ap (λ (x : ℕ). x + 1) (sym lim.1) ∙ too_long (loaded_table a.table) a.ends a.place (omega (arith, lim.0, lim.1))

pub loop-init : goal.loop-init
loop-init c =
    let a = c.args.self.now in
    let lim = place-limits a.table c.args.self.now.sought.fit a.place c.args.self.now.sought.inside in
    rw lim.0 at (trying_start (loaded_table a.table) a.ends a.place (omega (arith, lim.0, lim.1)))

pub passes-requires : goal.passes-requires
passes-requires c = (c.loop.invariant.long, c.loop.invariant.short)

pub returns-then-passes : goal.returns-then-passes
returns-then-passes c =
    let l = c.loop in
    try-found (loaded_table c.args.self.now.table) c.args.self.now.ends c.args.self.now.place l.counter l.window l.invariant (omega arith) (sym c.passes.ensures ∙ c.if-passes.true)

pub overflow_add-result-then-deadline-window : goal.overflow_add-result-then-deadline-window
overflow_add-result-then-deadline-window c = let lim = place-limits c.args.self.now.table c.args.self.now.sought.fit c.args.self.now.place c.args.self.now.sought.inside in omega (arith, lim.2)

pub returns-then-deadline-window : goal.returns-then-deadline-window
returns-then-deadline-window c =
    let a = c.args.self.now in
    let l = c.loop in
    let lim = place-limits a.table c.args.self.now.sought.fit a.place c.args.self.now.sought.inside in
    ap (λ (x : ℕ). x + 1) (sym lim.1)
    ∙ try-last (loaded_table a.table) a.ends a.place l.counter l.window l.invariant (omega arith) (sym c.passes.ensures ∙ c.if-passes.false)
    (omega (arith, lim.1))

pub overflow_sub-window : goal.overflow_sub-window
overflow_sub-window c =
    let lim = place-limits c.args.self.now.table c.args.self.now.sought.fit c.args.self.now.place c.args.self.now.sought.inside in
    omega (arith, lim.0, c.loop.invariant.long)

pub overflow_add-window-in-loop : goal.overflow_add-window-in-loop
overflow_add-window-in-loop c =
    let lim = place-limits c.args.self.now.table c.args.self.now.sought.fit c.args.self.now.place c.args.self.now.sought.inside in
    omega (arith, lim.1, lim.2, c.loop.invariant.short)

pub loop-preserved : goal.loop-preserved
loop-preserved c =
    let a = c.args.self.now in
    let l = c.loop in
    let lim = place-limits a.table c.args.self.now.sought.fit a.place c.args.self.now.sought.inside in
    try-next (loaded_table a.table) a.ends a.place l.counter l.window c.min-window.result l.invariant (omega arith)
    (sym c.passes.ensures ∙ c.if-passes.false) (omega (arith, lim.1))
    (c.min-window.ensures ∙ same_next l.window (sym lim.1) (sym lim.0))

pub overflow_add-result-2 : goal.overflow_add-result-2
overflow_add-result-2 c = let lim = place-limits c.args.self.now.table c.args.self.now.sought.fit c.args.self.now.place c.args.self.now.sought.inside in omega (arith, lim.2)

pub returns : goal.returns
returns c =
    let a = c.args.self.now in
    let l = c.loop in
    let lim = place-limits a.table c.args.self.now.sought.fit a.place c.args.self.now.sought.inside in
    ap (λ (x : ℕ). x + 1) (sym lim.1) ∙ try-none (loaded_table a.table) a.ends a.place l.counter l.window l.invariant (omega arith)
