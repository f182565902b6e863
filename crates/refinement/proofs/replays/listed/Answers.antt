use Rattle.std.proofs.Common.{◌≡◌, ◌+◌, ◌*◌, ◌/◌, ◌%◌, ◌<◌, ◌≤◌, Bool, true, false, List, ℕ, length, get_or, Option, Some, None, Bor, ap, ap₂, sym, ◌∙◌, arith, rules}
use Rattle.std.specs.Bool.{MatchBool}
use Rattle.std.specs.List.{IsSubsliceAt}
use Rattle.std.specs.Option.{IfSome, IsSomeAnd, option_map}
use Rattle.refinement.specs.Listing.{is_entry, listed, entry_count, entry_kind_at, entry_second_at}
use Rattle.refinement.proofs.Listed.{not-listed-over, not-listed-at, listed-decides, is-entry-decides}
use Rattle.refinement.proofs.replays.listed.Goals as goal

-- words with none over are a list of entries where each three are an entry's, and are none where some three are not
decided :
    (es : List ℕ) (b : Bool) (P N : Type 0) → MatchBool b P N → length es % 3 ≡ 0
    → (P → (k : ℕ) → k < entry_count es → is_entry (entry_kind_at es k) (entry_second_at es k) ≡ true)
    → (N → (k : ℕ) × (k < entry_count es) × (is_entry (entry_kind_at es k) (entry_second_at es k) ≡ false))
    → b ≡ listed es
decided es true P N m over all some = sym ((listed-decides es).1 (over, λ k l. (is-entry-decides (entry_kind_at es k) (entry_second_at es k)).0 (all m k l)))
decided es false P N m over all some = let f = some m in sym (not-listed-at es f.0 f.1 f.2)

-- an item that was read is there
there : (C : Bor (List ℕ) → Type 0) (o : Option (Bor (List ℕ))) (y : Bor (List ℕ)) → option_map (λ y. y) o ≡ Some y → IfSome o C → IsSomeAnd o C
there C (Some x) y e h = h
there C None y e h = cc

-- chunk k of three words has those of entry k
entry_there :
    (es : List ℕ) (k : ℕ) (t : Bool) (C : Bor (List ℕ) → Type 0) (o : Option (Bor (List ℕ)))
    → IfSome o (λ x. (length x.now ≡ 3) × (k * 3 + 3 ≤ length es) × IsSubsliceAt 3 es (k * 3) x.now)
    → IsSomeAnd o C
    → ((x : Bor (List ℕ)) → C x → t ≡ is_entry (get_or x.now 0 0) (get_or x.now 2 0))
    → is_entry (entry_kind_at es k) (entry_second_at es k) ≡ t
entry_there es k t C None w h called = absurd h
entry_there es k t C (Some x) w h called =
    let first : k * 3 + 0 ≡ 3 * k = omega arith in
    let third : k * 3 + 2 ≡ 3 * k + 2 = omega arith in
    let kind : get_or x.now 0 0 ≡ get_or es (3 * k) 0 = w.2.2 0 0 (omega arith) ∙ ap (λ (i : ℕ). get_or es i 0) first in
    let last : get_or x.now 2 0 ≡ get_or es (3 * k + 2) 0 = w.2.2 2 0 (omega arith) ∙ ap (λ (i : ℕ). get_or es i 0) third in
    sym (called x h ∙ ap₂ is_entry kind last)

pub returns-then-entries-eq0 : goal.returns-then-entries-eq0
returns-then-entries-eq0 c =
    let es = c.args.entries.now in
    let p = c.all.ensures.runs.0 in
    let from = c.all.ensures.runs.1 in
    let chunks = rw (from, c.chunks_exact.ensures.size, c.chunks_exact.ensures.rest) at (c.chunks_exact.ensures.runs p p.seen) in
    let chunk = chunks (omega arith) in
    decided es c.all.result _ _ c.all.ensures.runs.2 c.if-entries-eq0.true
    (λ m k l.
    let len : p.len ≡ length es / 3 = chunk.1 m.0 in
    entry_there es k true _ (p.at k) (chunk.2 k)
    (there _ (p.at k) _ (p.reads k c.args.entries (omega arith)) (m.1 (λ a r f h. search rules) k)) (λ x h. search rules))
    (λ n.
    let f = n (λ a r f h. search rules) in
    let inside : p.len * 3 ≤ length es = chunk.0 in
    (f.0, omega (arith, f.1), entry_there es f.0 false _ (p.at f.0) (chunk.2 f.0) f.2 (λ x h. search rules)))

pub returns-else-entries-eq0 : goal.returns-else-entries-eq0
returns-else-entries-eq0 c =
    let over = not-listed-over c.args.entries.now c.if-entries-eq0.false in
    rw over (search rules)
