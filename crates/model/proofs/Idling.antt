-- Idling and lending: at full length both give the rows of greedy; whatever is reported, empty or withdrawn, idling gives the rows of its full-length
-- run, and lending reserves the cores that its full-length run gives.
use mathlib.Core.Bool.{Bool, cond, false, false≢true, true, true≢false}
use mathlib.Core.List.{List, [], ◌∷◌}
use mathlib.Core.Path.{ap, fun_ext, refl, subst, sym, ◌∙◌, ◌≡◌}
use Prim.Native.Nat.{suc, zero, ℕ, ◌≤◌}
use lib.Dec.{ltb}
use lib.ListN.{length, replicate}
use Rattle.model.proofs.FullLength.{empty-full, empty-more}
use Rattle.model.proofs.Grants.{claimants-same}
use Rattle.model.proofs.Jobs.{Reserving, done-off, mk}
use Rattle.model.proofs.Lending.{not-borrowing, offer-none, shown-given}
use Rattle.model.proofs.SameClaims.{same-claims-asked, same-claimants}
use Rattle.model.proofs.Runs.{full-claimed, full-offer, full-shown, full-withdrawn, still-emptied}
use Rattle.model.specs.Jobs.{Book, emptied}
use Rattle.model.specs.Claims.{borrowing, claims, grants_of, job_claims}
use Rattle.model.specs.Advance.{step, work, work_lent, Entry}
use Rattle.model.specs.Refusals.{asked, first_late, late}
use Rattle.model.specs.Lists.{book, book_from, full}
use Rattle.model.specs.Claims.{book_row, served, task_claims, widths}
use Rattle.model.specs.Refusals.{wrong_empties, row_refused, shown}
use Rattle.model.specs.Lists.{no_places, no_reports}
use Rattle.model.specs.Firm.{firm}
use Rattle.model.specs.Grants.{Claimant, claimants, ends_choosing, given, grants, left}
use Rattle.model.specs.Horizon.{horizon}
use Rattle.model.specs.Row.{row}
use Rattle.model.specs.Fence.{unfenced_cores}
use Rattle.model.specs.Search.{any}
use Rattle.model.specs.Task.{AllValid, Rule, Table, Task, greedy, idling, lending, newest, task}
use Rattle.model.specs.Verdict.{first_miss, missed_at, missed_in, verdict}

-- the rules that pass over a misfit choose alike
choose-same : (r : Rule) → ends_choosing r ≡ false → (bs : List Claimant) (F : List ℕ) → grants r bs F ≡ grants greedy bs F
unfolding grants left
choose-same r e [] F = refl
choose-same r e (b ∷ bs) F = rw e (ap {B = List (List ℕ)} (λ x. given b F ∷ x) (choose-same r e bs (left greedy b F)))

-- a job that has claimed C ticks once it has ended claims alike under all rules
claims-same : (r : Rule) (τ : Task) (k t h c : ℕ) (e : Bool) → (e ≡ true → τ.length ≤ c) → claims r τ k t (mk h c e) ≡ claims greedy τ k t (mk h c e)
claims-same r τ k t h c true g = done-off r τ k t (mk h c true) refl (g refl) ∙ sym (done-off greedy τ k t (mk h c true) refl (g refl))
claims-same r τ k t h c false g = unfold claims in refl

abbrev pub under : Rule → List Task → ℕ → ℕ → Table
under r τs m f = record { tasks = τs; cores = m; fence = f; rule = r }

-- AT FULL LENGTH a rule that passes over misfits is greedy
module _ (r : Rule) (passes : ends_choosing r ≡ false) (τs : List Task) (m f : ℕ) where
  abbrev I : Table
  I = under r τs m f

  abbrev G : Table
  G = under greedy τs m f

  same-claims : (n : ℕ) → full I n ≡ full G n → (p k : ℕ) → job_claims I (full I n) p k ≡ job_claims G (full G n) p k
  same-claims n e p k =
      subst (λ (b : Book). job_claims I (full I n) p k ≡ job_claims G b p k) e
      (claims-same r (task I p) k (full I n).tick ((full I n).job p k).had ((full I n).job p k).claimed ((full I n).job p k).ended
      (full-claimed I n p k))

  same-grants : (n : ℕ) → full I n ≡ full G n → grants_of I (full I n) ≡ grants_of G (full G n)
  same-grants n e =
      choose-same r passes (claimants (widths I (full I n).tick) (task_claims I (full I n))) (unfenced_cores I)
      ∙ ap (λ (x : List Claimant). grants greedy x (unfenced_cores I))
      (ap (λ (b : Book). claimants (widths I b.tick) (task_claims I (full I n))) e
      ∙ claimants-same (widths I (full G n).tick) (task_claims I (full I n)) (task_claims G (full G n))
      (λ q l. same-claims n e q (newest (task I q) (full I n).tick) ∙ ap (λ (b : Book). job_claims G (full G n) q (newest (task G q) b.tick)) e))

  same-served : (n : ℕ) → full I n ≡ full G n → (p k : ℕ) → served I (full I n) p k ≡ served G (full G n) p k
  unfolding served
  same-served n e p k = rw (same-claims n e p k, same-grants n e)

  -- no place borrows
  same-borrowing : (n p k : ℕ) → borrowing I (full I n) p k ≡ borrowing G (full G n) p k
  same-borrowing n p k = not-borrowing I (full I n) (full-offer I n) p k ∙ sym (not-borrowing G (full G n) (full-offer G n) p k)

  -- a path between books, which hold functions, is a path at each job
  same_step : (n : ℕ) → full I n ≡ full G n → step I no_places (full I n) ≡ step G no_places (full G n)
  unfolding step
  same_step n e = λ i. record {
    tick = suc (e i).tick;
    job = λ p k.
        cond (same-served n e p k i)
        (work (task I p).length false ((e i).job p k))
        (cond (same-borrowing n p k i) (work_lent (task I p).length false ((e i).job p k)) ((e i).job p k));
    withdrawn = (e i).withdrawn;
  }

  same_full : (n : ℕ) → full I n ≡ full G n
  unfolding full
  same_full zero = refl
  same_full (suc n) = same_step n (same_full n)

  same_row : (n : ℕ) → book_row I (full I n) ≡ book_row G (full G n)
  same_row n = ap (row f m) (full-shown I n ∙ (same-grants n (same_full n) ∙ sym (full-shown G n)))

  -- the same places are late under both, so the books of empty sets stay at the same tick
  same-late : (t : ℕ) → ltb (first_late I (full I t)) (length τs) ≡ ltb (first_late G (full G t)) (length τs)
  unfolding late
  same-late t = ap (λ (b : Book). ltb (first_late I b) (length τs)) (same_full t)

  same_books : (n t : ℕ) → book_from I (full I t) (replicate n no_reports) ≡ book_from G (full G t) (replicate n no_reports)
  same_books zero t = unfold book_from in same_full t
  same_books (suc n) t =
      empty-more I n t
      ∙ (go (ltb (first_late I (full I t)) (length τs)) (ltb (first_late G (full G t)) (length τs)) (same-late t) (same_books n t) (same_books n (suc t))
      ∙ sym (empty-more G n t))
    where
      go : (a b : Bool) → a ≡ b
          → book_from I (full I t) (replicate n no_reports) ≡ book_from G (full G t) (replicate n no_reports)
          → book_from I (full I (suc t)) (replicate n no_reports) ≡ book_from G (full G (suc t)) (replicate n no_reports)
          → book_from I (cond a (full I t) (step I no_places (full I t))) (replicate n no_reports) ≡ book_from G (cond b (full G t) (step G no_places (full G t))) (replicate n no_reports)
      go true true e x y = x
      go false false e x y = unfold full in y
      go true false e x y = absurd (true≢false e)
      go false true e x y = absurd (false≢true e)

  same_asked : (b : Book) → b.withdrawn ≡ 0 → book_row I b ≡ book_row G b → asked I b 0 ≡ asked G b 0
  unfolding asked late wrong_empties any
  same_asked b w e =
      ap (λ (r : List ℕ). cond (ltb (first_late I b) (length τs)) (row_refused 15 (suc (first_late I b))) (shown r))
      (ap (book_row I) (still-emptied I b w) ∙ (e ∙ ap (book_row G) (sym (still-emptied G b w))))

  same-asked-empty : (n : ℕ) → asked I (book I (replicate n no_reports)) 0 ≡ asked G (book G (replicate n no_reports)) 0
  same-asked-empty n =
      let b : Book = book I (replicate n no_reports) in
      let e : b ≡ book G (replicate n no_reports) = unfold full in same_books n 0 in
      let at : b ≡ full I b.tick = empty-full I n in
      let at' : b ≡ full G b.tick =
      e ∙ (empty-full G n ∙ ap (λ (c : Book). full G c.tick) (sym e)) in
      let out : b.withdrawn ≡ 0 = ap (λ (c : Book). c.withdrawn) at ∙ full-withdrawn I b.tick in
      same_asked b out (ap (book_row I) at ∙ (same_row b.tick ∙ ap (book_row G) (sym at'))) ∙ ap (λ (c : Book). asked G c 0) e

-- THE THEOREM: at full length idling and greedy give equal rows
pub idling-greedy : (τs : List Task) (m f n : ℕ) → book_row (under idling τs m f) (full (under idling τs m f) n) ≡ book_row (under greedy τs m f) (full (under greedy τs m f) n)
idling-greedy = same_row idling refl

-- the same of the books of n empty sets, past a miss too: the books are equal ..
pub idling-greedy-books : (τs : List Task) (m f n : ℕ) → book (under idling τs m f) (replicate n no_reports) ≡ book (under greedy τs m f) (replicate n no_reports)
unfolding full
idling-greedy-books τs m f n = same_books idling refl τs m f n 0

-- .. and so is what a row asked is answered, the row or 15 with its position
pub idling-greedy-asked :
    (τs : List Task) (m f n : ℕ)
    → asked (under idling τs m f) (book (under idling τs m f) (replicate n no_reports)) 0
    ≡ asked (under greedy τs m f) (book (under greedy τs m f) (replicate n no_reports)) 0
idling-greedy-asked = same-asked-empty idling refl

-- THE THEOREM (request 109): at full length lending is idling, in its book and in its rows ..
pub lending-idling :
    (τs : List Task) (m f n : ℕ)
    → (full (under lending τs m f) n ≡ full (under idling τs m f) n)
    × (book_row (under lending τs m f) (full (under lending τs m f) n) ≡ book_row (under idling τs m f) (full (under idling τs m f) n))
lending-idling τs m f n = (
  same_full lending refl τs m f n ∙ sym (same_full idling refl τs m f n),
  same_row lending refl τs m f n ∙ sym (same_row idling refl τs m f n),
)

-- .. in the verdict ..
pub lending-idling-verdict : (τs : List Task) (m f : ℕ) → verdict (under lending τs m f) ≡ verdict (under idling τs m f)
unfolding verdict first_miss horizon firm
lending-idling-verdict τs m f = rw (same-missed-in, fun_ext same-missed-at)
  where
    l : Table
    l = under lending τs m f

    i : Table
    i = under idling τs m f

    same-missed-at : (t : ℕ) → missed_at l t ≡ missed_at i t
    same-missed-at t = unfold missed_at in fun_ext (λ p. rw (lending-idling τs m f t).0)

    same-missed-in : missed_in l ≡ missed_in i
    same-missed-in = unfold missed_in in fun_ext (λ t. rw (same-missed-at t))

-- .. and in the books of n empty sets, past a miss too, and what a row asked is answered
pub lending-idling-books : (τs : List Task) (m f n : ℕ) → book (under lending τs m f) (replicate n no_reports) ≡ book (under idling τs m f) (replicate n no_reports)
unfolding full
lending-idling-books τs m f n = same_books lending refl τs m f n 0 ∙ sym (same_books idling refl τs m f n 0)

pub lending-idling-asked :
    (τs : List Task) (m f n : ℕ)
    → asked (under lending τs m f) (book (under lending τs m f) (replicate n no_reports)) 0
    ≡ asked (under idling τs m f) (book (under idling τs m f) (replicate n no_reports)) 0
lending-idling-asked τs m f n = same-asked-empty lending refl τs m f n ∙ sym (same-asked-empty idling refl τs m f n)

-- THE THEOREM (Goossens and Berten, definition 16 and limited slack reclaiming): where an ended job claims until it has claimed C ticks, as under
-- idling and lending, the cores of any book, given or reserved, are those of the full-length run at its tick, whatever jobs of that tick are empty
pub reserved-grants :
    (s : Table) → AllValid s → Reserving s.rule → (xs : List Entry) (e : ℕ → Bool)
    → grants_of s (emptied s e (book s xs)) ≡ grants_of s (full s (book s xs).tick)
reserved-grants s ok reserving xs e =
    ap (λ (x : List Claimant). grants s.rule x (unfenced_cores s))
    (same-claimants s ok reserving (emptied s e (book s xs)) (full s (book s xs).tick) (same-claims-asked s ok reserving xs e))

pub idling-grants :
    (s : Table) → AllValid s → s.rule ≡ idling → (xs : List Entry) (e : ℕ → Bool)
    → grants_of s (emptied s e (book s xs)) ≡ grants_of s (full s (book s xs).tick)
idling-grants s ok i = reserved-grants s ok (subst Reserving (sym i) (λ τ j. refl))

pub lending-grants :
    (s : Table) → AllValid s → s.rule ≡ lending → (xs : List Entry) (e : ℕ → Bool)
    → grants_of s (emptied s e (book s xs)) ≡ grants_of s (full s (book s xs).tick)
lending-grants s ok i = reserved-grants s ok (subst Reserving (sym i) (λ τ j. refl))

-- under idling so is the row
pub idling-rows :
    (s : Table) → AllValid s → s.rule ≡ idling → (xs : List Entry) (e : ℕ → Bool)
    → book_row s (emptied s e (book s xs)) ≡ book_row s (full s (book s xs).tick)
idling-rows s ok i xs e =
    let b : Book = emptied s e (book s xs) in
    ap (row s.fence s.cores)
    (shown-given s b (offer-none s b (rw i)) ∙ (idling-grants s ok i xs e ∙ sym (full-shown s (book s xs).tick)))
