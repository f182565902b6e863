-- No task changes the core of a task above it: what is below position n changes nothing for positions 1 to n.
use mathlib.Core.Bool.{Bool, cond, false, true, ◌||◌}
use mathlib.Core.List.{List, [], map, ◌∷◌}
use mathlib.Core.Logic.{inl, inr, ◌⊎◌, ⊎_elim}
use mathlib.Core.Path.{ap, ap₂, refl, subst, subst₂, sym, ◌∙◌, ◌≡◌}
use Prim.Native.Nat.{◌+◌, ◌-◌, ◌<◌, suc, zero, ℕ, ◌≤◌}
use native.Mathlib.Nat.{le_refl}
use native.Mathlib.Omega.{arith}
use lib.Dec.{leb, ltb}
use lib.ListN.{get_or, replicate, take}
use lib.Seq.{get_or-take}
use borrow.Author.Tests.{le-ltb, leb-false, leb-true, lt-ltb, ne_eqb}
use Rattle.model.proofs.Digits.{bit-power, or-bit}
use Rattle.model.proofs.FullLength.{empty-full}
use Rattle.model.proofs.Grants.{claimants-cut, grants-take}
use Rattle.model.proofs.Lending.{borrowed-above, lent-local, shown-given}
use Rattle.model.proofs.Lists.{take-map}
use Rattle.model.proofs.Runs.{full-offer}
use Rattle.model.proofs.Search.{none-at}
use Rattle.model.specs.Jobs.{Book, Job, emptied, empty_book}
use Rattle.model.specs.Claims.{borrowed, borrowing}
use Rattle.model.specs.Advance.{step, Entry, advance, after_taken}
use Rattle.model.specs.Refusals.{Answer, answer}
use Rattle.model.specs.Lists.{book, book_from}
use Rattle.model.specs.Jobs.{empty_in}
use Rattle.model.specs.Claims.{grants_of, job_claims, newest_ended, offer, book_row, seeks}
use Rattle.model.specs.Advance.{singleton}
use Rattle.model.specs.Refusals.{refused}
use Rattle.model.specs.Lists.{enter, entered, full, keep, no_places, no_reports}
use Rattle.model.specs.Claims.{served, task_claims, widths}
use Rattle.model.specs.Advance.{withdraw, withdraw_all, with_withdrawn}
use Rattle.model.specs.Refusals.{taken}
use Rattle.model.specs.Lists.{taken_from, taken_of}
use Rattle.model.specs.Fence.{unfenced_cores}
use Rattle.model.specs.Grants.{claimants}
use Rattle.model.specs.Lending.{lent}
use Rattle.model.specs.Local.{EqualAbove, SameBits, SameCoresAbove, SameEntries, SameEntry, SameReports, relevant, relevant_if, up_to}
use Rattle.model.specs.Row.{byte_of, owner, row}
use Rattle.model.specs.Search.{any, bit, member, up_from}
use Rattle.model.specs.Task.{Table, Task, newest, absent_task, task, width_of}

-- two books with the same tick, and the same jobs and withdrawals of the first n places
pub record Agree (n : ℕ) (b b' : Book) : Type 0 where
  pub ticks : b.tick ≡ b'.tick
  pub jobs : (p k : ℕ) → p < n → b.job p k ≡ b'.job p k
  pub gone : SameBits n b.withdrawn b'.withdrawn

equal-above-self : (n : ℕ) (s : Table) → EqualAbove n s s
equal-above-self n s = record { rules = refl; cores = refl; fences = refl; tasks = refl }

or-false : (u : Bool) → u || false ≡ u
or-false true = refl
or-false false = refl

-- THE BOOK OF ENTRIES THAT ARE ALL ENTERED, taken or not
took : Table → Book → List Entry → Book
took s b [] = b
took s b (x ∷ xs) = took s (after_taken s x b) xs

book-took : (s : Table) (xs : List Entry) (b : Book) → book_from s b xs ≡ took s b (taken_from s b xs)
unfolding book_from taken_from took enter
book-took s [] b = refl
book-took s (x ∷ xs) b = go (answer s b x) (book-took s xs)
  where
    go : (w : Answer) → ((b : Book) → book_from s b xs ≡ took s b (taken_from s b xs))
        → book_from s (entered w (after_taken s x b) b) xs ≡ took s b (keep w x (taken_from s (entered w (after_taken s x b) b) xs))
    go taken ih = ih (after_taken s x b)
    go (refused n p) ih = ih b

-- WHAT THE FIRST PLACES CLAIM IN A TICK

-- the widths of the first n places in tick t
first-widths : (n t : ℕ) (s s' : Table) → take n s.tasks ≡ take n s'.tasks → take n (widths s t) ≡ take n (widths s' t)
first-widths n t s s' e =
    take-map (λ τ. width_of τ (newest τ t)) n s.tasks
    ∙ (ap (λ (x : List Task). map (λ τ. width_of τ (newest τ t)) x) e ∙ sym (take-map (λ τ. width_of τ (newest τ t)) n s'.tasks))

-- WHAT THE FIRST PLACES SHOW IN A ROW

-- the owner of a core is none, or at the first place or behind it
pub owner-from : (c p : ℕ) (gs : List (List ℕ)) → (owner c p gs ≡ 0) ⊎ (p ≤ owner c p gs)
unfolding owner
owner-from c p [] = inl refl
owner-from c p (g ∷ gs) = go (member c g) (owner-from c (suc p) gs)
  where
    go : (t : Bool) → (owner c (suc p) gs ≡ 0) ⊎ (suc p ≤ owner c (suc p) gs)
        → (cond t p (owner c (suc p) gs) ≡ 0) ⊎ (p ≤ cond t p (owner c (suc p) gs))
    go true x = inr (le_refl p)
    go false (inl e) = inl e
    go false (inr h) = inr (omega arith)

-- bytes of positions from p + n on, cut off
cut : ℕ → ℕ → ℕ
cut k byte = cond (ltb byte k) byte 0

owner-cut : (c n p : ℕ) (gs : List (List ℕ)) → cut (p + n) (owner c p gs) ≡ owner c p (take n gs)
unfolding owner cut
owner-cut c zero p gs = ⊎_elim low high (owner-from c p gs)
  where
    low : owner c p gs ≡ 0 → cond (ltb (owner c p gs) (p + 0)) (owner c p gs) 0 ≡ 0
    low e = rw e (go (ltb 0 (p + 0)))
      where
        go : (t : Bool) → cond {A = ℕ} t 0 0 ≡ 0
        go true = refl
        go false = refl

    high : p ≤ owner c p gs → cond (ltb (owner c p gs) (p + 0)) (owner c p gs) 0 ≡ 0
    high h = rw (le-ltb (owner c p gs) (p + 0) (omega arith))
owner-cut c (suc n) p [] = go (ltb 0 (p + suc n))
  where
    go : (t : Bool) → cond {A = ℕ} t 0 0 ≡ 0
    go true = refl
    go false = refl
owner-cut c (suc n) p (g ∷ gs) = go (member c g) (owner-cut c n (suc p) gs)
  where
    more : suc p + n ≡ p + suc n
    more = omega arith

    go : (t : Bool) → cond (ltb (owner c (suc p) gs) (suc p + n)) (owner c (suc p) gs) 0 ≡ owner c (suc p) (take n gs)
        → cond (ltb (cond t p (owner c (suc p) gs)) (p + suc n)) (cond t p (owner c (suc p) gs)) 0 ≡ cond t p (owner c (suc p) (take n gs))
    go true ih = rw (lt-ltb p (p + suc n) (omega arith))
    go false ih = subst (λ (k : ℕ). cond (ltb (owner c (suc p) gs) k) (owner c (suc p) gs) 0 ≡ owner c (suc p) (take n gs)) more ih

up_to-cut : (n byte : ℕ) → up_to n byte ≡ cut (1 + n) byte
unfolding cut
up_to-cut n byte = go (leb byte n) refl
  where
    go : (t : Bool) → leb byte n ≡ t → cond t byte 0 ≡ cond (ltb byte (1 + n)) byte 0
    go true e = rw (lt-ltb byte (1 + n) (omega (arith, leb-true byte n e)))
    go false e = rw (le-ltb byte (1 + n) (omega (arith, leb-false byte n e)))

-- the same in two rows, where the first n places have the same cores
row-up_to :
    (n f m : ℕ) (gs hs : List (List ℕ)) → take n gs ≡ take n hs
    → map (up_to n) (row f m gs) ≡ map (up_to n) (row f m hs)
unfolding row
row-up_to n f m gs hs e = each (up_from 0 m)
  where
    owners : (c : ℕ) → up_to n (owner c 1 gs) ≡ up_to n (owner c 1 hs)
    owners c =
        up_to-cut n (owner c 1 gs) ∙ (owner-cut c n 1 gs ∙ (ap (owner c 1) e
        ∙ sym (up_to-cut n (owner c 1 hs) ∙ owner-cut c n 1 hs)))

    byte : (t : Bool) (c : ℕ) → up_to n (cond t 255 (owner c 1 gs)) ≡ up_to n (cond t 255 (owner c 1 hs))
    byte true c = refl
    byte false c = owners c

    each : (cs : List ℕ) → map (up_to n) (map (byte_of f gs) cs) ≡ map (up_to n) (map (byte_of f hs) cs)
    each [] = refl
    each (c ∷ cs) = ap₂ (λ (x : ℕ) (l : List ℕ). x ∷ l) (byte (bit f c) c) (each cs)

module _ (n : ℕ) (s s' : Table) (al : EqualAbove n s s') where
  same-task : (p : ℕ) → p < n → task s p ≡ task s' p
  same-task p l = sym (get_or-take n s.tasks p absent_task l) ∙ (ap (λ (x : List Task). get_or x p absent_task) al.tasks ∙ get_or-take n s'.tasks p absent_task l)

  same-job-claims : (b b' : Book) → Agree n b b' → (p k : ℕ) → p < n → job_claims s b p k ≡ job_claims s' b' p k
  same-job-claims b b' ag p k l = rw (same-task p l, al.rules, ag.ticks, ag.jobs p k l)

  same-claims : (b b' : Book) → Agree n b b' → (p : ℕ) → p < n → task_claims s b p ≡ task_claims s' b' p
  same-claims b b' ag p l =
      same-job-claims b b' ag p (newest (task s p) b.tick) l
      ∙ rw (same-task p l, ag.ticks)

  same-widths : (b b' : Book) → Agree n b b' → take n (widths s b.tick) ≡ take n (widths s' b'.tick)
  same-widths b b' ag = first-widths n b.tick s s' al.tasks ∙ ap (λ (t : ℕ). take n (widths s' t)) ag.ticks

  same-grants : (b b' : Book) → Agree n b b' → take n (grants_of s b) ≡ take n (grants_of s' b')
  same-grants b b' ag =
      let ws = same-widths b b' ag in
      grants-take s.rule n (claimants (widths s b.tick) (task_claims s b)) (unfenced_cores s)
      ∙ (rw (claimants-cut n (widths s b.tick) (widths s' b'.tick) (task_claims s b) (task_claims s' b') ws (same-claims b b' ag), al.rules, al.cores, al.fences)
      (sym (grants-take s'.rule n (claimants (widths s' b'.tick) (task_claims s' b')) (unfenced_cores s'))))

  same-cores : (b b' : Book) → Agree n b b' → (p : ℕ) → p < n → get_or (grants_of s b) p [] ≡ get_or (grants_of s' b') p []
  same-cores b b' ag p l =
      sym (get_or-take n (grants_of s b) p [] l)
      ∙ (ap (λ (x : List (List ℕ)). get_or x p []) (same-grants b b' ag)
      ∙ get_or-take n (grants_of s' b') p [] l)

  -- the places that have ended, that seek and that offer, and so what is borrowed
  same_ended : (b b' : Book) → Agree n b b' → (p : ℕ) → p < n → newest_ended s b p ≡ newest_ended s' b' p
  same_ended b b' ag p l =
      ap (λ (j : Job). j.ended) (ag.jobs p (newest (task s p) b.tick) l)
      ∙ ap₂ (λ (τ : Task) (t : ℕ). (b'.job p (newest τ t)).ended) (same-task p l) ag.ticks

  same-seeks : (b b' : Book) → Agree n b b' → (p : ℕ) → p < n → seeks s b p ≡ seeks s' b' p
  unfolding seeks
  same-seeks b b' ag p l = rw (same-claims b b' ag p l, same_ended b b' ag p l, same-cores b b' ag p l)

  same-offer : (b b' : Book) → Agree n b b' → (p : ℕ) → p < n → offer s b p ≡ offer s' b' p
  unfolding offer
  same-offer b b' ag p l = rw (same-cores b b' ag p l, same_ended b b' ag p l, al.rules)

  same-borrowed : (b b' : Book) → Agree n b b' → (p : ℕ) → p < n → borrowed s b p ≡ borrowed s' b' p
  same-borrowed b b' ag p l =
      borrowed-above s b p
      ∙ (sym (get_or-take n (lent (widths s b.tick) (seeks s b) (offer s b) p) p [] l)
      ∙ (ap (λ (x : List (List ℕ)). get_or x p [])
      (lent-local n (widths s b.tick) (widths s' b'.tick) (seeks s b) (seeks s' b') (offer s b) (offer s' b')
      (same-widths b b' ag) (same-seeks b b' ag) (same-offer b b' ag) p (omega arith))
      ∙ (get_or-take n (lent (widths s' b'.tick) (seeks s' b') (offer s' b') p) p [] l
      ∙ sym (borrowed-above s' b' p))))

  shown-same : (b b' : Book) → Agree n b b' → SameCoresAbove n s b s' b'
  shown-same b b' ag = record {
    lists = same-cores b b' ag;
    offers = same-offer b b' ag;
    borrows = same-borrowed b b' ag;
    bytes = λ keeps keeps'.
        ap (λ (gs : List (List ℕ)). map (up_to n) (row s.fence s.cores gs)) (shown-given s b keeps)
        ∙ (row-up_to n s.fence s.cores (grants_of s b) (grants_of s' b') (same-grants b b' ag)
        ∙ (ap₂ (λ (f m : ℕ). map (up_to n) (row f m (grants_of s' b'))) al.fences al.cores
        ∙ ap (λ (gs : List (List ℕ)). map (up_to n) (row s'.fence s'.cores gs)) (sym (shown-given s' b' keeps'))));
  }

  same_step : (f g : ℕ → Bool) → ((q : ℕ) → q < n → f q ≡ g q) → (b b' : Book) → Agree n b b' → Agree n (step s f b) (step s' g b')
  unfolding step served borrowing
  same_step f g fg b b' ag = record {
    ticks = ap suc ag.ticks;
    jobs = λ p k l.
        rw (same-job-claims b b' ag p k l, same-cores b b' ag p l, same-borrowed b b' ag p l, same-task p l, ag.jobs p k l, fg p l);
    gone = ag.gone;
  }

  same-emptied : (e g : ℕ → Bool) → ((q : ℕ) → q < n → e q ≡ g q) → (b b' : Book) → Agree n b b' → Agree n (emptied s e b) (emptied s' g b')
  unfolding emptied
  same-emptied e g eg b b' ag = record {
    ticks = ag.ticks;
    jobs = λ p k l. rw (eg p l, same-task p l, ag.ticks, ag.jobs p k l);
    gone = ag.gone;
  }

  start-agree : Agree n empty_book empty_book
  start-agree = record { ticks = refl; jobs = λ p k l. refl; gone = λ q l. refl }

  full-agree : (t : ℕ) → Agree n (full s t) (full s' t)
  unfolding full
  full-agree zero = start-agree
  full-agree (suc t) = same_step no_places no_places (λ q l. refl) (full s t) (full s' t) (full-agree t)

  same-without : (b b' : Book) → Agree n b b' → (x y : ℕ) → SameBits n x y → Agree n (with_withdrawn x b) (with_withdrawn y b')
  same-without b b' ag x y h = record {
    ticks = ag.ticks;
    jobs = ag.jobs;
    gone = λ q l. or-bit b.withdrawn x q ∙ (rw (h q l, ag.gone q l) refl ∙ sym (or-bit b'.withdrawn y q));
  }

  same-empty : (b b' : Book) → Agree n b b' → (e g : ℕ) → SameBits n e g → Agree n (emptied s (empty_in b e) b) (emptied s' (empty_in b' g) b')
  same-empty b b' ag e g h = same-emptied (empty_in b e) (empty_in b' g) (λ q l. rw (h q l, ag.gone q l)) b b' ag

  same_after : (x y : Entry) → SameEntry n x y → (b b' : Book) → Agree n b b' → Agree n (after_taken s x b) (after_taken s' y b')
  unfolding after_taken
  same_after (advance x e) (advance y g) h b b' ag =
      same_step (bit x) (bit y) h.0 (emptied s (empty_in b e) b) (emptied s' (empty_in b' g) b') (same-empty b b' ag e g h.1)
  same_after (advance x e) (withdraw q) h b b' ag = absurd h
  same_after (advance x e) (withdraw_all y) h b b' ag = absurd h
  same_after (withdraw p) (advance y g) h b b' ag = absurd h
  same_after (withdraw p) (withdraw q) h b b' ag = same-without b b' ag (singleton p) (singleton q) (λ i l. ap (λ (k : ℕ). bit (singleton k) i) h)
  same_after (withdraw p) (withdraw_all y) h b b' ag = same-without b b' ag (singleton p) y h
  same_after (withdraw_all x) (advance y g) h b b' ag = absurd h
  same_after (withdraw_all x) (withdraw q) h b b' ag = same-without b b' ag x (singleton q) h
  same_after (withdraw_all x) (withdraw_all y) h b b' ag = same-without b b' ag x y h

  took-agree : (xs ys : List Entry) → SameEntries n xs ys → (b b' : Book) → Agree n b b' → Agree n (took s b xs) (took s' b' ys)
  unfolding SameEntries took
  took-agree [] [] r b b' ag = ag
  took-agree [] (y ∷ ys) r b b' ag = absurd r
  took-agree (x ∷ xs) [] r b b' ag = absurd r
  took-agree (x ∷ xs) (y ∷ ys) r b b' ag = took-agree xs ys r.1 (after_taken s x b) (after_taken s' y b') (same_after x y r.0 b b' ag)

-- WHAT IS WITHDRAWN BELOW POSITION n CHANGES NOTHING ABOVE

agree-sym : (n : ℕ) (b c : Book) → Agree n b c → Agree n c b
agree-sym n b c h = record { ticks = sym h.ticks; jobs = λ p k l. sym (h.jobs p k l); gone = λ q l. sym (h.gone q l) }

agree_trans : (n : ℕ) (b c d : Book) → Agree n b c → Agree n c d → Agree n b d
agree_trans n b c d h g = record {
  ticks = h.ticks ∙ g.ticks;
  jobs = λ p k l. h.jobs p k l ∙ g.jobs p k l;
  gone = λ q l. h.gone q l ∙ g.gone q l;
}

-- a position below n is no place above it
only_below : (n p q : ℕ) → leb p n ≡ false → q < n → bit (singleton p) q ≡ false
only_below n p q h l = bit-power (p - 1) q ∙ ne_eqb q (p - 1) (λ e. omega (arith, leb-false p n h))

-- a withdrawal of places from n on alone
irrelevant-withdrawal : (n : ℕ) (b c : Book) → Agree n b c → (x : ℕ) → ((q : ℕ) → q < n → bit x q ≡ false) → Agree n (with_withdrawn x b) c
irrelevant-withdrawal n b c ag x off = record {
  ticks = ag.ticks;
  jobs = ag.jobs;
  gone = λ q l. or-bit b.withdrawn x q ∙ (rw (off q l) (or-false (bit b.withdrawn q)) ∙ ag.gone q l);
}

-- an entry goes on with what is after it, or is left out
relevant-step :
    (n : ℕ) (s : Table) (x : Entry) (xs : List Entry) (b c : Book) → Agree n b c
    → ((d : Book) → Agree n (after_taken s x b) d → Agree n (took s (after_taken s x b) xs) (took s d (relevant n xs)))
    → Agree n (took s (after_taken s x b) xs) (took s c (relevant_if n x (relevant n xs)))
relevant-step n s (advance x e) xs b c ag more =
    unfold took in more (after_taken s (advance x e) c) (same_after n s s (equal-above-self n s) (advance x e) (advance x e) (λ q l. refl, λ q l. refl) b c ag)
relevant-step n s (withdraw p) xs b c ag more = go (leb p n) refl
  where
    go : (t : Bool) → leb p n ≡ t
        → Agree n (took s (after_taken s (withdraw p) b) xs) (took s c (cond t (withdraw p ∷ relevant n xs) (relevant n xs)))
    go true h = unfold took in more (after_taken s (withdraw p) c) (same_after n s s (equal-above-self n s) (withdraw p) (withdraw p) refl b c ag)
    go false h = more c (unfold after_taken in irrelevant-withdrawal n b c ag (singleton p) (λ q l. only_below n p q h l))
relevant-step n s (withdraw_all x) xs b c ag more = go (any n (bit x)) refl
  where
    go : (t : Bool) → any n (bit x) ≡ t
        → Agree n (took s (after_taken s (withdraw_all x) b) xs) (took s c (cond t (withdraw_all x ∷ relevant n xs) (relevant n xs)))
    go true h =
        unfold took in more (after_taken s (withdraw_all x) c) (same_after n s s (equal-above-self n s) (withdraw_all x) (withdraw_all x) (λ q l. refl) b c ag)
    go false h = more c (unfold after_taken in irrelevant-withdrawal n b c ag x (λ q l. none-at n (bit x) q h l))

relevant-took : (n : ℕ) (s : Table) (xs : List Entry) (b c : Book) → Agree n b c → Agree n (took s b xs) (took s c (relevant n xs))
unfolding relevant took
relevant-took n s [] b c ag = ag
relevant-took n s (x ∷ xs) b c ag = relevant-step n s x xs b c ag (relevant-took n s xs (after_taken s x b))

relevant-book : (n : ℕ) (s : Table) (xs : List Entry) → Agree n (book s xs) (took s empty_book (relevant n (taken_of s xs)))
relevant-book n s xs =
    subst (λ (b : Book). Agree n b (took s empty_book (relevant n (taken_of s xs)))) (sym (book-took s xs empty_book))
    (relevant-took n s (taken_of s xs) empty_book empty_book (start-agree n s s (equal-above-self n s)))

module _ (n : ℕ) (s s' : Table) (al : EqualAbove n s s') where
  -- THE THEOREM, for the full-length runs
  pub local-full : (t : ℕ) → SameCoresAbove n s (full s t) s' (full s' t)
  local-full t = shown-same n s s' al (full s t) (full s' t) (full-agree n s s' al t)

  -- .. whose rows, since no place lends at full length, show them alike under every rule
  pub local-rows : (t : ℕ) → map (up_to n) (book_row s (full s t)) ≡ map (up_to n) (book_row s' (full s' t))
  local-rows t = (local-full t).bytes (full-offer s t) (full-offer s' t)

  -- the same of books of empty sets: at every tick that both reach (up to the first miss, all: `full-length`)
  pub local-empty :
      (t u : ℕ) → (book s (replicate t no_reports)).tick ≡ (book s' (replicate u no_reports)).tick
      → SameCoresAbove n s (book s (replicate t no_reports)) s' (book s' (replicate u no_reports))
  local-empty t u e =
      subst₂ (λ (a b : Book). SameCoresAbove n s a s' b)
      (sym (empty-full s t)) (sym (empty-full s' u ∙ ap (full s') (sym e)))
      (local-full (book s (replicate t no_reports)).tick)

  -- THE THEOREM, for any two lists whose taken entries agree on positions 1 to n, and rows asked with empty jobs that do; what is refused
  -- changes nothing and is dropped
  pub local-lists :
      (xs ys : List Entry) → SameReports n (taken_of s xs) (taken_of s' ys) → (e e' : ℕ) → SameBits n e e'
      → SameCoresAbove n s (emptied s (empty_in (book s xs) e) (book s xs)) s' (emptied s' (empty_in (book s' ys) e') (book s' ys))
  local-lists xs ys r e e' h =
      let b : Book = book s xs in
      let b' : Book = book s' ys in
      let ag : Agree n b b' =
      agree_trans n b (took s empty_book (relevant n (taken_of s xs))) b' (relevant-book n s xs)
      (agree_trans n (took s empty_book (relevant n (taken_of s xs))) (took s' empty_book (relevant n (taken_of s' ys))) b'
      (took-agree n s s' al (relevant n (taken_of s xs)) (relevant n (taken_of s' ys)) r empty_book empty_book (start-agree n s s' al))
      (agree-sym n b' (took s' empty_book (relevant n (taken_of s' ys))) (relevant-book n s' ys))) in
      shown-same n s s' al (emptied s (empty_in b e) b) (emptied s' (empty_in b' e') b') (same-empty n s s' al b b' ag e e' h)
