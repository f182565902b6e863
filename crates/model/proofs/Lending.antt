-- Lending: where no cores are offered none are borrowed, so rules 1 to 3 lend nothing; what the first places borrow depends on them alone.
use mathlib.Core.Bool.{Bool, ◌&&◌, and-false, cond, false, false≢true, not, true}
use mathlib.Core.List.{List, [], append-nil, map, ◌++◌, ◌∷◌}
use mathlib.Core.Logic.{inl, inr, ◌⊎◌}
use mathlib.Core.Path.{ap, ap₂, refl, subst, sym, ◌∙◌, ◌≡◌}
use Prim.Native.Nat.{◌+◌, ◌<◌, suc, zero, ℕ, ◌≤◌}
use native.Mathlib.Nat.{add-suc, add-zero, le_dest, le_of_eq, le_of_suc-le-suc, not-suc-le-zero}
use native.Mathlib.Omega.{arith}
use lib.Dec.{leb, ltb}
use lib.ListN.{get_or, length, length-map, take}
use lib.Seq.{get_or-take}
use borrow.Author.Tests.{le-ltb, leb-false, leb-true, not-true}
use Rattle.model.proofs.Bools.{and_left, and_right}
use Rattle.std.proofs.lemmas.Bool.{true_from_ne_false}
use Rattle.model.proofs.Grants.{claimants-cut, given_nothing, grants-length, grants-none, grants-take, left-nothing}
use Rattle.model.proofs.Jobs.{done-off}
use Rattle.model.proofs.Lists.{take-map}
use Rattle.model.specs.Jobs.{Book}
use Rattle.model.specs.Claims.{borrowed, borrowing, borrows, grants_of, in_row, job_claims, lent_of, newest_ended, offer, seeks, shown_of}
use Rattle.model.specs.Claims.{task_claims, widths}
use Rattle.model.specs.Fence.{unfenced_cores}
use Rattle.model.specs.Grants.{Claimant, claimants, grants, some}
use Rattle.model.specs.Lending.{among, merged, lend_once, lends, lent, shown_cores, tries, unlent}
use Rattle.model.specs.Search.{filtered, member}
use Rattle.model.specs.Task.{Rule, Table, greedy, lending, limited, idling, newest, task, width_of}

-- the rules but rule 4 lend nothing
pub not-lending : (r : Rule) → ¬ (r ≡ lending) → lends r ≡ false
not-lending greedy h = refl
not-lending limited h = refl
not-lending idling h = refl
not-lending lending h = absurd (h refl)

-- WHERE NOTHING IS OFFERED

-- of no free cores no place is given any
pub grants-nothing : (r : Rule) (bs : List Claimant) (q : ℕ) → get_or (grants r bs []) q [] ≡ []
unfolding grants
grants-nothing r [] q = refl
grants-nothing r (b ∷ bs) zero = given_nothing b
grants-nothing r (b ∷ bs) (suc q) = rw (left-nothing r b) (grants-nothing r bs q)

-- nothing beside a list changes nothing, ..
beside_none : (gs hs : List (List ℕ)) → ((q : ℕ) → get_or hs q [] ≡ []) → merged gs hs ≡ gs
unfolding merged
beside_none [] hs e = refl
beside_none (g ∷ gs) [] e = refl
beside_none (g ∷ gs) (h ∷ hs) e =
    ap₂ (λ (x : List ℕ) (l : List (List ℕ)). x ∷ l) (ap (λ (x : List ℕ). g ++ x) (e 0) ∙ append-nil g) (beside_none gs hs (λ q. e (suc q)))

-- .. and nothing at a place nothing there
beside_at : (gs hs : List (List ℕ)) (q : ℕ) → get_or hs q [] ≡ [] → get_or (merged gs hs) q [] ≡ get_or gs q []
unfolding merged
beside_at [] hs q e = refl
beside_at (g ∷ gs) [] q e = refl
beside_at (g ∷ gs) (h ∷ hs) zero e = ap (λ (x : List ℕ). g ++ x) e ∙ append-nil g
beside_at (g ∷ gs) (h ∷ hs) (suc q) e = beside_at gs hs q e

-- the list that is empty at each place
pub map-nil : (ws : List ℕ) (q : ℕ) → get_or (map {B = List ℕ} (λ w. []) ws) q [] ≡ []
map-nil [] q = refl
map-nil (w ∷ ws) zero = refl
map-nil (w ∷ ws) (suc q) = map-nil ws q

-- nothing is borrowed
lent_nothing :
    (ws : List ℕ) (sk : ℕ → Bool) (o : ℕ → List ℕ) → ((q : ℕ) → o q ≡ [])
    → (n q : ℕ) → get_or (lent ws sk o n) q [] ≡ []
unfolding lent
lent_nothing ws sk o e zero q = map-nil ws q
lent_nothing ws sk o e (suc n) q =
    let c : ℕ → Bool = tries sk n (lent ws sk o n) in
    ap (λ (l : List (List ℕ)). get_or l q [])
    (beside_none (lent ws sk o n) (grants greedy (claimants ws c) (o n))
    (λ i. rw (e n) (grants-nothing greedy (claimants ws c) i)))
    ∙ lent_nothing ws sk o e n q

-- LOCALITY: what the first n places borrow depends on the first n places alone

beside-take : (n : ℕ) (gs hs : List (List ℕ)) → take n (merged gs hs) ≡ merged (take n gs) (take n hs)
unfolding merged
beside-take zero gs hs = refl
beside-take (suc n) [] hs = refl
beside-take (suc n) (g ∷ gs) [] = refl
beside-take (suc n) (g ∷ gs) (h ∷ hs) = ap {B = List (List ℕ)} (λ l. (g ++ h) ∷ l) (beside-take n gs hs)

pub lent-local :
    (n : ℕ) (ws vs : List ℕ) (sk sk' : ℕ → Bool) (o o' : ℕ → List ℕ)
    → take n ws ≡ take n vs → ((q : ℕ) → q < n → sk q ≡ sk' q) → ((q : ℕ) → q < n → o q ≡ o' q)
    → (m : ℕ) → m ≤ n → take n (lent ws sk o m) ≡ take n (lent vs sk' o' m)
unfolding lent
lent-local n ws vs sk sk' o o' e es eo zero l =
    take-map (λ w. []) n ws ∙ (ap (λ (x : List ℕ). map {B = List ℕ} (λ w. []) x) e ∙ sym (take-map (λ w. []) n vs))
lent-local n ws vs sk sk' o o' e es eo (suc m) l = go (lent ws sk o m) (lent vs sk' o' m) (lent-local n ws vs sk sk' o o' e es eo m (omega arith))
  where
    go : (bs bs' : List (List ℕ)) → take n bs ≡ take n bs' → take n (lend_once ws sk (o m) m bs) ≡ take n (lend_once vs sk' (o' m) m bs')
    go bs bs' ih =
        beside-take n bs (grants greedy (claimants ws (tries sk m bs)) (o m))
        ∙ (ap₂ merged ih
        (grants-take greedy n (claimants ws (tries sk m bs)) (o m)
        ∙ (ap₂ (grants greedy) (claimants-cut n ws vs (tries sk m bs) (tries sk' m bs') e same) (eo m l)
        ∙ sym (grants-take greedy n (claimants vs (tries sk' m bs')) (o' m))))
        ∙ sym (beside-take n bs' (grants greedy (claimants vs (tries sk' m bs')) (o' m))))
      where
        same : (q : ℕ) → q < n → tries sk m bs q ≡ tries sk' m bs' q
        same q h =
            let x : get_or bs q [] ≡ get_or bs' q [] = sym (get_or-take n bs q [] h) ∙ (ap (λ (z : List (List ℕ)). get_or z q []) ih ∙ get_or-take n bs' q [] h) in
            rw (es q h, x)

-- a place and those below it lend it nothing: what it borrows is settled once the places above it have lent
pub lent-final :
    (ws : List ℕ) (sk : ℕ → Bool) (o : ℕ → List ℕ) (p d : ℕ) → get_or (lent ws sk o (p + d)) p [] ≡ get_or (lent ws sk o p) p []
unfolding lent
lent-final ws sk o p zero = rw add-zero
lent-final ws sk o p (suc d) = rw add-suc (later (lent ws sk o (p + d)) ∙ lent-final ws sk o p d)
  where
    later : (bs : List (List ℕ)) → get_or (lend_once ws sk (o (p + d)) (p + d) bs) p [] ≡ get_or bs p []
    later bs =
        beside_at bs (grants greedy (claimants ws (tries sk (p + d) bs)) (o (p + d))) p
        (grants-none greedy ws (tries sk (p + d) bs) (o (p + d)) p (rw (le-ltb (p + d) p (omega arith))))

-- PLACES THAT BORROW

beside-some : (gs hs : List (List ℕ)) (q : ℕ) → some (get_or (merged gs hs) q []) ≡ true → (some (get_or gs q []) ≡ true) ⊎ (some (get_or hs q []) ≡ true)
unfolding merged
beside-some [] hs q e = absurd (false≢true e)
beside-some (g ∷ gs) [] q e = inl e
beside-some ([] ∷ gs) (h ∷ hs) zero e = inr e
beside-some ((c ∷ g) ∷ gs) (h ∷ hs) zero e = inl refl
beside-some (g ∷ gs) (h ∷ hs) (suc q) e = beside-some gs hs q e

-- a place that has borrowed seeks cores
pub lent-seeks : (ws : List ℕ) (sk : ℕ → Bool) (o : ℕ → List ℕ) (n q : ℕ) → some (get_or (lent ws sk o n) q []) ≡ true → sk q ≡ true
unfolding lent
lent-seeks ws sk o zero q e = absurd (false≢true (sym (ap some (map-nil ws q)) ∙ e))
lent-seeks ws sk o (suc n) q e = go (lent-seeks ws sk o n q) (beside-some (lent ws sk o n) (grants greedy (claimants ws tried) (o n)) q e)
  where
    tried : ℕ → Bool
    tried = tries sk n (lent ws sk o n)

    go : (some (get_or (lent ws sk o n) q []) ≡ true → sk q ≡ true)
        → (some (get_or (lent ws sk o n) q []) ≡ true) ⊎ (some (get_or (grants greedy (claimants ws tried) (o n)) q []) ≡ true) → sk q ≡ true
    go ih (inl h) = ih h
    go ih (inr h) = true_from_ne_false (sk q) (λ f. false≢true (sym (ap some (grants-none greedy ws tried (o n) q (rw (f, and-false (ltb n q))))) ∙ h))

-- a list of cores for each place, however many have lent
pub beside-length : (gs hs : List (List ℕ)) → length (merged gs hs) ≡ length gs
unfolding merged
beside-length [] hs = refl
beside-length (g ∷ gs) [] = refl
beside-length (g ∷ gs) (h ∷ hs) = ap suc (beside-length gs hs)

pub lent_length : (ws : List ℕ) (sk : ℕ → Bool) (o : ℕ → List ℕ) (n : ℕ) → length (lent ws sk o n) ≡ length ws
unfolding lent
lent_length ws sk o zero = length-map ws (λ w. [])
lent_length ws sk o (suc n) =
    beside-length (lent ws sk o n) (grants greedy (claimants ws (tries sk n (lent ws sk o n))) (o n)) ∙ lent_length ws sk o n

past_end : (ls : List (List ℕ)) (p : ℕ) → length ls ≤ p → get_or ls p [] ≡ []
past_end [] p h = refl
past_end (l ∷ ls) zero h = absurd (not-suc-le-zero h)
past_end (l ∷ ls) (suc p) h = past_end ls p (le_of_suc-le-suc h)

-- so what a place borrows, once every place has lent, is what it has borrowed once those above it have
pub lent-above :
    (ws : List ℕ) (sk : ℕ → Bool) (o : ℕ → List ℕ) (n p : ℕ) → length ws ≤ n → get_or (lent ws sk o n) p [] ≡ get_or (lent ws sk o p) p []
lent-above ws sk o n p h = go (leb p n) refl
  where
    go : (t : Bool) → leb p n ≡ t → get_or (lent ws sk o n) p [] ≡ get_or (lent ws sk o p) p []
    go true e =
        let d = le_dest (leb-true p n e) in
        subst (λ (m : ℕ). get_or (lent ws sk o m) p [] ≡ get_or (lent ws sk o p) p []) d.1 (lent-final ws sk o p d.0)
    go false e =
        let far : length ws ≤ p = omega (arith, leb-false p n e) in
        past_end (lent ws sk o n) p (rw (lent_length ws sk o n) far) ∙ sym (past_end (lent ws sk o p) p (rw (lent_length ws sk o p) far))

-- WHAT IS SHOWN

-- of empty lists none has a core
among_none : (c : ℕ) (bs : List (List ℕ)) → ((q : ℕ) → get_or bs q [] ≡ []) → among c bs ≡ false
unfolding among member
among_none c [] e = refl
among_none c (l ∷ ls) e = rw (e 0) (among_none c ls (λ q. e (suc q)))

unlent-all : (bs : List (List ℕ)) → ((q : ℕ) → get_or bs q [] ≡ []) → (g : List ℕ) → unlent bs g ≡ g
unfolding filtered
unlent-all bs e [] = refl
unlent-all bs e (c ∷ g) = rw (among_none c bs e, unlent-all bs e g)

map-id : (f : List ℕ → List ℕ) → ((g : List ℕ) → f g ≡ g) → (gs : List (List ℕ)) → map f gs ≡ gs
map-id f e [] = refl
map-id f e (g ∷ gs) = ap₂ (λ (x : List ℕ) (l : List (List ℕ)). x ∷ l) (e g) (map-id f e gs)

-- empty lists beside others of as many places
none_beside : (bs gs : List (List ℕ)) → length bs ≡ length gs → ((q : ℕ) → get_or bs q [] ≡ []) → merged bs gs ≡ gs
unfolding merged
none_beside [] [] l e = refl
none_beside [] (g ∷ gs) l e = absurd (omega arith)
none_beside (b ∷ bs) [] l e = absurd (omega arith)
none_beside (b ∷ bs) (g ∷ gs) l e =
    ap₂ (λ (x : List ℕ) (l : List (List ℕ)). x ∷ l) (ap (λ (x : List ℕ). x ++ g) (e 0)) (none_beside bs gs (omega arith) (λ q. e (suc q)))

pub shown-own :
    (gs bs : List (List ℕ)) → length bs ≡ length gs → ((q : ℕ) → get_or bs q [] ≡ []) → shown_cores gs bs ≡ gs
shown-own gs bs l e =
    ap (merged bs) (map-id (unlent bs) (unlent-all bs e) gs) ∙ none_beside bs gs l e

-- BOOKS

-- as many widths as tasks
widths-length : (s : Table) (t : ℕ) → length (widths s t) ≡ length s.tasks
widths-length s t = length-map s.tasks (λ τ. width_of τ (newest τ t))

-- what a place borrows comes from the places above it
pub borrowed-above : (s : Table) (b : Book) (p : ℕ) → borrowed s b p ≡ get_or (lent (widths s b.tick) (seeks s b) (offer s b) p) p []
unfolding borrowed
borrowed-above s b p = lent-above (widths s b.tick) (seeks s b) (offer s b) (length s.tasks) p (le_of_eq (widths-length s b.tick))

-- a place that borrows has unfinished work, and is given no cores of its own
pub record Borrower (s : Table) (b : Book) (p : ℕ) : Type 0 where
  pub claiming : task_claims s b p ≡ true
  pub unfinished : newest_ended s b p ≡ false
  pub unserved : in_row s b p ≡ false

pub borrower : (s : Table) (b : Book) (p : ℕ) → borrows s b p ≡ true → Borrower s b p
unfolding borrowed seeks
borrower s b p e =
    let h : seeks s b p ≡ true = lent-seeks (widths s b.tick) (seeks s b) (offer s b) (length s.tasks) p e in
    let c : Bool = task_claims s b p in
    let u : Bool = newest_ended s b p in
    let works : c && not u ≡ true = and_left (c && not u) (not (in_row s b p)) h in
    record {
      claiming = and_left c (not u) works;
      unfinished = not-true u (and_right c (not u) works);
      unserved = not-true (in_row s b p) (and_right (c && not u) (not (in_row s b p)) h);
    }

-- IN WHICH NO PLACE LENDS

module _ (s : Table) (b : Book) (nothing : (q : ℕ) → offer s b q ≡ []) where
  lent_none : (p : ℕ) → get_or (lent_of s b) p [] ≡ []
  lent_none p = lent_nothing (widths s b.tick) (seeks s b) (offer s b) nothing (length s.tasks) p

  pub borrowed-none : (p : ℕ) → borrowed s b p ≡ []
  unfolding borrowed
  borrowed-none = lent_none

  pub borrows-none : (p : ℕ) → borrows s b p ≡ false
  borrows-none p = ap some (borrowed-none p)

  pub not-borrowing : (p k : ℕ) → borrowing s b p k ≡ false
  unfolding borrowing
  not-borrowing p k = rw (borrows-none p) (and-false (job_claims s b p k))

  -- the row shows the cores that are given
  pub shown-given : shown_of s b ≡ grants_of s b
  shown-given =
      shown-own (grants_of s b) (lent_of s b)
      (lent_length (widths s b.tick) (seeks s b) (offer s b) (length s.tasks)
      ∙ sym (grants-length s.rule (widths s b.tick) (task_claims s b) (unfenced_cores s)))
      lent_none

-- those of rules 1 to 3
pub offer-none : (s : Table) (b : Book) → lends s.rule ≡ false → (q : ℕ) → offer s b q ≡ []
unfolding offer
offer-none s b e q = rw e

-- and under any rule a book in which every job that has ended has claimed C ticks
pub offer-whole :
    (s : Table) (b : Book) → ((p k : ℕ) → (b.job p k).ended ≡ true → (task s p).length ≤ (b.job p k).claimed)
    → (q : ℕ) → offer s b q ≡ []
unfolding offer
offer-whole s b h q = go (newest_ended s b q) refl
  where
    same : (t : Bool) → cond {A = List ℕ} t [] [] ≡ []
    same true = refl
    same false = refl

    go : (t : Bool) → newest_ended s b q ≡ t → cond (lends s.rule && t) (get_or (grants_of s b) q []) [] ≡ []
    go false e = rw (and-false (lends s.rule))
    go true e =
        let k : ℕ = newest (task s q) b.tick in
        rw (grants-none s.rule (widths s b.tick) (task_claims s b) (unfenced_cores s) q (done-off s.rule (task s q) k b.tick (b.job q k) e (h q k e)))
        (same (lends s.rule && true))
