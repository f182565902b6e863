-- Fenced cores: the verdict is that of the table with just its unfenced cores, and the rows are that table's rows spread over them.
use mathlib.Core.Bool.{Bool, ◌&&◌, cond, false, not, true, ◌||◌}
use mathlib.Core.List.{List, [], map, ◌++◌, ◌∷◌}
use mathlib.Core.Path.{ap, ap₂, fun_ext, refl, sym, ◌∙◌, ◌≡◌}
use Prim.Native.Nat.{◌+◌, ◌<◌, suc, zero, ℕ, ◌≤◌}
use native.Mathlib.Nat.{add-zero, le_dest, not-suc-le-zero, zero-add}
use native.Mathlib.Omega.{arith}
use lib.Dec.{ltb}
use lib.ListN.{get_or, length, length-append, length-map}
use lib.Seq.{ext_get_or, get_or-append_seam}
use borrow.Author.Tests.{lt-ltb, ltb-true}
use Rattle.model.proofs.Digits.{bit-none}
use Rattle.model.proofs.Lists.{map_at, up_at, up-length}
use Rattle.model.proofs.Renumbered.{at_map, grants-map, lent_map, owner-map, shown-map, some-map}
use Rattle.model.proofs.Search.{any_same}
use Rattle.model.specs.Jobs.{Book}
use Rattle.model.specs.Claims.{borrowed, borrowing, borrows}
use Rattle.model.specs.Advance.{step, work, work_lent, Entry, advance, after_taken}
use Rattle.model.specs.Refusals.{Answer, answer}
use Rattle.model.specs.Lists.{answers_from, book, book_from}
use Rattle.model.specs.Jobs.{emptied, empty_book, empty_in}
use Rattle.model.specs.Claims.{grants_of, in_row, lent_of, newest_ended}
use Rattle.model.specs.Refusals.{emptiable, late, wrong_empties, wrong_reports}
use Rattle.model.specs.Lists.{enter, full}
use Rattle.model.specs.Claims.{offer, book_row, seeks, served, shown_of, task_claims, widths}
use Rattle.model.specs.Advance.{withdraw, withdraw_all}
use Rattle.model.specs.Refusals.{reportable, unknown_positions}
use Rattle.model.specs.Lists.{no_places}
use Rattle.model.specs.Fence.{unfenced_table, unfenced_cores, outside, spread, unfenced}
use Rattle.model.specs.Grants.{claimants, grants, some}
use Rattle.model.specs.Horizon.{horizon}
use Rattle.model.specs.Lending.{lends, shown_cores}
use Rattle.model.specs.Row.{byte_of, owner, row}
use Rattle.model.specs.Search.{bit, filtered, cons_if, up_from}
use Rattle.model.specs.Task.{Table, task}
use Rattle.model.specs.Verdict.{first_miss, missed_at, missed_in, verdict}

-- THE UNFENCED CORES

abbrev pub AscendingList : List ℕ → Type 0
AscendingList F = (i j : ℕ) → i < j → j < length F → get_or F i 0 < get_or F j 0

-- the cores of a list ascend, from i up to below m
pub record Up (i m : ℕ) (F : List ℕ) : Type 0 where
  pub rising : AscendingList F
  pub from : (j : ℕ) → j < length F → i ≤ get_or F j 0
  pub below : (j : ℕ) → j < length F → get_or F j 0 < m

kept-up : (f : ℕ → Bool) (i n : ℕ) → Up i (i + n) (filtered f (up_from i n))
unfolding filtered up_from
kept-up f i zero = record { rising = λ a b l g. absurd (not-suc-le-zero g); from = λ j l. absurd (not-suc-le-zero l); below = λ j l. absurd (not-suc-le-zero l) }
kept-up f i (suc n) = go (f i) (kept-up f (suc i) n)
  where
    rest : List ℕ
    rest = filtered f (up_from (suc i) n)

    go : (t : Bool) → Up (suc i) (suc i + n) rest → Up i (i + suc n) (cons_if t i rest)
    go false x = record { rising = x.rising; from = λ j l. omega (arith, x.from j l); below = λ j l. omega (arith, x.below j l) }
    go true x = record { rising = rise; from = above; below = under }
      where
        rise : AscendingList (i ∷ rest)
        rise a zero l g = absurd (not-suc-le-zero l)
        rise zero (suc b) l g = x.from b (omega arith)
        rise (suc a) (suc b) l g = x.rising a b (omega arith) (omega arith)

        above : (j : ℕ) → j < length (i ∷ rest) → i ≤ get_or (i ∷ rest) j 0
        above zero l = omega arith
        above (suc j) l = omega (arith, x.from j (omega arith))

        under : (j : ℕ) → j < length (i ∷ rest) → get_or (i ∷ rest) j 0 < i + suc n
        under zero l = omega arith
        under (suc j) l = omega (arith, x.below j (omega arith))

kept_append : (f : ℕ → Bool) (xs ys : List ℕ) → filtered f (xs ++ ys) ≡ filtered f xs ++ filtered f ys
unfolding filtered
kept_append f [] ys = refl
kept_append f (x ∷ xs) ys = go (f x) (kept_append f xs ys)
  where
    go : (t : Bool) → filtered f (xs ++ ys) ≡ filtered f xs ++ filtered f ys
        → cons_if t x (filtered f (xs ++ ys)) ≡ cons_if t x (filtered f xs) ++ filtered f ys
    go true e = ap {B = List ℕ} (λ l. x ∷ l) e
    go false e = e

up_split : (i a b : ℕ) → up_from i (a + b) ≡ up_from i a ++ up_from (i + a) b
unfolding up_from
up_split i zero b = rw (zero-add b, add-zero i)
up_split i (suc a) b =
    let e : suc i + a ≡ i + suc a = omega arith in
    let n : suc a + b ≡ suc (a + b) = omega arith in
    rw (n, ← e) (ap {B = List ℕ} (λ l. i ∷ l) (up_split (suc i) a b))

-- the place of an unfenced core among the unfenced
pub place_of :
    (f m c : ℕ) → c < m → bit f c ≡ false
    → (length (unfenced f c) < length (unfenced f m)) × (get_or (unfenced f m) (length (unfenced f c)) 0 ≡ c)
unfolding filtered up_from
place_of f m c l o =
    let d = le_dest l in
    let e : m ≡ c + suc d.0 = omega (arith, d.1) in
    let s : unfenced f m ≡ unfenced f c ++ c ∷ outside f (up_from (suc c) d.0) =
    ap (unfenced f) e ∙ (ap (outside f) (up_split 0 c (suc d.0)) ∙ (kept_append (λ b. not (bit f b)) (up_from 0 c) (up_from (0 + c) (suc d.0))
    ∙ rw (zero-add c, o))) in
    rw s (simp length-append (omega arith), get_or-append_seam (unfenced f c) c (outside f (up_from (suc c) d.0)) 0)

-- with no fence every core is unfenced
unfenced-all : (i n : ℕ) → outside 0 (up_from i n) ≡ up_from i n
unfolding filtered up_from
unfenced-all i zero = refl
unfenced-all i (suc n) = rw (bit-none i, unfenced-all (suc i) n)

pub unfenced-count : (n : ℕ) → length (unfenced 0 n) ≡ n
unfenced-count n = ap length (unfenced-all 0 n) ∙ up-length 0 n

map-up : (f g : ℕ → ℕ) (i n : ℕ) → ((c : ℕ) → i ≤ c → c < i + n → f c ≡ g c) → map f (up_from i n) ≡ map g (up_from i n)
unfolding up_from
map-up f g i zero h = refl
map-up f g i (suc n) h = ap₂ (λ (x : ℕ) (l : List ℕ). x ∷ l) (h i (omega arith) (omega arith)) (map-up f g (suc i) n (λ c a b. h c (omega arith) (omega arith)))

-- ONE TABLE AND THE OTHER

module _ (s : Table) where
  abbrev n : ℕ
  n = length (unfenced_cores s)

  ascending-unfenced : Up 0 (0 + s.cores) (unfenced_cores s)
  ascending-unfenced = kept-up (λ c. not (bit s.fence c)) 0 s.cores

  -- the number of the core at a place among the unfenced; past them, numbers of no core
  core : ℕ → ℕ
  core i = cond (ltb i n) (get_or (unfenced_cores s) i 0) (s.cores + i)

  core_at : (i : ℕ) → i < n → core i ≡ get_or (unfenced_cores s) i 0
  unfolding core
  core_at i l = rw (lt-ltb i n l)

  core-apart : (i j : ℕ) → core i ≡ core j → i ≡ j
  unfolding core
  core-apart i j = go (ltb i n) refl (ltb j n) refl
    where
      go : (t : Bool) → ltb i n ≡ t → (u : Bool) → ltb j n ≡ u
          → cond t (get_or (unfenced_cores s) i 0) (s.cores + i) ≡ cond u (get_or (unfenced_cores s) j 0) (s.cores + j) → i ≡ j
      go true p true q e =
          let a : ¬ (i < j) = λ l. omega (arith, ascending-unfenced.rising i j l (ltb-true j n q)) in
          let b : ¬ (j < i) = λ l. omega (arith, ascending-unfenced.rising j i l (ltb-true i n p)) in
          omega arith
      go true p false q e = absurd (omega (arith, ascending-unfenced.below i (ltb-true i n p)))
      go false p true q e = absurd (omega (arith, ascending-unfenced.below j (ltb-true j n q)))
      go false p false q e = omega arith

  open-core : unfenced_cores s ≡ map core (unfenced_cores (unfenced_table s))
  open-core =
      ext_get_or 0 (unfenced_cores s) (map core (up_from 0 n)) (sym (length-map (up_from 0 n) core ∙ up-length 0 n)) each
      ∙ ap (map core) (sym (unfenced-all 0 n))
    where
      each : (i : ℕ) → i < n → get_or (unfenced_cores s) i 0 ≡ get_or (map core (up_from 0 n)) i 0
      each i l =
          sym (map_at core (up_from 0 n) i 0 0 (rw (up-length 0 n) l)
          ∙ (ap core (up_at 0 n i 0 l ∙ zero-add i) ∙ core_at i l))

  -- the cores that are given, offered, borrowed and shown are those of the other table, by these numbers
  core-grants : (b : Book) → grants_of s b ≡ map (map core) (grants_of (unfenced_table s) b)
  core-grants b =
      ap (grants s.rule (claimants (widths s b.tick) (task_claims s b))) open-core
      ∙ grants-map core s.rule (claimants (widths s b.tick) (task_claims s b)) (unfenced_cores (unfenced_table s))

  core-given : (b : Book) (p : ℕ) → get_or (grants_of s b) p [] ≡ map core (get_or (grants_of (unfenced_table s) b) p [])
  core-given b p = ap (λ (l : List (List ℕ)). get_or l p []) (core-grants b) ∙ at_map core (grants_of (unfenced_table s) b) p

  same-in-row : (b : Book) (p : ℕ) → in_row s b p ≡ in_row (unfenced_table s) b p
  same-in-row b p = ap some (core-given b p) ∙ some-map core (get_or (grants_of (unfenced_table s) b) p [])

  same-seeks : (b : Book) (p : ℕ) → seeks s b p ≡ seeks (unfenced_table s) b p
  unfolding seeks
  same-seeks b p = rw (same-in-row b p)

  core-offer : (b : Book) (p : ℕ) → offer s b p ≡ map core (offer (unfenced_table s) b p)
  unfolding offer
  core-offer b p = go (lends s.rule && newest_ended s b p)
    where
      go : (t : Bool) → cond {A = List ℕ} t (get_or (grants_of s b) p []) [] ≡ map core (cond {A = List ℕ} t (get_or (grants_of (unfenced_table s) b) p []) [])
      go true = core-given b p
      go false = refl

  core-lent : (b : Book) → lent_of s b ≡ map (map core) (lent_of (unfenced_table s) b)
  core-lent b =
      lent_map core (widths s b.tick) (seeks s b) (seeks (unfenced_table s) b) (offer s b) (offer (unfenced_table s) b) (same-seeks b) (core-offer b) (length s.tasks)

  core-borrowed : (b : Book) (p : ℕ) → borrowed s b p ≡ map core (borrowed (unfenced_table s) b p)
  unfolding borrowed
  core-borrowed b p = ap (λ (l : List (List ℕ)). get_or l p []) (core-lent b) ∙ at_map core (lent_of (unfenced_table s) b) p

  same-borrows : (b : Book) (p : ℕ) → borrows s b p ≡ borrows (unfenced_table s) b p
  same-borrows b p = ap some (core-borrowed b p) ∙ some-map core (borrowed (unfenced_table s) b p)

  core-shown : (b : Book) → shown_of s b ≡ map (map core) (shown_of (unfenced_table s) b)
  core-shown b = ap₂ shown_cores (core-grants b) (core-lent b) ∙ shown-map core core-apart (grants_of (unfenced_table s) b) (lent_of (unfenced_table s) b)

  same-served : (b : Book) (p k : ℕ) → served s b p k ≡ served (unfenced_table s) b p k
  unfolding served
  same-served b p k = rw (same-in-row b p)

  same-borrowing : (b : Book) (p k : ℕ) → borrowing s b p k ≡ borrowing (unfenced_table s) b p k
  unfolding borrowing
  same-borrowing b p k = rw (same-borrows b p)

  same_step : (f : ℕ → Bool) (b : Book) → step s f b ≡ step (unfenced_table s) f b
  unfolding step
  same_step f b = λ i. record {
    tick = suc b.tick;
    job = λ p k.
        cond (same-served b p k i)
        (work (task s p).length (f p) (b.job p k))
        (cond (same-borrowing b p k i) (work_lent (task s p).length (f p) (b.job p k)) (b.job p k));
    withdrawn = b.withdrawn;
  }

  -- the books of the full-length runs are the same
  pub fence-full : (t : ℕ) → full s t ≡ full (unfenced_table s) t
  unfolding full
  fence-full zero = refl
  fence-full (suc t) = same_step no_places (full s t) ∙ ap (step (unfenced_table s) no_places) (fence-full t)

  same-missed-at : (t : ℕ) → missed_at s t ≡ missed_at (unfenced_table s) t
  unfolding missed_at
  same-missed-at t = fun_ext (λ p. rw (fence-full t))

  same-missed-in : missed_in s ≡ missed_in (unfenced_table s)
  unfolding missed_in
  same-missed-in = fun_ext (λ t. rw (same-missed-at t))

  -- THE THEOREM: the verdict is that of the table with just its unfenced cores
  pub fence-verdict : verdict s ≡ verdict (unfenced_table s)
  unfolding verdict first_miss horizon
  fence-verdict = rw (same-missed-in, fun_ext same-missed-at)

  -- THE ROWS are its rows spread over the unfenced cores
  pub fence-row : (b : Book) → book_row s b ≡ spread s.fence s.cores (book_row (unfenced_table s) b)
  unfolding row spread
  fence-row b =
      map-up (byte_of s.fence (shown_of s b)) spread_byte 0 s.cores (λ c a l. byte c (omega arith) (bit s.fence c) refl)
    where
      small : List ℕ
      small = map (byte_of 0 (shown_of (unfenced_table s) b)) (up_from 0 n)

      spread_byte : ℕ → ℕ
      spread_byte c = cond (bit s.fence c) 255 (get_or small (length (unfenced s.fence c)) 0)

      byte : (c : ℕ) → c < s.cores → (t : Bool) → bit s.fence c ≡ t
          → cond (bit s.fence c) 255 (owner c 1 (shown_of s b)) ≡ cond (bit s.fence c) 255 (get_or small (length (unfenced s.fence c)) 0)
      byte c l true q = rw q
      byte c l false q =
          let k : ℕ = length (unfenced s.fence c) in
          let at = place_of s.fence s.cores c l q in
          let here : get_or (up_from 0 n) k 0 ≡ k = up_at 0 n k 0 at.0 ∙ zero-add k in
          let shown : get_or small k 0 ≡ owner k 1 (shown_of (unfenced_table s) b) =
          map_at (byte_of 0 (shown_of (unfenced_table s) b)) (up_from 0 n) k 0 0 (rw (up-length 0 n) at.0)
          ∙ (ap (byte_of 0 (shown_of (unfenced_table s) b)) here ∙ rw (bit-none k)) in
          rw (q, shown)
          (ap₂ (λ (x : ℕ) (gs : List (List ℕ)). owner x 1 gs) (sym (core_at k at.0 ∙ at.1)) (core-shown b)
          ∙ owner-map core core-apart k 1 (shown_of (unfenced_table s) b))

  -- in the full-length run
  pub fence-rows : (t : ℕ) → book_row s (full s t) ≡ spread s.fence s.cores (book_row (unfenced_table s) (full (unfenced_table s) t))
  fence-rows t = fence-row (full s t) ∙ ap (λ (b : Book). spread s.fence s.cores (book_row (unfenced_table s) b)) (fence-full t)

  -- and in every list: the answers are the same, and so is the book
  same_answer : (b : Book) (x : Entry) → answer s b x ≡ answer (unfenced_table s) b x
  unfolding answer late wrong_reports reportable wrong_empties emptiable emptied unknown_positions
  same_answer b (advance x e) =
      let c : Book = emptied s (empty_in b e) b in
      rw (any_same x (λ p. bit x p && not ((in_row s c p || borrows s c p) && not (newest_ended s c p)))
      (λ p. bit x p && not ((in_row (unfenced_table s) c p || borrows (unfenced_table s) c p) && not (newest_ended s c p)))
      (λ p l. rw (same-in-row c p, same-borrows c p)))
  same_answer b (withdraw p) = refl
  same_answer b (withdraw_all x) = refl

  same_after : (x : Entry) (b : Book) → after_taken s x b ≡ after_taken (unfenced_table s) x b
  unfolding after_taken emptied
  same_after (advance x e) b = same_step (bit x) (emptied s (empty_in b e) b)
  same_after (withdraw p) b = refl
  same_after (withdraw_all x) b = refl

  same-enter : (x : Entry) (b : Book) → enter s x b ≡ enter (unfenced_table s) x b
  unfolding enter
  same-enter x b = rw (same_answer b x, same_after x b)

  same_lists : (xs : List Entry) (b : Book) → (book_from s b xs ≡ book_from (unfenced_table s) b xs) × (answers_from s b xs ≡ answers_from (unfenced_table s) b xs)
  unfolding book_from answers_from
  same_lists [] b = (refl, refl)
  same_lists (x ∷ xs) b =
      let ih = same_lists xs (enter s x b) in
      let e = same-enter x b in (
        ih.0 ∙ ap (λ (c : Book). book_from (unfenced_table s) c xs) e,
        ap₂ (λ (w : Answer) (ws : List Answer). w ∷ ws) (same_answer b x) (ih.1 ∙ ap (λ (c : Book). answers_from (unfenced_table s) c xs) e),
      )

  pub fence-lists : (xs : List Entry) → (book s xs ≡ book (unfenced_table s) xs) × (answers_from s empty_book xs ≡ answers_from (unfenced_table s) empty_book xs)
  fence-lists xs = same_lists xs empty_book

  -- whatever jobs of the present tick are empty
  pub fence-list-rows :
      (xs : List Entry) (e : ℕ → Bool)
      → book_row s (emptied s e (book s xs)) ≡ spread s.fence s.cores (book_row (unfenced_table s) (emptied (unfenced_table s) e (book (unfenced_table s) xs)))
  unfolding emptied
  fence-list-rows xs e =
      fence-row (emptied s e (book s xs))
      ∙ ap (λ (b : Book). spread s.fence s.cores (book_row (unfenced_table s) (emptied s e b))) (fence-lists xs).0
