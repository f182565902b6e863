-- Laws of marked rows: byte by byte, one core or one set more, and the row of the model where no core has two holders.
use mathlib.Core.Path.{◌≡◌, refl, sym, ap, ap₂, ◌∙◌}
use mathlib.Core.Bool.{Bool, true, false, ◌&&◌, ◌||◌, cond, false≢true}
use mathlib.Core.List.{List, [], ◌∷◌, ◌++◌, map}
use Prim.Native.Nat.{ℕ, suc, ◌+◌, ◌-◌, ◌≤◌, ◌<◌}
use native.Mathlib.Nat.{zero-add}
use native.Mathlib.Omega.{arith}
use lib.ListN.{length, get_or, drop, set, replicate, length-replicate, get_or-replicate, length-set, length-map, length-append, drop_of_length-le, get_or-eq_default, get_or-append}
use lib.Seq.{ext_get_or, get_or-append-add, drop-cons, get_or-set_same, get_or-set_other}
use lib.Dec.{eqb, ltb}
use borrow.Author.Tests.{eqb-true, eqb-false, ne_eqb, ltb-true, ltb-false}
use Rattle.model.specs.Search.{bit, member, up_from}
use Rattle.model.specs.Row.{byte_of, owner, row}
use Rattle.model.specs.Sizes.{fenced_byte}
use Rattle.std.proofs.lemmas.Bool.{false_from_ne_true}
use Rattle.model.proofs.Rows.{row-length}
use Rattle.model.proofs.Lists.{up-length}
use Rattle.cores.specs.Cores.{cores}
use Rattle.rule.specs.Marked.{marked, shown_bytes}
use Rattle.cores.proofs.Ascending.{get_d-up, In}
use Rattle.cores.proofs.Cores.{cores-none}
use Rattle.rule.proofs.Granting.{Apart}

-- ---- one mark

pub length_marked : (start : List ℕ) (mark : ℕ) (l : List ℕ) → length (marked start mark l) ≡ length start
unfolding marked
length_marked start mark l = length-map (up_from 0 (length start)) (λ c. cond (member c l) mark (get_or start c 0)) ∙ up-length 0 (length start)

-- each byte
pub marked-at : (start : List ℕ) (mark : ℕ) (l : List ℕ) (c : ℕ) → c < length start → get_or (marked start mark l) c 0 ≡ cond (member c l) mark (get_or start c 0)
unfolding marked
marked-at start mark l c h =
    get_d-up (λ c. cond (member c l) mark (get_or start c 0)) 0 0 (length start) c h ∙ ap (λ (i : ℕ). cond (member i l) mark (get_or start i 0)) (zero-add c)

pub marked-none : (start : List ℕ) (mark : ℕ) → marked start mark [] ≡ start
unfolding member
marked-none start mark = ext_get_or 0 (marked start mark []) start (length_marked start mark []) (λ c h. marked-at start mark [] c (omega (arith, length_marked start mark [])))

-- one core more
pub marked_more : (start : List ℕ) (mark x : ℕ) (l : List ℕ) → marked start mark (x ∷ l) ≡ marked (set start x mark) mark l
unfolding member
marked_more start mark x l =
    let n = length_marked start mark (x ∷ l) in
    let m = length-set start x mark in
    ext_get_or 0 (marked start mark (x ∷ l)) (marked (set start x mark) mark l) (n ∙ sym m ∙ sym (length_marked (set start x mark) mark l)) (λ c h.
    marked-at start mark (x ∷ l) c (omega (arith, n)) ∙ here c (omega (arith, n)) (eqb c x) refl ∙ sym (marked-at (set start x mark) mark l c (omega (arith, n, m))))
  where
    either : (t : Bool) → mark ≡ cond t mark mark
    either true = refl
    either false = refl

    here : (c : ℕ) → c < length start → (t : Bool) → eqb c x ≡ t → cond (t || member c l) mark (get_or start c 0) ≡ cond (member c l) mark (get_or (set start x mark) c 0)
    here c h true e =
        let i : c ≡ x = eqb-true c x e in
        either (member c l) ∙ ap (cond (member c l) mark) (sym (ap (λ (j : ℕ). get_or (set start x mark) j 0) i ∙ get_or-set_same start x mark 0 (omega arith)))
    here c h false e = ap (cond (member c l) mark) (sym (get_or-set_other start x c mark 0 (eqb-false c x e)))

-- ---- one set further along a list of sets

-- past the end there is nothing to show, as for a set of nothing
pub shown-next : (start : List ℕ) (p i : ℕ) (sets : List ℕ)
    → shown_bytes start p (map cores (drop i sets)) ≡ shown_bytes (marked start p (cores (get_or sets i 0))) (suc p) (map cores (drop (suc i) sets))
unfolding shown_bytes
shown-next start p i sets = go (ltb i (length sets)) refl
  where
    go : (t : Bool) → ltb i (length sets) ≡ t → shown_bytes start p (map cores (drop i sets)) ≡ shown_bytes (marked start p (cores (get_or sets i 0))) (suc p) (map cores (drop (suc i) sets))
    go true e = ap (λ (l : List ℕ). shown_bytes start p (map cores l)) (drop-cons sets i 0 (ltb-true i (length sets) e))
    go false e =
        let h : length sets ≤ i = ltb-false i (length sets) e in
        let k : length sets ≤ suc i = omega arith in
        ap (λ (l : List ℕ). shown_bytes start p (map cores l)) (drop_of_length-le sets h)
        ∙ sym (ap (λ (l : List ℕ). shown_bytes (marked start p (cores (get_or sets i 0))) (suc p) (map cores l)) (drop_of_length-le sets k)
        ∙ ap (marked start p) (ap cores (get_or-eq_default sets 0 h) ∙ cores-none) ∙ marked-none start p)

pub shown-end : (start : List ℕ) (p i : ℕ) (sets : List ℕ) → length sets ≤ i → shown_bytes start p (map cores (drop i sets)) ≡ start
unfolding shown_bytes
shown-end start p i sets h = ap (λ (l : List ℕ). shown_bytes start p (map cores l)) (drop_of_length-le sets h)

-- ---- where no core is in two lists, the row shows the position that has each core

pub length-shown : (start : List ℕ) (p : ℕ) (gs : List (List ℕ)) → length (shown_bytes start p gs) ≡ length start
unfolding shown_bytes
length-shown start p [] = refl
length-shown start p (g ∷ gs) = length-shown (marked start p g) (suc p) gs ∙ length_marked start p g

module _ (c : ℕ) where
  -- c is in none of the lists
  abbrev Absent : List (List ℕ) → Type 0
  Absent gs = (j : ℕ) → In c (get_or gs j []) → ⊥

  none-holds : (p : ℕ) (gs : List (List ℕ)) → Absent gs → owner c p gs ≡ 0
  unfolding owner
  none-holds p [] h = refl
  none-holds p (g ∷ gs) h = rw (false_from_ne_true (member c g) (h 0)) (none-holds (suc p) gs (λ j. h (suc j)))

  unmarked : (start : List ℕ) (p : ℕ) (gs : List (List ℕ)) → c < length start → Absent gs → get_or (shown_bytes start p gs) c 0 ≡ get_or start c 0
  unfolding shown_bytes
  unmarked start p [] h k = refl
  unmarked start p (g ∷ gs) h k =
      unmarked (marked start p g) (suc p) gs (omega (arith, length_marked start p g)) (λ j. k (suc j))
      ∙ marked-at start p g c h ∙ ap (λ (t : Bool). cond t p (get_or start c 0)) (false_from_ne_true (member c g) (k 0))

  -- each byte: the owner's position, or the byte of the start row where no one holds the core
  pub shown-at : (start : List ℕ) (p : ℕ) (gs : List (List ℕ)) → 0 < p → c < length start → Apart gs
      → get_or (shown_bytes start p gs) c 0 ≡ cond (eqb (owner c p gs) 0) (get_or start c 0) (owner c p gs)
  unfolding shown_bytes owner
  shown-at start p [] o h a = refl
  shown-at start p (g ∷ gs) o h a = go (member c g) refl (shown-at (marked start p g) (suc p) gs (omega arith) (omega (arith, length_marked start p g)) (λ c i j l. a c (suc i) (suc j) (omega arith)))
    where
      go : (t : Bool) → member c g ≡ t
          → get_or (shown_bytes (marked start p g) (suc p) gs) c 0 ≡ cond (eqb (owner c (suc p) gs) 0) (get_or (marked start p g) c 0) (owner c (suc p) gs)
          → get_or (shown_bytes (marked start p g) (suc p) gs) c 0 ≡ cond (eqb (cond t p (owner c (suc p) gs)) 0) (get_or start c 0) (cond t p (owner c (suc p) gs))
      go true e ih =
          unmarked (marked start p g) (suc p) gs (omega (arith, length_marked start p g)) (λ j k. a c 0 (suc j) (omega arith) e k)
          ∙ marked-at start p g c h ∙ ap (λ (t : Bool). cond t p (get_or start c 0)) e
          ∙ ap (λ (t : Bool). cond t (get_or start c 0) p) (sym (ne_eqb p 0 (λ z. omega arith)))
      go false e ih =
          ih ∙ ap (λ (x : ℕ). cond (eqb (owner c (suc p) gs) 0) x (owner c (suc p) gs)) (marked-at start p g c h ∙ ap (λ (t : Bool). cond t p (get_or start c 0)) e)

-- ---- the model's row: over zeros, with the fence's mark on the list F of the fenced cores below m

module _ (n m f : ℕ) (F : List ℕ) (few : m ≤ n) (fenced : (c : ℕ) → c < n → member c F ≡ ltb c m && bit f c) where
  abbrev ground : List ℕ
  ground = marked (replicate n 0) fenced_byte F

  ground-length : length ground ≡ n
  ground-length = length_marked (replicate n 0) fenced_byte F ∙ length-replicate {A = ℕ} n 0

  ground-at : (c : ℕ) → c < n → get_or ground c 0 ≡ cond (ltb c m && bit f c) fenced_byte 0
  ground-at c l =
      marked-at (replicate n 0) fenced_byte F c (omega (arith, length-replicate {A = ℕ} n 0))
      ∙ ap₂ (λ (t : Bool) (x : ℕ). cond t fenced_byte x) (fenced c l) (get_or-replicate n c 0 0 l)

  -- the first m bytes are the model's row, and the others 0, where all cores that are given are below m and outside the fence
  pub shown-row : (gs : List (List ℕ)) → Apart gs → ((c j : ℕ) → In c (get_or gs j []) → (c < m) × (bit f c ≡ false))
      → shown_bytes ground 1 gs ≡ row f m gs ++ replicate (n - m) 0
  unfolding row
  shown-row gs a k =
      let s : length (shown_bytes ground 1 gs) ≡ n = length-shown ground 1 gs ∙ ground-length in
      let t : length front ≡ m = row-length f m gs in
      ext_get_or 0 (shown_bytes ground 1 gs) (front ++ replicate (n - m) 0)
      (omega (arith, s, t, length-append front (replicate (n - m) 0), length-replicate {A = ℕ} (n - m) 0))
      (λ c l. let h : c < n = omega (arith, s) in
      shown-at c ground 1 gs (omega arith) (omega (arith, ground-length)) a
      ∙ ap (λ (x : ℕ). cond (eqb (owner c 1 gs) 0) x (owner c 1 gs)) (ground-at c h)
      ∙ (here c (ltb c m) refl (bit f c) refl ∙ sym (behind c t h (ltb c m) refl)))
    where
      front : List ℕ
      front = map (byte_of f gs) (up_from 0 m)

      -- no place holds a core past the count or in the fence
      none : (c : ℕ) → ((c < m) × (bit f c ≡ false) → ⊥) → owner c 1 gs ≡ 0
      none c x = none-holds c 1 gs (λ j i. x (k c j i))

      kept-zero : (x : ℕ) (t : Bool) → eqb x 0 ≡ t → cond t 0 x ≡ x
      kept-zero x true e = sym (eqb-true x 0 e)
      kept-zero x false e = refl

      here : (c : ℕ) (t : Bool) → ltb c m ≡ t → (u : Bool) → bit f c ≡ u
          → cond (eqb (owner c 1 gs) 0) (cond (t && u) fenced_byte 0) (owner c 1 gs) ≡ cond t (cond u fenced_byte (owner c 1 gs)) 0
      here c true e true o = rw (none c (λ x. false≢true (sym x.1 ∙ o)))
      here c true e false o = kept-zero (owner c 1 gs) (eqb (owner c 1 gs) 0) refl
      here c false e u o = rw (none c (λ x. let y = ltb-false c m e in omega (arith, x.0)))

      behind : (c : ℕ) → length front ≡ m → c < n → (t : Bool) → ltb c m ≡ t
          → get_or (front ++ replicate (n - m) 0) c 0 ≡ cond t (cond (bit f c) fenced_byte (owner c 1 gs)) 0
      behind c t l true e =
          let q : c < m = ltb-true c m e in
          get_or-append front (replicate (n - m) 0) 0 c (omega arith)
          ∙ get_d-up (byte_of f gs) 0 0 m c q ∙ ap (byte_of f gs) (zero-add c)
      behind c t l false e =
          let q : m ≤ c = ltb-false c m e in
          let z : c ≡ length front + (c - m) = omega arith in
          ap (λ (i : ℕ). get_or (front ++ replicate (n - m) 0) i 0) z
          ∙ get_or-append-add front (replicate (n - m) 0) (c - m) 0
          ∙ get_or-replicate (n - m) (c - m) 0 0 (omega arith)
