-- A list of entries, one more at its end; and in words.
use mathlib.Core.Path.{◌≡◌, refl, sym, ap, subst₂, ◌∙◌}
use mathlib.Core.Bool.{Bool, true, false, not, true≢false}
use mathlib.Core.Logic.{inl, inr}
use mathlib.Core.List.{List, [], ◌∷◌, ◌++◌, map}
use Prim.Native.Nat.{ℕ, zero, suc, ◌+◌, ◌*◌, ◌%◌, ◌<◌}
use native.Mathlib.Nat.{zero-add, not-suc-le-zero, le_of_suc-le-suc}
use native.Mathlib.Omega.{arith}
use native.Mathlib.Numerals.{add-one}
use lib.ListN.{length, get_or, take, drop, length-map}
use lib.Seq.{ext_get_or, get_or-take, get_or-drop}
use Rattle.std.specs.Simd.{first_chunks}
use Rattle.std.proofs.lemmas.List.{drop-drop}
use borrow.Author.Tests.{not-false, not-true}
use Rattle.model.specs.Advance.{Entry, advance, withdraw, withdraw_all}
use Rattle.model.specs.Lists.{no_reports}
use Rattle.model.proofs.Lists.{map_at, map_more, up_at, up-length, up_more}
use Rattle.std.proofs.lemmas.Bool.{false_from_ne_true}
use Rattle.model.proofs.Search.{none_any, none-at}
use Rattle.model.specs.Search.{any, up_from}
use Rattle.table.proofs.Decide.{Decides, decides_and, decides_or, decides_eq}
use Rattle.run.specs.declared.Run.{Run}
use Rattle.run.specs.Answer.{Answer}
use Rattle.run.specs.Answer.{answer_meaning}
use Rattle.refinement.specs.Entries.{entry_of, answers, run_after_list}
use Rattle.refinement.specs.Listing.{IsEntry, is_entry, Listed, listed, entry_count, entry_kind_at, entry_second_at, entry_by, entry_at, entries_in}
use Rattle.refinement.specs.Replay.{code, codes}

pub after_more : (r : Run) (xs : List Entry) (x : Entry) → run_after_list r (xs ++ (x ∷ [])) ≡ (entry_of (run_after_list r xs) x).run
unfolding run_after_list
after_more r [] x = refl
after_more r (y ∷ xs) x = after_more (entry_of r y).run xs x

answers-more : (r : Run) (xs : List Entry) (x : Entry) → answers r (xs ++ (x ∷ [])) ≡ answers r xs ++ ((entry_of (run_after_list r xs) x).answer ∷ [])
unfolding run_after_list answers
answers-more r [] x = refl
answers-more r (y ∷ xs) x = ap (λ (l : List Answer). (entry_of r y).answer ∷ l) (answers-more (entry_of r y).run xs x)

length-answers : (r : Run) (xs : List Entry) → length (answers r xs) ≡ length xs
unfolding answers
length-answers r [] = refl
length-answers r (x ∷ xs) = ap suc (length-answers (entry_of r x).run xs)

-- the numbers of the answers
abbrev coded : Answer → ℕ
coded a = code (answer_meaning a)

pub codes-more : (r : Run) (xs : List Entry) (x : Entry) → codes r (xs ++ (x ∷ [])) ≡ codes r xs ++ (code (answer_meaning (entry_of (run_after_list r xs) x).answer) ∷ [])
codes-more r xs x = ap (map coded) (answers-more r xs x) ∙ map_more coded (answers r xs) (entry_of (run_after_list r xs) x).answer

pub length-codes : (r : Run) (xs : List Entry) → length (codes r xs) ≡ length xs
length-codes r xs = length-map (answers r xs) coded ∙ length-answers r xs

-- IN WORDS

-- the first i entries, one more
pub entries-more : (es : List ℕ) (i : ℕ) → map (entry_at es) (up_from 0 (i + 1)) ≡ map (entry_at es) (up_from 0 i) ++ (entry_at es i ∷ [])
entries-more es i =
    ap (λ (n : ℕ). map (entry_at es) (up_from 0 n)) (add-one i)
    ∙ (ap (map (entry_at es)) (up_more 0 i ∙ ap (λ (n : ℕ). up_from 0 i ++ (n ∷ [])) (zero-add i)) ∙ map_more (entry_at es) (up_from 0 i) i)

pub length-entries : (es : List ℕ) (i : ℕ) → length (map (entry_at es) (up_from 0 i)) ≡ i
length-entries es i = length-map (up_from 0 i) (entry_at es) ∙ up-length 0 i

-- a chunk is the words from its first on
pub chunk_at : (n k : ℕ) (xs : List ℕ) (i : ℕ) → i < k → get_or (first_chunks n k xs) i [] ≡ take n (drop (n * i) xs)
chunk_at n zero xs i l = absurd (omega arith)
chunk_at n (suc k) xs zero l = let z : n * 0 ≡ 0 = omega arith in ap (λ (m : ℕ). take n (drop m xs)) (sym z)
chunk_at n (suc k) xs (suc i) l =
    let e : n + n * i ≡ n * suc i = omega arith in
    chunk_at n k (drop n xs) i (omega arith) ∙ ap (take n) (drop-drop (n * i) n xs ∙ ap (λ (m : ℕ). drop m xs) e)

-- .. word by word
pub chunk_word : (n k : ℕ) (xs : List ℕ) (cs : List (List ℕ)) → cs ≡ first_chunks n k xs → (i j : ℕ) → i < k → j < n → get_or (get_or cs i []) j 0 ≡ get_or xs (n * i + j) 0
chunk_word n k xs cs are i j l m =
    ap (λ (c : List ℕ). get_or c j 0) (ap (λ (ds : List (List ℕ)). get_or ds i []) are ∙ chunk_at n k xs i l)
    ∙ (get_or-take n (drop (n * i) xs) j 0 m ∙ get_or-drop (n * i) xs j 0)

-- the entry that a chunk of three is
pub entry-chunk :
    (es : List ℕ) (cs : List (List ℕ)) → cs ≡ first_chunks 3 (entry_count es) es → (i : ℕ) → i < entry_count es
    → entry_by (get_or (get_or cs i []) 0 0) (get_or (get_or cs i []) 1 0) (get_or (get_or cs i []) 2 0) ≡ entry_at es i
entry-chunk es cs are i l =
    let word : (j : ℕ) → j < 3 → get_or (get_or cs i []) j 0 ≡ get_or es (3 * i + j) 0 = λ j m. chunk_word 3 (entry_count es) es cs are i j l m in
    let kind : get_or (get_or cs i []) 0 0 ≡ entry_kind_at es i = word 0 (omega arith) ∙ (let e : 3 * i + 0 ≡ 3 * i = omega arith in ap (λ (n : ℕ). get_or es n 0) e) in
    (λ j. entry_by (kind j) (word 1 (omega arith) j) (word 2 (omega arith) j))

-- the test decides whether words are an entry's
pub is-entry-decides : (kind b : ℕ) → Decides (is_entry kind b) (IsEntry kind b)
is-entry-decides kind b =
    decides_or _ _ _ _ (decides_eq kind 0)
    (decides_and _ _ _ _ (decides_or _ _ _ _ (decides_eq kind 1) (decides_eq kind 2)) (decides_eq b 0))

-- the test decides whether the words are a list of entries
pub listed-decides : (es : List ℕ) → Decides (listed es) (Listed es)
unfolding listed
listed-decides es = decides_and _ _ _ _ (decides_eq (length es % 3) 0) (all-decides, all_found)
  where
    other : ℕ → Bool
    other i = not (is_entry (entry_kind_at es i) (entry_second_at es i))

    all-decides : not (any (entry_count es) other) ≡ true → (i : ℕ) → i < entry_count es → IsEntry (entry_kind_at es i) (entry_second_at es i)
    all-decides e i l =
        (is-entry-decides (entry_kind_at es i) (entry_second_at es i)).0
        (not-false (is_entry (entry_kind_at es i) (entry_second_at es i)) (none-at (entry_count es) other i (not-true (any (entry_count es) other) e) l))

    all_found : ((i : ℕ) → i < entry_count es → IsEntry (entry_kind_at es i) (entry_second_at es i)) → not (any (entry_count es) other) ≡ true
    all_found h = ap not (none_any (entry_count es) other (λ i l. ap not ((is-entry-decides (entry_kind_at es i) (entry_second_at es i)).1 (h i l))))

-- words over, or words that are no entry's: no list of entries
pub not-listed-over : (es : List ℕ) → (length es % 3 ≡ 0 → ⊥) → listed es ≡ false
not-listed-over es n = false_from_ne_true (listed es) (λ e. n ((listed-decides es).0 e).0)

pub not-listed-at : (es : List ℕ) (i : ℕ) → i < entry_count es → is_entry (entry_kind_at es i) (entry_second_at es i) ≡ false → listed es ≡ false
not-listed-at es i l n =
    false_from_ne_true (listed es) (λ e. true≢false (sym ((is-entry-decides (entry_kind_at es i) (entry_second_at es i)).1 (((listed-decides es).0 e).1 i l)) ∙ n))

-- a list of entries in words
unfoldable pub listing : List Entry → List ℕ
listing [] = []
listing (advance x e ∷ xs) = 0 ∷ x ∷ e ∷ listing xs
listing (withdraw p ∷ xs) = 1 ∷ p ∷ 0 ∷ listing xs
listing (withdraw_all x ∷ xs) = 2 ∷ x ∷ 0 ∷ listing xs

length-listing : (xs : List Entry) → length (listing xs) ≡ 3 * length xs
unfolding listing
length-listing [] = refl
length-listing (advance x e ∷ xs) = omega (arith, length-listing xs)
length-listing (withdraw p ∷ xs) = omega (arith, length-listing xs)
length-listing (withdraw_all x ∷ xs) = omega (arith, length-listing xs)

-- what is after three words is three words on
further :
    (a b c : ℕ) (ws : List ℕ) (i : ℕ) (x : Entry) → IsEntry (entry_kind_at ws i) (entry_second_at ws i) × (entry_at ws i ≡ x)
    → IsEntry (entry_kind_at (a ∷ b ∷ c ∷ ws) (suc i)) (entry_second_at (a ∷ b ∷ c ∷ ws) (suc i)) × (entry_at (a ∷ b ∷ c ∷ ws) (suc i) ≡ x)
further a b c ws i x h = (
  subst₂ IsEntry (sym kind) (sym second) h.0,
  (λ j. entry_by (kind j) (first j) (second j)) ∙ h.1,
)
  where
    word : ℕ → ℕ
    word n = get_or (a ∷ b ∷ c ∷ ws) n 0

    kind : word (3 * suc i) ≡ get_or ws (3 * i) 0
    kind = let e : 3 * suc i ≡ suc (suc (suc (3 * i))) = omega arith in ap word e

    first : word (3 * suc i + 1) ≡ get_or ws (3 * i + 1) 0
    first = let e : 3 * suc i + 1 ≡ suc (suc (suc (3 * i + 1))) = omega arith in ap word e

    second : word (3 * suc i + 2) ≡ get_or ws (3 * i + 2) 0
    second = let e : 3 * suc i + 2 ≡ suc (suc (suc (3 * i + 2))) = omega arith in ap word e

-- each entry is in its three words
listing-at :
    (xs : List Entry) (i : ℕ) → i < length xs
    → IsEntry (entry_kind_at (listing xs) i) (entry_second_at (listing xs) i) × (entry_at (listing xs) i ≡ get_or xs i no_reports)
unfolding listing
listing-at [] i l = absurd (not-suc-le-zero l)
listing-at (advance x e ∷ xs) zero l = (inl refl, refl)
listing-at (withdraw p ∷ xs) zero l = (inr (inl refl, refl), refl)
listing-at (withdraw_all x ∷ xs) zero l = (inr (inr refl, refl), refl)
listing-at (advance x e ∷ xs) (suc i) l = further 0 x e (listing xs) i (get_or xs i no_reports) (listing-at xs i (le_of_suc-le-suc l))
listing-at (withdraw p ∷ xs) (suc i) l = further 1 p 0 (listing xs) i (get_or xs i no_reports) (listing-at xs i (le_of_suc-le-suc l))
listing-at (withdraw_all x ∷ xs) (suc i) l = further 2 x 0 (listing xs) i (get_or xs i no_reports) (listing-at xs i (le_of_suc-le-suc l))

-- LAW: every list of entries is encoded in words, and decoded from them (the first half is cited by none: it states what `listing` promises)
pub listing-listed : (xs : List Entry) → Listed (listing xs)
listing-listed xs =
    let n = length-listing xs in
    (omega (arith, n), λ i l. (listing-at xs i (omega (arith, n))).0)

pub entries-listing : (xs : List Entry) → entries_in (listing xs) ≡ xs
entries-listing xs =
    ext_get_or no_reports (entries_in (listing xs)) xs (length-entries (listing xs) (entry_count (listing xs)) ∙ omega (arith, length-listing xs))
    (λ i l.
    let n = length-entries (listing xs) (entry_count (listing xs)) in
    let m : i < entry_count (listing xs) = omega (arith, n) in
    map_at (entry_at (listing xs)) (up_from 0 (entry_count (listing xs))) i no_reports 0 (rw (up-length 0 (entry_count (listing xs))) m)
    ∙ (ap (entry_at (listing xs)) (up_at 0 (entry_count (listing xs)) i 0 m ∙ zero-add i) ∙ (listing-at xs i (omega (arith, length-listing xs))).1))
