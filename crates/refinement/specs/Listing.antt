-- A list of entries in words, three words an entry: (0, reports, empties) is an advance with its two sets (request 105), (1, position, 0) is a
-- withdrawal (request 106), (2, set, 0) is one of several positions together (request 113).
use Rattle.std.specs.Prelude.{◌≡◌, Bool, not, ◌&&◌, ◌||◌, cond, List, map, ◌⊎◌, ℕ, ◌+◌, ◌*◌, ◌/◌, ◌%◌, ◌<◌, length, get_or, eqb}
use Rattle.model.specs.Advance.{Entry, advance, withdraw, withdraw_all}
use Rattle.model.specs.Search.{any, up_from}

-- the number of entries
abbrev pub entry_count : List ℕ → ℕ
entry_count es = length es / 3

-- entry i is in words 3i to 3i + 2; the first is its kind
abbrev pub entry_kind_at : List ℕ → ℕ → ℕ
entry_kind_at es i = get_or es (3 * i) 0

abbrev pub entry_first_at : List ℕ → ℕ → ℕ
entry_first_at es i = get_or es (3 * i + 1) 0

abbrev pub entry_second_at : List ℕ → ℕ → ℕ
entry_second_at es i = get_or es (3 * i + 2) 0

-- the entry that three words represent
abbrev pub entry_by : ℕ → ℕ → ℕ → Entry
entry_by kind a b = cond (eqb kind 0) (advance a b) (cond (eqb kind 1) (withdraw a) (withdraw_all a))

abbrev pub entry_at : List ℕ → ℕ → Entry
entry_at es i = entry_by (entry_kind_at es i) (entry_first_at es i) (entry_second_at es i)

-- the entries
abbrev pub entries_in : List ℕ → List Entry
entries_in es = map (entry_at es) (up_from 0 (entry_count es))

-- words of this kind with this last word are an entry's: an advance's, or a withdrawal's, whose last word is 0; and the test (`is-entry-decides`)
abbrev pub IsEntry : ℕ → ℕ → Type 0
IsEntry kind b = (kind ≡ 0) ⊎ (((kind ≡ 1) ⊎ (kind ≡ 2)) × (b ≡ 0))

abbrev pub is_entry : ℕ → ℕ → Bool
is_entry kind b = eqb kind 0 || ((eqb kind 1 || eqb kind 2) && eqb b 0)

-- the words are a list of entries: three words each, none over, each an entry's
abbrev pub Listed : List ℕ → Type 0
Listed es = (length es % 3 ≡ 0) × ((i : ℕ) → i < entry_count es → IsEntry (entry_kind_at es i) (entry_second_at es i))

-- the test (`listed-decides`)
unfoldable pub listed : List ℕ → Bool
listed es = eqb (length es % 3) 0 && not (any (entry_count es) (λ i. not (is_entry (entry_kind_at es i) (entry_second_at es i))))
