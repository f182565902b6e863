-- Numbers in decimal, as bytes: `0` is byte 48 and `9` is byte 57.
use Rattle.std.specs.Prelude.{Bool, true, ◌&&◌, cond, List, [], ◌∷◌, ◌++◌, ℕ, zero, suc, ◌+◌, ◌*◌, ◌-◌, ◌/◌, ◌%◌, ◌^◌, ◌≤◌, ◌<◌, length, get_or, leb, ltb}

-- every element of the list passes the test
unfoldable pub all : {A : Type 0} → (A → Bool) → List A → Bool
all f [] = true
all f (x ∷ xs) = f x && all f xs

-- a byte is a digit
abbrev pub Digit : ℕ → Type 0
Digit b = (48 ≤ b) × (b ≤ 57)

-- .. the test (`digits-exact`)
abbrev pub is_digit : ℕ → Bool
is_digit b = leb 48 b && leb b 57

-- every byte is a digit
abbrev pub Digits : List ℕ → Type 0
Digits ds = (i : ℕ) → i < length ds → Digit (get_or ds i 0)

-- the number that digits represent: a digit with n digits after it counts 10^n times its own value
unfoldable pub value : List ℕ → ℕ
value [] = 0
value (d ∷ ds) = (d - 48) * 10 ^ length ds + value ds

-- the last k digits of n, zeros in front where n has fewer
unfoldable pub last_digits : ℕ → ℕ → List ℕ
last_digits zero n = []
last_digits (suc k) n = last_digits k (n / 10) ++ ((48 + n % 10) ∷ [])

-- the number of digits of n, at most k
unfoldable pub digits_within : ℕ → ℕ → ℕ
digits_within zero n = 0
digits_within (suc k) n = let more = suc (digits_within k (n / 10)) in cond (ltb n 10) 1 more

-- the number of digits of n: 1 below 10, else one more than n / 10 has (`count-one`, `count-more`)
unfoldable pub digit_count : ℕ → ℕ
digit_count n = digits_within (suc n) n

-- n in decimal: all of its digits, no zeros in front, and `0` for 0; it represents n, and no other such digits do (`decimal-value`, `decimal-only`)
unfoldable pub decimal : ℕ → List ℕ
decimal n = last_digits (digit_count n) n
