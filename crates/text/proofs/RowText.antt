-- The text of a row: one core more, and numbers of up to three digits.
use mathlib.Core.List.{List, [], ◌∷◌, ◌++◌, append_assoc, append-nil}
use mathlib.Core.Path.{◌≡◌, refl, ap, sym, ◌∙◌, subst}
use Prim.Native.Nat.{ℕ, suc, ◌+◌, ◌*◌, ◌^◌, ◌/◌, ◌%◌, ◌≤◌, ◌<◌}
use native.Mathlib.Numerals.{add-one}
use native.Mathlib.Omega.{arith}
use lib.ListN.{length, take, drop, get_or, set, length-append, take-append-drop}
use lib.Seq.{take-suc}
use Rattle.text.specs.Decimal.{decimal}
use Rattle.text.specs.Format.{newline}
use Rattle.text.specs.Output.{space, fields, line_of}
use Rattle.text.specs.Written.{Put}
use Rattle.text.proofs.Decimals.{decimal-one, decimal-more, decimal-length, count_most}
use Rattle.text.proofs.Writing.{put_one, put_then}

-- more numbers
pub fields-append : (xs ys : List ℕ) → fields (xs ++ ys) ≡ fields xs ++ fields ys
unfolding fields
fields-append [] ys = refl
fields-append (x ∷ xs) ys =
    ap (λ (l : List ℕ). space ∷ (decimal x ++ l)) (fields-append xs ys)
    ∙ ap (λ (l : List ℕ). space ∷ l) (sym (append_assoc (decimal x) (fields xs) (fields ys)))

-- one more
pub fields-next : (row : List ℕ) (c : ℕ) → c < length row → (fields (take c row) ++ (space ∷ [])) ++ decimal (get_or row c 0) ≡ fields (take (c + 1) row)
unfolding fields
fields-next row c h =
    append_assoc (fields (take c row)) (space ∷ []) (decimal (get_or row c 0))
    ∙ ap (λ (l : List ℕ). fields (take c row) ++ (space ∷ l)) (sym (append-nil (decimal (get_or row c 0))))
    ∙ sym (fields-append (take c row) (get_or row c 0 ∷ []))
    ∙ ap fields (sym (ap (λ (j : ℕ). take j row) (add-one c) ∙ take-suc row c 0 h))

-- the position of one core more
pub put-core :
    (l m n : List ℕ) (at end c : ℕ) (row : List ℕ) → Put l 0 (fields (take c row)) m at → c < length row → at < length m → length m ≡ length l
    → Put (set m at space) (at + 1) (decimal (get_or row c 0)) n end → at < end → end ≤ length l → Put l 0 (fields (take (c + 1) row)) n end
put-core l m n at end c row p h f e q g k =
    subst (λ (s : List ℕ). Put l 0 s n end) (fields-next row c h) (put_then (put_then p (put_one m at space f) (omega arith)) q k)

-- two digits
pub decimal-two : (n : ℕ) → 10 ≤ n → n < 100 → decimal n ≡ (48 + n / 10) ∷ (48 + n % 10) ∷ []
decimal-two n h l = decimal-more n h ∙ ap (λ (ds : List ℕ). ds ++ ((48 + n % 10) ∷ [])) (decimal-one (n / 10) (omega arith))

-- one number more, with its space
pub fields-more : (ns : List ℕ) (i : ℕ) → i < length ns → fields (take i ns) ++ (space ∷ decimal (get_or ns i 0)) ≡ fields (take (i + 1) ns)
fields-more ns i h = sym (append_assoc (fields (take i ns)) (space ∷ []) (decimal (get_or ns i 0))) ∙ fields-next ns i h

-- .. and there is space for it where there is for all
pub fields-within : (ns : List ℕ) (i : ℕ) → i < length ns → length (fields (take i ns) ++ (space ∷ decimal (get_or ns i 0))) ≤ length (fields ns)
fields-within ns i h =
    let all : fields (take (i + 1) ns) ++ fields (drop (i + 1) ns) ≡ fields ns = sym (fields-append (take (i + 1) ns) (drop (i + 1) ns)) ∙ ap fields (take-append-drop (i + 1) ns) in
    let sum : length (fields (take (i + 1) ns)) + length (fields (drop (i + 1) ns)) ≡ length (fields ns) = sym (length-append (fields (take (i + 1) ns)) (fields (drop (i + 1) ns))) ∙ ap length all in
    let same : length (fields (take i ns) ++ (space ∷ decimal (get_or ns i 0))) ≡ length (fields (take (i + 1) ns)) = ap length (fields-more ns i h) in
    omega (arith, sum, same)

-- numbers of at most k + 1 digits
pub fields-most : (k : ℕ) (ns : List ℕ) → ((i : ℕ) → i < length ns → get_or ns i 0 < 10 ^ suc k) → length (fields ns) ≤ (k + 2) * length ns
unfolding fields
fields-most k [] h = omega arith
fields-most k (n ∷ ns) h =
    let rest = fields-most k ns (λ i l. h (suc i) (omega arith)) in
    let few = count_most k n (h 0 (omega arith)) in
    omega (arith, rest, few, decimal-length n, length-append (decimal n) (fields ns))

-- the bytes of a line
pub line-bytes : (w ns : List ℕ) → length (line_of w ns) ≡ length w + length (fields ns) + 1
unfolding line_of
line-bytes w ns = let e = length-append w (fields ns ++ (newline ∷ [])) in let f = length-append (fields ns) (newline ∷ []) in omega (arith, e, f)

pub line-put : (w ns : List ℕ) → (w ++ fields ns) ++ (newline ∷ []) ≡ line_of w ns
unfolding line_of
line-put w ns = append_assoc w (fields ns) (newline ∷ [])

-- a word and two numbers of at most ten digits
pub pair_length : (w : List ℕ) (a b : ℕ) → a < 10 ^ 10 → b < 10 ^ 10 → length (line_of w (a ∷ b ∷ [])) ≤ length w + 23
unfolding fields
pair_length w a b h k =
    let e = line-bytes w (a ∷ b ∷ []) in
    let f = length-append (decimal a) (space ∷ (decimal b ++ [])) in
    let g = length-append (decimal b) [] in
    omega (arith, e, f, g, decimal-length a, decimal-length b, count_most 9 a h, count_most 9 b k)
