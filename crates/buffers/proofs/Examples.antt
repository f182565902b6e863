-- The layout of a run in words, computed from the definitions: each number of a run in a word of its own, for each kind of phase;
-- and what a buffer holds whose words past the count, or at the count, are all ones.
use mathlib.Core.Path.{◌≡◌, refl}
use mathlib.Core.Bool.{Bool, true, false}
use mathlib.Core.List.{List, [], ◌∷◌, ◌++◌}
use Prim.Native.Nat.{ℕ, zero, suc, ◌+◌, ◌*◌, ◌-◌, ◌^◌}
use lib.ListN.{replicate}
use Rattle.phase.specs.declared.Phase.{Phase}
use Rattle.phase.specs.declared.Phase.TheVariants.{Coming, Working, Holding, Resting}
use Rattle.phase.specs.declared.Task.{Task}
use Rattle.phase.specs.Task.{unused}
use Rattle.run.specs.declared.Run.{Run}
use Rattle.run.specs.Start.{empty_run}
use Rattle.buffers.specs.Encoding.{places_words, encode_to, encode, are_places, places_in, holds_run, run_in, run, none, decode}

-- a task of six numbers, the parity of its job and a phase
abbrev task : ℕ → ℕ → ℕ → ℕ → ℕ → ℕ → Bool → Phase → Task
task o v c d t w e ph = record { parameters = record { offset = o; width = v; length = c; deadline = d; period = t; second = w }; even = e; phase = ph }

-- a run of four tasks, one in each kind of phase, odd and even, no two numbers alike
abbrev four : Run
four = record {
  rule = 1;
  cores = 2;
  fence = 3 + 4 * 2 ^ 32;
  withdrawn = 5;
  count = 4;
  tasks =
      task 11 12 13 14 15 16 false (Coming 17)
      ∷ (task 21 22 23 24 25 26 true (Working 27 28 29)
      ∷ (task 31 32 33 34 35 36 false (Holding 37 38)
      ∷ (task 41 42 43 44 45 46 true (Resting 47) ∷ replicate 28 unused)));
}

abbrev four-words : List ℕ
four-words =
    1 ∷ (2 ∷ (4 ∷ (3 ∷ (4 ∷ (5
    ∷ (11 ∷ (12 ∷ (13 ∷ (14 ∷ (15 ∷ (16 ∷ (0 ∷ (0 ∷ (17 ∷ (0 ∷ (0
    ∷ (21 ∷ (22 ∷ (23 ∷ (24 ∷ (25 ∷ (26 ∷ (1 ∷ (1 ∷ (27 ∷ (28 ∷ (29
    ∷ (31 ∷ (32 ∷ (33 ∷ (34 ∷ (35 ∷ (36 ∷ (0 ∷ (2 ∷ (37 ∷ (38 ∷ (0
    ∷ (41 ∷ (42 ∷ (43 ∷ (44 ∷ (45 ∷ (46 ∷ (1 ∷ (3 ∷ (47 ∷ (0 ∷ (0 ∷ [])))))))))))))))))))))))))))))))))))))))))))))))))

-- all ones
abbrev ones : ℕ
ones = 4294967295

pub layout : encode_to 4 four ≡ four-words
unfolding encode_to places_words
layout = refl

-- an unused place is zeros and Resting(0)
pub unused-layout : places_words (unused ∷ []) ≡ 0 ∷ (0 ∷ (0 ∷ (0 ∷ (0 ∷ (0 ∷ (0 ∷ (3 ∷ (0 ∷ (0 ∷ (0 ∷ []))))))))))
unfolding places_words
unused-layout = refl

-- a fence of all cores is two words of all ones, and comes back
pub all-fenced : (run_in (1 ∷ (64 ∷ (0 ∷ (ones ∷ (ones ∷ [])))))).fence ≡ 2 ^ 64 - 1
unfolding run_in
all-fenced = refl

-- the run of a refused start: zeros, and Resting(0) in every place
abbrev unused-words : ℕ → List ℕ
unused-words zero = []
unused-words (suc n) = 0 ∷ (0 ∷ (0 ∷ (0 ∷ (0 ∷ (0 ∷ (0 ∷ (3 ∷ (0 ∷ (0 ∷ (0 ∷ unused-words n))))))))))

pub refused-layout : encode empty_run ≡ 0 ∷ (0 ∷ (0 ∷ (0 ∷ (0 ∷ (0 ∷ unused-words 32)))))
unfolding encode_to places_words
refused-layout = refl

-- all ones past the count are not read
pub ones-past : decode (four-words ++ replicate 308 ones) ≡ run four
unfolding holds_run are_places run_in places_in
ones-past = refl

-- one word less is no run
pub one-short : decode (four-words ++ replicate 307 ones) ≡ none
unfolding holds_run
one-short = refl

-- all ones below the count are no run
pub ones_below : decode (1 ∷ (2 ∷ (1 ∷ (0 ∷ (0 ∷ (0 ∷ replicate 352 ones)))))) ≡ none
unfolding holds_run are_places
ones_below = refl

-- one task of width 1 with these words for its job's parity and for its phase
abbrev one : ℕ → ℕ → ℕ → ℕ → ℕ → List ℕ
one n k a b c = 1 ∷ (1 ∷ (1 ∷ (0 ∷ (0 ∷ (0 ∷ (0 ∷ (1 ∷ (1 ∷ (1 ∷ (1 ∷ (1 ∷ (n ∷ (k ∷ (a ∷ (b ∷ (c ∷ replicate 341 ones))))))))))))))))

-- a parity is 0 or 1
pub even-held : (run_in (one 1 1 0 0 0)).tasks ≡ task 0 1 1 1 1 1 true (Working 0 0 0) ∷ replicate 31 unused
unfolding run_in places_in
even-held = refl

pub no-parity : decode (one 2 1 0 0 0) ≡ none
unfolding holds_run are_places
no-parity = refl

-- the third number is Working's alone ..
pub third-held : (run_in (one 0 1 5 6 7)).tasks ≡ task 0 1 1 1 1 1 false (Working 5 6 7) ∷ replicate 31 unused
unfolding run_in places_in
third-held = refl

pub coming-third : decode (one 0 0 5 0 1) ≡ none
unfolding holds_run are_places
coming-third = refl

pub holding-third : decode (one 0 2 5 6 1) ≡ none
unfolding holds_run are_places
holding-third = refl

pub resting-third : decode (one 0 3 5 0 1) ≡ none
unfolding holds_run are_places
resting-third = refl

-- .. and the second is Holding's too
pub second-held : (run_in (one 0 2 5 6 0)).tasks ≡ task 0 1 1 1 1 1 false (Holding 5 6) ∷ replicate 31 unused
unfolding run_in places_in
second-held = refl

pub coming-second : decode (one 0 0 5 6 0) ≡ none
unfolding holds_run are_places
coming-second = refl

pub resting-second : decode (one 0 3 5 6 0) ≡ none
unfolding holds_run are_places
resting-second = refl

-- no kind is above 3
pub no_kind : decode (one 0 4 5 0 0) ≡ none
unfolding holds_run are_places
no_kind = refl
