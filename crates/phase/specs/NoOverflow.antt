-- What a step needs of a phase: its numbers can change by one more tick without overflow.
use Rattle.std.specs.Prelude.{◌<◌, ◌≤◌}
use Rattle.phase.specs.declared.Phase.{Phase}
use Rattle.phase.specs.declared.Phase.TheVariants.{Coming, Working, Holding, Resting}
use Rattle.model.specs.Sizes.{most_word}

-- one tick can be taken from what is left, or added to what is counted
abbrev pub NoOverflow : Phase → Type 0
NoOverflow (Coming left) = 1 ≤ left
NoOverflow (Working z had reserved) = (z < most_word) × (had < most_word) × (reserved < most_word)
NoOverflow (Holding z reserved) = (z < most_word) × (reserved < most_word)
NoOverflow (Resting z) = z < most_word
