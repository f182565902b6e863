use Rattle.std.proofs.Common.{ℕ, length}
use Rattle.std.proofs.lemmas.List.{drop-replicate}
use Rattle.conflict.specs.Relinked.{most_words}
use Rattle.conflict.proofs.links.copied.Goals as goal

pub returns : goal.returns
returns c = simp (c.copy_from_slice.ensures.after, drop-replicate {X = ℕ} (length c.args.words.now) most_words 0)
