-- The refusal's number and its position.
use Rattle.std.proofs.Common.{◌∙◌, arith, [], ◌∷◌}
use Rattle.text.specs.Output.{first_line, letters, line_of}
use Rattle.text.proofs.Writing.{put_front}
use Rattle.query.proofs.put_refusal.Goals as goal

pub returns : goal.returns
unfolding first_line
returns c =
    let p = c.put_pair.ensures in
    (omega (arith, p.1), put_front p.0 ∙ (λ i. line_of (letters "refused") (c.number.ensures i ∷ c.position.ensures i ∷ [])))
