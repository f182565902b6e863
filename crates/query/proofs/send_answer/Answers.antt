-- What is sent is what was put at the front of the lines; what is no table's text has no numbers.
use Rattle.std.proofs.Common.{◌≡◌, ◌∙◌, List, ℕ, take, ap, ap₂, subst, Some, None}
use Rattle.text.specs.Format.{words_of, numbers_in}
use Rattle.text.specs.Input.{read_in}
use Rattle.text.proofs.ReadOf.{numbers-read}
use Rattle.stream.specs.Sent.{SentOf, sent_of}
use Rattle.query.specs.Query.{answer_to}
use Rattle.query.proofs.send_answer.Goals as goal
use Rattle.query.proofs.send_answer.Goals.{in-Some, in-None}

pub returns : goal.returns
returns g c =
    let bytes = c.args.bytes.now in
    let said = answer_to c.args.question in
    let text : take c.match-read.length c.match-read.lines ≡ said (numbers_in (words_of bytes)) =
    elim c.match-read.branch [
      | in-Some w ↦ ap₂ take w.length-is w.lines-is ∙ w.put-length.ensures.1
          ∙ ap said (w.as_slice.ensures ∙ numbers-read (read_in (Some w.in-Some.words)) bytes w.in-Some.ensures.value)
      | in-None w ↦ ap₂ take w.length-is w.lines-is ∙ w.put-length-in-None.ensures.1 ∙ ap said (numbers-read (read_in None) bytes w.in-None.ensures.value)
    ] in
    subst (λ (l : List ℕ). SentOf 0 l (sent_of c.send.result)) text c.send.ensures
