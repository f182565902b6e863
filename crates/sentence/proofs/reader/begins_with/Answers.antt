use Rattle.std.proofs.Common.{◌-◌, ◌≡◌, ◌∙◌, ap, take, drop, length, length-drop, arith}
use lib.Seq.{take_all}
use Rattle.sentence.specs.Reading.{starts_with}
use Rattle.sentence.proofs.Reading.{begins-pointwise}
use Rattle.sentence.proofs.reader.begins_with.Goals as goal

pub returns : goal.returns
returns c =
    let a = c.args in
    let rest = drop a.at a.bytes.now in
    let all : take (length a.bytes.now - a.at) rest ≡ rest = take_all (length a.bytes.now - a.at) rest (omega (arith, length-drop a.at a.bytes.now)) in
    c.starts_with.ensures.value ∙ begins-pointwise a.word.now _ ∙ ap (starts_with a.word.now) all
