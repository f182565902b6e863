-- Lists that a row can show, marked over zeros and the fence's marks, are the model's row.
use Rattle.std.proofs.Common.{◌≡◌, ap, ◌∙◌, List, map, ℕ, min, replicate, arith}
use Rattle.model.specs.Fence.{outside, unfenced}
use Rattle.model.specs.Search.{up_from}
use Rattle.model.specs.Sizes.{fenced_byte}
use Rattle.cores.specs.Cores.{cores}
use Rattle.cores.proofs.Unfenced.{memb-fenced, open_of}
use Rattle.rule.specs.Marked.{marked, shown_bytes}
use Rattle.rule.proofs.Rows.{shown-row}
use Rattle.rule.proofs.row_in.Goals as goal

pub returns : goal.returns
returns c =
    let a = c.args in
    let free = c.unfenced_cores-free.result in
    let all : min a.cores 64 ≡ a.cores = omega arith in
    let opened : cores free ≡ unfenced a.fence a.cores = open_of free a.fence a.cores (omega arith) c.unfenced_cores-free.ensures in
    let fenced : cores c.difference-fenced.result ≡ outside free (up_from 0 a.cores) =
    c.difference-fenced.ensures ∙ ap (outside free) (c.first_cores.ensures ∙ ap (up_from 0) all) in
    let gs = map cores a.sets.now in
    c.row_of.ensures
    ∙ (ap (λ (start : List ℕ). shown_bytes start 1 gs) (c.mark.ensures ∙ ap (marked (replicate 64 0) fenced_byte) fenced)
    ∙ shown-row 64 a.cores a.fence (outside free (up_from 0 a.cores)) (omega arith)
    (λ x l. memb-fenced free a.fence a.cores x l opened) gs c.requires.fact_2.apart c.requires.fact_2.unfenced-only)
