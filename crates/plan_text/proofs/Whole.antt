-- A whole check: in whatever parts the input comes, the answer is that of the definition, and no answer waits.
use mathlib.Core.Bool.{Bool, false, true, true≢false}
use mathlib.Core.List.{List, [], ◌++◌, append-nil}
use mathlib.Core.Path.{◌∙◌, ◌≡◌, ap, refl, sym}
use Prim.Native.Nat.{ℕ}
use lib.ListN.{drop}
use Rattle.model.proofs.Lists.{append-inner}
use Rattle.splitter.specs.Split.{nothing, split_from, unclosed, unknown}
use Rattle.splitter.specs.Parts.{ends, goes}
use Rattle.plan_text.specs.Check.{Check}
use Rattle.plan_text.specs.Check.{Fed}
use Rattle.plan_text.specs.Checked.{More}
use Rattle.plan_text.specs.Checked.{checked_of, answer_so_far, split_answer}
use Rattle.plan_text.specs.Check.{Feeds, FedOf, NewOf, is_over, more, none, check_answer}
use Rattle.plan_text.proofs.Feeding.{over-answer}

-- the answer is that of the check to what is left, and to what may still come
answer-so-far :
    {c c' : Check} {left bs left' : List ℕ} → Feeds c left bs left' c' → (cs : List ℕ) → check_answer c nothing (left ++ (bs ++ cs)) ≡ check_answer c' nothing (left' ++ cs)
answer-so-far none cs = refl
answer-so-far {c} (more left chunk {bs} r o w f) cs =
    ap (check_answer c nothing) (append-inner left chunk bs cs) ∙ w.text (bs ++ cs) goes
    ∙ answer-so-far f cs

-- the answer of a new check at the end of the bytes bs, in whatever parts they come, is `checked_of bs`
pub whole-check : (c c' : Check) (bs left : List ℕ) (r : Fed) → NewOf c → Feeds c [] bs left c' → FedOf c' true left r → r.check.answer ≡ checked_of bs
whole-check c c' bs left r new f w =
    sym (over-answer r.check nothing (drop r.taken left ++ []) over) ∙ sym (w.text [] ends) ∙ sym (answer-so-far f []) ∙ ap (check_answer c nothing) (append-nil bs) ∙ (new bs).0
  where
    over : is_over r.check.stage ≡ true
    over = go (is_over r.check.stage) refl
      where
        go : (b : Bool) → is_over r.check.stage ≡ b → is_over r.check.stage ≡ true
        go true e = e
        go false e = absurd (true≢false (w.goes_on e))

-- where it is over, its answer is the one to all of the input, whatever may still come
pub over-check : (c c' : Check) (bs left cs : List ℕ) → NewOf c → Feeds c [] bs left c' → is_over c'.stage ≡ true → c'.answer ≡ checked_of (bs ++ cs)
over-check c c' bs left cs new f o = sym (over-answer c' nothing (left ++ cs) o) ∙ sym (answer-so-far f cs) ∙ (new (bs ++ cs)).0

-- where it is not over, the answer due is that to what is left ..
due-so-far :
    {c c' : Check} {left bs left' : List ℕ} → Feeds c left bs left' c' → is_over c'.stage ≡ false
    → (is_over c.stage ≡ false) × ((cs : List ℕ) → check_answer c unknown (left ++ (bs ++ cs)) ≡ check_answer c' unknown (left' ++ cs))
due-so-far none o = (o, λ cs. refl)
due-so-far {c} (more left chunk {bs} r q w f) o =
    let ih = due-so-far f o in
    (q, λ cs. ap (check_answer c unknown) (append-inner left chunk bs cs) ∙ w.at_once ih.0 (bs ++ cs) ∙ ih.1 cs)

-- .. and that is nothing
none_so_far :
    {c c' : Check} {left bs left' : List ℕ} → Feeds c left bs left' c' → is_over c'.stage ≡ false → check_answer c unknown left ≡ More
    → check_answer c' unknown left' ≡ More
none_so_far none o e = e
none_so_far (more left chunk r q w f) o e = none_so_far f o (w.silent (due-so-far f o).0)

due-nothing : answer_so_far [] ≡ More
unfolding answer_so_far split_answer split_from unclosed
due-nothing = refl

-- no answer waits: where the bytes bs have come, however they came, and a new check is not over, nothing is due
pub at_once : (c c' : Check) (bs left : List ℕ) → NewOf c → Feeds c [] bs left c' → is_over c'.stage ≡ false → answer_so_far bs ≡ More
at_once c c' bs left new f o =
    sym (new bs).1 ∙ ap (check_answer c unknown) (sym (append-nil bs)) ∙ (due-so-far f o).1 [] ∙ ap (check_answer c' unknown) (append-nil left)
    ∙ none_so_far f o ((new []).1 ∙ due-nothing)
