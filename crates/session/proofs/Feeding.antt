-- Some bytes of the input: the table or a line of them is answered, and the session that is returned gives the rest.
use mathlib.Core.Bool.{Bool, true, false, true≢false}
use mathlib.Core.List.{List, [], ◌∷◌, ◌++◌, append-nil}
use mathlib.Core.Logic.{◌⊎◌, inl, inr}
use mathlib.Core.Path.{◌≡◌, refl, sym, ap, ap₂, ◌∙◌, subst, subst⁻¹}
use Prim.Native.Nat.{ℕ, ◌≤◌, ◌<◌}
use native.Mathlib.Omega.{arith}
use lib.ListN.{length, take, drop}
use lib.Seq.{take_all}
use Rattle.splitter.specs.Split.{too_many, InputEnd, nothing, unknown, lines_from, split}
use Rattle.splitter.specs.Parts.{Part, Comes, goes, end_of, OneLine, LineOf, TableOf}
use Rattle.splitter.proofs.Splits.{lines_none, lines-waits}
use Rattle.run.specs.declared.Run.{Run}
use Rattle.run.specs.Start.{start_of}
use Rattle.text.specs.Format.{most_bytes, words_of, numbers_in}
use Rattle.session.specs.declared.Stage.{Stage}
use Rattle.session.specs.declared.Stage.TheVariants.{Table, Operations, Over}
use Rattle.session.specs.declared.Session.{Session}
use Rattle.session.specs.declared.Fed.{Fed}
use Rattle.session.specs.declared.operations.Operation.{Operation}
use Rattle.std.proofs.Common.{Option, None}
use Rattle.session.specs.Operation.{none_long, operation_of, reply, run_after, is_last}
use Rattle.session.specs.Transcript.{replies, start_line, opened, answers_to}
use Rattle.session.specs.Session.{transcript_in, IsPrefix, FedBy, FedOf, TextWritten, fed_with}
use Rattle.session.proofs.Asking.{long-none}
use Rattle.session.proofs.Starts.{opened-short, too-long-start}
use Rattle.session.proofs.Transcripts.{opened-long, begins-with, all-opened, due-opened, due-none, no_operation, replies-none, replies-long, replies-due, replies-line, replies-last}

-- where the input has not ended anything may come
any : {ended : Bool} {e : InputEnd} {more : List ℕ} → ended ≡ false → Comes ended e more
any {ended} {e} {more} f = subst⁻¹ (λ (b : Bool). Comes b e more) f goes

-- there are no bytes where none of them is taken
no_bytes : (bytes : List ℕ) (n : ℕ) → (0 < length bytes → 0 < n) → n ≡ 0 → bytes ≡ []
no_bytes [] n m z = refl
no_bytes (b ∷ bytes) n m z = absurd (omega (arith, m (omega arith), z))

-- no bytes have no replies
none-replied : (r : Run) (e : InputEnd) → transcript_in Operations r e [] ≡ []
none-replied r e = ap (replies r) (lines_none e) ∙ replies-none r

-- nothing is taken and nothing is written
waits :
    (stage : Stage) (run : Run) (ended : Bool) (bytes before : List ℕ) → transcript_in stage run (end_of ended) bytes ≡ [] → length bytes < too_many
    → FedBy (transcript_in stage run) ended bytes before before (fed_with stage run 0 0)
waits stage run ended bytes before e h = record {
  taken = omega arith;
  room = omega arith;
  same = refl;
  behind = refl;
  text = λ more _. refl;
  at_once = λ _ more. begins-with refl;
  rest = λ _. e;
  short = λ _ _. h;
}

-- a session that is over writes nothing
pub over-fed : (run : Run) (ended : Bool) (bytes before : List ℕ) → FedBy (transcript_in Over run) ended bytes before before (fed_with Over run (length bytes) 0)
over-fed run ended bytes before = record {
  taken = omega arith;
  room = omega arith;
  same = refl;
  behind = refl;
  text = λ more _. refl;
  at_once = λ _ more. begins-with refl;
  rest = λ _. refl;
  short = λ z _. omega (arith, z);
}

-- THE TABLE

module _ (run : Run) (ended : Bool) (bytes before after : List ℕ) (p : Part) (w : TableOf bytes ended p) where
  -- its text is answered
  pub table-fed :
      (t : List ℕ) (n : ℕ) (stage : Stage) (run' : Run) → p.whole ≡ true → TextWritten t before after n
      → ((e : InputEnd) (bs : List ℕ) → opened (take p.end bytes) (lines_from e [] bs) ≡ t ++ transcript_in stage run' e bs)
      → transcript_in stage run' (end_of ended) [] ≡ []
      → FedBy (transcript_in Table run) ended bytes before after (fed_with stage run' p.next n)
  table-fed t n stage run' h b g z = record {
    taken = w.next;
    room = b.room;
    same = b.same;
    behind = b.behind;
    text = λ more c. all-opened (split nothing (bytes ++ more)) (take p.end bytes) _ (w.text h nothing more c) ∙ answered nothing more;
    at_once = λ f more. subst (IsPrefix (answers_to (split unknown (bytes ++ more)))) (answered unknown more) (due-opened (split unknown (bytes ++ more)) (take p.end bytes) _ (w.text h unknown more (any f)));
    rest = λ y. ap (transcript_in stage run' (end_of ended)) (no_bytes bytes p.next w.moves y) ∙ z;
    short = λ y _. let e = ap length (no_bytes bytes p.next w.moves y) in omega (arith, e);
  }
    where
      answered : (e : InputEnd) (more : List ℕ) → opened (take p.end bytes) (lines_from e [] (drop p.next bytes ++ more)) ≡ take n after ++ transcript_in stage run' e (drop p.next bytes ++ more)
      answered e more = g e (drop p.next bytes ++ more) ∙ ap (λ (y : List ℕ). y ++ transcript_in stage run' e (drop p.next bytes ++ more)) (sym b.front)

  -- .. by start, and the operations follow
  pub table-started :
      (n : ℕ) (run' : Run) → p.whole ≡ true → length (take p.end bytes) ≤ most_bytes → TextWritten (start_line (numbers_in (words_of (take p.end bytes)))) before after n
      → run' ≡ (start_of (numbers_in (words_of (take p.end bytes)))).run → FedBy (transcript_in Table run) ended bytes before after (fed_with Operations run' p.next n)
  table-started n run' h l b r =
      let d = take p.end bytes in
      table-fed _ n Operations run' h b
      (λ e bs. opened-short d _ l ∙ ap (λ (x : Run). start_line (numbers_in (words_of d)) ++ replies x (lines_from e [] bs)) (sym r))
      (none-replied run' (end_of ended))

  -- .. which is longer than any: the session is over
  pub table-too-long :
      (n : ℕ) (run' : Run) → p.whole ≡ true → most_bytes < length (take p.end bytes) → TextWritten (start_line (numbers_in (words_of (take p.end bytes)))) before after n
      → FedBy (transcript_in Table run) ended bytes before after (fed_with Over run' p.next n)
  table-too-long n run' h l b =
      let d = take p.end bytes in
      table-fed _ n Over run' h b (λ e bs. opened-long d _ l ∙ sym (too-long-start d l) ∙ sym (append-nil (start_line (numbers_in (words_of d))))) refl

  -- its end is still to come
  pub table-waits : p.whole ≡ false → FedBy (transcript_in Table run) ended bytes before before (fed_with Table run 0 0)
  table-waits h =
      let n = w.none h in
      waits Table run ended bytes before
      (ap (λ (b : Bool). answers_to (split (end_of b) bytes)) n.1 ∙ ap answers_to n.2 ∙ due-none (length bytes) (omega (arith, n.0)))
      n.0

-- THE OPERATIONS

module _ (run : Run) (ended : Bool) (bytes before after : List ℕ) (p : Part) (w : LineOf bytes none_long ended p) where
  abbrev line : List ℕ
  line = take p.end bytes

  -- a line that is longer than any operation
  long : p.end ≡ length bytes → none_long ≤ length bytes → operation_of line ≡ None
  long e l = ap operation_of (take_all p.end bytes (omega (arith, e))) ∙ long-none bytes l

  no-reply : (o : Option Operation) → o ≡ None → no_operation ≡ reply o run
  unfolding reply
  no-reply o e = ap (λ (x : Option Operation). reply x run) (sym e)

  -- no operation: the session is over
  pub operation-last :
      (run' : Run) (n : ℕ) → p.whole ≡ true → is_last (operation_of line) ≡ true → TextWritten (reply (operation_of line) run) before after n
      → FedBy (transcript_in Operations run) ended bytes before after (fed_with Over run' (length bytes) n)
  operation-last run' n h l t = record {
    taken = omega arith;
    room = t.room;
    same = t.same;
    behind = t.behind;
    text = λ more c. all_of (w.line h) more c ∙ written;
    at_once = λ f more. subst (IsPrefix (replies run (lines_from unknown [] (bytes ++ more)))) written (due-of (w.line h) more (any f));
    rest = λ _. refl;
    short = λ z _. omega (arith, z);
  }
    where
      written : reply (operation_of line) run ≡ take n after ++ []
      written = sym t.front ∙ sym (append-nil (take n after))

      Handed : Type 0
      Handed =
          ((e : InputEnd) (more : List ℕ) → Comes ended e more → lines_from e [] (bytes ++ more) ≡ line ∷ lines_from e [] (drop p.next bytes ++ more))
          ⊎ ((p.end ≡ length bytes) × (none_long ≤ length bytes) × OneLine bytes)

      all_of : Handed → (more : List ℕ) → Comes ended nothing more → replies run (lines_from nothing [] (bytes ++ more)) ≡ reply (operation_of line) run
      all_of (inl x) more c = ap (replies run) (x nothing more c) ∙ replies-last run line _ l
      all_of (inr x) more c = ap (replies run) (x.2 nothing more) ∙ replies-long run bytes more x.1 ∙ no-reply (operation_of line) (long x.0 x.1)

      due-of : Handed → (more : List ℕ) → Comes ended unknown more → IsPrefix (replies run (lines_from unknown [] (bytes ++ more))) (reply (operation_of line) run)
      due-of (inl x) more c = begins-with (sym (ap (replies run) (x unknown more c) ∙ replies-last run line _ l))
      due-of (inr x) more c =
          subst (IsPrefix (replies run (lines_from unknown [] (bytes ++ more)))) (no-reply (operation_of line) (long x.0 x.1))
          (subst⁻¹ (λ (ls : List (List ℕ)). IsPrefix (replies run ls) no_operation) (x.2 unknown more) (replies-due run bytes more x.1))

  -- an operation: it is answered
  pub operation-next :
      (run' : Run) (n : ℕ) → p.whole ≡ true → is_last (operation_of line) ≡ false → TextWritten (reply (operation_of line) run) before after n
      → run' ≡ run_after (operation_of line) run → FedBy (transcript_in Operations run) ended bytes before after (fed_with Operations run' p.next n)
  operation-next run' n h l t g = record {
    taken = w.next;
    room = t.room;
    same = t.same;
    behind = t.behind;
    text = λ more c. answered (w.line h) nothing more c;
    at_once = λ f more. begins-with (sym (answered (w.line h) unknown more (any f)));
    rest = λ z. ap (transcript_in Operations run' (end_of ended)) (no_bytes bytes p.next w.moves z) ∙ none-replied run' (end_of ended);
    short = λ z _. let e = ap length (no_bytes bytes p.next w.moves z) in omega (arith, e);
  }
    where
      answered :
          ((e : InputEnd) (more : List ℕ) → Comes ended e more → lines_from e [] (bytes ++ more) ≡ line ∷ lines_from e [] (drop p.next bytes ++ more))
          ⊎ ((p.end ≡ length bytes) × (none_long ≤ length bytes) × OneLine bytes) → (e : InputEnd) (more : List ℕ) → Comes ended e more
          → replies run (lines_from e [] (bytes ++ more)) ≡ take n after ++ replies run' (lines_from e [] (drop p.next bytes ++ more))
      answered (inl x) e more c =
          ap (replies run) (x e more c) ∙ replies-line run line (lines_from e [] (drop p.next bytes ++ more)) l
          ∙ ap₂ (λ (y : List ℕ) (r : Run). y ++ replies r (lines_from e [] (drop p.next bytes ++ more))) (sym t.front) (sym g)
      answered (inr x) e more c = absurd (true≢false (sym (ap is_last (long x.0 x.1)) ∙ l))

  -- its end is still to come
  pub operation-waits : p.whole ≡ false → FedBy (transcript_in Operations run) ended bytes before before (fed_with Operations run 0 0)
  operation-waits h =
      let n = w.none h in
      waits Operations run ended bytes before (due ended refl n.1 n.2) (omega (arith, n.0))
    where
      due : (b : Bool) → ended ≡ b → OneLine bytes → (ended ≡ true → bytes ≡ []) → transcript_in Operations run (end_of b) bytes ≡ []
      due true e one z = ap (transcript_in Operations run nothing) (z e) ∙ none-replied run nothing
      due false e one z = ap (transcript_in Operations run unknown) (sym (append-nil bytes)) ∙ ap (replies run) (one unknown [] ∙ lines-waits bytes) ∙ replies-none run

-- BY THE STAGE

pub fed-in :
    (s : Session) (t : Stage) (ended : Bool) (bytes before after : List ℕ) (r : Fed) → s.stage ≡ t → FedBy (transcript_in t s.run) ended bytes before after r
    → FedOf s ended bytes before after r
fed-in s t ended bytes before after r e w = subst⁻¹ (λ (x : Stage). FedBy (transcript_in x s.run) ended bytes before after r) e w
