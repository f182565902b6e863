-- A whole session: in whatever parts the input comes, the transcript is that of the definition, and no answer waits.
use mathlib.Core.Bool.{Bool, true, false}
use mathlib.Core.List.{List, [], ◌++◌, append_assoc, append-nil}
use mathlib.Core.Path.{◌≡◌, refl, sym, ap, ◌∙◌, subst, subst₂}
use Prim.Native.Nat.{ℕ}
use lib.ListN.{take, drop}
use Rattle.model.proofs.Lists.{append-inner}
use Rattle.splitter.specs.Split.{nothing, unknown, unclosed, split_from}
use Rattle.splitter.specs.Parts.{Comes, ends, goes}
use Rattle.session.specs.declared.Session.{Session}
use Rattle.session.specs.declared.Stage.{Stage}
use Rattle.session.specs.declared.Stage.TheVariants.{Over}
use Rattle.session.specs.Transcript.{answers_to, transcript, transcript_so_far}
use Rattle.session.specs.Session.{transcript_in, transcript_of, IsPrefix, NewOf, FedAgain, Feeds, none, more}
use Rattle.session.proofs.Transcripts.{begins-with}

written-again :
    {ended : Bool} {s s' : Session} {bytes text left : List ℕ} → FedAgain ended s bytes text left s' → (cs : List ℕ) → Comes ended nothing cs
    → transcript_of s nothing (bytes ++ cs) ≡ text ++ transcript_of s' nothing (left ++ cs)
written-again none cs c = refl
written-again {s' = s'} (more {after = after} {text = text} {left = left} {r = r} w f) cs c =
    w.text cs c ∙ ap (λ (x : List ℕ). take r.length after ++ x) (written-again f cs c)
    ∙ sym (append_assoc (take r.length after) text (transcript_of s' nothing (left ++ cs)))

written-so-far :
    {s s' : Session} {left bs text left' : List ℕ} → Feeds s left bs text left' s' → (cs : List ℕ)
    → transcript_of s nothing (left ++ (bs ++ cs)) ≡ text ++ transcript_of s' nothing (left' ++ cs)
written-so-far none cs = refl
written-so-far {s} {s'} {left' = left'} (more left chunk {bs = bs} {text = text} {text' = text'} w q f) cs =
    ap (transcript_of s nothing) (append-inner left chunk bs cs) ∙ written-again w (bs ++ cs) goes
    ∙ ap (λ (x : List ℕ). text ++ x) (written-so-far f cs) ∙ sym (append_assoc text text' (transcript_of s' nothing (left' ++ cs)))

-- all that a new session writes for the bytes bs, in whatever parts they come, and at their end, is `transcript bs`
pub whole-transcript :
    (s s' s'' : Session) (bs text left text' left' : List ℕ) → NewOf s → Feeds s [] bs text left s' → FedAgain true s' left text' left' s''
    → transcript_of s'' nothing left' ≡ [] → text ++ text' ≡ transcript bs
whole-transcript s s' s'' bs text left text' left' new f last e =
    ap (λ (x : List ℕ). text ++ x) (sym (append-nil text') ∙ ap (λ (x : List ℕ). text' ++ x) (sym (ap (transcript_of s'' nothing) (append-nil left') ∙ e)) ∙ sym (written-again last [] ends))
    ∙ sym (written-so-far f []) ∙ ap (transcript_of s nothing) (append-nil bs) ∙ (new bs).0

-- where the session is over, all has been written, whatever might still come
pub over-transcripts : (s s' : Session) (bs cs text left : List ℕ) → NewOf s → Feeds s [] bs text left s' → s'.stage ≡ Over → text ≡ transcript (bs ++ cs)
over-transcripts s s' bs cs text left new f o =
    sym (append-nil text) ∙ ap (λ (x : List ℕ). text ++ x) (sym (ap (λ (t : Stage). transcript_in t s'.run nothing (left ++ cs)) o)) ∙ sym (written-so-far f cs) ∙ (new (bs ++ cs)).0

-- a text goes on where its rest does
begins-on : (a b c d : List ℕ) → IsPrefix a (b ++ c) → IsPrefix c d → IsPrefix a (b ++ d)
begins-on a b c d (x, p) (y, q) =
    (x ++ y, ap (λ (z : List ℕ). b ++ z) q ∙ sym (append_assoc b c y) ∙ ap (λ (z : List ℕ). z ++ y) p ∙ append_assoc a x y)

due-again :
    {ended : Bool} {s s' : Session} {bytes text left : List ℕ} → FedAgain ended s bytes text left s' → ended ≡ false → (cs : List ℕ)
    → IsPrefix (transcript_of s unknown (bytes ++ cs)) (text ++ transcript_of s' unknown (left ++ cs))
due-again none e cs = begins-with refl
due-again {s = s} {s' = s'} {bytes = bytes} (more {after = after} {text = text} {left = left} {r = r} w f) e cs =
    subst (IsPrefix (transcript_of s unknown (bytes ++ cs))) (sym (append_assoc (take r.length after) text (transcript_of s' unknown (left ++ cs))))
    (begins-on (transcript_of s unknown (bytes ++ cs)) (take r.length after)
    (transcript_of r.session unknown (drop r.taken bytes ++ cs)) (text ++ transcript_of s' unknown (left ++ cs)) (w.at_once e cs) (due-again f e cs))

due-so-far :
    {s s' : Session} {left bs text left' : List ℕ} → Feeds s left bs text left' s' → (cs : List ℕ)
    → IsPrefix (transcript_of s unknown (left ++ (bs ++ cs))) (text ++ transcript_of s' unknown (left' ++ cs))
due-so-far none cs = begins-with refl
due-so-far {s = s} {s' = s''} {left' = left''} (more {s' = s'} left chunk {bs = bs} {text = text} {text' = text'} {left' = left'} w q f) cs =
    subst₂ IsPrefix (ap (transcript_of s unknown) (sym (append-inner left chunk bs cs))) (sym (append_assoc text text' (transcript_of s'' unknown (left'' ++ cs))))
    (begins-on (transcript_of s unknown ((left ++ chunk) ++ (bs ++ cs))) text
    (transcript_of s' unknown (left' ++ (bs ++ cs))) (text' ++ transcript_of s'' unknown (left'' ++ cs)) (due-again w refl (bs ++ cs)) (due-so-far f cs))

-- nothing is due of what is left
none_so_far :
    {s s' : Session} {left bs text left' : List ℕ} → Feeds s left bs text left' s' → transcript_of s unknown left ≡ [] → transcript_of s' unknown left' ≡ []
none_so_far none e = e
none_so_far (more left chunk w q f) e = none_so_far f q

due-nothing : transcript_so_far [] ≡ []
unfolding transcript_so_far answers_to split_from unclosed
due-nothing = refl

-- no answer waits: what a new session has written for the bytes bs, in whatever parts they come, begins with all that is due
pub at_once : (s s' : Session) (bs text left : List ℕ) → NewOf s → Feeds s [] bs text left s' → IsPrefix (transcript_so_far bs) text
at_once s s' bs text left new f =
    subst₂ IsPrefix (ap (transcript_of s unknown) (append-nil bs) ∙ (new bs).1)
    (ap (λ (x : List ℕ). text ++ x) (ap (transcript_of s' unknown) (append-nil left) ∙ none_so_far f ((new []).1 ∙ due-nothing)) ∙ append-nil text) (due-so-far f [])
