-- A round, part by part: what was fed so far, the replies to it, and that writes took them.
-- Assumes nothing.
use mathlib.Core.Bool.{Bool, true, false, not, ◌&&◌, ◌||◌, false≢true}
use mathlib.Core.List.{List, [], ◌++◌, append_assoc, append-nil}
use mathlib.Core.Path.{◌≡◌, ap, refl, sym, subst, ◌∙◌}
use Prim.Native.Nat.{ℕ, ◌+◌, ◌-◌, ◌≤◌}
use native.Mathlib.Omega.{arith}
use lib.ListN.{length, take, drop, length-drop}
use lib.Seq.{drop-drop}
use Rattle.splitter.specs.Parts.{end_of}
use Rattle.std.proofs.lemmas.List.{take_rest}
use Rattle.session.specs.declared.Session.{Session}
use Rattle.session.specs.declared.Fed.{Fed}
use Rattle.session.specs.Session.{FedOf, FedAgain, none, more, is_over, transcript_of}
use Rattle.std.specs.Prelude.{Result, Ok, Err}
use Rattle.std.specs.declared.ops.ControlFlow.{ControlFlow}
use Rattle.std.specs.declared.ops.ControlFlow.TheVariants.{Break}
use Rattle.stream.specs.declared.Cut.{Cut}
use Rattle.stream.specs.Received.{continues}
use Rattle.stream.specs.Sent.{SentOf, sent_of}
use Rattle.stream.proofs.Moving.{sent-nothing, sent-then}
use Rattle.replay.specs.Rounds.{RoundOf}

-- writes took all
abbrev whole_of : Result ℕ Cut → Bool
whole_of x = (sent_of x).whole

-- what is left is fed once more
again-then :
    {ended : Bool} {s s' : Session} {bytes text left : List ℕ} → FedAgain ended s bytes text left s' → {before after : List ℕ} {r : Fed} → FedOf s' ended left before after r
    → FedAgain ended s bytes (text ++ take r.length after) (drop r.taken left) r.session
again-then {ended} {s} {bytes = bytes} none {before} {after} {r} w =
    subst (λ (t : List ℕ). FedAgain ended s bytes t (drop r.taken bytes) r.session) (append-nil (take r.length after)) (more w none)
again-then {ended} {s} {bytes = bytes} {left = left} (more {after = a} {text = text} {r = q} v f) {before} {after} {r} w =
    subst (λ (t : List ℕ). FedAgain ended s bytes t (drop r.taken left) r.session) (sym (append_assoc (take q.length a) text (take r.length after)))
    (more v (again-then f w))

-- so far: the bytes up to a place are taken, and writes took all replies
pub record SoFar (s : Session) (ended : Bool) (bytes : List ℕ) (at : ℕ) (now : Session) (count : ℕ) : Type 0 where
  pub within : at ≤ length bytes
  pub text : List ℕ
  pub feeds : FedAgain ended s bytes text (drop at bytes) now
  pub taken : SentOf 0 text (record { count = count; whole = true })

pub so-far-none : (s : Session) (ended : Bool) (bytes : List ℕ) → SoFar s ended bytes 0 s 0
so-far-none s ended bytes = record { within = omega arith; text = []; feeds = none; taken = sent-nothing 0 refl }

-- one part more, from a place on
module _ (s : Session) (ended : Bool) (bytes before after : List ℕ) (at : ℕ) (now : Session) (count : ℕ) (sent : Result ℕ Cut) (r : Fed) (i : SoFar s ended bytes at now count)
    (p : FedOf now ended (take (length bytes - at) (drop at bytes)) before after r) (t : SentOf count (take r.length after) (sent_of sent)) where
  w : FedOf now ended (drop at bytes) before after r
  w = subst (λ (l : List ℕ). FedOf now ended l before after r) (take_rest bytes at) p

  pub next-within : at + r.taken ≤ length bytes
  next-within = omega (arith, w.taken, i.within, length-drop at bytes)

  feeds-on : FedAgain ended s bytes (i.text ++ take r.length after) (drop (at + r.taken) bytes) r.session
  feeds-on = subst (λ (l : List ℕ). FedAgain ended s bytes (i.text ++ take r.length after) l r.session) (drop-drop r.taken at bytes) (again-then i.feeds w)

  sent-on : SentOf 0 (i.text ++ take r.length after) (sent_of sent)
  sent-on = sent-then 0 i.text (take r.length after) (record { count = count; whole = true }) (sent_of sent) i.taken refl t

  -- writes took the replies
  pub round-on : (m : ℕ) → sent ≡ Ok m → SoFar s ended bytes (at + r.taken) r.session m
  round-on m v = record {
    within = next-within;
    text = i.text ++ take r.length after;
    feeds = feeds-on;
    taken = subst (λ (x : Result ℕ Cut). SentOf 0 (i.text ++ take r.length after) (sent_of x)) v sent-on;
  }

  -- they did not
  pub round-stopped : (e : Cut) → sent ≡ Err e → RoundOf s ended bytes r.session (record { taken = at + r.taken; sent = sent; flow = Break (record {}) })
  round-stopped e v = record {
    taken = next-within;
    text = i.text ++ take r.length after;
    feeds = feeds-on;
    sent = sent-on;
    all = λ u. absurd (false≢true (ap whole_of (sym v) ∙ u));
    again = sym (ap (λ (b : Bool). b && not (ended || is_over r.session.stage)) (ap whole_of v));
    short = λ u. absurd (false≢true u);
  }

  -- no reply is due
  pub round-done :
      (flow : ControlFlow (Unit {0}) (Unit {0})) (m : ℕ) → sent ≡ Ok m → r.taken ≡ 0 → continues flow ≡ not (ended || is_over r.session.stage)
      → RoundOf s ended bytes r.session (record { taken = at + r.taken; sent = sent; flow = flow })
  round-done flow m v z a = record {
    taken = next-within;
    text = i.text ++ take r.length after;
    feeds = feeds-on;
    sent = sent-on;
    all = λ _. let k : at ≡ at + r.taken = omega (arith, z) in subst (λ (n : ℕ). transcript_of r.session (end_of ended) (drop n bytes) ≡ []) k (w.rest z);
    again = a ∙ sym (ap (λ (b : Bool). b && not (ended || is_over r.session.stage)) (ap whole_of v));
    short = λ u. omega (arith, w.short z (not-ended ended (sym a ∙ u)), z, length-drop at bytes);
  }
    where
      not-ended : (b : Bool) → not (b || is_over r.session.stage) ≡ true → b ≡ false
      not-ended true e = absurd (false≢true e)
      not-ended false e = refl
