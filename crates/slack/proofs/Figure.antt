-- THE SLACK: `slack` has what is claimed of it (`slack-exact`), no other number has (`slack-only`), and a growth that is accepted where one tick more
-- misses is the slack (`slack-found`); no larger growth is accepted (`slack-largest`).
use mathlib.Core.Bool.{Bool, false, true}
use mathlib.Core.Logic.{inl, inr, ◌⊎◌}
use mathlib.Core.Path.{refl, subst, sym, ◌≡◌}
use Prim.Native.Nat.{◌+◌, ◌-◌, ◌<◌, suc, zero, ℕ, ◌≤◌}
use native.Mathlib.Omega.{arith}
use lib.Dec.{ltb}
use lib.ListN.{length}
use borrow.Author.Tests.{ltb-false, ltb-true}
use Rattle.std.proofs.lemmas.Bool.{true_from_ne_false}
use Rattle.model.proofs.Search.{least-found, least-lowest, least-most}
use Rattle.model.specs.Lists.{Missed, NeverMissed}
use Rattle.model.specs.Search.{least}
use Rattle.model.specs.Task.{AllValid, Table, Task, task}
use Rattle.table.specs.Limits.{most_time}
use Rattle.slack.specs.Longer.{grown}
use Rattle.slack.specs.Ordered.{Ordered}
use Rattle.slack.specs.Slack.{Slack, misses, slack}
use Rattle.slack.proofs.Grown.{grown-count, grown-none, grown-task, smaller-growth, valid-grown}
use Rattle.slack.proofs.Misses.{misses-never, misses-some, never-misses, within-deadline}

-- no other number has it
slack-below : (s : Table) (p g h : ℕ) → Slack s p g → Slack s p h → ¬ (g < h)
slack-below s p g h x y l = go x.no_more
  where
    go : ((q t : ℕ) × Missed (grown s p (suc g)) q t) ⊎ (most_time < (task s p).length + suc g) → ⊥
    go (inl m) = y.accepted (suc g) l m.0 m.1 m.2
    go (inr m) = omega (arith, y.within)

pub slack-only : (s : Table) (p g h : ℕ) → Slack s p g → Slack s p h → g ≡ h
slack-only s p g h x y = omega (arith, slack-below s p g h x y, slack-below s p h g y x)

module _ (s : Table) (ok : AllValid s) (p : ℕ) (l : p < length s.tasks) where
  -- a growth that is accepted leaves C within the deadline, so one past it misses
  grown-within : (g : ℕ) → NeverMissed (grown s p g) → (task s p).length + g ≤ (task s p).deadline
  grown-within g nm =
      subst (λ (τ : Task). τ.length ≤ τ.deadline) (grown-task s p g l)
      (within-deadline (grown s p g) nm p (omega (arith, grown-count s p g)))

  pub past-deadline : (g : ℕ) → (task s p).deadline < (task s p).length + g → misses (grown s p g) ≡ true
  past-deadline g h =
      true_from_ne_false (misses (grown s p g))
      (λ e. omega (arith, grown-within g (misses-never (grown s p g) (valid-grown s ok p g) e)))

  module _ (nm : NeverMissed s) (short : (task s p).deadline ≤ most_time) where
    -- no growth is accepted where the table is
    pub none-fits : misses (grown s p 0) ≡ false
    none-fits = never-misses (grown s p 0) (valid-grown s ok p 0) (subst NeverMissed (sym (grown-none s p)) nm)

    -- THE THEOREM
    pub slack-exact : Slack s p (slack s p)
    unfolding slack
    slack-exact = record {
      accepted = all;
      within = omega (arith, least-most room f, within-deadline s nm p l);
      no_more = inl (misses-some (grown s p (suc g)) (valid-grown s ok p (suc g)) (more (ltb g room) refl));
    }
      where
        room : ℕ
        room = (task s p).deadline - (task s p).length

        f : ℕ → Bool
        f h = misses (grown s p (suc h))

        g : ℕ
        g = least room f

        all : (h : ℕ) → h ≤ g → NeverMissed (grown s p h)
        all zero h = subst NeverMissed (sym (grown-none s p)) nm
        all (suc h) i = misses-never (grown s p (suc h)) (valid-grown s ok p (suc h)) (least-lowest room f h i)

        more : (t : Bool) → ltb g room ≡ t → misses (grown s p (suc g)) ≡ true
        more true e = least-found room f (ltb-true g room e)
        more false e = past-deadline (suc g) (omega (arith, ltb-false g room e))

    -- BISECTION: where longer jobs miss no less, an accepted growth with one tick more that misses is the slack
    pub slack-found : Ordered s → (g : ℕ) → misses (grown s p g) ≡ false → misses (grown s p (suc g)) ≡ true → g ≡ slack s p
    slack-found o g fits late =
        slack-only s p g (slack s p)
        (record {
          accepted = λ h i. smaller-growth s ok o p g h i here;
          within = omega (arith, grown-within g here);
          no_more = inl (misses-some (grown s p (suc g)) (valid-grown s ok p (suc g)) late);
        })
        slack-exact
      where
        here : NeverMissed (grown s p g)
        here = misses-never (grown s p g) (valid-grown s ok p g) fits

    -- THE LARGEST: where longer jobs miss no less, no growth past the claimed one is accepted
    pub slack-largest : Ordered s → (g h : ℕ) → Slack s p g → NeverMissed (grown s p h) → h ≤ g
    slack-largest o g h x fits = omega (arith, not-past)
      where
        not-past : ¬ (g < h)
        not-past i = go x.no_more
          where
            go : ((q t : ℕ) × Missed (grown s p (suc g)) q t) ⊎ (most_time < (task s p).length + suc g) → ⊥
            go (inl m) = smaller-growth s ok o p h (suc g) i fits m.0 m.1 m.2
            go (inr m) = omega (arith, grown-within h fits)

    -- the slack leaves C within the deadline
    pub slack-room : (task s p).length + slack s p ≤ (task s p).deadline
    slack-room = grown-within (slack s p) (slack-exact.accepted (slack s p) (omega arith))
