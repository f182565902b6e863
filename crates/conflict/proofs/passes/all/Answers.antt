-- `conflict::passes::all`: the digits of 2 ^ n - 1 below n are ones, and there are none from n on.
use Rattle.std.proofs.Common.{Bool, true, false, ◌≡◌, ◌∙◌, ◌&&◌, ◌^◌, ◌-◌, ap, refl, sym, eqb, ltb, ltb-true, ltb-false, ℕ, rules}
use Rattle.std.proofs.lemmas.Nat.Bits.{bit_at_ones, bit_at_ones_above}
use Rattle.model.specs.Search.{bit}
use Rattle.model.proofs.Digits.{same_set}
use Rattle.conflict.proofs.passes.all.Goals as goal

digits : (n p : ℕ) (b : Bool) → ltb p n ≡ b → bit (2 ^ n - 1) p ≡ b && true
digits n p true e = ap (λ (d : ℕ). eqb d 1) (bit_at_ones n p (ltb-true p n e))
digits n p false e = ap (λ (d : ℕ). eqb d 1) (bit_at_ones_above n p (ltb-false p n e))

pub returns : goal.returns
returns c =
    let n = c.args.count in
    same_set _ (2 ^ n - 1) (λ p. c.places_where.ensures (λ p. true) (λ p r l e. search rules) p ∙ sym (digits n p (ltb p n) refl))
