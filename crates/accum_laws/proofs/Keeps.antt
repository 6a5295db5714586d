-- Within what is required nothing overflows, and an accepted update leaves an accumulator that is as required from then on.
use Rattle.std.specs.Prelude.{ℕ, ◌≤◌, ◌<◌, ◌≡◌, true, false, ℤ, pos, nat_abs, ◌+ℤ◌, ◌-ℤ◌, ◌*ℤ◌, Ok, Err}
use Rattle.std.proofs.Common.{sym, ◌∙◌, subst, arith, SFits, to_z, of_z}
use Rattle.std.specs.Int.{w64}
use Rattle.ring_laws.specs.Lists.{below, test, clash}
use Rattle.model.specs.Counts.{limit}
use Rattle.model.specs.declared.Refusal.TheVariants.{Accumulator as NotAsRequired}
use Rattle.accum_laws.specs.declared.Accumulator.{Accumulator}
use Rattle.accum_laws.specs.Signed.{fits_abs, kept}
use Rattle.accum_laws.specs.Update.{may_update, grown_of, updated_of, Required, Growable, May, may_says, says_may, updated_to}
use Rattle.accum_laws.specs.Update.{updated_not}
use Rattle.accum_laws.specs.Keeps.{grown_required}

-- so from zeros on, 7 can only come from c + d
pub refused_rate : (x : Accumulator) (t : ℕ) (d : ℤ) → Required x t → updated_of x t d ≡ Err NotAsRequired → 1000000 < nat_abs (x.c +ℤ d)
refused_rate x t d r e =
    below 1000000 (nat_abs (x.c +ℤ d)) (λ l. l)
    (λ l. let z : Ok (grown_of x t d) ≡ Err NotAsRequired = sym (updated_to x t d
    (says_may x t d (record { required = r; rate_next = l }))) ∙ e in
    let y : false ≡ true = cc in clash y)

-- an update that was accepted: the accumulator, as required from then on
pub accepted : (x : Accumulator) (t : ℕ) (d : ℤ) (v : Accumulator) → updated_of x t d ≡ Ok v → (v ≡ grown_of x t d) × May x t d
accepted x t d v e =
    test (may_update x t d)
    (λ m. let z : Ok v ≡ Ok (grown_of x t d) = sym e ∙ updated_to x t d m in (cc, may_says x t d m))
    (λ m. let z : Ok v ≡ Err NotAsRequired = sym e ∙ updated_not x t d m in let y : false ≡ true = cc in clash y)

-- an accumulator that an accepted update left is as required from that time on
pub accepted_later : (x : Accumulator) (t : ℕ) (d : ℤ) (v : Accumulator) → updated_of x t d ≡ Ok v → (u : ℕ) → t ≤ u → Required v u
accepted_later x t d v e u k =
    let p = accepted x t d v e in
    subst (λ (w : Accumulator). Required w u) (sym p.0) (grown_required x t d p.1 u k)

pub accepted_required : (x : Accumulator) (t : ℕ) (d : ℤ) (v : Accumulator) → updated_of x t d ≡ Ok v → Required v t
accepted_required x t d v e = accepted_later x t d v e t (omega arith)

-- ---- what the code of the update asks and gives, of words that are stored and read back

module _ (x : Accumulator) (t : ℕ) (d : ℤ) (e : may_update x t d ≡ true) where
  pub stored_growable : t ≤ limit → SFits w64 x.a → SFits w64 x.b → SFits w64 x.c
      → Growable (to_z w64 (of_z w64 x.a)) (to_z w64 (of_z w64 x.b)) (to_z w64 (of_z w64 x.c)) t
  stored_growable k f g h =
      rw (kept f, kept g, kept h) (record { required = (may_says x t d e).required; time_in = k })

  pub rate_fits : SFits w64 (x.c +ℤ d)
  rate_fits = fits_abs (x.c +ℤ d) (omega (arith, (may_says x t d e).rate_next))

  pub stored_to : (a b c : ℤ) → a ≡ x.a +ℤ x.c *ℤ (pos t -ℤ x.b) → b ≡ pos t → c ≡ x.c +ℤ d
      → Ok (record { a = a; b = b; c = c }) ≡ updated_of x t d
  unfolding grown_of
  stored_to a b c p q r = rw (p, q, r) (sym (updated_to x t d e))
