-- The published statements keep a table sound.
use Rattle.std.specs.Prelude.{ℕ, ◌<◌, ◌≡◌, List, length, get_or, set}
use Rattle.std.proofs.Common.{arith, length-set, get_or-set_same, get_or-set_other, eq-eqb, ne_eqb}
use Rattle.std.proofs.Math.Seq.{set_out}
use Rattle.ring_laws.specs.Lists.{decide, below}
use Rattle.ring_laws.specs.Table.{Sound, Made, unlinked, linked_behind, linked_before}

sound_set : (m : ℕ) (t : List ℕ) (i v : ℕ) → Sound m t → v < m → Sound m (set t i v)
sound_set m t i v s l =
    record {
      two = simp length-set s.two;
      inside = λ j.
          decide j i
          (λ e. below i (length t)
          (λ b. rw (e, get_or-set_same t i v 0 b) l)
          (λ o. rw (set_out t i v o) (s.inside j)))
          (λ n. rw (get_or-set_other t i j v 0 n) (s.inside j));
    }

pub sound_unlinked : (m x : ℕ) (t : List ℕ) → Sound m t → x < m → Sound m (unlinked m x t)
unfolding unlinked
sound_unlinked m x t s l =
    let z : 0 < m = omega arith in
    decide (get_or t x 0) 0
    (λ e. rw (eq-eqb _ _ e) s)
    (λ n. rw (ne_eqb _ _ n) (sound_set m _ _ _ (sound_set m _ _ _ (sound_set m _ _ _ (sound_set m _ _ _ s (s.inside _)) (s.inside _)) z)
    z))

pub sound_behind : (m x y : ℕ) (t : List ℕ) → Sound m t → x < m → y < m → Sound m (linked_behind m x y t)
unfolding linked_behind
sound_behind m x y t s l k = sound_set m _ _ _ (sound_set m _ _ _ (sound_set m _ _ _ (sound_set m _ _ _ s k) (s.inside _)) l) l

pub sound_before : (m x y : ℕ) (t : List ℕ) → Sound m t → x < m → y < m → Sound m (linked_before m x y t)
unfolding linked_before
sound_before m x y t s l k = sound_set m _ _ _ (sound_set m _ _ _ (sound_set m _ _ _ (sound_set m _ _ _ s k) (s.inside _)) l) l

-- a table that is as wanted is sound where the wanted one is
pub made : (m : ℕ) (want got : List ℕ) → Sound m want → got ≡ want → Made m want got
made m want got s e = record { is = e; sound = rw e s }
