-- The procedures' clauses, from the tests and calls of the code that makes them.
use Rattle.std.specs.Prelude.{ℕ, zero, suc, ◌≡◌, refl, ◌≢◌, List, get_or}
use borrow.Author.Tests.{eq-eqb, ne_eqb}
use Rattle.ring_laws.specs.Table.{unlinked, linked_behind, linked_before}
use Rattle.simset_laws.specs.Procedures.{follow_on, followed, precede_on, preceded, clearing, cleared}

-- ---- follow and precede, once x is out

module _ (m x y : ℕ) (t : List ℕ) where
  pub follow_none : y ≡ 0 → follow_on m x y t ≡ t
  unfolding follow_on
  follow_none e = rw (eq-eqb y 0 e)

  pub follow_off : y ≢ 0 → get_or t y 0 ≡ 0 → follow_on m x y t ≡ t
  unfolding follow_on
  follow_off n e = rw (ne_eqb y 0 n, eq-eqb (get_or t y 0) 0 e)

  pub follow_on_lem : y ≢ 0 → get_or t y 0 ≢ 0 → follow_on m x y t ≡ linked_behind m x y t
  unfolding follow_on
  follow_on_lem n o = rw (ne_eqb y 0 n, ne_eqb (get_or t y 0) 0 o)

  pub precede_none : y ≡ 0 → precede_on m x y t ≡ t
  unfolding precede_on
  precede_none e = rw (eq-eqb y 0 e)

  pub precede_off : y ≢ 0 → get_or t y 0 ≡ 0 → precede_on m x y t ≡ t
  unfolding precede_on
  precede_off n e = rw (ne_eqb y 0 n, eq-eqb (get_or t y 0) 0 e)

  pub precede_on_lem : y ≢ 0 → get_or t y 0 ≢ 0 → precede_on m x y t ≡ linked_before m x y t
  unfolding precede_on
  precede_on_lem n o = rw (ne_eqb y 0 n, ne_eqb (get_or t y 0) 0 o)

pub followed_is : (m x y : ℕ) (t : List ℕ) → followed m x y t ≡ follow_on m x y (unlinked m x t)
unfolding followed
followed_is m x y t = refl

pub preceded_is : (m x y : ℕ) (t : List ℕ) → preceded m x y t ≡ precede_on m x y (unlinked m x t)
unfolding preceded
preceded_is m x y t = refl

-- ---- clear

pub clearing_none : (m h : ℕ) (t : List ℕ) → clearing m h 0 t ≡ t
unfolding clearing
clearing_none m h t = refl

pub clearing_done : (m h k : ℕ) (t : List ℕ) → get_or t h 0 ≡ h → clearing m h k t ≡ t
unfolding clearing
clearing_done m h zero t e = refl
clearing_done m h (suc k) t e = rw (eq-eqb (get_or t h 0) h e)

pub clearing_on : (m h k : ℕ) (t : List ℕ) → get_or t h 0 ≢ h → clearing m h (suc k) t ≡ clearing m h k (unlinked m (get_or t h 0) t)
unfolding clearing
clearing_on m h k t n = rw (ne_eqb (get_or t h 0) h n)

pub cleared_is : (m h : ℕ) (t : List ℕ) → cleared m h t ≡ clearing m h m t
unfolding cleared
cleared_is m h t = refl
