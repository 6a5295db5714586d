-- What the judge of rings computes, over a successor S and a predecessor P. The heads are n places from g, the links the places
-- lo .. hi - 1. One count, of the links that have not two zeros, is spent along all rings: it ends at 0 exactly where no link is astray.
use Rattle.std.specs.Prelude.{ℕ, zero, suc, ◌+◌, ◌*◌, ◌-◌, ◌<◌, ◌≤◌, ◌≡◌, Bool, true, false, ◌&&◌, List, [], ◌∷◌, eqb, ltb, length, if◌then◌else◌}

-- may s stand on the ring of h?
unfoldable pub allowed : ℕ → ℕ → ℕ → ℕ → Bool
allowed lo hi h s = if eqb s h then true else (if ltb s lo then false else ltb s hi)

-- what follows a on the ring of h: 0 if it may not stand there, or does not name a as its predecessor
unfoldable pub step : (ℕ → ℕ) → (ℕ → ℕ) → ℕ → ℕ → ℕ → ℕ → ℕ
step S P lo hi h a = if allowed lo hi h (S a) then (if eqb (P (S a)) a then S a else 0) else 0

-- on from a until h comes again, over at most k links: one more than what is left of k, or 0
unfoldable pub walk : (ℕ → ℕ) → (ℕ → ℕ) → ℕ → ℕ → ℕ → ℕ → ℕ → ℕ
walk S P lo hi h zero a = if eqb (step S P lo hi h a) 0 then 0 else (if eqb (step S P lo hi h a) h then 1 else 0)
walk S P lo hi h (suc k) a =
    if eqb (step S P lo hi h a) 0 then 0
    else (if eqb (step S P lo hi h a) h then suc (suc k) else walk S P lo hi h k (step S P lo hi h a))

-- the rings of the n heads from g have k links together, and none of them more than most
unfoldable pub closed : (ℕ → ℕ) → (ℕ → ℕ) → ℕ → ℕ → ℕ → ℕ → ℕ → ℕ → Bool
closed S P lo hi most zero g k = eqb k 0
closed S P lo hi most (suc n) g k =
    if eqb (walk S P lo hi g k g) 0 then false
    else (if ltb most (k - (walk S P lo hi g k g - 1)) then false else closed S P lo hi most n (suc g) (walk S P lo hi g k g - 1))

-- two zeros
unfoldable pub idle : (ℕ → ℕ) → (ℕ → ℕ) → ℕ → Bool
idle S P x = eqb (S x) 0 && eqb (P x) 0

-- those of the n places from lo that have not two zeros
unfoldable pub busy : (ℕ → ℕ) → (ℕ → ℕ) → ℕ → ℕ → List ℕ
busy S P lo zero = []
busy S P lo (suc n) = if idle S P (lo + n) then busy S P lo n else (lo + n) ∷ busy S P lo n

-- place 0 holds 0, the rings of the n heads from g are closed, each of at most `most` links, and all that is not on them is idle
unfoldable pub rings_fine : (ℕ → ℕ) → (ℕ → ℕ) → ℕ → ℕ → ℕ → ℕ → ℕ → Bool
rings_fine S P lo hi most n g = idle S P 0 && closed S P lo hi most n g (length (busy S P lo (hi - lo)))

-- ---- what the code's functions ask and promise among themselves

-- a table of two halves of m words, and links in it
pub record Space (m hi : ℕ) (t : List ℕ) : Type 0 where
  pub two : length t ≡ 2 * m
  pub top : hi ≤ m

-- the next place, within the table
pub record WalkStep (m want got : ℕ) : Type 0 where
  pub is : got ≡ want
  pub at : got < m

-- a count, and a bound of it
pub record Bounded (top want got : ℕ) : Type 0 where
  pub is : got ≡ want
  pub few : got ≤ top

-- a table with its heads and links
pub record Plan (m lo hi n g : ℕ) (t : List ℕ) : Type 0 where
  pub two : length t ≡ 2 * m
  pub top : hi ≤ m
  pub low : 0 < lo
  pub span : lo ≤ hi
  pub heads : g + n ≤ m
