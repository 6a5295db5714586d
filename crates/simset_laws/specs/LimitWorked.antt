-- The limit worked out on sets of 511 and 512 members: heads 1 and 2, and links from 3 on.
use Rattle.std.specs.Prelude.{ℕ, ◌≡◌, refl, Bool, true, false, ◌||◌, ◌&&◌, List, [], ◌∷◌}
use Rattle.ring_laws.specs.Tabulate.{listed}
use Rattle.model.specs.declared.call.SetCall.{SetCall}
use Rattle.model.specs.declared.call.SetCall.TheVariants.{Out, Follow, Precede, Into, Clear}
use Rattle.simset_laws.specs.Plain.{crowds}

-- the links from a on, n of them
abbrev pub links : ℕ → ℕ → List ℕ
links a n = listed (λ i. i) a n

-- 512 links in set 1, two in set 2
abbrev full : List (List ℕ)
full = links 3 512 ∷ links 515 2 ∷ []

-- 511 links in set 1, two in set 2
abbrev short : List (List ℕ)
short = links 3 511 ∷ links 515 2 ∷ []

abbrev all : List SetCall → List (List ℕ) → Bool
all [] sets = true
all (k ∷ ks) sets = crowds k sets && all ks sets

abbrev any : List SetCall → List (List ℕ) → Bool
any [] sets = false
any (k ∷ ks) sets = crowds k sets || any ks sets

-- a 513th: last, first, beside the first, the last and another member, and from another set
pub refused_each : all (Into 600 1 ∷ Follow 600 1 ∷ Precede 600 3 ∷ Follow 600 514 ∷ Follow 600 100 ∷ Into 515 1 ∷ Precede 516 9 ∷ []) full
    ≡ true
refused_each = refl

-- moved within the full set and beside itself; to the other set, beside one in no set, beside none, out, and clear
abbrev within : List SetCall
within = Into 3 1 ∷ Follow 514 1 ∷ Precede 3 514 ∷ Follow 100 100 ∷ []

abbrev elsewhere : List SetCall
elsewhere = Into 3 2 ∷ Follow 600 601 ∷ Precede 600 0 ∷ Follow 515 516 ∷ Out 3 ∷ Clear 1 ∷ []

pub fine_each : any within full || any elsewhere full ≡ false
fine_each = refl

-- a 512th
pub last_each : any (Into 600 1 ∷ Follow 515 1 ∷ Precede 600 100 ∷ []) short ≡ false
last_each = refl
