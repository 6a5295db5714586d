-- A refused set call changes no word, whatever the tables.
use Rattle.std.specs.Prelude.{ℕ, ◌≡◌, refl, Bool, true, false, List, Ok, Err}
use Rattle.ring_laws.specs.Lists.{clash}
use Rattle.model.specs.declared.Refusal.{Refusal}
use Rattle.model.specs.Answers.{Answered, linkage, number}
use Rattle.model.specs.declared.answer.Answer.TheVariants.{Linkage, Number}
use Rattle.model_laws.specs.Called.{if_accepted}
use Rattle.simset_laws.specs.Calls.{linked_if, entered_if, told_if}

-- by one test
pub if_kept : (b : Bool) (t u : List ℕ) (r : Refusal) → (linked_if b t u).answer ≡ Err r → (linked_if b t u).links ≡ t
if_kept true t u r e = let z : false ≡ true = cc in clash z
if_kept false t u r e = refl

-- by two
pub entry_kept : (b f : Bool) (t u : List ℕ) (r : Refusal) → (entered_if b f t u).answer ≡ Err r → (entered_if b f t u).links ≡ t
entry_kept true false t u r e = let z : false ≡ true = cc in clash z
entry_kept true true t u r e = refl
entry_kept false f t u r e = refl

-- where the step's test holds, so does that of what is told, and no refusal is told: a refused answer is the step's own
pub own_if : (b a : Bool) (t u : List ℕ) (v : Answered) (r : Refusal) → (b ≡ true → a ≡ true) → (v ≡ Err r → ⊥)
    → if_accepted (linked_if b t u).answer (told_if a v) ≡ Err r → (linked_if b t u).answer ≡ Err r
own_if true a t u v r f n e = absurd (n (rw (f refl) at e))
own_if false a t u v r f n e = e

pub own_entry : (b f a : Bool) (t u : List ℕ) (v : Answered) (r : Refusal) → (b ≡ true → a ≡ true) → (v ≡ Err r → ⊥)
    → if_accepted (entered_if b f t u).answer (told_if a v) ≡ Err r → (entered_if b f t u).answer ≡ Err r
own_entry true false a t u v r k n e = absurd (n (rw (k refl) at e))
own_entry true true a t u v r k n e = e
own_entry false f a t u v r k n e = e

pub no_linkage : (x : ℕ) (r : Refusal) → linkage x ≡ Err r → ⊥
no_linkage x r e = clash (cc)

pub no_number : (n : ℕ) (r : Refusal) → number n ≡ Err r → ⊥
no_number n r e = clash (cc)
