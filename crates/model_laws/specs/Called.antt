-- A call that first judges its tables: what it does, and its two ways.
use Rattle.std.specs.Prelude.{◌≡◌, Ok, Err}
use Rattle.std.proofs.Math.Path.{sym}
use Rattle.std.proofs.Common.{ap, ◌∙◌}
use Rattle.model.specs.declared.Counts.{Counts}
use Rattle.model.specs.declared.Refusal.{Refusal}
use Rattle.model.specs.Answers.{Answered}
use Rattle.model.specs.declared.answer.Answer.TheVariants.{Done, Linkage, Number, Truth}
use Rattle.model.specs.Answers.{Verdict}
use Rattle.model_laws.specs.Tables.{Tables, After}
use Rattle.model_laws.specs.Judge.{judged}

-- "A refusal returns its number and changes no lent byte .. Order: 8, 1, 2, 3, then the rest": tables that are turned down stay as they
-- are, and f is what the call does to the others
abbrev pub turning : Verdict → Tables → After Answered → After Answered
turning (Ok tt) t a = a
turning (Err r) t a = record { tables = t; answer = Err r }

unfoldable pub called : Counts → (Tables → After Answered) → Tables → After Answered
called c f t = turning (judged c t) t (f t)

-- a query answers and changes nothing
abbrev pub telling : Verdict → Answered → Answered
telling (Ok tt) a = a
telling (Err r) a = Err r

unfoldable pub asked : Counts → (Tables → Answered) → Tables → Answered
asked c f t = telling (judged c t) (f t)

-- ---- a call that has something to tell

-- "A refusal returns its number"; an accepted call tells v
abbrev pub if_accepted : Answered → Answered → Answered
if_accepted (Ok a) v = v
if_accepted (Err r) v = Err r

-- f on the tables, answered by what was told of them before it
abbrev pub answering : (Tables → Answered) → (Tables → After Answered) → Tables → After Answered
answering told f t = record { tables = (f t).tables; answer = if_accepted (f t).answer (told t) }

-- ---- the two ways of a public call

module _ (c : Counts) (t : Tables) (v : Verdict) (e : v ≡ judged c t) where
  pub called_turned : (f : Tables → After Answered) (r : Refusal) → v ≡ Err r → record { tables = t; answer = Err r } ≡ called c f t
  unfolding called
  called_turned f r q = sym (ap (λ (w : Verdict). turning w t (f t)) (sym e ∙ q))

  pub called_fine : (f : Tables → After Answered) (a : After Answered) → v ≡ (Ok tt) → a ≡ f t → a ≡ called c f t
  unfolding called
  called_fine f a q p = p ∙ sym (ap (λ (w : Verdict). turning w t (f t)) (sym e ∙ q))

  pub asked_turned : (f : Tables → Answered) (r : Refusal) → v ≡ Err r → Err r ≡ asked c f t
  unfolding asked
  asked_turned f r q = sym (ap (λ (w : Verdict). telling w (f t)) (sym e ∙ q))

  pub asked_fine : (f : Tables → Answered) (a : Answered) → v ≡ (Ok tt) → a ≡ f t → a ≡ asked c f t
  unfolding asked
  asked_fine f a q p = p ∙ sym (ap (λ (w : Verdict). telling w (f t)) (sym e ∙ q))
