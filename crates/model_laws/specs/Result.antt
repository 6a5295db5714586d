-- A call on plain lists is refused or leaves lists; what it means that a call on tables follows it; and that a refused call keeps every
-- word.
use Rattle.std.specs.Prelude.{◌≡◌, refl, Bool, true, false, Ok, Err}
use Rattle.std.proofs.Common.{ap, ◌∙◌}
use Rattle.model.specs.declared.Counts.{Counts}
use Rattle.model.specs.declared.Refusal.{Refusal}
use Rattle.model.specs.declared.Refusal.TheVariants.{Operand}
use Rattle.model.specs.Answers.{Answered}
use Rattle.model.specs.declared.answer.Answer.TheVariants.{Done}
use Rattle.model.specs.Answers.{Verdict}
use Rattle.model_laws.specs.Tables.{Tables, Lists, After, Spells}
use Rattle.model_laws.specs.Judge.{judged}
use Rattle.model_laws.specs.Called.{turning, called, if_accepted, answering}

-- lists, or the whole machine of a run
pub data Result (A : Type 0) : Type 0 where
  refused : Refusal → Result A
  done : A → Result A

-- refusal 3, by the kind of an operand
abbrev pub need : Bool → Result Lists → Result Lists
need true r = r
need false r = refused Operand

-- what is done had its operands of the right kinds
pub need_done : (b : Bool) (k : Result Lists) (l : Lists) → need b k ≡ done l → b ≡ true
need_done true k l e = refl
need_done false k l e = cc

-- the call on tables does what the call on lists does: refused with its number and every word as it was, or done with the answer v, and
-- the tables spell the lists that it leaves
abbrev pub Tells : Counts → Tables → Answered → Result Lists → After Answered → Type 0
Tells c t v (refused r) a = (a.answer ≡ Err r) × (a.tables ≡ t)
Tells c t v (done l) a = (a.answer ≡ v) × Spells c l a.tables

-- the same of a step, which has nothing to tell
abbrev pub Follows : Counts → Tables → Result Lists → After Answered → Type 0
Follows c t r a = Tells c t (Ok Done) r a

-- a step that follows, answered by what was told before it; where the call is done, that is v
pub answering_follows : (c : Counts) (t : Tables) (v : Answered) (told : Tables → Answered) (f : Tables → After Answered) (r : Result Lists)
    → ((l : Lists) → r ≡ done l → told t ≡ v) → Follows c t r (f t) → Tells c t v r (answering told f t)
answering_follows c t v told f (refused q) e a = (ap (λ (b : Answered). if_accepted b (told t)) a.0, a.1)
answering_follows c t v told f (done l) e a = (ap (λ (b : Answered). if_accepted b (told t)) a.0 ∙ e l refl, a.1)

-- ---- "A refusal returns its number and changes no lent byte", on any tables, well formed or not

abbrev pub KeepsRefused : (Tables → After Answered) → Type 0
KeepsRefused f = (t : Tables) (r : Refusal) → (f t).answer ≡ Err r → (f t).tables ≡ t

-- a call that tells something keeps what its step keeps, where every refusal is the step's own
pub answering_kept : (told : Tables → Answered) (f : Tables → After Answered)
    → ((t : Tables) (r : Refusal) → if_accepted (f t).answer (told t) ≡ Err r → (f t).answer ≡ Err r)
    → KeepsRefused f → KeepsRefused (answering told f)
answering_kept told f n k t r e = k t r (n t r e)

-- a public call keeps what its step keeps
pub called_kept : (c : Counts) (f : Tables → After Answered) → KeepsRefused f → KeepsRefused (called c f)
unfolding called
called_kept c f k t r e = go (judged c t) e
  where
    go : (v : Verdict) → (turning v t (f t)).answer ≡ Err r → (turning v t (f t)).tables ≡ t
    go (Ok tt) q = k t r q
    go (Err p) q = refl

-- "The tables after each call stay as published": a public call that tells something leaves, on any tables, what it leaves that does not
pub answering_leaves : (c : Counts) (told : Tables → Answered) (f : Tables → After Answered) (t : Tables)
    → (called c (answering told f) t).tables ≡ (called c f t).tables
unfolding called
answering_leaves c told f t = go (judged c t)
  where
    go : (v : Verdict) → (turning v t (answering told f t)).tables ≡ (turning v t (f t)).tables
    go (Ok tt) = refl
    go (Err p) = refl
