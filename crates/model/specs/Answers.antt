-- Answers: each case's code and value, as the papers number them.
use Rattle.std.specs.Prelude.{ℕ, Bool, Result, Ok, Err}
use Rattle.ring_laws.specs.Tabulate.{bit}
use Rattle.model.specs.declared.answer.Answer.{Answer}
use Rattle.model.specs.declared.answer.Answer.TheVariants.{Done, Linkage, Number, Truth}
use Rattle.model.specs.declared.Refusal.{Refusal}
use Rattle.model.specs.Refusals.{refusal_number}

-- what a call answers, and what a judge says
abbrev pub Answered : Type 0
Answered = Result Answer Refusal

abbrev pub Verdict : Type 0
Verdict = Result Unit Refusal

-- accepted, with one of these to tell
abbrev pub linkage : ℕ → Answered
linkage x = Ok (Linkage x)

abbrev pub number : ℕ → Answered
number n = Ok (Number n)

abbrev pub truth : Bool → Answered
truth b = Ok (Truth b)

-- "A refusal returns its number"; 0 is accepted
abbrev pub code_of : Answered → ℕ
code_of (Ok a) = 0
code_of (Err r) = refusal_number r

abbrev pub value_of : Answered → ℕ
value_of (Ok Done) = 0
value_of (Ok (Linkage x)) = x
value_of (Ok (Number n)) = n
value_of (Ok (Truth b)) = bit b
value_of (Err r) = 0
