-- Request 2.1 worked out: set calls one after the other from the fresh model, and what each answers, on lists and on tables, by one check.
use Rattle.std.specs.Prelude.{◌≡◌, refl, Bool, true, ◌&&◌, List, [], ◌∷◌, eqb, Ok, Err}
use Rattle.ring_laws.specs.Table.{unlinked, linked_behind, linked_before, self_linked, steps}
use Rattle.model.specs.declared.Counts.{Counts}
use Rattle.model.specs.declared.Refusal.TheVariants.{Operand}
use Rattle.model.specs.Answers.{Answered}
use Rattle.model.specs.declared.answer.Answer.TheVariants.{Linkage, Number}
use Rattle.model.specs.Answers.{code_of, value_of}
use Rattle.model.specs.declared.call.SetCall.{SetCall}
use Rattle.model.specs.declared.call.SetCall.TheVariants.{Out, Follow, Precede, Into, Clear}
use Rattle.model_laws.specs.Tables.{Tables, Lists}
use Rattle.model_laws.specs.Fresh.{fresh_heads, fresh_axis, fresh_tables, fresh_lists}
use Rattle.model_laws.specs.Result.{Result, refused, done}
use Rattle.simset_laws.specs.Procedures.{follow_on, followed, precede_on, preceded, clearing, cleared}
use Rattle.simset_laws.specs.Calls.{out_step, follow_step, precede_step, into_step, clear_step, cardinal_told}
use Rattle.simset_laws.specs.Plain.{set_call}
use Rattle.simset_laws.specs.Walk.{first_from}
use Rattle.simset_laws.specs.Full.{full_for}
use Rattle.simset_laws.specs.Told.{set_tells, head_told, set_answered}

-- heads 1 and 2, main 3, links 4 to 6
abbrev c : Counts
c = record { heads = 2; processes = 1; plains = 3 }

pub record Row : Type 0 where
  pub call : SetCall
  pub answer : Answered

abbrev row : SetCall → Answered → Row
row k a = record { call = k; answer = a }

unfoldable pub rows : List Row
rows =
    row (Out 4) (Ok (Linkage 0))
    ∷ row (Into 4 1) (Ok (Linkage 0))
    ∷ row (Into 5 1) (Ok (Linkage 0))
    ∷ row (Follow 6 4) (Ok (Linkage 0))  -- set 1 is 4 6 5
    ∷ row (Into 4 1) (Ok (Linkage 1))  -- moved within its set: 6 5 4
    ∷ row (Precede 6 5) (Ok (Linkage 1))  -- and where it stood
    ∷ row (Follow 5 5) (Ok (Linkage 1))  -- follows itself: 6 4
    ∷ row (Precede 4 5) (Ok (Linkage 1))  -- 5 is in no set: 6
    ∷ row (Into 4 7) (Err Operand)
    ∷ row (Follow 6 0) (Ok (Linkage 1))  -- none as y
    ∷ row (Into 3 2) (Ok (Linkage 0))
    ∷ row (Into 4 2) (Ok (Linkage 0))
    ∷ row (Into 5 2) (Ok (Linkage 0))  -- set 2 is 3 4 5
    ∷ row (Precede 4 1) (Ok (Linkage 2))
    ∷ row (Out 4) (Ok (Linkage 1))
    ∷ row (Clear 1) (Ok (Number 0))
    ∷ row (Clear 2) (Ok (Number 2))
    ∷ row (Clear 3) (Err Operand)
    ∷ []

abbrev pub same : Answered → Answered → Bool
same a b = eqb (code_of a) (code_of b) && eqb (value_of a) (value_of b)

-- on lists: a refused call leaves them and answers its refusal
abbrev pub left : Lists → Result Lists → Lists
left l (refused q) = l
left l (done k) = k

abbrev pub answered : Answered → Result Lists → Answered
answered v (refused q) = Err q
answered v (done k) = v

abbrev listed : List Row → Lists → Bool
listed [] l = true
listed (r ∷ rs) l =
    same (answered (set_tells r.call l.sets) (set_call c r.call l)) r.answer && listed rs (left l (set_call c r.call l))

-- on tables
abbrev tabled : List Row → Tables → Bool
tabled [] t = true
tabled (r ∷ rs) t = same (set_answered c r.call t).answer r.answer && tabled rs (set_answered c r.call t).tables

pub told_each : listed rows (fresh_lists c) && tabled rows (fresh_tables c) ≡ true
unfolding rows fresh_heads fresh_axis fresh_tables self_linked unlinked linked_behind linked_before steps follow_on followed precede_on preceded
    clearing cleared out_step follow_step precede_step into_step clear_step cardinal_told first_from head_told full_for
told_each = refl
