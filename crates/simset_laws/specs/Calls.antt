-- The set calls on judged tables: refusal 3, for a call that enters a set refusal 10, or the procedure.
use Rattle.std.specs.Prelude.{ℕ, ◌+◌, Bool, true, false, ◌&&◌, ◌||◌, List, eqb, Ok, Err}
use Rattle.ring_laws.specs.Table.{unlinked}
use Rattle.model.specs.declared.Counts.{Counts}
use Rattle.model.specs.declared.Refusal.TheVariants.{Operand, Full}
use Rattle.model.specs.Counts.{total, is_head, is_link, is_linkage}
use Rattle.model.specs.Answers.{Answered}
use Rattle.model.specs.declared.answer.Answer.TheVariants.{Done, Linkage, Number, Truth}
use Rattle.model_laws.specs.Tables.{Tables, After, model_of}
use Rattle.simset_laws.specs.Procedures.{followed, preceded, cleared, suc_of, pred_of, empty_of, cardinal_of}
use Rattle.simset_laws.specs.Full.{full_for}

-- the links after a call, and its answer
pub record Linked : Type 0 where
  pub links : List ℕ
  pub answer : Answered

-- refusal 3, by the kind of an operand: the links stay as they are
abbrev pub linked_if : Bool → List ℕ → List ℕ → Linked
linked_if true t u = record { links = u; answer = Ok Done }
linked_if false t u = record { links = t; answer = Err Operand }

-- then refusal 10, by a set that is full
abbrev pub entered_if : Bool → Bool → List ℕ → List ℕ → Linked
entered_if true false t u = record { links = u; answer = Ok Done }
entered_if true true t u = record { links = t; answer = Err Full }
entered_if false b t u = record { links = t; answer = Err Operand }

abbrev pub told_if : Bool → Answered → Answered
told_if true a = a
told_if false a = Err Operand

-- none will do as the second party: "None as the second party means out alone"
abbrev pub or_none : Bool → ℕ → Bool
or_none b y = eqb y 0 || b

-- out, follow, precede and into are called on a link, clear on a head
unfoldable pub out_step : Counts → ℕ → List ℕ → Linked
out_step c x t = linked_if (is_link c x) t (unlinked (total c + 1) x t)

unfoldable pub follow_step : Counts → ℕ → ℕ → List ℕ → Linked
follow_step c x y t = entered_if (is_link c x && or_none (is_linkage c y) y) (full_for c x y t) t (followed (total c + 1) x y t)

unfoldable pub precede_step : Counts → ℕ → ℕ → List ℕ → Linked
precede_step c x y t = entered_if (is_link c x && or_none (is_linkage c y) y) (full_for c x y t) t (preceded (total c + 1) x y t)

-- "Into(S) is precede(S)", of a head
unfoldable pub into_step : Counts → ℕ → ℕ → List ℕ → Linked
into_step c x y t = entered_if (is_link c x && or_none (is_head c y) y) (full_for c x y t) t (preceded (total c + 1) x y t)

unfoldable pub clear_step : Counts → ℕ → List ℕ → Linked
clear_step c x t = linked_if (is_head c x) t (cleared (total c + 1) x t)

-- first, last, cardinal and empty are asked of a head, suc and pred of a linkage
unfoldable pub first_told : Counts → ℕ → List ℕ → Answered
first_told c x t = told_if (is_head c x) (Ok (Linkage (suc_of c.heads x t)))

unfoldable pub last_told : Counts → ℕ → List ℕ → Answered
last_told c x t = told_if (is_head c x) (Ok (Linkage (pred_of c.heads (total c + 1) x t)))

unfoldable pub suc_told : Counts → ℕ → List ℕ → Answered
suc_told c x t = told_if (is_linkage c x) (Ok (Linkage (suc_of c.heads x t)))

unfoldable pub pred_told : Counts → ℕ → List ℕ → Answered
pred_told c x t = told_if (is_linkage c x) (Ok (Linkage (pred_of c.heads (total c + 1) x t)))

unfoldable pub empty_told : Counts → ℕ → List ℕ → Answered
empty_told c x t = told_if (is_head c x) (Ok (Truth (empty_of x t)))

unfoldable pub cardinal_told : Counts → ℕ → List ℕ → Answered
cardinal_told c x t = told_if (is_head c x) (Ok (Number (cardinal_of (total c + 1) x t)))

-- the whole model after a call on its links: axis, times and marks untouched
abbrev pub on_links : (List ℕ → Linked) → Tables → After Answered
on_links f t =
    record {
      tables = model_of (f t.links).links t.axis t.times t.marks;
      answer = (f t.links).answer;
    }

-- a query of the links alone
abbrev pub of_links : (List ℕ → Answered) → Tables → Answered
of_links f t = f t.links
