-- What the set calls answer since request 2.1, on lists and on a table of links, both before the call: "the new figure is fixed by the set
-- lists before the call".
use Rattle.std.specs.Prelude.{ℕ, ◌+◌, List, length, Ok}
use Rattle.model.specs.declared.Counts.{Counts}
use Rattle.model.specs.Counts.{total, is_link}
use Rattle.model.specs.Answers.{Answered}
use Rattle.model.specs.declared.answer.Answer.TheVariants.{Linkage, Number}
use Rattle.model.specs.declared.call.SetCall.{SetCall}
use Rattle.model.specs.declared.call.SetCall.TheVariants.{Out, Follow, Precede, Into, Clear}
use Rattle.model_laws.specs.Tables.{Tables, After, members_of}
use Rattle.model_laws.specs.Called.{if_accepted, answering}
use Rattle.simset_laws.specs.Sets.{where_in}
use Rattle.simset_laws.specs.Calls.{Linked, told_if, cardinal_told, on_links, of_links}
use Rattle.simset_laws.specs.Plain.{links_after}
use Rattle.simset_laws.specs.Walk.{head_at}

-- ---- on lists

-- "the head of the set that the link left, or none if it was in none": the number of the head in whose list x stands
abbrev pub head_of : ℕ → List (List ℕ) → ℕ
head_of x sets = where_in (λ h l. h) x 1 sets

-- "Out shall answer the head of the set that the link left, or none if it was in none. Follow, precede, into .. pass that head on, and
-- clear answers how many it removed."
abbrev pub set_tells : SetCall → List (List ℕ) → Answered
set_tells (Out x) sets = Ok (Linkage (head_of x sets))
set_tells (Follow x y) sets = Ok (Linkage (head_of x sets))
set_tells (Precede x y) sets = Ok (Linkage (head_of x sets))
set_tells (Into x y) sets = Ok (Linkage (head_of x sets))
set_tells (Clear h) sets = Ok (Number (length (members_of sets h)))

-- ---- on a table of links, whose heads are 1 .. H

-- refused where x is no link, as the calls are then
unfoldable pub head_told : Counts → ℕ → List ℕ → Answered
head_told c x t = told_if (is_link c x) (Ok (Linkage (head_at (total c + 1) c.heads x t)))

abbrev pub set_told : Counts → SetCall → List ℕ → Answered
set_told c (Out x) t = head_told c x t
set_told c (Follow x y) t = head_told c x t
set_told c (Precede x y) t = head_told c x t
set_told c (Into x y) t = head_told c x t
set_told c (Clear h) t = cardinal_told c h t

-- "The tables after each call stay as published": a set call is its step on the links, answered by what was told before it
abbrev pub set_answered : Counts → SetCall → Tables → After Answered
set_answered c k t = answering (of_links (set_told c k)) (on_links (links_after c k)) t

-- the same of the links alone
abbrev pub links_answered : Counts → SetCall → List ℕ → Linked
links_answered c k t = record { links = (links_after c k t).links; answer = if_accepted (links_after c k t).answer (set_told c k t) }
