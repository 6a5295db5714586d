-- Hold on tables that spell lists does what the plain call does to the lists, with the same refusals; and what agreeing means.
use Rattle.std.specs.Prelude.{ℕ, ◌≡◌, List, Ok, Err}
use Rattle.std.proofs.Common.{ap}
use Rattle.model.specs.declared.Counts.{Counts}
use Rattle.model.specs.declared.answer.Answer.TheVariants.{Done}
use Rattle.axis_laws.specs.Notices.{Notice}
use Rattle.model_laws.specs.Tables.{Tables, Lists, Spells, model_of}
use Rattle.model_laws.specs.Result.{done, refused, Result, Follows}
use Rattle.simulation_laws.specs.Plain.{with_notices}
use Rattle.simulation_laws.specs.NoticesKept.{NoticesKept}
use Rattle.simulation_laws.specs.Procedures.{Sqs, Outcome}
use Rattle.simulation_laws.specs.Calls.{sqs_of}
use Rattle.simulation_laws.specs.Places.{SpellsTime}

-- ---- what a call leaves, and what the machine answers

abbrev pub with_sqs : Tables → Sqs → Tables
with_sqs t a = model_of t.links a.axis a.times t.marks

abbrev pub with_marks : Tables → List ℕ → Tables
with_marks t l = model_of t.links t.axis t.times l

-- refused: the number, and the tables as they were; done: the tables spell the machine's next
abbrev pub Agrees : Counts → Tables → Result Lists → Outcome → Type 0
Agrees c t (refused n) o = (o.answer ≡ Err n) × (o.left ≡ sqs_of t)
Agrees c t (done m) o = (o.answer ≡ (Ok Done)) × Spells c m (with_sqs t o.left)

-- the same with marks
abbrev pub AgreesMarked : Counts → Tables → Result Lists → Outcome → List ℕ → Type 0
AgreesMarked c t (refused i) o l = (o.answer ≡ Err i) × (o.left ≡ sqs_of t) × (l ≡ t.marks)
AgreesMarked c t (done m) o l = (o.answer ≡ (Ok Done)) × Spells c m (with_marks (with_sqs t o.left) l)

module _ (c : Counts) (M : Lists) (t : Tables) (sp : Spells c M t) where
  pub its_time : SpellsTime c M.notices (sqs_of t)
  its_time = record { axis = sp.axis; times = sp.times }

  pub its_kept : NoticesKept M.terminated M.notices
  its_kept = record { some = sp.some; in_order = sp.in_order; within = sp.within; idle = λ x i. (sp.ended x i).3 }

  -- notices as well formed as before, and spelled: the tables spell the lists with these notices
  pub respell : (l : List Notice) (a : Sqs) → NoticesKept M.terminated l → SpellsTime c l a → Spells c (with_notices M l) (with_sqs t a)
  respell l a k s =
      record {
        links = sp.links;
        limited = sp.limited;
        axis = s.axis;
        times = s.times;
        marks = sp.marks;
        some = k.some;
        in_order = k.in_order;
        within = k.within;
        ended = λ x i. let e = sp.ended x i in (e.0, e.1, e.2, k.idle x i);
      }

-- ---- so the call leaves what the list has

pub follows_sqs : (c : Counts) (t : Tables) (r : Result Lists) (o : Outcome) → Agrees c t r o
    → Follows c t r (record { tables = with_sqs t o.left; answer = o.answer })
follows_sqs c t (refused r) o g = (g.0, ap (with_sqs t) g.1)
follows_sqs c t (done l) o g = g

pub follows_marks : (c : Counts) (t : Tables) (r : Result Lists) (o : Outcome) (k : List ℕ) → AgreesMarked c t r o k
    → Follows c t r (record { tables = with_marks (with_sqs t o.left) k; answer = o.answer })
follows_marks c t (refused r) o k g = (g.0, λ i. with_marks (with_sqs t (g.1 i)) (g.2 i))
follows_marks c t (done l) o k g = g
