-- The public sequencing calls and queries as values: what each case does to the tables, what it is on lists, and as published.
use Rattle.std.specs.Prelude.{ℕ, true, false, not, List, eqb, length, Ok}
use Rattle.ring_laws.specs.Tabulate.{has}
use Rattle.model.specs.declared.Counts.{Counts}
use Rattle.model.specs.Counts.{main, is_head, is_process, is_linkage}
use Rattle.model.specs.Answers.{Answered}
use Rattle.model.specs.declared.answer.Answer.TheVariants.{Done, Linkage, Number, Truth}
use Rattle.model.specs.declared.call.SequencingCall.{SequencingCall}
use Rattle.model.specs.declared.call.SequencingCall.TheVariants.{Hold, Passivate, Wait, Cancel, Activate, Reactivate, Finish}
use Rattle.model.specs.declared.call.Query.{Query}
use Rattle.model.specs.declared.call.Query.TheVariants.{First, Last, Suc, Pred, Empty, Cardinal, Current, Time, Idle, Terminated, Evtime}
use Rattle.model.specs.declared.call.Query.TheVariants.{Nextev}
use Rattle.model_laws.specs.Tables.{Tables, Lists, After, members_of}
use Rattle.model_laws.specs.Called.{answering}
use Rattle.model_laws.specs.Result.{Result, need}
use Rattle.model_laws.specs.Now.{current, time}
use Rattle.simset_laws.specs.Sets.{precede_sets, exceeds, suc_sets, pred_sets, no_links}
use Rattle.simset_laws.specs.Calls.{or_none, told_if, first_told, last_told, suc_told, pred_told, empty_told, cardinal_told}
use Rattle.simset_laws.specs.Plain.{unless_full}
use Rattle.simset_laws.specs.Told.{head_of}
use Rattle.axis_laws.specs.NoticeOps.{has_notice}
use Rattle.simulation_laws.specs.Plain.{timed_need}
use Rattle.simulation_laws.specs.Plain as plain
use Rattle.simulation_laws.specs.Published.{clause_code, clause_prior, ACTIVATE}
use Rattle.simulation_laws.specs.Published as published
use Rattle.simulation_laws.specs.Calls.{sqs_of, hold_step, passivate_step, cancel_step, timed_step, finish_step, wait_step, on_sqs, on_marks}
use Rattle.simulation_laws.specs.Calls.{on_sets, wait_told, current_told, time_told, idle_told, terminated_told, evtime_told, nextev_told}
use Rattle.simulation_laws.specs.QueryMeaning.{evtime_of, nextev_of}

-- ---- the sequencing calls

-- on the tables of a judged model, by the step that runs make too
abbrev pub sequencing_after : Counts → SequencingCall → Tables → After Answered
sequencing_after c (Hold z) t = on_sqs (λ k a. hold_step c z a) t
sequencing_after c Passivate t = on_sqs (λ k a. passivate_step c a) t
sequencing_after c (Wait y) t = on_sets (λ k a. wait_step c y k a) t
sequencing_after c (Cancel x) t = on_sqs (λ k a. cancel_step c x a) t
sequencing_after c (Activate k x y z) t = on_sqs (λ m a. timed_step c false k x y z m a) t
sequencing_after c (Reactivate k x y z) t = on_sqs (λ m a. timed_step c true k x y z m a) t
sequencing_after c Finish t = on_marks (λ k a. finish_step c k a) t

-- "Follow, precede, into and wait pass that head on": wait tells the head of the set that current left, the others have nothing to tell
abbrev pub sequencing_told : Counts → SequencingCall → List ℕ → List ℕ → Answered
sequencing_told c (Hold z) links axis = Ok Done
sequencing_told c Passivate links axis = Ok Done
sequencing_told c (Wait y) links axis = wait_told c links axis
sequencing_told c (Cancel x) links axis = Ok Done
sequencing_told c (Activate k x y z) links axis = Ok Done
sequencing_told c (Reactivate k x y z) links axis = Ok Done
sequencing_told c Finish links axis = Ok Done

abbrev pub sequencing_answered : Counts → SequencingCall → Tables → After Answered
sequencing_answered c k t = answering (λ u. sequencing_told c k u.links u.axis) (sequencing_after c k) t

-- the same of the lists before the call
abbrev pub sequencing_tells : SequencingCall → Lists → Answered
sequencing_tells (Hold z) l = Ok Done
sequencing_tells Passivate l = Ok Done
sequencing_tells (Wait y) l = Ok (Linkage (head_of (current l) l.sets))
sequencing_tells (Cancel x) l = Ok Done
sequencing_tells (Activate k x y z) l = Ok Done
sequencing_tells (Reactivate k x y z) l = Ok Done
sequencing_tells Finish l = Ok Done

-- on the plain machine's lists
unfoldable pub sequencing_call : Counts → SequencingCall → Lists → Result Lists
sequencing_call c (Hold z) l = plain.hold z l
sequencing_call c Passivate l = plain.passivate l
sequencing_call c (Wait y) l = plain.wait c y l
sequencing_call c (Cancel x) l = plain.cancel c x l
sequencing_call c (Activate k x y z) l = plain.timed c false k x y z l
sequencing_call c (Reactivate k x y z) l = plain.timed c true k x y z l
sequencing_call c Finish l = plain.finish c l

-- chapter 14's procedure, behind the operands' kinds; "main can't finish by call"
unfoldable pub published_call : Counts → SequencingCall → Lists → Result Lists
published_call c (Hold z) l = published.hold z l
published_call c Passivate l = published.passivate l
published_call c (Wait y) l =
    need (or_none (is_head c y) y) (unless_full (exceeds (precede_sets (current l) y l.sets)) (published.wait y l))
published_call c (Cancel x) l = need (or_none (is_process c x) x) (published.cancel x l)
published_call c (Activate k x y z) l = need (timed_need c k x y) (ACTIVATE false x (clause_code k) z y (clause_prior k) l)
published_call c (Reactivate k x y z) l = need (timed_need c k x y) (ACTIVATE true x (clause_code k) z y (clause_prior k) l)
published_call c Finish l = need (not (eqb (current l) (main c))) (published.terminate l)

-- ---- the queries

-- of the tables of a judged model
abbrev pub query_told : Counts → Query → Tables → Answered
query_told c (First x) t = first_told c x t.links
query_told c (Last x) t = last_told c x t.links
query_told c (Suc x) t = suc_told c x t.links
query_told c (Pred x) t = pred_told c x t.links
query_told c (Empty x) t = empty_told c x t.links
query_told c (Cardinal x) t = cardinal_told c x t.links
query_told c Current t = current_told c (sqs_of t)
query_told c Time t = time_told c (sqs_of t)
query_told c (Idle x) t = idle_told c x (sqs_of t)
query_told c (Terminated x) t = terminated_told c x t.marks
query_told c (Evtime x) t = evtime_told c x (sqs_of t)
query_told c (Nextev x) t = nextev_told c x (sqs_of t)

-- of lists: refusal 3 where the operand is not of the kind that is read
unfoldable pub query_on : Counts → Query → Lists → Answered
query_on c (First x) l = told_if (is_head c x) (Ok (Linkage (suc_sets x l.sets)))
query_on c (Last x) l = told_if (is_head c x) (Ok (Linkage (pred_sets x l.sets)))
query_on c (Suc x) l = told_if (is_linkage c x) (Ok (Linkage (suc_sets x l.sets)))
query_on c (Pred x) l = told_if (is_linkage c x) (Ok (Linkage (pred_sets x l.sets)))
query_on c (Empty x) l = told_if (is_head c x) (Ok (Truth (no_links (members_of l.sets x))))
query_on c (Cardinal x) l = told_if (is_head c x) (Ok (Number (length (members_of l.sets x))))
query_on c Current l = Ok (Linkage (current l))
query_on c Time l = Ok (Number (time l))
query_on c (Idle x) l = told_if (is_process c x) (Ok (Truth (not (has_notice x l.notices))))
query_on c (Terminated x) l = told_if (is_process c x) (Ok (Truth (has x l.terminated)))
query_on c (Evtime x) l = told_if (is_process c x) (evtime_of x l.notices)
query_on c (Nextev x) l = told_if (is_process c x) (nextev_of x l.notices)
