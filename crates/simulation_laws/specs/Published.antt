-- Chapter 14's sequencing procedures, statement by statement, on the sequencing set as a list of notices. Each definition stands beside
-- the lines of document 004 that it writes down. ERROR is refusal 4, and `up_to` document 01's limit on times. That the engine's calls
-- leave what these leave is proved in PublishedCalls.antt. ("resume" hands over control: the first notice's process steps next.)
use Rattle.std.specs.Prelude.{ℕ, ◌+◌, Bool, true, false, not, ◌&&◌, ◌||◌, List, [], ◌∷◌, eqb, leb, ltb, ℤ, pos, ◌+ℤ◌, if◌then◌else◌}
use Rattle.std.specs.Int.Signed.{lt_z}
use Rattle.ring_laws.specs.Tabulate.{has}
use Rattle.model.specs.declared.Refusal.TheVariants.{NoNotice}
use Rattle.axis_laws.specs.Notices.{Notice, due_of}
use Rattle.model_laws.specs.Tables.{Lists}
use Rattle.model_laws.specs.Result.{done, refused, Result}
use Rattle.model_laws.specs.Now.{time, current}
use Rattle.simset_laws.specs.Sets.{precede_sets}
use Rattle.simset_laws.specs.Plain.{with_sets}
use Rattle.axis_laws.specs.NoticeOps as ops
use Rattle.axis_laws.specs.NoticeOps.{dropped, has_notice, rest}
use Rattle.simulation_laws.specs.Plain.{with_notices, with_terminated, up_to, above, is_delay, named}

abbrev pub ERROR : Result Lists
ERROR = refused NoNotice

-- "if SQS.empty then ERROR"
abbrev pub unless_empty : Lists → List Notice → Result Lists
unless_empty l [] = ERROR
unless_empty l (n ∷ ns) = done (with_notices l (n ∷ ns))

-- ---- RANK: P walks back; upto are P and those in front of it, P first, and passed those behind it. With none in upto, P is the head

-- a list that was walked back, in order again in front of l
abbrev pub back_onto : List Notice → List Notice → List Notice
back_onto [] l = l
back_onto (p ∷ ps) l = back_onto ps (p ∷ l)

-- "follow (P)"
abbrev pub follow_p : Notice → List Notice → List Notice → List Notice
follow_p n upto passed = back_onto upto (n ∷ passed)

-- "for P :- P while P.EVTIME = EVTIME do P :- P.pred"
abbrev pub while_equal : Notice → List Notice → List Notice → List Notice
while_equal n [] passed = follow_p n [] passed
while_equal n (p ∷ ps) passed = if eqb p.due n.due then while_equal n ps (p ∷ passed) else follow_p n (p ∷ ps) passed

-- "if BEFORE then"
abbrev pub if_before : Bool → Notice → List Notice → List Notice → List Notice
if_before true n upto passed = while_equal n upto passed
if_before false n upto passed = follow_p n upto passed

-- "for P :- P while P.EVTIME > EVTIME do P :- P.pred"
abbrev pub while_later : Bool → Notice → List Notice → List Notice → List Notice
while_later b n [] passed = if_before b n [] passed
while_later b n (p ∷ ps) passed = if ltb n.due p.due then while_later b n ps (p ∷ passed) else if_before b n (p ∷ ps) passed

-- "procedure RANK (BEFORE); Boolean BEFORE; begin ref (EVENT NOTICE) P; P :- SQS.last"
abbrev pub RANK : Bool → Notice → List Notice → List Notice
RANK b n ns = while_later b n (back_onto ns []) []

-- ---- hold

-- "if T > 0 then EVTIME := EVTIME + T"
abbrev pub added_to : ℕ → ℤ → ℕ
added_to evtime T = if lt_z (pos 0) T then evtime + above T else evtime

-- "if suc ≠ none then begin if suc. EVTIME ≤ EVTIME then begin out; RANK (false)"; the second argument are the notices behind it
abbrev pub held_first : Notice → List Notice → List Notice
held_first n [] = n ∷ []
held_first n (k ∷ ks) = if leb k.due n.due then RANK false n (k ∷ ks) else n ∷ k ∷ ks

-- "procedure hold(T); real T; inspect FIRSTEV do"
unfoldable pub hold : ℤ → Lists → Result Lists
hold T l =
    let u = added_to (time l) T in
    up_to u (done (with_notices l (held_first (record { who = current l; due = u }) (rest l.notices))))

-- ---- passivate, wait, cancel, and the end of a process

-- "inspect current do begin EVENT.out; EVENT := none end; if SQS.empty then ERROR else resume (current)"
unfoldable pub passivate : Lists → Result Lists
passivate l = unless_empty l (dropped (current l) l.notices)

-- "begin current.into(S); passivate end wait"
unfoldable pub wait : ℕ → Lists → Result Lists
wait S l = passivate (with_sets l (precede_sets (current l) S l.sets))

-- "if X == current then passivate else inspect X do if EVENT ≠ none then begin EVENT.out; EVENT := none end cancel"
unfoldable pub cancel : ℕ → Lists → Result Lists
cancel X l =
    if eqb X (current l) then passivate l
    else if eqb X 0 then done l
    else if has_notice X l.notices then done (with_notices l (dropped X l.notices))
    else done l

-- "TERMINATED := true; passivate"
unfoldable pub terminate : Lists → Result Lists
terminate l = passivate (with_terminated l (current l ∷ l.terminated))

-- ---- ACTIVATE

-- the actual parameters CODE and PRIOR of document 01's clauses: "0 direct, 1 at T, 2 delay T, 3 at T prior, 4 delay T prior, 5 before Y,
-- 6 after Y"
pub data Code : Type 0 where
  code_direct : Code
  code_at : Code
  code_delay : Code
  code_before : Code
  code_after : Code

unfoldable pub clause_code : ℕ → Code
clause_code k =
    if eqb k 0 then code_direct else if is_delay k then code_delay else if eqb k 5 then code_before else if eqb k 6 then code_after else code_at

abbrev pub clause_prior : ℕ → Bool
clause_prior k = eqb k 3 || eqb k 4

-- "exit: end ACTIVATE"
abbrev pub exit : Lists → Result Lists
exit l = done l

-- "if EV ≠ none then begin EV.out; if SQS.empty then ERROR end": X's earlier notice EV, if there is one, stands in the list under X's
-- number, and the new one under 0 until EV is out
abbrev pub ev_out : Bool → ℕ → Lists → List Notice → Result Lists
ev_out true X l sqs = unless_empty l (named X (dropped X sqs))
ev_out false X l sqs = done (with_notices l (named X sqs))

-- "new EVENT NOTICE (T,X)"
abbrev pub new_notice : ℕ → Notice
new_notice T = record { who = 0; due = T }

-- "direct: begin EVENT := new EVENT NOTICE (time,X); EVENT.precede(FIRSTEV) end direct"
abbrev pub direct : Bool → ℕ → Lists → Result Lists
direct ev X l = ev_out ev X l (new_notice (time l) ∷ l.notices)

-- "if T < time then T := time"
abbrev pub at_least : ℕ → ℤ → ℕ
at_least now T = if lt_z T (pos now) then now else above T

-- "if T = time .. PRIOR then go to direct; EVENT := new EVENT NOTICE(T,X); EVENT.RANK(PRIOR) end at"
abbrev pub at_time : Bool → ℕ → ℕ → Bool → Lists → Result Lists
at_time ev X T PRIOR l =
    if eqb T (time l) && PRIOR then direct ev X l else up_to T (ev_out ev X l (RANK PRIOR (new_notice T) l.notices))

abbrev pub at : Bool → ℕ → ℤ → Bool → Lists → Result Lists
at ev X T PRIOR l = at_time ev X (at_least (time l) T) PRIOR l

-- "begin T := T + time; go to at end delay"
abbrev pub delay : Bool → ℕ → ℤ → Bool → Lists → Result Lists
delay ev X T PRIOR l = at ev X (T +ℤ pos (time l)) PRIOR l

-- "EVENT.precede(Y.EVENT) else EVENT.follow(Y.EVENT)"
abbrev pub beside_y : Bool → ℕ → Notice → List Notice → List Notice
beside_y true Y n ns = ops.before Y n ns
beside_y false Y n ns = ops.after Y n ns

-- "(if Y == none then true else Y.EVENT == none) then EVENT := none else begin if X == Y then go to exit; comment reactivate X
-- before/after X; EVENT := new EVENT NOTICE (Y.EVENT.EVTIME,X)"
abbrev pub before_or_after : Bool → ℕ → Bool → ℕ → Lists → Result Lists
before_or_after ev X ahead Y l =
    if eqb Y 0 || not (has_notice Y l.notices) then ev_out ev X l l.notices
    else if eqb X Y then exit l
    else ev_out ev X l (beside_y ahead Y (new_notice (due_of Y l.notices)) l.notices)

-- "if CODE = .. then", label by label
abbrev pub by_code : Bool → ℕ → Code → ℤ → ℕ → Bool → Lists → Result Lists
by_code ev X code_direct T Y PRIOR l = direct ev X l
by_code ev X code_delay T Y PRIOR l = delay ev X T PRIOR l
by_code ev X code_at T Y PRIOR l = at ev X T PRIOR l
by_code ev X code_before T Y PRIOR l = before_or_after ev X true Y l
by_code ev X code_after T Y PRIOR l = before_or_after ev X false Y l

-- "inspect X do if .. TERMINATED then"; "if REAC then EV := EVENT else if EVENT ≠ none then go to exit"; "Z := current", for the last
-- statement alone, "if Z ≠ current then resume (current)"
unfoldable pub ACTIVATE : Bool → ℕ → Code → ℤ → ℕ → Bool → Lists → Result Lists
ACTIVATE REAC X CODE T Y PRIOR l =
    if eqb X 0 || has X l.terminated then exit l
    else if REAC then by_code (has_notice X l.notices) X CODE T Y PRIOR l
    else if has_notice X l.notices then exit l
    else by_code false X CODE T Y PRIOR l
