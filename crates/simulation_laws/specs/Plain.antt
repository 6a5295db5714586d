-- The sequencing calls on plain lists: sets, notices and terminated processes. A refusal changes nothing.
use Rattle.std.specs.Prelude.{ℕ, ◌+◌, max, Bool, not, ◌&&◌, ◌||◌, List, [], ◌∷◌, leb, eqb, ℤ, pos, negsuc, ◌+ℤ◌, if◌then◌else◌}
use Rattle.ring_laws.specs.Tabulate.{has}
use Rattle.model.specs.declared.Counts.{Counts}
use Rattle.model.specs.declared.Refusal.TheVariants.{NoNotice, TimeLimit}
use Rattle.model.specs.Counts.{limit, main, is_head, is_process}
use Rattle.axis_laws.specs.Notices.{Notice, due_of}
use Rattle.model_laws.specs.Tables.{Lists}
use Rattle.model_laws.specs.Now.{current, time}
use Rattle.model_laws.specs.Result.{Result, refused, done, need}
use Rattle.simset_laws.specs.Sets.{precede_sets, exceeds}
use Rattle.simset_laws.specs.Calls.{or_none}
use Rattle.simset_laws.specs.Plain.{with_sets, unless_full}
use Rattle.axis_laws.specs.NoticeOps.{behind_all, front_all, before, after, dropped, has_notice, rest}

abbrev pub with_notices : Lists → List Notice → Lists
with_notices l ns = record { sets = l.sets; notices = ns; terminated = l.terminated }

abbrev pub with_terminated : Lists → List ℕ → Lists
with_terminated l k = record { sets = l.sets; notices = l.notices; terminated = k }

-- refusal 4: the call would leave no notice
abbrev pub leaving : Lists → List Notice → Result Lists
leaving l [] = refused NoNotice
leaving l (n ∷ ns) = done (with_notices l (n ∷ ns))

-- refusal 5: an effective call would set a time above the limit
abbrev pub up_to : ℕ → Result Lists → Result Lists
up_to u r = if leb u limit then r else refused TimeLimit

-- a number below 0 counts as 0
abbrev pub above : ℤ → ℕ
above (pos n) = n
above (negsuc n) = 0

-- "Hold takes out the first notice, adds t if above 0, and puts it back behind all of equal or smaller time"
unfoldable pub hold : ℤ → Lists → Result Lists
hold t l =
    let u = time l + above t in
    up_to u (done (with_notices l (behind_all (record { who = current l; due = u }) (rest l.notices))))

-- "Passivate deletes the first notice"
unfoldable pub passivate : Lists → Result Lists
passivate l = leaving l (rest l.notices)

-- "wait does into for current first"; refusal 10 comes "ahead of 4"
unfoldable pub wait : Counts → ℕ → Lists → Result Lists
wait c y l =
    let k = precede_sets (current l) y l.sets in
    need (or_none (is_head c y) y) (unless_full (exceeds k) (leaving (with_sets l k) (rest l.notices)))

-- "Cancel deletes x's notice"
unfoldable pub cancel : Counts → ℕ → Lists → Result Lists
cancel c x l = need (or_none (is_process c x) x) (leaving l (dropped x l.notices))

-- "finish marks current terminated first"; main can't finish by call
unfoldable pub finish : Counts → Lists → Result Lists
finish c l = need (not (eqb (current l) (main c))) (leaving (with_terminated l (current l ∷ l.terminated)) (rest l.notices))

-- clauses: "0 direct, 1 at T, 2 delay T, 3 at T prior, 4 delay T prior, 5 before Y, 6 after Y"
abbrev pub is_delay : ℕ → Bool
is_delay k = eqb k 2 || eqb k 4

-- "u is time for clause 0, T for 1 and 3, time + T for 2 and 4, but at least time"; "For 5 and 6 it has Y's time"
unfoldable pub due_for : ℕ → ℕ → ℤ → Lists → ℕ
due_for k y t l =
    if eqb k 0 then time l
    else if leb 5 k then due_of y l.notices
    else max (time l) (above (if is_delay k then pos (time l) +ℤ t else t))

-- "behind all up to u for 1 and 2, in front of all from u on for 0, 3 and 4 .. right before or after Y's notice"
unfoldable pub placed : ℕ → ℕ → Notice → List Notice → List Notice
placed k y n ns =
    if eqb k 5 then before y n ns
    else if eqb k 6 then after y n ns
    else if eqb k 1 || eqb k 2 then behind_all n ns
    else front_all n ns

-- "No effect if X is none or terminated, if activate finds X not idle, or if X = Y and has a notice (clauses 5, 6)"
unfoldable pub no_effect : Bool → ℕ → ℕ → ℕ → Lists → Bool
no_effect again k x y l =
    eqb x 0 || has x l.terminated
    || (has_notice x l.notices && (not again || (leb 5 k && eqb x y)))

-- X none or a process, and so Y where the clause uses it; a clause is at most 6
abbrev pub timed_need : Counts → ℕ → ℕ → ℕ → Bool
timed_need c k x y = leb k 6 && or_none (is_process c x) x && (not (leb 5 k) || or_none (is_process c y) y)

-- while X's earlier notice stands beside it the new one goes by 0, the number of no process; then it gets its name
abbrev pub named : ℕ → List Notice → List Notice
named x [] = []
named x (k ∷ ks) = (if eqb k.who 0 then record { who = x; due = k.due } else k) ∷ named x ks

-- "X's new notice has time u and stands" where its clause says; "Reactivate then deletes X's earlier notice" (activate found none)
abbrev pub replaced : ℕ → ℕ → ℕ → ℕ → List Notice → List Notice
replaced k x y u ns = named x (dropped x (placed k y (record { who = 0; due = u }) ns))

-- "Activate and reactivate, unless without effect"; again is true for reactivate
unfoldable pub timed : Counts → Bool → ℕ → ℕ → ℕ → ℤ → Lists → Result Lists
timed c again k x y t l =
    let u = due_for k y t l in
    need (timed_need c k x y)
    (if no_effect again k x y l then done l else up_to u (leaving l (replaced k x y u l.notices)))
