-- No call takes time back: after an accepted sequencing call the time is at least what it was.
use Rattle.std.specs.Prelude.{ℕ, ◌≤◌, Bool, true, false, ◌||◌, List, [], ◌∷◌, ◌≢◌, eqb, leb}
use Rattle.std.proofs.Common.{arith}
use Rattle.std.proofs.lemmas.Bool.{eqb-false}
use Rattle.ring_laws.specs.Lists.{In, test}
use Rattle.model.specs.Counts.{limit}
use Rattle.axis_laws.specs.Notices.{Notice, whos, From}
use Rattle.model_laws.specs.Tables.{Lists}
use Rattle.model_laws.specs.Result.{need, done, refused, Result}
use Rattle.model_laws.specs.Now.{time}
use Rattle.simset_laws.specs.Plain.{unless_full}
use Rattle.axis_laws.specs.NoticeOps.{behind_all, has_notice}
use Rattle.simulation_laws.specs.Plain.{with_notices, leaving, up_to}
use Rattle.simulation_laws.specs.Plain.{placed}
use Rattle.axis_laws.specs.NoticeLaws.{ins_from}
use Rattle.axis_laws.specs.PutLaws.{last_ins, front_ins}
use Rattle.axis_laws.specs.BesideLaws.{before_ins, after_ins, before_none, after_none}
use Rattle.simulation_laws.specs.AgreeEnds.{has_in, has_none}

-- refused, or done at a time that is at least t
abbrev pub Later : ℕ → Result Lists → Type 0
Later t (refused r) = Unit {0}
Later t (done l) = t ≤ time l

pub leaving_later : (t : ℕ) (l : Lists) (ns : List Notice) → From t ns → Later t (leaving l ns)
leaving_later t l [] f = tt
leaving_later t l (n ∷ ns) f = f.0

pub need_later : (t : ℕ) (b : Bool) (r : Result Lists) → Later t r → Later t (need b r)
need_later t true r f = f
need_later t false r f = tt

pub unless_later : (t : ℕ) (b : Bool) (r : Result Lists) → Later t r → Later t (unless_full b r)
unless_later t true r f = tt
unless_later t false r f = f

pub upto_later : (t u : ℕ) (r : Result Lists) → Later t r → Later t (up_to u r)
upto_later t u r f = test (leb u limit) (λ e. rw e f) (λ e. rw e tt)

-- ---- placing keeps the notices due from t on

-- (beside a Y without a notice nothing is put in, whatever the time)
pub placed_from : (t k y : ℕ) (n : Notice) (ns : List Notice) → k ≤ 6 → ((5 ≤ k → In y (whos ns)) → t ≤ n.due) → From t ns
    → From t (placed k y n ns)
unfolding placed
placed_from t k y n ns k6 h f =
    test (eqb k 5)
    (λ e. rw e (test (has_notice y ns)
    (λ i. ins_from n t (before_ins y n ns (has_in y ns i)) (h (λ l. has_in y ns i)) f)
    (λ i. rw (before_none y n ns (has_none y ns i)) f)))
    (λ e5. test (eqb k 6)
    (λ e. rw (e5, e) (test (has_notice y ns)
    (λ i. ins_from n t (after_ins y n ns (has_in y ns i)) (h (λ l. has_in y ns i)) f)
    (λ i. rw (after_none y n ns (has_none y ns i)) f)))
    (λ e6.
    let u : t ≤ n.due = h (λ m. absurd (neither (eqb-false k 5 e5) (eqb-false k 6 e6) m)) in
    test (eqb k 1 || eqb k 2)
    (λ e. rw (e5, e6, e) (ins_from n t (last_ins n ns) u f))
    (λ e. rw (e5, e6, e) (ins_from n t (front_ins n ns) u f))))
  where
    neither : k ≢ 5 → k ≢ 6 → 5 ≤ k → ⊥
    neither a b m = omega arith

pub behind_later : (t : ℕ) (l : Lists) (n : Notice) (ns : List Notice) → From t ns → t ≤ n.due
    → Later t (done (with_notices l (behind_all n ns)))
behind_later t l n [] f h = h
behind_later t l n (k ∷ ks) f h = test (leb k.due n.due) (λ e. rw e f.0) (λ e. rw e h)
