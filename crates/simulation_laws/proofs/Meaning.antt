-- What each sequencing call means, for every well-formed model: refused with the plain call's refusal and nothing changed, or done, and
-- the tables spell the lists that the plain call leaves.
use Rattle.std.specs.Prelude.{ℕ, ◌+◌, ◌-◌, ◌<◌, ◌≡◌, ◌≢◌, Bool, ◌&&◌, ◌||◌, List, eqb, leb, ℤ, Ok, Err}
use Rattle.std.proofs.Math.Path.{refl, ap, subst}
use Rattle.std.proofs.Common.{sym, ◌∙◌}
use Rattle.std.proofs.Math.Bool.{true, false, not}
use native.Mathlib.Omega.{arith}
use borrow.Author.Tests.{ne_eqb, le-leb, leb-false, lt-ltb}
use Rattle.ring_laws.specs.Lists.{decide, test, clash}
use Rattle.model.specs.declared.Counts.{Counts}
use Rattle.model.specs.declared.Refusal.TheVariants.{Operand, NoNotice}
use Rattle.model.specs.Counts.{total, main, is_head, is_process, is_link}
use Rattle.model.specs.declared.answer.Answer.TheVariants.{Done, Linkage}
use Rattle.axis_laws.specs.Notices.{Notice}
use Rattle.model_laws.specs.Tables.{Tables, Lists, Sized, Spells, model_of, SpellsSets}
use Rattle.model_laws.specs.Formed.{notice_process}
use Rattle.model_laws.specs.Called.{called}
use Rattle.model_laws.specs.NowLaws.{Split, splits}
use Rattle.model_laws.specs.Now.{first, current, first_of, half}
use Rattle.model_laws.specs.Result.{Follows, done, refused, Result}
use Rattle.simset_laws.specs.Calls.{or_none}
use Rattle.simset_laws.specs.Sets.{precede_sets, exceeds}
use Rattle.simset_laws.specs.Procedures.{preceded}
use Rattle.simset_laws.specs.Promise.{none_or, head_in}
use Rattle.simset_laws.proofs.Laws.{sets_preceded}
use Rattle.simset_laws.specs.Meaning.{link_of}
use Rattle.simset_laws.proofs.Meaning.{called_is}
use Rattle.simset_laws.specs.Plain.{with_sets}
use Rattle.simset_laws.specs.Told.{head_of}
use Rattle.simset_laws.proofs.HeadLaws.{head_says}
use Rattle.simset_laws.specs.Full.{full_for}
use Rattle.simset_laws.specs.SizeLaws.{puts_ahead}
use Rattle.simset_laws.proofs.SizeLaws.{not_exceeding}
use Rattle.simset_laws.proofs.FullLaws.{full_says}
use Rattle.simulation_laws.specs.Plain.{above, hold, passivate, wait, cancel, finish, timed_need, timed}
use Rattle.simulation_laws.specs.Procedures.{made, lone, drop_on, passivated, activated}
use Rattle.simulation_laws.specs.Calls.{sqs_of, Marked, hold_step, passivate_step, cancel_step, timed_step, finish_step, wait_step, on_sqs}
use Rattle.simulation_laws.specs.Calls.{on_marks, on_sets, wait_told}
use Rattle.axis_laws.specs.Notices.{Process}
use Rattle.simulation_laws.specs.Agree.{with_sqs, Agrees}
use Rattle.simulation_laws.proofs.Agree.{st, first_is, process_first, hold_agrees}
use Rattle.simulation_laws.specs.Agree.{follows_sqs, follows_marks}
use Rattle.simulation_laws.proofs.AgreeEnds.{passivate_agrees, cancel_agrees, finish_agrees, lone_leaves, wait_agrees}
use Rattle.simulation_laws.specs.Replace.{timed_drop_first, timed_plain}
use Rattle.simulation_laws.proofs.Replace.{drop_first}
use Rattle.simulation_laws.proofs.AgreeTimed.{timed_agrees}
use Rattle.simulation_laws.specs.Meaning.{main_refused, plain_refused}
use Rattle.model.specs.Answers.{linkage}

module _ (c : Counts) (l : Lists) (t : Tables) (w : Sized c t) (s : Spells c l t) where
  sp : Split l.notices
  sp = splits l.notices s.some

  pub hold_means : (z : ℤ) → Follows c t (hold z l) (called c (on_sqs (λ k a. hold_step c z a)) t)
  unfolding hold_step
  hold_means z = rw (called_is c l t w s (on_sqs (λ k a. hold_step c z a)))
      (follows_sqs c t (hold z l) _ (hold_agrees c l t s sp.head sp.rest sp.is z))

  pub passivate_means : Follows c t (passivate l) (called c (on_sqs (λ k a. passivate_step c a)) t)
  unfolding passivate_step
  passivate_means = rw (called_is c l t w s (on_sqs (λ k a. passivate_step c a)))
      (follows_sqs c t (passivate l) _ (passivate_agrees c l t s sp.head sp.rest sp.is))

  cancel_on : (x : ℕ) → or_none (is_process c x) x ≡ true → Follows c t (cancel c x l) (on_sqs (λ k a. cancel_step c x a) t)
  unfolding cancel_step
  cancel_on x g = rw g (follows_sqs c t (cancel c x l) _ (cancel_agrees c l t s sp.head sp.rest sp.is x g))

  cancel_off : (x : ℕ) → or_none (is_process c x) x ≡ false → Follows c t (cancel c x l) (on_sqs (λ k a. cancel_step c x a) t)
  unfolding cancel_step cancel
  cancel_off x g = rw g (refl, refl)

  timed_on : (again : Bool) (k x y : ℕ) (z : ℤ) → timed_need c k x y ≡ true
      → Follows c t (timed_drop_first c again k x y z l) (on_sqs (λ m a. timed_step c again k x y z m a) t)
  unfolding timed_step
  timed_on again k x y z g =
      test (leb 5 k)
      (λ h. rw (g, h) (follows_sqs c t (timed_drop_first c again k x y z l)
      _ (timed_agrees c l t s sp.head sp.rest sp.is again k x y z g)))
      (λ h.
      let k5 : k < 5 = leb-false 5 k h in
      let g0 : timed_need c k x 0 ≡ true = subst (λ (b : Bool). (leb k 6 && or_none (is_process c x) x && (not b || or_none (is_process c 0) 0))
      ≡ true) (sym h) (rw h at g) in
      let zero_place : 0 - c.heads ≡ 0 = omega arith in
      rw (g, h)
      (subst
      (λ (r : Result Lists). Follows c t r (record {
        tables = with_sqs t (activated (half c) again k (x - c.heads) 0 (above z) t.marks (sqs_of t)).left;
        answer = (activated (half c) again k (x - c.heads) 0 (above z) t.marks (sqs_of t)).answer;
      }))
      (sym (timed_plain c again k x y z l k5))
      (follows_sqs c t (timed_drop_first c again k x 0 z l) _
      (subst (λ (j : ℕ). Agrees c t (timed_drop_first c again k x 0 z l)
      (activated (half c) again k (x - c.heads) j (above z) t.marks (sqs_of t))) zero_place
      (timed_agrees c l t s sp.head sp.rest sp.is again k x 0 z g0)))))

  timed_off : (again : Bool) (k x y : ℕ) (z : ℤ) → timed_need c k x y ≡ false
      → Follows c t (timed_drop_first c again k x y z l) (on_sqs (λ m a. timed_step c again k x y z m a) t)
  unfolding timed_step timed_drop_first
  timed_off again k x y z g = rw g (refl, refl)

  -- current's place
  place_first : first_of (half c) t.axis ≡ sp.head.who - c.heads
  place_first = first_is c sp.head sp.rest (sqs_of t) (st c l t s sp.head sp.rest sp.is)

  first_process_lem : Process c sp.head.who
  first_process_lem = process_first c sp.head sp.rest (sqs_of t) (st c l t s sp.head sp.rest sp.is)

  current_is : current l ≡ sp.head.who
  current_is = ap (λ (k : List Notice). (first k).who) sp.is

  finish_main : current l ≡ main c → Follows c t (finish c l) (on_marks (λ k a. finish_step c k a) t)
  finish_main q =
      let f : first_of (half c) t.axis ≡ 1 = omega (arith, place_first, current_is, q) in
      subst (λ (r : Result Lists). Follows c t r (on_marks (λ k a. finish_step c k a) t)) (sym (plain_refused c l q))
      (subst
      (λ (o : Marked). Follows c t (refused Operand) (record {
        tables = model_of t.links o.outcome.left.axis o.outcome.left.times o.marks;
        answer = o.outcome.answer;
      }))
      (sym (main_refused c t.marks (sqs_of t) f)) (refl, refl))

  finish_other : current l ≢ main c → Follows c t (finish c l) (on_marks (λ k a. finish_step c k a) t)
  unfolding finish_step
  finish_other q =
      let f : first_of (half c) t.axis ≢ 1 = λ z. q (omega (arith, place_first, current_is, first_process_lem)) in
      let g : not (eqb (current l) (main c)) ≡ true = ap not (ne_eqb (current l) (main c) q) in
      rw (ne_eqb (first_of (half c) t.axis) 1 f) (follows_marks c t (finish c l)
      _ _ (finish_agrees c l t s sp.head sp.rest sp.is g))

  -- ---- wait

  wait_off : (y : ℕ) → or_none (is_head c y) y ≡ false → Follows c t (wait c y l) (on_sets (λ k a. wait_step c y k a) t)
  unfolding wait_step wait
  wait_off y g = rw g (refl, refl)

  current_link : is_link c (current l) ≡ true
  current_link =
      rw (current_is, lt-ltb c.heads sp.head.who first_process_lem.over)
      (le-leb sp.head.who (total c) (omega (arith, first_process_lem.upto)))

  here : c.heads + first_of (half c) t.axis ≡ current l
  here = omega (arith, place_first, current_is, first_process_lem)

  abbrev waiting : ℕ → List (List ℕ)
  waiting y = precede_sets (current l) y l.sets

  -- current is a link, and goes into the set of y,
  put_in : (y : ℕ) → or_none (is_head c y) y ≡ true
      → SpellsSets (total c + 1) c.heads (waiting y) (preceded (total c + 1) (current l) y t.links)
  put_in y g =
      sets_preceded (total c + 1) c.heads l.sets t.links s.links (omega arith) (current l)
      (link_of c (current l) current_link) y (none_or (is_head c y) y (total c) (head_in c y) g)

  -- unless that is full
  full_is : (y : ℕ) → or_none (is_head c y) y ≡ true
      → full_for c (c.heads + first_of (half c) t.axis) y t.links ≡ exceeds (waiting y)
  full_is y g =
      rw here
      (full_says c l.sets t.links s.links s.limited (current l) (link_of c (current l) current_link) y
      (none_or (is_head c y) y (total c) (head_in c y) g) _ (puts_ahead (current l) y) _ (put_in y g))

  wait_full : (y : ℕ) → or_none (is_head c y) y ≡ true → exceeds (waiting y) ≡ true
      → Follows c t (wait c y l) (on_sets (λ k a. wait_step c y k a) t)
  unfolding wait_step wait
  wait_full y g f = rw (g, full_is y g ∙ f, f) (refl, refl)

  wait_lone : (y : ℕ) → or_none (is_head c y) y ≡ true → exceeds (waiting y) ≡ false → lone (half c) (sqs_of t) ≡ true
      → Follows c t (wait c y l) (on_sets (λ k a. wait_step c y k a) t)
  unfolding wait_step wait
  wait_lone y g f q =
      rw (g, full_is y g ∙ f, f, q)
      (subst (λ (r : Result Lists). Follows c t r (record { tables = t; answer = Err NoNotice }))
      (sym (lone_leaves c l t s sp.head sp.rest sp.is (with_sets l (waiting y)) q)) (refl, refl))

  entered : (y : ℕ) → or_none (is_head c y) y ≡ true → exceeds (waiting y) ≡ false
      → Spells c (with_sets l (waiting y)) (model_of (preceded (total c + 1) (current l) y t.links) t.axis t.times t.marks)
  entered y g f =
      record {
        links = put_in y g;
        limited = not_exceeding (waiting y) f;
        axis = s.axis;
        times = s.times;
        marks = s.marks;
        some = s.some;
        in_order = s.in_order;
        within = s.within;
        ended = s.ended;
      }

  wait_on : (y : ℕ) → or_none (is_head c y) y ≡ true → exceeds (waiting y) ≡ false → lone (half c) (sqs_of t) ≡ false
      → Follows c t (wait c y l) (on_sets (λ k a. wait_step c y k a) t)
  unfolding wait_step passivated
  wait_on y g f q =
      let u : Tables = model_of (preceded (total c + 1) (current l) y t.links) t.axis t.times t.marks in
      let a = wait_agrees c (with_sets l (waiting y)) u (entered y g f) sp.head sp.rest sp.is y l g f refl in
      rw (g, full_is y g ∙ f, q, here) (waited (wait c y l) (rw q at a))
    where
      waited : (r : Result Lists)
          → Agrees c (model_of (preceded (total c + 1) (current l) y t.links) t.axis t.times t.marks) r
          (made (drop_on (half c) (first_of (half c) t.axis) (sqs_of t)))
          → Follows c t r (record {
            tables = record {
              links = preceded (total c + 1) (current l) y t.links;
              axis = (drop_on (half c) (first_of (half c) t.axis) (sqs_of t)).axis;
              times = (drop_on (half c) (first_of (half c) t.axis) (sqs_of t)).times;
              marks = t.marks;
            };
            answer = Ok Done;
          })
      waited (refused r) k = let z : false ≡ true = cc in clash z
      waited (done m) k = k

  -- what is told before it: the head in whose list current stands
  pub wait_says : wait_told c t.links t.axis ≡ Ok (Linkage (head_of (current l) l.sets))
  unfolding wait_told
  wait_says =
      rw here
      (ap linkage (head_says (total c + 1) c.heads l.sets t.links s.links (omega arith) (current l)
      (link_of c (current l) current_link)))

  pub cancel_means : (x : ℕ) → Follows c t (cancel c x l) (called c (on_sqs (λ k a. cancel_step c x a)) t)
  cancel_means x =
      rw (called_is c l t w s (on_sqs (λ k a. cancel_step c x a)))
      (test (or_none (is_process c x) x) (cancel_on x) (cancel_off x))

  pub timed_means : (again : Bool) (k x y : ℕ) (z : ℤ) → Follows c t (timed c again k x y z l)
      (called c (on_sqs (λ m a. timed_step c again k x y z m a)) t)
  timed_means again k x y z =
      subst (λ (r : Result Lists). Follows c t r (called c (on_sqs (λ m a. timed_step c again k x y z m a)) t))
      (drop_first c again k x y z l s.in_order (λ i. omega (arith, notice_process c l t s 0 i)))
      (rw (called_is c l t w s (on_sqs (λ m a. timed_step c again k x y z m a)))
      (test (timed_need c k x y) (timed_on again k x y z) (timed_off again k x y z)))

  pub finish_means : Follows c t (finish c l) (called c (on_marks (λ k a. finish_step c k a)) t)
  finish_means =
      rw (called_is c l t w s (on_marks (λ k a. finish_step c k a)))
      (decide (current l) (main c) finish_main finish_other)

  pub wait_means : (y : ℕ) → Follows c t (wait c y l) (called c (on_sets (λ k a. wait_step c y k a)) t)
  wait_means y =
      rw (called_is c l t w s (on_sets (λ k a. wait_step c y k a)))
      (test (or_none (is_head c y) y)
      (λ g. test (exceeds (waiting y)) (wait_full y g)
      (λ f. test (lone (half c) (sqs_of t)) (wait_lone y g f) (wait_on y g f)))
      (wait_off y))
