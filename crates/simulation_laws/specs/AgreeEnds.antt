-- Passivate, cancel, finish and wait on tables that spell lists do what the plain calls do, with the same refusals.
use Rattle.std.specs.Prelude.{ℕ, ◌+◌, ◌-◌, ◌<◌, ◌≤◌, ◌≡◌, refl, ◌≢◌, true, false, not, ltb}
use Rattle.std.proofs.Math.Path.{sym}
use Rattle.std.proofs.Common.{◌∙◌, inl, inr, ⊎_elim, arith, get_or-take}
use mathlib.Core.List.{List, [], ◌∷◌}
use borrow.Author.Tests.{eq-eqb, ne_eqb, leb-true, ltb-true}
use Rattle.ring_laws.specs.Lists.{clash, In, decide, test}
use Rattle.model.specs.declared.Counts.{Counts}
use Rattle.model.specs.Counts.{main, is_process}
use Rattle.axis_laws.specs.Notices.{Notice, whos}
use Rattle.model_laws.specs.Tables.{Lists}
use Rattle.model_laws.specs.Now.{half, next_place}
use Rattle.model_laws.specs.Result.{done}
use Rattle.simset_laws.specs.Calls.{or_none}
use Rattle.simulation_laws.specs.Choice.{and_left, and_right}
use Rattle.axis_laws.specs.NoticeOps.{has_notice}
use Rattle.simulation_laws.specs.Plain.{with_notices, leaving}
use Rattle.simulation_laws.specs.Procedures.{Sqs, idle_at}
use Rattle.simulation_laws.specs.Places.{SpellsTime, is_process_lem, linked, idle_is}
use Rattle.axis_laws.specs.Notices.{Process}

-- x may be terminated
abbrev pub Ended : Counts → ℕ → List Notice → Type 0
Ended c x ns = (c.heads < x) × (x ≤ c.heads + c.processes) × (x ≢ main c) × (In x (whos ns) → ⊥)

-- a process, or none
pub data Party (c : Counts) (x : ℕ) : Type 0 where
  none : x ≡ 0 → Party c x
  proc : Process c x → Party c x

pub party : (c : Counts) (x : ℕ) → or_none (is_process c x) x ≡ true → Party c x
party c x e =
    decide x 0
    (λ q. Party.none q)
    (λ n. let f : is_process c x ≡ true = rw (ne_eqb x 0 n) at e in
    Party.proc (record {
      over = ltb-true c.heads x (and_left (ltb c.heads x) _ f);
      upto = leb-true x (c.heads + c.processes) (and_right (ltb c.heads x) _ f);
    }))

pub has_in : (y : ℕ) (ns : List Notice) → has_notice y ns ≡ true → In y (whos ns)
has_in y [] e = clash e
has_in y (k ∷ ks) e =
    decide k.who y
    (λ q. inl (sym q))
    (λ d. inr (has_in y ks (rw (ne_eqb k.who y d) at e)))

pub has_none : (y : ℕ) (ns : List Notice) → has_notice y ns ≡ false → In y (whos ns) → ⊥
has_none y [] e i = i
has_none y (k ∷ ks) e i =
    decide k.who y
    (λ q. clash (sym (rw (eq-eqb k.who y q) at e)))
    (λ d. has_none y ks (rw (ne_eqb k.who y d) at e) (⊎_elim (λ q. absurd (d (sym q))) (λ j. j) i))

-- nothing is refused where a notice is left
pub leaving_some : (M : Lists) (x : ℕ) (l : List Notice) → In x (whos l) → leaving M l ≡ done (with_notices M l)
leaving_some M x [] i = absurd i
leaving_some M x (k ∷ ks) i = refl

module _ (c : Counts) (ns : List Notice) (a : Sqs) (sp : SpellsTime c ns a) where
  -- idle is: no notice
  pub idle_has : (x : ℕ) → Party c x → idle_at a (x - c.heads) ≡ not (has_notice x ns)
  idle_has x (Party.none q) =
      test (has_notice x ns)
      (λ h. absurd (omega (arith, is_process_lem c ns a sp x (has_in x ns h))))
      (λ h. let z : x - c.heads ≡ 0 = omega arith in
      rw (h, z) (eq-eqb (next_place a.axis 0) 0 (sym (get_or-take (half c) a.axis 0 0 (omega arith)) ∙ sp.axis.rings.zero_s)))
  idle_has x (Party.proc p) =
      test (has_notice x ns)
      (λ h. rw h (ne_eqb (next_place a.axis (x - c.heads)) 0 (λ q. omega (arith, linked c ns a sp x (has_in x ns h)))))
      (λ h. rw h (eq-eqb (next_place a.axis (x - c.heads)) 0 (idle_is c ns a sp x p (has_none x ns h))))
