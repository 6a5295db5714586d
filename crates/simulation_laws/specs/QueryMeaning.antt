-- What the queries of SIMULATION tell, for every well-formed model: what the list of notices and the terminated processes say.
use Rattle.std.specs.Prelude.{ℕ, ◌+◌, ◌-◌, ◌<◌, ◌≡◌, refl, ◌≢◌, Bool, true, false, List, [], ◌∷◌, leb, ltb, if◌then◌else◌, Ok, Err}
use Rattle.std.proofs.Common.{sym, ◌∙◌, inl, inr, arith, eq-eqb, ne_eqb, leb-true, ltb-true}
use Rattle.std.proofs.Math.Path.{ap}
use Rattle.std.proofs.Math.Dec.{eqb}
use Rattle.ring_laws.specs.Lists.{In, decide, test}
use Rattle.ring_laws.specs.Tabulate.{bit}
use Rattle.ring_laws.specs.Chain.{Chain}
use Rattle.model.specs.declared.Counts.{Counts}
use Rattle.model.specs.declared.Refusal.TheVariants.{Idle}
use Rattle.model.specs.Counts.{is_process, linkage_at, both}
use Rattle.model.specs.Answers.{Answered, linkage, number}
use Rattle.model.specs.declared.answer.Answer.TheVariants.{Linkage, Number}
use Rattle.axis_laws.specs.Notices.{Notice, whos, places, due_of}
use Rattle.simset_laws.specs.Calls.{told_if}
use Rattle.axis_laws.specs.NoticeOps.{has_notice, next_after}
use Rattle.axis_laws.specs.Notices.{Process}

-- what evtime tells
abbrev pub evtime_of : ℕ → List Notice → Answered
evtime_of x ns = if has_notice x ns then number (due_of x ns) else Err Idle

-- what nextev tells: none for an idle process
abbrev pub nextev_of : ℕ → List Notice → Answered
nextev_of x ns = if has_notice x ns then linkage (next_after x ns) else linkage 0

-- along the chain of the axis, whose end e is the head
pub next_chain : (S P : ℕ → ℕ) (c : Counts) (a : ℕ) (ns : List Notice) (e x : ℕ) → Chain S P a (places c ns) e
    → ((y : ℕ) → In y (places c ns) → y ≢ e)
    → ((y : ℕ) → In y (whos ns) → c.heads < y) → In x (whos ns)
    → (if eqb (S (x - c.heads)) e then linkage 0 else linkage (linkage_at c (S (x - c.heads)))) ≡ linkage (next_after x ns)
next_chain S P c a [] e x ch f h i = absurd i
next_chain S P c a (k ∷ []) e x ch f h (inl q) = rw (ap (λ (j : ℕ). S (j - c.heads)) q ∙ ch.1.next, eq-eqb e e refl)
next_chain S P c a (k ∷ []) e x ch f h (inr i) = absurd i
next_chain S P c a (k ∷ j ∷ js) e x ch f h i =
    decide k.who x
    (λ q.
    let back : c.heads + (j.who - c.heads) ≡ j.who = omega (arith, h j.who (inr (inl refl))) in
    rw (
      ap (λ (z : ℕ). S (z - c.heads)) (sym q) ∙ ch.1.0.next,
      ne_eqb (j.who - c.heads) e (f (j.who - c.heads) (inr (inl refl))),
      eq-eqb k.who x q,
    )
    (ap linkage back))
    (λ d. rw (ne_eqb k.who x d) (next_chain S P c (k.who - c.heads) (j ∷ js) e x ch.1 (λ y m. f y (inr m)) (λ y m. h y (inr m))
    (later i d)))
  where
    later : In x (whos (k ∷ j ∷ js)) → k.who ≢ x → In x (whos (j ∷ js))
    later (inl q) d = absurd (d (sym q))
    later (inr m) d = m

pub bit_is : (b : Bool) → eqb (bit b) 1 ≡ b
bit_is true = refl
bit_is false = refl

-- refused by its test, or told as the lists say
pub told_by_lem : (b : Bool) (a r : Answered) → (b ≡ true → a ≡ r) → told_if b a ≡ told_if b r
told_by_lem b a r f = test b (λ e. rw e (f e)) (λ e. rw e refl)

pub process_of : (c : Counts) (x : ℕ) → is_process c x ≡ true → Process c x
process_of c x e =
    let p = both (ltb c.heads x) (leb x (c.heads + c.processes)) e in
    record { over = ltb-true c.heads x p.0; upto = leb-true x (c.heads + c.processes) p.1 }
