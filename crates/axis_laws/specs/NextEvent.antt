-- nextev on the tables: the process of the notice after x's, none where x's is the last, as the list of notices has it.
use Rattle.std.specs.Prelude.{ℕ, ◌-◌, ◌≡◌, refl, ◌≢◌, List, [], ◌∷◌, ◌++◌, eqb, if◌then◌else◌}
use Rattle.std.proofs.Common.{sym, ap, ◌∙◌, subst, inl, inr, ⊎_elim, arith, eq-eqb, ne_eqb}
use Rattle.ring_laws.specs.Lists.{In, decide}
use Rattle.model.specs.declared.Counts.{Counts}
use Rattle.model.specs.Counts.{linkage_at}
use Rattle.axis_laws.specs.Notices.{Notice, whos}
use Rattle.axis_laws.specs.Orders.{Next}
use Rattle.axis_laws.specs.NoticeOps.{next_after}
use Rattle.axis_laws.specs.Groups.{members_are}
use Rattle.axis_laws.specs.Lowered.{lowered}
use Rattle.axis_laws.specs.Timeline.{Timeline, next_of}
use Rattle.axis_laws.specs.NoticesSpelled.{half, SpellsNotices, is_process_lem}
use Rattle.axis_laws.specs.TimelineReading.{next_is}

-- the next process's place, or the head's
data After (H e x : ℕ) (ns : List Notice) : Type 0 where
  some : (z : ℕ) → In z (whos ns) → next_after x ns ≡ z → Next (x - H) (z - H) (whos (lowered H ns) ++ (e ∷ [])) → After H e x ns
  last : next_after x ns ≡ 0 → Next (x - H) e (whos (lowered H ns) ++ (e ∷ [])) → After H e x ns

after : (H e x : ℕ) (ns : List Notice) → In x (whos ns) → After H e x ns
after H e x [] i = absurd i
after H e x (k ∷ []) (inl q) = After.last refl (inl (ap (λ (j : ℕ). j - H) (sym q), refl))
after H e x (k ∷ []) (inr i) = absurd i
after H e x (k ∷ j ∷ js) i =
    decide k.who x
    (λ q. After.some j.who (inr (inl refl)) (rw (eq-eqb k.who x q)) (inl (ap (λ (v : ℕ). v - H) q, refl)))
    (λ d. on d (after H e x (j ∷ js) (⊎_elim (λ q. absurd (d (sym q))) (λ w. w) i)))
  where
    on : k.who ≢ x → After H e x (j ∷ js) → After H e x (k ∷ j ∷ js)
    on d (After.some z m q n) = After.some z (inr m) (rw (ne_eqb k.who x d) q) (inr n)
    on d (After.last q n) = After.last (rw (ne_eqb k.who x d) q) (inr n)

pub nextev_is : (c : Counts) (ns : List Notice) (a : Timeline) (x : ℕ) → SpellsNotices c ns a → In x (whos ns)
    → (if eqb (next_of a (x - c.heads)) (half c - 1) then 0 else linkage_at c (next_of a (x - c.heads))) ≡ next_after x ns
nextev_is c ns a x sp i = go (after c.heads (half c - 1) x ns i)
  where
    place : (y : ℕ) → Next (x - c.heads) y (whos (lowered c.heads ns) ++ ((half c - 1) ∷ [])) → next_of a (x - c.heads) ≡ y
    place y n =
        next_is (half c) sp.groups a sp.spelled (x - c.heads) y (omega arith)
        (subst (λ (l : List ℕ). Next (x - c.heads) y (l ++ ((half c - 1) ∷ []))) (sym (ap whos sp.out) ∙ members_are sp.groups) n)

    go : After c.heads (half c - 1) x ns → (if eqb (next_of a (x - c.heads)) (half c - 1) then 0 else linkage_at c (next_of a (x - c.heads))) ≡ next_after x ns
    go (After.some z m q n) =
        let p = is_process_lem c ns a sp z m in
        rw (place (z - c.heads) n, ne_eqb (z - c.heads) (half c - 1) (λ w. omega (arith, p)), q) (omega (arith, p))
    go (After.last q n) = rw (place (half c - 1) n, eq-eqb (half c - 1) (half c - 1) refl, q)
