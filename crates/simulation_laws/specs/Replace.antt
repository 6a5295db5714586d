-- Activate and reactivate in the tables' order: X's earlier notice is dropped, then the new one is placed. `timed` has the papers' order,
-- in which the new notice is placed while the earlier one still stands. Both leave the same lists.
use Rattle.std.specs.Prelude.{ℕ, suc, ◌<◌, ◌≡◌, refl, ◌≢◌, Bool, false, List, [], ◌∷◌, ℤ, if◌then◌else◌}
use Rattle.std.proofs.Common.{sym, ap, ◌∙◌, inl, inr, arith}
use Rattle.std.proofs.Math.Dec.{eqb}
use borrow.Author.Tests.{eq-eqb, ne_eqb, le-leb, lt-leb, lt-ltb, le-ltb}
use Rattle.ring_laws.specs.Lists.{In, decide, below}
use Rattle.model.specs.declared.Counts.{Counts}
use Rattle.axis_laws.specs.Notices.{Notice, whos, InOrder}
use Rattle.model_laws.specs.Tables.{Lists}
use Rattle.model_laws.specs.Result.{need, done, Result}
use Rattle.axis_laws.specs.NoticeOps.{behind_all, front_all, before, after, dropped}
use Rattle.axis_laws.specs.NoticeLaws.{from_less, drop_from, drop_in}
use Rattle.axis_laws.specs.PutLaws.{behind_first, front_first}
use Rattle.simulation_laws.specs.Plain.{up_to, leaving, due_for, placed, no_effect, timed_need, named}

-- activate and reactivate in the tables' order
unfoldable pub timed_drop_first : Counts → Bool → ℕ → ℕ → ℕ → ℤ → Lists → Result Lists
timed_drop_first c again k x y t l =
    let u = due_for k y t l in
    need (timed_need c k x y)
    (if no_effect again k x y l then done l
    else up_to u (leaving l (placed k y (record { who = x; due = u }) (dropped x l.notices))))

-- ---- each way of placing

module _ (x u : ℕ) (some : x ≢ 0) where
  abbrev new : Notice
  new = record { who = 0; due = u }

  abbrev its : Notice
  its = record { who = x; due = u }

  -- no notice goes by 0
  abbrev Named : List Notice → Type 0
  Named ns = In 0 (whos ns) → ⊥

  named_none : (ns : List Notice) → Named ns → named x ns ≡ ns
  named_none [] f = refl
  named_none (k ∷ ks) f =
      rw (ne_eqb k.who 0 (λ e. f (inl (sym e)))) (ap (λ (l : List Notice). k ∷ l) (named_none ks (λ i. f (inr i))))

  pub named_dropped : (ns : List Notice) → Named ns → named x (dropped x ns) ≡ dropped x ns
  named_dropped ns f = named_none (dropped x ns) (λ i. f (drop_in x ns 0 i))

  zero_other : eqb 0 x ≡ false
  zero_other = ne_eqb 0 x (λ e. some (sym e))

  -- the new one first, then any notices
  here : (ns : List Notice) → Named ns → named x (dropped x (new ∷ ns)) ≡ its ∷ dropped x ns
  here ns f = rw zero_other (ap (λ (l : List Notice). its ∷ l) (named_dropped ns f))

  -- another notice first: it is X's earlier one and goes, or it stays
  there : (k : Notice) (ns ms : List Notice) → k.who ≢ 0 → named x (dropped x ns) ≡ ms
      → (k.who ≡ x → named x (dropped x (k ∷ ns)) ≡ ms) × (k.who ≢ x → named x (dropped x (k ∷ ns)) ≡ k ∷ ms)
  there k ns ms z e = (
    λ q. rw (eq-eqb k.who x q) e,
    λ d. rw (ne_eqb k.who x d, ne_eqb k.who 0 z) (ap (λ (l : List Notice). k ∷ l) e),
  )

  pub replaced_behind : (ns : List Notice) → InOrder ns → Named ns → named x (dropped x (behind_all new ns)) ≡ behind_all its (dropped x ns)
  replaced_behind [] o f = here [] f
  replaced_behind (k ∷ ks) o f =
      below u k.due
      (λ l. rw (lt-leb k.due u l)
      (here (k ∷ ks) f ∙ sym (behind_first its (dropped x (k ∷ ks))
      (drop_from x (suc u) (k ∷ ks) (l, from_less (suc u) k.due ks l o.0)))))
      (λ l.
      let r = there k (behind_all new ks) (behind_all its (dropped x ks)) (λ e. f (inl (sym e)))
      (replaced_behind ks o.1 (λ i. f (inr i))) in
      rw (le-leb k.due u l) (decide k.who x
      (λ e. r.0 e ∙ sym (rw (eq-eqb k.who x e)))
      (λ d. r.1 d ∙ sym (rw (ne_eqb k.who x d, le-leb k.due u l)))))

  pub replaced_front : (ns : List Notice) → InOrder ns → Named ns → named x (dropped x (front_all new ns)) ≡ front_all its (dropped x ns)
  replaced_front [] o f = here [] f
  replaced_front (k ∷ ks) o f =
      below k.due u
      (λ l.
      let r = there k (front_all new ks) (front_all its (dropped x ks)) (λ e. f (inl (sym e))) (replaced_front ks o.1 (λ i. f (inr i))) in
      rw (lt-ltb k.due u l) (decide k.who x
      (λ e. r.0 e ∙ sym (rw (eq-eqb k.who x e)))
      (λ d. r.1 d ∙ sym (rw (ne_eqb k.who x d, lt-ltb k.due u l)))))
      (λ l. rw (le-ltb k.due u l)
      (here (k ∷ ks) f ∙ sym (front_first its u (dropped x (k ∷ ks)) (omega arith)
      (drop_from x u (k ∷ ks) (l, from_less u k.due ks l o.0)))))

  module _ (y : ℕ) (other : y ≢ x) where
    pub replaced_before : (ns : List Notice) → Named ns → named x (dropped x (before y new ns)) ≡ before y its (dropped x ns)
    replaced_before [] f = refl
    replaced_before (k ∷ ks) f =
        decide k.who y
        (λ e.
        let d : k.who ≢ x = λ q. other (sym e ∙ q) in
        rw (eq-eqb k.who y e) (here (k ∷ ks) f ∙ sym (rw (ne_eqb k.who x d, eq-eqb k.who y e))))
        (λ n.
        let r = there k (before y new ks) (before y its (dropped x ks)) (λ e. f (inl (sym e))) (replaced_before ks (λ i. f (inr i))) in
        rw (ne_eqb k.who y n) (decide k.who x
        (λ e. r.0 e ∙ sym (rw (eq-eqb k.who x e)))
        (λ d. r.1 d ∙ sym (rw (ne_eqb k.who x d, ne_eqb k.who y n)))))

    pub replaced_after : (ns : List Notice) → Named ns → named x (dropped x (after y new ns)) ≡ after y its (dropped x ns)
    replaced_after [] f = refl
    replaced_after (k ∷ ks) f =
        decide k.who y
        (λ e.
        let d : k.who ≢ x = λ q. other (sym e ∙ q) in
        rw (eq-eqb k.who y e)
        ((there k (new ∷ ks) (its ∷ dropped x ks) (λ q. f (inl (sym q))) (here ks (λ i. f (inr i)))).1 d
        ∙ sym (rw (ne_eqb k.who x d, eq-eqb k.who y e))))
        (λ n.
        let r = there k (after y new ks) (after y its (dropped x ks)) (λ e. f (inl (sym e))) (replaced_after ks (λ i. f (inr i))) in
        rw (ne_eqb k.who y n) (decide k.who x
        (λ e. r.0 e ∙ sym (rw (eq-eqb k.who x e)))
        (λ d. r.1 d ∙ sym (rw (ne_eqb k.who x d, ne_eqb k.who y n)))))

-- a clause up to 4 does not look at Y
pub timed_plain : (c : Counts) (again : Bool) (k x y : ℕ) (z : ℤ) (l : Lists) → k < 5
    → timed_drop_first c again k x y z l ≡ timed_drop_first c again k x 0 z l
unfolding timed_drop_first due_for placed no_effect
timed_plain c again k x y z l h =
    rw (lt-leb 5 k h, ne_eqb k 5 (λ e. omega arith), ne_eqb k 6 (λ e. omega arith))
