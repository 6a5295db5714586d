-- The walk along one ring: its clauses; it comes back exactly where there is a chain.
use Prim.Native.Nat.{ℕ, zero, suc, ◌+◌, ◌<◌, ◌≤◌}
use Rattle.std.proofs.Math.Path.{◌≡◌, refl}
use Rattle.std.proofs.Common.{sym, ap, ◌∙◌, inl, inr, ⊎_elim, arith}
use Rattle.std.specs.Prelude.{◌≢◌, Bool, List, [], ◌∷◌, length}
use Rattle.std.proofs.Math.Bool.{true, false}
use Rattle.ring_laws.specs.Lists.{In, decide}
use Rattle.ring_laws.specs.Chain.{Edge, Chain}
use Rattle.ring_laws.specs.Judge.{allowed, step, walk}
-- ---- the clauses
use Rattle.ring_laws.specs.RingWalk.{allowed_head, step_not, step_one_way, step_is, walk_broken, walk_back, walk_short, walk_on, allowed_mean, mean_allowed, WalkPassed, none}

module _ (S P : ℕ → ℕ) (lo hi h : ℕ) where
  -- a step leads to a place that may follow
  step_mean : (a : ℕ) → step S P lo hi h a ≢ 0 → (allowed lo hi h (step S P lo hi h a) ≡ true) × Edge S P a (step S P lo hi h a)
  step_mean a n = go (allowed lo hi h (S a)) refl
    where
      go : (b : Bool) → allowed lo hi h (S a) ≡ b → (allowed lo hi h (step S P lo hi h a) ≡ true) × Edge S P a (step S P lo hi h a)
      go false e = absurd (n (step_not S P lo hi h a e))
      go true e =
          decide (P (S a)) a
          (λ f. let g : step S P lo hi h a ≡ S a = step_is S P lo hi h a e f in rw g (e, record { next = refl; prev = f }))
          (λ o. absurd (n (step_one_way S P lo hi h a o)))

module _ (S P : ℕ → ℕ) (lo hi h : ℕ) where
  walk_case : (k a r : ℕ) → walk S P lo hi h k a ≡ suc r → (step S P lo hi h a ≢ 0 → step S P lo hi h a ≢ h → WalkPassed S P lo hi h a k r)
      → WalkPassed S P lo hi h a k r
  walk_case k a r e f =
      decide (step S P lo hi h a) 0
      (λ z. none r (sym (walk_broken S P lo hi h k a z) ∙ e))
      (λ n. decide (step S P lo hi h a) h
      (λ b.
      let f : suc k ≡ suc r = sym (walk_back S P lo hi h k a n b) ∙ e in
      record { members = []; chain = rw b at (step_mean S P lo hi h a n).1; links = λ y i. absurd i; count = omega arith })
      (λ b. f n b))

  -- a walk that comes back has passed a chain of links
  pub walk_chain : (k a r : ℕ) → walk S P lo hi h k a ≡ suc r → WalkPassed S P lo hi h a k r
  walk_chain zero a r e = walk_case zero a r e (λ n b. none r (sym (walk_short S P lo hi h a n b) ∙ e))
  walk_chain (suc k) a r e =
      walk_case (suc k) a r e
      (λ n b.
      let p = walk_chain k (step S P lo hi h a) r (sym (walk_on S P lo hi h k a n b) ∙ e) in
      let m = step_mean S P lo hi h a n in
      let at : (lo ≤ step S P lo hi h a) × (step S P lo hi h a < hi) = allowed_mean lo hi h (step S P lo hi h a) b m.0 in
      record {
        members = step S P lo hi h a ∷ p.members;
        chain = (m.1, p.chain);
        links = λ y. ⊎_elim (λ e. rw e at) (p.links y);
        count = omega (arith, p.count);
      })

  -- and a chain of links is passed
  pub chain_walk : (k a r : ℕ) (l : List ℕ) → h ≢ 0 → lo ≢ 0 → (lo ≤ h → h < hi → ⊥) → Chain S P a l h
      → ((y : ℕ) → In y l → (lo ≤ y) × (y < hi))
      → k ≡ length l + r → walk S P lo hi h k a ≡ suc r
  chain_walk k a r [] h0 l0 out c f q =
      let al : allowed lo hi h (S a) ≡ true = allowed_head lo hi h (S a) c.next in
      let st : step S P lo hi h a ≡ S a = step_is S P lo hi h a al (ap P c.next ∙ c.prev) in
      walk_back S P lo hi h k a (λ z. h0 (sym c.next ∙ sym st ∙ z)) (st ∙ c.next) ∙ ap suc (omega arith)
  chain_walk zero a r (x ∷ l) h0 l0 out c f q = none (length l + r) (omega arith)
  chain_walk (suc k) a r (x ∷ l) h0 l0 out c f q =
      let e : S a ≡ x = c.0.next in
      let p : (lo ≤ x) × (x < hi) = f x (inl refl) in
      let al : allowed lo hi h (S a) ≡ true = rw e (mean_allowed lo hi h x p.0 p.1) in
      let st : step S P lo hi h a ≡ x = step_is S P lo hi h a al (ap P e ∙ c.0.prev) ∙ e in
      walk_on S P lo hi h k a
      (λ z. let w : x ≡ 0 = sym st ∙ z in l0 (omega arith))
      (λ z. let w : x ≡ h = sym st ∙ z in out (omega arith) (omega arith))
      ∙ ap (walk S P lo hi h k) st
      ∙ chain_walk k x r l h0 l0 out c.1 (λ y i. f y (inr i)) (omega arith)
