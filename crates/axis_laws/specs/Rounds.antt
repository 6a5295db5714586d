-- The walk round each time's ring, along the ring of times: it ends well exactly where there are groups, and all are counted.
use Prim.Native.Nat.{ℕ, zero, suc, ◌+◌, ◌-◌, ◌<◌, ◌≤◌}
use Rattle.std.specs.Prelude.{◌≡◌, ◌≢◌, Bool, true, false, List, [], ◌∷◌, eqb, length}
use Rattle.std.proofs.Math.Path.{refl}
use Rattle.std.proofs.Common.{sym, ap, ◌∙◌, inl, inr, ⊎_elim, not-suc-le-zero, length-append}
use native.Mathlib.Omega.{arith}
use borrow.Author.Tests.{eq-eqb, ne_eqb, eqb-true}
use Rattle.ring_laws.specs.Lists.{In, decide, clash}
use Rattle.ring_laws.specs.Chain.{Chain}
use Rattle.ring_laws.specs.Judge.{allowed, step, walk}
use Rattle.ring_laws.specs.RingWalk.{WalkPassed, walk_broken, walk_back, walk_on, step_not, step_is, allowed_head, mean_allowed}
use Rattle.ring_laws.proofs.RingWalk.{walk_chain}
use Rattle.axis_laws.specs.Groups.{Group, group, members, leaders}
use Rattle.axis_laws.specs.Loops.{Loops}
use Rattle.axis_laws.specs.Judge.{rounds}

-- ---- one ring: its head is no member, and may be any place

none : {A : Type 0} (r : ℕ) → 0 ≡ suc r → A
none r z = absurd (go z)
  where
    go : 0 ≡ suc r → ⊥
    go z = omega arith

module _ (S P : ℕ → ℕ) (lo hi h : ℕ) where
  -- a walk along a chain that would come back goes on where the chain does
  off_head : (k a r : ℕ) (l : List ℕ) → walk S P lo hi h k a ≡ suc r → Chain S P a l h → k ≡ length l + r → In h l → ⊥
  off_head k a r [] e c q i = i
  off_head zero a r (x ∷ l) e c q i = omega arith
  off_head (suc k) a r (x ∷ l) e c q i =
      decide (step S P lo hi h a) 0
      (λ z. none r (sym (walk_broken S P lo hi h (suc k) a z) ∙ e))
      (λ n. decide (step S P lo hi h a) h
      (λ b. let w : suc (suc k) ≡ suc r = sym (walk_back S P lo hi h (suc k) a n b) ∙ e in omega arith)
      (λ b.
      let at : step S P lo hi h a ≡ x = to_next n in
      ⊎_elim
      (λ f. b (at ∙ sym f))
      (λ j. off_head k x r l (ap (walk S P lo hi h k) (sym at) ∙ sym (walk_on S P lo hi h k a n b) ∙ e) c.1 (omega arith) j)
      i))
    where
      to_next : step S P lo hi h a ≢ 0 → step S P lo hi h a ≡ x
      to_next n = go (allowed lo hi h (S a)) refl
        where
          go : (b : Bool) → allowed lo hi h (S a) ≡ b → step S P lo hi h a ≡ x
          go false f = absurd (n (step_not S P lo hi h a f))
          go true f = step_is S P lo hi h a f (ap P c.0.next ∙ c.0.prev) ∙ c.0.next

  -- and a chain of links without h is passed
  pub chain_passed : (k a r : ℕ) (l : List ℕ) → h ≢ 0 → lo ≢ 0 → (In h l → ⊥) → Chain S P a l h → ((y : ℕ) → In y l → (lo ≤ y) × (y < hi))
      → k ≡ length l + r → walk S P lo hi h k a ≡ suc r
  chain_passed k a r [] h0 l0 out c f q =
      let al : allowed lo hi h (S a) ≡ true = allowed_head lo hi h (S a) c.next in
      let st : step S P lo hi h a ≡ S a = step_is S P lo hi h a al (ap P c.next ∙ c.prev) in
      walk_back S P lo hi h k a (λ z. h0 (sym c.next ∙ sym st ∙ z)) (st ∙ c.next) ∙ ap suc (omega arith)
  chain_passed zero a r (x ∷ l) h0 l0 out c f q = none (length l + r) (omega arith)
  chain_passed (suc k) a r (x ∷ l) h0 l0 out c f q =
      let e : S a ≡ x = c.0.next in
      let p : (lo ≤ x) × (x < hi) = f x (inl refl) in
      let al : allowed lo hi h (S a) ≡ true = rw e (mean_allowed lo hi h x p.0 p.1) in
      let st : step S P lo hi h a ≡ x = step_is S P lo hi h a al (ap P e ∙ c.0.prev) ∙ e in
      walk_on S P lo hi h k a
      (λ z. let w : x ≡ 0 = sym st ∙ z in l0 (omega arith))
      (λ z. let w : x ≡ h = sym st ∙ z in out (inl (sym w)))
      ∙ ap (walk S P lo hi h k) st
      ∙ chain_passed k x r l h0 l0 (λ i. out (inr i)) c.1 (λ y i. f y (inr i)) (omega arith)

-- ---- the clauses

module _ (S R Q : ℕ → ℕ) (hi h : ℕ) where
  pub rounds_out : (a k : ℕ) → rounds S R Q hi h 0 a k ≡ false
  unfolding rounds
  rounds_out a k = refl

  pub rounds_end : (n a k : ℕ) → a ≡ h → rounds S R Q hi h (suc n) a k ≡ eqb k 0
  unfolding rounds
  rounds_end n a k e = rw (eq-eqb a h e)

  pub rounds_spent : (n a k : ℕ) → a ≢ h → k ≡ 0 → rounds S R Q hi h (suc n) a k ≡ false
  unfolding rounds
  rounds_spent n a k d e = rw (ne_eqb a h d, eq-eqb k 0 e)

  pub rounds_broken : (n a k : ℕ) → a ≢ h → k ≢ 0 → walk R Q 1 hi a (k - 1) a ≡ 0 → rounds S R Q hi h (suc n) a k ≡ false
  unfolding rounds
  rounds_broken n a k d z e = rw (ne_eqb a h d, ne_eqb k 0 z, eq-eqb (walk R Q 1 hi a (k - 1) a) 0 e)

  pub rounds_on : (n a k r : ℕ) → a ≢ h → k ≢ 0 → walk R Q 1 hi a (k - 1) a ≡ suc r → rounds S R Q hi h (suc n) a k ≡ rounds S R Q hi h n (S a) r
  unfolding rounds
  rounds_on n a k r d z e =
      let w : suc r ≢ 0 = λ y. omega arith in
      let q : suc r - 1 ≡ r = omega arith in
      rw (ne_eqb a h d, ne_eqb k 0 z, e, ne_eqb (suc r) 0 w) (ap (rounds S R Q hi h n (S a)) q)

-- ---- what they mean

-- each group by itself: others in the table, the leader not among them, due as a table says
pub record Own (hi : ℕ) (due : ℕ → ℕ) (g : Group) : Type 0 where
  pub inner : (y : ℕ) → In y g.others → (1 ≤ y) × (y < hi)
  pub apart : In g.leader g.others → ⊥
  pub due_is : g.due ≡ due g.leader

abbrev pub Owns : ℕ → (ℕ → ℕ) → List Group → Type 0
Owns hi due [] = Unit {0}
Owns hi due (g ∷ gs) = Own hi due g × Owns hi due gs

pub record Rounded (R Q : ℕ → ℕ) (hi : ℕ) (due : ℕ → ℕ) (ls : List ℕ) (k : ℕ) : Type 0 where
  pub groups : List Group
  pub lead : leaders groups ≡ ls
  pub loops : Loops R Q groups
  pub owns : Owns hi due groups
  pub count : length (members groups) ≡ k

module _ (S P R Q : ℕ → ℕ) (hi h : ℕ) (due : ℕ → ℕ) where
  pub rounds_groups : (ls : List ℕ) (b n k : ℕ) → Chain S P b ls h → (In h ls → ⊥) → rounds S R Q hi h n (S b) k ≡ true → Rounded R Q hi due ls k
  rounds_groups ls b zero k c out e = clash (sym (rounds_out S R Q hi h (S b) k) ∙ e)
  rounds_groups [] b (suc n) k c out e =
      record {
        groups = [];
        lead = refl;
        loops = tt;
        owns = tt;
        count = sym (eqb-true k 0 (sym (rounds_end S R Q hi h n (S b) k c.next) ∙ e));
      }
  rounds_groups (z ∷ ls) b (suc n) k c out e =
      let d : S b ≢ h = λ f. out (inl (sym f ∙ c.0.next)) in
      decide k 0
      (λ f. clash (sym (rounds_spent S R Q hi h n (S b) k d f) ∙ e))
      (λ f. go d f (walk R Q 1 hi (S b) (k - 1) (S b)) refl (λ r q. rounds_groups ls z n r c.1 (λ i. out (inr i)) q))
    where
      go : S b ≢ h → k ≢ 0 → (w : ℕ) → walk R Q 1 hi (S b) (k - 1) (S b) ≡ w
          → ((r : ℕ) → rounds S R Q hi h n (S z) r ≡ true → Rounded R Q hi due ls r) → Rounded R Q hi due (z ∷ ls) k
      go d f zero q rec = clash (sym (rounds_broken S R Q hi h n (S b) k d f q) ∙ e)
      go d f (suc r) q rec =
          let sz : S b ≡ z = c.0.next in
          let w : walk R Q 1 hi z (k - 1) z ≡ suc r = ap (λ (j : ℕ). walk R Q 1 hi j (k - 1) j) (sym sz) ∙ q in
          let p : WalkPassed R Q 1 hi z z (k - 1) r = walk_chain R Q 1 hi z (k - 1) z r w in
          let t = rec r (ap (λ (j : ℕ). rounds S R Q hi h n (S j) r) (sym sz) ∙ sym (rounds_on S R Q hi h n (S b) k r d f q) ∙ e) in
          record {
            groups = group (due z) z p.members ∷ t.groups;
            lead = ap (λ (l : List ℕ). z ∷ l) t.lead;
            loops = (p.chain, t.loops);
            owns = (
              record { inner = p.links; apart = off_head R Q 1 hi z (k - 1) z r p.members w p.chain p.count; due_is = refl },
              t.owns,
            );
            count = omega (arith, length-append p.members (members t.groups), p.count, t.count);
          }

  pub groups_rounds : (gs : List Group) (b n k : ℕ) → Chain S P b (leaders gs) h → (In h (leaders gs) → ⊥) → ((y : ℕ) → In y (leaders gs) → y ≢ 0)
      → Loops R Q gs → Owns hi due gs → length (members gs) ≡ k → length (leaders gs) < n → rounds S R Q hi h n (S b) k ≡ true
  groups_rounds gs b zero k c out pos l o e less = absurd (not-suc-le-zero less)
  groups_rounds [] b (suc n) k c out pos l o e less = rounds_end S R Q hi h n (S b) k c.next ∙ eq-eqb k 0 (sym e)
  groups_rounds (g ∷ gs) b (suc n) k c out pos l o e less =
      let z = g.leader in
      let sz : S b ≡ z = c.0.next in
      let d : S b ≢ h = λ f. out (inl (sym f ∙ sz)) in
      let n0 : k ≢ 0 = λ f. omega arith in
      let w : walk R Q 1 hi z (k - 1) z ≡ suc (length (members gs)) =
      chain_passed R Q 1 hi z (k - 1) z (length (members gs)) g.others (pos z (inl refl)) (λ q. omega arith) o.0.apart l.0 o.0.inner
      (omega (arith, length-append g.others (members gs))) in
      rounds_on S R Q hi h n (S b) k (length (members gs)) d n0 (ap (λ (j : ℕ). walk R Q 1 hi j (k - 1) j) sz ∙ w)
      ∙ ap (λ (j : ℕ). rounds S R Q hi h n (S j) (length (members gs))) sz
      ∙ groups_rounds gs z n (length (members gs)) c.1 (λ i. out (inr i)) (λ y i. pos y (inr i)) l.1 o.1 refl (omega arith)
