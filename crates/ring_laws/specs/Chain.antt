-- Chains of two-way rings, over two functions: S the successor, P the predecessor.
use Rattle.std.specs.Prelude.{ℕ, ◌≡◌, ◌≢◌, ◌⊎◌, List, [], ◌∷◌}
use Rattle.std.proofs.Common.{sym, ap, ◌∙◌, subst, inl, inr, ⊎_elim, eq-eqb, ne_eqb}
use Rattle.ring_laws.specs.Lists.{In, without, behind, ahead, decide}
use Rattle.ring_laws.specs.Distinct.{Dist}

-- a is followed by b
pub record Edge (S P : ℕ → ℕ) (a b : ℕ) : Type 0 where
  pub next : S a ≡ b
  pub prev : P b ≡ a

-- after a come ms, in order, and then b
abbrev pub Chain : (ℕ → ℕ) → (ℕ → ℕ) → ℕ → List ℕ → ℕ → Type 0
Chain S P a [] b = Edge S P a b
Chain S P a (x ∷ ms) b = Edge S P a x × Chain S P x ms b

module _ (S P : ℕ → ℕ) where
  -- the predecessor undoes the successor at each place but the last, and the other way at each place but the first
  pub forth : (a : ℕ) (ms : List ℕ) (b y : ℕ) → Chain S P a ms b → In y (a ∷ ms) → P (S y) ≡ y
  forth a [] b y c (inl e) = cc
  forth a [] b y c (inr k) = absurd k
  forth a (z ∷ ms) b y c (inl e) = cc
  forth a (z ∷ ms) b y c (inr k) = forth z ms b y c.1 k

  pub back : (a : ℕ) (ms : List ℕ) (b y : ℕ) → Chain S P a ms b → In y ms ⊎ (y ≡ b) → S (P y) ≡ y
  back a [] b y c (inl k) = absurd k
  back a [] b y c (inr e) = cc
  back a (z ∷ ms) b y c (inl (inl e)) = cc
  back a (z ∷ ms) b y c (inl (inr k)) = back z ms b y c.1 (inl k)
  back a (z ∷ ms) b y c (inr e) = back z ms b y c.1 (inr e)

  -- the successor is the next member or the end, the predecessor the member before or the start
  pub next_in_lem : (a : ℕ) (ms : List ℕ) (b y : ℕ) → Chain S P a ms b → In y (a ∷ ms) → In (S y) ms ⊎ (S y ≡ b)
  next_in_lem a [] b y c (inl e) = inr (cc)
  next_in_lem a [] b y c (inr k) = absurd k
  next_in_lem a (z ∷ ms) b y c (inl e) = inl (inl (cc))
  next_in_lem a (z ∷ ms) b y c (inr k) = ⊎_elim (λ i. inl (inr i)) (λ e. inr e) (next_in_lem z ms b y c.1 k)

  pub prev_in_lem : (a : ℕ) (ms : List ℕ) (b y : ℕ) → Chain S P a ms b → In y ms ⊎ (y ≡ b) → In (P y) (a ∷ ms)
  prev_in_lem a [] b y c (inl k) = absurd k
  prev_in_lem a [] b y c (inr e) = inl (cc)
  prev_in_lem a (z ∷ ms) b y c (inl (inl e)) = inl (cc)
  prev_in_lem a (z ∷ ms) b y c (inl (inr k)) = inr (prev_in_lem z ms b y c.1 (inl k))
  prev_in_lem a (z ∷ ms) b y c (inr e) = inr (prev_in_lem z ms b y c.1 (inr e))

  -- no place before the last is its own successor
  no_loop : (a : ℕ) (ms : List ℕ) (b : ℕ) → Chain S P a ms b → a ≢ b → S a ≢ a
  no_loop a [] b c n e = n (sym e ∙ c.next)
  no_loop a (z ∷ ms) b c n e =
      let za : z ≡ a = cc in
      no_loop z ms b c.1 (λ f. n (sym za ∙ f)) (cc)

  pub no_self : (a : ℕ) (ms : List ℕ) (b y : ℕ) → Chain S P a ms b → y ≢ b → In y ms → S y ≢ y
  no_self a [] b y c n k = absurd k
  no_self a (z ∷ ms) b y c n (inl e) = λ f. no_loop z ms b c.1 (λ g. n (e ∙ g)) (ap S (sym e) ∙ f ∙ e)
  no_self a (z ∷ ms) b y c n (inr k) = no_self z ms b y c.1 n k

-- ---- x is taken out

-- what the stores of an unlinking do to the two functions
pub record Cut (S P S' P' : ℕ → ℕ) (x : ℕ) : Type 0 where
  pub sp : S (P x) ≡ x
  pub ps : P (S x) ≡ x
  pub ne : S x ≢ x
  pub s_at : S' (P x) ≡ S x
  pub p_at : P' (S x) ≡ P x
  pub s_else : (u : ℕ) → u ≢ x → u ≢ P x → S' u ≡ S u
  pub p_else : (u : ℕ) → u ≢ x → u ≢ S x → P' u ≡ P u

module _ (S P S' P' : ℕ → ℕ) (x : ℕ) (k : Cut S P S' P' x) where
  cut_kept : (a b : ℕ) → Edge S P a b → a ≢ x → b ≢ x → Edge S' P' a b
  cut_kept a b e ax bx =
      record {
        next = k.s_else a ax (λ f. bx (sym e.next ∙ ap S f ∙ k.sp)) ∙ e.next;
        prev = k.p_else b bx (λ f. ax (sym e.prev ∙ ap P f ∙ k.ps)) ∙ e.prev;
      }

  cut_over : (a y b : ℕ) → y ≡ x → Edge S P a y → Edge S P y b → Edge S' P' a b
  cut_over a y b yx e f = record { next = cc k.s_at; prev = cc k.p_at }

  pub cut_chain : (a : ℕ) (ms : List ℕ) (b : ℕ) → Chain S P a ms b → a ≢ x → b ≢ x → Chain S' P' a (without x ms) b
  cut_chain a [] b c ax bx = cut_kept a b c ax bx
  cut_chain a (y ∷ []) b c ax bx =
      decide y x
      (λ e. rw (eq-eqb y x e) (cut_over a y b e c.0 c.1))
      (λ n. rw (ne_eqb y x n) (cut_kept a y c.0 ax n, cut_kept y b c.1 n bx))
  cut_chain a (y ∷ z ∷ ms) b c ax bx =
      decide y x
      (λ e.
      let zx : z ≢ x = λ f. k.ne (sym (ap S e) ∙ c.1.0.next ∙ f) in
      rw (eq-eqb y x e, ne_eqb z x zx) (cut_over a y z e c.0 c.1.0, cut_chain z ms b c.1.1 zx bx))
      (λ n. rw (ne_eqb y x n) (cut_kept a y c.0 ax n, cut_chain y (z ∷ ms) b c.1 n bx))

-- ---- x is put behind y

-- what the stores of a linking do to the two functions
pub record Put (S P S' P' : ℕ → ℕ) (x y : ℕ) : Type 0 where
  pub ps : P (S y) ≡ y
  pub s_y : S' y ≡ x
  pub p_x : P' x ≡ y
  pub s_x : S' x ≡ S y
  pub p_s : P' (S y) ≡ x
  pub s_else : (u : ℕ) → u ≢ x → u ≢ y → S' u ≡ S u
  pub p_else : (u : ℕ) → u ≢ x → u ≢ S y → P' u ≡ P u

module _ (S P S' P' : ℕ → ℕ) (x y : ℕ) (k : Put S P S' P' x y) where
  put_edge : (a b : ℕ) → Edge S P a b → a ≢ x → b ≢ x → a ≢ y → Edge S' P' a b
  put_edge a b e ax bx ay =
      record {
        next = k.s_else a ax ay ∙ e.next;
        prev = k.p_else b bx (λ f. ay (sym e.prev ∙ ap P f ∙ k.ps)) ∙ e.prev;
      }

  -- a chain without x and y stays
  put_kept : (a : ℕ) (ms : List ℕ) (b : ℕ) → Chain S P a ms b → (In x (a ∷ ms) → ⊥) → b ≢ x → (In y (a ∷ ms) → ⊥) → Chain S' P' a ms b
  put_kept a [] b c f bx g = put_edge a b c (λ e. f (inl (sym e))) bx (λ e. g (inl (sym e)))
  put_kept a (z ∷ ms) b c f bx g = (
    put_edge a z c.0 (λ e. f (inl (sym e))) (λ e. f (inr (inl (sym e)))) (λ e. g (inl (sym e))),
    put_kept z ms b c.1 (λ i. f (inr i)) bx (λ i. g (inr i)),
  )

  put_first_lem : (a : ℕ) → a ≡ y → Edge S' P' a x
  put_first_lem a e = record { next = cc k.s_y; prev = cc k.p_x }

  put_second : (a b : ℕ) → a ≡ y → Edge S P a b → Edge S' P' x b
  put_second a b e f = record { next = cc k.s_x; prev = cc k.p_s }

  pub put_chain : (a : ℕ) (ms : List ℕ) (b : ℕ) → Chain S P a ms b → Dist (a ∷ ms) → b ≢ x → (In x (a ∷ ms) → ⊥)
      → Chain S' P' a (behind y x a ms) b
  put_chain a [] b c d bx free =
      decide a y
      (λ e. rw (eq-eqb a y e) (put_first_lem a e, put_second a b e c))
      (λ n. rw (ne_eqb a y n) (put_edge a b c (λ e. free (inl (sym e))) bx n))
  put_chain a (z ∷ ms) b c d bx free =
      decide a y
      (λ e. rw (eq-eqb a y e) (
        put_first_lem a e,
        (put_second a z e c.0, put_kept z ms b c.1 (λ i. free (inr i)) bx (λ i. d.0 (subst (λ (w : ℕ). In w (z ∷ ms)) (sym e) i))),
      ))
      (λ n. rw (ne_eqb a y n) (
        put_edge a z c.0 (λ e. free (inl (sym e))) (λ e. free (inr (inl (sym e)))) n,
        put_chain z ms b c.1 d.1 bx (λ i. free (inr i)),
      ))

-- ---- behind y's predecessor is in front of y

module _ (S P : ℕ → ℕ) (y x : ℕ) (sp : S (P y) ≡ y) where
  same_test : (a z : ℕ) → Edge S P a z → a ≡ P y → z ≡ y
  same_test a z e f = sym e.next ∙ ap S f ∙ sp

  pub behind_ahead : (a : ℕ) (ms : List ℕ) (b : ℕ) → Chain S P a ms b → behind (P y) x a ms ≡ ahead y x ms b
  behind_ahead a [] b c =
      decide b y
      (λ f. rw (eq-eqb b y f, eq-eqb a (P y) (sym c.prev ∙ ap P f)))
      (λ n. rw (ne_eqb b y n, ne_eqb a (P y) (λ f. n (same_test a b c f))))
  behind_ahead a (z ∷ ms) b c =
      decide z y
      (λ f. rw (eq-eqb z y f, eq-eqb a (P y) (sym c.0.prev ∙ ap P f)))
      (λ n. rw (ne_eqb z y n, ne_eqb a (P y) (λ f. n (same_test a z c.0 f))) (ap (λ (r : List ℕ). z ∷ r) (behind_ahead z ms b c.1)))
