-- The rings of the same times, over a successor S and a predecessor P: a ring has no first place, so a change of leader changes no word.
use Rattle.std.specs.Prelude.{ℕ, ◌≡◌, refl, ◌≢◌, ◌⊎◌, List, [], ◌∷◌, ◌++◌}
use Rattle.std.proofs.Common.{sym, ap, ◌∙◌, inl, inr, ⊎_elim, eq-eqb, ne_eqb, subst}
use Rattle.ring_laws.specs.Lists.{In, without, ahead, decide, without_none}
use Rattle.ring_laws.specs.Chain.{Edge, Chain, forth, back, next_in_lem, prev_in_lem, no_self, Cut, cut_chain, Put, put_chain, behind_ahead}
use Rattle.ring_laws.specs.Distinct.{Dist, in_left, in_right}
use Rattle.axis_laws.specs.Groups.{Group, group, members, leaders}
use Rattle.axis_laws.specs.Changes.{promoted, left_by, joined_behind, joined_ahead, overtaken}
use Rattle.axis_laws.specs.Outs.{lead_in, which, own_not_later, own_in, later_in, later_dist, own_dist, ahead_absent}
use Rattle.axis_laws.specs.Leads.{others_of}

-- "next and previous process of the same time, a ring"
abbrev pub Loops : (ℕ → ℕ) → (ℕ → ℕ) → List Group → Type 0
Loops S P [] = Unit {0}
Loops S P (g ∷ gs) = Chain S P g.leader g.others g.leader × Loops S P gs

module _ (S P : ℕ → ℕ) where
  -- ---- the ring of h read from another place

  snoc_chain : (a : ℕ) (l : List ℕ) (b c : ℕ) → Chain S P a l b → Edge S P b c → Chain S P a (l ++ (b ∷ [])) c
  snoc_chain a [] b c h e = (h, e)
  snoc_chain a (z ∷ l) b c h e = (h.0, snoc_chain z l b c h.1 e)

  unsnoc_chain : (a : ℕ) (l : List ℕ) (b c : ℕ) → Chain S P a (l ++ (b ∷ [])) c → Chain S P a l b × Edge S P b c
  unsnoc_chain a [] b c h = h
  unsnoc_chain a (z ∷ l) b c h = let r = unsnoc_chain z l b c h.1 in ((h.0, r.0), r.1)

  pub turned_on : (h x : ℕ) (l : List ℕ) → Chain S P h (x ∷ l) h → Chain S P x (l ++ (h ∷ [])) x
  turned_on h x l c = snoc_chain x l h x c.1 c.0

  pub turned_back : (h x : ℕ) (l : List ℕ) → Chain S P h (l ++ (x ∷ [])) h → Chain S P x (h ∷ l) x
  turned_back h x l c = let r = unsnoc_chain h l x h c in (r.1, r.0)

  -- ---- the neighbours of a member

  pub record Neighbours (gs : List Group) (y : ℕ) : Type 0 where
    pub next_in_lem : In (S y) (members gs)
    pub prev_in_lem : In (P y) (members gs)
    pub forth : P (S y) ≡ y
    pub back : S (P y) ≡ y

  pub neighbours : (gs : List Group) (y : ℕ) → Loops S P gs → In y (members gs) → Neighbours gs y
  neighbours [] y c i = absurd i
  neighbours (g ∷ gs) y c i =
      which y g gs i
      (λ own.
      let turned : In y g.others ⊎ (y ≡ g.leader) = ⊎_elim (λ e. inr e) (λ j. inl j) own in
      record {
        next_in_lem = own_in (S y) g gs (⊎_elim (λ j. inr j) (λ e. inl e) (next_in_lem S P g.leader g.others g.leader y c.0 own));
        prev_in_lem = own_in (P y) g gs (prev_in_lem S P g.leader g.others g.leader y c.0 turned);
        forth = forth S P g.leader g.others g.leader y c.0 own;
        back = back S P g.leader g.others g.leader y c.0 turned;
      })
      (λ later.
      let r = neighbours gs y c.1 later in
      record {
        next_in_lem = later_in (S y) g gs r.next_in_lem;
        prev_in_lem = later_in (P y) g gs r.prev_in_lem;
        forth = r.forth;
        back = r.back;
      })

  pub loop_of : (gs : List Group) (h : ℕ) → Loops S P gs → In h (leaders gs) → Chain S P h (others_of h gs) h
  loop_of [] h c i = absurd i
  loop_of (g ∷ gs) h c i =
      decide g.leader h
      (λ e. rw (eq-eqb g.leader h e) (rw e at c.0))
      (λ n. rw (ne_eqb g.leader h n) (loop_of gs h c.1 (⊎_elim (λ e. absurd (n (sym e))) (λ j. j) i)))

-- ---- what no store touches stays

module _ (S P S' P' : ℕ → ℕ) where
  same_chain : (a : ℕ) (l : List ℕ) (b : ℕ) → Chain S P a l b → ((y : ℕ) → In y (a ∷ l) → S' y ≡ S y) → ((y : ℕ) → In y l ⊎ (y ≡ b) → P' y ≡ P y)
      → Chain S' P' a l b
  same_chain a [] b c f g = record { next = f a (inl refl) ∙ c.next; prev = g b (inr refl) ∙ c.prev }
  same_chain a (z ∷ l) b c f g = (
    record { next = f a (inl refl) ∙ c.0.next; prev = g z (inl (inl refl)) ∙ c.0.prev },
    same_chain z l b c.1 (λ y i. f y (inr i)) (λ y i. g y (⊎_elim (λ j. inl (inr j)) (λ e. inr e) i)),
  )

  same_loop : (g : Group) → Chain S P g.leader g.others g.leader → ((y : ℕ) → In y (g.leader ∷ g.others) → (S' y ≡ S y) × (P' y ≡ P y))
      → Chain S' P' g.leader g.others g.leader
  same_loop g c f =
      same_chain g.leader g.others g.leader c (λ y i. (f y i).0) (λ y i. (f y (⊎_elim (λ j. inr j) (λ e. inl e) i)).1)

  pub same_loops : (gs : List Group) → Loops S P gs → ((y : ℕ) → In y (members gs) → (S' y ≡ S y) × (P' y ≡ P y)) → Loops S' P' gs
  same_loops [] c f = tt
  same_loops (g ∷ gs) c f = (same_loop g c.0 (λ y i. f y (own_in y g gs i)), same_loops gs c.1 (λ y i. f y (later_in y g gs i)))

  -- ---- x, alone at its time, is gone: nothing changes but at x

  pub gone_loops : (x : ℕ) (gs : List Group) → Loops S P gs → Dist (members gs) → S x ≡ x → ((y : ℕ) → y ≢ x → (S' y ≡ S y) × (P' y ≡ P y))
      → Loops S' P' (left_by x gs)
  gone_loops x [] c d s f = tt
  gone_loops x (g ∷ gs) c d s f =
      decide g.leader x
      (λ e. rw (eq-eqb g.leader x e) (rest g.others c.0 e d.0))
      (λ n.
      let out : In x g.others → ⊥ = λ i. no_self S P g.leader g.others g.leader x c.0 (λ e. n (sym e)) i s in
      rw (ne_eqb g.leader x n, ← (without_none x g.others out)) (
        same_loop g c.0 (λ y i. f y (λ e. ⊎_elim (λ q. n (sym q ∙ e)) (λ j. out (subst (λ (v : ℕ). In v g.others) e j)) i)),
        gone_loops x gs c.1 (later_dist g gs d) s f,
      ))
    where
      rest : (l : List ℕ) → Chain S P g.leader l g.leader → g.leader ≡ x → (In g.leader (l ++ members gs) → ⊥) → Loops S' P' (promoted g.due l gs)
      rest [] h e out = same_loops gs c.1 (λ y i. f y (λ q. out (rw (q ∙ sym e) at i)))
      rest (z ∷ l) h e out = absurd (out (inl (e ∙ sym s ∙ ap S (sym e) ∙ h.0.next)))

-- ---- x is taken out of a ring of more

module _ (S P S' P' : ℕ → ℕ) (x : ℕ) (k : Cut S P S' P' x) where
  cut_kept : (gs : List Group) → Loops S P gs → (In x (members gs) → ⊥) → Loops S' P' gs
  cut_kept [] c f = tt
  cut_kept (g ∷ gs) c f =
      let n : g.leader ≢ x = λ e. f (inl (sym e)) in (
        rw (← (without_none x g.others (λ i. f (own_in x g gs (inr i))))) at
            (cut_chain S P S' P' x k g.leader g.others g.leader c.0 n n),
        cut_kept gs c.1 (λ i. f (later_in x g gs i)),
      )

  last_out : (l : List ℕ) → (In x l → ⊥) → without x (l ++ (x ∷ [])) ≡ l
  last_out [] f = rw (eq-eqb x x refl)
  last_out (z ∷ l) f = rw (ne_eqb z x (λ e. f (inl (sym e)))) (ap (λ (r : List ℕ). z ∷ r) (last_out l (λ i. f (inr i))))

  pub cut_loops : (gs : List Group) → Loops S P gs → Dist (members gs) → Loops S' P' (left_by x gs)
  cut_loops [] c d = tt
  cut_loops (g ∷ gs) c d =
      decide g.leader x
      (λ e. rw (eq-eqb g.leader x e)
      (rest g.others (rw e at c.0) (rw e at d.0) (cut_kept gs c.1 (λ i. d.0 (rw (← e) at (in_right x g.others (members gs) i))))))
      (λ n. rw (ne_eqb g.leader x n)
      (cut_chain S P S' P' x k g.leader g.others g.leader c.0 n n, cut_loops gs c.1 (later_dist g gs d)))
    where
      rest : (l : List ℕ) → Chain S P x l x → (In x (l ++ members gs) → ⊥) → Loops S' P' gs → Loops S' P' (promoted g.due l gs)
      rest [] h out r = absurd (k.ne h.next)
      rest (z ∷ l) h out r =
          let n : z ≢ x = λ e. out (inl (sym e)) in (
            rw (last_out l (λ i. out (inr (in_left x l (members gs) i)))) at
                (cut_chain S P S' P' x k z (l ++ (x ∷ [])) z (turned_on S P x z l h) n n),
            r,
          )

-- ---- x is put behind y

module _ (S P S' P' : ℕ → ℕ) (x y : ℕ) (k : Put S P S' P' x y) where
  pub put_loops : (gs : List Group) → Loops S P gs → Dist (members gs) → (In x (members gs) → ⊥) → Loops S' P' (joined_behind y x gs)
  put_loops [] c d f = tt
  put_loops (g ∷ gs) c d f = (
    put_chain S P S' P' x y k g.leader g.others g.leader c.0 (own_dist g gs d) (λ e. f (inl (sym e))) (λ i. f (own_in x g gs i)),
    put_loops gs c.1 (later_dist g gs d) (λ i. f (later_in x g gs i)),
  )

-- in front of y is behind its predecessor
pub behind_before : (S P : ℕ → ℕ) (x y : ℕ) (gs : List Group) → Loops S P gs → S (P y) ≡ y → joined_behind (P y) x gs ≡ joined_ahead y x gs
behind_before S P x y [] c e = refl
behind_before S P x y (g ∷ gs) c e =
    let q = behind_ahead S P y x e g.leader g.others g.leader c.0 in
    let r = behind_before S P x y gs c.1 e in
    λ i. group g.due g.leader (q i) ∷ r i

-- and in front of a leader is at the end: there x may lead as well
pub front_loops : (S P : ℕ → ℕ) (x h : ℕ) (gs : List Group) → Loops S P (joined_ahead h x gs) → Dist (members gs) → In h (leaders gs) → Loops S P (overtaken h x gs)
front_loops S P x h [] c d i = tt
front_loops S P x h (g ∷ gs) c d i =
    decide g.leader h
    (λ e.
    rw (eq-eqb g.leader h e) (
      turned_back S P g.leader x g.others (rw (end g.others g.leader e (λ j. d.0 (in_left g.leader g.others (members gs) j))) at c.0),
      rw (ahead_absent x h gs (λ j. own_not_later h g gs d (inl (sym e)) j)) at c.1,
    ))
    (λ n.
    rw (ne_eqb g.leader h n) (
      rw (none g.others g.leader n (λ j. own_not_later h g gs d (inr j) (lead (⊎_elim (λ e. absurd (n (sym e))) (λ w. w) i)))) at c.0,
      front_loops S P x h gs c.1 (later_dist g gs d) (⊎_elim (λ e. absurd (n (sym e))) (λ j. j) i),
    ))
  where
    lead : In h (leaders gs) → In h (members gs)
    lead i = lead_in h gs i

    end : (l : List ℕ) (b : ℕ) → b ≡ h → (In b l → ⊥) → ahead h x l b ≡ l ++ (x ∷ [])
    end [] b e f = rw (eq-eqb b h e)
    end (z ∷ l) b e f = rw (ne_eqb z h (λ q. f (inl (e ∙ sym q)))) (ap (λ (r : List ℕ). z ∷ r) (end l b e (λ i. f (inr i))))

    none : (l : List ℕ) (b : ℕ) → b ≢ h → (In h l → ⊥) → ahead h x l b ≡ l
    none [] b n f = rw (ne_eqb b h n)
    none (z ∷ l) b n f = rw (ne_eqb z h (λ e. f (inl (sym e)))) (ap (λ (r : List ℕ). z ∷ r) (none l b n (λ i. f (inr i))))
