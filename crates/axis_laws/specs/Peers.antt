-- Unlinking and linking on the rings of the same times.
use Rattle.std.specs.Prelude.{ℕ, ◌+◌, ◌*◌, ◌<◌, ◌≡◌, ◌≢◌, List, [], ◌∷◌, length}
use Rattle.std.proofs.Math.Path.{refl, ap}
use Rattle.std.proofs.Common.{sym, ◌∙◌, subst, inl, inr, arith, eq-eqb, ne_eqb}
use Rattle.std.proofs.Math.ListN.{get_or, length-set}
use Rattle.ring_laws.specs.Lists.{In, decide, inside, without_none}
use Rattle.ring_laws.specs.Distinct.{Dist}
use Rattle.ring_laws.specs.Table.{cut, join, join_before, unlinked, linked_behind, linked_before, self_linked}
use Rattle.ring_laws.specs.Stores.{sucs, pres, suc_at, stores, cut_is, cut_x, join_is, before_is}
use Rattle.ring_laws.specs.Empty.{self_length, self_s, self_p, other_s, other_p}
use Rattle.axis_laws.specs.Notices.{whos}
use Rattle.axis_laws.specs.NoticeOps.{dropped}
use Rattle.axis_laws.specs.NoticeLaws.{Ins, ins_new, ins_old, drop_in, drop_old}
use Rattle.axis_laws.specs.Groups.{Group, notice, group, spelled_out, members, leaders, members_are}
use Rattle.axis_laws.specs.Changes.{left_by, joined_behind, joined_ahead, overtaken}
use Rattle.axis_laws.specs.Outs.{out_left, own_in, later_in}
use Rattle.axis_laws.specs.Loops.{Loops, Neighbours, neighbours, same_loops, gone_loops, cut_loops, put_loops, behind_before, front_loops}
use Rattle.axis_laws.specs.Timeline.{SpellsPeers}

-- ---- who is left

pub left_whos : (x : ℕ) (gs : List Group) → Dist (members gs) → whos (dropped x (spelled_out gs)) ≡ members (left_by x gs)
left_whos x gs d = sym (ap whos (out_left x gs d)) ∙ members_are (left_by x gs)

pub left_old : (x y : ℕ) (gs : List Group) → Dist (members gs) → y ≢ x → In y (members gs) → In y (members (left_by x gs))
left_old x y gs d n i = rw (left_whos x gs d) at (drop_old x (spelled_out gs) y n (rw (← (members_are gs)) at i))

pub left_in : (x y : ℕ) (gs : List Group) → Dist (members gs) → In y (members (left_by x gs)) → In y (members gs)
left_in x y gs d i = rw (members_are gs) at (drop_in x (spelled_out gs) y (rw (← (left_whos x gs d)) at i))

pub left_absent : (x : ℕ) (gs : List Group) → (In x (members gs) → ⊥) → left_by x gs ≡ gs
left_absent x [] f = refl
left_absent x (g ∷ gs) f =
    let e = without_none x g.others (λ i. f (own_in x g gs (inr i))) in
    let r = left_absent x gs (λ i. f (later_in x g gs i)) in
    rw (ne_eqb g.leader x (λ q. f (inl (sym q)))) (λ i. group g.due g.leader (sym e i) ∷ r i)

module _ (x u : ℕ) (gs gs' : List Group) (ins : Ins (notice x u) (spelled_out gs) (spelled_out gs')) where
  pub put_new : In x (members gs')
  put_new = rw (members_are gs') at (ins_new (notice x u) ins)

  pub put_old : (y : ℕ) → In y (members gs) → In y (members gs')
  put_old y i = rw (members_are gs') at (ins_old (notice x u) y ins (rw (← (members_are gs)) at i))

-- ---- the table

module _ (m : ℕ) (gs : List Group) (t : List ℕ) (sp : SpellsPeers m gs t) (d : Dist (members gs)) (in_m : (y : ℕ) → In y (members gs) → (0 < y) × (y < m)) where
  abbrev S : ℕ → ℕ
  S = sucs m t

  abbrev P : ℕ → ℕ
  P = pres m t

  -- a member has a successor, and it alone
  pub peer_next : (y : ℕ) → In y (members gs) → Neighbours S P gs y
  peer_next y i = neighbours S P gs y sp.loops i

  pub peer_busy : (y : ℕ) → In y (members gs) → S y ≢ 0
  peer_busy y i e = omega (arith, in_m (S y) (peer_next y i).next_in_lem)

  pub peer_member : (y : ℕ) → S y ≢ 0 → In y (members gs)
  peer_member y n = inside y (members gs) (λ i. i) (λ o. absurd (n (sp.off y o).0))

  -- x is taken out, be it alone or not
  alone_out : (x : ℕ) → In x (members gs) → S x ≡ x → SpellsPeers m (left_by x gs) (cut m x x x t)
  alone_out x i e =
      let xm : x < m = (in_m x i).1 in
      let z = cut_x m t sp.two x x x xm xm xm in
      let two : length t ≡ 2 * m = sp.two in
      let keep : (y : ℕ) → y ≢ x → (sucs m (cut m x x x t) y ≡ S y) × (pres m (cut m x x x t) y ≡ P y) = λ y n. (simp stores, simp stores) in
      record {
        two = simp length-set two;
        loops = gone_loops S P (sucs m (cut m x x x t)) (pres m (cut m x x x t)) x gs sp.loops d e keep;
        off = λ y o.
            decide y x
            (λ q. rw q z)
            (λ n. let b = sp.off y (λ j. o (left_old x y gs d n j)) in ((keep y n).0 ∙ b.0, (keep y n).1 ∙ b.1));
      }

  more_out : (x s p : ℕ) → In x (members gs) → S x ≡ s → P x ≡ p → s ≢ x → SpellsPeers m (left_by x gs) (cut m x s p t)
  more_out x s p i es ep sx =
      let xm : x < m = (in_m x i).1 in
      let n = peer_next x i in
      let sm : s < m = rw es at (in_m (S x) n.next_in_lem).1 in
      let pm : p < m = rw ep at (in_m (P x) n.prev_in_lem).1 in
      let sp_x : S p ≡ x = rw ep at n.back in
      let ps_x : P s ≡ x = rw es at n.forth in
      let px : p ≢ x = λ e. sx (sym es ∙ ap S (sym e) ∙ sp_x) in
      let k = cut_is m t sp.two x s p xm sm pm es ep sp_x ps_x sx px in
      let z = cut_x m t sp.two x s p xm sm pm in
      record {
        two = simp length-set sp.two;
        loops = cut_loops S P (sucs m (cut m x s p t)) (pres m (cut m x s p t)) x k gs sp.loops d;
        off = λ y o.
            decide y x
            (λ q. rw q z)
            (λ w.
            let out : In y (members gs) → ⊥ = λ j. o (left_old x y gs d w j) in
            let b = sp.off y out in (
              k.s_else y w (λ e. out (rw e n.prev_in_lem)) ∙ b.0,
              k.p_else y w (λ e. out (rw e n.next_in_lem)) ∙ b.1,
            ));
      }

  pub peers_left : (x : ℕ) → x < m → SpellsPeers m (left_by x gs) (unlinked m x t)
  unfolding unlinked
  peers_left x xm =
      inside x (members gs)
      (λ i.
      let n = peer_next x i in
      rw (ne_eqb (get_or t x 0) 0 (λ e. peer_busy x i (suc_at m t x xm ∙ e)))
      (decide (get_or t x 0) x
      (λ e.
      let q : S x ≡ x = suc_at m t x xm ∙ e in
      let p : get_or t (m + x) 0 ≡ x = ap P (sym q) ∙ n.forth in
      rw (e, p) (alone_out x i q))
      (λ w. more_out x (get_or t x 0) (get_or t (m + x) 0) i (suc_at m t x xm) refl w)))
      (λ o. rw (eq-eqb (get_or t x 0) 0 (sym (suc_at m t x xm) ∙ (sp.off x o).0), left_absent x gs o) sp)

  -- ---- x, of no time, is put in

  module _ (x u : ℕ) (xm : x < m) (fresh : In x (members gs) → ⊥) where
    off_put : (gs' : List Group) (t' : List ℕ) → Ins (notice x u) (spelled_out gs) (spelled_out gs')
        → ((y : ℕ) → y ≢ x → (In y (members gs) → ⊥) → (sucs m t' y ≡ S y) × (pres m t' y ≡ P y))
        → (y : ℕ) → (In y (members gs') → ⊥) → (sucs m t' y ≡ 0) × (pres m t' y ≡ 0)
    off_put gs' t' ins keep y o =
        let out : In y (members gs) → ⊥ = λ j. o (put_old x u gs gs' ins y j) in
        let n : y ≢ x = λ e. o (rw e (put_new x u gs gs' ins)) in
        let b = sp.off y out in
        let k = keep y n out in
        (k.0 ∙ b.0, k.1 ∙ b.1)

    -- behind y
    pub peers_behind : (y : ℕ) → In y (members gs) → Ins (notice x u) (spelled_out gs) (spelled_out (joined_behind y x gs))
        → SpellsPeers m (joined_behind y x gs) (linked_behind m x y t)
    unfolding linked_behind
    peers_behind y i ins =
        let ym : y < m = (in_m y i).1 in
        let s = get_or t y 0 in
        let n = peer_next y i in
        let es : S y ≡ s = suc_at m t y ym in
        let sm : s < m = rw es at (in_m (S y) n.next_in_lem).1 in
        let xy : x ≢ y = λ e. fresh (rw e i) in
        let sx : s ≢ x = λ e. fresh (rw (es ∙ e) at n.next_in_lem) in
        let k = join_is m t sp.two x y s xm ym sm es (rw es at n.forth) xy sx in
        record {
          two = simp length-set sp.two;
          loops = put_loops S P (sucs m (join m x y s t)) (pres m (join m x y s t)) x y k gs sp.loops d fresh;
          off = off_put (joined_behind y x gs) (join m x y s t) ins
              (λ z w out. (k.s_else z w (λ e. out (rw e i)), k.p_else z w (λ e. out (rw e n.next_in_lem))));
        }

    -- in front of y: the words of joinedAhead, whoever leads
    ahead_loops : (y : ℕ) → In y (members gs)
        → Loops (sucs m (join_before m x y (P y) t)) (pres m (join_before m x y (P y) t)) (joined_ahead y x gs)
        × ((z : ℕ) → z ≢ x → (In z (members gs) → ⊥) → (sucs m (join_before m x y (P y) t) z ≡ S z) × (pres m (join_before m x y (P y) t) z ≡ P z))
    ahead_loops y i =
        let ym : y < m = (in_m y i).1 in
        let n = peer_next y i in
        let pm : P y < m = (in_m (P y) n.prev_in_lem).1 in
        let xy : x ≢ y = λ e. fresh (rw e i) in
        let xp : x ≢ P y = λ e. fresh (rw e n.prev_in_lem) in
        let t' = join_before m x y (P y) t in
        let k = before_is m t sp.two x y (P y) xm ym pm n.back refl xy xp in (
          subst (λ (l : List Group). Loops (sucs m t') (pres m t') l) (behind_before S P x y gs sp.loops n.back)
              (put_loops S P (sucs m t') (pres m t') x (P y) k gs sp.loops d fresh),
          λ z w out. (
            k.s_else z w (λ e. out (rw e n.prev_in_lem)),
            k.p_else z w (λ e. out (rw (e ∙ n.back) i)),
          ),
        )

    pub peers_ahead : (y : ℕ) → In y (members gs) → Ins (notice x u) (spelled_out gs) (spelled_out (joined_ahead y x gs))
        → SpellsPeers m (joined_ahead y x gs) (linked_before m x y t)
    unfolding linked_before
    peers_ahead y i ins =
        let w = ahead_loops y i in
        record {
          two = simp length-set sp.two;
          loops = w.0;
          off = off_put (joined_ahead y x gs) (join_before m x y (P y) t) ins w.1;
        }

    -- in front of h, which led: x leads
    pub peers_front : (h : ℕ) → In h (members gs) → In h (leaders gs) → Ins (notice x u) (spelled_out gs) (spelled_out (overtaken h x gs))
        → SpellsPeers m (overtaken h x gs) (linked_before m x h t)
    unfolding linked_before
    peers_front h i lead ins =
        let w = ahead_loops h i in
        record {
          two = simp length-set sp.two;
          loops = front_loops (sucs m (join_before m x h (P h) t)) (pres m (join_before m x h (P h) t)) x h gs w.0 d lead;
          off = off_put (overtaken h x gs) (join_before m x h (P h) t) ins w.1;
        }

    -- a time of its own
    pub peers_alone : (gs' : List Group) → Ins (notice x u) (spelled_out gs) (spelled_out gs')
        → ((S' P' : ℕ → ℕ) → Loops S' P' gs → S' x ≡ x → P' x ≡ x → Loops S' P' gs') → SpellsPeers m gs' (self_linked m x t)
    peers_alone gs' ins f =
        let t' = self_linked m x t in
        let keep : (y : ℕ) → y ≢ x → (sucs m t' y ≡ S y) × (pres m t' y ≡ P y) =
        λ y n. (other_s m t x sp.two xm y n, other_p m t x sp.two xm y n) in
        record {
          two = self_length m t x sp.two xm;
          loops =
              f (sucs m t') (pres m t')
              (same_loops S P (sucs m t') (pres m t') gs sp.loops (λ y i. keep y (λ e. fresh (rw e at i))))
              (self_s m t x sp.two xm) (self_p m t x sp.two xm);
          off = off_put gs' t' ins (λ y n out. keep y n);
        }
