-- Demand 2 for the class SIMSET: for every well-formed model each set call does what the plain call does to the lists, refused by 3 or 10
-- on their conditions alone and then with every word as it was, and tells what request 2.1 asks for; a query answers what the lists say,
-- or 3 on its condition.
use Rattle.std.specs.Prelude.{ℕ, ◌+◌, ◌<◌, ◌≡◌, Bool, true, false, ◌&&◌, List, length, Ok}
use Rattle.std.proofs.Math.Path.{refl, ap}
use Rattle.std.proofs.Common.{sym, ◌∙◌, arith}
use Rattle.ring_laws.specs.Lists.{test}
use Rattle.ring_laws.specs.Rings.{Link}
use Rattle.model.specs.declared.Counts.{Counts}
use Rattle.model.specs.Counts.{total, is_head, is_link, is_linkage, both}
use Rattle.model.specs.Answers.{Answered, linkage, number, truth}
use Rattle.model.specs.declared.answer.Answer.TheVariants.{Linkage, Number, Truth}
use Rattle.model.specs.Answers.{Verdict}
use Rattle.model.specs.declared.call.SetCall.{SetCall}
use Rattle.model.specs.declared.call.SetCall.TheVariants.{Out, Follow, Precede, Into, Clear}
use Rattle.model_laws.specs.Tables.{Tables, Lists, After, Sized, set_head, members_of, SpellsSets, Limited, Spells, model_of}
use Rattle.model_laws.specs.Judge.{judged}
use Rattle.model_laws.proofs.Verdict.{judged_says}
use Rattle.model_laws.specs.Called.{called, asked, turning, telling}
use Rattle.model_laws.specs.Result.{done, need, Tells, Follows, need_done, answering_follows}
use Rattle.simset_laws.specs.Sets.{each_set, out_sets, precede_sets, exceeds, suc_sets, pred_sets, no_links}
use Rattle.simset_laws.specs.Calls.{linked_if, entered_if, told_if, or_none, out_step, follow_step, precede_step, into_step, clear_step}
use Rattle.simset_laws.specs.Calls.{first_told, last_told, suc_told, pred_told, empty_told, cardinal_told, on_links, of_links}
use Rattle.simset_laws.specs.Procedures.{preceded, suc_of, pred_of}
use Rattle.simset_laws.specs.Full.{full_for}
use Rattle.simset_laws.specs.Plain.{kinds_fine, with_sets, unless_full, set_call, links_after}
use Rattle.simset_laws.specs.Told.{head_of, set_tells, head_told, set_told, set_answered}
use Rattle.simset_laws.specs.Promise.{linkage_in, head_in, none_or}
use Rattle.simset_laws.specs.Laws.{sets_out}
use Rattle.simset_laws.proofs.Laws.{sets_followed, sets_preceded}
use Rattle.simset_laws.proofs.ClearLaw.{sets_cleared}
use Rattle.simset_laws.specs.QueryLaws.{suc_says, pred_says, empty_says, cardinal_says}
use Rattle.simset_laws.proofs.HeadLaws.{head_says}
use Rattle.simset_laws.specs.SizeLaws.{Puts, puts_behind, puts_ahead, out_limited, clear_limited}
use Rattle.simset_laws.proofs.SizeLaws.{not_exceeding}
use Rattle.simset_laws.proofs.FullLaws.{full_says}
-- ---- operands as places of the table
use Rattle.simset_laws.specs.Meaning.{link_of, head_of_lem}

module _ (c : Counts) (l : Lists) (t : Tables) (z : Sized c t) (s : Spells c l t) where
  abbrev m : ℕ
  m = total c + 1

  fine : judged c t ≡ (Ok tt)
  fine = (judged_says c t).fine z (l, s)

  heads_in : c.heads < m
  heads_in = omega arith

  -- a well-formed model is not turned down by 1 or 2
  pub called_is : (f : Tables → After Answered) → called c f t ≡ f t
  unfolding called
  called_is f = ap (λ (v : Verdict). turning v t (f t)) fine

  pub asked_is : (f : Tables → Answered) → asked c f t ≡ f t
  unfolding asked
  asked_is f = ap (λ (v : Verdict). telling v (f t)) fine

  -- the links after a procedure spell these sets; axis, times and marks stay
  with_links : (u : List ℕ) (k : List (List ℕ)) → SpellsSets m c.heads k u → Limited k
      → Spells c (with_sets l k) (model_of u t.axis t.times t.marks)
  with_links u k w few =
      record {
        links = w;
        limited = few;
        axis = s.axis;
        times = s.times;
        marks = s.marks;
        some = s.some;
        in_order = s.in_order;
        within = s.within;
        ended = s.ended;
      }

  -- refused by its test, or done
  by_kinds : (b : Bool) (u : List ℕ) (k : List (List ℕ)) → (b ≡ true → SpellsSets m c.heads k u) → Limited k
      → Follows c t (need b (done (with_sets l k))) (on_links (λ v. linked_if b v u) t)
  by_kinds b u k w few = test b (λ e. rw e (refl, with_links u k (w e) few)) (λ e. rw e (refl, refl))

  abbrev put : ℕ → (ℕ → List ℕ → List ℕ) → List (List ℕ)
  put x g = each_set g 1 (out_sets x l.sets)

  -- refused by its test, then by a full set, or done
  by_entry : (b : Bool) (x y : ℕ) (u : List ℕ) (g : ℕ → List ℕ → List ℕ) → Puts y g
      → (b ≡ true → Link m (set_head c.heads) x × (y < m) × SpellsSets m c.heads (put x g) u)
      → Follows c t (need b (unless_full (exceeds (put x g)) (done (with_sets l (put x g)))))
      (on_links (λ v. entered_if b (full_for c x y v) v u) t)
  by_entry b x y u g p w =
      test b
      (λ e. rw e (go (w e).2
      (full_says c l.sets t.links s.links s.limited x (w e).0 y (w e).1 g p u (w e).2)
      (full_for c x y t.links) refl))
      (λ e. rw e (refl, refl))
    where
      go : SpellsSets m c.heads (put x g) u → full_for c x y t.links ≡ exceeds (put x g) → (f : Bool) → full_for c x y t.links ≡ f
          → Follows c t (unless_full (exceeds (put x g)) (done (with_sets l (put x g))))
          (on_links (λ v. entered_if true (full_for c x y v) v u) t)
      go k is true z = rw (z, sym is ∙ z) (refl, refl)
      go k is false z =
          let n : exceeds (put x g) ≡ false = sym is ∙ z in
          rw (z, n) (refl, with_links u (put x g) k (not_exceeding (put x g) n))

  -- ---- the calls

  -- what the second party asks for
  party_in : (y : ℕ) → or_none (is_linkage c y) y ≡ true → y < total c + 1
  party_in y e = none_or (is_linkage c y) y (total c) (linkage_in c y) e

  precedes : (x y : ℕ) → is_link c x ≡ true → y < m
      → Link m (set_head c.heads) x × (y < m) × SpellsSets m c.heads (precede_sets x y l.sets) (preceded m x y t.links)
  precedes x y e b =
      let a : Link m (set_head c.heads) x = link_of c x e in
      (a, b, sets_preceded m c.heads l.sets t.links s.links heads_in x a y b)

  -- the steps, which runs make
  pub set_follows : (k : SetCall) → Follows c t (set_call c k l) (on_links (links_after c k) t)
  unfolding out_step follow_step precede_step into_step clear_step
  set_follows (Out x) =
      by_kinds (is_link c x) _ _ (λ e. sets_out m c.heads l.sets t.links s.links x (link_of c x e))
      (out_limited x l.sets s.limited)
  set_follows (Follow x y) =
      by_entry (is_link c x && or_none (is_linkage c y) y) x y _ _ (puts_behind x y) (λ e.
      let p = both (is_link c x) (or_none (is_linkage c y) y) e in
      let a : Link m (set_head c.heads) x = link_of c x p.0 in
      (a, party_in y p.1, sets_followed m c.heads l.sets t.links s.links heads_in x a y (party_in y p.1)))
  set_follows (Precede x y) =
      by_entry (is_link c x && or_none (is_linkage c y) y) x y _ _ (puts_ahead x y) (λ e.
      let p = both (is_link c x) (or_none (is_linkage c y) y) e in
      precedes x y p.0 (party_in y p.1))
  set_follows (Into x y) =
      by_entry (is_link c x && or_none (is_head c y) y) x y _ _ (puts_ahead x y) (λ e.
      let p = both (is_link c x) (or_none (is_head c y) y) e in
      precedes x y p.0 (none_or (is_head c y) y (total c) (head_in c y) p.1))
  set_follows (Clear x) =
      by_kinds (is_head c x) _ _ (λ e. sets_cleared m c.heads l.sets t.links s.links heads_in x (head_of_lem c x e))
      (clear_limited x l.sets s.limited)

  -- what is told before a call that is done: the head in whose list x stands, and of a head how many its list has
  head_told_lem : (x : ℕ) → is_link c x ≡ true → head_told c x t.links ≡ Ok (Linkage (head_of x l.sets))
  unfolding head_told
  head_told_lem x e = rw e (ap linkage (head_says m c.heads l.sets t.links s.links heads_in x (link_of c x e)))

  set_told_lem : (k : SetCall) → kinds_fine c k ≡ true → set_told c k t.links ≡ set_tells k l.sets
  unfolding cardinal_told
  set_told_lem (Out x) e = head_told_lem x e
  set_told_lem (Follow x y) e = head_told_lem x (both (is_link c x) (or_none (is_linkage c y) y) e).0
  set_told_lem (Precede x y) e = head_told_lem x (both (is_link c x) (or_none (is_linkage c y) y) e).0
  set_told_lem (Into x y) e = head_told_lem x (both (is_link c x) (or_none (is_head c y) y) e).0
  set_told_lem (Clear x) e = rw e (ap number (cardinal_says m c.heads l.sets t.links s.links heads_in x (head_of_lem c x e)))

  -- the public calls are the steps on judged tables, and tell what the lists before them say
  pub set_means : (k : SetCall) → Tells c t (set_tells k l.sets) (set_call c k l) (called c (set_answered c k) t)
  set_means k =
      rw (called_is (set_answered c k))
      (answering_follows c t (set_tells k l.sets) (of_links (set_told c k)) (on_links (links_after c k)) (set_call c k l)
      (λ r e. set_told_lem k (need_done (kinds_fine c k) _ r e))
      (set_follows k))

  -- ---- the queries

  -- refused by its test, or told as the lists say
  told_by_lem : (b : Bool) (f : List ℕ → Answered) (v r : Answered) → f t.links ≡ told_if b v → (b ≡ true → v ≡ r)
      → asked c (of_links f) t ≡ told_if b r
  told_by_lem b f v r e w = asked_is (of_links f) ∙ e ∙ test b (λ q. rw q (w q)) (λ q. rw q refl)

  suc_told_lem : (x : ℕ) → x < m → linkage (suc_of c.heads x t.links) ≡ Ok (Linkage (suc_sets x l.sets))
  suc_told_lem x b = ap linkage (suc_says m c.heads l.sets t.links s.links heads_in x b)

  pred_told_lem : (x : ℕ) → x < m → linkage (pred_of c.heads m x t.links) ≡ Ok (Linkage (pred_sets x l.sets))
  pred_told_lem x b = ap linkage (pred_says m c.heads l.sets t.links s.links heads_in x b)

  module _ (x : ℕ) where
    pub first_means : asked c (of_links (first_told c x)) t ≡ told_if (is_head c x) (Ok (Linkage (suc_sets x l.sets)))
    unfolding first_told
    first_means = told_by_lem (is_head c x) (first_told c x) _ _ refl (λ e. suc_told_lem x (head_in c x e))

    pub last_means : asked c (of_links (last_told c x)) t ≡ told_if (is_head c x) (Ok (Linkage (pred_sets x l.sets)))
    unfolding last_told
    last_means = told_by_lem (is_head c x) (last_told c x) _ _ refl (λ e. pred_told_lem x (head_in c x e))

    pub suc_means : asked c (of_links (suc_told c x)) t ≡ told_if (is_linkage c x) (Ok (Linkage (suc_sets x l.sets)))
    unfolding suc_told
    suc_means = told_by_lem (is_linkage c x) (suc_told c x) _ _ refl (λ e. suc_told_lem x (linkage_in c x e))

    pub pred_means : asked c (of_links (pred_told c x)) t ≡ told_if (is_linkage c x) (Ok (Linkage (pred_sets x l.sets)))
    unfolding pred_told
    pred_means = told_by_lem (is_linkage c x) (pred_told c x) _ _ refl (λ e. pred_told_lem x (linkage_in c x e))

    pub empty_means : asked c (of_links (empty_told c x)) t ≡ told_if (is_head c x) (Ok (Truth (no_links (members_of l.sets x))))
    unfolding empty_told
    empty_means =
        told_by_lem (is_head c x) (empty_told c x) _ _ refl
        (λ e. ap truth (empty_says m c.heads l.sets t.links s.links heads_in x (head_of_lem c x e)))

    pub cardinal_means : asked c (of_links (cardinal_told c x)) t ≡ told_if (is_head c x) (Ok (Number (length (members_of l.sets x))))
    unfolding cardinal_told
    cardinal_means =
        told_by_lem (is_head c x) (cardinal_told c x) _ _ refl
        (λ e. ap number (cardinal_says m c.heads l.sets t.links s.links heads_in x (head_of_lem c x e)))
