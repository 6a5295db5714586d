-- What the calls' code promises and asks: refused, or moved with the table still sound; operands that passed lie in the table.
use Rattle.std.specs.Prelude.{ℕ, zero, suc, ◌+◌, ◌<◌, ◌≤◌, ◌≡◌, refl, Bool, true, false, not, ◌&&◌, ◌||◌, List, eqb, leb, ltb, Ok, Err}
use Rattle.std.proofs.Common.{sym, ap, ◌∙◌, arith, eqb-true, leb-true, le-leb, ne_eqb}
use Rattle.std.proofs.lemmas.Bool.{not-true, not-false}
use Rattle.ring_laws.specs.Lists.{clash}
use Rattle.ring_laws.specs.Table.{Sound, Made}
use Rattle.model.specs.declared.Counts.{Counts}
use Rattle.model.specs.declared.Refusal.TheVariants.{Operand, Full}
use Rattle.model.specs.Counts.{total, is_head, is_link, is_linkage, both}
use Rattle.model.specs.Answers.{Answered}
use Rattle.model.specs.declared.answer.Answer.TheVariants.{Done}
use Rattle.model.specs.declared.call.SetCall.{SetCall}
use Rattle.model_laws.specs.Tables.{model_of}
use Rattle.model_laws.specs.Called.{if_accepted}
use Rattle.simset_laws.specs.Procedures.{followed, preceded}
use Rattle.simset_laws.specs.Calls.{Linked, linked_if, entered_if, told_if, or_none, on_links}
use Rattle.simset_laws.specs.Plain.{links_after}
use Rattle.simset_laws.specs.Told.{set_told, links_answered}

-- the links and the answer are as wanted, and the links are sound
pub record Moved (m : ℕ) (want got : Linked) : Type 0 where
  pub is : got ≡ want
  pub sound : Sound m got.links

-- ---- operands that passed

pub link_in : (c : Counts) (x : ℕ) → is_link c x ≡ true → x < total c + 1
link_in c x e = let p = both (ltb c.heads x) (leb x (total c)) e in omega (arith, leb-true x (total c) p.1)

pub linkage_in : (c : Counts) (x : ℕ) → is_linkage c x ≡ true → x < total c + 1
linkage_in c x e = let p = both (leb 1 x) (leb x (total c)) e in omega (arith, leb-true x (total c) p.1)

pub head_in : (c : Counts) (x : ℕ) → is_head c x ≡ true → x < total c + 1
head_in c x e = let p = both (leb 1 x) (leb x c.heads) e in omega (arith, leb-true x c.heads p.1)

or_either : (a b : Bool) → (a || b) ≡ true → (b ≡ false → a ≡ true)
or_either true b e f = refl
or_either false b e f = clash (sym f ∙ e)

pub none_or : (b : Bool) (y n : ℕ) → (b ≡ true → y < n + 1) → or_none b y ≡ true → y < n + 1
none_or true y n f e = f refl
none_or false y n f e = let z : y ≡ 0 = eqb-true y 0 (or_either (eqb y 0) false e refl) in omega arith

-- heads are numbered from 1, so that none needs no test of its own
pub head_or : (h y : ℕ) → leb y h ≡ or_none (leb 1 y && leb y h) y
head_or h zero = le-leb 0 h (omega arith)
head_or h (suc y) = rw (ne_eqb (suc y) 0 (λ e. omega arith), le-leb 1 (suc y) (omega arith))

pub party_fine : (n y : ℕ) → y ≤ n → or_none (leb 1 y && leb y n) y ≡ true
party_fine n y l = sym (head_or n y) ∙ le-leb y n l

-- ---- refused or done; the tests come in turn

module _ (m : ℕ) (t u : List ℕ) where
  pub moved_not : (b : Bool) → Sound m t → b ≡ false → Moved m (linked_if b t u) (record { links = t; answer = Err Operand })
  moved_not b s e = rw e (record { is = refl; sound = s })

  pub moved : (b : Bool) (v : List ℕ) → b ≡ true → Made m u v → Moved m (linked_if b t u) (record { links = v; answer = Ok Done })
  moved b v e k = rw e (record { is = ap (λ (l : List ℕ). record { links = l; answer = Ok Done }) k.is; sound = k.sound })

  -- the same of a call that enters a set
  pub entry_not : (b f : Bool) → Sound m t → b ≡ false → Moved m (entered_if b f t u) (record { links = t; answer = Err Operand })
  entry_not b f s e = rw e (record { is = refl; sound = s })

  pub entry_full : (b f : Bool) → Sound m t → b ≡ true → f ≡ true
      → Moved m (entered_if b f t u) (record { links = t; answer = Err Full })
  entry_full b f s e q = rw (e, q) (record { is = refl; sound = s })

  pub entered : (b f : Bool) (v : List ℕ) → b ≡ true → f ≡ false → Made m u v
      → Moved m (entered_if b f t u) (record { links = v; answer = Ok Done })
  entered b f v e q k = rw (e, q) (record { is = ap (λ (l : List ℕ). record { links = l; answer = Ok Done }) k.is; sound = k.sound })

-- the procedures by the number of linkages that the code has read
pub followed_at : (c : Counts) (n x y : ℕ) (t v : List ℕ) → n ≡ total c → Made (n + 1) (followed (n + 1) x y t) v
    → Made (total c + 1) (followed (total c + 1) x y t) v
followed_at c n x y t v e k = rw e at k

pub preceded_at : (c : Counts) (n x y : ℕ) (t v : List ℕ) → n ≡ total c → Made (n + 1) (preceded (n + 1) x y t) v
    → Made (total c + 1) (preceded (total c + 1) x y t) v
preceded_at c n x y t v e k = rw e at k

-- a test that the code makes, by its result
pub failed : (a b : Bool) → a ≡ b → not a ≡ true → b ≡ false
failed a b e n = sym e ∙ not-true a n

pub passed : (a b : Bool) → a ≡ b → not a ≡ false → b ≡ true
passed a b e n = sym e ∙ not-false a n

pub first_failed : (a b d : Bool) → a ≡ b → not a ≡ true → (b && d) ≡ false
first_failed a b d e n = rw (failed a b e n)

pub second_failed : (a b p q : Bool) → a ≡ b → not a ≡ false → p ≡ q → not p ≡ true → (b && q) ≡ false
second_failed a b p q e n f o = rw (passed a b e n) (failed p q f o)

pub both_passed : (a b p q : Bool) → a ≡ b → not a ≡ false → p ≡ q → not p ≡ false → (b && q) ≡ true
both_passed a b p q e n f o = rw (passed a b e n) (passed p q f o)

pub told_not : (b : Bool) (a : Answered) → b ≡ false → Err Operand ≡ told_if b a
told_not b a e = rw e

pub told : (b : Bool) (a r : Answered) → b ≡ true → r ≡ a → r ≡ told_if b a
told b a r e f = rw e f

-- a call that turned out to be this one
pub moved_as : (m : ℕ) (c : Counts) (k j : SetCall) (t : List ℕ) (got : Linked) → k ≡ j → Moved m (links_after c j t) got
    → Moved m (links_after c k t) got
moved_as m c k j t got e w = rw e w

pub told_as : (c : Counts) (k j : SetCall) (t : List ℕ) (a : Answered) → k ≡ j → a ≡ set_told c j t → a ≡ set_told c k t
told_as c k j t a e w = rw e w

-- of the parties that an operand stands for
pub moved_of : (m : ℕ) (s : ℕ → ℕ → List ℕ → Linked) (t : List ℕ) (got : Linked) (x x' y y' : ℕ) → x ≡ x' → y ≡ y'
    → Moved m (s x y t) got → Moved m (s x' y' t) got
moved_of m s t got x x' y y' e f k = rw (e, f) at k

-- a call that was made on the links, answered by what was told before it
pub moved_telling : (m : ℕ) (c : Counts) (k : SetCall) (t l : List ℕ) (a v r : Answered) → v ≡ set_told c k t
    → Moved m (links_after c k t) (record { links = l; answer = a }) → r ≡ if_accepted a v
    → Moved m (links_answered c k t) (record { links = l; answer = r })
moved_telling m c k t l a v r e w q =
    record {
      is =
          ap (λ (b : Answered). record { links = l; answer = b }) (q ∙ ap (if_accepted a) e)
          ∙ ap (λ (g : Linked). record { links = g.links; answer = if_accepted g.answer (set_told c k t) }) w.is;
      sound = w.sound;
    }

-- a call that was made on the links, seen on the whole model
pub on_links_lem : (m : ℕ) (links axis times marks l : List ℕ) (a : Answered) (f : List ℕ → Linked)
    → Moved m (f links) (record { links = l; answer = a })
    → record { tables = model_of l axis times marks; answer = a }
    ≡ on_links f (model_of links axis times marks)
on_links_lem m links axis times marks l a f k =
    ap (λ (g : Linked). record { tables = model_of g.links axis times marks; answer = g.answer }) k.is
