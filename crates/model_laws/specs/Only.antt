-- The lists that tables spell are unique: the sets and the notices are equal, and the same processes are terminated. And lists have
-- one model's tables.
use Rattle.std.specs.Prelude.{ℕ, ◌+◌, ◌-◌, ◌<◌, ◌≡◌, List, [], get_or}
use Rattle.std.proofs.Common.{sym, ap, ◌∙◌, subst, arith, ext_get_or, le-leb}
use Rattle.ring_laws.specs.Lists.{In}
use Rattle.ring_laws.specs.Spell.{spells_one}
use Rattle.ring_laws.specs.OneTable.{one_table}
use Rattle.model.specs.declared.Counts.{Counts}
use Rattle.model.specs.Counts.{total}
use Rattle.axis_laws.specs.Notices.{places}
use Rattle.ring_laws.specs.Tabulate.{has, bit, table_at, has_in, in_has, bit_one}
use Rattle.model_laws.specs.Tables.{Tables, Lists, set_head, members_of, SpellsSets, Spells, model_of}
use Rattle.axis_laws.specs.AxisRing.{axis_head}
use Rattle.axis_laws.specs.AxisRing.{axis_head_lem}
use Rattle.axis_laws.specs.Reading.{notices_of, notices_are}
use Rattle.model_laws.specs.Formed.{notice_process, notices_timed}

pub record Same (a b : Lists) : Type 0 where
  pub sets : a.sets ≡ b.sets
  pub notices : a.notices ≡ b.notices
  pub terminated : (x : ℕ) → In x a.terminated → In x b.terminated

pub sets_only : (m H : ℕ) (t : List ℕ) (a b : List (List ℕ)) → H < m → SpellsSets m H a t → SpellsSets m H b t → a ≡ b
sets_only m H t a b l s u =
    ext_get_or [] a b (s.all ∙ sym u.all)
    (λ i k.
    let q : (i + 1) - 1 ≡ i = omega arith in
    let j : i < H = omega (arith, s.all) in
    subst (λ (x : ℕ). get_or a x [] ≡ get_or b x []) q
    (spells_one m (set_head H) (members_of a) (members_of b) t s.spelled u.spelled (i + 1)
    (record { some = omega arith; within = omega arith; is = le-leb (i + 1) H (omega arith) })))

module _ (c : Counts) (t : Tables) (a b : Lists) (s : Spells c a t) (u : Spells c b t) where
  abbrev m : ℕ
  m = c.processes + 2

  notices_only : a.notices ≡ b.notices
  notices_only =
      notices_are c t.times a.notices (λ x k. omega (arith, notice_process c a t s x k)) (notices_timed c a t s)
      ∙ ap (notices_of c.heads t.times)
      (spells_one m (axis_head m) (λ h. places c a.notices) (λ h. places c b.notices) t.axis s.axis u.axis (c.processes + 1)
      (axis_head_lem c.processes))
      ∙ sym (notices_are c t.times b.notices (λ x k. omega (arith, notice_process c b t u x k)) (notices_timed c b t u))

  ended_only : (x : ℕ) → In x a.terminated → In x b.terminated
  ended_only x k =
      let e = s.ended x k in
      let q : c.heads + (x - c.heads) ≡ x = omega (arith, e.0) in
      let y : ℕ = x - c.heads in
      let p : bit (has (c.heads + (x - c.heads)) a.terminated) ≡ bit (has (c.heads + (x - c.heads)) b.terminated) =
      sym (table_at (λ p. bit (has (c.heads + p) a.terminated)) c.processes t.marks s.marks (x - c.heads)
      (omega (arith, e.0)) (omega (arith, e.1)))
      ∙ table_at (λ p. bit (has (c.heads + p) b.terminated)) c.processes t.marks u.marks (x - c.heads) (omega (arith, e.0))
      (omega (arith, e.1)) in
      let r : has x a.terminated ≡ has x b.terminated =
      subst (λ (j : ℕ). has j a.terminated ≡ has j b.terminated) q (bit_one _ _ p) in
      has_in x b.terminated (sym r ∙ in_has x a.terminated k)

  pub lists_only : Same a b
  lists_only =
      record {
        sets = sets_only (total c + 1) c.heads t.links a.sets b.sets (omega arith) s.links u.links;
        notices = notices_only;
        terminated = ended_only;
      }

-- the tables are the only ones that spell the lists
pub tables_only : (c : Counts) (l : Lists) (t u : Tables) → Spells c l t → Spells c l u → t ≡ u
tables_only c l t u s w =
    let m : ℕ = c.processes + 2 in
    let e1 = one_table (total c + 1) (set_head c.heads) (members_of l.sets) t.links u.links s.links.spelled
    w.links.spelled in
    let e2 = one_table m (axis_head m) (λ h. places c l.notices) t.axis u.axis s.axis w.axis in
    λ i. model_of (e1 i) (e2 i) ((s.times ∙ sym w.times) i) ((s.marks ∙ sym w.marks) i)
