use mathlib.Core.Path.{sym, ◌∙◌}
use borrow.Author.Tests.{eq-eqb, lt-leb}
use Rattle.ring_laws.specs.RingWalk.{allowed_head, allowed_low, allowed_link}
use Rattle.ring_judge.proofs.may_stand.Goals as goal

pub returns-then-s-h : goal.returns-then-s-h
returns-then-s-h c = eq-eqb _ _ c.if-s-h.true ∙ sym (allowed_head _ _ _ _ c.if-s-h.true)

pub returns-then-lo-s : goal.returns-then-lo-s
returns-then-lo-s c = sym (allowed_link _ _ _ _ c.if-s-h.false c.if-lo-s.true)

pub returns-else-lo-s : goal.returns-else-lo-s
returns-else-lo-s c = lt-leb _ _ c.if-lo-s.false ∙ sym (allowed_low _ _ _ _ c.if-s-h.false c.if-lo-s.false)
