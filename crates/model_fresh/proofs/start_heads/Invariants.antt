use mathlib.Core.Path.{◌≡◌}
use Rattle.model_laws.specs.Fresh.{fresh_heads}
use Rattle.model_fresh.proofs.start_heads.Given as goal

abbrev pub invariant-loop-h : goal.invariant-loop-h
invariant-loop-h l = l.t ≡ fresh_heads l.m l.h l.initial.t
