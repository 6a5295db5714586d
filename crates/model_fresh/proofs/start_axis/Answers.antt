use borrow.Author.Rules.{rules}
use mathlib.Core.Path.{refl}
use Rattle.model_fresh.proofs.Filling.{axis_sound, axis_is}
use Rattle.model_fresh.proofs.start_axis.Goals as goal

pub invariant_of-link_before : goal.invariant_of-link_before
invariant_of-link_before c = record { sound = axis_sound _ _ c.args.t.now _ _ c.requires.1 refl c.requires.0 (c.fill.ensures.after (λ y e. e)) c.start_ring.ensures }

pub returns : goal.returns
returns c = axis_is _ _ c.args.t.now _ _ c.requires.1 refl c.requires.0 (c.fill.ensures.after (λ y e. e)) c.start_ring.ensures _ c.link_before.new.self.words.now (search rules) c.link_before.ensures.is
