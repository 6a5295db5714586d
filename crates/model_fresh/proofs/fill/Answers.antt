use Rattle.model_fresh.proofs.Filling.{links_are, filled}
use Rattle.model_fresh.proofs.fill.Goals as goal

pub returns : goal.returns
returns c = filled _ _ c.requires _ (links_are c.args.c _ c.args.links.now _ _ c.total-n.ensures c.requires.lengths.links_is (c.fill.ensures.after (λ y e. e)) c.start_heads.ensures)
    c.start_axis.ensures (c.fill-2.ensures.after (λ y e. e)) (c.fill-3.ensures.after (λ y e. e))
