use Rattle.std.proofs.Common.{refl, arith}
use Rattle.layout.proofs.LayoutLemmas.{IsLayout-of}
use Rattle.layout.proofs.layout.Layout.of.Goals as goal

pub returns-clause-is_layout : goal.returns-clause-is_layout
returns-clause-is_layout c =
    IsLayout-of c.args.fields _ c.requires.fields (omega arith)
    c.of.ensures.is_shape c.of.ensures.shape refl refl c.tag_run.ensures
