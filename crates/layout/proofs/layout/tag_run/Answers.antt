use Rattle.std.proofs.Common.{refl}
use Rattle.layout.proofs.LayoutLemmas.{tag_run_of-is}
use Rattle.layout.proofs.layout.tag_run.Goals as goal

pub returns : goal.returns
returns c =
    let padded = c.next_multiple_of.ensures in
    tag_run_of-is c.args.fields _ c.padding.result c.next_multiple_of.result
    c.requires.fields refl c.padding.ensures padded.lower_bound padded.upper_bound padded.multiple
