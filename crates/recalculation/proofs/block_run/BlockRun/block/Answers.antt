use Rattle.std.proofs.Common.{◌≡◌, ◌+◌, ◌-◌, ◌*◌, List, ℕ, drop, take, ap, sym, ◌∙◌, arith}
use Rattle.image_model.specs.Sectors.{piece}
use Rattle.recalculation.proofs.RunLemmas.{shown_block}
use Rattle.recalculation.proofs.block_run.BlockRun.block.Goals as goal

pub returns-clause-bytes : goal.returns-clause-bytes
returns-clause-bytes c geometry sectors moments spb_is is shows content told =
    let from = 512 * ((c.args.block - c.args.self.now.first) * c.args.spb) in
    let size : from + 512 * c.args.spb - from ≡ 512 * c.args.spb = omega arith in
    ap (λ (xs : List ℕ). take (from + 512 * c.args.spb - from) (drop from xs)) c.deref.ensures.value
    ∙ ap (λ (n : ℕ). take n (drop from c.args.self.now.bytes.items)) size
    ∙ ap (λ (n : ℕ). piece c.args.self.now.bytes.items (512 * ((c.args.block - c.args.self.now.first) * n)) (512 * n)) (sym spb_is)
    ∙ shown_block geometry sectors c.args.self.now moments is shows c.args.block content c.requires.shown told
