use Rattle.std.proofs.Common.{ℕ, ◌<◌, sym, subst, ◌∙◌}
use Rattle.commit_id.specs.Shape.{as_shape}
use Rattle.image_model.specs.Geometry.{entries_per_sector}
use Rattle.image_model.proofs.BelowLemmas.{any_at}
use Rattle.journal_reading.specs.Used.{is_used_in}
use Rattle.journal_reading.proofs.used.has_used.Goals as goal

pub returns-then-is_used : goal.returns-then-is_used
returns-then-is_used c =
    let low = subst (λ (n : ℕ). c.loop-m.m < n) c.requires.shape.per_sector c.loop-m-test.true in
    sym (any_at (entries_per_sector (as_shape c.args.shape)) (is_used_in (as_shape c.args.shape) c.args.bytes.now) c.loop-m.m low (sym c.is_used.ensures ∙ c.if-is_used.true))
