use Rattle.std.proofs.Common.{sym, ◌∙◌}
use Rattle.std.proofs.lemmas.Result.{IfOk-weaker}
use Rattle.disk_model.specs.Disk.{last_image}
use Rattle.image_model.proofs.BitmapLemmas.{awaits-bitmap, awaits-journal}
use Rattle.bitmap_model.proofs.BitLemmas.{bitmap_fits_at}
use Rattle.image_check.proofs.passing.is_awaiting.Goals as goal

pub is_dirty-requires-clause-geometry : goal.is_dirty-requires-clause-geometry
is_dirty-requires-clause-geometry g c =
    let format = c.args.format.now in
    record {
      geometry = c.requires.format.geometry;
      fits = bitmap_fits_at format.fields (g.D.Disk.identity c.args.disk.now).sectors format.geometry c.requires.format.told (sym c.has_bitmap.ensures ∙ c.if-has_bitmap.true);
    }

pub returns-then-has_bitmap-clause-awaiting : goal.returns-then-has_bitmap-clause-awaiting
returns-then-has_bitmap-clause-awaiting g c =
    let format = c.args.format.now in
    IfOk-weaker c.is_dirty.result _ _ (λ dirty h x told.
    h x told ∙ sym (awaits-bitmap format.fields format.geometry (last_image x) c.args.block (sym c.has_bitmap.ensures ∙ c.if-has_bitmap.true)))
    c.is_dirty.ensures.dirty

pub returns-clause-awaiting : goal.returns-clause-awaiting
returns-clause-awaiting g c x told =
    let format = c.args.format.now in
    c.is_to_recalculate.ensures
    ∙ sym (awaits-journal format.fields format.geometry (last_image x) c.args.block (sym c.has_bitmap.ensures ∙ c.if-has_bitmap.false))
