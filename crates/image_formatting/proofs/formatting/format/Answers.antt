use Rattle.std.proofs.Common.{◌∙◌, ap, sym, subst}
use Rattle.hmac_tag.specs.TagMaker.{TagRule, key_of}
use Rattle.image_model.specs.Geometry.{Shape}
use Rattle.image_format.specs.declared.reading.ImageFormat.{ImageFormat}
use Rattle.formatting_model.proofs.WholeLemmas.{left_by, made_by, planned_is, synced_by}
use Rattle.formatting_model.proofs.WrittenLemmas.{new_written}
use Rattle.image_formatting.specs.Room.{HasRoom}
use Rattle.image_formatting.proofs.formatting.format.Goals as goal

pub write_image-requires-clause-size : goal.write_image-requires-clause-size
write_image-requires-clause-size g c =
    let is = planned_is _ c.args.new c.in_ok-format.format c.in_ok-format.ensures.format c.in_ok-format.ensures.fields in
    ap (λ (r : TagRule). r.size) c.new-maker.ensures ∙ sym (ap (λ (f : ImageFormat). f.geometry.shape.tag_size) is)

pub write_image-requires-clause-room : goal.write_image-requires-clause-room
write_image-requires-clause-room g c = subst (λ (x : Shape). HasRoom x c.in_ok-room.room) c.shape.ensures.shape c.in_ok-room.ensures

pub returns-in_err-write_image-clause-moments : goal.returns-in_err-write_image-clause-moments
returns-in_err-write_image-clause-moments g c =
    let is = planned_is _ c.args.new c.in_ok-format.format c.in_ok-format.ensures.format c.in_ok-format.ensures.fields in
    left_by (key_of c.args.hash) _ c.args.new c.in_ok-format.format c.new-maker.result (rw c.sectors.ensures at c.in_ok-format.ensures.provided) is c.new-maker.ensures c.write_image.ensures.moments

pub returns-clause-made : goal.returns-clause-made
returns-clause-made g c =
    let is = planned_is _ c.args.new c.in_ok-format.format c.in_ok-format.ensures.format c.in_ok-format.ensures.fields in
    made_by (key_of c.args.hash) _ c.args.new c.in_ok-format.format c.new-maker.result (rw c.sectors.ensures at c.in_ok-format.ensures.provided) is c.new-maker.ensures _ _ c.in_ok-write_image.ensures.written

pub returns-clause-geom : goal.returns-clause-geom
returns-clause-geom g c =
    let told = rw c.sectors.ensures at c.in_ok-format.ensures.provided in
    λ fault. (λ e. absurd (cc e), λ e. absurd (cc (told, e)))

pub returns-clause-moments : goal.returns-clause-moments
returns-clause-moments g c =
    let is = planned_is _ c.args.new c.in_ok-format.format c.in_ok-format.ensures.format c.in_ok-format.ensures.fields in
    left_by (key_of c.args.hash) _ c.args.new c.in_ok-format.format c.new-maker.result (rw c.sectors.ensures at c.in_ok-format.ensures.provided) is c.new-maker.ensures c.write_image.ensures.moments

pub returns-clause-synced : goal.returns-clause-synced
returns-clause-synced g c =
    let is = planned_is _ c.args.new c.in_ok-format.format c.in_ok-format.ensures.format c.in_ok-format.ensures.fields in
    synced_by (key_of c.args.hash) _ c.args.new c.in_ok-format.format c.new-maker.result (rw c.sectors.ensures at c.in_ok-format.ensures.provided) is c.new-maker.ensures c.in_ok-write_image.ensures.synced

pub returns-in_err-write_image-clause-writes : goal.returns-in_err-write_image-clause-writes
returns-in_err-write_image-clause-writes g c =
    let is = planned_is _ c.args.new c.in_ok-format.format c.in_ok-format.ensures.format c.in_ok-format.ensures.fields in
    new_written _ c.args.new c.in_ok-format.format (rw c.sectors.ensures at c.in_ok-format.ensures.provided) is c.write_image.ensures.writes

pub returns-clause-writes : goal.returns-clause-writes
returns-clause-writes g c =
    let is = planned_is _ c.args.new c.in_ok-format.format c.in_ok-format.ensures.format c.in_ok-format.ensures.fields in
    new_written _ c.args.new c.in_ok-format.format (rw c.sectors.ensures at c.in_ok-format.ensures.provided) is c.write_image.ensures.writes
