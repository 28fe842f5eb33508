use Rattle.std.proofs.Common.{◌∙◌, ap, sym}
use Rattle.image_model.specs.Geometry.{best_provided_of}
use Rattle.image_model.specs.Superblock.{Superblock}
use Rattle.formatting_model.proofs.PlanningLemmas.{accepted_fields, fields_are, fields_never_refused}
use Rattle.image_formatting.proofs.planning.plan.Goals as goal

pub new-requires : goal.new-requires
new-requires c =
    let told = ap (λ (s : Superblock). best_provided_of s c.args.disk_sectors) (sym c.asked_fields-asked.ensures.fields) ∙ sym c.in_ok-provided.ensures.told in
    let is = fields_are c.args.new.now c.args.disk_sectors c.in_ok-provided.provided c.requires told _ c.in_ok-log2_region.log2_region c.fields_with-fields.ensures.fields c.in_ok-log2_region.ensures in
    record { fields = accepted_fields c.args.new.now c.args.disk_sectors c.in_ok-provided.provided c.requires told _ is }

pub returns-in_err-geometry-clause-fault : goal.returns-in_err-geometry-clause-fault
returns-in_err-geometry-clause-fault c =
    let told = ap (λ (s : Superblock). best_provided_of s c.args.disk_sectors) (sym c.asked_fields-asked.ensures.fields) ∙ sym c.in_ok-provided.ensures.told in
    let is = fields_are c.args.new.now c.args.disk_sectors c.in_ok-provided.provided c.requires told _ c.in_ok-log2_region.log2_region c.fields_with-fields.ensures.fields c.in_ok-log2_region.ensures in
    absurd (fields_never_refused c.args.new.now c.args.disk_sectors c.in_ok-provided.provided c.requires told _ c.in_err-geometry.field-0.0 is (sym c.in_err-geometry.ensures.told))
