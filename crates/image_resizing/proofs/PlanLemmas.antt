-- What follows from a plan: the growth of each image has both formats.
use Rattle.std.proofs.Common.{◌≡◌, inl, inr, ℕ, ◌/◌, ◌≤◌, sym, ◌∙◌, ap, subst, arith, [], Ok}
use Rattle.std.proofs.lemmas.Bool.{cases_lt}
use Rattle.disk_model.specs.Disk.{Image}
use Rattle.image_model.specs.Geometry.{Geometry, bitmap_sectors_for, geometry_of, journal_sectors}
use Rattle.image_model.specs.Superblock.{Superblock}
use Rattle.image_model.proofs.GeometryLemmas.{data_at-inside}
use Rattle.image_model.proofs.GeometryOf.{geometry_given}
use Rattle.resize_model.specs.Growth.{geometry_then}
use Rattle.resize_model.specs.PlacesLaws.{IsGrown}
use Rattle.resize_model.specs.Refusals.{BitmapFits}
use Rattle.resize_model.specs.Resized.{resized_fields, resized_provided}
use Rattle.resize_model.proofs.PlacesLemmas.{resized_fault_law, resized_geometry_law}
use Rattle.image_resizing.specs.declared.planning.Plan.{Plan}
use Rattle.image_resizing.specs.Plan.{IsPlan, growth_of, present_format}

module _ (sectors : ℕ) (plan : Plan) (is : IsPlan sectors plan) where
  told : geometry_of (resized_fields plan.present.fields sectors) sectors ≡ Ok plan.grown.geometry
  told = ap (λ (s : Superblock). geometry_of s sectors) (sym is.fields) ∙ is.grown.told

  -- A bitmap has room for all regions.
  pub plan_fits : BitmapFits plan.present.fields plan.present.geometry sectors
  plan_fits set =
      let g = plan.present.geometry in
      elim (cases_lt (journal_sectors g) (bitmap_sectors_for (resized_provided plan.present.fields sectors / g.shape.spb) g.log2_region)) [
        | inl less ↦ absurd (let e = sym told ∙ resized_fault_law plan.present.fields sectors g is.present.fields is.present.told set less in cc)
        | inr fits ↦ fits
      ]

  pub plan_grown : IsGrown (present_format sectors plan) (resized_provided plan.present.fields sectors)
  plan_grown = resized_geometry_law (present_format sectors plan) is.present.fields is.present.told plan_fits

  -- The new places are those of the growth.
  pub plan_places : (image : Image) → plan.grown.geometry ≡ geometry_then (growth_of sectors plan image)
  plan_places image =
      let fields = resized_fields plan.present.fields sectors in
      ((geometry_given fields sectors plan.grown.geometry).0 told).0
      ∙ sym ((geometry_given fields sectors (geometry_then (growth_of sectors plan image))).0 plan_grown.has_grown).0

  -- No block is taken away.
  pub plan_more : plan.present.geometry.blocks ≤ plan.grown.geometry.blocks
  plan_more = subst (λ (g : Geometry). plan.present.geometry.blocks ≤ g.blocks) (sym (plan_places (λ sector. []))) plan_grown.more

  -- The disk has a sector.
  pub plan_sectors : 8 ≤ sectors
  plan_sectors =
      let at = data_at-inside plan.present.geometry sectors 0 is.present.geometry is.present.geometry.blocks in
      omega (arith, at.0, at.1)
