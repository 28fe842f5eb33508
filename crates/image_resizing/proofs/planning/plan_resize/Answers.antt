use Rattle.std.proofs.Common.{◌≡◌, ℕ, sym, ap, subst, ◌∙◌, Ok, Err, Result}
use Rattle.std.proofs.lemmas.Result.{err_from_is_err_and}
use Rattle.disk_model.specs.Disk.{last_image}
use Rattle.disk_model.specs.Identity.{DiskIdentity}
use Rattle.image_model.specs.declared.geom_fault.GeomFault.{GeomFault}
use Rattle.image_model.specs.Geometry.{Geometry, geometry_of}
use Rattle.image_model.specs.Superblock.{Superblock}
use Rattle.resize_model.specs.Resized.{resized_fields}
use Rattle.image_resizing.proofs.RefusingLemmas.{growth_refused, head_told, journal_left}
use Rattle.image_resizing.proofs.planning.plan_resize.Goals as goal

pub returns-in_err-present-clause-refused : goal.returns-in_err-present-clause-refused
returns-in_err-present-clause-refused g c =
    let p = err_from_is_err_and c.from_residual.result c.from_residual.ensures.1 in
    rw (p.1, p.2) (λ key. head_told key (g.D.Disk.identity c.args.disk.now).sectors (g.D.Disk.moments c.args.disk.now) c.in_err-present.field-0.0 c.in_err-present.ensures.refused)

pub returns-in_err-grown-clause-refused : goal.returns-in_err-grown-clause-refused
returns-in_err-grown-clause-refused g c =
    let p = err_from_is_err_and c.from_residual-in_err-grown.result c.from_residual-in_err-grown.ensures.1 in
    let sectors = (g.D.Disk.identity c.args.disk.now).sectors in
    let same : c.sectors.result ≡ sectors = c.sectors.ensures ∙ ap (λ (d : DiskIdentity). d.sectors) c.read_format.ensures.identity in
    let present = c.in_ok-present.present in
    let fault = c.in_err-grown.field-0.0 in
    rw (p.1, p.2) (λ key not_memory not_disk x told.
    growth_refused key sectors (last_image x) present fault (c.in_ok-present.ensures.told x told)
    (subst (λ (n : ℕ). let r : Result Geometry GeomFault = Err fault in geometry_of (resized_fields present.fields n) n ≡ r) same c.in_err-grown.ensures.fault))

pub returns-clause-journal : goal.returns-clause-journal
returns-clause-journal g c key x told =
    let sectors = (g.D.Disk.identity c.args.disk.now).sectors in
    let same : c.sectors.result ≡ sectors = c.sectors.ensures ∙ ap (λ (d : DiskIdentity). d.sectors) c.read_format.ensures.identity in
    let present = c.in_ok-present.present in
    let given : geometry_of (resized_fields present.fields c.sectors.result) c.sectors.result ≡ Ok c.in_ok-grown.grown.geometry =
    ap (λ (s : Superblock). geometry_of s c.sectors.result) (sym c.in_ok-grown.ensures.fields) ∙ c.in_ok-grown.ensures.format.told in
    journal_left key sectors (last_image x) present c.in_ok-grown.grown.geometry (c.in_ok-present.ensures.told x told)
    (subst (λ (n : ℕ). let r : Result Geometry GeomFault = Ok c.in_ok-grown.grown.geometry in geometry_of (resized_fields present.fields n) n ≡ r) same given)
