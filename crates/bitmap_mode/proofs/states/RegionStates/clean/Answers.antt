use Rattle.std.proofs.Common.{◌≡◌, ◌<◌, true, refl, sym, ◌∙◌, ap, subst}
use Rattle.image_model.specs.Geometry.{regions}
use Rattle.bitmap_mode.specs.States.{States, counts_of, may_be_clean}
use Rattle.bitmap_mode.specs.Standing.{StandsAs}
use Rattle.bitmap_mode.proofs.CleaningLemmas.{clean_through, is_cleaned}
use Rattle.bitmap_mode.proofs.states.RegionStates.clean.Goals as goal

pub returns-in_err-clear_bit-clause-through : goal.returns-in_err-clear_bit-clause-through
returns-in_err-clear_bit-clause-through g c d marked stands =
    let s : States = record { geometry = c.self.inside.geometry; bits = c.self.inside.bits; awaiting = c.self.inside.awaiting; fresh = c.self.inside.fresh } in
    let here = subst (λ (x : States). StandsAs d marked x c.args.tags.now (g.D.Disk.moments c.args.disk.now)) (sym c.self.view_is) stands in
    clean_through d marked s c.args.tags.now here (c.requires.same ∙ ap (λ (x : States). x.geometry) (sym c.self.view_is)) c.self.invariant.bits_geometry c.args.region
    (subst (λ (x : States). c.args.region < regions x.geometry) (sym c.self.view_is) c.requires.region)
    (subst (λ (x : States). may_be_clean (counts_of x) c.args.region ≡ true) (sym c.self.view_is) c.requires.rests) c.clear_bit.ensures.moments

pub returns-clause-through : goal.returns-clause-through
returns-clause-through g c d marked stands =
    let s : States = record { geometry = c.self.inside.geometry; bits = c.self.inside.bits; awaiting = c.self.inside.awaiting; fresh = c.self.inside.fresh } in
    let here = subst (λ (x : States). StandsAs d marked x c.args.tags.now (g.D.Disk.moments c.args.disk.now)) (sym c.self.view_is) stands in
    clean_through d marked s c.args.tags.now here (c.requires.same ∙ ap (λ (x : States). x.geometry) (sym c.self.view_is)) c.self.invariant.bits_geometry c.args.region
    (subst (λ (x : States). c.args.region < regions x.geometry) (sym c.self.view_is) c.requires.region)
    (subst (λ (x : States). may_be_clean (counts_of x) c.args.region ≡ true) (sym c.self.view_is) c.requires.rests) c.clear_bit.ensures.moments

pub returns-clause-cleaned : goal.returns-clause-cleaned
returns-clause-cleaned g c d marked stands =
    let s : States = record { geometry = c.self.inside.geometry; bits = c.self.inside.bits; awaiting = c.self.inside.awaiting; fresh = c.self.inside.fresh } in
    let new : States = record { geometry = c.self.inside.geometry; bits = c.clear_bit.new.bits; awaiting = c.self.inside.awaiting; fresh = c.self.inside.fresh } in
    let here = subst (λ (x : States). StandsAs d marked x c.args.tags.now (g.D.Disk.moments c.args.disk.now)) (sym c.self.view_is) stands in
    is_cleaned d marked s c.args.tags.now here (c.requires.same ∙ ap (λ (x : States). x.geometry) (sym c.self.view_is)) c.self.invariant.bits_geometry c.args.region
    (subst (λ (x : States). c.args.region < regions x.geometry) (sym c.self.view_is) c.requires.region)
    (subst (λ (x : States). may_be_clean (counts_of x) c.args.region ≡ true) (sym c.self.view_is) c.requires.rests) new refl refl c.in_ok-clear_bit.ensures.cleared c.in_ok-clear_bit.ensures.made
