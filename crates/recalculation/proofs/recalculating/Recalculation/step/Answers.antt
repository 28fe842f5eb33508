use Rattle.std.proofs.Common.{sym, ◌∙◌}
use Rattle.disk_model.proofs.MomentsLemmas.{no_moment}
use Rattle.bitmap_laws.proofs.LeastLemmas.{least_found}
use Rattle.image_model.specs.Geometry.{regions}
use Rattle.tag_store.specs.Store.{given_tags}
use Rattle.recalculation.specs.declared.recalculating.Recalculation.{Recalculation}
use Rattle.recalculation.specs.Awaiting.{awaiting_of}
use Rattle.recalculation.specs.Recalculation.{StepsPositionIn, Taken, Taking, next_of}
use Rattle.recalculation.proofs.StepLemmas.{adds_taking, count_fewer_of, has_taken, none_next, settled_there, settles_there, some_next, tags_taken, writes_there}
use Rattle.recalculation.proofs.recalculating.Recalculation.step.Goals as goal

pub recalc_region-requires-clause-region : goal.recalc_region-requires-clause-region
recalc_region-requires-clause-region g c =
    (least_found (regions c.args.self.now.awaiting.geometry) (awaiting_of c.args.self.now.awaiting) c.in-Some.region (sym c.next.ensures ∙ c.in-Some.is)).0

pub returns-in_default-clause-through : goal.returns-in_default-clause-through
returns-in_default-clause-through g c = none_next _ (next_of c.args.self.now) (sym c.next.ensures ∙ c.in_default.is)

pub returns-in_default-clause-writes : goal.returns-in_default-clause-writes
returns-in_default-clause-writes g c = no_moment (g.D.Disk.moments c.args.disk.now) _

pub returns-in_err-recalc_region-clause-through : goal.returns-in_err-recalc_region-clause-through
returns-in_err-recalc_region-clause-through g c =
    let old = c.args.self.now in
    let store = c.args.tags.now in
    let b = g.D.Disk.moments c.recalc_region.new.disk in
    some_next (λ region. StepsPositionIn c.args.maker.now region old store.geometry (given_tags store) (g.D.Disk.moments c.args.disk.now) b) (next_of old) c.in-Some.region (sym c.next.ensures ∙ c.in-Some.is)
    (Taking (adds_taking c.args.maker.now c.in-Some.region old store.geometry c.requires.same (given_tags store) (g.D.Disk.moments c.args.disk.now) b c.recalc_region.ensures.moments))

pub returns-in_err-recalc_region-clause-writes : goal.returns-in_err-recalc_region-clause-writes
returns-in_err-recalc_region-clause-writes g c =
    let old = c.args.self.now in
    let store = c.args.tags.now in
    tags_taken c.args.maker.now c.in-Some.region old store.geometry (given_tags store)
    (adds_taking c.args.maker.now c.in-Some.region old store.geometry c.requires.same (given_tags store) (g.D.Disk.moments c.args.disk.now) (g.D.Disk.moments c.recalc_region.new.disk) c.recalc_region.ensures.moments)

pub returns-in_err-settle-clause-through : goal.returns-in_err-settle-clause-through
returns-in_err-settle-clause-through g c =
    let old = c.args.self.now in
    let store = c.args.tags.now in
    let made = c.recalc_region.new.tags in
    let a = g.D.Disk.moments c.args.disk.now in
    let m = g.D.Disk.moments c.recalc_region.new.disk in
    let b = g.D.Disk.moments c.settle.new.disk in
    let mid : Recalculation = record { awaiting = c.recalc_region.new.self; position = old.position } in
    some_next (λ region. StepsPositionIn c.args.maker.now region old store.geometry (given_tags store) a b) (next_of old) c.in-Some.region (sym c.next.ensures ∙ c.in-Some.is)
    (Taken mid (given_tags made) m
    (has_taken c.args.maker.now c.in-Some.region old store.geometry c.requires.same (given_tags store) a m c.recalc_region.new.self (given_tags made)
    c.in_ok-recalc_region.ensures.taken c.in_ok-recalc_region.ensures.done c.recalc_region.ensures.stays.geometry c.recalc_region.ensures.stays.first)
    (settles_there mid store.geometry made.geometry c.recalc_region.ensures.stays.places (given_tags made) m b c.settle.ensures.through))

pub returns-in_err-settle-clause-writes : goal.returns-in_err-settle-clause-writes
returns-in_err-settle-clause-writes g c =
    let old = c.args.self.now in
    let store = c.args.tags.now in
    writes_there store.geometry c.recalc_region.new.tags.geometry c.recalc_region.ensures.stays.places
    (tags_taken c.args.maker.now c.in-Some.region old store.geometry (given_tags store)
    (adds_taking c.args.maker.now c.in-Some.region old store.geometry c.requires.same (given_tags store) (g.D.Disk.moments c.args.disk.now) (g.D.Disk.moments c.recalc_region.new.disk) c.recalc_region.ensures.moments))
    c.settle.ensures.writes

pub returns-clause-taken : goal.returns-clause-taken
returns-clause-taken g c =
    let old = c.args.self.now in
    let store = c.args.tags.now in
    let made = c.recalc_region.new.tags in
    let a = g.D.Disk.moments c.args.disk.now in
    let m = g.D.Disk.moments c.recalc_region.new.disk in
    let mid : Recalculation = record { awaiting = c.recalc_region.new.self; position = old.position } in
    record {
      mid = mid;
      made = given_tags made;
      between = m;
      takes = has_taken c.args.maker.now c.in-Some.region old store.geometry c.requires.same (given_tags store) a m c.recalc_region.new.self (given_tags made)
          c.in_ok-recalc_region.ensures.taken c.in_ok-recalc_region.ensures.done c.recalc_region.ensures.stays.geometry c.recalc_region.ensures.stays.first;
      settles = settled_there mid c.settle.new.self store.geometry made.geometry c.recalc_region.ensures.stays.places (given_tags made) (given_tags c.settle.new.tags) m (g.D.Disk.moments c.settle.new.disk)
          c.in_ok-settle.ensures.settled;
    }

pub returns-clause-fewer : goal.returns-clause-fewer
returns-clause-fewer g c =
    count_fewer_of c.args.self.now c.settle.new.self c.recalc_region.new.self c.in-Some.region (sym c.next.ensures ∙ c.in-Some.is)
    c.in_ok-recalc_region.ensures.done c.recalc_region.ensures.stays.geometry c.in_ok-settle.ensures.settled.awaiting

pub returns-clause-through : goal.returns-clause-through
returns-clause-through g c =
    let old = c.args.self.now in
    let store = c.args.tags.now in
    let made = c.recalc_region.new.tags in
    let a = g.D.Disk.moments c.args.disk.now in
    let m = g.D.Disk.moments c.recalc_region.new.disk in
    let b = g.D.Disk.moments c.settle.new.disk in
    let mid : Recalculation = record { awaiting = c.recalc_region.new.self; position = old.position } in
    some_next (λ region. StepsPositionIn c.args.maker.now region old store.geometry (given_tags store) a b) (next_of old) c.in-Some.region (sym c.next.ensures ∙ c.in-Some.is)
    (Taken mid (given_tags made) m
    (has_taken c.args.maker.now c.in-Some.region old store.geometry c.requires.same (given_tags store) a m c.recalc_region.new.self (given_tags made)
    c.in_ok-recalc_region.ensures.taken c.in_ok-recalc_region.ensures.done c.recalc_region.ensures.stays.geometry c.recalc_region.ensures.stays.first)
    (settles_there mid store.geometry made.geometry c.recalc_region.ensures.stays.places (given_tags made) m b c.settle.ensures.through))

pub returns-clause-writes : goal.returns-clause-writes
returns-clause-writes g c =
    let old = c.args.self.now in
    let store = c.args.tags.now in
    writes_there store.geometry c.recalc_region.new.tags.geometry c.recalc_region.ensures.stays.places
    (tags_taken c.args.maker.now c.in-Some.region old store.geometry (given_tags store)
    (adds_taking c.args.maker.now c.in-Some.region old store.geometry c.requires.same (given_tags store) (g.D.Disk.moments c.args.disk.now) (g.D.Disk.moments c.recalc_region.new.disk) c.recalc_region.ensures.moments))
    c.settle.ensures.writes
