use Rattle.std.proofs.Common.{◌∙◌}
use Rattle.commit_id.specs.Shape.{as_shape}
use Rattle.commit_id.proofs.ShapeLemmas.{shape_holds}
use Rattle.journal_ring.proofs.RunsLemmas.{all_from, begun_from, cut_from}
use Rattle.journal_ring.proofs.runs.cut_out.Goals as goal

pub split-metadata-requires : goal.split-metadata-requires
split-metadata-requires c =
    let is = c.requires.shape in
    let s = as_shape c.args.shape in
    let all = all_from s c.args.section c.args.shape.sectors c.args.before.now.items c.args.behind.now.items c.pop.new.self.items c.in-Some.all
    c.requires.one c.in-Some.ensures.items is.sectors (shape_holds c.args.shape is).2.sectors_is c.requires.inside in
    rw (c.split-front.ensures.back, is.sectors) (record { k = all.room.metadata })

pub cut_up-back-requires-clause-sectors : goal.cut_up-back-requires-clause-sectors
cut_up-back-requires-clause-sectors c =
    let is = c.requires.shape in
    let s = as_shape c.args.shape in
    let all = all_from s c.args.section c.args.shape.sectors c.args.before.now.items c.args.behind.now.items c.pop.new.self.items c.in-Some.all
    c.requires.one c.in-Some.ensures.items is.sectors (shape_holds c.args.shape is).2.sectors_is c.requires.inside in
    rw (c.split-metadata.ensures.back, c.split-front.ensures.back, is.sectors, is.entries) all.room.entries

pub returns-clause-cut : goal.returns-clause-cut
returns-clause-cut c =
    let is = c.requires.shape in
    let s = as_shape c.args.shape in
    let all = all_from s c.args.section c.args.shape.sectors c.args.before.now.items c.args.behind.now.items c.pop.new.self.items c.in-Some.all
    c.requires.one c.in-Some.ensures.items is.sectors (shape_holds c.args.shape is).2.sectors_is c.requires.inside in
    let begun = begun_from s c.args.section c.args.shape.sectors c.in-Some.all c.split-front.result.0 c.split-metadata.result.0 c.split-front.result.1 c.split-metadata.result.1
    c.pop.new.self.items c.push_reserved.new.self.items c.push_reserved-2.new.self.items all.none is.sectors c.split-front.ensures.front c.split-front.ensures.back
    c.split-metadata.ensures.front c.split-metadata.ensures.back c.push_reserved.ensures.items c.push_reserved-2.ensures.items in
    let out = cut_from s c.args.section c.args.shape.entries c.in-Some.all c.push_reserved-2.new.self.items c.args.behind.now.items c.cut_up-back.new.runs.items c.push_reserved-3.new.self.items
    c.split-metadata.result.1 c.cut_up-back.result begun all.room is.entries c.requires.one.none_behind c.cut_up-back.ensures.cut c.push_reserved-3.ensures.items in
    out.cut

pub returns-clause-follow : goal.returns-clause-follow
returns-clause-follow c =
    let is = c.requires.shape in
    let s = as_shape c.args.shape in
    let all = all_from s c.args.section c.args.shape.sectors c.args.before.now.items c.args.behind.now.items c.pop.new.self.items c.in-Some.all
    c.requires.one c.in-Some.ensures.items is.sectors (shape_holds c.args.shape is).2.sectors_is c.requires.inside in
    let begun = begun_from s c.args.section c.args.shape.sectors c.in-Some.all c.split-front.result.0 c.split-metadata.result.0 c.split-front.result.1 c.split-metadata.result.1
    c.pop.new.self.items c.push_reserved.new.self.items c.push_reserved-2.new.self.items all.none is.sectors c.split-front.ensures.front c.split-front.ensures.back
    c.split-metadata.ensures.front c.split-metadata.ensures.back c.push_reserved.ensures.items c.push_reserved-2.ensures.items in
    let out = cut_from s c.args.section c.args.shape.entries c.in-Some.all c.push_reserved-2.new.self.items c.args.behind.now.items c.cut_up-back.new.runs.items c.push_reserved-3.new.self.items
    c.split-metadata.result.1 c.cut_up-back.result begun all.room is.entries c.requires.one.none_behind c.cut_up-back.ensures.cut c.push_reserved-3.ensures.items in
    out.follow

pub returns-clause-bytes : goal.returns-clause-bytes
returns-clause-bytes c =
    let is = c.requires.shape in
    let s = as_shape c.args.shape in
    let all = all_from s c.args.section c.args.shape.sectors c.args.before.now.items c.args.behind.now.items c.pop.new.self.items c.in-Some.all
    c.requires.one c.in-Some.ensures.items is.sectors (shape_holds c.args.shape is).2.sectors_is c.requires.inside in
    let begun = begun_from s c.args.section c.args.shape.sectors c.in-Some.all c.split-front.result.0 c.split-metadata.result.0 c.split-front.result.1 c.split-metadata.result.1
    c.pop.new.self.items c.push_reserved.new.self.items c.push_reserved-2.new.self.items all.none is.sectors c.split-front.ensures.front c.split-front.ensures.back
    c.split-metadata.ensures.front c.split-metadata.ensures.back c.push_reserved.ensures.items c.push_reserved-2.ensures.items in
    let out = cut_from s c.args.section c.args.shape.entries c.in-Some.all c.push_reserved-2.new.self.items c.args.behind.now.items c.cut_up-back.new.runs.items c.push_reserved-3.new.self.items
    c.split-metadata.result.1 c.cut_up-back.result begun all.room is.entries c.requires.one.none_behind c.cut_up-back.ensures.cut c.push_reserved-3.ensures.items in
    out.bytes_are ∙ all.bytes_are
