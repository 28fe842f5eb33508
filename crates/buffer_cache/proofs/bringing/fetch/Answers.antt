use Rattle.std.proofs.Common.{inl, inr, rules}
use Rattle.disk_model.specs.Disk.{OnlyAdds}
use Rattle.disk_model.proofs.DiskLemmas.{OnlyAdds-none, Reads-one}
use Rattle.disk_model.proofs.MomentsLemmas.{adds_then, adds_wider}
use Rattle.buffer_cache.specs.Cached.{IsLeastRecent, IsPutOut, IsScratch}
use Rattle.buffer_cache.proofs.CachedLemmas.{read_later, scratch_of_before}
use Rattle.buffer_cache.proofs.StepsLemmas.{GivesSame-then}
use Rattle.buffer_cache.proofs.CachedLemmas.{HasNoMark-kept}
use Rattle.std.proofs.Common.{◌∙◌}
use Rattle.buffer_cache.proofs.bringing.fetch.Goals as goal

pub returns-in_err-make_room-clause-moments : goal.returns-in_err-make_room-clause-moments
returns-in_err-make_room-clause-moments g c =
    adds_wider (IsLeastRecent c.args.held.now) (IsPutOut c.args.at c.args.held.now) (λ s x out. record { missed = c.requires.missed; out = inl out })
    (rw c.read_run.ensures.kept at c.make_room.ensures.moments)

pub hold-requires-clause-read : goal.hold-requires-clause-read
hold-requires-clause-read g c =
    let W = IsLeastRecent c.args.held.now in
    read_later (OnlyAdds W) c.args.at c.read_run.new.buffer c.args.held.now c.make_room.new.held (OnlyAdds-none W) c.make_room.ensures.moments c.make_room.ensures.same.keeps
    c.requires.missed (c.make_room.ensures.held.each c.args.at c.requires.missed)
    (rw c.read_run.ensures.kept (λ content told. Reads-one c.args.at c.read_run.new.buffer content (search rules) (c.in_ok-read_run.ensures.read content told)))

pub returns-clause-same : goal.returns-clause-same
returns-clause-same g c =
    let W = IsScratch c.make_room.new.held in
    GivesSame-then (OnlyAdds W) c.args.held.now c.make_room.new.held c.hold.new.held (OnlyAdds-none W) c.hold.ensures.moments
    (rw (c.read_run.ensures.kept, c.read_run.ensures.identity) at c.make_room.ensures.same) c.hold.ensures.same

pub returns-clause-moments : goal.returns-clause-moments
returns-clause-moments g c =
    let V = IsPutOut c.args.at c.args.held.now in
    adds_then V
    (adds_wider (IsLeastRecent c.args.held.now) V (λ s x out. record { missed = c.requires.missed; out = inl out }) (rw c.read_run.ensures.kept at c.make_room.ensures.moments))
    (adds_wider (IsScratch c.make_room.new.held) V
    (λ s x out. record { missed = c.requires.missed; out = inr (scratch_of_before c.args.held.now c.make_room.new.held s x c.make_room.ensures.same.keeps c.in_ok-make_room.ensures.scratch out) }) c.hold.ensures.moments)

pub returns-in_err-make_room-clause-unwritten : goal.returns-in_err-make_room-clause-unwritten
returns-in_err-make_room-clause-unwritten g c none = c.make_room.ensures.unwritten none ∙ c.read_run.ensures.kept

pub returns-clause-unwritten : goal.returns-clause-unwritten
returns-clause-unwritten g c none =
    c.hold.ensures.unwritten (HasNoMark-kept c.args.held.now c.make_room.new.held c.make_room.ensures.same.keeps none)
    ∙ c.make_room.ensures.unwritten none ∙ c.read_run.ensures.kept
