-- A read, a write and a flush answer as the mirror does; what stops one is a disk, or the want of memory.
use Rattle.std.proofs.Common.{length, refl, sym, ◌∙◌, ap, arith, Err}
use Rattle.mirror_calls.specs.Faults.{IsOfCall, IsOfDisk, refusal}
use Rattle.mirror_session.proofs.AnswerLemmas.{asked_at_most, broken_by, disk_stops, ended_so, first_left, flush_answered, memory_stops, of_call, passed_well, read_answered, read_taken, second_left, stopped_by, turned_by, write_answered, write_taken}
use Rattle.mirror_session.proofs.answer.answer_of.Goals as goal

pub stop_by-requires : goal.stop_by-requires
stop_by-requires g c =
    let blocks = g.A.Leg.blocks c.args.mirror.now.a in
    let size = g.A.Leg.block_size c.args.mirror.now.a in
    let r = c.in-Read in
    let fault = c.in-Err.fault in
    let taken = read_taken c.args.mirror.now.broken blocks size c.args.request r.first r.count r.buffer r.is c.requires.works.whole c.requires.taken in
    let called : IsOfCall fault = ended_so (refusal c.args.mirror.now.broken blocks size r.first r.count (length r.buffer)) (IsOfCall fault) taken c.in-Err.ensures.accepted in
    called

pub stop_by-requires-in-Err-write : goal.stop_by-requires-in-Err-write
stop_by-requires-in-Err-write g c =
    let blocks = g.A.Leg.blocks c.args.mirror.now.a in
    let size = g.A.Leg.block_size c.args.mirror.now.a in
    let r = c.in-Write in
    let fault = c.in-Err-write.fault in
    let taken = write_taken c.args.mirror.now.broken blocks size c.args.request r.first r.count r.bytes r.fua r.is c.requires.works.whole c.requires.taken in
    let by_disk : IsOfDisk fault = ended_so (refusal c.args.mirror.now.broken blocks size r.first r.count (length r.bytes)) (IsOfDisk fault) taken c.in-Err-write.ensures.accepted in
    of_call fault by_disk

pub stop_by-requires-in-Err-flush : goal.stop_by-requires-in-Err-flush
stop_by-requires-in-Err-flush g c =
    let fault = c.in-Err-flush.fault in
    let by_disk : IsOfDisk fault = c.in-Err-flush.ensures.disk c.requires.works.whole in
    of_call fault by_disk

pub returns-in-Ok-clause-answered : goal.returns-in-Ok-clause-answered
returns-in-Ok-clause-answered g c =
    rw c.in-Read.is (λ a b m legs. read_answered _ _ a b m c.in-Read.first c.in-Read.count c.in-Read.buffer c.in-Ok.reply (c.in-Ok.ensures.read a b m legs))

pub returns-in-Ok-write-clause-answered : goal.returns-in-Ok-write-clause-answered
returns-in-Ok-write-clause-answered g c =
    rw c.in-Write.is (λ a b m legs.
    write_answered _ _ a b m c.in-Write.first c.in-Write.count (g.A.Leg.block_size c.args.mirror.now.a) c.in-Write.bytes c.in-Write.fua
    (sym (g.met.A.Leg.same_size c.args.mirror.now.a a m.a legs.first)) (c.in-Ok-write.ensures.written a b m legs))

pub returns-in-Ok-flush-clause-answered : goal.returns-in-Ok-flush-clause-answered
returns-in-Ok-flush-clause-answered g c =
    rw c.in-Flush.is (λ a b m legs. flush_answered _ _ a b m (c.in-Ok-flush.ensures.flushed a b m legs))

pub returns-in-Ok-clause-asked : goal.returns-in-Ok-clause-asked
returns-in-Ok-clause-asked g c =
    rw c.in-Read.is c.in-Ok.ensures.asked

pub returns-in-Ok-write-clause-asked : goal.returns-in-Ok-write-clause-asked
returns-in-Ok-write-clause-asked g c =
    rw c.in-Write.is (asked_at_most _ _ 1 _ _ _ _ _ (omega arith) c.in-Ok-write.ensures.asked)

pub returns-in-Ok-flush-clause-asked : goal.returns-in-Ok-flush-clause-asked
returns-in-Ok-flush-clause-asked g c =
    rw c.in-Flush.is c.in-Ok-flush.ensures.asked

pub returns-in-Ok-clause-cause : goal.returns-in-Ok-clause-cause
returns-in-Ok-clause-cause g c =
    passed_well _ _ _ _ _ _ _ _ refl refl c.in-Ok.ensures.cause

pub returns-in-Ok-write-clause-cause : goal.returns-in-Ok-write-clause-cause
returns-in-Ok-write-clause-cause g c =
    passed_well _ _ _ _ _ _ _ _ refl refl c.in-Ok-write.ensures.cause

pub returns-in-Ok-flush-clause-cause : goal.returns-in-Ok-flush-clause-cause
returns-in-Ok-flush-clause-cause g c =
    passed_well _ _ _ _ _ _ _ _ refl refl c.in-Ok-flush.ensures.cause

pub returns-in-Err-clause-cause : goal.returns-in-Err-clause-cause
returns-in-Err-clause-cause g c =
    let blocks = g.A.Leg.blocks c.args.mirror.now.a in
    let size = g.A.Leg.block_size c.args.mirror.now.a in
    let r = c.in-Read in
    let fault = c.in-Err.fault in
    let taken = read_taken c.args.mirror.now.broken blocks size c.args.request r.first r.count r.buffer r.is c.requires.works.whole c.requires.taken in
    let called : IsOfCall fault = ended_so (refusal c.args.mirror.now.broken blocks size r.first r.count (length r.buffer)) (IsOfCall fault) taken c.in-Err.ensures.accepted in
    stopped_by _ _ _ _ _ _ fault refl (ap Err c.stop_by.ensures) called c.in-Err.ensures.cause

pub returns-in-Err-write-clause-cause : goal.returns-in-Err-write-clause-cause
returns-in-Err-write-clause-cause g c =
    let blocks = g.A.Leg.blocks c.args.mirror.now.a in
    let size = g.A.Leg.block_size c.args.mirror.now.a in
    let r = c.in-Write in
    let fault = c.in-Err-write.fault in
    let taken = write_taken c.args.mirror.now.broken blocks size c.args.request r.first r.count r.bytes r.fua r.is c.requires.works.whole c.requires.taken in
    let by_disk : IsOfDisk fault = ended_so (refusal c.args.mirror.now.broken blocks size r.first r.count (length r.bytes)) (IsOfDisk fault) taken c.in-Err-write.ensures.accepted in
    stopped_by _ _ _ _ _ _ fault refl (ap Err c.stop_by-in-Err-write.ensures) (of_call fault by_disk) c.in-Err-write.ensures.cause

pub returns-in-Err-flush-clause-cause : goal.returns-in-Err-flush-clause-cause
returns-in-Err-flush-clause-cause g c =
    let fault = c.in-Err-flush.fault in
    let by_disk : IsOfDisk fault = c.in-Err-flush.ensures.disk c.requires.works.whole in
    stopped_by _ _ _ _ _ _ fault refl (ap Err c.stop_by-in-Err-flush.ensures) (of_call fault by_disk) c.in-Err-flush.ensures.cause

pub returns-in-Err-clause-turns : goal.returns-in-Err-clause-turns
returns-in-Err-clause-turns g c =
    let blocks = g.A.Leg.blocks c.args.mirror.now.a in
    let size = g.A.Leg.block_size c.args.mirror.now.a in
    let r = c.in-Read in
    let fault = c.in-Err.fault in
    let taken = read_taken c.args.mirror.now.broken blocks size c.args.request r.first r.count r.buffer r.is c.requires.works.whole c.requires.taken in
    let called : IsOfCall fault = ended_so (refusal c.args.mirror.now.broken blocks size r.first r.count (length r.buffer)) (IsOfCall fault) taken c.in-Err.ensures.accepted in
    turned_by _ _ fault (ap Err c.stop_by.ensures) called c.in-Err.ensures.turns.breaks
    (λ same. rw (c.in-Err.ensures.memory (ap Err same)) c.requires.works.whole)

pub returns-in-Err-write-clause-turns : goal.returns-in-Err-write-clause-turns
returns-in-Err-write-clause-turns g c =
    let blocks = g.A.Leg.blocks c.args.mirror.now.a in
    let size = g.A.Leg.block_size c.args.mirror.now.a in
    let r = c.in-Write in
    let fault = c.in-Err-write.fault in
    let taken = write_taken c.args.mirror.now.broken blocks size c.args.request r.first r.count r.bytes r.fua r.is c.requires.works.whole c.requires.taken in
    let by_disk : IsOfDisk fault = ended_so (refusal c.args.mirror.now.broken blocks size r.first r.count (length r.bytes)) (IsOfDisk fault) taken c.in-Err-write.ensures.accepted in
    broken_by _ _ fault (ap Err c.stop_by-in-Err-write.ensures) by_disk c.in-Err-write.ensures.turns.breaks

pub returns-in-Err-flush-clause-turns : goal.returns-in-Err-flush-clause-turns
returns-in-Err-flush-clause-turns g c =
    let fault = c.in-Err-flush.fault in
    let by_disk : IsOfDisk fault = c.in-Err-flush.ensures.disk c.requires.works.whole in
    broken_by _ _ fault (ap Err c.stop_by-in-Err-flush.ensures) by_disk c.in-Err-flush.ensures.turns.breaks

pub returns-in-Err-clause-memory : goal.returns-in-Err-clause-memory
returns-in-Err-clause-memory g c =
    let blocks = g.A.Leg.blocks c.args.mirror.now.a in
    let size = g.A.Leg.block_size c.args.mirror.now.a in
    let r = c.in-Read in
    let fault = c.in-Err.fault in
    let taken = read_taken c.args.mirror.now.broken blocks size c.args.request r.first r.count r.buffer r.is c.requires.works.whole c.requires.taken in
    let called : IsOfCall fault = ended_so (refusal c.args.mirror.now.broken blocks size r.first r.count (length r.buffer)) (IsOfCall fault) taken c.in-Err.ensures.accepted in
    λ same. c.in-Err.ensures.memory (ap Err (memory_stops fault _ called (ap Err c.stop_by.ensures) same))

pub returns-in-Err-write-clause-memory : goal.returns-in-Err-write-clause-memory
returns-in-Err-write-clause-memory g c =
    let blocks = g.A.Leg.blocks c.args.mirror.now.a in
    let size = g.A.Leg.block_size c.args.mirror.now.a in
    let r = c.in-Write in
    let fault = c.in-Err-write.fault in
    let taken = write_taken c.args.mirror.now.broken blocks size c.args.request r.first r.count r.bytes r.fua r.is c.requires.works.whole c.requires.taken in
    let by_disk : IsOfDisk fault = ended_so (refusal c.args.mirror.now.broken blocks size r.first r.count (length r.bytes)) (IsOfDisk fault) taken c.in-Err-write.ensures.accepted in
    λ same. absurd (disk_stops fault _ by_disk (ap Err c.stop_by-in-Err-write.ensures) same)

pub returns-in-Err-flush-clause-memory : goal.returns-in-Err-flush-clause-memory
returns-in-Err-flush-clause-memory g c =
    let fault = c.in-Err-flush.fault in
    let by_disk : IsOfDisk fault = c.in-Err-flush.ensures.disk c.requires.works.whole in
    λ same. absurd (disk_stops fault _ by_disk (ap Err c.stop_by-in-Err-flush.ensures) same)

pub returns-in-Ok-clause-first_moments : goal.returns-in-Ok-clause-first_moments
returns-in-Ok-clause-first_moments g c =
    rw c.in-Read.is c.in-Ok.ensures.first_moments

pub returns-in-Err-clause-first_moments : goal.returns-in-Err-clause-first_moments
returns-in-Err-clause-first_moments g c =
    rw c.in-Read.is c.in-Err.ensures.first_moments

pub returns-in-Ok-write-clause-first_moments : goal.returns-in-Ok-write-clause-first_moments
returns-in-Ok-write-clause-first_moments g c =
    rw c.in-Write.is (λ a b m legs.
    first_left (g.A.Leg.may_be_left a) a b m c.in-Write.first c.in-Write.count (g.A.Leg.block_size c.args.mirror.now.a) c.in-Write.bytes c.in-Write.fua
    (sym (g.met.A.Leg.same_size c.args.mirror.now.a a m.a legs.first)) _ _ (c.in-Ok-write.ensures.first_moments a m.a legs.first))

pub returns-in-Err-write-clause-first_moments : goal.returns-in-Err-write-clause-first_moments
returns-in-Err-write-clause-first_moments g c =
    rw c.in-Write.is (λ a b m legs.
    first_left (g.A.Leg.may_be_left a) a b m c.in-Write.first c.in-Write.count (g.A.Leg.block_size c.args.mirror.now.a) c.in-Write.bytes c.in-Write.fua
    (sym (g.met.A.Leg.same_size c.args.mirror.now.a a m.a legs.first)) _ _ (c.in-Err-write.ensures.first_moments a m.a legs.first))

pub returns-in-Ok-flush-clause-first_moments : goal.returns-in-Ok-flush-clause-first_moments
returns-in-Ok-flush-clause-first_moments g c =
    rw c.in-Flush.is (λ a b m legs. c.in-Ok-flush.ensures.first_moments a m.a legs.first)

pub returns-in-Err-flush-clause-first_moments : goal.returns-in-Err-flush-clause-first_moments
returns-in-Err-flush-clause-first_moments g c =
    rw c.in-Flush.is (λ a b m legs. c.in-Err-flush.ensures.first_moments a m.a legs.first)

pub returns-in-Ok-clause-second_moments : goal.returns-in-Ok-clause-second_moments
returns-in-Ok-clause-second_moments g c =
    rw c.in-Read.is c.in-Ok.ensures.second_moments

pub returns-in-Err-clause-second_moments : goal.returns-in-Err-clause-second_moments
returns-in-Err-clause-second_moments g c =
    rw c.in-Read.is c.in-Err.ensures.second_moments

pub returns-in-Ok-write-clause-second_moments : goal.returns-in-Ok-write-clause-second_moments
returns-in-Ok-write-clause-second_moments g c =
    rw c.in-Write.is (λ a b m legs.
    second_left (g.B.Leg.may_be_left b) a b m c.in-Write.first c.in-Write.count (g.B.Leg.block_size c.args.mirror.now.b) c.in-Write.bytes c.in-Write.fua
    (sym c.requires.works.ready.size ∙ sym (g.met.A.Leg.same_size c.args.mirror.now.a a m.a legs.first)) _ _ (c.in-Ok-write.ensures.second_moments b m.b legs.second))

pub returns-in-Err-write-clause-second_moments : goal.returns-in-Err-write-clause-second_moments
returns-in-Err-write-clause-second_moments g c =
    rw c.in-Write.is (λ a b m legs.
    second_left (g.B.Leg.may_be_left b) a b m c.in-Write.first c.in-Write.count (g.B.Leg.block_size c.args.mirror.now.b) c.in-Write.bytes c.in-Write.fua
    (sym c.requires.works.ready.size ∙ sym (g.met.A.Leg.same_size c.args.mirror.now.a a m.a legs.first)) _ _ (c.in-Err-write.ensures.second_moments b m.b legs.second))

pub returns-in-Ok-flush-clause-second_moments : goal.returns-in-Ok-flush-clause-second_moments
returns-in-Ok-flush-clause-second_moments g c =
    rw c.in-Flush.is (λ a b m legs. c.in-Ok-flush.ensures.second_moments b m.b legs.second)

pub returns-in-Err-flush-clause-second_moments : goal.returns-in-Err-flush-clause-second_moments
returns-in-Err-flush-clause-second_moments g c =
    rw c.in-Flush.is (λ a b m legs. c.in-Err-flush.ensures.second_moments b m.b legs.second)
