-- A read of a leg changes nothing, and a mend what its write does.
use Rattle.std.proofs.Common.{rules, ◌≡◌, false, ℕ, suc, List, [], ◌∷◌, length, ap, sym, ◌∙◌, subst}
use Rattle.std.specs.Str.{bytes_eq}
use Rattle.device_model.specs.Request.{Read, Write}
use Rattle.mirror_model.specs.Calls as Model
use Rattle.mirror_model.specs.Mirror.{after_request, changes_on_first, changes_on_second}
use Rattle.mirror_laws.proofs.BlockLemmas.{level_block-to_first, level_block-mends_first, level_block-mends_second, level_block-mends_unlike}
use Rattle.mirror_calls.specs.Given.{block_answer, block_buffer}
use Rattle.mirror_calls.specs.State.{format_of}
use Rattle.mirror_calls.specs.declared.leg_reads.BlockRead.{BlockRead}
use Rattle.mirror_calls.proofs.SinceLemmas.{IsLeftSince-none, IsLeftSince-write, IsLeftSince-mend, one_block}
use Rattle.mirror_calls.proofs.block.level_block.Goals as goal

pub returns-in-Err-clause-first_moments : goal.returns-in-Err-clause-first_moments
returns-in-Err-clause-first_moments g c a b m legs =
    IsLeftSince-none (g.A.Leg.may_be_left a) m.a.history (changes_on_first (Model.level_block (format_of a b) m c.args.block).changes)
    (c.in-Err.ensures.moments a m.a legs.first)

pub returns-in-Err-read_one-clause-first_moments : goal.returns-in-Err-read_one-clause-first_moments
returns-in-Err-read_one-clause-first_moments g c a b m legs =
    IsLeftSince-none (g.A.Leg.may_be_left a) m.a.history (changes_on_first (Model.level_block (format_of a b) m c.args.block).changes)
    (c.in-Ok.ensures.moments a m.a legs.first)

pub returns-in-Err-read_one-clause-second_moments : goal.returns-in-Err-read_one-clause-second_moments
returns-in-Err-read_one-clause-second_moments g c a b m legs =
    IsLeftSince-none (g.B.Leg.may_be_left b) m.b.history (changes_on_second (Model.level_block (format_of a b) m c.args.block).changes)
    (c.in-Err-read_one.ensures.moments b m.b legs.second)

pub returns-else-eq-clause-second_moments : goal.returns-else-eq-clause-second_moments
returns-else-eq-clause-second_moments g c a b m legs =
    let block = c.args.block in
    let x = c.in-Given.buffer in
    let y = c.in-Given-second.other in
    let unlike : bytes_eq x y ≡ false = search rules in
    let mends = level_block-mends_unlike (format_of a b) m block x y
    (sym (c.in-Ok.ensures.read a m.a legs.first) ∙ ap (block_answer block) c.in-Given.is)
    (sym (c.in-Ok-read_one.ensures.read b m.b legs.second) ∙ ap (block_answer block) c.in-Given-second.is) unlike in
    IsLeftSince-write (g.B.Leg.may_be_left b) m.b.history (suc (suc m.b.submitted)) block x (changes_on_second (Model.level_block (format_of a b) m block).changes) mends
    (c.in-Ok-read_one.ensures.moments b m.b legs.second)
    (c.write_second.ensures.moments b (after_request m.b (Read block 1)) (c.in-Ok-read_one.ensures.stands b m.b legs.second))

pub returns-in-Differs-second-clause-second_moments : goal.returns-in-Differs-second-clause-second_moments
returns-in-Differs-second-clause-second_moments g c a b m legs =
    let block = c.args.block in
    let x = c.in-Given.buffer in
    let mends = level_block-mends_second (format_of a b) m block x block c.in-Differs-second.tags.stored c.in-Differs-second.tags.computed
    (sym (c.in-Ok.ensures.read a m.a legs.first) ∙ ap (block_answer block) c.in-Given.is)
    (sym (c.in-Ok-read_one.ensures.read b m.b legs.second) ∙ ap (block_answer block) c.in-Differs-second.is) in
    IsLeftSince-write (g.B.Leg.may_be_left b) m.b.history (suc (suc m.b.submitted)) block x (changes_on_second (Model.level_block (format_of a b) m block).changes) mends
    (c.in-Ok-read_one.ensures.moments b m.b legs.second)
    (c.write_second-in-Differs-second.ensures.moments b (after_request m.b (Read block 1)) (c.in-Ok-read_one.ensures.stands b m.b legs.second))

pub returns-in-Ok-write_whole-clause-levelled : goal.returns-in-Ok-write_whole-clause-levelled
returns-in-Ok-write_whole-clause-levelled g c a b m legs =
    let block = c.args.block in
    let x = c.in-Given-second-2.other in
    let size = g.A.Leg.block_size c.read_one.new.leg in
    let long : length x ≡ size =
    sym (ap (λ (r : BlockRead). length (block_buffer r)) c.in-Given-second-2.is) ∙ c.in-Ok-read_one.ensures.buffer ∙ c.requires.other ∙ sym c.in-Ok.ensures.same.size_ in
    let d = level_block-to_first (format_of a b) m block block c.in-Differs.tags.stored c.in-Differs.tags.computed x
    (sym (c.in-Ok.ensures.read a m.a legs.first) ∙ ap (block_answer block) c.in-Differs.is)
    (sym (c.in-Ok-read_one.ensures.read b m.b legs.second) ∙ ap (block_answer block) c.in-Given-second-2.is) in
    record {
      answers = d.answers;
      legs = record {
        first = subst (g.A.Leg.stands_for c.write_whole.new.self a)
            (ap (λ (l : List ℕ). after_request (after_request m.a (Read block 1)) (Write block (l ∷ []) false)) (one_block size x long) ∙ sym d.legs.first)
            (c.in-Ok-write_whole.ensures.stands a (after_request m.a (Read block 1)) (c.in-Ok.ensures.stands a m.a legs.first));
        second = subst (g.B.Leg.stands_for c.read_one-2.new.leg b) (sym d.legs.second) (c.in-Ok-read_one.ensures.stands b m.b legs.second);
      };
    }

pub returns-in-Ok-write_whole-clause-first_moments : goal.returns-in-Ok-write_whole-clause-first_moments
returns-in-Ok-write_whole-clause-first_moments g c a b m legs =
    let block = c.args.block in
    let x = c.in-Given-second-2.other in
    let size = g.A.Leg.block_size c.read_one.new.leg in
    let long : length x ≡ size =
    sym (ap (λ (r : BlockRead). length (block_buffer r)) c.in-Given-second-2.is) ∙ c.in-Ok-read_one.ensures.buffer ∙ c.requires.other ∙ sym c.in-Ok.ensures.same.size_ in
    let mends = level_block-mends_first (format_of a b) m block block c.in-Differs.tags.stored c.in-Differs.tags.computed x
    (sym (c.in-Ok.ensures.read a m.a legs.first) ∙ ap (block_answer block) c.in-Differs.is)
    (sym (c.in-Ok-read_one.ensures.read b m.b legs.second) ∙ ap (block_answer block) c.in-Given-second-2.is) in
    IsLeftSince-mend (g.A.Leg.may_be_left a) m.a.history (suc (suc m.a.submitted)) block size x (changes_on_first (Model.level_block (format_of a b) m block).changes) long mends
    (c.in-Ok.ensures.moments a m.a legs.first)
    (c.write_whole.ensures.moments a (after_request m.a (Read block 1)) (c.in-Ok.ensures.stands a m.a legs.first))

pub returns-in-Err-write_whole-clause-first_moments : goal.returns-in-Err-write_whole-clause-first_moments
returns-in-Err-write_whole-clause-first_moments g c a b m legs =
    let block = c.args.block in
    let x = c.in-Given-second-2.other in
    let size = g.A.Leg.block_size c.read_one.new.leg in
    let long : length x ≡ size =
    sym (ap (λ (r : BlockRead). length (block_buffer r)) c.in-Given-second-2.is) ∙ c.in-Ok-read_one.ensures.buffer ∙ c.requires.other ∙ sym c.in-Ok.ensures.same.size_ in
    let mends = level_block-mends_first (format_of a b) m block block c.in-Differs.tags.stored c.in-Differs.tags.computed x
    (sym (c.in-Ok.ensures.read a m.a legs.first) ∙ ap (block_answer block) c.in-Differs.is)
    (sym (c.in-Ok-read_one.ensures.read b m.b legs.second) ∙ ap (block_answer block) c.in-Given-second-2.is) in
    IsLeftSince-mend (g.A.Leg.may_be_left a) m.a.history (suc (suc m.a.submitted)) block size x (changes_on_first (Model.level_block (format_of a b) m block).changes) long mends
    (c.in-Ok.ensures.moments a m.a legs.first)
    (c.write_whole.ensures.moments a (after_request m.a (Read block 1)) (c.in-Ok.ensures.stands a m.a legs.first))
