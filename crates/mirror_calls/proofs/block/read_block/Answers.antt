-- A read of a leg changes nothing, and a mend what its write does.
use Rattle.std.proofs.Common.{◌≡◌, suc, length, arith, ap, sym, ◌∙◌}
use Rattle.device_model.specs.Request.{Read}
use Rattle.mirror_model.specs.Calls as Model
use Rattle.mirror_model.specs.Mirror.{after_request, changes_on_first}
use Rattle.mirror_laws.proofs.BlockLemmas.{read_block-mends}
use Rattle.mirror_calls.specs.Given.{block_answer, block_buffer}
use Rattle.mirror_calls.specs.State.{format_of}
use Rattle.mirror_calls.specs.declared.leg_reads.BlockRead.{BlockRead}
use Rattle.mirror_calls.specs.declared.leg_reads.BlockRead.TheVariants.{Given, Differs}
use Rattle.mirror_calls.proofs.SinceLemmas.{IsLeftSince-none, IsLeftSince-mend}
use Rattle.mirror_calls.proofs.block.read_block.Goals as goal

pub returns-in-Err-clause-first_moments : goal.returns-in-Err-clause-first_moments
returns-in-Err-clause-first_moments g c a b m legs =
    IsLeftSince-none (g.A.Leg.may_be_left a) m.a.history (changes_on_first (Model.read_block (format_of a b) m c.args.block).changes)
    (c.in-Err.ensures.moments a m.a legs.first)

pub returns-in-Err-read_one-clause-first_moments : goal.returns-in-Err-read_one-clause-first_moments
returns-in-Err-read_one-clause-first_moments g c a b m legs =
    IsLeftSince-none (g.A.Leg.may_be_left a) m.a.history (changes_on_first (Model.read_block (format_of a b) m c.args.block).changes)
    (c.in-Ok-Differs.ensures.moments a m.a legs.first)

pub returns-in-Err-write_whole-clause-first_moments : goal.returns-in-Err-write_whole-clause-first_moments
returns-in-Err-write_whole-clause-first_moments g c a b m legs =
    let block = c.args.block in
    let x = c.in-Ok-Given-read_one.buffer in
    let size = g.A.Leg.block_size c.read_one.new.leg in
    let differs : c.in-Ok-Differs.field-0 ≡ Differs c.in-Ok-Differs.a c.in-Ok-Differs.buffer = grind (arith, c.in-Ok-Differs.field-0-is) in
    let gives : c.in-Ok-Given-read_one.field-0 ≡ Given x = grind (arith, c.in-Ok-Given-read_one.field-0-is) in
    let long : length x ≡ size =
    sym (ap (λ (r : BlockRead). length (block_buffer r)) gives) ∙ c.in-Ok-Given-read_one.ensures.buffer
    ∙ sym (ap (λ (r : BlockRead). length (block_buffer r)) differs) ∙ c.in-Ok-Differs.ensures.buffer ∙ c.requires.block.buffer_ ∙ sym c.in-Ok-Differs.ensures.same.size_ in
    let mends = read_block-mends (format_of a b) m block block c.in-Ok-Differs.a.stored c.in-Ok-Differs.a.computed x
    (sym (c.in-Ok-Differs.ensures.read a m.a legs.first) ∙ ap (block_answer block) differs)
    (sym (c.in-Ok-Given-read_one.ensures.read b m.b legs.second) ∙ ap (block_answer block) gives) in
    IsLeftSince-mend (g.A.Leg.may_be_left a) m.a.history (suc (suc m.a.submitted)) block size x (changes_on_first (Model.read_block (format_of a b) m block).changes) long mends
    (c.in-Ok-Differs.ensures.moments a m.a legs.first)
    (c.write_whole.ensures.moments a (after_request m.a (Read block 1)) (c.in-Ok-Differs.ensures.stands a m.a legs.first))

pub returns-in-Ok-clause-first_moments : goal.returns-in-Ok-clause-first_moments
returns-in-Ok-clause-first_moments g c a b m legs =
    let block = c.args.block in
    let x = c.in-Ok-Given-read_one.buffer in
    let size = g.A.Leg.block_size c.read_one.new.leg in
    let differs : c.in-Ok-Differs.field-0 ≡ Differs c.in-Ok-Differs.a c.in-Ok-Differs.buffer = grind (arith, c.in-Ok-Differs.field-0-is) in
    let gives : c.in-Ok-Given-read_one.field-0 ≡ Given x = grind (arith, c.in-Ok-Given-read_one.field-0-is) in
    let long : length x ≡ size =
    sym (ap (λ (r : BlockRead). length (block_buffer r)) gives) ∙ c.in-Ok-Given-read_one.ensures.buffer
    ∙ sym (ap (λ (r : BlockRead). length (block_buffer r)) differs) ∙ c.in-Ok-Differs.ensures.buffer ∙ c.requires.block.buffer_ ∙ sym c.in-Ok-Differs.ensures.same.size_ in
    let mends = read_block-mends (format_of a b) m block block c.in-Ok-Differs.a.stored c.in-Ok-Differs.a.computed x
    (sym (c.in-Ok-Differs.ensures.read a m.a legs.first) ∙ ap (block_answer block) differs)
    (sym (c.in-Ok-Given-read_one.ensures.read b m.b legs.second) ∙ ap (block_answer block) gives) in
    IsLeftSince-mend (g.A.Leg.may_be_left a) m.a.history (suc (suc m.a.submitted)) block size x (changes_on_first (Model.read_block (format_of a b) m block).changes) long mends
    (c.in-Ok-Differs.ensures.moments a m.a legs.first)
    (c.write_whole.ensures.moments a (after_request m.a (Read block 1)) (c.in-Ok-Differs.ensures.stands a m.a legs.first))
