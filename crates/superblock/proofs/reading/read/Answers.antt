use Rattle.std.proofs.Common.{Result, sym, ap, ◌∙◌, arith}
use Rattle.image_model.specs.Faults.{ok_unless}
use Rattle.image_model.specs.Superblock.{Superblock, superblock_faults}
use Rattle.image_model.specs.declared.super_fields.SuperFault.{SuperFault}
use Rattle.image_model.proofs.SuperblockLemmas.{superblock_of-no_magic, superblock_of-magic}
use Rattle.superblock.proofs.ReadingLemmas.{read_accepted, read_written_again}
use Rattle.superblock.proofs.reading.read.Goals as goal

pub returns-then-not-starts_with-clause-told : goal.returns-then-not-starts_with-clause-told
returns-then-not-starts_with-clause-told c =
    let missing = sym c.starts_with.ensures.value ∙ c.if-not-starts_with.true in
    sym (superblock_of-no_magic c.args.bytes.now missing)

pub returns : goal.returns
returns c =
    let bytes = c.args.bytes.now in
    let known = sym c.starts_with.ensures.value ∙ c.if-not-starts_with.false in
    let judged : Superblock → Result Superblock SuperFault = λ s. ok_unless (superblock_faults s) s in
    let told = c.accepted.ensures ∙ ap judged c.fields_in.ensures ∙ sym (superblock_of-magic bytes known) in
    record {
      told = told;
      accepted = read_accepted bytes c.accepted.result told;
      written_again = read_written_again bytes c.accepted.result (omega arith) c.fits-bytes told;
    }
