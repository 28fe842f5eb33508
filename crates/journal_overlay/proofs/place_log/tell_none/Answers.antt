use Rattle.std.proofs.Common.{◌≡◌, ℕ, IsSome, Option, None, Some, refl}
use Rattle.journal_overlay.specs.Slots.{last_at}
use Rattle.journal_overlay.proofs.IndexLemmas.{IsTable-moved, IsIndex-same, TellsLatest-none, TellsLatest-same}
use Rattle.journal_overlay.proofs.SlotsLemmas.{slot_of-last}
use Rattle.journal_overlay.proofs.place_log.tell_none.Goals as goal

some_of : (o : Option ℕ) → IsSome o → (k : ℕ) × (o ≡ Some k)
some_of None e = absurd (cc e)
some_of (Some k) e = (k, refl)

pub set_last-requires-clause-room : goal.set_last-requires-clause-room
set_last-requires-clause-room c =
    let log = c.args.log.now in
    let some = some_of (last_at log.sections.homes log.sections.slots.items c.args.section) c.requires.told in
    (slot_of-last log.sections.homes log.sections.slots.items c.args.section some.0 some.1).0

pub returns-clause-whole : goal.returns-clause-whole
returns-clause-whole c =
    let log = c.args.log.now in let section = c.args.section in let whole = c.requires.whole in
    let sh = log.sections.homes in let ss = log.sections.slots.items in
    let some = some_of (last_at sh ss section) c.requires.told in
    let index = whole.is_log.index in
    record {
      is_log = record {
        few = whole.is_log.few;
        reserved = whole.is_log.reserved;
        small = whole.is_log.small;
        counted = whole.is_log.counted;
        index = IsIndex-same log.room log.blocks.homes _ log.blocks.slots.items _ sh _ _ _ log.nodes.items _ refl refl c.set_last.ensures.homes c.set_last.ensures.slots refl
            (record { block_table = index.block_table; section_table = IsTable-moved log.room _ sh ss section some.0 None some.1 index.section_table; linked = index.linked; newest = index.newest; places = index.places });
      };
      latest = TellsLatest-same sh _ _ _ log.nodes.items _ c.set_last.ensures.homes c.set_last.ensures.slots refl
          (TellsLatest-none sh ss log.nodes.items section some.0 log.room _ index.section_table some.1 whole.others whole.last_is);
    }
