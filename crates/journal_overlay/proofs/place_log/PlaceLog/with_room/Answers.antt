use Rattle.std.proofs.Common.{[], length, refl, ap, arith}
use Rattle.journal_overlay.proofs.IndexLemmas.{IsIndex-free, IsIndex-same, TellsLatest-free, TellsLatest-same}
use Rattle.journal_overlay.proofs.place_log.PlaceLog.with_room.Goals as goal

pub returns-clause-whole : goal.returns-clause-whole
returns-clause-whole c =
    let blocks = c.in_ok-blocks.ensures in let sections = c.in_ok-sections.ensures in
    record {
      is_log = record {
        few = omega (arith, ap length c.in_ok-nodes.ensures.items);
        reserved = c.in_ok-nodes.ensures.capacity;
        small = omega (arith, c.requires);
        counted = rw c.in_ok-nodes.ensures.items refl;
        index = IsIndex-same c.args.room _ _ _ _ _ _ _ _ [] _ blocks.homes blocks.slots sections.homes sections.slots c.in_ok-nodes.ensures.items
            (IsIndex-free c.args.room _ _ _ _ (omega arith) refl (omega arith) refl);
      };
      latest = TellsLatest-same _ _ _ _ [] _ sections.homes sections.slots c.in_ok-nodes.ensures.items (TellsLatest-free _ _);
    }
