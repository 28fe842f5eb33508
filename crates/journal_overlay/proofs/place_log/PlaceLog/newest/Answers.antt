use Rattle.std.proofs.Common.{get_or, sym, ◌∙◌}
use Rattle.journal_overlay.specs.Slots.{slot_of, last_at}
use Rattle.journal_overlay.specs.declared.table.Slot.TheVariants.{Free}
use Rattle.journal_overlay.proofs.KeptLemmas.{newest_of-last}
use Rattle.journal_overlay.proofs.PlacesLemmas.{place_in-node}
use Rattle.journal_overlay.proofs.place_log.PlaceLog.newest.Goals as goal

pub returns : goal.returns
returns c =
    let log = c.args.self.now in let bh = log.blocks.homes in let bs = log.blocks.slots.items in let index = c.requires.is_log.index in
    let slot = slot_of bh bs c.args.block in
    c.place.ensures ∙ place_in-node (get_or bs slot Free) log.nodes.items (index.places slot)
    ∙ sym (newest_of-last c.args.block log.nodes.items (last_at bh bs c.args.block) (index.newest c.args.block))
