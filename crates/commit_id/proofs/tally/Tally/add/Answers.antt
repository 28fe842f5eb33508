use Rattle.std.proofs.Common.{◌+◌, ◌*◌, arith, sym, ◌∙◌, ap}
use Rattle.std.specs.Prelude.{nat_lt}
use Rattle.image_model.specs.Scan.{cell_number, found_in}
use Rattle.commit_id.specs.Grid.{as_grid}
use Rattle.commit_id.proofs.GridLemmas.{place_is, place_inside, cell_at-read}
use Rattle.commit_id.proofs.TallyLemmas.{unnumbered_tally, blanks_more-zero, blanks_more-other, bool_byte_low, counts_low, blanks_low}
use Rattle.commit_id.proofs.tally.Tally.add.Goals as goal

pub add_number-requires-clause-number : goal.add_number-requires-clause-number
add_number-requires-clause-number c =
    let here = cell_at-read c.args.grid.now c.args.section c.args.sector c.index.result.now c.requires.grid c.requires.section c.requires.sector c.index.ensures in
    c.requires.grid.numbers (c.args.section * c.args.grid.now.sectors + c.args.sector) c.in-Number.number (ap cell_number (here ∙ c.in-Number.is))

pub add_number-requires-clause-room : goal.add_number-requires-clause-room
add_number-requires-clause-room c =
    let inside = place_inside c.args.grid.now c.args.section c.args.sector c.requires.grid c.requires.section c.requires.sector in
    let low = counts_low _ _ c.in-Number.number c.args.self.now c.requires.next (add_number-requires-clause-number c) in
    omega arith

pub overflow_add-self : goal.overflow_add-self
overflow_add-self c =
    let inside = place_inside c.args.grid.now c.args.section c.args.sector c.requires.grid c.requires.section c.requires.sector in
    let low = blanks_low _ _ c.args.self.now c.requires.next in
    omega (arith, c.from.ensures, bool_byte_low (nat_lt (c.args.section * c.args.grid.now.sectors + c.args.sector) c.args.grid.now.bitmap))

pub returns-in-Number : goal.returns-in-Number
returns-in-Number c =
    let place = place_is (as_grid c.args.grid.now) c.args.section c.args.sector c.requires.grid c.requires.section c.requires.sector in
    let here = cell_at-read c.args.grid.now c.args.section c.args.sector c.index.result.now c.requires.grid c.requires.section c.requires.sector c.index.ensures in
    c.add_number.ensures (as_grid c.args.grid.now) (c.args.section * c.args.grid.now.sectors + c.args.sector) place (ap cell_number (here ∙ c.in-Number.is)) c.requires.next

pub returns-in-Zero : goal.returns-in-Zero
returns-in-Zero c =
    let grid = as_grid c.args.grid.now in
    let k = c.args.section * c.args.grid.now.sectors + c.args.sector in
    let place = place_is grid c.args.section c.args.sector c.requires.grid c.requires.section c.requires.sector in
    let here = cell_at-read c.args.grid.now c.args.section c.args.sector c.index.result.now c.requires.grid c.requires.section c.requires.sector c.index.ensures ∙ c.in-Zero.is in
    let borne = ap cell_number here in
    unnumbered_tally grid k _ c.args.self.now c.add_unnumbered.new.self borne c.requires.next c.add_unnumbered.ensures.others
    (ap (λ n. c.args.self.now.blanks + n) c.from.ensures ∙ blanks_more-zero grid k c.args.self.now.blanks here c.requires.next.blanks)
    (c.add_unnumbered.ensures.unnumbered grid k place borne (sym (ap found_in here)) c.requires.next.unnumbered)

pub returns-in-Other : goal.returns-in-Other
returns-in-Other c =
    let grid = as_grid c.args.grid.now in
    let k = c.args.section * c.args.grid.now.sectors + c.args.sector in
    let place = place_is grid c.args.section c.args.sector c.requires.grid c.requires.section c.requires.sector in
    let here = cell_at-read c.args.grid.now c.args.section c.args.sector c.index.result.now c.requires.grid c.requires.section c.requires.sector c.index.ensures ∙ c.in-Other.is in
    let borne = ap cell_number here in
    let after = c.add_unnumbered-in-Other in
    unnumbered_tally grid k _ c.args.self.now after.new.self borne c.requires.next after.ensures.others
    (blanks_more-other grid k c.in-Other.found c.args.self.now.blanks here c.requires.next.blanks)
    (after.ensures.unnumbered grid k place borne (sym (ap found_in here)) c.requires.next.unnumbered)
