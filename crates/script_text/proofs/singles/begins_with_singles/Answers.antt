-- Where no bit is set no byte is the next one.
use Rattle.std.proofs.Common.{◌<◌, ◌∙◌, length, sym, eqb-true, rules}
use Rattle.script_text.proofs.LaneLemmas.{differ_where_none_set}
use Rattle.script_text.proofs.singles.begins_with_singles.Goals as goal

pub returns-then-bytes-gt-AT_ONCE-clause-singles : goal.returns-then-bytes-gt-AT_ONCE-clause-singles
returns-then-bytes-gt-AT_ONCE-clause-singles c none =
    let more : 8 < length c.args.bytes.now = search rules in
    differ_where_none_set c.args.bytes.now more (sym c.equal_to_next.ensures ∙ eqb-true c.equal_to_next.result 0 none)
