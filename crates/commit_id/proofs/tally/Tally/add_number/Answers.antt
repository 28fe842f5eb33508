use Rattle.std.proofs.Common.{◌+◌, refl}
use Rattle.std.specs.Prelude.{slice_index, slice_set}
use Rattle.std.proofs.lemmas.Bool.{eq-eqb, ne_eqb}
use Rattle.commit_id.proofs.TallyLemmas.{number_added}
use Rattle.commit_id.proofs.tally.Tally.add_number.Goals as goal
use Rattle.commit_id.proofs.tally.Tally.add_number.Goals.{then-count-eq0, else-count-eq0}

pub returns : goal.returns
returns c =
    let old = c.args.self.now in
    let joined = c.if-count-eq0.self in
    let goes_on = number_added c.args.section c.args.sector c.args.number old
    (record {
      counts = slice_set joined.counts c.args.number (slice_index old.counts c.args.number + 1);
      firsts = joined.firsts;
      blanks = joined.blanks;
      unnumbered = joined.unnumbered;
    })
    c.requires.number in
    elim c.if-count-eq0.branch [
      | then-count-eq0 w ↦ goes_on (rw w.self-is refl) (rw (w.self-is, eq-eqb _ _ w.if-count-eq0.true) refl) (rw w.self-is refl) (rw w.self-is refl)
      | else-count-eq0 w ↦ goes_on (rw w.self-is refl) (rw (w.self-is, ne_eqb _ _ w.if-count-eq0.false) refl) (rw w.self-is refl) (rw w.self-is refl)
    ]
