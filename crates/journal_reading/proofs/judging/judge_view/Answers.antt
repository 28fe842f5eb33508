use Rattle.std.proofs.Common.{◌≡◌, ℕ, true, false, sym, ap, ◌∙◌, arith}
use Rattle.std.proofs.lemmas.Bool.{false≢true}
use Rattle.image_model.specs.Tag.{tag_of}
use Rattle.journal_reading.specs.Entries.{entry_with}
use Rattle.journal_reading.proofs.JudgingLemmas.{entry_fault-block, entry_fault-right, entry_fault-tag}
use Rattle.journal_reading.proofs.judging.judge_view.Goals as goal

pub returns-then-not-is_block_start : goal.returns-then-not-is_block_start
returns-then-not-is_block_start c =
    let fails : c.is_block_start.result ≡ false = first_of (cc, grind arith) in
    entry_fault-block c.args.maker.now.key c.args.maker.now.salt c.args.geometry.now c.args.place (entry_with c.args.block.now c.args.view.now)
    (sym c.is_block_start.ensures ∙ fails)

pub returns-then-matches : goal.returns-then-matches
returns-then-matches c =
    let starts : c.is_block_start.result ≡ true = first_of (cc, grind arith) in
    entry_fault-right c.args.maker.now.key c.args.maker.now.salt c.args.geometry.now c.args.place (entry_with c.args.block.now c.args.view.now)
    (sym c.is_block_start.ensures ∙ starts)
    (c.matches.ensures.0 c.if-matches.true ∙ ap (λ (size : ℕ). tag_of c.args.maker.now.key c.args.maker.now.salt size c.args.view.now.sector c.args.block.now) c.requires)

pub returns : goal.returns
returns c =
    let starts : c.is_block_start.result ≡ true = first_of (cc, grind arith) in
    entry_fault-tag c.args.maker.now.key c.args.maker.now.salt c.args.geometry.now c.args.place (entry_with c.args.block.now c.args.view.now)
    c.tag.result (sym c.is_block_start.ensures ∙ starts)
    (c.tag.ensures ∙ ap (λ (size : ℕ). tag_of c.args.maker.now.key c.args.maker.now.salt size c.args.view.now.sector c.args.block.now) c.requires)
    (λ same. false≢true (sym c.if-matches.false ∙ c.matches.ensures.1 (same ∙ c.tag.ensures)))
